-- The check finds just the first wrong line: what may come next are the ways in which an accepted trace goes on.
use Rattle.std.proofs.Common.{◌≡◌, ℕ, zero, suc, ◌+◌, ◌-◌, ◌<◌, ◌≤◌, Bool, true, false, List, [], ◌∷◌, ◌++◌, length, take, drop, map, refl, sym, ap, subst, ◌∙◌, arith, cond, Some, None, Option, inl, inr}
use Rattle.std.specs.Prelude.{◌⊎◌, bytes_eq, flat_map}
use Rattle.std.specs.List.{list_all, list_any}
use Rattle.std.proofs.lemmas.Bool.{false≢true}
use Rattle.std.proofs.lemmas.Bool.Decides.{nat_tests}
use Rattle.std.proofs.lemmas.List.{append-nil, take-append-drop}
use Rattle.ifdb_model.specs.Output.{text_of}
use Rattle.ifdb_wire.specs.Script as script
use Rattle.ifdb_wire.specs.Script.{ScriptLine, script_line}
use Rattle.ifdb_model.specs.Step.{Reader}
use Rattle.ifdb_model.specs.Run.{State, opening, Step, Told, run, replies}
use Rattle.ifdb_model.specs.Script.{lines_of, line_step, line_steps}
use Rattle.ifdb_trace.specs.Accepted.{asked_mark, told_mark, recorded_line, told_lines, answer_lines, unasked, Block, answered, lacking, line_in, steps_in, recorded, is_short, IsAccepted, IsFront, IsFault}
use Rattle.ifdb_trace.specs.Checking.{Due, ways, due_after, can_come, dues, behind_asked, next_told, behind_told, behind, is_told, is_over, fault_behind, first_dues}
use Rattle.ifdb_trace.specs.Laws.{FaultsStay, ChecksAreExact, FaultsAreExact}
use Rattle.ifdb_trace.proofs.Members.{In, From, flat_from, flat_to, Mapped, map_from, map_to, filter_from, filter_to, in_left}

-- ---- bytes

pub bytes_are : (xs ys : List ℕ) → bytes_eq xs ys ≡ true → xs ≡ ys
bytes_are [] [] h = refl
bytes_are [] (y ∷ ys) h = absurd (false≢true h)
bytes_are (x ∷ xs) [] h = absurd (false≢true h)
bytes_are (x ∷ xs) (y ∷ ys) h =
    let parts : (x ≡ y) × (bytes_eq xs ys ≡ true) = grind (arith, nat_tests) in
    let rest = bytes_are xs ys parts.1 in
    λ i. parts.0 i ∷ rest i

pub bytes_itself : (xs : List ℕ) → bytes_eq xs xs ≡ true
bytes_itself [] = refl
bytes_itself (x ∷ xs) = grind (arith, nat_tests, bytes_itself xs)

pub no_lines : (xs : List (List ℕ)) → list_all (λ _. false) xs ≡ true → xs ≡ []
no_lines [] h = refl
no_lines (x ∷ xs) h = absurd (false≢true (grind (arith, nat_tests)))

-- ---- blocks

record BlockOf (line : List ℕ) (way : List Step) : Type 0 where
  block : Block
  line_is : line_in block ≡ line
  steps_are : steps_in block ≡ way

way_block : (line : List ℕ) (s : ScriptLine) → script_line line ≡ s → (way : List Step) → In (ways (line_step s)) way → BlockOf line way
way_block line script.skips e way (inl i) = record { block = answered line; line_is = refl; steps_are = ap line_step e ∙ i }
way_block line script.skips e way (inr i) = absurd i
way_block line script.opens e way (inl i) = record { block = answered line; line_is = refl; steps_are = ap line_step e ∙ i }
way_block line script.opens e way (inr (inl i)) = record { block = lacking line; line_is = refl; steps_are = ap (λ s. map unasked (line_step s)) e ∙ i }
way_block line script.opens e way (inr (inr i)) = absurd i
way_block line (script.asks n r) e way (inl i) = record { block = answered line; line_is = refl; steps_are = ap line_step e ∙ i }
way_block line (script.asks n r) e way (inr (inl i)) = record { block = lacking line; line_is = refl; steps_are = ap (λ s. map unasked (line_step s)) e ∙ i }
way_block line (script.asks n r) e way (inr (inr i)) = absurd i
way_block line script.strays e way (inl i) = record { block = answered line; line_is = refl; steps_are = ap line_step e ∙ i }
way_block line script.strays e way (inr i) = absurd i
way_block line script.overlong e way (inl i) = record { block = answered line; line_is = refl; steps_are = ap line_step e ∙ i }
way_block line script.overlong e way (inr i) = absurd i

answered_way : (s : ScriptLine) → In (ways (line_step s)) (line_step s)
answered_way script.skips = inl refl
answered_way script.opens = inl refl
answered_way (script.asks n r) = inl refl
answered_way script.strays = inl refl
answered_way script.overlong = inl refl

lacking_way : (s : ScriptLine) → In (ways (line_step s)) (map unasked (line_step s))
lacking_way script.skips = inl refl
lacking_way script.opens = inr (inl refl)
lacking_way (script.asks n r) = inr (inl refl)
lacking_way script.strays = inl refl
lacking_way script.overlong = inl refl

block_way : (b : Block) → In (ways (line_steps (line_in b))) (steps_in b)
block_way (answered line) = answered_way (script_line line)
block_way (lacking line) = lacking_way (script_line line)

-- ---- one line

data Comes (read : Reader) (first : Due) (l : List ℕ) (d : Due) : Type 0 where
  as_asked : first.lines ≡ [] → (b : Block) → l ≡ asked_mark ++ line_in b → due_after read first.state (steps_in b) ≡ d → Comes read first l d
  as_told : first.lines ≡ l ∷ d.lines → first.state ≡ d.state → Comes read first l d

record Step1 (read : Reader) (l : List ℕ) (all : List Due) (d : Due) : Type 0 where
  first : Due
  has : In all first
  short : is_short l ≡ true
  comes : Comes read first l d

-- all lines of replies begin with their mark, and none is too long
record Good (d : Due) : Type 0 where
  marked : list_all (λ (t : List ℕ). bytes_eq (take 2 t) told_mark) d.lines ≡ true
  short : list_all is_short d.lines ≡ true

marked_each : (ts : List (List ℕ)) → list_all (λ (t : List ℕ). bytes_eq (take 2 t) told_mark) (map recorded_line ts) ≡ true
marked_each [] = refl
marked_each (t ∷ ts) = marked_each ts

pub all_join : {X : Type 0} (p : X → Bool) (xs ys : List X) → list_all p xs ≡ true → list_all p ys ≡ true → list_all p (xs ++ ys) ≡ true
all_join p [] ys h k = k
all_join p (x ∷ xs) ys h k = grind (arith, nat_tests, all_join p xs ys)

pub all_parts : {X : Type 0} (p : X → Bool) (xs ys : List X) → list_all p (xs ++ ys) ≡ true → (list_all p xs ≡ true) × (list_all p ys ≡ true)
all_parts p [] ys h = (refl, h)
all_parts p (x ∷ xs) ys h =
    let parts : (p x ≡ true) × (list_all p (xs ++ ys) ≡ true) = grind (arith, nat_tests) in
    let rest = all_parts p xs ys parts.1 in
    let one : list_all p (x ∷ xs) ≡ true = grind (arith, nat_tests) in
    (one, rest.1)

marked_all : (all : List Told) → list_all (λ (t : List ℕ). bytes_eq (take 2 t) told_mark) (answer_lines all) ≡ true
marked_all [] = refl
marked_all (t ∷ all) =
    all_join (λ (u : List ℕ). bytes_eq (take 2 u) told_mark) (told_lines t) (answer_lines all)
    (marked_each (lines_of (text_of t))) (marked_all all)

-- ---- what comes behind a line

module _ (read : Reader) where
  asked_from : (l : List ℕ) (first d : Due) → bytes_eq (take 2 l) asked_mark ≡ true → In (behind_asked read (drop 2 l) first) d → Comes read first l d × Good d
  asked_from l first d e h = by (list_all (λ _. false) first.lines) refl h where
    by : (b : Bool) → list_all (λ _. false) first.lines ≡ b → In (cond b (dues read first.state (line_steps (drop 2 l))) []) d → Comes read first l d × Good d
    by false k i = absurd i
    by true k i =
        let f = filter_from can_come (map (due_after read first.state) (ways (line_steps (drop 2 l)))) d i in
        let m = map_from (due_after read first.state) (ways (line_steps (drop 2 l))) d f.0 in
        let b = way_block (drop 2 l) (script_line (drop 2 l)) refl m.x m.has in
        let line : l ≡ asked_mark ++ line_in b.block = sym (take-append-drop 2 l) ∙ (λ j. bytes_are (take 2 l) asked_mark e j ++ sym b.line_is j) in (
          as_asked (no_lines first.lines k) b.block line (ap (due_after read first.state) b.steps_are ∙ m.is),
          record { marked = ap (λ (u : Due). list_all (λ (t : List ℕ). bytes_eq (take 2 t) told_mark) u.lines) (sym m.is) ∙ marked_all (replies read first.state m.x); short = f.1 },
        )

  told_from : (l : List ℕ) (st : State) (ts : List (List ℕ)) (d : Due) → Good (record { lines = ts; state = st }) → In (next_told l st ts) d
      → Comes read (record { lines = ts; state = st }) l d × Good d
  told_from l st [] d g h = absurd h
  told_from l st (t ∷ ts) d g h = by (bytes_eq t l) refl h where
    tail : Good (record { lines = ts; state = st })
    tail =
        let m = g.marked in
        let s = g.short in
        record { marked = grind (arith, nat_tests, m); short = grind (arith, nat_tests, s) }

    by : (b : Bool) → bytes_eq t l ≡ b → In (cond b (record { lines = ts; state = st } ∷ []) []) d → Comes read (record { lines = t ∷ ts; state = st }) l d × Good d
    by true e (inl i) = (as_told (λ j. bytes_are t l e j ∷ (i j).lines) (ap (λ (u : Due). u.state) i), subst Good i tail)
    by true e (inr i) = absurd i
    by false e i = absurd i

  behind_from : (l : List ℕ) (all : List Due) (d : Due) → ((u : Due) → In all u → Good u) → In (behind read l all) d → Step1 read l all d × Good d
  behind_from l all d good h = by (is_short l) (bytes_eq (take 2 l) asked_mark) (bytes_eq (take 2 l) told_mark) refl refl h where
    by : (a b c : Bool) → is_short l ≡ a → bytes_eq (take 2 l) asked_mark ≡ b
        → In (cond a (cond b (flat_map (behind_asked read (drop 2 l)) all) (cond c (flat_map (behind_told l) all) [])) []) d → Step1 read l all d × Good d
    by false b c e f i = absurd i
    by true true c e f i =
        let r = flat_from (behind_asked read (drop 2 l)) all d i in
        let k = asked_from l r.x d f r.gives in
        (record { first = r.x; has = r.has; short = e; comes = k.0 }, k.1)
    by true false true e f i =
        let r = flat_from (behind_told l) all d i in
        let k = told_from l r.x.state r.x.lines d (good r.x r.has) r.gives in
        (record { first = r.x; has = r.has; short = e; comes = k.0 }, k.1)
    by true false false e f i = absurd i

  -- ---- what comes behind some lines

  abbrev after_lines : List Due → List (List ℕ) → List Due
  after_lines all [] = all
  after_lines all (l ∷ ls) = after_lines (behind read l all) ls

  record Sound (all : List Due) (ls : List (List ℕ)) (d : Due) : Type 0 where
    first : Due
    has : In all first
    blocks : List Block
    lines_are : first.lines ++ recorded read first.state blocks ≡ ls ++ d.lines
    short : list_all is_short ls ≡ true
    good : Good d

  step_sound : (l : List ℕ) (ls : List (List ℕ)) (all : List Due) (d mid : Due) (blocks : List Block) → Step1 read l all mid
      → mid.lines ++ recorded read mid.state blocks ≡ ls ++ d.lines → list_all is_short ls ≡ true → Good d → Sound all (l ∷ ls) d
  step_sound l ls all d mid blocks s e h g = by s.comes where
    short_all : list_all is_short (l ∷ ls) ≡ true
    short_all = let one = s.short in grind (arith, nat_tests)

    by : Comes read s.first l mid → Sound all (l ∷ ls) d
    by (as_asked none b line is) = record {
      first = s.first;
      has = s.has;
      blocks = b ∷ blocks;
      lines_are = (λ i. none i ++ (sym line i ∷ ((is i).lines ++ recorded read (is i).state blocks))) ∙ ap (λ rest. l ∷ rest) e;
      short = short_all;
      good = g;
    }
    by (as_told lines state) = record {
      first = s.first;
      has = s.has;
      blocks = blocks;
      lines_are = (λ i. lines i ++ recorded read (state i) blocks) ∙ ap (λ rest. l ∷ rest) e;
      short = short_all;
      good = g;
    }

  sound : (ls : List (List ℕ)) (all : List Due) (d : Due) → ((u : Due) → In all u → Good u) → In (after_lines all ls) d → Sound all ls d
  sound [] all d good h = record { first = d; has = h; blocks = []; lines_are = append-nil d.lines; short = refl; good = good d h }
  sound (l ∷ ls) all d good h =
      let r = sound ls (behind read l all) d (λ u i. (behind_from l all u good i).1) h in
      step_sound l ls all d r.first r.blocks (behind_from l all r.first good r.has).0 r.lines_are r.short r.good

  -- ---- an accepted trace goes on so

  record Complete (all : List Due) (ls more : List (List ℕ)) : Type 0 where
    last : Due
    has : In (after_lines all ls) last
    blocks : List Block
    lines_are : last.lines ++ recorded read last.state blocks ≡ more

  heads : (x y : List ℕ) (xs ys : List (List ℕ)) → x ∷ xs ≡ y ∷ ys → (x ≡ y) × (xs ≡ ys)
  heads x y xs ys e = (ap (λ (zs : List (List ℕ)). Rattle.std.proofs.Common.get_or zs 0 x) e, ap (drop 1) e)

  told_to : (l : List ℕ) (all : List Due) (first : Due) (t : List ℕ) (ts : List (List ℕ)) → In all first → first.lines ≡ t ∷ ts → t ≡ l → is_short l ≡ true
      → bytes_eq (take 2 l) told_mark ≡ true → In (behind read l all) (record { lines = ts; state = first.state })
  told_to l all first t ts h e same s m = by (is_short l) (bytes_eq (take 2 l) asked_mark) (bytes_eq (take 2 l) told_mark) s not_asked m where
    mark : take 2 l ≡ told_mark
    mark = bytes_are (take 2 l) told_mark m

    not_asked : bytes_eq (take 2 l) asked_mark ≡ false
    not_asked = ap (λ k. bytes_eq k asked_mark) mark

    next : In (next_told l first.state first.lines) (record { lines = ts; state = first.state })
    next =
        let equal : bytes_eq t l ≡ true = ap (λ k. bytes_eq k l) same ∙ bytes_itself l in
        let here : In (next_told l first.state (t ∷ ts)) (record { lines = ts; state = first.state }) =
        let d : Due = record { lines = ts; state = first.state } in subst (λ b. In (cond b (d ∷ []) []) d) (sym equal) (inl refl) in
        subst (λ lines. In (next_told l first.state lines) (record { lines = ts; state = first.state })) (sym e) here

    by : (a b c : Bool) → a ≡ true → b ≡ false → c ≡ true
        → In (cond a (cond b (flat_map (behind_asked read (drop 2 l)) all) (cond c (flat_map (behind_told l) all) [])) []) (record { lines = ts; state = first.state })
    by true false true x y z = flat_to (behind_told l) all first (record { lines = ts; state = first.state }) h next
    by true false false x y z = absurd (false≢true z)
    by true true c x y z = absurd (false≢true (sym y))
    by false b c x y z = absurd (false≢true x)

  asked_to : (l : List ℕ) (all : List Due) (first : Due) (b : Block) → In all first → first.lines ≡ [] → asked_mark ++ line_in b ≡ l → is_short l ≡ true
      → can_come (due_after read first.state (steps_in b)) ≡ true → In (behind read l all) (due_after read first.state (steps_in b))
  asked_to l all first b h none same s can = by (is_short l) (bytes_eq (take 2 l) asked_mark) s asked where
    asked : bytes_eq (take 2 l) asked_mark ≡ true
    asked = ap (λ k. bytes_eq (take 2 k) asked_mark) (sym same)

    line : drop 2 l ≡ line_in b
    line = ap (drop 2) (sym same)

    next : In (behind_asked read (drop 2 l) first) (due_after read first.state (steps_in b))
    next =
        let here : In (dues read first.state (line_steps (line_in b))) (due_after read first.state (steps_in b)) =
        filter_to can_come (map (due_after read first.state) (ways (line_steps (line_in b)))) (due_after read first.state (steps_in b))
        (map_to (due_after read first.state) (ways (line_steps (line_in b))) (steps_in b) (block_way b)) can in
        subst (λ k. In (cond (list_all (λ _. false) k) (dues read first.state (line_steps (drop 2 l))) []) (due_after read first.state (steps_in b))) (sym none)
        (subst (λ k. In (dues read first.state (line_steps k)) (due_after read first.state (steps_in b))) (sym line) here)

    by : (a c : Bool) → a ≡ true → c ≡ true
        → In (cond a (cond c (flat_map (behind_asked read (drop 2 l)) all) (cond (bytes_eq (take 2 l) told_mark) (flat_map (behind_told l) all) [])) []) (due_after read first.state (steps_in b))
    by true true x y = flat_to (behind_asked read (drop 2 l)) all first (due_after read first.state (steps_in b)) h next
    by true false x y = absurd (false≢true y)
    by false c x y = absurd (false≢true x)

  complete : (ls : List (List ℕ)) (all : List Due) (first : Due) → In all first → list_all (λ (t : List ℕ). bytes_eq (take 2 t) told_mark) first.lines ≡ true → (blocks : List Block) (more : List (List ℕ))
      → first.lines ++ recorded read first.state blocks ≡ ls ++ more → list_all is_short (ls ++ more) ≡ true → Complete all ls more
  complete [] all first h m blocks more e s = record { last = first; has = h; blocks = blocks; lines_are = e }
  complete (l ∷ ls) all first h m blocks more e s =
      by (λ a f i k bs q. complete ls a f i k bs more q short.1) first.lines blocks refl m e where
        short : (is_short l ≡ true) × (list_all is_short (ls ++ more) ≡ true)
        short = grind (arith, nat_tests)

        by : ((a : List Due) (f : Due) → In a f → list_all (λ (t : List ℕ). bytes_eq (take 2 t) told_mark) f.lines ≡ true → (bs : List Block)
            → f.lines ++ recorded read f.state bs ≡ ls ++ more → Complete a ls more)
            → (lines : List (List ℕ)) (bs : List Block) → first.lines ≡ lines → list_all (λ (t : List ℕ). bytes_eq (take 2 t) told_mark) lines ≡ true
            → lines ++ recorded read first.state bs ≡ l ∷ (ls ++ more) → Complete all (l ∷ ls) more
        by rest [] [] n k q = cc
        by rest [] (b ∷ bs) n k q =
            let parts = heads (asked_mark ++ line_in b) l (answer_lines (replies read first.state (steps_in b)) ++ recorded read (run read first.state (steps_in b)) bs) (ls ++ more) q in
            let f = due_after read first.state (steps_in b) in
            let can = (all_parts is_short (answer_lines (replies read first.state (steps_in b))) (recorded read (run read first.state (steps_in b)) bs) (ap (list_all is_short) parts.1 ∙ short.1)).0 in
            let r = rest (behind read l all) f (asked_to l all first b h n parts.0 short.0 can) (marked_all (replies read first.state (steps_in b))) bs parts.1 in
            record { last = r.last; has = r.has; blocks = r.blocks; lines_are = r.lines_are }
        by rest (t ∷ ts) bs n k q =
            let parts = heads t l (ts ++ recorded read first.state bs) (ls ++ more) q in
            let marks : (bytes_eq (take 2 t) told_mark ≡ true) × (list_all (λ (u : List ℕ). bytes_eq (take 2 u) told_mark) ts ≡ true) = grind (arith, nat_tests) in
            let f : Due = record { lines = ts; state = first.state } in
            let r = rest (behind read l all) f (told_to l all first t ts h n parts.0 short.0 (ap (λ u. bytes_eq (take 2 u) told_mark) (sym parts.0) ∙ marks.0)) marks.1 bs parts.1 in
            record { last = r.last; has = r.has; blocks = r.blocks; lines_are = r.lines_are }

  -- ---- the first wrong line

  record Some1 (all : List Due) : Type 0 where
    due : Due
    has : In all due

  record FaultAt (all : List Due) (ls : List (List ℕ)) (i : ℕ) : Type 0 where
    before : (j : ℕ) → j < i → Some1 (after_lines all (take j ls))
    at : ((i ≤ length ls) × (after_lines all (take i ls) ≡ [])) ⊎ ((i ≡ length ls + 1) × (is_over (after_lines all ls) ≡ false))

  record Found (k : ℕ) (all : List Due) (ls : List (List ℕ)) (m : ℕ) : Type 0 where
    i : ℕ
    is : m ≡ k + i
    fault : FaultAt all ls i

  some_is : (a b : ℕ) → Some a ≡ Some b → b ≡ a
  some_is a b e = ap (λ o. Rattle.std.specs.Option.unwrap_or o a) (sym e)

  ends_at : (k : ℕ) (d : Due) (all : List Due) (m : ℕ) (b : Bool) → is_over (d ∷ all) ≡ b → cond b None (Some (k + 1)) ≡ Some m → Found k (d ∷ all) [] m
  ends_at k d all m true o e = cc
  ends_at k d all m false o e = record {
    i = 1;
    is = some_is (k + 1) m e;
    fault = record { before = λ j lt. record { due = d; has = subst (λ ls. In (after_lines (d ∷ all) ls) d) (sym (nil_take j)) (inl refl) }; at = inr (refl, o) };
  } where
    nil_take : (j : ℕ) → take {A = List ℕ} j [] ≡ []
    nil_take zero = refl
    nil_take (suc j) = refl

  fault_at : (k : ℕ) (all : List Due) (ls : List (List ℕ)) (m : ℕ) → fault_behind read k all ls ≡ Some m → Found k all ls m
  fault_at k [] ls m e = record { i = 0; is = some_is k m e ∙ omega arith; fault = record { before = λ j lt. absurd (omega (arith, lt)); at = inl (omega arith, refl) } }
  fault_at k (d ∷ all) [] m e = ends_at k d all m (is_over (d ∷ all)) refl e
  fault_at k (d ∷ all) (l ∷ ls) m e = later (fault_at (k + 1) (behind read l (d ∷ all)) ls m e) where
    later : Found (k + 1) (behind read l (d ∷ all)) ls m → Found k (d ∷ all) (l ∷ ls) m
    later r = record {
      i = suc r.i;
      is = omega (arith, r.is);
      fault = record { before = before; at = at r.fault.at };
    } where
      before : (j : ℕ) → j < suc r.i → Some1 (after_lines (d ∷ all) (take j (l ∷ ls)))
      before zero lt = record { due = d; has = inl refl }
      before (suc j) lt = let b = r.fault.before j (omega (arith, lt)) in record { due = b.due; has = b.has }

      at : ((r.i ≤ length ls) × (after_lines (behind read l (d ∷ all)) (take r.i ls) ≡ [])) ⊎ ((r.i ≡ length ls + 1) × (is_over (after_lines (behind read l (d ∷ all)) ls) ≡ false))
          → ((suc r.i ≤ length (l ∷ ls)) × (after_lines (d ∷ all) (take (suc r.i) (l ∷ ls)) ≡ [])) ⊎ ((suc r.i ≡ length (l ∷ ls) + 1) × (is_over (after_lines (d ∷ all) (l ∷ ls)) ≡ false))
      at (inl x) = inl (omega (arith, x.0), x.1)
      at (inr x) = inr (omega (arith, x.0), x.1)

  none_over : (k : ℕ) (all : List Due) (ls : List (List ℕ)) → fault_behind read k all ls ≡ None → is_over (after_lines all ls) ≡ true
  none_over k [] ls e = cc
  none_over k (d ∷ all) [] e = by (is_over (d ∷ all)) e where
    by : (b : Bool) → cond b None (Some (k + 1)) ≡ None → b ≡ true
    by true i = refl
    by false i = cc
  none_over k (d ∷ all) (l ∷ ls) e = none_over (k + 1) (behind read l (d ∷ all)) ls e

  record Over (all : List Due) : Type 0 where
    due : Due
    has : In all due
    none : due.lines ≡ []

  over_one : (all : List Due) → is_over all ≡ true → Over all
  over_one [] h = absurd (false≢true h)
  over_one (d ∷ all) h = by (list_all (λ _. false) d.lines) refl (over_one all) where
    by : (b : Bool) → list_all (λ _. false) d.lines ≡ b → (is_over all ≡ true → Over all) → Over (d ∷ all)
    by true e rest = record { due = d; has = inl refl; none = no_lines d.lines e }
    by false e rest = let r = rest (grind (arith, nat_tests)) in record { due = r.due; has = inr r.has; none = r.none }

  over_from : (all : List Due) (d : Due) → In all d → d.lines ≡ [] → is_over all ≡ true
  over_from [] d h e = absurd h
  over_from (x ∷ all) d (inl i) e =
      let one : list_all (λ _. false) x.lines ≡ true = ap (λ (u : Due). list_all (λ _. false) u.lines) i ∙ ap (list_all (λ _. false)) e in
      grind (arith, nat_tests)
  over_from (x ∷ all) d (inr h) e = let rest = over_from all d h e in grind (arith, nat_tests)

  -- ---- a whole trace

  abbrev first_due : Due
  first_due = record { lines = []; state = opening }

  first_good : (u : Due) → In (first_due ∷ []) u → Good u
  first_good u (inl e) = subst Good e (record { marked = refl; short = refl })
  first_good u (inr h) = absurd h

  starts : (f : Due) (blocks : List Block) → In (first_due ∷ []) f → recorded read opening blocks ≡ f.lines ++ recorded read f.state blocks
  starts f blocks (inl e) = λ i. (e i).lines ++ recorded read (e i).state blocks
  starts f blocks (inr h) = absurd h

  accepted_so : (ls more : List (List ℕ)) (d : Due) → In (after_lines (first_due ∷ []) ls) d → d.lines ≡ more → IsAccepted read (ls ++ more)
  accepted_so ls more d h e =
      let r = sound ls (first_due ∷ []) d first_good h in
      record {
        blocks = r.blocks;
        lines_are = starts r.first r.blocks r.has ∙ r.lines_are ∙ ap (λ k. ls ++ k) e;
        short = all_join is_short ls more r.short (ap (list_all is_short) (sym e) ∙ r.good.short);
      }

  nil_front : (xs ys : List (List ℕ)) → xs ++ ys ≡ [] → xs ≡ []
  nil_front [] ys e = refl
  nil_front (x ∷ xs) ys e = cc

  check_some : (ls : List (List ℕ)) (i : ℕ) → FaultAt (first_due ∷ []) ls i → IsFault read ls i
  check_some ls i f = record { before = λ j lt. let b = f.before j lt in (b.due.lines, accepted_so (take j ls) b.due.lines b.due b.has refl); at = at f.at } where
    at : ((i ≤ length ls) × (after_lines (first_due ∷ []) (take i ls) ≡ [])) ⊎ ((i ≡ length ls + 1) × (is_over (after_lines (first_due ∷ []) ls) ≡ false))
        → ((i ≤ length ls) × (IsFront read (take i ls) → ⊥)) ⊎ ((i ≡ length ls + 1) × (IsAccepted read ls → ⊥))
    at (inl x) = inl (
      x.0,
      λ front.
          let c = complete (take i ls) (first_due ∷ []) first_due (inl refl) refl front.1.blocks front.0 front.1.lines_are front.1.short in
          subst (λ all. In all c.last) x.1 c.has,
    )
    at (inr x) = inr (
      x.0,
      λ a.
          let c = complete ls (first_due ∷ []) first_due (inl refl) refl a.blocks [] (a.lines_are ∙ sym (append-nil ls)) (ap (list_all is_short) (append-nil ls) ∙ a.short) in
          false≢true (sym x.1 ∙ over_from (after_lines (first_due ∷ []) ls) c.last c.has (nil_front c.last.lines (recorded read c.last.state c.blocks) c.lines_are)),
    )

  pub check_none : (ls : List (List ℕ)) → fault_behind read 0 (first_due ∷ []) ls ≡ None → IsAccepted read ls
  check_none ls e =
      let o = over_one (after_lines (first_due ∷ []) ls) (none_over 0 (first_due ∷ []) ls e) in
      subst (IsAccepted read) (append-nil ls) (accepted_so ls [] o.due o.has o.none)

  pub check_fault : (ls : List (List ℕ)) (k : ℕ) → fault_behind read 0 (first_due ∷ []) ls ≡ Some k → IsFault read ls k
  check_fault ls k e =
      let r = fault_at 0 (first_due ∷ []) ls k e in
      let same : r.i ≡ k = omega (arith, r.is) in
      subst (IsFault read ls) same (check_some ls r.i r.fault)

  -- a wrong line is wrong whatever follows
  stays_wrong : (k : ℕ) (all : List Due) (ls more : List (List ℕ)) (m : ℕ) → fault_behind read k all ls ≡ Some m → m ≤ k + length ls → fault_behind read k all (ls ++ more) ≡ Some m
  stays_wrong k [] ls more m e le = e
  stays_wrong k (d ∷ all) [] more m e le = by (is_over (d ∷ all)) e where
    by : (b : Bool) → cond b None (Some (k + 1)) ≡ Some m → fault_behind read k (d ∷ all) more ≡ Some m
    by true i = cc
    by false i = absurd (omega (arith, le, some_is (k + 1) m i))
  stays_wrong k (d ∷ all) (l ∷ ls) more m e le = stays_wrong (k + 1) (behind read l (d ∷ all)) ls more m e (omega (arith, le))

pub faults_stay : FaultsStay
faults_stay read lines more k e le = stays_wrong read 0 first_dues lines more k e (omega (arith, le))

-- accepted lines, cut anywhere, are a front
accepted_front : (read : Reader) (lines : List (List ℕ)) (k : ℕ) → IsAccepted read lines → IsFront read (take k lines)
accepted_front read lines k a = (drop k lines, subst (IsAccepted read) (sym (take-append-drop k lines)) a)

-- no line before the first wrong one is wrong
not_before : (read : Reader) (lines : List (List ℕ)) (j k : ℕ) → IsFault read lines j → IsFault read lines k → j < k → ⊥
not_before read lines j k a b lt = elim a.at [
  | inl x ↦ x.1 (b.before j lt)
  | inr x ↦ elim b.at [ inl y ↦ omega (arith, lt, x.0, y.0) | inr y ↦ omega (arith, lt, x.0, y.0) ]
]

pub faults_are_exact : FaultsAreExact
faults_are_exact = record {
  one = λ read lines j k a b. same read lines j k a b (not_before read lines j k a b) (not_before read lines k j b a);
  none = λ read lines k a h. elim a.at [ inl x ↦ x.1 (accepted_front read lines k h) | inr x ↦ x.1 h ];
} where
  same : (read : Reader) (lines : List (List ℕ)) (j k : ℕ) → IsFault read lines j → IsFault read lines k → (j < k → ⊥) → (k < j → ⊥) → j ≡ k
  same read lines j k a b less more = by (Rattle.std.specs.Prelude.nat_lt j k) (Rattle.std.specs.Prelude.nat_lt k j) refl refl where
    by : (x y : Bool) → Rattle.std.specs.Prelude.nat_lt j k ≡ x → Rattle.std.specs.Prelude.nat_lt k j ≡ y → j ≡ k
    by true y e f = absurd (less (grind (arith, nat_tests)))
    by false true e f = absurd (more (grind (arith, nat_tests)))
    by false false e f = grind (arith, nat_tests)

pub checks_are_exact : ChecksAreExact
checks_are_exact = record {
  none = λ read bytes e. check_none read (lines_of bytes) e;
  some = λ read bytes k e. check_fault read (lines_of bytes) k e;
}
