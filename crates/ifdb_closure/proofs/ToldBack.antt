-- What a script with closures is told is a function of the bytes that it writes.
use Rattle.std.proofs.Common.{◌≡◌, ◌⊎◌, ℕ, zero, suc, ◌+◌, Bool, true, false, List, [], ◌∷◌, ◌++◌, length, refl, sym, ap, subst, ◌∙◌, cond, eqb, ◌&&◌, Some, None, Option, inl, inr}
use Rattle.std.specs.Prelude.{decimal, flat_map, is_some, not, slice_index_or}
use Rattle.std.specs.List.{list_all}
use Rattle.std.proofs.lemmas.Bool.{false≢true, and_parts}
use Rattle.std.proofs.lemmas.List.{append_assoc, append_cancel_left}
use Rattle.std.proofs.lemmas.List.Folds.{list_all-append}
use Rattle.ifdb_wire.specs.declared.fault.Fault.{Fault}
use Rattle.ifdb_wire.specs.declared.fault.Fault.TheVariants as fault
use Rattle.ifdb_wire.specs.declared.reply.Reply.{Reply}
use Rattle.ifdb_wire.specs.declared.reply.Reply.TheVariants as reply
use Rattle.ifdb_wire.specs.Script as script
use Rattle.ifdb_wire.specs.Script.{ScriptLine, script_line}
use Rattle.ifdb_wire.specs.Text.{line, reply_lines}
use Rattle.ifdb_catalog.proofs.Tests.{both_of}
use Rattle.ifdb_model.specs.Step.{is_empty}
use Rattle.ifdb_model.specs.Run.{State, Step, opens, asks, refused, long, stray, leaves, outcome_of, next, run, Told, tell}
use Rattle.ifdb_model.specs.Script.{lines_of, line_step, line_steps, steps_of}
use Rattle.ifdb_model.specs.Output.{is_memory, reads_memory, text_of, texts}
use Rattle.ifdb_laws.specs.Bytes.{is_line}
use Rattle.ifdb_laws.specs.Scripts.{none_reads_memory}
use Rattle.ifdb_laws.specs.StepLaws.{MemoryIsNeverTold}
use Rattle.ifdb_laws.proofs.ReadBack.{decimal_digits, split_space, full_is, first_line, more_lines, lines_are, refusals_read_back}
use Rattle.ifdb_db.specs.Reading.{read_line}
use Rattle.ifdb_framing.specs.Framing.{is_framed}
use Rattle.ifdb_framing.proofs.Outcomes.{refused_framed}
use Rattle.ifdb_closure.specs.Numbers.{are_numbers}
use Rattle.ifdb_closure.specs.Closures.{Closure, ClosureLine, plain, faulty, creates, calls, call_lines, is_refusal, is_within, memory_fault, Called, call_lacks, call_ends, call_goes, lacks_first, flags_behind, call_on, called_with, call_steps, asked_of, closure_named, or_none, World, start, seated, greeting_in, Turn, create_fault, call_fault, session_fault, creates_by, calls_by, asks_form, turn, after_turn}
use Rattle.ifdb_closure.specs.Forms.{closure_form}
use Rattle.ifdb_closure.specs.Lacking.{Memory, enough, lacks, lacks_at, lacks_only, call_cut, lacking_line, lacking_at, turn_with, told_with}
use Rattle.ifdb_closure.specs.Speaking.{speech}
use Rattle.ifdb_closure.proofs.Bounds.{calls_leave_sessions}
use Rattle.ifdb_closure.proofs.CallTurns.{StillSeated, called_seats}
use Rattle.ifdb_closure.proofs.Cuts.{cut_run}
use Rattle.ifdb_closure.proofs.Framed.{script_framed}
use Rattle.ifdb_closure.proofs.ScriptBounds.{Fit, start_fit, with_fit, after_fit, known_so, call_leaves}
use Rattle.ifdb_closure.proofs.Spared.{turn_spared}
use Rattle.ifdb_closure.proofs.SameTurns.{Near, Rises, Same, near_back, near_itself, near_on, turn_same}

-- ---- a reply that reads error 20 begins as no other does

-- lines up to the first newline
newline_split : (l m x y : List ℕ) → is_line l ≡ true → is_line m ≡ true → l ++ 10 ∷ x ≡ m ++ 10 ∷ y → l ≡ m
newline_split [] [] x y h k e = refl
newline_split [] (b ∷ m) x y h k e =
    let same : 10 ≡ b = cc in
    absurd (false≢true (ap (λ c. not (eqb c 10)) same ∙ (and_parts (not (eqb b 10)) (is_line m) k).0))
newline_split (a ∷ l) [] x y h k e =
    let same : 10 ≡ a = cc in
    absurd (false≢true (ap (λ c. not (eqb c 10)) same ∙ (and_parts (not (eqb a 10)) (is_line l) h).0))
newline_split (a ∷ l) (b ∷ m) x y h k e =
    let first : a ≡ b = cc in
    let more : l ++ 10 ∷ x ≡ m ++ 10 ∷ y = cc in
    let rest = newline_split l m x y (and_parts (not (eqb a 10)) (is_line l) h).1 (and_parts (not (eqb b 10)) (is_line m) k).1 more in
    λ i. first i ∷ rest i

-- a first byte that isn't E, which is 69
begins_so : (l : List ℕ) → eqb (slice_index_or l 0 0) 69 ≡ false → l ≡ first_line (reply.Refused fault.OutOfMemory) → ⊥
unfolding first_line
begins_so l h e = false≢true (sym h ∙ ap (λ x. eqb (slice_index_or x 0 0) 69) e)

first_apart : (r : Reply) → reads_memory r ≡ false → first_line r ≡ first_line (reply.Refused fault.OutOfMemory) → ⊥
unfolding first_line
first_apart reply.Done h e = begins_so (first_line reply.Done) refl e
first_apart (reply.Count n) h e = begins_so (first_line (reply.Count n)) refl e
first_apart reply.Opened h e = begins_so (first_line reply.Opened) refl e
first_apart (reply.Label names) h e = begins_so (first_line (reply.Label names)) refl e
first_apart (reply.Rows table) h e = begins_so (first_line (reply.Rows table)) refl e
first_apart (reply.Refused f) h e =
    let one : Told = record { number = 1; reply = reply.Refused f } in
    let other : Told = record { number = 1; reply = reply.Refused fault.OutOfMemory } in
    let same : texts (one ∷ []) ≡ texts (other ∷ []) = ap (λ l. flat_map (line (Some 1)) (l ∷ []) ++ []) e in
    let flags = refusals_read_back (one ∷ []) (other ∷ []) (both_of _ true (refused_framed f) refl) (both_of _ true (refused_framed fault.OutOfMemory) refl) same in
    let b : cond (is_memory f) (true ∷ []) (false ∷ []) ++ [] ≡ true ∷ [] = flags in
    false≢true (sym h ∙ told (is_memory f) b) where
      told : (b : Bool) → cond b (true ∷ []) (false ∷ []) ++ [] ≡ true ∷ [] → b ≡ true
      told true e = refl
      told false e = absurd (cc)

-- a reply's text begins with its number, a space, its first line and a newline
record Begins (t : Told) (more : List ℕ) : Type 0 where
  rest : List ℕ
  split : text_of t ++ more ≡ decimal t.number ++ 32 ∷ (first_line t.reply ++ 10 ∷ rest)

begins : (t : Told) (more : List ℕ) → Begins t more
begins t more =
    let behind = flat_map (line (Some t.number)) (more_lines t.reply) ++ more in
    let first = first_line t.reply in
    record {
      rest = behind;
      split = ap (λ ls. flat_map (line (Some t.number)) ls ++ more) (lines_are t.reply)
          ∙ append_assoc (line (Some t.number) first) (flat_map (line (Some t.number)) (more_lines t.reply)) more
          ∙ full_is t.number first behind
          ∙ append_assoc (decimal t.number) (32 ∷ first) (10 ∷ behind);
    }

first_is_line : (r : Reply) → list_all is_line (reply_lines r) ≡ true → is_line (first_line r) ≡ true
first_is_line r h = (and_parts (is_line (first_line r)) (list_all is_line (more_lines r)) (ap (list_all is_line) (sym (lines_are r)) ∙ h)).0

apart : (t u : Told) (xs ys : List ℕ) → is_framed t ≡ true → reads_memory t.reply ≡ false → u.reply ≡ reply.Refused fault.OutOfMemory → text_of t ++ xs ≡ text_of u ++ ys → ⊥
apart t u xs ys framed none full e =
    let a = begins t xs in
    let b = begins u ys in
    let parts = split_space (decimal t.number) (decimal u.number) (first_line t.reply ++ 10 ∷ a.rest) (first_line u.reply ++ 10 ∷ b.rest)
    (decimal_digits t.number) (decimal_digits u.number) (sym a.split ∙ e ∙ b.split) in
    let there : is_line (first_line u.reply) ≡ true = ap (λ r. is_line (first_line r)) full ∙ first_is_line (reply.Refused fault.OutOfMemory) (refused_framed fault.OutOfMemory) in
    first_apart t.reply none
    (newline_split (first_line t.reply) (first_line u.reply) a.rest b.rest (first_is_line t.reply framed) there parts.1 ∙ ap first_line full)

cancelled : (ts xs ys : List Told) → texts (ts ++ xs) ≡ texts (ts ++ ys) → texts xs ≡ texts ys
cancelled [] xs ys e = e
cancelled (t ∷ ts) xs ys e = cancelled ts xs ys (append_cancel_left (text_of t) (texts (ts ++ xs)) (texts (ts ++ ys)) e)

-- ---- a step, with whatever memory

-- a call that lacked memory is told so
lacked_told : (label : List ℕ) (h : ℕ) (st : State) (last : Reply) (flags : List Bool) (lines : List (List ℕ)) → (call_on speech label h st last flags lines).lacked ≡ true
    → (call_on speech label h st last flags lines).told ≡ memory_fault
lacked_told label h st last flags [] = by (lacks_first flags) where
  by : (b : Bool) → (cond b call_lacks (call_ends speech h st last)).lacked ≡ true → (cond b call_lacks (call_ends speech h st last)).told ≡ memory_fault
  by true e = refl
  by false e = absurd (false≢true e)
lacked_told label h st last flags (line ∷ lines) =
    let more = next read_line st (asks h line) in
    let r = (outcome_of read_line st h line).reply in
    by (lacks_first flags) (is_refusal r) (is_within label h more) r (call_on speech label h more r (flags_behind flags) lines) (lacked_told label h more r (flags_behind flags) lines) where
      by : (b c d : Bool) (r : Reply) (a : Called) → (a.lacked ≡ true → a.told ≡ memory_fault) → (cond b call_lacks (call_goes speech c d line r a)).lacked ≡ true
          → (cond b call_lacks (call_goes speech c d line r a)).told ≡ memory_fault
      by true c d r a rest e = refl
      by false true d r a rest e = absurd (false≢true e)
      by false false false r a rest e = absurd (false≢true e)
      by false false true r a rest e = rest e

-- one that didn't is the call with all its memory
unlacked : (label : List ℕ) (h : ℕ) (st : State) (last : Reply) (flags : List Bool) (lines : List (List ℕ)) → (call_on speech label h st last flags lines).lacked ≡ false
    → call_on speech label h st last flags lines ≡ call_on speech label h st last [] lines
unlacked label h st last flags [] = by (lacks_first flags) where
  by : (b : Bool) → (cond b call_lacks (call_ends speech h st last)).lacked ≡ false → cond b call_lacks (call_ends speech h st last) ≡ call_ends speech h st last
  by true e = absurd (false≢true (sym e))
  by false e = refl
unlacked label h st last flags (line ∷ lines) =
    let more = next read_line st (asks h line) in
    let r = (outcome_of read_line st h line).reply in
    by (lacks_first flags) (is_refusal r) (is_within label h more) r (call_on speech label h more r (flags_behind flags) lines) (call_on speech label h more r [] lines) (unlacked label h more r (flags_behind flags) lines) where
      by : (b c d : Bool) (r : Reply) (a all : Called) → (a.lacked ≡ false → a ≡ all) → (cond b call_lacks (call_goes speech c d line r a)).lacked ≡ false
          → cond b call_lacks (call_goes speech c d line r a) ≡ call_goes speech c d line r all
      by true c d r a all rest e = absurd (false≢true (sym e))
      by false true d r a all rest e = refl
      by false false false r a all rest e = refl
      by false false true r a all rest e = ap (call_goes speech false true line r) (rest e)

-- whom want of memory at a step is told to
abbrev lack_number : Step → ℕ
lack_number (asks n line) = n
lack_number _ = 0

-- it comes to what it comes to with all its memory; or it is told want of it, and changes nothing that the script's own sessions see
abbrev IsFull : World → Turn → Step → Type 0
IsFull w t step = Same w w t (turn speech w step)

-- the step takes memory
abbrev takes : Step → Bool
takes opens = true
takes (asks n line) = true
takes _ = false

record IsLacking (w : World) (t : Turn) (step : Step) : Type 0 where
  asked : takes step ≡ true
  told : t.told ≡ tell (lack_number step) memory_fault
  near : Near (after_turn speech w t) w

module _ (w : World) (g : Fit w) (rise : Rises w) where
  itself : Near w w
  itself = near_itself w rise

  full : (step : Step) → IsFull w (turn speech w step) step
  full step = turn_same w w itself step

  cut_came : (n : ℕ) (line name : List ℕ) → (refusal : Option Fault) → call_fault (is_some (closure_named w.closures name)) (session_fault (seated w n)) ≡ refusal → is_some refusal ≡ false
      → turn speech w (asks n line) ≡ calls_by speech w n (seated w n).label (or_none (closure_named w.closures name)) refusal → (i : ℕ)
      → IsFull w (call_cut speech w n (seated w n).label (or_none (closure_named w.closures name)) i) (asks n line)
      ⊎ IsLacking w (call_cut speech w n (seated w n).label (or_none (closure_named w.closures name)) i) (asks n line)
  cut_came n line name (Some f) why there whole i = absurd (false≢true (sym there))
  cut_came n line name None why there whole zero = inr (record { asked = refl; told = refl; near = itself })
  cut_came n line name None why there whole (suc i) = by (called_with speech w.state label c flags).lacked refl where
    label : List ℕ
    label = (seated w n).label

    c : Closure
    c = or_none (closure_named w.closures name)

    flags : List Bool
    flags = lacks_only i

    cut : Called
    cut = called_with speech w.state label c flags

    h : ℕ
    h = length w.state.sessions + 1

    opened : State
    opened = next read_line w.state opens

    t : Turn
    t = call_cut speech w n label c (suc i)

    -- its steps lead where those that were asked do
    state_is : run read_line w.state t.steps ≡ run read_line opened (asked_of h cut.asked)
    state_is = cut_run read_line h opened cut.asked cut.lacked

    seats_are : StillSeated w (run read_line opened (asked_of h cut.asked))
    seats_are = called_seats w rise cut.asked

    by : (b : Bool) → cut.lacked ≡ b → IsFull w t (asks n line) ⊎ IsLacking w t (asks n line)
    by true e =
        let told = lacked_told label h opened reply.Opened flags (call_lines w.state.log label c) e in
        let known = known_so (is_some (closure_named w.closures name)) (session_fault (seated w n)) (ap is_some why) in
        let log = call_leaves w g n name known flags (ap is_refusal told) in
        inr (record {
          asked = refl;
          told = ap (tell n) told;
          near = record {
            thins = λ k. record { log = log k; sessions = calls_leave_sessions speech w.state w.seats label c flags rise k };
            left = ap (λ (st : State). are_numbers 0 (length st.sessions) w.seats) state_is ∙ seats_are.rise;
            right = rise;
            greetings = refl;
            closures = refl;
          };
        })
    by false e =
        let all = unlacked label h opened reply.Opened flags (call_lines w.state.log label c) e in
        let later : run read_line w.state t.steps ≡ run read_line w.state (call_steps speech w.state label c) = state_is ∙ ap (λ (a : Called). run read_line opened (asked_of h a.asked)) all in
        let whole_told : t.told ≡ (turn speech w (asks n line)).told = ap (λ (a : Called). tell n a.told) all ∙ ap (λ (u : Turn). u.told) (sym whole) in
        let after : after_turn speech w t ≡ after_turn speech w (turn speech w (asks n line)) =
        (λ k. record { state = later k; seats = w.seats; greetings = w.greetings; closures = w.closures }) ∙ ap (after_turn speech w) (sym whole) in
        inl (record { told = whole_told; near = subst (λ x. Near x (after_turn speech w (turn speech w (asks n line)))) (sym after) (full (asks n line)).near })

  lacking_came : (n : ℕ) (line : List ℕ) (f : ClosureLine) → IsLacking w (lacking_line w n f) (asks n line)
  lacking_came n line plain = record { asked = refl; told = refl; near = itself }
  lacking_came n line (faulty f) = record { asked = refl; told = refl; near = itself }
  lacking_came n line (creates name statements) = record { asked = refl; told = refl; near = itself }
  lacking_came n line (calls name) = record { asked = refl; told = refl; near = itself }

  at_came : (i n : ℕ) (line : List ℕ) (f : ClosureLine) → closure_form line ≡ f → IsFull w (lacking_at speech w i n line f) (asks n line) ⊎ IsLacking w (lacking_at speech w i n line f) (asks n line)
  at_came i n line plain e = inl (full (asks n line))
  at_came i n line (faulty f) e = inl (full (asks n line))
  at_came i n line (creates name statements) e = inl (full (asks n line))
  at_came i n line (calls name) e = by (is_some refusal) refl where
    refusal : Option Fault
    refusal = call_fault (is_some (closure_named w.closures name)) (session_fault (seated w n))

    cut : Turn
    cut = call_cut speech w n (seated w n).label (or_none (closure_named w.closures name)) i

    by : (b : Bool) → is_some refusal ≡ b → IsFull w (cond b (turn speech w (asks n line)) cut) (asks n line) ⊎ IsLacking w (cond b (turn speech w (asks n line)) cut) (asks n line)
    by true k = inl (full (asks n line))
    by false k = cut_came n line name refusal refl k (ap (asks_form speech w n line) e) i

  came : (m : Memory) (step : Step) → IsFull w (turn_with speech w m step) step ⊎ IsLacking w (turn_with speech w m step) step
  came enough step = inl (full step)
  came lacks opens = inr (record { asked = refl; told = refl; near = itself })
  came lacks (asks n line) = inr (lacking_came n line (closure_form line))
  came lacks (refused n) = inl (full (refused n))
  came lacks long = inl (full long)
  came lacks stray = inl (full stray)
  came lacks (leaves n) = inl (full (leaves n))
  came (lacks_at i) opens = inl (full opens)
  came (lacks_at i) (asks n line) = at_came i n line (closure_form line) refl
  came (lacks_at i) (refused n) = inl (full (refused n))
  came (lacks_at i) long = inl (full long)
  came (lacks_at i) stray = inl (full stray)
  came (lacks_at i) (leaves n) = inl (full (leaves n))

-- ---- all steps

-- a step of a script
abbrev is_script : Step → Bool
is_script (refused n) = false
is_script _ = true

-- one reply is told of a step that takes memory
abbrev Single : List Told → Type 0
Single told = (t : Told) × (told ≡ t ∷ [])

form_single : (w : World) (n : ℕ) (line : List ℕ) (f : ClosureLine) → Single (asks_form speech w n line f).told
form_single w n line plain = (_, refl)
form_single w n line (faulty f) = (_, refl)
form_single w n line (creates name statements) = by (create_fault (is_empty (seated w n).label) (is_some (closure_named w.closures name)) (session_fault (seated w n))) where
  by : (o : Option Fault) → Single (creates_by w n (record { name = name; owner = greeting_in w.greetings n; statements = statements }) o).told
  by None = (_, refl)
  by (Some f) = (_, refl)
form_single w n line (calls name) = by (call_fault (is_some (closure_named w.closures name)) (session_fault (seated w n))) where
  by : (o : Option Fault) → Single (calls_by speech w n (seated w n).label (or_none (closure_named w.closures name)) o).told
  by None = (_, refl)
  by (Some f) = (_, refl)

turn_single : (w : World) (step : Step) → takes step ≡ true → Single (turn speech w step).told
turn_single w opens h = (_, refl)
turn_single w (asks n line) h = form_single w n line (closure_form line)
turn_single w (refused n) h = absurd (false≢true h)
turn_single w long h = absurd (false≢true h)
turn_single w stray h = absurd (false≢true h)
turn_single w (leaves n) h = absurd (false≢true h)

-- the first memory of some, and the others
abbrev head_of : List Memory → Memory
head_of [] = enough
head_of (m ∷ memory) = m

abbrev tail_of : List Memory → List Memory
tail_of [] = []
tail_of (m ∷ memory) = memory

told_split : (w : World) (memory : List Memory) (step : Step) (steps : List Step) → told_with speech w memory (step ∷ steps)
    ≡ (turn_with speech w (head_of memory) step).told ++ told_with speech (after_turn speech w (turn_with speech w (head_of memory) step)) (tail_of memory) steps
told_split w [] step steps = refl
told_split w (m ∷ memory) step steps = refl

framed_parts : (xs ys : List Told) → list_all is_framed (xs ++ ys) ≡ true → (list_all is_framed xs ≡ true) × (list_all is_framed ys ≡ true)
framed_parts xs ys h = and_parts (list_all is_framed xs) (list_all is_framed ys) (sym (list_all-append is_framed xs ys) ∙ h)

not_memory : (b : Bool) → (not b && true) ≡ true → b ≡ false
not_memory true h = absurd (false≢true h)
not_memory false h = refl

module _ (never : MemoryIsNeverTold) where
  step_spared : (w : World) (step : Step) → is_script step ≡ true → none_reads_memory (turn speech w step).told ≡ true
  step_spared w opens h = refl
  step_spared w (asks n line) h = turn_spared never w n line
  step_spared w (refused n) h = absurd (false≢true h)
  step_spared w long h = refl
  step_spared w stray h = refl
  step_spared w (leaves n) h = refl

  -- what is told with memory begins otherwise than want of it
  clash : (w : World) (step : Step) (full lacking xs ys : List Told) → is_script step ≡ true → takes step ≡ true → full ≡ (turn speech w step).told → list_all is_framed full ≡ true
      → lacking ≡ tell (lack_number step) memory_fault → texts (full ++ xs) ≡ texts (lacking ++ ys) → ⊥
  clash w step full lacking xs ys script asked is framed lack e =
      let one = turn_single w step asked in
      let all : full ≡ one.0 ∷ [] = is ∙ one.1 in
      let none = not_memory (reads_memory one.0.reply) (ap none_reads_memory (sym one.1) ∙ step_spared w step script) in
      let clean = (and_parts (is_framed one.0) true (ap (list_all is_framed) (sym all) ∙ framed)).0 in
      apart one.0 (record { number = lack_number step; reply = memory_fault }) (texts xs) (texts ys) clean none refl
      (ap (λ l. texts (l ++ xs)) (sym all) ∙ e ∙ ap (λ l. texts (l ++ ys)) lack)

  record SameStep (v w : World) (a b : Turn) : Type 0 where
    told : a.told ≡ b.told
    near : Near (after_turn speech v a) (after_turn speech w b)

  module _ (v w : World) (n : Near v w) (step : Step) (script : is_script step ≡ true) (a b : Turn) (xs ys : List Told)
      (framed_a : list_all is_framed a.told ≡ true) (framed_b : list_all is_framed b.told ≡ true) (e : texts (a.told ++ xs) ≡ texts (b.told ++ ys)) where
    same_step : IsFull v a step ⊎ IsLacking v a step → IsFull w b step ⊎ IsLacking w b step → SameStep v w a b
    same_step (inl x) (inl y) =
        let s = turn_same v w n step in
        record {
          told = x.told ∙ s.told ∙ sym y.told;
          near = near_on (after_turn speech v a) (after_turn speech v (turn speech v step)) (after_turn speech w b) x.near
              (near_on (after_turn speech v (turn speech v step)) (after_turn speech w (turn speech w step)) (after_turn speech w b) s.near
              (near_back (after_turn speech w b) (after_turn speech w (turn speech w step)) y.near));
        }
    same_step (inr x) (inr y) = record {
      told = x.told ∙ sym y.told;
      near = near_on (after_turn speech v a) v (after_turn speech w b) x.near (near_on v w (after_turn speech w b) n (near_back (after_turn speech w b) w y.near));
    }
    same_step (inl x) (inr y) = absurd (clash v step a.told b.told xs ys script y.asked x.told framed_a y.told e)
    same_step (inr x) (inl y) = absurd (clash w step b.told a.told ys xs script x.asked y.told framed_b x.told (sym e))

  same_told : (steps : List Step) → list_all is_script steps ≡ true → (v w : World) → Near v w → Fit v → Fit w → (ms ns : List Memory)
      → list_all is_framed (told_with speech v ms steps) ≡ true → list_all is_framed (told_with speech w ns steps) ≡ true
      → texts (told_with speech v ms steps) ≡ texts (told_with speech w ns steps) → told_with speech v ms steps ≡ told_with speech w ns steps
  same_told [] script v w n f g ms ns framed_v framed_w e = refl
  same_told (step ∷ steps) script v w n f g ms ns framed_v framed_w e =
      let parts = and_parts (is_script step) (list_all is_script steps) script in
      let a = turn_with speech v (head_of ms) step in
      let b = turn_with speech w (head_of ns) step in
      let v1 = after_turn speech v a in
      let w1 = after_turn speech w b in
      let xs = told_with speech v1 (tail_of ms) steps in
      let ys = told_with speech w1 (tail_of ns) steps in
      let this = framed_parts a.told xs (ap (list_all is_framed) (sym (told_split v ms step steps)) ∙ framed_v) in
      let other = framed_parts b.told ys (ap (list_all is_framed) (sym (told_split w ns step steps)) ∙ framed_w) in
      let whole : texts (a.told ++ xs) ≡ texts (b.told ++ ys) = ap texts (sym (told_split v ms step steps)) ∙ e ∙ ap texts (told_split w ns step steps) in
      let s = same_step v w n step parts.0 a b xs ys this.0 other.0 whole (came v f n.left (head_of ms) step) (came w g n.right (head_of ns) step) in
      let rest = same_told steps parts.1 v1 w1 s.near (after_fit v f a (with_fit v f (head_of ms) step)) (after_fit w g b (with_fit w g (head_of ns) step)) (tail_of ms) (tail_of ns) this.1 other.1
      (cancelled a.told xs ys (whole ∙ ap (λ t. texts (t ++ ys)) (sym s.told))) in
      told_split v ms step steps ∙ (λ i. s.told i ++ rest i) ∙ sym (told_split w ns step steps)

-- the steps of a script
line_is_script : (l : ScriptLine) → list_all is_script (line_step l) ≡ true
line_is_script script.skips = refl
line_is_script script.opens = refl
line_is_script (script.asks n request) = refl
line_is_script script.strays = refl
line_is_script script.overlong = refl

lines_are_script : (lines : List (List ℕ)) → list_all is_script (flat_map line_steps lines) ≡ true
lines_are_script [] = refl
lines_are_script (line ∷ lines) =
    list_all-append is_script (line_steps line) (flat_map line_steps lines)
    ∙ (λ i. line_is_script (script_line line) i && lines_are_script lines i)

pub bytes_tell : MemoryIsNeverTold → (input : List ℕ) (ms ns : List Memory)
    → texts (told_with speech start ms (steps_of input)) ≡ texts (told_with speech start ns (steps_of input)) → told_with speech start ms (steps_of input) ≡ told_with speech start ns (steps_of input)
bytes_tell never input ms ns e =
    same_told never (steps_of input) (lines_are_script (lines_of input)) start start (near_itself start refl) start_fit start_fit ms ns (script_framed input ms) (script_framed input ns) e
