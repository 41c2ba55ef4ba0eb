-- How a projection goes on by one line, and how it ends.
use Rattle.std.proofs.Common.{◌≡◌, ℕ, ◌+◌, ◌<◌, ◌≤◌, Bool, true, false, List, [], ◌∷◌, ◌++◌, length, take, drop, refl, sym, ap, subst, ◌∙◌, arith, cond, inl, inr}
use Rattle.std.specs.Prelude.{◌⊎◌, ◌==◌, Option, None, Some, Result, Ok, Err, OnErr, codes, filter, nat_lt, position, slice_index}
use Rattle.std.specs.Str.{bytes_eq}
use Rattle.std.proofs.lemmas.Bool.{false≢true}
use Rattle.std.specs.Io.KnownBytes.{Appends, Consumes, IsAtEnd}
use Rattle.std.proofs.KnownBytes.{Consumes-trans, Appends-trans, Consumes-nil, Appends-nil}
use Rattle.std.proofs.lemmas.Bool.Decides.{nat_tests}
use Rattle.std.proofs.lemmas.List.{append_assoc, append-nil, length-append, take-append-le}
use Rattle.std.proofs.Math.Seq.{take-append_seam, take-append-add}
use Rattle.ifdb_io.specs.Causes.{WritesShort}
use Rattle.ifdb_io.specs.Lines.{Reading, unskipped, after_newline, Gives, Ends, Exceeds, IsLine, IsLong}
use Rattle.ifdb_io.specs.declared.lines.TheConstants.{LONGEST_LINE}
use Rattle.ifdb_wire.specs.Script as script
use Rattle.ifdb_wire.specs.Script.{ScriptLine, asks_of, split_at, session_number, short_line, script_line, without_return}
use Rattle.ifdb_model.specs.Run.{State, Step, long, opening, run}
use Rattle.ifdb_model.specs.Script.{lines_of, line_step, line_steps}
use Rattle.ifdb_laws.specs.Bytes.{is_line}
use Rattle.ifdb_db.specs.Reading.{read_line}
use Rattle.ifdb_db.specs.Room.{Hall, StandsFor}
use Rattle.ifdb_trace.specs.Ended.{ended_lines, is_overlong, settled_lines}
use Rattle.ifdb_trace.specs.Projection.{overlong_line, projected_line, projected_from, projected}
use Rattle.ifdb_trace.specs.Projected.{ProjectedWhole, ProjectedFront, ProjectedCut, ProjectedPast, is_kept, IsStepped, IsProjected, IsCut}
use Rattle.ifdb_trace.proofs.Lines.{plain, lines_front, lines_last, lines_long, ended_front, ended_last, ended_long, before_newline}
use Rattle.ifdb_trace.proofs.Projecting.{long_steps}
use Rattle.ifdb_trace.proofs.Settled.{settled_front, settled_last, settled_long}

-- ---- two ways to see an input's lines

-- the lines of an input: those before a place, whatever comes behind it
record Splits (split : List ℕ → List (List ℕ)) : Type 0 where
  front : (text rest : List ℕ) → is_line text ≡ true → split (text ++ 10 ∷ rest) ≡ text ∷ split rest
  over : (text rest : List ℕ) → IsLong text → split (text ++ rest) ≡ (text ++ before_newline rest) ∷ split (after_newline rest)

all_split : Splits lines_of
all_split = record {
  front = lines_front;
  over = λ text rest h. let size = h.long in lines_long text rest (plain text h.plain) (omega (arith, size));
}

settled_split : Splits settled_lines
settled_split = record { front = settled_front; over = settled_long }

-- ---- the lines so far

-- what was shown, and what follows, are the projection of the whole
abbrev Covers : (List ℕ → List (List ℕ)) → List ℕ → Reading → State → List ℕ → List ℕ → Type 0
Covers split level reading st input done =
    (rest : List ℕ) → done ++ projected_from read_line level st (split (unskipped reading.skipping (reading.held ++ rest))) ≡ projected_from read_line level opening (split (input ++ rest))

-- The projection of the lines so far was written, and the room stands for the state behind them.
pub record Shown (level : List ℕ) (left_old left_new written_old written_new : Option (List ℕ)) (reading : Reading) (room : Hall) : Type 0 where
  pub input : List ℕ
  pub state : State
  pub done : List ℕ
  pub stands : StandsFor room state
  pub read : Consumes left_old left_new input
  pub taken : reading.taken ≡ length input
  pub wrote : Appends written_old written_new done
  pub whole : Covers lines_of level reading state input done
  pub settled : Covers settled_lines level reading state input done

pub shown_none : (level : List ℕ) (l w : Option (List ℕ)) (limit : ℕ) (over : Bool) (room : Hall) → StandsFor room opening
    → Shown level l l w w (record { text = []; held = []; skipping = false; taken = 0; limit = limit; over = over }) room
shown_none level l w limit over room stands = record {
  input = [];
  state = opening;
  done = [];
  stands = stands;
  read = Consumes-nil l;
  taken = refl;
  wrote = Appends-nil w;
  whole = λ rest. refl;
  settled = λ rest. refl;
}

-- one line's projection more
covers_on : (split : List ℕ → List (List ℕ)) (level : List ℕ) (mid last : Reading) (old new : State) (input got done out : List ℕ) (line : List ℕ → List ℕ)
    → Covers split level mid old input done
    → ((rest : List ℕ) → split (unskipped mid.skipping (mid.held ++ (got ++ rest))) ≡ line rest ∷ split (unskipped last.skipping (last.held ++ rest)))
    → ((rest : List ℕ) → projected_line level old (line rest) (line_steps (line rest)) ≡ out) → ((rest : List ℕ) → run read_line old (line_steps (line rest)) ≡ new)
    → Covers split level last new (input ++ got) (done ++ out)
covers_on split level mid last old new input got done out line covers first shows moves rest =
    append_assoc done out (projected_from read_line level new (split (unskipped last.skipping (last.held ++ rest))))
    ∙ ap (λ b. done ++ b) (λ i. sym (shows rest) i ++ projected_from read_line level (sym (moves rest) i) (split (unskipped last.skipping (last.held ++ rest))))
    ∙ ap (λ ls. done ++ projected_from read_line level old ls) (sym (first rest))
    ∙ covers (got ++ rest)
    ∙ ap (λ b. projected_from read_line level opening (split b)) (sym (append_assoc input got rest))

-- ---- one line

is_over : ScriptLine → Bool
is_over script.overlong = true
is_over _ = false

asks_never : (n : Option ℕ) (request : List ℕ) → is_over (asks_of n request) ≡ false
unfolding is_over
asks_never None request = refl
asks_never (Some n) request = refl

split_never : (line : List ℕ) (at : Option ℕ) → is_over (split_at line at) ≡ false
split_never line None = asks_never (session_number line) []
split_never line (Some at) = asks_never (session_number (take at line)) (drop (at + 1) line)

-- a line that is short enough is no long step
short_never : (line : List ℕ) → is_over (short_line line) ≡ false
unfolding is_over
short_never line = by (length line == 0) (slice_index line 0 == 35) (bytes_eq line (codes "OPEN")) where
  by : (a b c : Bool)
      → is_over (cond a script.skips (cond b script.skips (cond c script.opens (split_at line (position (λ byte. byte == 32) line))))) ≡ false
  by true b c = refl
  by false true c = refl
  by false false true = refl
  by false false false = split_never line (position (λ byte. byte == 32) line)

never_over : (line : List ℕ) → length line ≤ 65535 → is_over (script_line line) ≡ false
never_over line le =
    let short : nat_lt LONGEST_LINE (length line) ≡ false = grind (arith, nat_tests) in
    rw short (short_never (without_return line))

-- a line whose step is asked inside is written as it is
shown_by : (level : List ℕ) (st : State) (line : List ℕ) (s : ScriptLine) → is_over s ≡ false → is_kept level st (line_step s) ≡ true
    → projected_line level st line (line_step s) ≡ line ++ 10 ∷ []
unfolding is_over
shown_by level st line script.skips o h = absurd (false≢true h)
shown_by level st line script.opens o h = refl
shown_by level st line (script.asks n request) o h = rw h refl
shown_by level st line script.strays o h = refl
shown_by level st line script.overlong o h = absurd (false≢true (sym o))

-- and another one isn't
hidden_by : (level : List ℕ) (st : State) (line : List ℕ) (steps : List Step) → is_kept level st steps ≡ false → projected_line level st line steps ≡ []
hidden_by level st line [] h = refl
hidden_by level st line (x ∷ steps) h = rw h refl

module _ (level : List ℕ) (old new : Hall) (line : List ℕ) (w0 w1 : Option (List ℕ)) where
  as_it_is : length line ≤ 65535 → IsStepped level old new (line_steps line) true → (st : State) → StandsFor old st
      → projected_line level st line (line_steps line) ≡ line ++ 10 ∷ []
  as_it_is le s st w = shown_by level st line (script_line line) (never_over line le) (sym (s.inside_is st w))

  pub step_shown : length line ≤ 65535 → IsStepped level old new (line_steps line) true → Appends w0 w1 (line ++ 10 ∷ []) → IsProjected level old new line w0 w1
  step_shown le s wrote = record { stands = s.stands; wrote = λ st w. subst (Appends w0 w1) (sym (as_it_is le s st w)) wrote }

  pub step_cut : length line ≤ 65535 → IsStepped level old new (line_steps line) true → WritesShort w0 w1 (line ++ 10 ∷ []) → IsCut level old line w0 w1
  step_cut le s cut = λ st w. subst (WritesShort w0 w1) (sym (as_it_is le s st w)) cut

  pub step_hidden : IsStepped level old new (line_steps line) false → IsProjected level old new line w0 w0
  step_hidden s = record {
    stands = s.stands;
    wrote = λ st w. subst (Appends w0 w0) (sym (hidden_by level st line (line_steps line) (sym (s.inside_is st w)))) (Appends-nil w0);
  }

-- ---- fronts

cut_by : (limit : ℕ) (level : List ℕ) (l0 l2 w0 w2 : Option (List ℕ)) (input done out more : List ℕ) (n : ℕ) → n < length out → Consumes l0 l2 input → length input ≤ limit
    → Appends w0 w2 (done ++ take n out) → (done ++ out) ++ more ≡ projected read_line level input → ProjectedCut limit level l0 l2 w0 w2
cut_by limit level l0 l2 w0 w2 input done out more n short read within wrote same = record {
  input = input;
  n = length done + n;
  read = read;
  within = within;
  wrote = subst (Appends w0 w2) (sym front) wrote;
} where
  front : take (length done + n) (projected read_line level input) ≡ done ++ take n out
  front =
      ap (take (length done + n)) (sym same ∙ append_assoc done out more) ∙ take-append-add done (out ++ more) n
      ∙ ap (λ b. done ++ b) (take-append-le n out more (omega (arith, short)))

lacks_by : (limit : ℕ) (level : List ℕ) (l0 l2 w0 w1 : Option (List ℕ)) (input done more : List ℕ) → Consumes l0 l2 input → length input ≤ limit
    → Appends w0 w1 done → done ++ more ≡ projected read_line level input → ProjectedCut limit level l0 l2 w0 w1
lacks_by limit level l0 l2 w0 w1 input done more read within wrote same = record {
  input = input;
  n = length done;
  read = read;
  within = within;
  wrote = subst (Appends w0 w1) (sym (ap (take (length done)) (sym same) ∙ take-append_seam done more)) wrote;
}

pub on_err : {T E : Type 0} {P Q : Type 0} (r : Result T E) → (P → Q) → OnErr r P → OnErr r Q
on_err (Ok x) f p = tt
on_err (Err e) f p = f p

-- nothing was read yet
pub lacks_none : (limit : ℕ) (level : List ℕ) (l w : Option (List ℕ)) → ProjectedCut limit level l l w w
lacks_none limit level l w = record { input = []; n = 0; read = Consumes-nil l; within = omega arith; wrote = Appends-nil w }

-- ---- one line more, and the end

module _ (limit : ℕ) (level : List ℕ) (l0 l1 l2 w0 w1 : Option (List ℕ)) (mid last : Reading) (room : Hall) (s : Shown level l0 l1 w0 w1 mid room) where
  taken_on : (got : List ℕ) → last.taken ≡ mid.taken + length got → last.taken ≡ length (s.input ++ got)
  taken_on got count = omega (arith, count, s.taken, length-append s.input got)

  -- a line came with its newline
  module _ (g : Gives mid last l1 l2 (last.text ++ 10 ∷ [])) (line : IsLine last.text) (kept : last.skipping ≡ false) where
    abbrev out : List ℕ
    out = projected_line level s.state last.text (line_steps last.text)

    first : (split : List ℕ → List (List ℕ)) → Splits split → (rest : List ℕ)
        → split (unskipped mid.skipping (mid.held ++ (g.got ++ rest))) ≡ last.text ∷ split (unskipped last.skipping (last.held ++ rest))
    first split splits rest =
        ap split (g.same rest ∙ append_assoc last.text (10 ∷ []) (last.held ++ rest)) ∙ splits.front last.text (last.held ++ rest) (plain last.text line.plain)
        ∙ ap (λ skips. last.text ∷ split (unskipped skips (last.held ++ rest))) (sym kept)

    covers : (split : List ℕ → List (List ℕ)) → Splits split → Covers split level mid s.state s.input s.done
        → Covers split level last (run read_line s.state (line_steps last.text)) (s.input ++ g.got) (s.done ++ out)
    covers split splits c =
        covers_on split level mid last s.state (run read_line s.state (line_steps last.text)) s.input g.got s.done (projected_line level s.state last.text (line_steps last.text)) (λ rest. last.text) c
        (first split splits) (λ rest. refl) (λ rest. refl)

    pub shown_line : (w2 : Option (List ℕ)) (new : Hall) → IsProjected level room new last.text w1 w2 → Shown level l0 l2 w0 w2 last new
    shown_line w2 new p = record {
      input = s.input ++ g.got;
      state = run read_line s.state (line_steps last.text);
      done = s.done ++ out;
      stands = p.stands s.state s.stands;
      read = Consumes-trans _ _ _ _ _ s.read g.consumed;
      taken = taken_on g.got g.count;
      wrote = Appends-trans _ _ _ _ _ s.wrote (p.wrote s.state s.stands);
      whole = covers lines_of all_split s.whole;
      settled = covers settled_lines settled_split s.settled;
    }

    -- its projection was cut
    pub cut_line : (w2 : Option (List ℕ)) → last.taken ≤ limit → IsCut level room last.text w1 w2 → ProjectedCut limit level l0 l2 w0 w2
    cut_line w2 within cut =
        let short = cut s.state s.stands in
        cut_by limit level l0 l2 w0 w2 (s.input ++ g.got) s.done out (projected_from read_line level (run read_line s.state (line_steps last.text)) (lines_of (unskipped last.skipping (last.held ++ []))))
        short.n short.short (Consumes-trans _ _ _ _ _ s.read g.consumed) (omega (arith, within, taken_on g.got g.count)) (Appends-trans _ _ _ _ _ s.wrote short.written)
        (covers lines_of all_split s.whole [] ∙ ap (projected read_line level) (append-nil (s.input ++ g.got)))

    -- or there was no memory for its step
    pub lacks_line : last.taken ≤ limit → ProjectedCut limit level l0 l2 w0 w1
    lacks_line within =
        lacks_by limit level l0 l2 w0 w1 (s.input ++ g.got) s.done (out ++ projected_from read_line level (run read_line s.state (line_steps last.text)) (lines_of (unskipped last.skipping (last.held ++ []))))
        (Consumes-trans _ _ _ _ _ s.read g.consumed) (omega (arith, within, taken_on g.got g.count)) s.wrote
        (sym (append_assoc s.done out _) ∙ covers lines_of all_split s.whole [] ∙ ap (projected read_line level) (append-nil (s.input ++ g.got)))

  -- the front of a line came that is too long
  module _ (g : Gives mid last l1 l2 last.text) (over : IsLong last.text) (skips : last.skipping ≡ true) where
    abbrev line : List ℕ → List ℕ
    line rest = last.text ++ before_newline (last.held ++ rest)

    steps : (rest : List ℕ) → line_steps (line rest) ≡ long ∷ []
    steps rest =
        let size = over.long in
        long_steps (last.text ++ before_newline (last.held ++ rest)) (omega (arith, size, length-append last.text (before_newline (last.held ++ rest))))

    covers_over : (split : List ℕ → List (List ℕ)) → Splits split → Covers split level mid s.state s.input s.done
        → Covers split level last s.state (s.input ++ g.got) (s.done ++ (overlong_line ++ 10 ∷ []))
    covers_over split splits c =
        covers_on split level mid last s.state s.state s.input g.got s.done (overlong_line ++ 10 ∷ []) line c
        (λ rest. ap split (g.same rest) ∙ splits.over last.text (last.held ++ rest) over ∙ ap (λ b. line rest ∷ split (unskipped b (last.held ++ rest))) (sym skips))
        (λ rest. ap (projected_line level s.state (line rest)) (steps rest)) (λ rest. ap (run read_line s.state) (steps rest))

    pub shown_over : (w2 : Option (List ℕ)) → Appends w1 w2 (overlong_line ++ 10 ∷ []) → Shown level l0 l2 w0 w2 last room
    shown_over w2 wrote = record {
      input = s.input ++ g.got;
      state = s.state;
      done = s.done ++ (overlong_line ++ 10 ∷ []);
      stands = s.stands;
      read = Consumes-trans _ _ _ _ _ s.read g.consumed;
      taken = taken_on g.got g.count;
      wrote = Appends-trans _ _ _ _ _ s.wrote wrote;
      whole = covers_over lines_of all_split s.whole;
      settled = covers_over settled_lines settled_split s.settled;
    }

    pub cut_over : (w2 : Option (List ℕ)) → last.taken ≤ limit → WritesShort w1 w2 (overlong_line ++ 10 ∷ []) → ProjectedCut limit level l0 l2 w0 w2
    cut_over w2 within short =
        cut_by limit level l0 l2 w0 w2 (s.input ++ g.got) s.done (overlong_line ++ 10 ∷ [])
        (projected_from read_line level s.state (lines_of (unskipped last.skipping (last.held ++ [])))) short.n short.short
        (Consumes-trans _ _ _ _ _ s.read g.consumed) (omega (arith, within, taken_on g.got g.count)) (Appends-trans _ _ _ _ _ s.wrote short.written)
        (covers_over lines_of all_split s.whole [] ∙ ap (projected read_line level) (append-nil (s.input ++ g.got)))

  -- nothing more came, of which lines are made
  module _ (e : Ends mid last l1 l2) where
    ends_with : (split : List ℕ → List (List ℕ)) → Covers split level mid s.state s.input s.done
        → s.done ++ projected_from read_line level s.state (split last.text) ≡ projected_from read_line level opening (split (s.input ++ e.got))
    ends_with split c = ap (λ b. s.done ++ projected_from read_line level s.state (split b)) (sym e.all) ∙ c e.got

    read_all : Consumes l0 l2 (s.input ++ e.got)
    read_all = Consumes-trans _ _ _ _ _ s.read e.consumed

    -- the input has ended
    pub shown_end : last.taken ≤ limit → last.text ≡ [] → IsAtEnd l2 → ProjectedWhole limit level l0 l2 w0 w1
    shown_end within none end = record {
      input = s.input ++ e.got;
      read = read_all;
      ended = end;
      within = omega (arith, within, taken_on e.got e.count);
      wrote = subst (Appends w0 w1) (sym (append-nil s.done) ∙ ap (λ b. s.done ++ projected_from read_line level s.state (lines_of b)) (sym none) ∙ ends_with lines_of s.whole) s.wrote;
    }

    -- the source failed
    pub shown_read : last.taken ≤ limit → ProjectedFront (λ n. n ≤ limit) level [] l0 l2 w0 w1
    shown_read within = record {
      input = s.input ++ e.got;
      read = subst (Consumes l0 l2) (sym (append-nil (s.input ++ e.got))) read_all;
      size = omega (arith, within, taken_on e.got e.count);
      wrote = subst (Appends w0 w1) (sym (append-nil s.done) ∙ ap (λ ls. s.done ++ projected_from read_line level s.state ls) (sym (settled_last last.text e.line)) ∙ ends_with settled_lines s.settled) s.wrote;
    }

    -- a last line without a newline came
    module _ (some : 0 < length last.text) where
      abbrev last_out : List ℕ
      last_out = projected_line level s.state last.text (line_steps last.text)

      last_is : s.done ++ last_out ≡ projected read_line level (s.input ++ e.got)
      last_is =
          ap (λ b. s.done ++ b) (sym (append-nil (projected_line level s.state last.text (line_steps last.text))))
          ∙ ap (λ ls. s.done ++ projected_from read_line level s.state ls) (sym (lines_last last.text (plain last.text e.line.plain) some)) ∙ ends_with lines_of s.whole

      pub shown_rest : (w2 : Option (List ℕ)) (new : Hall) → last.taken ≤ limit → IsAtEnd l2 → IsProjected level room new last.text w1 w2 → ProjectedWhole limit level l0 l2 w0 w2
      shown_rest w2 new within end p = record {
        input = s.input ++ e.got;
        read = read_all;
        ended = end;
        within = omega (arith, within, taken_on e.got e.count);
        wrote = subst (Appends w0 w2) last_is (Appends-trans _ _ _ _ _ s.wrote (p.wrote s.state s.stands));
      }

      pub cut_rest : (w2 : Option (List ℕ)) → last.taken ≤ limit → IsCut level room last.text w1 w2 → ProjectedCut limit level l0 l2 w0 w2
      cut_rest w2 within cut =
          let short = cut s.state s.stands in
          cut_by limit level l0 l2 w0 w2 (s.input ++ e.got) s.done last_out [] short.n short.short read_all (omega (arith, within, taken_on e.got e.count))
          (Appends-trans _ _ _ _ _ s.wrote short.written) (append-nil (s.done ++ last_out) ∙ last_is)

      pub lacks_rest : last.taken ≤ limit → ProjectedCut limit level l0 l2 w0 w1
      lacks_rest within = lacks_by limit level l0 l2 w0 w1 (s.input ++ e.got) s.done last_out read_all (omega (arith, within, taken_on e.got e.count)) s.wrote last_is

  -- a byte more than the limit came
  pub shown_past : (e : Exceeds mid last l1 l2) → last.limit ≡ limit → ProjectedPast limit level l0 l2 w0 w1
  shown_past e same = (
    e.last,
    record {
      input = s.input ++ e.got;
      read = subst (Consumes l0 l2) (sym (append_assoc s.input e.got (e.last ∷ []))) (Consumes-trans _ _ _ _ _ s.read e.consumed);
      size = omega (arith, e.count, e.past, same, s.taken, length-append s.input e.got);
      wrote = subst (Appends w0 w1)
          (sym (append-nil s.done) ∙ ap (λ ls. s.done ++ projected_from read_line level s.state ls) (sym (ap settled_lines e.all ∙ settled_last last.text e.line)) ∙ s.settled e.got) s.wrote;
    },
  )
