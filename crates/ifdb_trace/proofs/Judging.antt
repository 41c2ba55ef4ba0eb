-- How the check of a trace goes on by one line, and how it ends.
use Rattle.std.proofs.Common.{◌≡◌, ℕ, ◌+◌, ◌<◌, ◌≤◌, Bool, true, false, List, [], ◌∷◌, ◌++◌, length, take, refl, sym, ap, subst, ◌∙◌, arith, Some, None, inl, inr}
use Rattle.std.specs.Prelude.{◌⊎◌, Option, flat_map}
use Rattle.std.specs.List.{list_all}
use Rattle.std.specs.Io.KnownBytes.{Consumes, IsAtEnd}
use Rattle.std.proofs.KnownBytes.{Consumes-trans, Consumes-nil}
use Rattle.std.proofs.lemmas.Bool.Decides.{nat_tests}
use Rattle.std.proofs.lemmas.List.{append_assoc, append-nil, length-append, take_all}
use Rattle.std.proofs.lemmas.List.Concat.{flat_map-append}
use Rattle.std.proofs.lemmas.List.Folds.{list_all-append}
use Rattle.ifdb_io.specs.Lines.{Reading, unskipped, after_newline, Gives, Ends, Exceeds, IsLine, IsLong}
use Rattle.ifdb_model.specs.Script.{lines_of}
use Rattle.ifdb_laws.specs.Bytes.{is_line}
use Rattle.ifdb_db.specs.Reading.{read_line}
use Rattle.ifdb_trace.specs.declared.check.TraceEnd.{TraceEnd}
use Rattle.ifdb_trace.specs.declared.check.TraceEnd.TheVariants as trace
use Rattle.ifdb_trace.specs.declared.checker.Checker.{Checker}
use Rattle.ifdb_trace.specs.Accepted.{IsAccepted, IsFront, IsFault}
use Rattle.ifdb_trace.specs.Checking.{Due, behind, fault_behind, is_over, first_dues, lines_fault}
use Rattle.ifdb_trace.specs.Stages.{IsAt, GoesOn, IsWrong, IsEnd, IsEndOf}
use Rattle.ifdb_trace.specs.Checked.{CheckedWhole, CheckedWrong, CheckedPast}
use Rattle.ifdb_trace.specs.Ended.{settled_lines}
use Rattle.ifdb_trace.proofs.Exact.{check_none, check_fault}
use Rattle.ifdb_trace.proofs.Lines.{plain, lines_front, lines_last, lines_long, before_newline}
use Rattle.ifdb_trace.proofs.Settled.{settled_front, settled_last}
use Rattle.ifdb_trace.proofs.Standing.{at_some, long_is, long_behind}

-- ---- lines and their newlines

abbrev ended : List ℕ → List ℕ
ended line = line ++ 10 ∷ []

abbrev bytes_of : List (List ℕ) → List ℕ
bytes_of lines = flat_map ended lines

lines_split : (lines : List (List ℕ)) (rest : List ℕ) → list_all is_line lines ≡ true → lines_of (bytes_of lines ++ rest) ≡ lines ++ lines_of rest
lines_split [] rest h = refl
lines_split (line ∷ lines) rest h =
    let parts : (is_line line ≡ true) × (list_all is_line lines ≡ true) = grind (arith, nat_tests) in
    ap lines_of (append_assoc (ended line) (bytes_of lines) rest ∙ append_assoc line (10 ∷ []) (bytes_of lines ++ rest))
    ∙ lines_front line (bytes_of lines ++ rest) parts.0 ∙ ap (λ ls. line ∷ ls) (lines_split lines rest parts.1)

settled_split : (lines : List (List ℕ)) (rest : List ℕ) → list_all is_line lines ≡ true → settled_lines (bytes_of lines ++ rest) ≡ lines ++ settled_lines rest
settled_split [] rest h = refl
settled_split (line ∷ lines) rest h =
    let parts : (is_line line ≡ true) × (list_all is_line lines ≡ true) = grind (arith, nat_tests) in
    ap settled_lines (append_assoc (ended line) (bytes_of lines) rest ∙ append_assoc line (10 ∷ []) (bytes_of lines ++ rest))
    ∙ settled_front line (bytes_of lines ++ rest) parts.0 ∙ ap (λ ls. line ∷ ls) (settled_split lines rest parts.1)

-- no more lines than bytes
few_lines : (lines : List (List ℕ)) → length lines ≤ length (bytes_of lines)
few_lines [] = omega arith
few_lines (line ∷ lines) =
    let more = few_lines lines in
    omega (arith, more, length-append (ended line) (bytes_of lines), length-append line (10 ∷ []))

-- ---- the lines so far

-- The lines so far have no fault, what may come next is so and so, and the check stands there.
pub record Judged (left_old left_new : Option (List ℕ)) (reading : Reading) (checker : Checker) (count : ℕ) : Type 0 where
  pub input : List ℕ
  pub lines : List (List ℕ)
  pub all : List Due
  pub read : Consumes left_old left_new input
  pub taken : reading.taken ≡ length input
  pub bytes : input ≡ bytes_of lines ++ reading.held
  pub plain : list_all is_line lines ≡ true
  pub unskipped : reading.skipping ≡ false
  pub count_is : count ≡ length lines
  pub at : IsAt checker all
  pub goes_on : (more : List (List ℕ)) → lines_fault read_line (lines ++ more) ≡ fault_behind read_line count all more

pub judged_none : (l : Option (List ℕ)) (limit : ℕ) (checker : Checker) → IsAt checker first_dues
    → Judged l l (record { text = []; held = []; skipping = false; taken = 0; limit = limit; over = false }) checker 0
judged_none l limit checker at = record {
  input = [];
  lines = [];
  all = first_dues;
  read = Consumes-nil l;
  taken = refl;
  bytes = refl;
  plain = refl;
  unskipped = refl;
  count_is = refl;
  at = at;
  goes_on = λ more. refl;
}

-- no count is too large
pub judged_few : (l0 l1 : Option (List ℕ)) (mid : Reading) (checker : Checker) (count : ℕ) → Judged l0 l1 mid checker count → count ≤ mid.taken
judged_few l0 l1 mid checker count j = omega (arith, j.count_is, j.taken, ap length j.bytes, few_lines j.lines, length-append (bytes_of j.lines) mid.held)

-- what one line more makes of it
fault_on : (count : ℕ) (all : List Due) (line : List ℕ) (more : List (List ℕ)) → 0 < length all
    → fault_behind read_line count all (line ∷ more) ≡ fault_behind read_line (count + 1) (behind read_line line all) more
fault_on count [] line more some = absurd (omega arith)
fault_on count (d ∷ all) line more some = refl

-- and the end
pub end_on : (count : ℕ) (all : List Due) (over : Bool) → IsEnd over all → fault_behind read_line count all [] ≡ Rattle.std.proofs.Common.cond over None (Some (count + 1))
end_on count [] over e = absurd (let s = e.some in omega (arith, s))
end_on count (d ∷ all) over e = ap (λ b. Rattle.std.proofs.Common.cond b None (Some (count + 1))) e.over_is

pub end_of : (count : ℕ) (all : List Due) (over : Bool) (end : TraceEnd) → IsEnd over all
    → end ≡ Rattle.std.proofs.Common.cond over trace.Accepted (trace.Refused (count + 1)) → IsEndOf end count all
end_of count all true end e is = subst (λ x. IsEndOf x count all) (sym is) (end_on count all true e)
end_of count all false end e is = subst (λ x. IsEndOf x count all) (sym is) (end_on count all false e)

-- the line of a refusal
abbrev number_of : TraceEnd → ℕ
number_of (trace.Refused k) = k
number_of _ = 0

pub refused_is : (j k : ℕ) → trace.Refused j ≡ trace.Refused k → j ≡ k
refused_is j k e = ap number_of e

module _ (limit : ℕ) (l0 l1 l2 : Option (List ℕ)) (mid last : Reading) (checker : Checker) (count : ℕ) (j : Judged l0 l1 mid checker count) where
  -- what was got in this call
  taken_on : (got : List ℕ) → last.taken ≡ mid.taken + length got → last.taken ≡ length (j.input ++ got)
  taken_on got count = omega (arith, count, j.taken, length-append j.input got)

  bytes_on : (got rest : List ℕ) → (j.input ++ got) ++ rest ≡ bytes_of j.lines ++ (mid.held ++ (got ++ rest))
  bytes_on got rest =
      append_assoc j.input got rest ∙ ap (λ b. b ++ (got ++ rest)) j.bytes ∙ append_assoc (bytes_of j.lines) mid.held (got ++ rest)

  -- the rest of the input, where no line is being skipped
  unskipped_on : (bytes : List ℕ) → unskipped mid.skipping bytes ≡ bytes
  unskipped_on bytes = rw j.unskipped refl

  lines_on : (got rest : List ℕ) → lines_of ((j.input ++ got) ++ rest) ≡ j.lines ++ lines_of (unskipped mid.skipping (mid.held ++ (got ++ rest)))
  lines_on got rest =
      ap lines_of (bytes_on got rest) ∙ lines_split j.lines (mid.held ++ (got ++ rest)) j.plain
      ∙ ap (λ b. j.lines ++ lines_of b) (sym (unskipped_on (mid.held ++ (got ++ rest))))

  some : 0 < length j.all
  some = at_some checker j.all j.at

  -- a line of the input, and what follows it
  fault_at : (line : List ℕ) (more : List (List ℕ)) → lines_fault read_line (j.lines ++ (line ∷ more)) ≡ fault_behind read_line (count + 1) (behind read_line line j.all) more
  fault_at line more = j.goes_on (line ∷ more) ∙ fault_on count j.all line more some

  wrong_at : (line : List ℕ) (more : List (List ℕ)) → behind read_line line j.all ≡ [] → IsFault read_line (j.lines ++ (line ∷ more)) (count + 1)
  wrong_at line more none =
      check_fault read_line (j.lines ++ (line ∷ more)) (count + 1) (fault_at line more ∙ ap (λ all. fault_behind read_line (count + 1) all more) none)

  -- a line came with its newline
  module _ (g : Gives mid last l1 l2 (last.text ++ 10 ∷ [])) (line : IsLine last.text) (kept : last.skipping ≡ false) where
    bytes_line : j.input ++ g.got ≡ bytes_of (j.lines ++ last.text ∷ []) ++ last.held
    bytes_line =
        sym (append-nil (j.input ++ g.got)) ∙ bytes_on g.got []
        ∙ ap (λ b. bytes_of j.lines ++ b) (sym (unskipped_on (mid.held ++ (g.got ++ []))) ∙ g.same [] ∙ ap (λ b. ended last.text ++ b) (append-nil last.held))
        ∙ sym (append_assoc (bytes_of j.lines) (ended last.text) last.held)
        ∙ ap (λ b. (bytes_of j.lines ++ b) ++ last.held) (sym (append-nil (ended last.text)))
        ∙ ap (λ b. b ++ last.held) (sym (flat_map-append ended j.lines (last.text ∷ [])))

    pub judged_line : (new : Checker) → GoesOn checker new last.text → Judged l0 l2 last new (count + 1)
    judged_line new on = record {
      input = j.input ++ g.got;
      lines = j.lines ++ last.text ∷ [];
      all = behind read_line last.text j.all;
      read = Consumes-trans _ _ _ _ _ j.read g.consumed;
      taken = taken_on g.got g.count;
      bytes = bytes_line;
      plain = let p = plain last.text line.plain in let q = j.plain in grind (arith, nat_tests, list_all-append is_line j.lines (last.text ∷ []));
      unskipped = kept;
      count_is = omega (arith, j.count_is, length-append j.lines (last.text ∷ []));
      at = on j.all j.at;
      goes_on = λ more. ap (lines_fault read_line) (append_assoc j.lines (last.text ∷ []) more) ∙ fault_at last.text more;
    }

    pub wrong_line : IsWrong checker last.text → last.taken ≤ limit → CheckedWrong limit l0 l2 (count + 1)
    wrong_line wrong within = record {
      input = j.input ++ g.got;
      read = Consumes-trans _ _ _ _ _ j.read g.consumed;
      within = omega (arith, within, taken_on g.got g.count);
      wrong = inl (λ rest.
          let lines : lines_of ((j.input ++ g.got) ++ rest) ≡ j.lines ++ (last.text ∷ lines_of (last.held ++ rest)) =
          lines_on g.got rest ∙ ap (λ b. j.lines ++ lines_of b) (g.same rest ∙ append_assoc last.text (10 ∷ []) (last.held ++ rest))
          ∙ ap (λ ls. j.lines ++ ls) (lines_front last.text (last.held ++ rest) (plain last.text line.plain)) in
          subst (λ ls. IsFault read_line ls (count + 1)) (sym lines) (wrong_at last.text (lines_of (last.held ++ rest)) (wrong j.all j.at)));
    }

  -- a line came that is too long
  pub wrong_long : (g : Gives mid last l1 l2 last.text) → IsLong last.text → last.taken ≤ limit → CheckedWrong limit l0 l2 (count + 1)
  wrong_long g long within = record {
    input = j.input ++ g.got;
    read = Consumes-trans _ _ _ _ _ j.read g.consumed;
    within = omega (arith, within, taken_on g.got g.count);
    wrong = inl (λ rest.
        let size = long.long in
        let more = last.held ++ rest in
        let whole = last.text ++ before_newline more in
        let lines : lines_of ((j.input ++ g.got) ++ rest) ≡ j.lines ++ (whole ∷ lines_of (after_newline more)) =
        lines_on g.got rest ∙ ap (λ b. j.lines ++ lines_of b) (g.same rest)
        ∙ ap (λ ls. j.lines ++ ls) (lines_long last.text more (plain last.text long.plain) (omega (arith, size))) in
        let too_long = long_is whole (omega (arith, size, length-append last.text (before_newline more))) in
        subst (λ ls. IsFault read_line ls (count + 1)) (sym lines) (wrong_at whole (lines_of (after_newline more)) (long_behind whole j.all too_long)));
  }

  -- the input has ended
  module _ (e : Ends mid last l1 l2) (end : IsAtEnd l2) (within : last.taken ≤ limit) where
    lines_end : lines_of (j.input ++ e.got) ≡ j.lines ++ lines_of last.text
    lines_end =
        ap lines_of (sym (append-nil (j.input ++ e.got))) ∙ lines_on e.got []
        ∙ ap (λ b. j.lines ++ lines_of b) (ap (λ b. unskipped mid.skipping (mid.held ++ b)) (append-nil e.got) ∙ e.all)

    fits : length (j.input ++ e.got) ≤ limit
    fits = omega (arith, within, taken_on e.got e.count)

    accepted_so : (lines : List (List ℕ)) → lines_of (j.input ++ e.got) ≡ lines → lines_fault read_line lines ≡ None → CheckedWhole limit l0 l2
    accepted_so lines same none = record {
      input = j.input ++ e.got;
      read = Consumes-trans _ _ _ _ _ j.read e.consumed;
      ended = end;
      within = fits;
      accepted = subst (IsAccepted read_line) (sym same) (check_none read_line lines none);
    }

    fault_so : (lines : List (List ℕ)) (k : ℕ) → lines_of (j.input ++ e.got) ≡ lines → lines_fault read_line lines ≡ Some k → CheckedWrong limit l0 l2 k
    fault_so lines k same found = record {
      input = j.input ++ e.got;
      read = Consumes-trans _ _ _ _ _ j.read e.consumed;
      within = fits;
      wrong = inr (end, subst (λ ls. IsFault read_line ls k) (sym same) (check_fault read_line lines k found));
    }

    -- with these lines
    module _ (none : last.text ≡ []) where
      no_more : lines_of (j.input ++ e.got) ≡ j.lines
      no_more = lines_end ∙ ap (λ b. j.lines ++ lines_of b) none ∙ append-nil j.lines

      fault_end : lines_fault read_line j.lines ≡ fault_behind read_line count j.all []
      fault_end = ap (lines_fault read_line) (sym (append-nil j.lines)) ∙ j.goes_on []

      pub end_accepted : IsEndOf trace.Accepted count j.all → CheckedWhole limit l0 l2
      end_accepted found = accepted_so j.lines no_more (fault_end ∙ found)

      pub end_refused : (k : ℕ) → IsEndOf (trace.Refused k) count j.all → CheckedWrong limit l0 l2 k
      end_refused k found = fault_so j.lines k no_more (fault_end ∙ found)

    -- with one more
    module _ (more : 0 < length last.text) where
      with_last : lines_of (j.input ++ e.got) ≡ j.lines ++ last.text ∷ []
      with_last = lines_end ∙ ap (λ ls. j.lines ++ ls) (lines_last last.text (plain last.text e.line.plain) more)

      pub rest_wrong : IsWrong checker last.text → CheckedWrong limit l0 l2 (count + 1)
      rest_wrong wrong = record {
        input = j.input ++ e.got;
        read = Consumes-trans _ _ _ _ _ j.read e.consumed;
        within = fits;
        wrong = inr (end, subst (λ ls. IsFault read_line ls (count + 1)) (sym with_last) (wrong_at last.text [] (wrong j.all j.at)));
      }

      pub rest_accepted : IsEndOf trace.Accepted (count + 1) (behind read_line last.text j.all) → CheckedWhole limit l0 l2
      rest_accepted found = accepted_so (j.lines ++ last.text ∷ []) with_last (fault_at last.text [] ∙ found)

      pub rest_refused : (k : ℕ) → IsEndOf (trace.Refused k) (count + 1) (behind read_line last.text j.all) → CheckedWrong limit l0 l2 k
      rest_refused k found = fault_so (j.lines ++ last.text ∷ []) k with_last (fault_at last.text [] ∙ found)

  -- a byte more than the limit came
  front_at : IsFront read_line j.lines
  front_at = by (fault_behind read_line count j.all []) refl (at_some checker j.all j.at) where
    from : lines_fault read_line j.lines ≡ fault_behind read_line count j.all []
    from = ap (lines_fault read_line) (sym (append-nil j.lines)) ∙ j.goes_on []

    later : (k : ℕ) (all : List Due) → 0 < length all → fault_behind read_line count all [] ≡ Some k → k ≡ count + 1
    later k [] some e = absurd (omega (arith, some))
    later k (d ∷ all) some e = test (is_over (d ∷ all)) e where
      test : (b : Bool) → Rattle.std.proofs.Common.cond b None (Some (count + 1)) ≡ Some k → k ≡ count + 1
      test true f = cc
      test false f = ap (λ o. Rattle.std.specs.Option.unwrap_or o k) (sym f)

    by : (o : Option ℕ) → fault_behind read_line count j.all [] ≡ o → 0 < length j.all → IsFront read_line j.lines
    by None e some = ([], subst (IsAccepted read_line) (sym (append-nil j.lines)) (check_none read_line j.lines (from ∙ e)))
    by (Some k) e some =
        let fault = check_fault read_line j.lines k (from ∙ e) in
        let k_is = later k j.all some e in
        let before = fault.before (length j.lines) (omega (arith, k_is, j.count_is)) in
        subst (IsFront read_line) (take_all (length j.lines) j.lines (omega arith)) before

  pub past_at : (e : Exceeds mid last l1 l2) → last.limit ≡ limit → CheckedPast limit l0 l2
  past_at e same =
      let ends : settled_lines (j.input ++ e.got) ≡ j.lines =
      ap settled_lines (sym (append-nil (j.input ++ e.got)) ∙ bytes_on e.got []) ∙ settled_split j.lines (mid.held ++ (e.got ++ [])) j.plain
      ∙ ap (λ b. j.lines ++ settled_lines b) (ap (λ b. mid.held ++ b) (append-nil e.got) ∙ sym (unskipped_on (mid.held ++ e.got)) ∙ e.all)
      ∙ ap (λ ls. j.lines ++ ls) (settled_last last.text e.line) ∙ append-nil j.lines in
      record {
        input = j.input ++ e.got;
        last = e.last;
        read = subst (Consumes l0 l2) (sym (append_assoc j.input e.got (e.last ∷ []))) (Consumes-trans _ _ _ _ _ j.read e.consumed);
        size = omega (arith, e.count, e.past, same, j.taken, length-append j.input e.got);
        front = subst (IsFront read_line) (sym ends) front_at;
      }
