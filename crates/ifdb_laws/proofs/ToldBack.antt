-- What a script is told is a function of the bytes that it writes.
use Rattle.std.proofs.Common.{◌≡◌, ◌⊎◌, inl, inr, ℕ, ◌+◌, Bool, true, false, List, [], ◌∷◌, ◌++◌, length, refl, sym, ap, ◌∙◌, arith, cond, eqb, Some}
use Rattle.std.specs.Fmt.{digits}
use Rattle.std.specs.Prelude.{codes, decimal, flat_map, slice_index_or, ◌&&◌}
use Rattle.std.proofs.lemmas.Bool.{false≢true}
use Rattle.std.proofs.lemmas.Bool.Decides.{nat_tests}
use Rattle.std.proofs.lemmas.List.{append_assoc, append_cancel_left}
use Rattle.ifdb_wire.specs.declared.fault.Fault.{Fault}
use Rattle.ifdb_wire.specs.declared.fault.Fault.TheVariants as fault
use Rattle.ifdb_wire.specs.declared.reply.Reply.{Reply}
use Rattle.ifdb_wire.specs.declared.reply.Reply.TheVariants as reply
use Rattle.ifdb_wire.specs.Fault.{fault_text}
use Rattle.ifdb_wire.specs.Text.{line, reply_lines}
use Rattle.ifdb_model.specs.Step.{Reader}
use Rattle.ifdb_model.specs.Script.{steps_of}
use Rattle.ifdb_model.specs.Run.{State, Step, opens, asks, refused, long, stray, leaves, Told, opening, outcome_of, next, told, replies}
use Rattle.ifdb_model.specs.Output.{is_memory, reads_memory, refused_at, texts, text_of}
use Rattle.ifdb_laws.specs.Bytes.{BytesTellWhatIsTold}
use Rattle.ifdb_laws.proofs.ReadBack.{decimal_digits, split_space, full, full_is, first_line, more_lines, lines_are}
use Rattle.ifdb_laws.proofs.Refusals.{memory_is, memory_changes_nothing}

-- ---- a reply that reads error 20 begins as no other does

-- the text of error 20 has E, 2 and 0 at these places: 69, 50 and 48
says_memory : List ℕ → Bool
says_memory text = eqb (slice_index_or text 0 0) 69 && (eqb (slice_index_or text 4 0) 50 && eqb (slice_index_or text 5 0) 48)

fault_apart : (f : Fault) (more : List ℕ) → is_memory f ≡ false → says_memory (fault_text f ++ more) ≡ false
unfolding says_memory digits
fault_apart (fault.Syntax at) more h = refl
fault_apart fault.NotHello more h = refl
fault_apart fault.HelloTwice more h = refl
fault_apart fault.BadKey more h = refl
fault_apart fault.Taken more h = refl
fault_apart fault.UnknownName more h = refl
fault_apart fault.LabelNotEmpty more h = refl
fault_apart fault.NoAuthority more h = refl
fault_apart fault.InTransaction more h = refl
fault_apart fault.NoTransaction more h = refl
fault_apart fault.TypeMismatch more h = refl
fault_apart fault.WriteLabel more h = refl
fault_apart fault.DuplicateKey more h = refl
fault_apart fault.NoReference more h = refl
fault_apart fault.OutOfRange more h = refl
fault_apart fault.CommitLabel more h = refl
fault_apart fault.Conflict more h = refl
fault_apart fault.BrokenReference more h = refl
fault_apart fault.StillReferenced more h = refl
fault_apart fault.OutOfMemory more h = absurd (false≢true (sym h))
fault_apart fault.TooLong more h = refl
fault_apart fault.Limit more h = refl
fault_apart fault.NotGranted more h = refl
fault_apart fault.KeyColumn more h = refl
fault_apart fault.NotCompound more h = refl
fault_apart fault.NotATable more h = refl
fault_apart fault.ViewAuthority more h = refl
fault_apart fault.NoSession more h = refl
fault_apart fault.OverClearance more h = refl
fault_apart fault.ClosureLabel more h = refl

line_apart : (r : Reply) (more : List ℕ) → reads_memory r ≡ false → says_memory (first_line r ++ more) ≡ false
unfolding says_memory first_line
line_apart reply.Done more h = refl
line_apart (reply.Count n) more h = refl
line_apart reply.Opened more h = refl
line_apart (reply.Label names) more h = refl
line_apart (reply.Rows table) more h = refl
line_apart (reply.Refused f) more h = fault_apart f more h

full_says : (more : List ℕ) → says_memory (first_line (reply.Refused fault.OutOfMemory) ++ more) ≡ true
unfolding says_memory first_line digits
full_says more = refl

-- ---- texts, one behind the other

-- a reply's text begins with its number, a space and its first line
record Begins (t : Told) (more : List ℕ) : Type 0 where
  rest : List ℕ
  split : text_of t ++ more ≡ decimal t.number ++ 32 ∷ (first_line t.reply ++ rest)

begins : (t : Told) (more : List ℕ) → Begins t more
begins t more =
    let behind = flat_map (line (Some t.number)) (more_lines t.reply) ++ more in
    let first = first_line t.reply in
    record {
      rest = 10 ∷ behind;
      split = ap (λ ls. flat_map (line (Some t.number)) ls ++ more) (lines_are t.reply)
          ∙ append_assoc (line (Some t.number) first) (flat_map (line (Some t.number)) (more_lines t.reply)) more
          ∙ full_is t.number first behind
          ∙ append_assoc (decimal t.number) (32 ∷ first) (10 ∷ behind);
    }

apart : (t u : Told) (xs ys : List ℕ) → reads_memory t.reply ≡ false → u.reply ≡ reply.Refused fault.OutOfMemory → text_of t ++ xs ≡ text_of u ++ ys → ⊥
apart t u xs ys none full e =
    let a = begins t xs in
    let b = begins u ys in
    let parts = split_space (decimal t.number) (decimal u.number) (first_line t.reply ++ a.rest) (first_line u.reply ++ b.rest)
    (decimal_digits t.number) (decimal_digits u.number) (sym a.split ∙ e ∙ b.split) in
    false≢true (sym (line_apart t.reply a.rest none) ∙ ap says_memory parts.1 ∙ ap (λ r. says_memory (first_line r ++ b.rest)) full ∙ full_says b.rest)

cancelled : (ts xs ys : List Told) → texts (ts ++ xs) ≡ texts (ts ++ ys) → texts xs ≡ texts ys
cancelled [] xs ys e = e
cancelled (t ∷ ts) xs ys e = cancelled ts xs ys (append_cancel_left (text_of t) (texts (ts ++ xs)) (texts (ts ++ ys)) e)

-- ---- steps

-- a step of a script for which there was no memory
refusal : Step → Step
refusal opens = refused 0
refusal (asks n line) = refused n
refusal (refused n) = refused n
refusal long = long
refusal stray = stray
refusal (leaves n) = leaves n

-- the step, or the refusal of it
abbrev IsOf : Step → Step → Type 0
IsOf x a = (a ≡ x) ⊎ (a ≡ refusal x)

-- what flags make of a script's first step, and of the others
record Flagged (flags : List Bool) (x : Step) (steps : List Step) : Type 0 where
  step : Step
  behind : List Bool
  of : IsOf x step
  split : refused_at flags (x ∷ steps) ≡ step ∷ refused_at behind steps

unflagged : (steps : List Step) → refused_at [] steps ≡ steps
unflagged [] = refl
unflagged (x ∷ steps) = refl

flagged : (flags : List Bool) (x : Step) (steps : List Step) → Flagged flags x steps
unfolding refusal
flagged [] x steps = record { step = x; behind = []; of = inl refl; split = ap (λ rest. x ∷ rest) (sym (unflagged steps)) }
flagged (false ∷ flags) opens steps = record { step = opens; behind = flags; of = inl refl; split = refl }
flagged (true ∷ flags) opens steps = record { step = refused 0; behind = flags; of = inr refl; split = refl }
flagged (false ∷ flags) (asks n line) steps = record { step = asks n line; behind = flags; of = inl refl; split = refl }
flagged (true ∷ flags) (asks n line) steps = record { step = refused n; behind = flags; of = inr refl; split = refl }
flagged (flag ∷ flags) (refused n) steps = record { step = refused n; behind = flag ∷ flags; of = inl refl; split = refl }
flagged (flag ∷ flags) long steps = record { step = long; behind = flag ∷ flags; of = inl refl; split = refl }
flagged (flag ∷ flags) stray steps = record { step = stray; behind = flag ∷ flags; of = inl refl; split = refl }
flagged (flag ∷ flags) (leaves n) steps = record { step = leaves n; behind = flag ∷ flags; of = inl refl; split = refl }

module _ (read : Reader) where
  -- the two steps tell the same and lead to the same state
  record SameStep (st : State) (a b : Step) : Type 0 where
    tells : told read st a ≡ told read st b
    goes : next read st a ≡ next read st b

  same_for : (st : State) (a b : Step) → a ≡ b → SameStep st a b
  same_for st a b e = record { tells = ap (told read st) e; goes = ap (next read st) e }

  same_back : (st : State) (a b : Step) → SameStep st a b → SameStep st b a
  same_back st a b s = record { tells = sym s.tells; goes = sym s.goes }

  -- a step, and its refusal, where the bytes are equal
  done_or_refused : (st : State) (x : Step) (xs ys : List Told) → texts (told read st x ++ xs) ≡ texts (told read st (refusal x) ++ ys) → SameStep st x (refusal x)
  unfolding refusal
  done_or_refused st opens xs ys e =
      absurd (apart (record { number = length st.sessions + 1; reply = reply.Opened }) (record { number = 0; reply = reply.Refused fault.OutOfMemory }) (texts xs) (texts ys) refl refl e)
  done_or_refused st (asks n line) xs ys e = by (reads_memory (outcome_of read st n line).reply) refl where
    by : (b : Bool) → reads_memory (outcome_of read st n line).reply ≡ b → SameStep st (asks n line) (refused n)
    by true full = record {
      tells = ap (λ r. record { number = n; reply = r } ∷ []) (memory_is (outcome_of read st n line).reply full);
      goes = memory_changes_nothing read st n line full;
    }
    by false none =
        absurd (apart (record { number = n; reply = (outcome_of read st n line).reply }) (record { number = n; reply = reply.Refused fault.OutOfMemory }) (texts xs) (texts ys) none refl e)
  done_or_refused st (refused n) xs ys e = same_for st (refused n) (refused n) refl
  done_or_refused st long xs ys e = same_for st long long refl
  done_or_refused st stray xs ys e = same_for st stray stray refl
  done_or_refused st (leaves n) xs ys e = same_for st (leaves n) (leaves n) refl

  one_refused : (st : State) (x a b : Step) (xs ys : List Told) → a ≡ x → b ≡ refusal x → texts (told read st a ++ xs) ≡ texts (told read st b ++ ys) → SameStep st a b
  one_refused st x a b xs ys p q e =
      let s = done_or_refused st x xs ys (ap (λ y. texts (told read st y ++ xs)) (sym p) ∙ e ∙ ap (λ y. texts (told read st y ++ ys)) q) in
      record { tells = ap (told read st) p ∙ s.tells ∙ ap (told read st) (sym q); goes = ap (next read st) p ∙ s.goes ∙ ap (next read st) (sym q) }

  same_step : (st : State) (x a b : Step) (xs ys : List Told) → IsOf x a → IsOf x b → texts (told read st a ++ xs) ≡ texts (told read st b ++ ys) → SameStep st a b
  same_step st x a b xs ys (inl p) (inl q) e = same_for st a b (p ∙ sym q)
  same_step st x a b xs ys (inr p) (inr q) e = same_for st a b (p ∙ sym q)
  same_step st x a b xs ys (inl p) (inr q) e = one_refused st x a b xs ys p q e
  same_step st x a b xs ys (inr p) (inl q) e = same_back st b a (one_refused st x b a ys xs q p (sym e))

  same_told : (steps : List Step) (st : State) (fs gs : List Bool) → texts (replies read st (refused_at fs steps)) ≡ texts (replies read st (refused_at gs steps))
      → replies read st (refused_at fs steps) ≡ replies read st (refused_at gs steps)
  same_told [] st fs gs e = refl
  same_told (x ∷ steps) st fs gs e =
      let f = flagged fs x steps in
      let g = flagged gs x steps in
      let xs = replies read (next read st f.step) (refused_at f.behind steps) in
      let ys = replies read (next read st g.step) (refused_at g.behind steps) in
      let whole : texts (told read st f.step ++ xs) ≡ texts (told read st g.step ++ ys) =
      ap (λ s. texts (replies read st s)) (sym f.split) ∙ e ∙ ap (λ s. texts (replies read st s)) g.split in
      let s = same_step st x f.step g.step xs ys f.of g.of whole in
      let zs = replies read (next read st f.step) (refused_at g.behind steps) in
      let there : ys ≡ zs = ap (λ st. replies read st (refused_at g.behind steps)) (sym s.goes) in
      let more = same_told steps (next read st f.step) f.behind g.behind
      (cancelled (told read st f.step) xs zs (whole ∙ ap texts (λ i. sym s.tells i ++ there i))) in
      ap (replies read st) f.split ∙ (λ i. s.tells i ++ (more ∙ sym there) i) ∙ ap (replies read st) (sym g.split)

pub bytes_tell : BytesTellWhatIsTold
bytes_tell read input flags others e = same_told read (steps_of input) opening flags others e
