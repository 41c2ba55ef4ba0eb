-- Runs of a script's steps, one behind the other.
use Rattle.std.proofs.Common.{◌≡◌, ℕ, ◌+◌, ◌-◌, ◌≤◌, Bool, true, false, List, [], ◌∷◌, ◌++◌, length, map, refl, sym, ap, ◌∙◌, arith, cond, append_assoc, zero-add}
use Rattle.std.specs.Prelude.{Option, slice_set, option_to_list}
use Rattle.std.proofs.lemmas.List.{map-append, length-append, length-set}
use Rattle.std.proofs.lemmas.List.Concat.{flat_map-append}
use Rattle.ifdb_journal.specs.declared.record.Record.{Record}
use Rattle.ifdb_model.specs.Session.{Session, new_session, closed}
use Rattle.ifdb_model.specs.Step.{Reader, Outcome, ask}
use Rattle.ifdb_model.specs.Run.{State, Step, opens, asks, refused, long, stray, leaves, session_of, with_outcome, with_session, Told, told, next, opening, replies}
use Rattle.ifdb_model.specs.Output.{refusals, flag_of, refused_at}
use Rattle.ifdb_model.specs.Script.{steps_of}
use Rattle.ifdb_replay.specs.Replay.{records_of, kept}
use Rattle.ifdb_replay.specs.FirstWord.{only_looks}
use Rattle.ifdb_keep.specs.Numbered.{shifted, unshifted, state_from, told_from, records_from}
use Rattle.ifdb_keep.specs.Acknowledged.{FirstKeepIsARun}

module _ (read : Reader) (base : ℕ) where
  pub state_append : (st : State) (xs ys : List Step) → state_from read st base (xs ++ ys) ≡ state_from read (state_from read st base xs) base ys
  state_append st [] ys = refl
  state_append st (x ∷ xs) ys = state_append (next read st (shifted base x)) xs ys

  pub told_append : (st : State) (xs ys : List Step) → told_from read st base (xs ++ ys) ≡ told_from read st base xs ++ told_from read (state_from read st base xs) base ys
  told_append st [] ys = refl
  told_append st (x ∷ xs) ys =
      let here = told read st (shifted base x) in
      let after = next read st (shifted base x) in
      let heard = map (unshifted base) here in
      map-append (unshifted base) here (replies read after (map (shifted base) (xs ++ ys)))
      ∙ ap (λ (l : List Told). heard ++ l) (told_append after xs ys)
      ∙ sym (append_assoc heard (told_from read after base xs) (told_from read (state_from read after base xs) base ys))
      ∙ ap (λ (l : List Told). l ++ told_from read (state_from read after base xs) base ys) (sym (map-append (unshifted base) here (replies read after (map (shifted base) xs))))

  pub records_append : (st : State) (xs ys : List Step) → records_from read st base (xs ++ ys) ≡ records_from read st base xs ++ records_from read (state_from read st base xs) base ys
  records_append st [] ys = refl
  records_append st (x ∷ xs) ys =
      let here = records_of only_looks st (shifted base x) in
      let after = next read st (shifted base x) in
      ap (λ (l : List Record). here ++ l) (records_append after xs ys)
      ∙ sym (append_assoc here (records_from read after base xs) (records_from read (state_from read after base xs) base ys))

  -- the flags of what is told go on alike
  pub refusals_append : (st : State) (xs ys : List Step) (flags : List Bool)
      → refusals (told_from read st base (xs ++ ys)) ++ flags ≡ refusals (told_from read st base xs) ++ (refusals (told_from read (state_from read st base xs) base ys) ++ flags)
  refusals_append st xs ys flags =
      let first = told_from read st base xs in
      let more = told_from read (state_from read st base xs) base ys in
      ap (λ (l : List Told). refusals l ++ flags) (told_append st xs ys)
      ∙ ap (λ (fs : List Bool). fs ++ flags) (flat_map-append flag_of first more)
      ∙ append_assoc (refusals first) (refusals more) flags

-- ---- sessions are never forgotten

asked_stay : (st : State) (n : ℕ) (o : Outcome) (b : Bool) → length st.sessions ≤ length (cond b (with_outcome st n o) st).sessions
asked_stay st n o true = omega (arith, length-set st.sessions (n - 1) o.session)
asked_stay st n o false = omega arith

left_stay : (st : State) (n : ℕ) (s : Session) (b : Bool) → length st.sessions ≤ length (cond b (with_session st n s) st).sessions
left_stay st n s true = omega (arith, length-set st.sessions (n - 1) s)
left_stay st n s false = omega arith

pub sessions_stay : (read : Reader) (st : State) (x : Step) → length st.sessions ≤ length (next read st x).sessions
sessions_stay read st opens = omega (arith, length-append st.sessions (new_session ∷ []))
sessions_stay read st (asks n line) = asked_stay st n (ask read st.log (session_of st n) line) (session_of st n).is_open
sessions_stay read st (refused n) = omega arith
sessions_stay read st long = omega arith
sessions_stay read st stray = omega arith
sessions_stay read st (leaves n) = left_stay st n (closed (session_of st n)) (session_of st n).is_open

-- ---- over an empty journal

unmoved : (x : Step) → shifted 0 x ≡ x
unmoved opens = refl
unmoved (asks n line) = ap (λ k. asks k line) (zero-add n)
unmoved (refused n) = ap refused (zero-add n)
unmoved long = refl
unmoved stray = refl
unmoved (leaves n) = ap leaves (zero-add n)

all_unmoved : (steps : List Step) → map (shifted 0) steps ≡ steps
all_unmoved [] = refl
all_unmoved (x ∷ steps) = λ i. unmoved x i ∷ all_unmoved steps i

heard_alike : (t : Told) → unshifted 0 t ≡ t
heard_alike t = let same : t.number - 0 ≡ t.number = omega arith in λ i. record { number = same i; reply = t.reply }

all_heard_alike : (all : List Told) → map (unshifted 0) all ≡ all
all_heard_alike [] = refl
all_heard_alike (t ∷ all) = λ i. heard_alike t i ∷ all_heard_alike all i

pub first_keep : FirstKeepIsARun
first_keep read input flags =
    let steps = refused_at flags (steps_of input) in
    ap (λ (l : List Step). map (unshifted 0) (replies read opening l)) (all_unmoved steps) ∙ all_heard_alike (replies read opening steps)
