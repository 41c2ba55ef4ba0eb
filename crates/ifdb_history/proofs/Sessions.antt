-- What a step leaves of a session.
use Rattle.std.proofs.Common.{◌≡◌, ◌≢◌, ℕ, zero, suc, ◌+◌, ◌-◌, ◌<◌, Bool, true, false, List, [], ◌∷◌, ◌++◌, ◌∙◌, length, refl, sym, ap, subst, arith, cond}
use Rattle.std.specs.Prelude.{nat_lt, slice_index_or, slice_set}
use Rattle.std.proofs.lemmas.Bool.Decides.{nat_tests}
use Rattle.std.proofs.lemmas.List.{get_or_append_left, get_or_push, get_or-set_same, get_or-set_other, length-append, length-set}
use Rattle.ifdb_model.specs.Session.{Session, new_session, no_session, closed}
use Rattle.ifdb_model.specs.Step.{Reader, ask}
use Rattle.ifdb_model.specs.Run.{State, session_of, opens, asks, refused, leaves, next, run, with_outcome, with_session}
use Rattle.ifdb_history.specs.declared.entry.Note.{Note}
use Rattle.ifdb_history.specs.History.{note_step, work_steps, WasOpened, IsOpen, IsShut}

opened_at : (sessions : List Session) (k : ℕ) → (slice_index_or sessions k no_session).is_open ≡ true → k < length sessions
opened_at [] k h = cc
opened_at (s ∷ sessions) zero h = omega arith
opened_at (s ∷ sessions) (suc k) h = let lt = opened_at sessions k h in omega (arith, lt)

pub open_was : (st : State) (n : ℕ) → IsOpen st n → WasOpened st n
open_was st n o = by (nat_lt 0 n) refl o where
  by : (b : Bool) → nat_lt 0 n ≡ b → (cond b (slice_index_or st.sessions (n - 1) no_session) no_session).is_open ≡ true → WasOpened st n
  by true e k =
      let some : 0 < n = grind (arith, nat_tests) in
      let lt = opened_at st.sessions (n - 1) k in
      (some, omega (arith, some, lt))
  by false e k = cc

-- the session of a number from 1 stands in its place
session_at : (st : State) (n : ℕ) → 0 < n → session_of st n ≡ slice_index_or st.sessions (n - 1) no_session
session_at st n some = let e : nat_lt 0 n ≡ true = grind (arith, nat_tests) in rw e refl

below : (st : State) (n : ℕ) → WasOpened st n → n - 1 < length st.sessions
below st n w = let some = w.0 in let le = w.1 in omega (arith, some, le)

-- ---- another session in its place

set_elsewhere : (st : State) (sessions : List Session) (m n : ℕ) (s : Session) → sessions ≡ slice_set st.sessions (m - 1) s → 0 < m → m ≢ n → WasOpened st n
    → slice_index_or sessions (n - 1) no_session ≡ slice_index_or st.sessions (n - 1) no_session
set_elsewhere st sessions m n s is from_1 ne w =
    let some = w.0 in
    ap (λ l. slice_index_or l (n - 1) no_session) is
    ∙ get_or-set_other st.sessions (m - 1) (n - 1) s no_session (λ e. ne (omega (arith, e, some, from_1)))

module _ (read : Reader) where
  pub kept_at_opening : (st : State) (n : ℕ) → WasOpened st n → session_of (next read st opens) n ≡ session_of st n
  kept_at_opening st n w =
      session_at (next read st opens) n w.0
      ∙ get_or_append_left st.sessions (new_session ∷ []) no_session (n - 1) (below st n w)
      ∙ sym (session_at st n w.0)

  pub kept_at_line : (st : State) (m n : ℕ) (line : List ℕ) → m ≢ n → WasOpened st n → session_of (next read st (asks m line)) n ≡ session_of st n
  kept_at_line st m n line ne w = by (session_of st m).is_open refl where
    by : (b : Bool) → (session_of st m).is_open ≡ b → session_of (cond b (with_outcome st m (ask read st.log (session_of st m) line)) st) n ≡ session_of st n
    by true e =
        session_at (with_outcome st m (ask read st.log (session_of st m) line)) n w.0
        ∙ set_elsewhere st _ m n (ask read st.log (session_of st m) line).session refl (open_was st m e).0 ne w
        ∙ sym (session_at st n w.0)
    by false e = refl

  pub kept_at_leaving : (st : State) (m n : ℕ) → m ≢ n → WasOpened st n → session_of (next read st (leaves m)) n ≡ session_of st n
  kept_at_leaving st m n ne w = by (session_of st m).is_open refl where
    by : (b : Bool) → (session_of st m).is_open ≡ b → session_of (cond b (with_session st m (closed (session_of st m))) st) n ≡ session_of st n
    by true e =
        session_at (with_session st m (closed (session_of st m))) n w.0
        ∙ set_elsewhere st _ m n (closed (session_of st m)) refl (open_was st m e).0 ne w
        ∙ sym (session_at st n w.0)
    by false e = refl

  -- ---- how many sessions there are

  pub one_more : (st : State) → length (next read st opens).sessions ≡ length st.sessions + 1
  one_more st = length-append st.sessions (new_session ∷ [])

  pub as_many_at_line : (st : State) (m : ℕ) (line : List ℕ) → length (next read st (asks m line)).sessions ≡ length st.sessions
  as_many_at_line st m line = by (session_of st m).is_open where
    by : (b : Bool) → length (cond b (with_outcome st m (ask read st.log (session_of st m) line)) st).sessions ≡ length st.sessions
    by true = length-set st.sessions (m - 1) (ask read st.log (session_of st m) line).session
    by false = refl

  pub as_many_at_leaving : (st : State) (m : ℕ) → length (next read st (leaves m)).sessions ≡ length st.sessions
  as_many_at_leaving st m = by (session_of st m).is_open where
    by : (b : Bool) → length (cond b (with_session st m (closed (session_of st m))) st).sessions ≡ length st.sessions
    by true = length-set st.sessions (m - 1) (closed (session_of st m))
    by false = refl

  -- ---- the work of a transaction

  as_many_at_note : (st : State) (m : ℕ) (w : Note) → length (next read st (note_step m w)).sessions ≡ length st.sessions
  as_many_at_note st m w = by w.is_refused where
    by : (b : Bool) → length (next read st (cond b (refused m) (asks m w.line))).sessions ≡ length st.sessions
    by true = refl
    by false = as_many_at_line st m w.line

  pub as_many_at_work : (st : State) (m : ℕ) (work : List Note) → length (run read st (work_steps m work)).sessions ≡ length st.sessions
  as_many_at_work st m [] = refl
  as_many_at_work st m (w ∷ work) = as_many_at_work (next read st (note_step m w)) m work ∙ as_many_at_note st m w

  pub was_at_work : (st : State) (m n : ℕ) (work : List Note) → WasOpened st n → WasOpened (run read st (work_steps m work)) n
  was_at_work st m n work w = let e = as_many_at_work st m work in let le = w.1 in (w.0, omega (arith, e, le))

  kept_at_note : (st : State) (m n : ℕ) (w : Note) → m ≢ n → WasOpened st n → session_of (next read st (note_step m w)) n ≡ session_of st n
  kept_at_note st m n w ne was = by w.is_refused where
    by : (b : Bool) → session_of (next read st (cond b (refused m) (asks m w.line))) n ≡ session_of st n
    by true = refl
    by false = kept_at_line st m n w.line ne was

  pub kept_at_work : (st : State) (m n : ℕ) (work : List Note) → m ≢ n → WasOpened st n → session_of (run read st (work_steps m work)) n ≡ session_of st n
  kept_at_work st m n [] ne was = refl
  kept_at_work st m n (w ∷ work) ne was =
      kept_at_work (next read st (note_step m w)) m n work ne (was_at_work st m n (w ∷ []) was) ∙ kept_at_note st m n w ne was

  -- ---- a session comes and goes

  pub opens_next : (st : State) → IsOpen (next read st opens) (length st.sessions + 1)
  opens_next st = ap (λ (s : Session). s.is_open) (there ∙ get_or_push st.sessions new_session no_session at (omega arith)) where
    at : ℕ
    at = length st.sessions + 1 - 1

    there : session_of (next read st opens) (length st.sessions + 1) ≡ slice_index_or (st.sessions ++ new_session ∷ []) at no_session
    there = session_at (next read st opens) (length st.sessions + 1) (omega arith)

  pub shut_by_leaving : (st : State) (n : ℕ) → IsOpen st n → IsShut (next read st (leaves n)) n
  shut_by_leaving st n o = subst (λ (t : State). IsShut t n) (sym stepped) (was, ap (λ (s : Session). s.is_open) there) where
    w : WasOpened st n
    w = open_was st n o

    left : State
    left = with_session st n (closed (session_of st n))

    stepped : next read st (leaves n) ≡ left
    stepped = rw o refl

    was : WasOpened left n
    was = let e = length-set st.sessions (n - 1) (closed (session_of st n)) in let le = w.1 in (w.0, omega (arith, e, le))

    there : session_of left n ≡ closed (session_of st n)
    there = session_at left n w.0 ∙ get_or-set_same st.sessions (n - 1) (closed (session_of st n)) no_session (below st n w)
