-- Steps without a record change nothing, and the others are their record's.
use Rattle.std.proofs.Common.{◌≡◌, ℕ, ◌-◌, Bool, true, false, not, ◌&&◌, List, [], ◌∷◌, ◌++◌, refl, sym, ap, ◌∙◌}
use Rattle.std.specs.Prelude.{Option, Some, None, Result, Ok, Err, if◌then◌else◌, slice_set, slice_index_or, nat_lt}
use Rattle.std.proofs.lemmas.List.{append-nil, set-get_or}
use Rattle.ifdb_syntax.specs.declared.request.Request.{Request}
use Rattle.ifdb_syntax.specs.declared.request.Request.TheVariants as request
use Rattle.ifdb_wire.specs.declared.fault.Fault.{Fault}
use Rattle.ifdb_model.specs.Log.{Entry}
use Rattle.ifdb_model.specs.Session.{Session, no_session}
use Rattle.ifdb_model.specs.Step.{Reader, Outcome, tells, ask, ask_read, ask_by}
use Rattle.ifdb_model.specs.Run.{State, Step, opens, asks, refused, long, stray, leaves, session_of, with_outcome, next, run}
use Rattle.ifdb_replay.specs.Replay.{steps_of, replay, asked, Quiet, records_of, kept, StayIn, ChangesNothing, IsQuiet, ReplayKeeps, ReplayGoesOn}

pub run_append : (read : Reader) (st : State) (xs ys : List Step) → run read st (xs ++ ys) ≡ run read (run read st xs) ys
run_append read st [] ys = refl
run_append read st (x ∷ xs) ys = run_append read (next read st x) xs ys

-- an outcome that only tells something
pub record OnlyTells (s : Session) (o : Outcome) : Type 0 where
  pub session : o.session ≡ s
  pub added : o.added ≡ None

select_tells : (log : List Entry) (s : Session) (who : Option ℕ) (select : _) → OnlyTells s (ask_by log s who (request.Select select))
select_tells log s None select = record { session = refl; added = refl }
select_tells log s (Some asker) select = record { session = refl; added = refl }

show_tells : (log : List Entry) (s : Session) (who : Option ℕ) → OnlyTells s (ask_by log s who request.ShowLabel)
show_tells log s None = record { session = refl; added = refl }
show_tells log s (Some asker) = record { session = refl; added = refl }

read_tells : (log : List Entry) (s : Session) (found : Result Request Fault) → ChangesNothing found → OnlyTells s (ask_read log s found)
read_tells log s (Err f) quiet = record { session = refl; added = refl }
read_tells log s (Ok (request.Select select)) quiet = select_tells log s s.principal select
read_tells log s (Ok request.ShowLabel) quiet = show_tells log s s.principal
read_tells log s (Ok (request.Hello name key)) quiet = absurd quiet
read_tells log s (Ok (request.CreatePrincipal name key clearance)) quiet = absurd quiet
read_tells log s (Ok (request.CreateTag name compound parents)) quiet = absurd quiet
read_tells log s (Ok (request.CreateTable name columns key foreign)) quiet = absurd quiet
read_tells log s (Ok (request.CreateView name select tags)) quiet = absurd quiet
read_tells log s (Ok (request.Grant tag to)) quiet = absurd quiet
read_tells log s (Ok (request.Revoke tag from)) quiet = absurd quiet
read_tells log s (Ok (request.SetLabel tags)) quiet = absurd quiet
read_tells log s (Ok request.Begin) quiet = absurd quiet
read_tells log s (Ok request.Commit) quiet = absurd quiet
read_tells log s (Ok request.Rollback) quiet = absurd quiet
read_tells log s (Ok request.Bye) quiet = absurd quiet
read_tells log s (Ok (request.Insert table columns rows tags)) quiet = absurd quiet
read_tells log s (Ok (request.Update table assignments cond tags)) quiet = absurd quiet
read_tells log s (Ok (request.Delete table cond)) quiet = absurd quiet

-- the session of a number is in its place already
same_place : (sessions : List Session) (n : ℕ) (b : Bool) → (if b then slice_index_or sessions (n - 1) no_session else no_session).is_open ≡ true
    → slice_set sessions (n - 1) (if b then slice_index_or sessions (n - 1) no_session else no_session) ≡ sessions
same_place sessions n true is_open = set-get_or sessions (n - 1) no_session
same_place sessions n false is_open = absurd (cc is_open)

only_tells : (st : State) (n : ℕ) (o : Outcome) → (session_of st n).is_open ≡ true → OnlyTells (session_of st n) o → with_outcome st n o ≡ st
only_tells st n o is_open tells =
    let log : st.log ++ Rattle.std.specs.Prelude.option_to_list o.added ≡ st.log = ap (λ a. st.log ++ Rattle.std.specs.Prelude.option_to_list a) tells.added ∙ append-nil st.log in
    let sessions : slice_set st.sessions (n - 1) o.session ≡ st.sessions = ap (slice_set st.sessions (n - 1)) tells.session ∙ same_place st.sessions n (nat_lt 0 n) is_open in
    λ i. record { log = log i; sessions = sessions i }

-- a line that changes nothing, of any session
pub quiet_next : (read : Reader) (st : State) (n : ℕ) (line : List ℕ) → ChangesNothing (read line) → next read st (asks n line) ≡ st
quiet_next read st n line quiet = by_open (session_of st n).is_open refl
  where
    by_open : (b : Bool) → (session_of st n).is_open ≡ b → (if b then with_outcome st n (ask read st.log (session_of st n) line) else st) ≡ st
    by_open true is = only_tells st n (ask read st.log (session_of st n) line) is (read_tells st.log (session_of st n) (read line) quiet)
    by_open false is = refl

-- a line of a session that isn't open
pub closed_next : (read : Reader) (st : State) (n : ℕ) (line : List ℕ) → (session_of st n).is_open ≡ false → next read st (asks n line) ≡ st
closed_next read st n line is = λ i. if is i then with_outcome st n (ask read st.log (session_of st n) line) else st

pub goes_on : ReplayGoesOn
goes_on read st [] more = refl
goes_on read st (note ∷ first) more =
    let xs = steps_of st note in
    let after = run read st xs in
    run_append read st xs (replay read after (first ++ more))
    ∙ goes_on read after first more
    ∙ (λ i. let mid = sym (run_append read st xs (replay read after first)) i in run read mid (replay read mid more))

-- one step and its records
asks_kept : (quiet : Quiet) (read : Reader) → IsQuiet quiet read → (st : State) (n : ℕ) (line : List ℕ)
    → run read st (replay read st (records_of quiet st (asks n line))) ≡ next read st (asks n line)
asks_kept quiet read is_quiet st n line = cases (session_of st n).is_open (quiet line) refl refl
  where
    cases : (o q : Bool) → (session_of st n).is_open ≡ o → quiet line ≡ q → run read st (replay read st (if o && not q then asked n line ∷ [] else [])) ≡ next read st (asks n line)
    cases true false is q = refl
    cases true true is q = sym (quiet_next read st n line (is_quiet line q))
    cases false true is q = sym (closed_next read st n line is)
    cases false false is q = sym (closed_next read st n line is)

pub step_kept : (quiet : Quiet) (read : Reader) → IsQuiet quiet read → (st : State) (x : Step) → StayIn (x ∷ []) → run read st (replay read st (records_of quiet st x)) ≡ next read st x
step_kept quiet read is_quiet st opens stay = refl
step_kept quiet read is_quiet st (asks n line) stay = asks_kept quiet read is_quiet st n line
step_kept quiet read is_quiet st (refused n) stay = refl
step_kept quiet read is_quiet st long stay = refl
step_kept quiet read is_quiet st stray stay = refl
step_kept quiet read is_quiet st (leaves n) stay = absurd stay

stay_first : (x : Step) (steps : List Step) → StayIn (x ∷ steps) → StayIn (x ∷ [])
stay_first opens steps stay = tt
stay_first (asks n line) steps stay = tt
stay_first (refused n) steps stay = tt
stay_first long steps stay = tt
stay_first stray steps stay = tt
stay_first (leaves n) steps stay = absurd stay

stay_rest : (x : Step) (steps : List Step) → StayIn (x ∷ steps) → StayIn steps
stay_rest opens steps stay = stay
stay_rest (asks n line) steps stay = stay
stay_rest (refused n) steps stay = stay
stay_rest long steps stay = stay
stay_rest stray steps stay = stay
stay_rest (leaves n) steps stay = absurd stay

pub keeps : ReplayKeeps
keeps quiet read is_quiet st [] stay = refl
keeps quiet read is_quiet st (x ∷ steps) stay =
    let here = records_of quiet st x in
    let more = kept quiet read (next read st x) steps in
    let one = step_kept quiet read is_quiet st x (stay_first x steps stay) in
    goes_on read st here more
    ∙ (λ i. run read (one i) (replay read (one i) more))
    ∙ keeps quiet read is_quiet (next read st x) steps (stay_rest x steps stay)
