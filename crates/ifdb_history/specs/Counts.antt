-- decides: the service
-- What is counted of a history.
use Rattle.std.specs.Prelude.{ℕ, ◌+◌, Bool, true, false, ◌&&◌, not, List, [], ◌∷◌, length, if◌then◌else◌}
use Rattle.ifdb_wire.specs.declared.reply.Reply.{Reply}
use Rattle.ifdb_wire.specs.declared.reply.Reply.TheVariants as reply
use Rattle.ifdb_model.specs.Log.{commits_of, content_of}
use Rattle.ifdb_model.specs.Session.{in_txn}
use Rattle.ifdb_model.specs.Step.{Reader}
use Rattle.ifdb_model.specs.Run.{State, session_of, run, outcome_of}
use Rattle.ifdb_history.specs.declared.entry.Entry.{Entry}
use Rattle.ifdb_history.specs.declared.entry.Kind.{Kind}
use Rattle.ifdb_history.specs.declared.entry.Kind.TheVariants as kind
use Rattle.ifdb_history.specs.History.{Start, first_state, work_steps, steps_of, after, added_in}

-- the reply is a refusal
abbrev pub is_refusal : Reply → Bool
is_refusal (reply.Refused f) = true
is_refusal _ = false

-- A line's COMMIT is refused: it ends the session's transaction and is told a refusal. ROLLBACK, BYE and a COMMIT that goes
-- through aren't refused, and no other line ends a transaction.
abbrev pub refuses_commit : Reader → State → ℕ → List ℕ → Bool
refuses_commit read st n line =
    in_txn (session_of st n).txn && not (in_txn (outcome_of read st n line).session.txn) && is_refusal (outcome_of read st n line).reply

-- 1 where a turn's line is such a one
abbrev pub refusal_of : Reader → State → Kind → ℕ
refusal_of read st (kind.Asked n work line) = if refuses_commit read (run read st (work_steps n work)) n line then 1 else 0
refusal_of read st _ = 0

-- how many there are from a state on
abbrev pub refusals_from : Reader → State → List Entry → ℕ
refusals_from read st [] = 0
refusals_from read st (e ∷ h) = refusal_of read st e.kind + refusals_from read (run read st (steps_of e.kind)) h

-- how many sessions were opened
abbrev pub sessions_in : Start → List Entry → ℕ
sessions_in start h = length (after start h).sessions

-- how many commits the history added, of transactions and of single statements
abbrev pub commits_in : Start → List Entry → ℕ
commits_in start h = length (commits_of (added_in start h))

-- how many COMMITs were refused
abbrev pub refusals_in : Start → List Entry → ℕ
refusals_in start h = refusals_from start.read (first_state start) h

-- how many rows there are, whoever sees them, with those that there were when it began
abbrev pub rows_in : Start → List Entry → ℕ
rows_in start h = length (content_of (after start h).log)
