-- decides: the service
-- What is counted of the turns at a shared room.
use Rattle.std.specs.Prelude.{◌≡◌, ℕ, ◌+◌, Bool, true, false, ◌&&◌, ◌||◌, not, nat_lt, List, length, Option, Some, None, if◌then◌else◌}
use Rattle.std.specs.Option.{is_some}
use Rattle.ifdb_wire.specs.declared.reply.Reply.{Reply}
use Rattle.ifdb_wire.specs.declared.reply.Reply.TheVariants as reply
use Rattle.ifdb_model.specs.Log.{Entry as LogEntry, changes, commits}
use Rattle.ifdb_model.specs.Step.{Reader}
use Rattle.ifdb_model.specs.Run.{State, run, outcome_of}
use Rattle.ifdb_db.specs.Room.{Hall, client_in}
use Rattle.ifdb_history.specs.declared.entry.Entry.{Entry}
use Rattle.ifdb_history.specs.declared.entry.Kind.{Kind}
use Rattle.ifdb_history.specs.declared.entry.Kind.TheVariants as kind
use Rattle.ifdb_history.specs.History.{work_steps}
use Rattle.ifdb_history.specs.Counts.{is_refusal, refuses_commit, sessions_in, commits_in, refusals_in, rows_in}
use Rattle.ifdb_session.specs.declared.counts.Counts.{Counts}
use Rattle.ifdb_session.specs.declared.counts.Glance.{Glance}
use Rattle.ifdb_session.specs.Endings.{capped}
use Rattle.ifdb_session.specs.Starts.{start_of}

-- what is counted of a history
abbrev pub counts_of : List LogEntry → List Entry → Counts
counts_of first h = record {
  sessions = capped (sessions_in (start_of first) h);
  entries = capped (length h);
  commits = capped (commits_in (start_of first) h);
  refused = capped (refusals_in (start_of first) h);
  rows = capped (rows_in (start_of first) h);
}

-- a count, and one more if it is so; it stops at its last value
abbrev pub counted : ℕ → Bool → ℕ
counted n is_so = if is_so then capped (n + 1) else n

-- ---- what a turn is counted as

-- an entry of the log, if there is one, is a commit
abbrev pub is_commit : Option LogEntry → Bool
is_commit None = false
is_commit (Some (changes c)) = false
is_commit (Some (commits ws)) = true

-- the turn commits
abbrev pub commits_at : Reader → State → Kind → Bool
commits_at read st (kind.Asked n work line) = is_commit (outcome_of read (run read st (work_steps n work)) n line).added
commits_at read st _ = false

-- the turn is a COMMIT that is refused
abbrev pub refuses_at : Reader → State → Kind → Bool
refuses_at read st (kind.Asked n work line) = refuses_commit read (run read st (work_steps n work)) n line
refuses_at read st _ = false

-- ---- how the room tells

-- the reply counts rows
abbrev pub is_count : Reply → Bool
is_count (reply.Count n) = true
is_count _ = false

-- the log of the room is so long, and its session n has a transaction or none
abbrev pub IsGlance : Hall → ℕ → Glance → Type 0
IsGlance h n g = (g.entries ≡ h.desk.count) × (g.in_transaction ≡ is_some (client_in h n).txn)

-- what was seen before a line and after it says that it committed
abbrev pub has_committed : Glance → Glance → Reply → Bool
has_committed before after r = nat_lt before.entries after.entries && (before.in_transaction || is_count r)

-- or that it was a COMMIT that was refused
abbrev pub has_refused : Glance → Glance → Reply → Bool
has_refused before after r = before.in_transaction && not after.in_transaction && is_refusal r
