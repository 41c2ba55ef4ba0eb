-- decides: two worlds
-- What lies inside a level: the steps that are asked there, what they are told, and the part of a state. A level is any
-- list of tags; it need be no label, and its tags need not be made.
use Rattle.std.specs.Prelude.{ℕ, Bool, true, List, [], ◌∷◌, ◌++◌, map, length, take, drop, flat_map, Option, Some, None, if◌then◌else◌}
use Rattle.ifdb_label.specs.Tags.{MadeTag}
use Rattle.ifdb_label.specs.Label.{flows}
use Rattle.ifdb_row.specs.declared.slot.Slot.{Slot}
use Rattle.ifdb_row.specs.declared.write.Write.{Write}
use Rattle.ifdb_row.specs.Sides.{writes_on}
use Rattle.ifdb_model.specs.Log.{Entry, changes, commits, all_tags}
use Rattle.ifdb_model.specs.Session.{Txn, Session}
use Rattle.ifdb_model.specs.Step.{Reader}
use Rattle.ifdb_model.specs.Run.{State, session_of, Step, opens, asks, refused, long, stray, leaves, next, Told, told}

-- a slot's label flows to the level
abbrev pub is_inside_slot : List MadeTag → List ℕ → Slot → Bool
is_inside_slot tags level s = flows tags s.label level

-- a commit, if it wrote something
abbrev pub if_any : List Write → List Entry
if_any [] = []
if_any (w ∷ ws) = commits (w ∷ ws) ∷ []

-- a public change, or of a commit what is inside
abbrev pub keep_entry : List MadeTag → List ℕ → Entry → List Entry
keep_entry tags level (changes c) = changes c ∷ []
keep_entry tags level (commits ws) = if_any (writes_on (is_inside_slot tags level) ws)

-- the smaller log: its public changes, and its writes inside
abbrev pub keep : List MadeTag → List ℕ → List Entry → List Entry
keep tags level log = flat_map (keep_entry tags level) log

-- a transaction with its begin as a length of the smaller log
abbrev pub reindex_txn : List MadeTag → List ℕ → List Entry → Option Txn → Option Txn
reindex_txn tags level log None = None
reindex_txn tags level log (Some x) = Some (record { begin = length (keep tags level (take x.begin log)); own = x.own })

-- a session over the smaller log
abbrev pub reindex : List MadeTag → List ℕ → List Entry → Session → Session
reindex tags level log s = record s { txn = reindex_txn tags level log s.txn }

-- a session, where it is inside
abbrev pub shown : List MadeTag → List ℕ → List Entry → Session → Option Session
shown tags level log s = if flows tags s.label level then Some (reindex tags level log s) else None

-- what is inside of a state: the smaller log, and the sessions inside, each in its place
pub record Part : Type 0 where
  pub log : List Entry
  pub sessions : List (Option Session)

-- the part of a state that is inside
abbrev pub part : List ℕ → State → Part
part level st = record {
  log = keep (all_tags st.log) level st.log;
  sessions = map (shown (all_tags st.log) level st.log) st.sessions;
}

-- a session is inside: its label flows to the level
abbrev pub is_inside : List ℕ → State → ℕ → Bool
is_inside level st n = flows (all_tags st.log) (session_of st n).label level

-- a step is asked inside
abbrev pub asked : List ℕ → State → Step → Bool
asked level st opens = true
asked level st (asks n line) = is_inside level st n
asked level st (refused n) = is_inside level st n
asked level st long = true
asked level st stray = true
asked level st (leaves n) = is_inside level st n

-- the steps that are asked inside
abbrev pub low : Reader → List ℕ → State → List Step → List Step
low read level st [] = []
low read level st (x ∷ steps) = (if asked level st x then x ∷ [] else []) ++ low read level (next read st x) steps

-- what those are told
abbrev pub heard : Reader → List ℕ → State → List Step → List Told
heard read level st [] = []
heard read level st (x ∷ steps) = (if asked level st x then told read st x else []) ++ heard read level (next read st x) steps

-- of what some steps were told, one behind the other, what those asked inside were told: as many replies as each step has
abbrev pub picked : Reader → List ℕ → State → List Step → List Told → List Told
picked read level st [] all = []
picked read level st (x ∷ steps) all =
    (if asked level st x then take (length (told read st x)) all else []) ++ picked read level (next read st x) steps (drop (length (told read st x)) all)
