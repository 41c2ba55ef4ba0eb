-- decides: a served database
-- Public changes that are made again from their lines, and the log that records restore.
use Rattle.std.specs.Prelude.{◌≡◌, ℕ, Bool, true, List, [], ◌∷◌, ◌++◌, Option, Some, None, if◌then◌else◌}
use Rattle.ifdb_row.specs.declared.write.Write.{Write}
use Rattle.ifdb_redo.specs.declared.record.RedoRecord.{RedoRecord}
use Rattle.ifdb_redo.specs.declared.record.RedoRecord.TheVariants as redo
use Rattle.ifdb_bound.specs.declared.request.Change.{Change}
use Rattle.ifdb_model.specs.Log.{Entry, changes, commits, public_of}
use Rattle.ifdb_model.specs.Session.{Session}
use Rattle.ifdb_model.specs.Step.{Reader, ask}
use Rattle.ifdb_model.specs.Run.{State, opening, session_of, Step, opens, asks, refused, long, stray, leaves, next, run}

-- a session of a principal that stands outside transactions at the empty label, under no ceiling
abbrev pub idle : ℕ → Session
idle asker = record { is_open = true; principal = Some asker; ceiling = None; label = []; txn = None }

-- the public change, if the entry is one
abbrev pub change_of : Option Entry → Option Change
change_of None = None
change_of (Some (changes c)) = Some c
change_of (Some (commits ws)) = None

-- the public change that a principal's line makes over a log, if it makes one
abbrev pub redone : Reader → List Entry → ℕ → List ℕ → Option Change
redone read log asker line = change_of (ask read log (idle asker) line).added

-- A change that a session's line made is made again by the line and the session's principal, over any log with the same public
-- state: whatever the session's ceiling was.
pub record IsRedone (read : Reader) (log other : List Entry) (s : Session) (line : List ℕ) (c : Change) : Type 0 where
  pub asker : ℕ
  pub principal : s.principal ≡ Some asker
  pub again : redone read other asker line ≡ Some c

abbrev pub ChangesAreRedone : Type 0
ChangesAreRedone = (read : Reader) (log other : List Entry) (s : Session) (line : List ℕ) (c : Change)
    → public_of log ≡ public_of other → (ask read log s line).added ≡ Some (changes c) → IsRedone read log other s line c

-- ---- redo records

-- the record of an entry that a principal's line added
abbrev pub recorded : Option ℕ → List ℕ → Option Entry → List RedoRecord
recorded asker line None = []
recorded asker line (Some (commits ws)) = redo.Commit ws ∷ []
recorded None line (Some (changes c)) = []
recorded (Some asker) line (Some (changes c)) = redo.Change asker line ∷ []

-- the records of a step, and of some steps
abbrev pub records_at : Reader → State → Step → List RedoRecord
records_at read st opens = []
records_at read st (asks n line) =
    if (session_of st n).is_open then recorded (session_of st n).principal line (ask read st.log (session_of st n) line).added else []
records_at read st (refused n) = []
records_at read st long = []
records_at read st stray = []
records_at read st (leaves n) = []

abbrev pub records : Reader → State → List Step → List RedoRecord
records read st [] = []
records read st (x ∷ steps) = records_at read st x ++ records read (next read st x) steps

-- whether a commit may be installed over a log
abbrev pub Test : Type 0
Test = List Entry → List Write → Bool

-- the entry of a record over a log, if it fits
abbrev pub entry_if : Option Change → Option Entry
entry_if None = None
entry_if (Some c) = Some (changes c)

abbrev pub installed : Reader → Test → List Entry → RedoRecord → Option Entry
installed read fits log (redo.Change asker line) = entry_if (redone read log asker line)
installed read fits log (redo.Commit ws) = if fits log ws then Some (commits ws) else None

-- a log with one more entry, if there is one
abbrev pub longer : List Entry → Option Entry → Option (List Entry)
longer log None = None
longer log (Some e) = Some (log ++ e ∷ [])

-- one more record, behind a log that was restored
abbrev pub grown : Reader → Test → Option (List Entry) → RedoRecord → Option (List Entry)
grown read fits None r = None
grown read fits (Some log) r = longer log (installed read fits log r)

-- the log that some records restore behind another, if each fits
abbrev pub restored_behind : Reader → Test → Option (List Entry) → List RedoRecord → Option (List Entry)
restored_behind read fits o [] = o
restored_behind read fits o (r ∷ rs) = restored_behind read fits (grown read fits o r) rs

abbrev pub restored : Reader → Test → List Entry → List RedoRecord → Option (List Entry)
restored read fits log rs = restored_behind read fits (Some log) rs

-- each commit that a run adds passes the test
abbrev pub CommitsPass : Reader → Test → Type 0
CommitsPass read fits = (steps : List Step) (n : ℕ) (line : List ℕ) (ws : List Write) → let st = run read opening steps in
    (session_of st n).is_open ≡ true → (ask read st.log (session_of st n) line).added ≡ Some (commits ws) → fits st.log ws ≡ true

-- the records of a run restore its log
abbrev pub RecordsRestore : Type 0
RecordsRestore = (read : Reader) (fits : Test) (steps : List Step) → CommitsPass read fits
    → restored read fits [] (records read opening steps) ≡ Some (run read opening steps).log
