-- What is recorded of a line.
use Rattle.std.specs.Prelude.{◌≡◌, ◌≤◌, ℕ, List, [], ◌∷◌, length, Option, Some, None, Result, Ok, Err}
use Rattle.ifdb_redo.specs.declared.record.RedoRecord.{RedoRecord}
use Rattle.ifdb_redo.specs.Spelling as spell
use Rattle.ifdb_redo.specs.Reading.{record_of}
use Rattle.ifdb_syntax.specs.declared.request.Request.{Request}
use Rattle.ifdb_wire.specs.declared.fault.Fault.{Fault}
use Rattle.ifdb_wire.specs.declared.reply.Reply.{Reply}
use Rattle.ifdb_model.specs.Step.{Outcome}
use Rattle.ifdb_model.specs.Run.{State, asks}
use Rattle.ifdb_restore.specs.Redone.{recorded, records_at}
use Rattle.ifdb_db.specs.Client.{standing}
use Rattle.ifdb_db.specs.Desk.{Desk}
use Rattle.ifdb_db.specs.Outside.{outside}
use Rattle.ifdb_db.specs.Reading.{read_line}
use Rattle.ifdb_db.specs.Room.{Hall, StandsFor}

-- a note: how long a record's text may be, if a record is wanted, and the record that it holds
pub record Noted : Type 0 where
  pub limit : Option ℕ
  pub held : Option RedoRecord

-- what a text is read as
abbrev pub read_of : Option (List ℕ) → Option RedoRecord
read_of None = None
read_of (Some text) = record_of text

-- the text of a record
abbrev pub text_of : Option RedoRecord → Option (List ℕ)
text_of None = None
text_of (Some r) = Some (spell.text r)

-- no text is longer than the limit, and there is none where none is wanted
abbrev pub IsWithin : Option ℕ → Option (List ℕ) → Type 0
IsWithin limit None = Unit {0}
IsWithin None (Some text) = ⊥
IsWithin (Some limit) (Some text) = length text ≤ limit

-- such a text, which is the text of what it is read as
pub record IsNote (limit : Option ℕ) (text : Option (List ℕ)) : Type 0 where
  pub within : IsWithin limit text
  pub spelled : text_of (read_of text) ≡ text

-- a note without a record
abbrev pub blank : Noted → Noted
blank n = record n { held = None }

-- with a record, if one is wanted
abbrev pub holding : Option ℕ → Noted → RedoRecord → Noted
holding None n r = n
holding (Some limit) n r = record n { held = Some r }

-- with the records of a line, of which there is one at most
abbrev pub noted : Noted → List RedoRecord → Noted
noted n [] = n
noted n (r ∷ rs) = holding n.limit n r

-- what a principal's line came to is noted; of an error nothing is said but that the limit stays
abbrev pub IsNoted : Outcome → Option ℕ → List ℕ → Noted → Noted → Result Reply Fault → Type 0
IsNoted o asker line n m (Ok r) = m ≡ noted n (recorded asker line o.added)
IsNoted o asker line n m (Err f) = m.limit ≡ n.limit

-- the same of a request outside a transaction, whatever the ceiling is
abbrev pub IsNotedAt : ℕ → List ℕ → Request → List ℕ → Desk → Noted → Noted → Result Reply Fault → Type 0
IsNotedAt asker l r line x n m told = (c : Option (List ℕ)) → IsNoted (outside x (standing asker c l) r) (Some asker) line n m told

-- whatever state a room stood for, the records of a line of a session are noted, and nothing else
abbrev pub IsNotedIn : Hall → ℕ → List ℕ → Noted → Noted → Type 0
IsNotedIn h n line a b = (st : State) → StandsFor h st → b ≡ noted (blank a) (records_at read_line st (asks n line))
