-- What the law of ceilings says of the one history of all connections.
use Rattle.std.specs.Prelude.{◌≡◌, ℕ, true, List, [], ◌++◌, Some}
use Rattle.ifdb_label.specs.Label.{flows}
use Rattle.ifdb_catalog.specs.Public.{clearance_of}
use Rattle.ifdb_model.specs.Log.{all_tags, public_of}
use Rattle.ifdb_model.specs.Step.{Reader}
use Rattle.ifdb_model.specs.Run.{session_of}
use Rattle.ifdb_model.specs.Low.{is_inside}
use Rattle.ifdb_history.specs.declared.entry.Entry.{Entry}
use Rattle.ifdb_history.specs.History.{Start, after}

-- a history begins with no log
abbrev pub from_nothing : Reader → Start
from_nothing read = record { read = read; log = [] }

-- the session said HELLO for a principal with a clearance, which flows to the level
pub record IsClearedBelow (read : Reader) (level : List ℕ) (h : List Entry) (n : ℕ) : Type 0 where
  pub principal : ℕ
  pub greeted : (session_of (after (from_nothing read) h) n).principal ≡ Some principal
  pub clearance : List ℕ
  pub made_with : clearance_of (public_of (after (from_nothing read) h).log) principal ≡ Some clearance
  pub below : flows (all_tags (after (from_nothing read) h).log) clearance level ≡ true

-- such a session is inside the level after each part of the history, from its Open on
abbrev pub ClearedStayInside : Type 0
ClearedStayInside = (read : Reader) (level : List ℕ) (h more : List Entry) (n : ℕ) → IsClearedBelow read level (h ++ more) n
    → is_inside level (after (from_nothing read) h) n ≡ true
