-- decides: a served database
-- What a service is asked where its lines are heard by a key for admin.
use Rattle.std.specs.Prelude.{◌≡◌, ℕ, List, map}
use Rattle.ifdb_keyed.specs.Keyed.{keyed_line}
use Rattle.ifdb_loop.specs.Dialogues.{Dialogue}
use Rattle.ifdb_hearer.specs.declared.hearer.Hearer.{Hearer}

-- a dialogue as it was heard: each line as it was heard, and all else as it was
abbrev pub heard_dialogue : List ℕ → Dialogue → Dialogue
heard_dialogue key d = record { lines = map (keyed_line key) d.lines; texts = d.texts; kept = d.kept; is_open = d.is_open }

-- the second has gone on from the first, by the same key
pub record GoesOn {S : Type 0} (Goes : S → S → Type 0) (s t : Hearer S) : Type 0 where
  pub key : t.key ≡ s.key
  pub service : Goes s.service t.service
