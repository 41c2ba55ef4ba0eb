-- decides: a served database
-- What is so of a connection and its session.
use Rattle.std.specs.Prelude.{◌≡◌, ◌≢◌, ◌⊎◌, ◌<◌, ℕ, List, [], Option, Some, true}
use Rattle.ifdb_loop.specs.declared.port.Port as port
use Rattle.ifdb_loop.specs.declared.service.Service as service
use Rattle.ifdb_loop.specs.declared.client.Client.{Client}
use Rattle.ifdb_loop.specs.declared.ending.Halt.{Halt}
use Rattle.ifdb_loop.specs.declared.ending.Halt.TheVariants as halts
use Rattle.ifdb_loop.specs.declared.ending.Ending.{Ending}
use Rattle.ifdb_loop.specs.declared.ending.Ending.TheVariants as ends
use Rattle.ifdb_loop.specs.Traffic.{Traffic}
use Rattle.ifdb_loop.specs.Dialogues.{Dialogue}
use Rattle.ifdb_loop.specs.Visits.{Visit}
use Rattle.ifdb_loop.specs.Closings.{EndsItself, Exchanges}

module _ {P : Type 0} (ports : port.Ghosts P) where
  abbrev pub traffic_of : P → Traffic
  traffic_of p = record { given = ports.given p; left = ports.left p; written = ports.written p; unread = ports.unread p; unwritten = ports.unwritten p }

  -- a connection that may give so many bytes, has ended so, if it has, and of which these bytes are held, has exchanged the dialogue
  abbrev pub HasExchanged : {T : Type 0} → List ℕ → ℕ → Client P T → Option Ending → List ℕ → Dialogue → Type 0
  HasExchanged long limit c ending held d = Exchanges long ending (traffic_of c.port) limit c.room held c.wires.owed d

  -- whatever dialogue it had exchanged before its end, it has exchanged still
  abbrev pub StillExchanges : {T : Type 0} → Client P T → Client P T → Option Ending → List ℕ → Type 0
  StillExchanges c c' ending held =
      (long : List ℕ) (limit : ℕ) (d : Dialogue) → HasExchanged long limit c c.ending c.wires.held d → HasExchanged long limit c' ending held d

module _ {S T P : Type 0} (services : service.Ghosts S T) (ports : port.Ghosts P) where
  -- a connection that has ended so, if it has, and of which these bytes are held, has exchanged what its session was asked and told
  abbrev pub Stands : S → Client P T → Option Ending → List ℕ → Type 0
  Stands s c ending held = (d : Dialogue) × services.says s c.seat d × HasExchanged ports services.long_text (services.limit s) c ending held d

  -- so it is with a connection as it is, and writing has failed if it is lost
  abbrev pub IsServed : S → Client P T → Type 0
  IsServed s c = Stands s c c.ending c.wires.held × (c.is_lost ≡ true → 0 < ports.unwritten c.port) × EndsItself c.ending

  -- what was said of the sessions of other numbers is so still
  abbrev pub KeepsOthers : S → S → ℕ → Type 0
  KeepsOthers old new n = (other : T) (d : Dialogue) → services.number other ≢ n → services.says old other d → services.says new other d

  -- the loop has halted for this cause, where its gate has failed so often
  abbrev pub HasHalted : S → ℕ → Halt → Type 0
  HasHalted s faults halts.Gate = 0 < faults
  HasHalted s faults halts.Unkept = services.has_failed s

  -- A connection was served and is over, and so is its session. All that it was told was written, but where writing has failed
  -- or the loop has halted.
  pub record WasServed (s : S) (faults : ℕ) (v : Visit P) : Type 0 where
    pub dialogue : Dialogue
    pub owed : List ℕ
    pub over : services.is_over s v.number dialogue
    pub exchanged : Exchanges services.long_text (Some v.over.ending) (traffic_of ports v.over.port) (services.limit s) 0 [] owed dialogue
    pub paid : (owed ≡ []) ⊎ ((0 < ports.unwritten v.over.port) ⊎ ((halt : Halt) × HasHalted s faults halt))
    pub halted : (halt : Halt) → v.over.ending ≡ ends.Halted halt → HasHalted s faults halt
