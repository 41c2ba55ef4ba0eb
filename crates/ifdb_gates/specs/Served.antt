-- decides: a served database
-- What the service of gates did, as connections of one history.
use Rattle.std.specs.Prelude.{◌≡◌, ◌⊎◌, ℕ, ◌<◌, false, List, [], ◌∷◌, ◌++◌, map, All, Some, IfSome, count_by, nat_eq}
use Rattle.ifdb_io.specs.Causes.{Rose}
use Rattle.ifdb_loop.specs.declared.gate.Gate as gate
use Rattle.ifdb_loop.specs.declared.port.Port as port
use Rattle.ifdb_loop.specs.declared.ending.Ending.TheVariants as ends
use Rattle.ifdb_loop.specs.declared.ending.Halt.{Halt}
use Rattle.ifdb_loop.specs.declared.ending.Halt.TheVariants as halts
use Rattle.ifdb_loop.specs.Closings.{Exchanges}
use Rattle.ifdb_loop.specs.Dialogues.{Dialogue}
use Rattle.ifdb_loop.specs.Standing.{traffic_of}
use Rattle.ifdb_loop.specs.Visits.{Visit}
use Rattle.ifdb_turn.specs.declared.turnstile.Pass.{Pass}
use Rattle.ifdb_turn.specs.Passes.{history, places}
use Rattle.ifdb_model.specs.Log.{Entry as LogEntry}
use Rattle.ifdb_history.specs.declared.entry.Entry.{Entry}
use Rattle.ifdb_session.specs.Links.{long_text}
use Rattle.ifdb_hearer.specs.Hearers.{heard_dialogue}
use Rattle.ifdb_desk.specs.Opened.{opened_in}
use Rattle.ifdb_desk.specs.Overs.{IsOver}

-- a gate before and after, and the connections that came through it and are over, in their order
pub record Run (G P : Type 0) : Type 0 where
  pub before : G
  pub after : G
  pub visits : List (Visit P)

-- the numbers of the sessions of all these connections
abbrev pub numbers_of : {G P : Type 0} → List (Run G P) → List ℕ
numbers_of [] = []
numbers_of (r ∷ rs) = map (λ v. v.number) r.visits ++ numbers_of rs

-- how often a number is among these
abbrev pub times_in : ℕ → List ℕ → ℕ
times_in n ns = count_by (nat_eq n) ns

-- a loop has halted for this cause, where its gate has failed so often, and it may be said that the disk has
abbrev pub IsHalted : Type 0 → ℕ → Halt → Type 0
IsHalted HasFailed faults halts.Gate = 0 < faults
IsHalted HasFailed faults halts.Unkept = HasFailed

-- A history begins over a log, and is heard by a key for admin. A connection may give so many bytes. Of some texts of its records it is said that they are kept, and it may
-- be said that the disk has failed.
module _ {P : Type 0} (ports : port.Ghosts P) (key : List ℕ) (limit : ℕ) (first : List LogEntry) (IsKept : List (List ℕ) → Type 0) (HasFailed : Type 0) where
  -- A connection was served by a session of this history, whose lines are those that its peer said, as they were heard, and is over.
  -- All that it was told was written, but where writing has failed or its loop has halted.
  pub record IsServed (h : List Entry) (faults : ℕ) (v : Visit P) : Type 0 where
    pub dialogue : Dialogue
    pub owed : List ℕ
    pub over : IsOver first IsKept h v.number (heard_dialogue key dialogue)
    pub exchanged : Exchanges long_text (Some v.over.ending) (traffic_of ports v.over.port) limit 0 [] owed dialogue
    pub paid : (owed ≡ []) ⊎ ((0 < ports.unwritten v.over.port) ⊎ ((halt : Halt) × IsHalted HasFailed faults halt))
    pub halted : (halt : Halt) → v.over.ending ≡ ends.Halted halt → IsHalted HasFailed faults halt

  module _ {G : Type 0} (gates : gate.Ghosts G P) where
    -- All connections that came through a gate were served and given back. The gate is at its end; or its count of faults rose, or the
    -- disk has failed.
    pub record IsRunIn (h : List Entry) (r : Run G P) : Type 0 where
      pub back : IfSome (gates.back r.after) (λ told. told ≡ map (λ v. v.over) r.visits)
      pub none_out : gates.out r.after ≡ 0
      pub served : All (IsServed h (gates.faults r.after)) r.visits
      pub cause : gates.ended r.after ≡ false → Rose (gates.faults r.before) (gates.faults r.after) ⊎ HasFailed

    -- All gates were served, in the history that the pass has seen. The sessions that were opened by the pass's own turns are those of
    -- the connections, each of one.
    pub record ServedAll {X : Type 0} (now : Pass X Entry) (given returned : List G) : Type 0 where
      pub runs : List (Run G P)
      pub before : map (λ r. r.before) runs ≡ given
      pub after : map (λ r. r.after) runs ≡ returned
      pub served : All (IsRunIn (history now)) runs
      pub own : (n : ℕ) → times_in n (numbers_of runs) ≡ times_in n (opened_in (history now) (places now))
