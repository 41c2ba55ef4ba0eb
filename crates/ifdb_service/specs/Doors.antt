-- decides: the service
-- What the service of doors did, as runs of doors in one history.
use Rattle.std.specs.Prelude.{◌≡◌, ◌≢◌, ◌⊎◌, ℕ, ◌+◌, Bool, true, false, List, [], ◌∷◌, ◌++◌, map, All, if◌then◌else◌}
use Rattle.ifdb_io.specs.Causes.{Rose}
use Rattle.ifdb_io.specs.Doors.{LosesFirst, Becomes}
use Rattle.ifdb_io.specs.declared.outside.Source as source
use Rattle.ifdb_io.specs.declared.outside.Sink as sink
use Rattle.ifdb_io.specs.declared.doors.Door as door
use Rattle.ifdb_pool.specs.Visits.{Visit, GainsAll}
use Rattle.ifdb_turn.specs.declared.turnstile.Pass.{Pass}
use Rattle.ifdb_turn.specs.Passes.{history, places}
use Rattle.ifdb_turn.specs.Places.{times}
use Rattle.ifdb_model.specs.Log.{Entry as LogEntry}
use Rattle.ifdb_history.specs.declared.entry.Entry.{Entry}
use Rattle.ifdb_history.specs.History.{HasRoot, AreEntriesOf}
use Rattle.ifdb_session.specs.declared.ending.Ending.{Ending}
use Rattle.ifdb_session.specs.declared.ending.Ending.TheVariants as ends
use Rattle.ifdb_session.specs.Acknowledged.{Acknowledges, sources_of}
use Rattle.ifdb_session.specs.Endings.{fault_of, capped}
use Rattle.ifdb_session.specs.Hosts.{span_of, HasCauses}
use Rattle.ifdb_session.specs.Links.{IsServed}

-- how a connection was served: how it ended, its session's number, and the places of the session's turns in the history
pub record Connection : Type 0 where
  pub ending : Ending
  pub number : ℕ
  pub turns : List ℕ

-- a door before and after, the connections that came through it, in order, and how each was served
pub record Run (D K : Type 0) : Type 0 where
  pub before : D
  pub after : D
  pub visits : List (Visit K)
  pub connections : List Connection

-- these are turns of session n, and the first one opened it
abbrev pub AreTurnsOf : ℕ → List Entry → List ℕ → Type 0
AreTurnsOf n h [] = ⊥
AreTurnsOf n h (place ∷ rest) = HasRoot h n place × AreEntriesOf n h (place ∷ rest)

-- the turns of some connections, in order
abbrev pub turns_of : List Connection → List ℕ
turns_of [] = []
turns_of (c ∷ cs) = c.turns ++ turns_of cs

-- how many of them ended otherwise than by BYE or at the end of their input
abbrev pub faults_in : List Connection → ℕ
faults_in [] = 0
faults_in (c ∷ cs) = fault_of c.ending + faults_in cs

-- how many of the turns of these doors' connections are at a place
abbrev pub turns_at : {D K : Type 0} → ℕ → List (Run D K) → ℕ
turns_at k [] = 0
turns_at k (r ∷ rs) = times k (turns_of r.connections) + turns_at k rs

-- 1 for a door that isn't at its end
abbrev pub one_unless : Bool → ℕ
one_unless ended = if ended then 0 else 1

-- how many connections ended otherwise than by BYE or at the end of their input, and how many doors weren't served to their end
abbrev pub faults_of : {D K : Type 0} → door.Ghosts D K → List (Run D K) → ℕ
faults_of doors [] = 0
faults_of doors (r ∷ rs) = (faults_in r.connections + one_unless (doors.ended r.after)) + faults_of doors rs

-- A history begins over a log. Of some texts of its records it is said that they are kept, and it may be said that the disk has failed.
module _ {K : Type 0} (sources : source.Ghosts K) (sinks : sink.Ghosts K) (first : List LogEntry) (IsKept : List (List ℕ) → Type 0) (HasFailed : Type 0) where
  -- A connection was served by a session of this history, and all is kept which its written replies were answered from; only
  -- where the disk has failed one was held back. Or there was no memory for it, and it went as it came.
  pub record IsLinked (limit : ℕ) (h : List Entry) (v : Visit K) (c : Connection) : Type 0 where
    pub served : c.ending ≢ ends.OutOfMemory → IsServed first c.ending limit c.number h (span_of sources sinks v.came v.went)
    pub turns : c.ending ≢ ends.OutOfMemory → AreTurnsOf c.number h c.turns
    pub acknowledged : c.ending ≢ ends.OutOfMemory → Acknowledges c.ending IsKept (sources_of first c.number h)
    pub unserved : c.ending ≡ ends.OutOfMemory → v.went ≡ v.came
    pub unopened : c.ending ≡ ends.OutOfMemory → c.turns ≡ []
    pub causes : HasCauses sources sinks c.ending v.came v.went
    pub unkept : c.ending ≡ ends.Unkept → HasFailed

  -- so was each of these
  abbrev pub AllLinked : ℕ → List Entry → List (Visit K) → List Connection → Type 0
  AllLinked limit h [] [] = Unit {0}
  AllLinked limit h [] (c ∷ cs) = ⊥
  AllLinked limit h (v ∷ vs) [] = ⊥
  AllLinked limit h (v ∷ vs) (c ∷ cs) = IsLinked limit h v c × AllLinked limit h vs cs

  -- The door gave these connections and has them back, and each was served in this history. The door is at its end, where
  -- all came that were to come; or its count of faults rose, or the disk has failed.
  pub record IsRunIn {D : Type 0} (doors : door.Ghosts D K) (limit : ℕ) (h : List Entry) (r : Run D K) : Type 0 where
    pub coming : LosesFirst (doors.coming r.before) (doors.coming r.after) (map (λ v. v.came) r.visits)
    pub back : GainsAll (doors.back r.before) (doors.back r.after) (map (λ v. v.went) r.visits)
    pub linked : AllLinked limit h r.visits r.connections
    pub all : doors.ended r.after ≡ true → Becomes (doors.coming r.before) (doors.coming r.after) []
    pub cause : doors.ended r.after ≡ false → Rose (doors.faults r.before) (doors.faults r.after) ⊎ HasFailed

  -- All doors were served, in the history that the pass has seen. The turns that the pass has got are those of the
  -- connections.
  pub record ServedAll {D X : Type 0} (doors : door.Ghosts D K) (limit : ℕ) (old now : Pass X Entry) (given back : List D) (faults : ℕ) : Type 0 where
    pub runs : List (Run D K)
    pub before : map (λ r. r.before) runs ≡ given
    pub after : map (λ r. r.after) runs ≡ back
    pub served : All (IsRunIn doors limit (history now)) runs
    pub total : faults ≡ capped (faults_of doors runs)
    pub own : (k : ℕ) → times k (places now) ≡ times k (places old) + turns_at k runs
