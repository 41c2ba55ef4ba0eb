-- decides: the service
-- What the service of a site did.
use Rattle.std.specs.Prelude.{◌≡◌, ◌⊎◌, ℕ, ◌<◌, List, [], ◌++◌, map, length, All, Some}
use Rattle.ifdb_model.specs.Log.{Entry as LogEntry}
use Rattle.std.specs.Io.KnownBytes.{Appends}
use Rattle.ifdb_io.specs.Causes.{WritesShort}
use Rattle.ifdb_io.specs.Doors.{Stays, LosesFirst, Becomes}
use Rattle.ifdb_io.specs.declared.outside.Source as source
use Rattle.ifdb_io.specs.declared.outside.Sink as sink
use Rattle.ifdb_io.specs.declared.doors.Door as door
use Rattle.ifdb_io.specs.declared.doors.Site as site
use Rattle.ifdb_turn.specs.declared.turnstile.Turnstile.{Turnstile}
use Rattle.ifdb_turn.specs.declared.turnstile.Pass.{Pass}
use Rattle.ifdb_turn.specs.Histories.{AllRight}
use Rattle.ifdb_turn.specs.Passes.{history, places, shares, BelongsTo, IsOrderly}
use Rattle.ifdb_turn.specs.Views.{all_shares}
use Rattle.ifdb_history.specs.declared.entry.Entry.{Entry}
use Rattle.ifdb_history.specs.History.{IsRight}
use Rattle.ifdb_session.specs.Counts.{counts_of}
use Rattle.ifdb_session.specs.Endings.{capped}
use Rattle.ifdb_session.specs.Starts.{start_of}
use Rattle.ifdb_words.specs.declared.service.Service.{Service}
use Rattle.ifdb_service.specs.Doors.{Run, IsRunIn, faults_of, turns_at}
use Rattle.ifdb_service.specs.Summary.{listening_line, summary_text}

-- a turnstile and its first pass, which has all shares and has seen nothing of a history that begins over a log
pub record IsNewHall {X : Type 0} (first : List LogEntry) (hall : Turnstile X Entry) (pass : Pass X Entry) : Type 0 where
  pub belongs : BelongsTo hall pass
  pub orderly : IsOrderly (IsRight (start_of first)) pass
  pub nothing : history pass ≡ []
  pub none : places pass ≡ []
  pub whole : shares pass ≡ all_shares

-- the whole output of a service of this port over a log, whose doors were these after it
abbrev pub output_text : {D K : Type 0} → List LogEntry → door.Ghosts D K → ℕ → List Entry → List (Run D K) → List ℕ
output_text first doors port h runs = listening_line port ++ summary_text (counts_of first h) (capped (faults_of doors runs))

module _ {S D K : Type 0} (sites : site.Ghosts S D K) where
  -- the site was last asked for what the words say
  abbrev pub IsAskedFor : Service → S → Type 0
  IsAskedFor s at = sites.asked at ≡ Some (record { port = s.port; count = s.workers; links = s.links })

  -- the site was asked for doors, gave the first that it had, and has these back
  pub record Exchanges (s : Service) (before after : S) (given back : List D) : Type 0 where
    pub asked : IsAskedFor s after
    pub first : LosesFirst (sites.waiting before) (sites.waiting after) given
    pub returned : Becomes (sites.back before) (sites.back after) back
    pub many : length given ≡ s.workers

  -- the site was asked for doors, and gave none
  pub record GivesNone (s : Service) (before after : S) : Type 0 where
    pub asked : IsAskedFor s after
    pub waiting : Stays (sites.waiting before) (sites.waiting after)
    pub back : Stays (sites.back before) (sites.back after)

module _ {S D K : Type 0} (sites : site.Ghosts S D K) (doors : door.Ghosts D K) (sources : source.Ghosts K) (sinks : sink.Ghosts K) where
  -- There is one history, each of whose turns is right after those before it and is one turn of one connection that came
  -- through the doors. It begins over a log, and what replies were answered from is kept. The output was written so.
  pub record IsServedOver (first : List LogEntry) (IsKept : List (List ℕ) → Type 0) (HasFailed : Type 0) (Wrote : List ℕ → Type 0) (s : Service) (before after : S) : Type 0 where
    pub log : List Entry
    pub order : AllRight (IsRight (start_of first)) log
    pub given : List D
    pub back : List D
    pub exchanged : Exchanges sites s before after given back
    pub runs : List (Run D K)
    pub given_are : map (λ r. r.before) runs ≡ given
    pub back_are : map (λ r. r.after) runs ≡ back
    pub served : All (IsRunIn sources sinks first IsKept HasFailed doors s.limit log) runs
    pub each : (k : ℕ) → k < length log → turns_at k runs ≡ 1
    pub written : Wrote (output_text first doors s.port log runs)

  -- so it is over no log, in memory alone, where nothing is to be kept and no reply is held back
  abbrev pub IsServed : (List ℕ → Type 0) → Service → S → S → Type 0
  IsServed = IsServedOver [] (λ _. Unit {0}) ⊥

  module _ {W : Type 0} (outputs : sink.Ghosts W) where
    -- the service is done
    abbrev pub IsDone : Service → S → S → W → W → Type 0
    IsDone s before after output output' =
        IsServed (Appends (outputs.written output) (outputs.written output')) s before after

    -- the output failed: before a connection was taken, and the doors went back as they came, or all was served, and the
    -- output was cut
    abbrev pub IsCut : Service → S → S → W → W → Type 0
    IsCut s before after output output' =
        (((given : List D) × Exchanges sites s before after given given)
        × WritesShort (outputs.written output) (outputs.written output') (listening_line s.port))
        ⊎ IsServed (WritesShort (outputs.written output) (outputs.written output')) s before after

    -- nobody was served: the site gave no doors or has them back as they came, and the output has nothing or the line that
    -- says that connections may come
    pub record IsUnserved (s : Service) (before after : S) (output output' : W) : Type 0 where
      pub at_site : GivesNone sites s before after ⊎ ((given : List D) × Exchanges sites s before after given given)
      pub written : (output' ≡ output) ⊎ Appends (outputs.written output) (outputs.written output') (listening_line s.port)
