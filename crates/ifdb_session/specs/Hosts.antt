-- decides: the service
-- What a host does with the connections that it serves.
use Rattle.std.specs.Prelude.{◌≡◌, ◌≢◌, ℕ, ◌+◌, ◌≤◌, ◌^◌}
use Rattle.ifdb_io.specs.Causes.{Rose}
use Rattle.ifdb_io.specs.declared.outside.Source as source
use Rattle.ifdb_io.specs.declared.outside.Sink as sink
use Rattle.ifdb_turn.specs.Passes.{history, places, BelongsTo, IsOrderly}
use Rattle.ifdb_history.specs.History.{IsRight}
use Rattle.ifdb_session.specs.declared.ending.Ending.{Ending}
use Rattle.ifdb_session.specs.declared.ending.Ending.TheVariants as ends
use Rattle.ifdb_session.specs.declared.host.SessionHost.{SessionHost}
use Rattle.ifdb_session.specs.declared.records.Records as recorder
use Rattle.ifdb_session.specs.declared.settles.Settles as settler
use Rattle.ifdb_session.specs.Acknowledged.{IsAcknowledged}
use Rattle.ifdb_session.specs.Endings.{fault_of, capped}
use Rattle.ifdb_session.specs.Passes.{Sees}
use Rattle.ifdb_session.specs.Links.{Span, Served}
use Rattle.ifdb_session.specs.Starts.{start_of}

-- the host's pass is its own, is at the turnstile and has no turn, its limit is in range, and it may wait
pub record IsHostReady {R K Q S : Type 0} (recorders : recorder.Ghosts Q) (settlers : settler.Ghosts S Q) (h : SessionHost R K Q S) : Type 0 where
  pub keeper : settlers.ready h.keeper
  pub belongs : BelongsTo h.hall.now h.pass
  pub orderly : IsOrderly (IsRight (start_of recorders.first)) h.pass
  pub limit : h.limit ≤ 2 ^ 40

-- how a connection was served: how it ended, and its session's number, if it has one
pub record Service : Type 0 where
  pub ending : Ending
  pub number : ℕ

module _ {K : Type 0} (sources : source.Ghosts K) (sinks : sink.Ghosts K) where
  -- what a connection meant as it came and as it went
  abbrev pub span_of : K → K → Span
  span_of came went = record {
    left = sources.left came;
    left_now = sources.left went;
    written = sinks.written came;
    written_now = sinks.written went;
  }

  -- a connection that failed has counted so, and one whose input ended has counted no failed read
  pub record HasCauses (ending : Ending) (came went : K) : Type 0 where
    pub read : ending ≡ ends.LinkRead → Rose (sources.faults came) (sources.faults went)
    pub write : ending ≡ ends.LinkWrite → Rose (sinks.faults came) (sinks.faults went)
    pub unfailed : ending ≢ ends.LinkRead → sources.faults went ≡ sources.faults came

  -- The host served one connection, by one session; or there was no memory for it, and it went as it came. What the written
  -- replies were answered from is kept, and only where it is known that the disk has failed one was held back.
  pub record Serves {R Q S : Type 0} (recorders : recorder.Ghosts Q) (settlers : settler.Ghosts S Q) (h : SessionHost R K Q S) (came : K) (h' : SessionHost R K Q S) (went : K) : Type 0 where
    pub hall : h'.hall ≡ h.hall
    pub limit : h'.limit ≡ h.limit
    pub sees : Sees recorders.first h.hall.now h.pass h'.pass
    pub keeper : settlers.goes_on h.keeper h'.keeper
    pub shares : (n : ℕ) → settlers.has_shares h.keeper n → settlers.has_shares h'.keeper n
    pub service : Service
    pub served : service.ending ≢ ends.OutOfMemory → Served recorders.first service.ending h.limit service.number h.pass h'.pass (span_of came went)
    pub unserved : service.ending ≡ ends.OutOfMemory → went ≡ came
    pub unopened : service.ending ≡ ends.OutOfMemory → places h'.pass ≡ places h.pass
    pub causes : HasCauses service.ending came went
    pub acknowledged : service.ending ≢ ends.OutOfMemory → IsAcknowledged recorders settlers service.ending service.number (history h'.pass) h'.keeper
    pub unkept : service.ending ≡ ends.Unkept → settlers.has_failed h'.keeper
    pub faults : h'.faults ≡ capped (h.faults + fault_of service.ending)
