-- One connection of a host.
use Rattle.std.proofs.Common.{◌≡◌, ◌≢◌, ℕ, ◌+◌, ◌<◌, ◌^◌, true, false, ◌∙◌, refl, sym, ap, arith, cond}
use Rattle.ifdb_io.specs.Causes.{Rose}
use Rattle.ifdb_io.specs.declared.outside.Source as source
use Rattle.ifdb_io.specs.declared.outside.Sink as sink
use Rattle.ifdb_turn.specs.declared.turnstile.Pass.{Pass}
use Rattle.ifdb_turn.specs.Passes.{history, places}
use Rattle.ifdb_history.specs.declared.entry.Entry.{Entry}
use Rattle.ifdb_session.specs.declared.ending.Ending.{Ending}
use Rattle.ifdb_session.specs.declared.ending.Ending.TheVariants as ends
use Rattle.ifdb_session.specs.declared.host.SessionHost.{SessionHost}
use Rattle.ifdb_session.specs.declared.records.Records as recorder
use Rattle.ifdb_session.specs.declared.settles.Settles as settler
use Rattle.ifdb_session.specs.declared.shared.SharedRoom.{SharedRoom}
use Rattle.ifdb_session.specs.Acknowledged.{IsAcknowledged}
use Rattle.ifdb_session.specs.Endings.{is_orderly, fault_of, capped}
use Rattle.ifdb_session.specs.Keepers.{StaysReady}
use Rattle.ifdb_session.specs.Passes.{Sees}
use Rattle.ifdb_session.specs.Links.{Served}
use Rattle.ifdb_session.specs.Hosts.{span_of, Serves}

-- one number for all ends: 0 where no session was opened
number_first : (P : ℕ → Type 0) (ending : Ending) → (ending ≢ ends.OutOfMemory → (n : ℕ) × P n) → (n : ℕ) × (ending ≢ ends.OutOfMemory → P n)
number_first P ends.Bye f = let s = f (λ e. cc) in (s.0, λ _. s.1)
number_first P ends.End f = let s = f (λ e. cc) in (s.0, λ _. s.1)
number_first P ends.LinkRead f = let s = f (λ e. cc) in (s.0, λ _. s.1)
number_first P ends.LinkWrite f = let s = f (λ e. cc) in (s.0, λ _. s.1)
number_first P ends.Unkept f = let s = f (λ e. cc) in (s.0, λ _. s.1)
number_first P ends.TooMuch f = let s = f (λ e. cc) in (s.0, λ _. s.1)
number_first P ends.TooLong f = let s = f (λ e. cc) in (s.0, λ _. s.1)
number_first P ends.OutOfMemory f = (0, λ not. absurd (not refl))

-- the count, by what the end was
pub one_more_fault : (faults now : ℕ) (ending : Ending) → now ≡ capped (faults + 1) → is_orderly ending ≡ false → now ≡ capped (faults + fault_of ending)
one_more_fault faults now ending is fault = is ∙ ap (λ b. capped (faults + cond b 0 1)) (sym fault)

pub no_more_faults : (faults : ℕ) (ending : Ending) → faults < 2 ^ 64 → is_orderly ending ≡ true → faults ≡ capped (faults + fault_of ending)
no_more_faults faults ending lt orderly =
    let same : faults ≡ capped (faults + 0) = omega (arith, lt) in
    same ∙ ap (λ b. capped (faults + cond b 0 1)) (sym orderly)

module _ {R K Q S : Type 0} (sources : source.Ghosts K) (sinks : sink.Ghosts K) (recorders : recorder.Ghosts Q) (settlers : settler.Ghosts S Q) where
  pub serves_so : (h : SessionHost R K Q S) (came went : K) (ending : Ending) (pass : Pass (SharedRoom Q) Entry) (keeper : S) (faults : ℕ) → Sees recorders.first h.hall.now h.pass pass
      → StaysReady settlers h.keeper keeper
      → (ending ≢ ends.OutOfMemory → (n : ℕ) × Served recorders.first ending h.limit n h.pass pass (span_of sources sinks came went) × IsAcknowledged recorders settlers ending n (history pass) keeper)
      → (ending ≡ ends.OutOfMemory → went ≡ came) → (ending ≡ ends.OutOfMemory → places pass ≡ places h.pass)
      → (ending ≡ ends.LinkRead → Rose (sources.faults came) (sources.faults went)) → (ending ≢ ends.LinkRead → sources.faults went ≡ sources.faults came)
      → (ending ≡ ends.LinkWrite → Rose (sinks.faults came) (sinks.faults went)) → (ending ≡ ends.Unkept → settlers.has_failed keeper)
      → faults ≡ capped (h.faults + fault_of ending)
      → Serves sources sinks recorders settlers h came (record h { pass = pass; keeper = keeper; faults = faults }) went
  serves_so h came went ending pass keeper faults sees stays served unserved unopened read unfailed write unkept counted =
      let one = number_first (λ n. Served recorders.first ending h.limit n h.pass pass (span_of sources sinks came went) × IsAcknowledged recorders settlers ending n (history pass) keeper) ending (λ opened. let s = served opened in (s.0, (s.1, s.2))) in
      record {
        hall = refl;
        limit = refl;
        sees = sees;
        service = record { ending = ending; number = one.0 };
        keeper = stays.1;
        shares = stays.2;
        served = λ opened. (one.1 opened).0;
        acknowledged = λ opened. (one.1 opened).1;
        unkept = unkept;
        unserved = unserved;
        unopened = unopened;
        causes = record { read = read; unfailed = unfailed; write = write };
        faults = counted;
      }
