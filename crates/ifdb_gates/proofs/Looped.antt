-- What a loop did, as a run of its gate in a history.
use Rattle.std.proofs.Common.{◌≡◌, ◌⊎◌, ℕ, ◌≤◌, Bool, true, false, List, ◌∙◌, refl, sym, subst, arith, inl, inr, Result, append-nil}
use Rattle.std.specs.Prelude.{IsPermutation, OnOk, Ok, Err}
use Rattle.std.proofs.lemmas.Bool.{false≢true}
use Rattle.ifdb_model.specs.Log.{Entry as LogEntry}
use Rattle.ifdb_history.specs.declared.entry.Entry.{Entry}
use Rattle.ifdb_loop.specs.declared.port.Port as port
use Rattle.ifdb_loop.specs.declared.service.Service as service
use Rattle.ifdb_loop.specs.declared.ending.Halt.{Halt}
use Rattle.ifdb_loop.specs.declared.ending.Halt.TheVariants as halts
use Rattle.ifdb_loop.specs.Dialogues.{Dialogue}
use Rattle.ifdb_loop.specs.Standing.{HasHalted, WasServed}
use Rattle.ifdb_loop.specs.Visits.{Visit}
use Rattle.ifdb_session.specs.Links.{long_text}
use Rattle.ifdb_hearer.specs.Hearers.{heard_dialogue}
use Rattle.ifdb_desk.specs.Overs.{IsOver}
use Rattle.ifdb_turn.specs.Passes.{history, places}
use Rattle.ifdb_pool.specs.Work.{AllWorked}
use Rattle.ifdb_keyed.specs.Keys.{key_bytes}
use Rattle.ifdb_loop.specs.declared.gate.Gate as gate
use Rattle.ifdb_session.specs.declared.records.Records as recorder
use Rattle.ifdb_session.specs.declared.settles.Settles as settler
use Rattle.ifdb_session.specs.Acknowledged.{KnowsKept}
use Rattle.ifdb_desk.specs.Opened.{opened_in}
use Rattle.ifdb_gates.specs.Served.{IsHalted, IsServed}
use Rattle.ifdb_gates.specs.Work.{HasServed}
use Rattle.ifdb_gates.specs.Crew.{desk_of, desks, DeskWorker, Ran}

-- a loop that isn't at its gate's end has halted, for one of two causes
pub caused : {X A B : Type 0} (ended : Bool) (r : Result X Halt) → OnOk r (ended ≡ true) → (r ≡ Err halts.Gate → A) → (r ≡ Err halts.Unkept → B) → ended ≡ false → A ⊎ B
caused ended (Ok x) ok gate unkept off = absurd (false≢true (sym off ∙ ok))
caused ended (Err halts.Gate) ok gate unkept off = inl (gate refl)
caused ended (Err halts.Unkept) ok gate unkept off = inr (unkept refl)

-- what is 0 is at most 1
pub opened_so : (n : ℕ) {count : ℕ} → count ≡ 0 → count ≤ 1
opened_so n none = omega (arith, none)

-- over a service that takes so many bytes of a connection, and whose sessions are those of a history, and are heard by a key
module _ {S T P : Type 0} (services : service.Ghosts S T) (ports : port.Ghosts P) (key : List ℕ) (limit : ℕ) (first : List LogEntry) (IsKept : List (List ℕ) → Type 0) (HasFailed : Type 0) (h : List Entry) (s : S)
    (long : services.long_text ≡ long_text) (most : services.limit s ≡ limit)
    (over : (n : ℕ) (d : Dialogue) → services.is_over s n d → IsOver first IsKept h n (heard_dialogue key d)) (failed : services.has_failed s → HasFailed) where
  halted_so : (faults : ℕ) (halt : Halt) → HasHalted services ports s faults halt → IsHalted HasFailed faults halt
  halted_so faults halts.Gate is = is
  halted_so faults halts.Unkept is = failed is

  paid_so : {Paid Lost : Type 0} (faults : ℕ) → Paid ⊎ (Lost ⊎ ((halt : Halt) × HasHalted services ports s faults halt)) → Paid ⊎ (Lost ⊎ ((halt : Halt) × IsHalted HasFailed faults halt))
  paid_so faults (inl paid) = inl paid
  paid_so faults (inr (inl lost)) = inr (inl lost)
  paid_so faults (inr (inr halted)) = inr (inr (halted.0, halted_so faults halted.0 halted.1))

  pub served_so : (faults : ℕ) (v : Visit P) → WasServed services ports s faults v → IsServed ports key limit first IsKept HasFailed h faults v
  served_so faults v w = record {
    dialogue = w.dialogue;
    owed = w.owed;
    over = over v.number w.dialogue w.over;
    exchanged = rw (sym long, sym most) w.exchanged;
    paid = paid_so faults w.paid;
    halted = λ halt is. halted_so faults halt (w.halted halt is);
  }

module _ {G P R Q S : Type 0} (recorders : recorder.Ghosts Q) (settlers : settler.Ghosts S Q) (gates : gate.Ghosts G P) (ports : port.Ghosts P) where
  -- a worker that has served its gate ran it in its history
  ran : (w w' : DeskWorker G R Q S) → HasServed (desks recorders settlers) gates ports w w' → Ran recorders settlers gates ports w w'
  ran w w' e =
      let desk = desk_of w' in record {
        desk = e.ready;
        goes_on = e.goes_on;
        visits = e.order.visits;
        run = record {
          back = e.order.back;
          none_out = e.none_out;
          served = λ k d lt. served_so (desks recorders settlers) ports (key_bytes w'.service.key) desk.limit recorders.first (KnowsKept recorders settlers desk.keeper) (settlers.has_failed desk.keeper) (history desk.pass) w'.service
              refl refl (λ n d over. over.1) (λ failed. failed) (gates.faults w'.gate) _ (e.order.served k d lt);
          cause = e.cause;
        };
        opened = subst (λ l. IsPermutation l (opened_in (history desk.pass) (places desk.pass))) (append-nil _) e.order.opened;
      }

  pub all_ran : (ws ws' : List (DeskWorker G R Q S)) → AllWorked (HasServed (desks recorders settlers) gates ports) ws ws' → AllWorked (Ran recorders settlers gates ports) ws ws'
  all_ran ws ws' worked = (worked.0, λ k d lt. ran _ _ (worked.1 k d lt))
