-- Connections that were served, in longer histories of which no less is kept.
use Rattle.std.proofs.Common.{◌⊎◌, ℕ, List, inl, inr}
use mathlib.Core.List.{IsPrefix}
use Rattle.ifdb_turn.specs.Histories.{AllRight}
use Rattle.ifdb_model.specs.Log.{Entry as LogEntry}
use Rattle.ifdb_history.specs.declared.entry.Entry.{Entry}
use Rattle.ifdb_history.specs.History.{IsRight}
use Rattle.ifdb_loop.specs.declared.gate.Gate as gate
use Rattle.ifdb_loop.specs.declared.port.Port as port
use Rattle.ifdb_loop.specs.declared.ending.Halt.{Halt}
use Rattle.ifdb_loop.specs.declared.ending.Halt.TheVariants as halts
use Rattle.ifdb_loop.specs.Visits.{Visit}
use Rattle.ifdb_session.specs.Starts.{start_of}
use Rattle.ifdb_hearer.specs.Hearers.{heard_dialogue}
use Rattle.ifdb_desk.specs.Laws.{over_later}
use Rattle.ifdb_gates.specs.Served.{Run, IsHalted, IsServed, IsRunIn}

module _ {HasFailed StillFailed : Type 0} (fails : HasFailed → StillFailed) (faults : ℕ) where
  pub halted_later : (halt : Halt) → IsHalted HasFailed faults halt → IsHalted StillFailed faults halt
  halted_later halts.Gate is = is
  halted_later halts.Unkept is = fails is

  pub paid_later : {Paid Lost : Type 0} → Paid ⊎ (Lost ⊎ ((halt : Halt) × IsHalted HasFailed faults halt)) → Paid ⊎ (Lost ⊎ ((halt : Halt) × IsHalted StillFailed faults halt))
  paid_later (inl paid) = inl paid
  paid_later (inr (inl lost)) = inr (inl lost)
  paid_later (inr (inr halted)) = inr (inr (halted.0, halted_later halted.0 halted.1))

module _ {P : Type 0} (ports : port.Ghosts P) (key : List ℕ) (limit : ℕ) (first : List LogEntry) (IsKept StillKept : List (List ℕ) → Type 0) (HasFailed StillFailed : Type 0)
    (stays : (texts : List (List ℕ)) → IsKept texts → StillKept texts) (fails : HasFailed → StillFailed) (h k : List Entry) (front : IsPrefix h k) (right : AllRight (IsRight (start_of first)) k) where
  served_later : (faults : ℕ) (v : Visit P) → IsServed ports key limit first IsKept HasFailed h faults v → IsServed ports key limit first StillKept StillFailed k faults v
  served_later faults v s = record {
    dialogue = s.dialogue;
    owed = s.owed;
    over = over_later first IsKept StillKept stays v.number h k front right (heard_dialogue key s.dialogue) s.over;
    exchanged = s.exchanged;
    paid = paid_later fails faults s.paid;
    halted = λ halt is. halted_later fails faults halt (s.halted halt is);
  }

  pub run_later : {G : Type 0} (gates : gate.Ghosts G P) (r : Run G P) → IsRunIn ports key limit first IsKept HasFailed gates h r → IsRunIn ports key limit first StillKept StillFailed gates k r
  run_later gates r run = record {
    back = run.back;
    none_out = run.none_out;
    served = λ j d lt. served_later (gates.faults r.after) _ (run.served j d lt);
    cause = λ off. elim (run.cause off) [ inl rose ↦ inl rose | inr failed ↦ inr (fails failed) ];
  }
