use Rattle.std.proofs.Common.{◌≡◌, ◌∙◌, ap, sym, true}
use Rattle.ifdb_row.specs.ByReference.{slot_of}
use Rattle.ifdb_row.specs.Slots.{is_same_slot}
use Rattle.ifdb_row.proofs.SlotOrder.{slot_same}
use Rattle.ifdb_store.proofs.entry.Entry.copied.Goals as goal

pub returns-then-is_same-clause-place : goal.returns-then-is_same-clause-place
returns-then-is_same-clause-place g c =
    let new : slot_of c.slot.result ≡ g.P.Placed.place c.in_ok-entry.entry = c.slot.ensures ∙ ap g.P.Placed.place c.get-then-is_full.ensures in
    let old : slot_of c.slot-then-is_full.result ≡ g.P.Placed.place c.args.self.now = c.slot-then-is_full.ensures ∙ ap g.P.Placed.place c.get-then-is_full-2.ensures in
    let same : is_same_slot (slot_of c.slot.result) (slot_of c.slot-then-is_full.result) ≡ true = sym c.is_same.ensures ∙ c.if-is_same.true in
    sym new ∙ (slot_same (slot_of c.slot.result) (slot_of c.slot-then-is_full.result) same ∙ old)
