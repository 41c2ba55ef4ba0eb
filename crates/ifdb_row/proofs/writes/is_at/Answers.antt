use Rattle.std.proofs.Common.{◌∙◌, ◌≤◌, ◌<◌, length, ap, sym, arith, rules}
use Rattle.ifdb_row.specs.declared.write.Write.{Write}
use Rattle.ifdb_row.specs.ByReference.{slot_of}
use Rattle.ifdb_row.specs.Slots.{is_same_slot}
use Rattle.ifdb_row.proofs.Sorted.{taken_is, all_under, are_rising_sorted}
use Rattle.ifdb_row.proofs.writes.is_at.Goals as goal

pub returns-in-Some : goal.returns-in-Some
returns-in-Some c =
    let lt : c.args.at < length c.args.items.now = search rules in
    c.is_same.ensures ∙ (ap (is_same_slot (slot_of c.args.slot)) c.by_ref.ensures ∙ taken_is (λ (w : Write). w.slot) (slot_of c.args.slot) c.args.items.now c.args.at c.in-Some.other.now (sym (are_rising_sorted c.args.items.now) ∙ c.requires.rising) c.requires.place lt (search rules))

pub returns-in-None : goal.returns-in-None
returns-in-None c =
    let le : length c.args.items.now ≤ c.args.at = search rules in
    let t = all_under (λ (w : Write). w.slot) (slot_of c.args.slot) c.args.items.now in
    grind (arith, t, c.requires.place)
