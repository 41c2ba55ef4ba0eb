use Rattle.std.proofs.Common.{◌≡◌, ◌<◌, ◌∙◌, ap, sym, subst, true, length, rules}
use Rattle.std.specs.Prelude.{not}
use Rattle.ifdb_row.specs.ByReference.{slot_of}
use Rattle.ifdb_row.specs.Slots.{slot_lt}
use Rattle.ifdb_row.specs.Reach.{reach, is_parted}
use Rattle.ifdb_row.proofs.Edges.{before_down}
use Rattle.ifdb_store.proofs.FindLemmas.{parted_parts, skips}
use Rattle.ifdb_store.proofs.part.untouched.Goals as goal

pub place-at-requires : goal.place-at-requires
place-at-requires g c =
    let s = c.write-item.result.slot in
    subst (λ q. is_parted (λ x. not (slot_lt q (g.P.Placed.place x))) c.args.parts.now ≡ true) (sym c.by_ref-slot.ensures)
    (parted_parts (λ q. not (slot_lt s q)) (before_down s) g.P.Placed.rows g.P.Placed.place g.P.Part.is_part g.met.P.Part.begins c.args.parts.now c.requires.parts c.requires.in_order)

pub returns-else-at-eq0-clause-rows : goal.returns-else-at-eq0-clause-rows
returns-else-at-eq0-clause-rows g c =
    let w = c.write-item.result in
    let s = w.slot in
    let found : c.place-at.result ≡ reach (λ x. not (slot_lt (slot_of c.by_ref-slot.result) (g.P.Placed.place x))) c.args.parts.now = c.place-at.ensures.reach in
    let k : c.place-at.result ≡ reach (λ x. not (slot_lt s (g.P.Placed.place x))) c.args.parts.now = found ∙ ap (λ q. reach (λ x. not (slot_lt q (g.P.Placed.place x))) c.args.parts.now) c.by_ref-slot.ensures in
    let some : 0 < length c.args.writes.now = search rules in
    skips g.P.Placed.rows g.P.Placed.place g.P.Part.is_part g.met.P.Part.begins c.args.parts.now c.place-at.result c.args.writes.now w k c.if-at-eq0.false some c.write-item.is c.requires.parts c.requires.in_order c.requires.rising
