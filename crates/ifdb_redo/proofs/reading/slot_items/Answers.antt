use Rattle.std.proofs.lemmas.Result.{err_from_is_err_and}
use Rattle.ifdb_redo.specs.Reading.{items_at, slot_at}
use Rattle.ifdb_redo.proofs.Loop.{goes_on, ends, is_done}
use Rattle.ifdb_redo.proofs.reading.slot_items.Goals as goal

pub returns-in_err-slot : goal.returns-in_err-slot
returns-in_err-slot c =
    let p = err_from_is_err_and c.from_residual.result c.from_residual.ensures.1 in
    rw (p.1, p.2) (ends c.in_err-slot.field-0.0 slot_at c.loop.slots.items c.args.count c.loop.counter c.loop.rest.now (items_at slot_at c.args.count c.args.bytes.now) c.loop-test.true c.in_err-slot.ensures c.loop.invariant)

pub loop-preserved : goal.loop-preserved
loop-preserved c =
    rw c.in_ok-push.ensures.items (goes_on slot_at c.loop.slots.items c.args.count c.loop.counter c.loop.rest.now c.in_ok-slot.slot c.in_ok-slot.after.now (items_at slot_at c.args.count c.args.bytes.now) c.loop-test.true c.in_ok-slot.ensures c.loop.invariant)

pub returns : goal.returns
returns c = is_done slot_at c.loop.slots.items c.args.count c.loop.counter c.loop.rest.now (items_at slot_at c.args.count c.args.bytes.now) c.loop-test.false c.loop.invariant
