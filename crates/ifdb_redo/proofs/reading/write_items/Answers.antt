use Rattle.std.proofs.lemmas.Result.{err_from_is_err_and}
use Rattle.ifdb_redo.specs.Reading.{items_at, write_at}
use Rattle.ifdb_redo.proofs.Loop.{goes_on, ends, is_done}
use Rattle.ifdb_redo.proofs.RisingWrites.{fits_more}
use Rattle.ifdb_redo.proofs.reading.write_items.Goals as goal

pub returns-in_err-write-clause-read : goal.returns-in_err-write-clause-read
returns-in_err-write-clause-read c =
    let p = err_from_is_err_and c.from_residual.result c.from_residual.ensures.1 in
    rw (p.1, p.2) (ends c.in_err-write.field-0.0 write_at c.loop.writes.items c.args.count c.loop.counter c.loop.rest.now (items_at write_at c.args.count c.args.bytes.now) c.loop-test.true c.in_err-write.ensures.read c.loop.invariant.read)

pub loop-preserved : goal.loop-preserved
loop-preserved c = rw c.in_ok-push.ensures.items (record {
  read = goes_on write_at c.loop.writes.items c.args.count c.loop.counter c.loop.rest.now c.in_ok-write.write c.in_ok-write.after.now (items_at write_at c.args.count c.args.bytes.now) c.loop-test.true c.in_ok-write.ensures.read c.loop.invariant.read;
  fitting = fits_more c.loop.writes.items c.in_ok-write.write c.loop.invariant.fitting c.in_ok-write.ensures.fitting;
})

pub returns-clause-read : goal.returns-clause-read
returns-clause-read c = is_done write_at c.loop.writes.items c.args.count c.loop.counter c.loop.rest.now (items_at write_at c.args.count c.args.bytes.now) c.loop-test.false c.loop.invariant.read

pub returns-clause-fitting : goal.returns-clause-fitting
returns-clause-fitting c = c.loop.invariant.fitting
