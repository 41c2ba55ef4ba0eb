use Rattle.std.proofs.Common.{arith, rules, ◌∙◌}
use Rattle.ifdb_io.proofs.Written.{Appends-more, length_rest}
use Rattle.ifdb_io.proofs.writes.write_all.Goals as goal

pub loop-done-preserved : goal.loop-done-preserved
loop-done-preserved g c = record {
  in_range = omega (arith, c.in_ok-done.ensures.bound, length_rest c.args.bytes.now c.loop-done.done);
  written = Appends-more _ _ _ c.args.bytes.now _ _ c.loop-done.invariant.written c.in_ok-done.ensures.bytes;
  kept = c.in_ok-done.ensures.cause.kept ∙ c.loop-done.invariant.kept;
  beside = search rules;
}
