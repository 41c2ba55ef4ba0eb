use Rattle.std.proofs.Common.{refl, sym, subst, ◌∙◌}
use Rattle.ifdb_log.specs.Pieces.{pieces}
use Rattle.ifdb_extract.specs.Writing.{Puts}
use Rattle.ifdb_extract.proofs.Putting.{changes_first, changes_last, changes_next}
use Rattle.ifdb_extract.proofs.Writing.{later_here, later_on}
use Rattle.ifdb_extract.proofs.extract.put_changes.Goals as goal

pub loop-change-init : goal.loop-change-init
loop-change-init g c =
    let t = g.D.Disk.tells c.args.disk.now in
    record { puts = changes_first c.args.changes.now t c.args.writer.now; ready = c.requires.ready; later = later_here t; calm = refl }

pub loop-change-preserved : goal.loop-change-preserved
loop-change-preserved g c =
    let begun = g.D.Disk.tells c.args.disk.now in
    let t = g.D.Disk.tells c.loop-change.disk in
    let u = g.D.Disk.tells c.put.new.disk in
    let text = c.change-item.result in
    let put : Puts (pieces text) t c.loop-change.writer u c.put.new.self = subst (λ l. Puts (pieces l) t c.loop-change.writer u c.put.new.self) c.as_slice.ensures c.in_ok-put.ensures.put in
    record {
      puts = changes_next c.args.changes.now c.loop-change.change-index text begun t u c.args.writer.now c.loop-change.writer c.put.new.self c.loop-change-test.true c.change-item.is put c.loop-change.invariant.puts;
      ready = c.in_ok-put.ensures.ready;
      later = later_on begun t u c.loop-change.invariant.later c.put.ensures.later;
      calm = c.in_ok-put.ensures.cause ∙ c.loop-change.invariant.calm;
    }

pub returns-clause-put : goal.returns-clause-put
returns-clause-put g c =
    changes_last c.args.changes.now c.loop-change.change-index (g.D.Disk.tells c.args.disk.now) (g.D.Disk.tells c.loop-change.disk) c.args.writer.now c.loop-change.writer c.loop-change-test.false c.loop-change.invariant.puts

pub returns-in_err-put-clause-later : goal.returns-in_err-put-clause-later
returns-in_err-put-clause-later g c =
    later_on (g.D.Disk.tells c.args.disk.now) (g.D.Disk.tells c.loop-change.disk) (g.D.Disk.tells c.put.new.disk) c.loop-change.invariant.later c.put.ensures.later
