use Rattle.std.proofs.Common.{refl, rules}
use Rattle.ifdb_extract.specs.Writing.{Writing}
use Rattle.ifdb_extract.proofs.Writing.{begun_later, begun_ready, begun_written}
use Rattle.ifdb_extract.proofs.writer.TextWriter.begin.Goals as goal

pub returns-in_err-write_through-clause-later : goal.returns-in_err-write_through-clause-later
returns-in_err-write_through-clause-later g c =
    let t = g.D.Disk.tells c.args.disk.now in
    let u = g.D.Disk.tells c.start.new.disk in
    let v = g.D.Disk.tells c.write_through.new.disk in
    begun_later t u v c.in-Ok.journal c.start.ensures.moments c.in-Ok.ensures.begun c.write_through.ensures.moments

pub returns-clause-later : goal.returns-clause-later
returns-clause-later g c =
    let t = g.D.Disk.tells c.args.disk.now in
    let u = g.D.Disk.tells c.start.new.disk in
    let v = g.D.Disk.tells c.write_through.new.disk in
    begun_later t u v c.in-Ok.journal c.start.ensures.moments c.in-Ok.ensures.begun c.write_through.ensures.moments

pub returns-clause-begun : goal.returns-clause-begun
returns-clause-begun g c =
    let u = g.D.Disk.tells c.start.new.disk in
    let v = g.D.Disk.tells c.write_through.new.disk in
    let w : Writing = record { at = c.in-Ok.journal.at; waiting = c.in_ok-batch.batch.records } in
    begun_written u v c.in-Ok.journal w c.in-Ok.ensures.begun c.in_ok-write_through.ensures.ok refl (search rules)

pub returns-clause-ready : goal.returns-clause-ready
returns-clause-ready g c = begun_ready (g.D.Disk.tells c.start.new.disk) (g.D.Disk.tells c.write_through.new.disk) c.in-Ok.journal c.in-Ok.ensures.begun c.in_ok-write_through.ensures.ok
