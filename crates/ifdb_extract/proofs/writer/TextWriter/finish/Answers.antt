use Rattle.ifdb_extract.proofs.Writing.{finishes, on_both}
use Rattle.ifdb_extract.proofs.writer.TextWriter.finish.Goals as goal

pub returns-clause-finished : goal.returns-clause-finished
returns-clause-finished g c =
    on_both c.flush.result c.flush.ensures.kept c.flush.ensures.none (λ kept none.
    finishes (g.D.Disk.tells c.args.disk.now) (g.D.Disk.tells c.flush.new.disk) c.args.self c.flush.new.self kept none)
