use Rattle.std.proofs.Common.{ap, ◌∙◌, subst, List}
use Rattle.ifdb_journal.specs.declared.record.Record.{Record}
use Rattle.ifdb_durable.specs.Queues.{all_of}
use Rattle.ifdb_durable.specs.Writing.{disk_of}
use Rattle.ifdb_durable.specs.Worth.{IsWorth}
use Rattle.test_durable.proofs.shop.Shop.close.Goals as goal

pub returns-clause-worth : goal.returns-clause-worth
returns-clause-worth g c receipt begins =
    subst (λ (all : List Record). IsWorth g.D.Disk.tells g.B.Naming.before (disk_of c.close-writer.result) all receipt.flushes)
    (ap all_of c.close-writer.ensures.queue ∙ c.close-tally.ensures.stands.records) (c.close-writer.ensures.worth receipt begins)
