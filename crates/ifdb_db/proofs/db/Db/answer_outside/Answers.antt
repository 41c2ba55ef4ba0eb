use Rattle.std.proofs.Common.{ap, Some}
use Rattle.ifdb_model.specs.Step.{form_of}
use Rattle.ifdb_db.proofs.Noting.{ends_noted}
use Rattle.ifdb_db.proofs.db.Db.answer_outside.Goals as goal

pub returns-in-Insert-clause-noted : goal.returns-in-Insert-clause-noted
returns-in-Insert-clause-noted c = c.change_rows.ensures.noted c.args.line.now

pub returns-in-Update-clause-noted : goal.returns-in-Update-clause-noted
returns-in-Update-clause-noted c = c.change_rows-in-Update.ensures.noted c.args.line.now

pub returns-in-Delete-clause-noted : goal.returns-in-Delete-clause-noted
returns-in-Delete-clause-noted c = c.change_rows-in-Delete.ensures.noted c.args.line.now

pub returns-in-Commit-clause-noted : goal.returns-in-Commit-clause-noted
returns-in-Commit-clause-noted c =
    ends_noted c.args.self.now c.args.session.now c.args.asker c.args.request c.args.line.now c.args.note.now c.commit.new.note c.commit.result (ap form_of c.in-Commit.is)
    (c.commit.ensures.noted (Some c.args.asker) c.args.line.now)
