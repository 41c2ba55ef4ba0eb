use Rattle.std.proofs.Common.{ap}
use Rattle.ifdb_db.specs.Client.{Client}
use Rattle.ifdb_db.proofs.Keeping.{ended_held, installed_held}
use Rattle.ifdb_db.proofs.db.Db.commit.Goals as goal

pub returns-in-Some-refusal-clause-kept : goal.returns-in-Some-refusal-clause-kept
returns-in-Some-refusal-clause-kept c =
    ended_held c.args.self.now c.forget.new.self c.args.session.now c.session.inside.label c.take.new.self _ c.requires.kept c.forget.ensures (ap (λ (z : Client). z.label) c.session.view_is) c.take.ensures.after

pub returns-clause-kept : goal.returns-clause-kept
returns-clause-kept c =
    installed_held c.args.self.now c.install.new.self c.args.session.now c.session.inside.label c.take.new.self _ _ c.requires.kept c.in_default-install.ensures.done (ap (λ (z : Client). z.label) c.session.view_is)
    c.take.ensures.after
