use Rattle.std.proofs.Common.{ap}
use Rattle.ifdb_db.specs.Client.{Client}
use Rattle.ifdb_db.proofs.Keeping.{ended_held}
use Rattle.ifdb_db.proofs.db.Db.give_up.Goals as goal

pub returns-clause-kept : goal.returns-clause-kept
returns-clause-kept c =
    ended_held c.args.self.now c.forget.new.self c.args.session.now c.session.inside.label c.take.new.self _ c.requires.kept c.forget.ensures (ap (λ (z : Client). z.label) c.session.view_is) c.take.ensures.after
