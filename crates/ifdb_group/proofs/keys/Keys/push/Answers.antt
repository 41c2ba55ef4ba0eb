use Rattle.ifdb_group.proofs.Keying.{pushed}
use Rattle.ifdb_group.proofs.keys.Keys.push.Goals as goal

pub returns-clause-ok : goal.returns-clause-ok
returns-clause-ok c = pushed c.self.inside.set.keys c.insert_full.new.self.keys c.args.key c.args.self.now c.self.view_is c.requires c.in_ok-insert_full.ensures.keys
