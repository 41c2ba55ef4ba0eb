use Rattle.std.proofs.Common.{◌∙◌}
use Rattle.ifdb_group.proofs.Keying.{found}
use Rattle.ifdb_group.proofs.keys.Keys.find.Goals as goal

pub returns : goal.returns
returns c = c.get_index_of.ensures.index ∙ found c.args.key.now c.self.inside.set.keys c.args.self.now c.self.view_is
