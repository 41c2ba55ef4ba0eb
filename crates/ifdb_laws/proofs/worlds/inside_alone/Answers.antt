use Rattle.ifdb_laws.proofs.two_worlds.Runs.{alone_is_heard, alone_ends_alike}
use Rattle.ifdb_laws.proofs.worlds.inside_alone.Goals as goal

pub returns-clause-heard : goal.returns-clause-heard
returns-clause-heard c = alone_is_heard

pub returns-clause-end : goal.returns-clause-end
returns-clause-end c = alone_ends_alike
