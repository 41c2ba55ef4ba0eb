use Rattle.ifdb_laws.proofs.two_worlds.Ceilings.{are_clearances, keep_inside, are_heard}
use Rattle.ifdb_laws.proofs.worlds.ceilings.Goals as goal

pub returns-clause-clearances : goal.returns-clause-clearances
returns-clause-clearances c = are_clearances

pub returns-clause-inside : goal.returns-clause-inside
returns-clause-inside c = keep_inside

pub returns-clause-heard : goal.returns-clause-heard
returns-clause-heard c = are_heard
