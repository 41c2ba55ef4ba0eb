use Rattle.ifdb_catalog.proofs.Resolution.{resolves_the_one, known_stands}
use Rattle.ifdb_catalog.proofs.laws.names_mean_one_column.Goals as goal

pub returns-clause-one : goal.returns-clause-one
returns-clause-one c = resolves_the_one

pub returns-clause-stands : goal.returns-clause-stands
returns-clause-stands c = known_stands
