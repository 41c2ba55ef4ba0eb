use Rattle.ifdb_laws.proofs.Examples.{compound_row_plays, polyinstantiation_row_plays, lowering_row_plays}
use Rattle.ifdb_laws.proofs.worked.label_rows.Goals as goal

pub returns-clause-compound : goal.returns-clause-compound
returns-clause-compound c = compound_row_plays

pub returns-clause-polyinstantiation : goal.returns-clause-polyinstantiation
returns-clause-polyinstantiation c = polyinstantiation_row_plays

pub returns-clause-lowering : goal.returns-clause-lowering
returns-clause-lowering c = lowering_row_plays
