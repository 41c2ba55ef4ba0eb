use Rattle.ifdb_laws.proofs.PairExamples.{first_plays, second_plays, worlds_low, worlds_quiet, worlds_alike}
use Rattle.ifdb_laws.proofs.worked.world_rows.Goals as goal

pub returns-clause-first : goal.returns-clause-first
returns-clause-first c = first_plays

pub returns-clause-second : goal.returns-clause-second
returns-clause-second c = second_plays

pub returns-clause-low : goal.returns-clause-low
returns-clause-low c = worlds_low

pub returns-clause-quiet : goal.returns-clause-quiet
returns-clause-quiet c = worlds_quiet

pub returns-clause-heard : goal.returns-clause-heard
returns-clause-heard c = worlds_alike
