use Rattle.ifdb_authority.proofs.HoldsLemmas.{holds_below}
use Rattle.ifdb_authority.proofs.laws.compounds_give_members.Goals as goal

pub returns : goal.returns
returns c = λ tags a p t u w. holds_below tags a w p t u
