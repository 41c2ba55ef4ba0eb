use Rattle.std.proofs.Common.{◌≡◌, ◌++◌, ◌∷◌, [], rules}
use Rattle.ifdb_store.proofs.Joining.{rising_pair}
use Rattle.ifdb_store.proofs.join.add_joined.Goals as goal

pub add_pair-requires-clause-rising : goal.add_pair-requires-clause-rising
add_pair-requires-clause-rising c =
    let old : c.args.all.now.items ≡ c.pop.new.self.items ++ c.in-Some.last ∷ [] = search rules in
    rising_pair c.args.all.now.items c.pop.new.self.items c.in-Some.last c.args.page old c.requires.rising
