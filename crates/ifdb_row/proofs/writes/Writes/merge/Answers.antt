use Rattle.std.proofs.Common.{◌≡◌, ◌∙◌, ap, true, drop, rules}
use Rattle.ifdb_row.specs.Writes.{are_rising}
use Rattle.ifdb_row.proofs.Merging.{rising_drop}
use Rattle.ifdb_row.proofs.writes.Writes.merge.Goals as goal

pub put_merged-requires-clause-rising : goal.put_merged-requires-clause-rising
put_merged-requires-clause-rising c =
    let left : c.from_vec.result.items ≡ drop c.place_of_first-at.result c.self.inside.items.items = search rules in
    let up : are_rising c.self.inside.items.items ≡ true = search rules in
    ap are_rising left ∙ rising_drop c.place_of_first-at.result c.self.inside.items.items up
