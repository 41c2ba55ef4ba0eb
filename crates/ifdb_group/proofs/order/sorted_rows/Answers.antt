use Rattle.std.proofs.Common.{◌≡◌, rules}
use Rattle.std.specs.Ordering.{is_lt}
use Rattle.std.proofs.lemmas.Fn.{always_returns_same}
use Rattle.ifdb_group.proofs.OrderLemmas.{sorted_is, precedes, ranks}
use Rattle.ifdb_group.proofs.order.sorted_rows.Goals as goal

pub returns : goal.returns
returns c =
    sorted_is c.args.keys.now c.args.rows.items c.sort_by.new.self.items
    (c.in_ok-sort_by.ensures.sorted (precedes c.args.keys.now) (ranks c.args.keys.now) (always_returns_same _ (λ a r. is_lt r ≡ precedes c.args.keys.now a.0.now a.1.0.now) _ (λ a r f k. search rules)))
    (c.in_ok-sort_by.ensures.stable (precedes c.args.keys.now) (ranks c.args.keys.now) (always_returns_same _ (λ a r. is_lt r ≡ precedes c.args.keys.now a.0.now a.1.0.now) _ (λ a r f k. search rules)))
