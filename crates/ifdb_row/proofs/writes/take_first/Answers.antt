use Rattle.std.proofs.Common.{◌≡◌, slice_get, rules}
use Rattle.std.specs.Option.{option_copied}
use Rattle.std.specs.declared.cmp.Ordering.TheVariants as order
use Rattle.ifdb_row.specs.Merging.{fronts_cmp}
use Rattle.ifdb_row.proofs.Merging.{front_found, fronts_given, less_taken, greater_taken, equal_taken}
use Rattle.ifdb_row.proofs.writes.take_first.Goals as goal

pub returns-in-Less : goal.returns-in-Less
returns-in-Less c =
    let own = c.args.own.now.items in
    let later = c.args.later.now.items in
    let a : option_copied c.front.result ≡ slice_get own 0 = front_found own _ c.front.result (search rules) c.front.ensures.variant c.front.ensures.lookup in
    let b : option_copied c.front-2.result ≡ slice_get later 0 = front_found later _ c.front-2.result (search rules) c.front-2.ensures.variant c.front-2.ensures.lookup in
    let e : fronts_cmp (slice_get own 0) (slice_get later 0) ≡ order.Less = fronts_given _ _ _ _ _ _ a b c.compare_fronts.ensures c.in-Less.is in
    less_taken own later _ _ e c.pop_front.ensures.items c.pop_front.ensures.rest c.requires.rising c.requires.later_rising

pub returns-in-Greater : goal.returns-in-Greater
returns-in-Greater c =
    let own = c.args.own.now.items in
    let later = c.args.later.now.items in
    let a : option_copied c.front.result ≡ slice_get own 0 = front_found own _ c.front.result (search rules) c.front.ensures.variant c.front.ensures.lookup in
    let b : option_copied c.front-2.result ≡ slice_get later 0 = front_found later _ c.front-2.result (search rules) c.front-2.ensures.variant c.front-2.ensures.lookup in
    let e : fronts_cmp (slice_get own 0) (slice_get later 0) ≡ order.Greater = fronts_given _ _ _ _ _ _ a b c.compare_fronts.ensures c.in-Greater.is in
    greater_taken own later _ _ e c.pop_front-in-Greater.ensures.items c.pop_front-in-Greater.ensures.rest c.requires.rising c.requires.later_rising

pub returns-in-Equal : goal.returns-in-Equal
returns-in-Equal c =
    let own = c.args.own.now.items in
    let later = c.args.later.now.items in
    let a : option_copied c.front.result ≡ slice_get own 0 = front_found own _ c.front.result (search rules) c.front.ensures.variant c.front.ensures.lookup in
    let b : option_copied c.front-2.result ≡ slice_get later 0 = front_found later _ c.front-2.result (search rules) c.front-2.ensures.variant c.front-2.ensures.lookup in
    let e : fronts_cmp (slice_get own 0) (slice_get later 0) ≡ order.Equal = fronts_given _ _ _ _ _ _ a b c.compare_fronts.ensures c.in-Equal.is in
    equal_taken own later _ _ _ e c.pop_front-in-Equal.ensures.rest c.pop_front-in-Equal-4.ensures.items c.pop_front-in-Equal-4.ensures.rest c.requires.rising c.requires.later_rising
