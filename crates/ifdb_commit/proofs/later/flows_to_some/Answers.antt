use Rattle.std.proofs.Common.{◌≡◌, false, rules}
use Rattle.ifdb_commit.proofs.KeyLemmas.{of_key, stops}
use Rattle.ifdb_commit.proofs.later.flows_to_some.Goals as goal

pub returns-then-not-is_of_key : goal.returns-then-not-is_of_key
returns-then-not-is_of_key c =
    let no : of_key c.args.slot.now c.write-item.result ≡ false = search rules in
    stops c.args.slot.now c.args.tags.now c.args.own.now c.loop-write.write-index c.write-item.result c.requires.rising c.requires.from_key c.loop-write-test.true c.write-item.is no c.loop-write.invariant
