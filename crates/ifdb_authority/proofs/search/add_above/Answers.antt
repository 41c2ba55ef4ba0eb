use Rattle.std.proofs.Common.{[], rules}
use Rattle.std.proofs.lemmas.Bool.Decides.{nat_tests}
use Rattle.ifdb_authority.specs.Search.{is_above}
use Rattle.ifdb_authority.proofs.SearchLemmas.{above-more, extended-none}
use Rattle.ifdb_authority.proofs.search.add_above.Goals as goal

pub loop-tag-init : goal.loop-tag-init
loop-tag-init c = extended-none c.args.found.now.keys (is_above c.args.tags.now [] c.args.of.now) (λ h. grind (rules, nat_tests))

pub loop-tag-preserved : goal.loop-tag-preserved
loop-tag-preserved c =
    let i = c.loop-tag.tag-index in
    let t = c.tag-item.result in
    above-more c.args.tags.now c.args.above.now i t t c.args.of.now c.args.found.now.keys c.loop-tag.found.keys c.add_if_above.new.found.keys c.loop-tag-test.true c.tag-item.is
    c.loop-tag.invariant c.in_ok-add_if_above.ensures
