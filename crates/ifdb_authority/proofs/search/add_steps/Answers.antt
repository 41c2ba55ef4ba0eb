use Rattle.std.proofs.lemmas.Result.{IfOk-weaker}
use Rattle.ifdb_authority.proofs.SearchLemmas.{extended-steps}
use Rattle.ifdb_authority.proofs.search.add_steps.Goals as goal

pub returns : goal.returns
returns c =
    IfOk-weaker c.add_above.result _ _
    (λ _ more. extended-steps c.args.tags.now c.args.authority.now c.args.above.now c.args.to.now c.args.found.now.keys c.add_grantors.new.found.keys c.add_above.new.found.keys c.in_ok-add_grantors.ensures more)
    c.add_above.ensures
