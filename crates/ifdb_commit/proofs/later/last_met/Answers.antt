use Rattle.std.proofs.Common.{◌≡◌, ◌+◌, take, ◌++◌, ◌∷◌, [], sym, ap, ◌∙◌, arith}
use Rattle.std.specs.Option.{option_or}
use Rattle.std.proofs.lemmas.Grind.{common_steps}
use Rattle.ifdb_commit.specs.Meeting.{named, last_met}
use Rattle.ifdb_commit.proofs.MeetLemmas.{named_or, last_met_more}
use Rattle.ifdb_commit.proofs.later.last_met.Goals as goal

pub loop-commit-preserved : goal.loop-commit-preserved
loop-commit-preserved c =
    let front = take c.loop-commit.commit-index c.args.commits.now in
    let more : take (c.loop-commit.commit-index + 1) c.args.commits.now ≡ front ++ c.commit-item.result ∷ [] = grind (arith, common_steps) in
    ap named c.or-found.ensures
    ∙ (named_or c.met_in.result c.loop-commit.found
    ∙ ((λ i. option_or (c.met_in.ensures i) (c.loop-commit.invariant i))
    ∙ (sym (last_met_more c.args.tags.now c.args.own.now c.args.begin front c.commit-item.result)
    ∙ ap (last_met c.args.tags.now c.args.own.now c.args.begin) (sym more))))
