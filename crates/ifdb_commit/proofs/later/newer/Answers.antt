use Rattle.std.proofs.Common.{◌≡◌, length, true, [], sym, ◌∙◌, subst, rules}
use Rattle.std.specs.Prelude.{None, ◌==◌}
use Rattle.ifdb_store.specs.Kept.{trimmed}
use Rattle.ifdb_commit.specs.Meeting.{NamesConflict, named, last_met}
use Rattle.ifdb_commit.proofs.MeetLemmas.{empty_list, none_meets, last_is_named}
use Rattle.ifdb_commit.proofs.later.newer.Goals as goal

pub returns-then-is_empty : goal.returns-then-is_empty
returns-then-is_empty c =
    let empty : (length c.items-own.result.now == 0) ≡ true = search rules in
    let none : c.args.writes.now ≡ [] = sym c.items-own.ensures.items ∙ empty_list c.items-own.result.now empty in
    subst (λ own. NamesConflict c.args.tags.now (trimmed c.args.begin c.args.store.now.commits) own None) (sym none) (none_meets c.args.tags.now (trimmed c.args.begin c.args.store.now.commits))

pub returns : goal.returns
returns c =
    let named : named c.last_met.result ≡ last_met c.args.tags.now c.args.writes.now c.args.begin c.args.store.now.commits =
    c.last_met.ensures ∙ (λ i. last_met c.args.tags.now (c.items-own.ensures.items i) c.args.begin (c.commits.ensures i)) in
    subst (NamesConflict c.args.tags.now (trimmed c.args.begin c.args.store.now.commits) c.args.writes.now) (sym named) (last_is_named c.args.tags.now c.args.writes.now c.args.begin c.args.store.now.commits)
