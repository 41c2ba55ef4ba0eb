use Rattle.std.proofs.Common.{ap, ◌∙◌, sym, subst, arith, length, ◌≤◌}
use Rattle.ifdb_disk.specs.Images.{synced}
use Rattle.ifdb_disk.specs.Clock.{Leaves, Torn, goes}
use Rattle.ifdb_disk.proofs.Store.{written_leaves, failed_leaves, stored_leaves}
use Rattle.ifdb_disk.proofs.through.write_through.Goals as goal

pub returns-in_err-write-clause-moments : goal.returns-in_err-write-clause-moments
returns-in_err-write-clause-moments g c = λ old stored. failed_leaves _ _ old c.args.at (length c.args.bytes.now) stored c.requires c.in_err-write.ensures.err

pub returns-in_err-sync-clause-moments : goal.returns-in_err-sync-clause-moments
returns-in_err-sync-clause-moments g c = λ old stored.
    let small : length c.args.bytes.now ≤ length c.args.bytes.now = omega arith in
    let after = c.in_err-sync.ensures.err ∙ c.in_ok-write.ensures.ok in
    subst (λ t. Leaves (g.D.Disk.tells c.args.disk.now) t (Torn old c.args.at (length c.args.bytes.now))) (sym after) (written_leaves _ old c.args.at (length c.args.bytes.now) c.args.bytes.now stored c.requires small)

pub returns-clause-moments : goal.returns-clause-moments
returns-clause-moments g c = λ old stored.
    let after = c.in_ok-sync.ensures.ok ∙ ap (goes synced) c.in_ok-write.ensures.ok in
    subst (λ t. Leaves (g.D.Disk.tells c.args.disk.now) t (Torn old c.args.at (length c.args.bytes.now))) (sym after) (stored_leaves _ old c.args.at c.args.bytes.now stored c.requires)
