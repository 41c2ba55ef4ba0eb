use Rattle.std.proofs.Common.{rules, ◌≡◌, sym, subst, ap, ◌∙◌}
use Rattle.ifdb_disk.specs.Images.{synced}
use Rattle.ifdb_disk.specs.Clock.{Leaves, Now, goes}
use Rattle.ifdb_log.specs.Title.{IsLog, IsNew, IsOldOrMade, title}
use Rattle.ifdb_log.proofs.Titles.{made_leaves, settled_weaker, sync_made, title_log}
use Rattle.ifdb_log.proofs.title.entitle.Goals as goal

pub returns-in_err-make-clause-moments : goal.returns-in_err-make-clause-moments
returns-in_err-make-clause-moments g c =
    let t = g.D.Disk.tells c.args.disk.now in
    let after = c.in_ok-sync.ensures.ok ∙ ap (goes synced) c.look.ensures.still in
    let first = subst (λ u. Leaves t u (IsOldOrMade t)) (sym after) (sync_made t (g.D.Disk.present c.args.disk.now)) in
    let new : Now t (λ s. IsNew s.bytes) = search rules in
    made_leaves t (g.D.Disk.tells c.sync.new.self) (g.D.Disk.tells c.make.new.disk) new first c.make.ensures.moments

pub returns-in_ok-make-clause-titled : goal.returns-in_ok-make-clause-titled
returns-in_ok-make-clause-titled g c = settled_weaker (g.D.Disk.tells c.make.new.disk) (λ b. b ≡ title) IsLog title_log c.in_ok-make.ensures.made

pub returns-in_ok-make-clause-moments : goal.returns-in_ok-make-clause-moments
returns-in_ok-make-clause-moments g c =
    let t = g.D.Disk.tells c.args.disk.now in
    let after = c.in_ok-sync.ensures.ok ∙ ap (goes synced) c.look.ensures.still in
    let first = subst (λ u. Leaves t u (IsOldOrMade t)) (sym after) (sync_made t (g.D.Disk.present c.args.disk.now)) in
    let new : Now t (λ s. IsNew s.bytes) = search rules in
    made_leaves t (g.D.Disk.tells c.sync.new.self) (g.D.Disk.tells c.make.new.disk) new first c.make.ensures.moments

pub returns-else-eq-2-clause-moments : goal.returns-else-eq-2-clause-moments
returns-else-eq-2-clause-moments g c =
    let t = g.D.Disk.tells c.args.disk.now in
    let after = c.in_ok-sync.ensures.ok ∙ ap (goes synced) c.look.ensures.still in
    subst (λ u. Leaves t u (IsOldOrMade t)) (sym after) (sync_made t (g.D.Disk.present c.args.disk.now))
