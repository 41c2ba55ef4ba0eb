use Rattle.std.proofs.Common.{◌≡◌, sym, subst}
use Rattle.ifdb_disk.specs.Images.{synced}
use Rattle.ifdb_disk.specs.Clock.{goes}
use Rattle.ifdb_log.specs.Behind.{Fronted}
use Rattle.ifdb_log.proofs.Fronts.{fronted_synced}
use Rattle.ifdb_log.proofs.Results.{either}
use Rattle.ifdb_log.proofs.behind.BehindDisk.sync.Goals as goal

pub invariant_of-self : goal.invariant_of-self
invariant_of-self g c =
    let n = c.args.self.now.size in
    let begun = g.B.Origin.begun in
    let t = g.D.Disk.tells c.args.self.now.disk in
    let u = g.D.Disk.tells c.sync.new.self in
    record {
      fronted = either c.sync.result (u ≡ goes synced t) (u ≡ t) (Fronted n begun u) c.sync.ensures.ok c.sync.ensures.err
          (λ is. subst (Fronted n begun) (sym is) (fronted_synced n begun t c.args.self.now.fronted))
          (λ is. subst (Fronted n begun) (sym is) c.args.self.now.fronted);
    }
