use Rattle.std.proofs.Common.{◌≡◌, ◌+◌, ◌≤◌, length, sym, subst, ap, ◌∙◌, arith}
use Rattle.ifdb_disk.specs.Images.{written}
use Rattle.ifdb_disk.specs.Clock.{MayHaveWritten, goes}
use Rattle.ifdb_log.specs.Behind.{Fronted, behind}
use Rattle.ifdb_log.proofs.Fronts.{fronted_written, fronted_torn, behind_written, behind_torn}
use Rattle.ifdb_log.proofs.Results.{either, on_ok, on_err}
use Rattle.ifdb_log.proofs.behind.BehindDisk.write.Goals as goal

pub invariant_of-self-2 : goal.invariant_of-self-2
invariant_of-self-2 g c =
    let n = c.args.self.now.size in
    let begun = g.B.Origin.begun in
    let t = g.D.Disk.tells c.args.self.now.disk in
    let u = g.D.Disk.tells c.write-2.new.self in
    let place = c.in-Some.place in
    let is : place ≡ c.args.at + n = grind arith in
    let le : n ≤ place = omega (arith, is) in
    record {
      fronted = either c.write-2.result (u ≡ goes (written place c.args.bytes.now) t) (MayHaveWritten place (length c.args.bytes.now) t u) (Fronted n begun u) c.write-2.ensures.ok c.write-2.ensures.err
          (λ same. subst (Fronted n begun) (sym same) (fronted_written n begun t place c.args.bytes.now le c.args.self.now.fronted))
          (λ torn. fronted_torn n begun t u place (length c.args.bytes.now) le c.args.self.now.fronted torn);
    }

pub returns-clause-ok : goal.returns-clause-ok
returns-clause-ok g c =
    let n = c.args.self.now.size in
    let begun = g.B.Origin.begun in
    let t = g.D.Disk.tells c.args.self.now.disk in
    let place = c.in-Some.place in
    let is : place ≡ c.args.at + n = grind arith in
    on_ok c.write-2.result _ _ c.write-2.ensures.ok (λ same. ap (behind n) same ∙ behind_written n begun t c.args.at place c.args.bytes.now c.args.self.now.fronted is)

pub returns-clause-err : goal.returns-clause-err
returns-clause-err g c =
    let n = c.args.self.now.size in
    let begun = g.B.Origin.begun in
    let t = g.D.Disk.tells c.args.self.now.disk in
    let u = g.D.Disk.tells c.write-2.new.self in
    let place = c.in-Some.place in
    let is : place ≡ c.args.at + n = grind arith in
    on_err c.write-2.result _ _ c.write-2.ensures.err (λ torn. behind_torn n begun t u c.args.at place (length c.args.bytes.now) c.args.self.now.fronted is torn)
