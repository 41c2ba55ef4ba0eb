use Rattle.std.proofs.Common.{◌≡◌, ap, ◌∙◌, sym, subst}
use Rattle.ifdb_disk.specs.Images.{IsImage, filled}
use Rattle.ifdb_disk.specs.Memory.{DiskState, clock_of}
use Rattle.ifdb_disk.specs.Present.{kept_image}
use Rattle.ifdb_disk.proofs.Fill.{filled_image}
use Rattle.ifdb_disk.proofs.memory_disk.MemoryDisk.crash.Goals as goal

pub returns-clause-image : goal.returns-clause-image
returns-clause-image c =
    let disk = c.args.self in
    let first : c.crash.result.first ≡ filled c.args.fill (clock_of disk).now = ap (λ p. p.first) c.crash.ensures ∙ ap (λ (d : DiskState). filled c.args.fill (clock_of d).now) c.self.view_is in
    subst (IsImage (clock_of disk).now) (sym first) (filled_image c.args.fill (clock_of disk).now (kept_image disk))
