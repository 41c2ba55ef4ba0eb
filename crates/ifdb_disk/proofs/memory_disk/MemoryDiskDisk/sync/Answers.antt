use Rattle.std.proofs.Common.{Some, ap, ◌∙◌}
use Rattle.ifdb_disk.specs.Images.{synced}
use Rattle.ifdb_disk.specs.Clock.{ticked}
use Rattle.ifdb_disk.specs.Memory.{DiskState, Past, begun, played, clock_of, syncs}
use Rattle.ifdb_disk.proofs.Calls.{played_more}
use Rattle.ifdb_disk.proofs.memory_disk.MemoryDiskDisk.sync.Goals as goal

pub returns-clause-ok : goal.returns-clause-ok
returns-clause-ok c =
    let track = c.self.inside.track in
    let played_on = ap (λ (p : Past). Some (played (begun p.first) p.calls)) c.sync.ensures ∙ ap (λ k. Some k) (played_more (begun track.first) track.calls syncs) in
    played_on ∙ ap (λ (d : DiskState). Some (ticked (clock_of d) (synced (clock_of d).now))) c.self.view_is
