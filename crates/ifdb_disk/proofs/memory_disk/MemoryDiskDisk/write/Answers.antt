use Rattle.std.proofs.Common.{◌≤◌, Some, ap, ◌∙◌, sym, subst, arith, length, inr}
use Rattle.ifdb_disk.specs.Images.{written}
use Rattle.ifdb_disk.specs.Clock.{ticked}
use Rattle.ifdb_disk.specs.Memory.{DiskState, Past, begun, played, clock_of, writes}
use Rattle.ifdb_disk.proofs.Calls.{played_more}
use Rattle.ifdb_disk.proofs.memory_disk.MemoryDiskDisk.write.Goals as goal

pub write-requires-clause-at : goal.write-requires-clause-at
write-requires-clause-at c = subst (λ (d : DiskState). c.args.at ≤ length (clock_of d).now.bytes) (sym c.self.view_is) c.requires

pub returns-then-contains-clause-err : goal.returns-then-contains-clause-err
returns-then-contains-clause-err c =
    let bytes = c.args.bytes.now in
    let small : length bytes ≤ length bytes = omega arith in
    let track = c.self.inside.track in
    let played_on = ap (λ (p : Past). Some (played (begun p.first) p.calls)) c.write.ensures.track ∙ ap (λ k. Some k) (played_more (begun track.first) track.calls (writes c.args.at bytes)) in
    inr (bytes, small, played_on ∙ ap (λ (d : DiskState). Some (ticked (clock_of d) (written c.args.at bytes (clock_of d).now))) c.self.view_is)

pub returns-clause-bound : goal.returns-clause-bound
returns-clause-bound c = c.write.ensures.bound

pub returns-clause-ok : goal.returns-clause-ok
returns-clause-ok c =
    let bytes = c.args.bytes.now in
    let track = c.self.inside.track in
    let played_on = ap (λ (p : Past). Some (played (begun p.first) p.calls)) c.write.ensures.track ∙ ap (λ k. Some k) (played_more (begun track.first) track.calls (writes c.args.at bytes)) in
    played_on ∙ ap (λ (d : DiskState). Some (ticked (clock_of d) (written c.args.at bytes (clock_of d).now))) c.self.view_is
