use Rattle.std.proofs.Common.{ap, sym, ◌∙◌}
use Rattle.std.specs.Prelude.{List, Some}
use Rattle.ifdb_disk.specs.Memory.{DiskState}
use Rattle.ifdb_folder.specs.declared.named.Named.{Named}
use Rattle.ifdb_folder.specs.Folders.{FolderState}
use Rattle.ifdb_folder.proofs.Taken.{none_taken}
use Rattle.ifdb_folder.proofs.memory_folder.MemoryFolderFolder.take.Goals as goal

pub returns-in-None-clause-err : goal.returns-in-None-clause-err
returns-in-None-clause-err c =
    ap (λ (disks : List (Named DiskState)). Some disks)
    (ap (λ (s : FolderState). s.disks) c.failed-in-None.ensures.state ∙ ap (λ (s : FolderState). s.disks) c.in-None.ensures.state
    ∙ none_taken c.args.name.now c.fails.new.self.disks (sym c.in-None.ensures.disk) ∙ ap (λ (s : FolderState). s.disks) c.if-fails.ensures.state)
