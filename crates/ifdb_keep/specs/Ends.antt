-- How a kept script ends where its journal can't be read.
use Rattle.ifdb_journal.specs.declared.record.JournalFault.{JournalFault}
use Rattle.ifdb_journal.specs.declared.record.JournalFault.TheVariants as fault
use Rattle.ifdb_keep.specs.declared.keep.KeepEnd.{KeepEnd}
use Rattle.ifdb_keep.specs.declared.keep.KeepEnd.TheVariants as end

abbrev pub end_of : JournalFault → KeepEnd
end_of fault.Disk = end.DiskFault
end_of (fault.Damaged at) = end.Damaged at
end_of fault.OutOfMemory = end.OutOfMemory
