-- decides: the program
-- How the program may end by the words of a database in a file.
use Rattle.std.specs.Prelude.{ℕ}
use Rattle.ifdb_top.specs.declared.more.MoreStatus.{MoreStatus}
use Rattle.ifdb_top.specs.declared.status.HostStatus.{HostStatus}
use Rattle.ifdb_top.specs.declared.status.HostStatus.TheVariants.{More, DiskFault, NoKey, NotADatabase, SpareTaken}
use Rattle.ifdb_top.specs.More.{exit_code}

-- the exit status
abbrev pub host_code : HostStatus → ℕ
host_code (More end) = exit_code end
host_code DiskFault = 7
host_code NotADatabase = 8
host_code NoKey = 8
host_code SpareTaken = 8

-- the end is one of other words
abbrev pub OnMore : HostStatus → (MoreStatus → Type 0) → Type 0
OnMore (More end) P = P end
OnMore DiskFault P = ⊥
OnMore NotADatabase P = ⊥
OnMore NoKey P = ⊥
OnMore SpareTaken P = ⊥
