use Rattle.ifdb_log.specs.Behind.{behind}
use Rattle.ifdb_log.specs.Reading.{held}
use Rattle.ifdb_restart.specs.Restarted.{log_in}
use Rattle.ifdb_host.proofs.serving.host_titled.Given as goal

abbrev pub ghosts-host_reopened-N-Naming : goal.ghosts-host_reopened-N-Naming
ghosts-host_reopened-N-Naming g a = record {
  table = a.reopened.means.mark.table.shared.table_id;
  before = held (behind a.reopened.disk.size (g.D.Disk.tells a.reopened.disk.disk));
}

abbrev pub ghosts-host_reopened-N-Begins : goal.ghosts-host_reopened-N-Begins
ghosts-host_reopened-N-Begins g a = record { first = log_in a.reopened.restarted.made.items }
