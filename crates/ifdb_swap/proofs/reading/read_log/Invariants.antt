use Rattle.ifdb_swap.proofs.reading.read_log.Given as goal

abbrev pub ghosts-read_titled : goal.ghosts-read_titled
ghosts-read_titled g a = record { begun = g.D.Disk.tells a.disk }
