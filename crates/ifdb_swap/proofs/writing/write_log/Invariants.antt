use Rattle.ifdb_swap.proofs.writing.write_log.Given as goal

abbrev pub ghosts-write_titled : goal.ghosts-write_titled
ghosts-write_titled g a = record { begun = g.D.Disk.tells a.disk }
