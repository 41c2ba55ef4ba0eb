use Rattle.ifdb_host.proofs.serving.host.Given as goal

abbrev pub ghosts-host_titled : goal.ghosts-host_titled
ghosts-host_titled g a = record { begun = g.D.Disk.tells a.disk }
