use Rattle.ifdb_store.proofs.tree.TreeRows.run_from.Given as goal

abbrev pub ghosts-uncounted_run : goal.ghosts-uncounted_run
ghosts-uncounted_run a = record { name = a.blank.name; parts = a.blank.parts }
