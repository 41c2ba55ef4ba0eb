use Rattle.std.proofs.Common.{[]}
use Rattle.test_session.proofs.kept.serve.Given as goal

abbrev pub ghosts-serve_named-B-Naming : goal.ghosts-serve_named-B-Naming
ghosts-serve_named-B-Naming g a = record { table = a.opened.table.shared.table_id; before = [] }

abbrev pub ghosts-serve_named-B-Begins : goal.ghosts-serve_named-B-Begins
ghosts-serve_named-B-Begins g a = record { first = [] }
