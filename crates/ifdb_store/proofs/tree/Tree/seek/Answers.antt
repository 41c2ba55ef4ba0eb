use Rattle.std.proofs.Common.{◌∙◌, sym}
use Rattle.ifdb_row.specs.declared.row.Row.{Row}
use Rattle.ifdb_row.specs.Edges.{lies_before}
use Rattle.ifdb_row.specs.Questions.{rows_from}
use Rattle.ifdb_row.specs.Runs.{rows_in}
use Rattle.ifdb_row.proofs.Reaches.{find_skip}
use Rattle.ifdb_row.proofs.Questions.{first_of_run}
use Rattle.ifdb_store.proofs.tree.Tree.seek.Goals as goal

pub returns-clause-row : goal.returns-clause-row
returns-clause-row g c =
    c.first.ensures
    ∙ (sym (first_of_run (rows_in c.seek_run.result) (rows_from c.args.edge.now c.args.self.now) c.seek_run.ensures.run)
    ∙ sym (find_skip (λ (r : Row). lies_before c.args.edge.now r.slot) c.args.self.now))
