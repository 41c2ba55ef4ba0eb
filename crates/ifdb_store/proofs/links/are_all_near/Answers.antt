use Rattle.std.proofs.Common.{◌∙◌}
use Rattle.ifdb_row.specs.declared.row.Row.{Row}
use Rattle.ifdb_row.specs.Runs.{rows_in}
use Rattle.ifdb_store.specs.Links.{is_near}
use Rattle.ifdb_store.proofs.Walking.{run_tells}
use Rattle.ifdb_store.proofs.links.are_all_near.Goals as goal

pub returns-clause-near : goal.returns-clause-near
returns-clause-near c = c.is_empty.ensures ∙ run_tells (λ (r : Row). is_near r.slot) c.args.rows.now (rows_in c.run_from.result) c.run_from.ensures.run
