use Rattle.std.proofs.Common.{◌∙◌, sym}
use Rattle.ifdb_row.specs.ByReference.{option_slot}
use Rattle.ifdb_row.specs.Questions.{is_later, later_rows}
use Rattle.ifdb_row.specs.Runs.{rows_in}
use Rattle.ifdb_row.proofs.Reaches.{find_filter}
use Rattle.ifdb_row.proofs.Questions.{first_of_run}
use Rattle.ifdb_row.proofs.rows.Rows.next.Goals as goal

pub returns-clause-row : goal.returns-clause-row
returns-clause-row g c =
    let rows = g.Self.Rows.rows c.args.self.now in
    c.first.ensures ∙ (sym (first_of_run (rows_in c.run.result) (later_rows c.args.table (option_slot c.args.after) rows) c.run.ensures.run) ∙ sym (find_filter (is_later c.args.table (option_slot c.args.after)) rows))
