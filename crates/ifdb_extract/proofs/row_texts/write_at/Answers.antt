use Rattle.std.proofs.Common.{◌∙◌, Some, ap, sym}
use Rattle.ifdb_row.specs.declared.row.Row.{Row}
use Rattle.ifdb_row.specs.Runs.{rows_in}
use Rattle.ifdb_extract.proofs.Walking.{if_both, write_there}
use Rattle.ifdb_extract.proofs.row_texts.write_at.Goals as goal

pub returns : goal.returns
returns c =
    if_both c.of_row.result c.of_row.ensures.slot c.of_row.ensures.row (λ w slot row.
    write_there (rows_in c.args.run) c.args.place c.in_ok-row.row w (c.row.ensures ∙ ap (λ (r : Row). Some r) (sym c.in_ok-row.ensures)) slot row)
