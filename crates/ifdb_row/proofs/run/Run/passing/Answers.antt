use Rattle.std.proofs.Common.{◌≡◌, ◌∙◌, ap, sym, take, true}
use Rattle.ifdb_row.specs.ByReference.{option_row, row_of}
use Rattle.ifdb_row.specs.Runs.{rows_in}
use Rattle.ifdb_row.proofs.Reaches.{all_leading, leading_is, reach_leads}
use Rattle.ifdb_row.proofs.run.Run.passing.Goals as goal

pub returns-in-Some : goal.returns-in-Some
returns-in-Some g c =
    let t = g.T.RowTest.passes c.args.test.now in
    let row = row_of c.in-Some.row in
    let passes : t row ≡ true = sym c.passes.ensures ∙ c.if-passes.true in
    sym (all_leading t (rows_in c.args.self) row c.requires (sym c.last.ensures ∙ ap option_row c.in-Some.is) passes)

pub returns-in_default : goal.returns-in_default
returns-in_default g c =
    let t = g.T.RowTest.passes c.args.test.now in
    let rows = rows_in c.args.self in
    c.front.ensures ∙ (ap (λ n. take n rows) c.count_passing.ensures.count ∙ (reach_leads t rows ∙ sym (leading_is t rows)))
