use Rattle.std.proofs.Common.{ap, refl, sym, ◌∙◌}
use Rattle.ifdb_row.specs.ByReference.{option_row, row_of}
use Rattle.ifdb_row.specs.Runs.{rows_in}
use Rattle.ifdb_extract.proofs.Walking.{next_text, none_left, run_rises}
use Rattle.ifdb_extract.proofs.row_texts.RowTexts.next.Goals as goal

pub returns-clause-some : goal.returns-clause-some
returns-clause-some c =
    next_text c.args.self.now.rows.now (rows_in c.run_from-run.result) c.args.self.now.edge _ (row_of c.in-Some.last) c.in_ok-text.text.items c.run_from-run.ensures.rising c.run_from-run.ensures.run
    (sym c.last.ensures ∙ ap option_row c.in-Some.is) (λ r. refl) c.in_ok-text.ensures

pub run_text-requires : goal.run_text-requires
run_text-requires c = run_rises c.args.self.now.rows.now (rows_in c.run_from-run.result) c.args.self.now.edge c.run_from-run.ensures.rising c.run_from-run.ensures.run

pub returns-in_default-clause-none : goal.returns-in_default-clause-none
returns-in_default-clause-none c = λ is.
    none_left c.args.self.now.rows.now (rows_in c.run_from-run.result) c.args.self.now.edge c.run_from-run.ensures.run (sym c.last.ensures ∙ ap option_row c.in_default.is)
