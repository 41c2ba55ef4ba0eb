-- The first row of a run is a run.
use Rattle.std.proofs.Common.{◌≡◌, ◌∙◌, ℕ, zero, suc, List, [], ◌∷◌, ◌++◌, length, take, drop, min, refl, sym, subst, ap, arith, append_assoc, take-append-drop}
use Rattle.ifdb_row.specs.declared.row.Row.{Row}
use Rattle.ifdb_row.specs.Questions.{IsRun, rows_from}
use Rattle.ifdb_row.specs.Runs.{rows_in}
use Rattle.test_exec.proofs.tests.counted.CountedRowsRows.run_from.Goals as goal

none_by : (n : ℕ) (run : List Row) → n ≡ min (length run) 1 → take n run ≡ [] → run ≡ []
none_by n [] e none = refl
none_by zero (x ∷ run) e none = absurd (omega (arith, e))
none_by (suc n) (x ∷ run) e none = let some = ap length none in absurd (omega (arith, some))

cut_run : (n : ℕ) (run rows : List Row) → n ≡ min (length run) 1 → IsRun run rows → IsRun (take n run) rows
cut_run n run rows e is = record {
  rest = drop n run ++ is.rest;
  front = is.front ∙ ap (λ l. l ++ is.rest) (sym (take-append-drop n run)) ∙ append_assoc (take n run) (drop n run) is.rest;
  some = λ none. is.some (none_by n run e none);
}

pub returns-clause-run : goal.returns-clause-run
returns-clause-run c =
    let run = rows_in c.run_from-run.result in
    let n : c.min.result ≡ min (length run) 1 = c.min.ensures ∙ ap (λ l. min l 1) c.len.ensures in
    subst (λ rows. IsRun rows (rows_from c.args.edge.now c.args.self.now.rows)) (sym c.front.ensures) (cut_run c.min.result run (rows_from c.args.edge.now c.args.self.now.rows) n c.run_from-run.ensures.run)
