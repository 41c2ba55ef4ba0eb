use Rattle.std.proofs.Common.{◌≡◌, ◌+◌, take, ◌++◌, ◌∷◌, [], sym, ap, ◌∙◌, arith}
use Rattle.std.specs.Prelude.{find}
use Rattle.std.proofs.lemmas.Grind.{common_steps}
use Rattle.ifdb_row.specs.Content.{rising}
use Rattle.ifdb_row.specs.Questions.{earlier}
use Rattle.ifdb_row.specs.Verdict.{is_left}
use Rattle.ifdb_foreign.specs.Left.{unwritten}
use Rattle.ifdb_foreign.proofs.AfterWrites.{is_true}
use Rattle.ifdb_foreign.proofs.KeptRows.{kept_none, kept_more}
use Rattle.ifdb_foreign.proofs.broken.first_kept.Goals as goal

pub loop-write-init : goal.loop-write-init
loop-write-init g c = sym (kept_none c.args.writes.now (g.R.Rows.rows c.args.before.now))

pub loop-write-preserved : goal.loop-write-preserved
loop-write-preserved g c =
    let rows = g.R.Rows.rows c.args.before.now in
    let before = take c.loop-write.write-index c.args.writes.now in
    let more : take (c.loop-write.write-index + 1) c.args.writes.now ≡ before ++ c.write-item.result ∷ [] = grind (arith, common_steps) in
    c.earlier-child.ensures
    ∙ (λ i. earlier (c.loop-write.invariant i) (c.kept_child.ensures i))
    ∙ sym (kept_more c.args.writes.now before c.write-item.result rows (is_true (rising rows) c.next.ensures.rising))
    ∙ ap (λ ws. find (unwritten c.args.writes.now (is_left ws)) rows) (sym more)

pub returns-clause-row : goal.returns-clause-row
returns-clause-row g c =
    let whole : take c.loop-write.write-index c.args.writes.now ≡ c.args.writes.now = grind (arith, common_steps) in
    c.loop-write.invariant ∙ ap (λ ws. find (unwritten c.args.writes.now (is_left ws)) (g.R.Rows.rows c.args.before.now)) whole
