use Rattle.std.proofs.Common.{◌≡◌, ◌∙◌, subst}
use Rattle.std.specs.Prelude.{IfOk}
use Rattle.ifdb_script.specs.Rehearsal.{rehearsed}
use Rattle.ifdb_script.proofs.rehearsal.rehearse.Goals as goal

pub returns : goal.returns
returns c =
    subst (λ text. IfOk c.rehearse_lines.result (λ found. found ≡ rehearsed text)) (c.deref.ensures.value ∙ c.in_ok-script.ensures)
    c.rehearse_lines.ensures
