use Rattle.std.proofs.Common.{rules, codes}
use Rattle.std.proofs.lemmas.Result.{on_err_weaker}
use Rattle.ifdb_io.proofs.Behind.{short_first, short_then}
use Rattle.ifdb_service.specs.Summary.{numbered_line}
use Rattle.ifdb_top.proofs.inspecting.write_inspection.Goals as goal

pub returns-in_err-write_numbered-clause-err : goal.returns-in_err-write_numbered-clause-err
returns-in_err-write_numbered-clause-err g c =
    let x = short_first _ _ (numbered_line (codes "changes") c.args.inspection.changes) (numbered_line (codes "rows") c.args.inspection.rows) c.in_err-write_numbered.ensures.err in search rules

pub returns-clause-err : goal.returns-clause-err
returns-clause-err g c =
    on_err_weaker _ (λ last. short_then _ _ _ (numbered_line (codes "changes") c.args.inspection.changes) _ c.in_ok-write_numbered.ensures.ok last) c.write_numbered-2.ensures.err
