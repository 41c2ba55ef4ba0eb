use Rattle.std.proofs.Common.{rules, ◌++◌, codes, decimal}
use Rattle.std.proofs.lemmas.Result.{on_err_weaker}
use Rattle.ifdb_io.proofs.Behind.{short_first, short_then}
use Rattle.ifdb_service.proofs.numbered_line.write_numbered.Goals as goal

pub returns-in_err-write_all-2-clause-err : goal.returns-in_err-write_all-2-clause-err
returns-in_err-write_all-2-clause-err g c =
    let blank = short_first _ _ (codes " ") (decimal c.args.number ++ codes "\n") c.in_err-write_all-2.ensures.err in
    let x = short_then _ _ _ c.args.name.now _ c.in_ok-write_all.ensures.ok blank in search rules

pub returns-in_err-write_all-3-clause-err : goal.returns-in_err-write_all-3-clause-err
returns-in_err-write_all-3-clause-err g c =
    let digits = short_first _ _ c.as_bytes.result.now (codes "\n") c.in_err-write_all-3.ensures.err in
    let blank = short_then _ _ _ (codes " ") _ c.in_ok-write_all-2.ensures.ok digits in
    let x = short_then _ _ _ c.args.name.now _ c.in_ok-write_all.ensures.ok blank in search rules

pub returns-clause-err : goal.returns-clause-err
returns-clause-err g c =
    on_err_weaker _ (λ last.
    let digits = short_then _ _ _ c.as_bytes.result.now (codes "\n") c.in_ok-write_all-3.ensures.ok last in
    let blank = short_then _ _ _ (codes " ") _ c.in_ok-write_all-2.ensures.ok digits in
    let x = short_then _ _ _ c.args.name.now _ c.in_ok-write_all.ensures.ok blank in search rules) c.write_all-4.ensures.err
