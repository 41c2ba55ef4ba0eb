use Rattle.std.proofs.Common.{rules, ◌++◌, codes}
use Rattle.std.proofs.lemmas.Result.{on_err_weaker}
use Rattle.ifdb_service.specs.Summary.{numbered_line}
use Rattle.ifdb_io.proofs.Behind.{short_first, short_then}
use Rattle.ifdb_host.proofs.counts.write_counts.Goals as goal

pub returns-in_err-write_numbered-clause-err : goal.returns-in_err-write_numbered-clause-err
returns-in_err-write_numbered-clause-err g c =
    let a0 = short_first _ _ (numbered_line (codes "sessions") c.args.counts.sessions) ((numbered_line (codes "entries") c.args.counts.entries) ++ ((numbered_line (codes "commits") c.args.counts.commits) ++ ((numbered_line (codes "refused") c.args.counts.refused) ++ (numbered_line (codes "rows") c.args.counts.rows)))) c.in_err-write_numbered.ensures.err in
    let x = a0 in search rules

pub returns-in_err-write_numbered-2-clause-err : goal.returns-in_err-write_numbered-2-clause-err
returns-in_err-write_numbered-2-clause-err g c =
    let a1 = short_first _ _ (numbered_line (codes "entries") c.args.counts.entries) ((numbered_line (codes "commits") c.args.counts.commits) ++ ((numbered_line (codes "refused") c.args.counts.refused) ++ (numbered_line (codes "rows") c.args.counts.rows))) c.in_err-write_numbered-2.ensures.err in
    let a0 = short_then _ _ _ (numbered_line (codes "sessions") c.args.counts.sessions) _ c.in_ok-write_numbered.ensures.ok a1 in
    let x = a0 in search rules

pub returns-in_err-write_numbered-3-clause-err : goal.returns-in_err-write_numbered-3-clause-err
returns-in_err-write_numbered-3-clause-err g c =
    let a2 = short_first _ _ (numbered_line (codes "commits") c.args.counts.commits) ((numbered_line (codes "refused") c.args.counts.refused) ++ (numbered_line (codes "rows") c.args.counts.rows)) c.in_err-write_numbered-3.ensures.err in
    let a1 = short_then _ _ _ (numbered_line (codes "entries") c.args.counts.entries) _ c.in_ok-write_numbered-2.ensures.ok a2 in
    let a0 = short_then _ _ _ (numbered_line (codes "sessions") c.args.counts.sessions) _ c.in_ok-write_numbered.ensures.ok a1 in
    let x = a0 in search rules

pub returns-in_err-write_numbered-4-clause-err : goal.returns-in_err-write_numbered-4-clause-err
returns-in_err-write_numbered-4-clause-err g c =
    let a3 = short_first _ _ (numbered_line (codes "refused") c.args.counts.refused) (numbered_line (codes "rows") c.args.counts.rows) c.in_err-write_numbered-4.ensures.err in
    let a2 = short_then _ _ _ (numbered_line (codes "commits") c.args.counts.commits) _ c.in_ok-write_numbered-3.ensures.ok a3 in
    let a1 = short_then _ _ _ (numbered_line (codes "entries") c.args.counts.entries) _ c.in_ok-write_numbered-2.ensures.ok a2 in
    let a0 = short_then _ _ _ (numbered_line (codes "sessions") c.args.counts.sessions) _ c.in_ok-write_numbered.ensures.ok a1 in
    let x = a0 in search rules

pub returns-clause-err : goal.returns-clause-err
returns-clause-err g c =
    on_err_weaker _ (λ last.
    let a3 = short_then _ _ _ (numbered_line (codes "refused") c.args.counts.refused) _ c.in_ok-write_numbered-4.ensures.ok last in
    let a2 = short_then _ _ _ (numbered_line (codes "commits") c.args.counts.commits) _ c.in_ok-write_numbered-3.ensures.ok a3 in
    let a1 = short_then _ _ _ (numbered_line (codes "entries") c.args.counts.entries) _ c.in_ok-write_numbered-2.ensures.ok a2 in
    let a0 = short_then _ _ _ (numbered_line (codes "sessions") c.args.counts.sessions) _ c.in_ok-write_numbered.ensures.ok a1 in
    a0) c.write_numbered-5.ensures.err
