use Rattle.std.proofs.Common.{◌≡◌, ◌∙◌, Some, drop, arith}
use Rattle.std.proofs.lemmas.List.{take_rest}
use Rattle.ifdb_lex.specs.Front.{front}
use Rattle.ifdb_lex.proofs.LineLemmas.{token_goes}
use Rattle.ifdb_lex.proofs.line.tokens_of.Goals as goal

pub loop-at-preserved : goal.loop-at-preserved
loop-at-preserved c =
    let line = c.args.line.now in
    let at = c.loop-at.at in
    let rest = take_rest line at in
    let found : front (drop at line) ≡ Some (c.in-Some.kind, c.in-Some.len) = cc in
    let goes = token_goes c.loop-at.tokens line at c.in-Some.kind c.in-Some.len (omega arith) (cc) found (grind arith) in
    (rw c.in_ok-push.ensures (goes ∙ c.loop-at.invariant.0), grind arith)
