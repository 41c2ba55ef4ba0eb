use Rattle.std.proofs.Common.{sym, arith}
use Rattle.ifdb_closure.proofs.Parting.{parting_ends, parting_goes}
use Rattle.ifdb_closure.proofs.statements.statements_from.Goals as goal
use Rattle.ifdb_closure.proofs.statements.statements_from.Goals.{then-is_semicolon+in_ok-of+in_ok-push, else-is_semicolon}

pub loop-token-preserved : goal.loop-token-preserved
loop-token-preserved c = elim c.if-is_semicolon.branch [
  | then-is_semicolon+in_ok-of+in_ok-push w ↦
      rw (w.statements-is, w.from-is, w.in_ok-push.ensures.ok, w.in_ok-of.ensures)
      (parting_ends c.args.line.now c.args.at c.args.tokens.now c.loop-token.statements c.loop-token.from c.loop-token.token-index _
      c.loop-token.invariant (omega (arith, c.loop-token-test.true)) (sym w.if-is_semicolon.ensures))
  | else-is_semicolon w ↦
      rw (w.statements-is, w.from-is)
      (parting_goes c.args.line.now c.args.at c.args.tokens.now c.loop-token.statements c.loop-token.from c.loop-token.token-index _
      c.loop-token.invariant (omega (arith, c.loop-token-test.true)) (sym w.if-is_semicolon.ensures))
]
