use Rattle.std.proofs.Common.{◌≤◌, length, sym, ap, subst}
use Rattle.ifdb_trace.proofs.Telling.{short_lines}
use Rattle.ifdb_trace.proofs.reply.Untold.is_short.Goals as goal

pub returns-then-rest-le-LONGEST_TOLD : goal.returns-then-rest-le-LONGEST_TOLD
returns-then-rest-le-LONGEST_TOLD c =
    sym (short_lines c.args.self.now (subst (λ text. length text ≤ 65533) c.rest-rest.ensures c.if-rest-le-LONGEST_TOLD.true))
