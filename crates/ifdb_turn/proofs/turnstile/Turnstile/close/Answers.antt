use Rattle.ifdb_turn.proofs.Close.{ended_some, ended_none}
use Rattle.ifdb_turn.proofs.turnstile.Turnstile.close.Goals as goal

pub unreachable-requires : goal.unreachable-requires
unreachable-requires g c = ended_none _ _ _ _ _ _ _ _ c.close_with-closed.ensures.values.2 c.requires.all c.requires.pass.2 c.take.ensures.value c.in_default.is

pub returns-clause-stands : goal.returns-clause-stands
returns-clause-stands g c = (ended_some _ _ _ _ _ _ _ _ c.in-Some.kept c.close_with-closed.ensures.values.2 c.requires.all c.requires.pass.2 c.take.ensures.value c.in-Some.is).0

pub returns-clause-order : goal.returns-clause-order
returns-clause-order g c = (ended_some _ _ _ _ _ _ _ _ c.in-Some.kept c.close_with-closed.ensures.values.2 c.requires.all c.requires.pass.2 c.take.ensures.value c.in-Some.is).1

pub returns-clause-own : goal.returns-clause-own
returns-clause-own g c = (ended_some _ _ _ _ _ _ _ _ c.in-Some.kept c.close_with-closed.ensures.values.2 c.requires.all c.requires.pass.2 c.take.ensures.value c.in-Some.is).2
