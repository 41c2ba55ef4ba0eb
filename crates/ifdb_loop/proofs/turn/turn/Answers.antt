use Rattle.std.proofs.Common.{◌∙◌, sym}
use Rattle.ifdb_loop.proofs.Endings.{ended_with}
use Rattle.ifdb_loop.proofs.turn.turn.Goals as goal

pub returns-then-is_some-clause-goes_on : goal.returns-then-is_some-clause-goes_on
returns-then-is_some-clause-goes_on g c = g.met.S.Service.goes_itself _

pub returns-then-owed-ge-MUCH-clause-goes_on : goal.returns-then-owed-ge-MUCH-clause-goes_on
returns-then-owed-ge-MUCH-clause-goes_on g c = g.met.S.Service.goes_itself _

pub returns-clause-served : goal.returns-clause-served
returns-clause-served g c =
    let k = c.in-Err.ensures.stands in (
      (k.1.0, k.1.1, ended_with _ _ _ _ _ k.0 _ _ _ k.1.2),
      λ is_lost. rw c.talk.ensures.writes (c.requires.served.1 (sym c.talk.ensures.lost ∙ is_lost)),
      c.in-Err.ensures.own,
    )
