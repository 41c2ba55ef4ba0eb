use Rattle.std.proofs.Common.{[], ◌∷◌, ◌++◌, sym, subst}
use Rattle.ifdb_session.specs.Durable.{HasRecords}
use Rattle.ifdb_session.proofs.Queueing.{record_pushed}
use Rattle.ifdb_session.proofs.durable.QueueRecords.push.Goals as goal

pub returns : goal.returns
returns g c = λ rs r is has.
    subst (λ q. HasRecords q (rs ++ r ∷ [])) (sym c.push_text.ensures) (record_pushed c.args.self.now rs r c.args.text.now is has)
