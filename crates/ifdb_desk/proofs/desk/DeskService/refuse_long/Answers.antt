use Rattle.std.proofs.Common.{refl}
use Rattle.std.proofs.Math.Nat.{le_refl}
use Rattle.ifdb_turn.specs.Passes.{history}
use Rattle.ifdb_session.proofs.Passes.{prefix_itself, sees_itself}
use Rattle.ifdb_desk.proofs.Saying.{goes_by, ready_by, says_later}
use Rattle.ifdb_desk.proofs.desk.DeskService.refuse_long.Goals as goal

pub returns-clause-ready : goal.returns-clause-ready
returns-clause-ready g c =
    let s = c.args.self.now in
    ready_by g.Q.Records g.S.Settles g.met.S.Settles.stays_kept s _ (sees_itself g.Q.Records.first s.hall.now s.pass c.requires.belongs c.requires.orderly) refl refl (λ is. (is, refl)) c.requires

pub returns-clause-goes_on : goal.returns-clause-goes_on
returns-clause-goes_on g c =
    let s = c.args.self.now in
    goes_by g.Q.Records g.S.Settles g.met.S.Settles.stays_kept g.met.S.Settles.goes_itself s _ (sees_itself g.Q.Records.first s.hall.now s.pass c.requires.belongs c.requires.orderly) refl refl refl

pub returns-clause-says : goal.returns-clause-says
returns-clause-says g c = λ place d says.
    let s = c.args.self.now in
    says_later g.Q.Records g.S.Settles g.met.S.Settles.stays_kept s _ place d says (prefix_itself (history s.pass)) c.requires.orderly.0 (le_refl s.mark) (g.met.S.Settles.goes_itself s.keeper)
    (λ seated. (seated, record { lines = refl; texts = λ _ told. told; sources = refl }))
