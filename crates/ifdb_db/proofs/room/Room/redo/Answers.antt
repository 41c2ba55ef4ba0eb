use Rattle.std.proofs.Common.{◌≡◌, length, refl, sym, subst}
use Rattle.ifdb_db.specs.Room.{Hall, IsSoundRoom}
use Rattle.ifdb_db.proofs.Restoring.{made_again_if}
use Rattle.ifdb_db.proofs.room.Room.redo.Goals as goal

pub returns-clause-done : goal.returns-clause-done
returns-clause-done g c =
    let h : Hall = record { desk = c.self.inside.db; clients = g.S.Sessions.clients c.self.inside.sessions } in
    let k : Hall = record { desk = c.redo.new.self; clients = g.S.Sessions.clients c.self.inside.sessions } in
    let same : h ≡ c.args.self.now = c.self.view_is in
    let sound : IsSoundRoom h = subst (λ (x : Hall). IsSoundRoom x) (sym same) c.is_sound.ensures in
    made_again_if c.args.self.now h k c.args.recorded c.redo.result same sound (subst (λ (x : Hall). length x.clients ≡ 0) (sym same) c.requires.nobody) c.redo.ensures.done c.redo.ensures.fits refl
