use Rattle.std.proofs.Common.{◌<◌, ◌^◌, sym, subst}
use Rattle.ifdb_log.specs.Reading.{HasRead, Reading}
use Rattle.ifdb_log.proofs.reading.Log.next.Goals as goal

pub returns-clause-end : goal.returns-clause-end
returns-clause-end g c = λ is texts read.
    c.read_text.ensures.end is texts (subst (λ (r : Reading). HasRead (g.D.Disk.tells c.args.disk.now) texts r.place) (sym c.self.view_is) read)

pub returns-clause-damaged : goal.returns-clause-damaged
returns-clause-damaged g c = λ at is texts read.
    c.read_text.ensures.damaged at is texts (subst (λ (r : Reading). HasRead (g.D.Disk.tells c.args.disk.now) texts r.place) (sym c.self.view_is) read)

pub returns-clause-moves : goal.returns-clause-moves
returns-clause-moves g c = λ is.
    subst (λ (r : Reading). (r.place.at < c.read_text.new.journal.at) × (r.place.at < 2 ^ 62)) c.self.view_is (c.read_text.ensures.moves is)
