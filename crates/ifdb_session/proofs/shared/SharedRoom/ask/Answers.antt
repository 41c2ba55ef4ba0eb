use Rattle.std.proofs.Common.{rules, ◌≡◌, true, false, ◌∙◌, sym, ap, subst}
use Rattle.ifdb_db.specs.Room.{client_in}
use Rattle.ifdb_session.specs.Counts.{counted, IsGlance}
use Rattle.ifdb_session.specs.Turns.{with_lent}
use Rattle.ifdb_session.proofs.Counting.{answered_and_counted, lent_by}
use Rattle.ifdb_session.proofs.Noting.{noted_step}
use Rattle.ifdb_session.proofs.shared.SharedRoom.ask.Goals as goal

pub returns-then-not-is_open : goal.returns-then-not-is_open
returns-then-not-is_open g c =
    let t = c.in-Ok.ensures in
    let h = with_lent c.args.self.now.room c.args.n c.args.lent.now in
    let opened : (client_in c.tell.new.room c.args.n).is_open ≡ false = sym c.is_open.ensures ∙ (search rules) in
    let after = subst (λ l. IsGlance (with_lent c.tell.new.room c.args.n l) c.args.n c.glance-after.result) t.back c.glance-after.ensures in
    let q = answered_and_counted h c.args.self.now (record { room = c.tell.new.room; records = c.record.new.records; entries = c.counted-self.result; commits = c.counted-self-2.result; refused = c.counted-self-3.result })
    c.args.n c.args.line c.tell.new.out.text c.in-Ok.reply c.glance-before.result c.glance-after.result false c.glance-before.ensures after
    t.asked t.told t.text opened (record {
      entries = c.counted-self.ensures;
      commits = c.counted-self-2.ensures ∙ ap (counted c.args.self.now.commits) c.has_committed.ensures;
      refused = c.counted-self-3.ensures ∙ ap (counted c.args.self.now.refused) c.has_refused.ensures;
    }) in
    (q.0, q.1, t.back, noted_step g.Q.Records h c.args.n c.args.line c.note-note.result c.tell.new.note c.args.self.now.records c.record.new.records t.noted c.record.ensures.recorded c.record.ensures.none, c.count-count.ensures)

pub returns : goal.returns
returns g c =
    let t = c.in-Ok.ensures in
    let h = with_lent c.args.self.now.room c.args.n c.args.lent.now in
    let opened : (client_in c.tell.new.room c.args.n).is_open ≡ true = sym c.is_open.ensures ∙ (search rules) in
    let after = subst (λ l. IsGlance (with_lent c.tell.new.room c.args.n l) c.args.n c.glance-after.result) t.back c.glance-after.ensures in
    let q = answered_and_counted h c.args.self.now (record { room = c.tell.new.room; records = c.record.new.records; entries = c.counted-self.result; commits = c.counted-self-2.result; refused = c.counted-self-3.result })
    c.args.n c.args.line c.tell.new.out.text c.in-Ok.reply c.glance-before.result c.glance-after.result true c.glance-before.ensures after
    t.asked t.told t.text opened (record {
      entries = c.counted-self.ensures;
      commits = c.counted-self-2.ensures ∙ ap (counted c.args.self.now.commits) c.has_committed.ensures;
      refused = c.counted-self-3.ensures ∙ ap (counted c.args.self.now.refused) c.has_refused.ensures;
    }) in
    (q.0, q.1, lent_by c.tell.new.room c.args.n c.lend.result c.lend.ensures.copy c.lend.ensures.lent, noted_step g.Q.Records h c.args.n c.args.line c.note-note.result c.tell.new.note c.args.self.now.records c.record.new.records t.noted c.record.ensures.recorded c.record.ensures.none, c.count-count.ensures)
