use Rattle.std.proofs.Common.{rules, ◌≡◌, ◌∙◌}
use Rattle.ifdb_db.specs.Lent.{with_client}
use Rattle.ifdb_db.specs.Room.{client_in}
use Rattle.ifdb_db.proofs.Lending.{put_twice, put_itself}
use Rattle.ifdb_db.proofs.room.Room.resume.Goals as goal

pub returns-in_default-clause-err : goal.returns-in_default-clause-err
returns-in_default-clause-err g c =
    let h = c.args.self.now in
    let same : c.reply_noted.new.self ≡ c.put-begun.new.self = search rules in
    let room = same ∙ c.put-begun.ensures.put in
    c.put.ensures.put ∙ (λ i. with_client (room i) c.args.n (c.put-begun.ensures.before i))
    ∙ put_twice h c.args.n c.args.session (client_in h c.args.n) ∙ put_itself h c.args.n c.requires.is_open

pub returns-then-not-say-clause-err : goal.returns-then-not-say-clause-err
returns-then-not-say-clause-err g c =
    let h = c.args.self.now in
    let same : c.reply_noted.new.self ≡ c.put-begun.new.self = c.in-Ok.ensures.still (search rules) in
    let room = same ∙ c.put-begun.ensures.put in
    c.put-then-not-say.ensures.put ∙ (λ i. with_client (room i) c.args.n (c.put-begun.ensures.before i))
    ∙ put_twice h c.args.n c.args.session (client_in h c.args.n) ∙ put_itself h c.args.n c.requires.is_open
