use Rattle.std.proofs.Common.{sym, ap, subst, ◌∙◌}
use Rattle.std.specs.Prelude.{Ok}
use Rattle.ifdb_model.specs.Step.{Outcome}
use Rattle.ifdb_db.specs.Noting.{Noted, IsNoted}
use Rattle.ifdb_db.specs.Room.{client_in, outcome_in}
use Rattle.ifdb_db.proofs.Noting.{noted_in, noted_limit, refused_noted}
use Rattle.ifdb_db.proofs.RoomLaws.{follows, refused_so, stays, told_reply}
use Rattle.ifdb_db.proofs.room.Room.reply_noted.Goals as goal

pub returns-in-Ok-clause-asked : goal.returns-in-Ok-clause-asked
returns-in-Ok-clause-asked g c = λ st w. follows c.args.self.now c.answer.new.self st c.args.n c.args.line c.in-Ok.reply c.is_sound.ensures c.in-Ok.ensures.asked w

pub returns-in-Ok-clause-told : goal.returns-in-Ok-clause-told
returns-in-Ok-clause-told g c = λ st w. told_reply c.args.self.now st c.args.n c.args.line c.in-Ok.reply c.is_sound.ensures c.in-Ok.ensures.asked.done.told w

pub returns-in-Ok-clause-noted : goal.returns-in-Ok-clause-noted
returns-in-Ok-clause-noted g c =
    noted_in c.args.self.now c.args.n c.args.line c.args.note.now c.answer.new.note c.in-Ok.reply c.is_sound.ensures
    (subst (λ (n : Noted). IsNoted (outcome_in c.args.self.now c.args.n c.args.line) (client_in c.args.self.now c.args.n).principal c.args.line n c.answer.new.note (Ok c.in-Ok.reply)) c.clear.ensures c.in-Ok.ensures.noted)

pub returns-in-Ok-clause-limit : goal.returns-in-Ok-clause-limit
returns-in-Ok-clause-limit g c = ap (λ (n : Noted). n.limit) c.in-Ok.ensures.noted ∙ noted_limit c.clear.new.self _ ∙ ap (λ (n : Noted). n.limit) c.clear.ensures

pub returns-in_ok-reply-in-Err-clause-asked : goal.returns-in_ok-reply-in-Err-clause-asked
returns-in_ok-reply-in-Err-clause-asked g c = λ st w.
    stays c.args.self.now c.answer.new.self st c.args.n c.args.line c.in-Err.fault c.is_sound.ensures
    (refused_so _ _ _ c.in_ok-reply-in-Err.ensures.cause c.in-Err.ensures.asked.cause) c.in-Err.ensures.asked.hall w

pub returns-in_ok-reply-in-Err-clause-told : goal.returns-in_ok-reply-in-Err-clause-told
returns-in_ok-reply-in-Err-clause-told g c = λ st w.
    told_reply c.args.self.now st c.args.n c.args.line c.in_ok-reply-in-Err.reply c.is_sound.ensures
    (c.in_ok-reply-in-Err.ensures.told ∙ ap (λ (o : Outcome). o.reply) (sym (refused_so _ _ _ c.in_ok-reply-in-Err.ensures.cause c.in-Err.ensures.asked.cause))) w

pub returns-in_ok-reply-in-Err-clause-noted : goal.returns-in_ok-reply-in-Err-clause-noted
returns-in_ok-reply-in-Err-clause-noted g c =
    refused_noted c.args.self.now c.args.n c.args.line c.args.note.now c.answer.new.note c.clear-in-Err.new.self c.in-Err.fault c.is_sound.ensures
    (refused_so _ _ _ c.in_ok-reply-in-Err.ensures.cause c.in-Err.ensures.asked.cause) (c.in-Err.ensures.noted ∙ ap (λ (n : Noted). n.limit) c.clear.ensures) c.clear-in-Err.ensures
