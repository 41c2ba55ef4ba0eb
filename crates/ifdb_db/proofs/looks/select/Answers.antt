use Rattle.ifdb_db.proofs.Saying.{look_answered}
use Rattle.ifdb_db.proofs.looks.select.Goals as goal

pub returns : goal.returns
returns c = look_answered c.args.seen.now c.args.asker c.args.label.now c.args.request c.in_ok-found.found c.look-answer.result c.requires.form c.in_ok-found.ensures.bound c.look-answer.ensures.told c.look-answer.ensures.refused
