use Rattle.std.proofs.Common.{List, arith, refl, rules, ◌∙◌}
use Rattle.ifdb_journal.specs.declared.record.Record.{Record}
use Rattle.ifdb_log.specs.Pieces.{piece, pieces, pieces_left}
use Rattle.ifdb_extract.proofs.Putting.{left_first, left_last, left_next}
use Rattle.ifdb_extract.proofs.Writing.{later_here, later_on}
use Rattle.ifdb_extract.proofs.writer.TextWriter.put.Goals as goal

pub loop-piece-init : goal.loop-piece-init
loop-piece-init g c =
    let t = g.D.Disk.tells c.args.disk.now in
    record {
      can = search rules;
      ends = search rules;
      left =
          left_first (pieces c.args.text.now) (pieces_left c.into_iter-piece-iterator.result.is_done c.into_iter-piece-iterator.result.session c.into_iter-piece-iterator.result.rest.now) t c.args.self.now
          (first_of (search rules, grind arith));
      ready = c.requires.ready;
      later = later_here t;
      calm = refl;
    }

pub loop-piece-preserved : goal.loop-piece-preserved
loop-piece-preserved g c =
    let begun = g.D.Disk.tells c.args.disk.now in
    let t = g.D.Disk.tells c.loop-piece.disk in
    let u = g.D.Disk.tells c.push.new.disk in
    let one : Record = piece c.in-Some.piece.session c.in-Some.piece.line.now in
    let all : List Record = pieces_left c.loop-piece.piece-iterator.is_done c.loop-piece.piece-iterator.session c.loop-piece.piece-iterator.rest.now in
    let rest : List Record = pieces_left c.next.new.self.is_done c.next.new.self.session c.next.new.self.rest.now in
    record {
      can = search rules;
      ends = search rules;
      left = left_next (pieces c.args.text.now) all rest one begun t u c.args.self.now c.loop-piece.self c.push.new.self c.in-Some.ensures.steps c.in_ok-push.ensures.put c.loop-piece.invariant.left;
      ready = c.in_ok-push.ensures.ready;
      later = later_on begun t u c.loop-piece.invariant.later c.push.ensures.later;
      calm = c.in_ok-push.ensures.cause ∙ c.loop-piece.invariant.calm;
    }

pub returns-clause-put : goal.returns-clause-put
returns-clause-put g c =
    left_last (pieces c.args.text.now) _ (g.D.Disk.tells c.args.disk.now) (g.D.Disk.tells c.loop-piece.disk) c.args.self.now c.loop-piece.self (search rules) c.loop-piece.invariant.left
