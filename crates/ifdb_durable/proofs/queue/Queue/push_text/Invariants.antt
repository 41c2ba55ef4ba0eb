use Rattle.std.proofs.Common.{◌≡◌}
use Rattle.ifdb_log.specs.Pieces.{pieces_left}
use Rattle.ifdb_durable.proofs.TextRoom.{Goes}
use Rattle.ifdb_durable.proofs.queue.Queue.push_text.Given as goal

abbrev pub invariant-loop-piece : goal.invariant-loop-piece
invariant-loop-piece g l = record {
  can : (goal.iterator-loop-piece g).can_next l.piece-iterator;
  ends : (goal.iterator-loop-piece g).is_finite l.piece-iterator;
  goes : Goes l.fn.self.waiting l.self.waiting (pieces_left l.piece-iterator.is_done l.piece-iterator.session l.piece-iterator.rest.now) l.text;
  taken : l.self.taken ≡ l.fn.self.taken;
  room : l.self.room ≡ l.fn.self.room;
}
