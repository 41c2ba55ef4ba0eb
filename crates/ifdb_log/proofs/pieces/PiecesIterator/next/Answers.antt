use Rattle.std.proofs.Common.{rules, ◌≡◌, ◌∷◌, length, ap}
use Rattle.ifdb_log.specs.Pieces.{piece, pieces_left}
use Rattle.ifdb_log.proofs.Cuts.{left_more}
use Rattle.ifdb_log.proofs.pieces.PiecesIterator.next.Goals as goal

pub returns-clause-steps : goal.returns-clause-steps
returns-clause-steps c =
    let s = c.args.self.now in
    left_more s.is_done s.session s.rest.now c.split_at.result.0.now c.split_at.result.1.now c.if-self.false c.if-self-lt-PIECE_SIZE.false c.split_at.ensures.front c.split_at.ensures.back

pub returns-clause-goes : goal.returns-clause-goes
returns-clause-goes c =
    let s = c.args.self.now in
    let first : pieces_left s.is_done s.session s.rest.now ≡ piece s.session c.split_at.result.0.now ∷ pieces_left s.is_done 1 c.split_at.result.1.now =
    left_more s.is_done s.session s.rest.now c.split_at.result.0.now c.split_at.result.1.now c.if-self.false c.if-self-lt-PIECE_SIZE.false c.split_at.ensures.front c.split_at.ensures.back in
    let shorter = ap length first in
    search rules
