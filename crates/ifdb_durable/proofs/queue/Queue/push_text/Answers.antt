use Rattle.std.proofs.Common.{ℕ, ◌+◌, ◌-◌, ◌^◌, ◌<◌, ◌≤◌, List, ◌∷◌, ◌++◌, length, ap, sym, subst, ◌∙◌}
use Rattle.ifdb_journal.specs.declared.record.Record.{Record}
use Rattle.ifdb_journal.specs.Records.{bytes_of}
use Rattle.ifdb_log.specs.Pieces.{piece, pieces_left}
use Rattle.ifdb_durable.proofs.TextRoom.{Goes, piece_counts, piece_fits}
use Rattle.ifdb_durable.proofs.queue.Queue.push_text.Goals as goal

pub push-requires-clause-room : goal.push-requires-clause-room
push-requires-clause-room g c =
    let old = c.args.self.now in
    let text = c.args.text.now in
    let waiting = c.loop-piece.self.waiting in
    let one : Record = piece c.in-Some.piece.session c.in-Some.piece.line.now in
    let left : List Record = pieces_left c.next.new.self.is_done c.next.new.self.session c.next.new.self.rest.now in
    let goes : Goes old.waiting waiting (one ∷ left) text = record { all = ap (λ (l : List Record). waiting ++ l) (sym c.in-Some.ensures.steps) ∙ c.loop-piece.invariant.goes.all } in
    let fits = piece_fits old.waiting waiting left one text old.room (2 ^ 64 - 1 - length (old.taken ++ old.waiting)) goes c.requires in
    subst (λ (n : ℕ). bytes_of waiting + (14 + length one.line) ≤ n) (sym c.loop-piece.invariant.room) fits

pub push-requires-clause-count : goal.push-requires-clause-count
push-requires-clause-count g c =
    let old = c.args.self.now in
    let text = c.args.text.now in
    let waiting = c.loop-piece.self.waiting in
    let one : Record = piece c.in-Some.piece.session c.in-Some.piece.line.now in
    let left : List Record = pieces_left c.next.new.self.is_done c.next.new.self.session c.next.new.self.rest.now in
    let goes : Goes old.waiting waiting (one ∷ left) text = record { all = ap (λ (l : List Record). waiting ++ l) (sym c.in-Some.ensures.steps) ∙ c.loop-piece.invariant.goes.all } in
    let counts = piece_counts old.taken old.waiting waiting left one text (old.room - bytes_of old.waiting) goes c.requires in
    subst (λ (l : List Record). length (l ++ waiting) + 1 < 2 ^ 64) (sym c.loop-piece.invariant.taken) counts
