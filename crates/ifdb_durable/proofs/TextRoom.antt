-- The room that the pieces of a text take in a queue.
use Rattle.std.proofs.Common.{◌≡◌, ℕ, ◌+◌, ◌-◌, ◌^◌, ◌<◌, ◌≤◌, List, ◌∷◌, ◌++◌, length, ap, arith, length-append}
use Rattle.std.specs.Prelude.{min}
use Rattle.ifdb_journal.specs.declared.record.Record.{Record}
use Rattle.ifdb_journal.specs.Records.{bytes_of}
use Rattle.ifdb_log.specs.Pieces.{pieces, size_of}
use Rattle.ifdb_log.proofs.Cuts.{bytes-append, bytes-pieces, length-pieces}

-- what comes of records that wait, and of the pieces that are left behind them: it's the old ones and the pieces of a text
pub record Goes (old waiting left : List Record) (text : List ℕ) : Type 0 where
  pub all : waiting ++ left ≡ old ++ pieces text

-- the next piece has room
pub piece_fits : (old waiting left : List Record) (r : Record) (text : List ℕ) (room most : ℕ) → Goes old waiting (r ∷ left) text → size_of (length text) ≤ min (room - bytes_of old) most → bytes_of waiting + (14 + length r.line) ≤ room
piece_fits old waiting left r text room most goes fits =
    omega (arith, ap bytes_of goes.all, bytes-append waiting (r ∷ left), bytes-append old (pieces text), bytes-pieces 0 text, fits)

-- and can be counted
pub piece_counts : (taken old waiting left : List Record) (r : Record) (text : List ℕ) (free : ℕ) → Goes old waiting (r ∷ left) text → size_of (length text) ≤ min free (2 ^ 64 - 1 - length (taken ++ old)) → length (taken ++ waiting) + 1 < 2 ^ 64
piece_counts taken old waiting left r text free goes fits =
    omega (arith, ap length goes.all, length-append waiting (r ∷ left), length-append old (pieces text), length-append taken old, length-append taken waiting, length-pieces 0 text, fits)
