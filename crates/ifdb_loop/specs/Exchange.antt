-- decides: a served database
-- What a connection has read and written, beside its lines and the texts of its replies.
use Rattle.std.specs.Prelude.{◌≡◌, ◌≢◌, ℕ, ◌<◌, List, [], ◌∷◌, ◌++◌, length, flat_map, IfSome, All}
use Rattle.ifdb_io.specs.Lines.{IsLine}
use Rattle.ifdb_io.specs.declared.lines.TheConstants.{LONGEST_LINE}
use Rattle.ifdb_loop.specs.Traffic.{Traffic}

-- a line and its newline
abbrev pub with_newline : List ℕ → List ℕ
with_newline line = line ++ 10 ∷ []

-- the bytes of some lines
abbrev pub bytes_of : List (List ℕ) → List ℕ
bytes_of lines = flat_map with_newline lines

-- the bytes begin with more than a line may have
pub record IsTooLong (bytes : List ℕ) : Type 0 where
  pub front : List ℕ
  pub rest : List ℕ
  pub all : bytes ≡ front ++ rest
  pub plain : All (λ b. b ≢ 10) front
  pub long : LONGEST_LINE < length front

-- The bytes that were read are those of the lines and these that are held behind them. The texts are the bytes that were
-- written and these that are owed.
pub record IsExchanged (t : Traffic) (held owed : List ℕ) (lines : List (List ℕ)) (texts : List ℕ) : Type 0 where
  pub came : IfSome t.given (λ bytes. bytes ≡ bytes_of lines ++ held)
  pub went : IfSome t.written (λ bytes. bytes ++ owed ≡ texts)
  pub are : All IsLine lines
