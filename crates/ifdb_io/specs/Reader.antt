-- The steps of which a reader of lines makes a line.
use Rattle.std.specs.Prelude.{◌≡◌, ◌≢◌, ℕ, ◌+◌, ◌<◌, List, [], ◌∷◌, ◌++◌, length, take, Option, All, slice_index}
use Rattle.std.specs.Io.KnownBytes.{Consumes}
use Rattle.ifdb_io.specs.Lines.{Reading, unskipped}

-- the text and what follows it, if the input goes on with these bytes
abbrev pub stream : Reading → List ℕ → List ℕ
stream reading rest = reading.text ++ unskipped reading.skipping (reading.held ++ rest)

-- both read the input as the same bytes, however it goes on
abbrev pub ReadsSame : Reading → Reading → Type 0
ReadsSame old new = (rest : List ℕ) → stream old rest ≡ stream new rest

-- bytes were taken from the source, all of them within the limit
pub record Takes (old new : Reading) (left_old left_new : Option (List ℕ)) : Type 0 where
  pub got : List ℕ
  pub consumed : Consumes left_old left_new got
  pub count : new.taken ≡ old.taken + length got
  pub same : (rest : List ℕ) → stream old (got ++ rest) ≡ stream new rest

-- a byte past the limit was taken and dropped
pub record Passes (old new : Reading) (left_old left_new : Option (List ℕ)) : Type 0 where
  pub last : ℕ
  pub consumed : Consumes left_old left_new (last ∷ [])
  pub count : new.taken ≡ old.taken + 1
  pub past : new.taken ≡ new.limit + 1
  pub same : ReadsSame old new

-- a call made this text of the bytes that are no longer held
pub record Comes (old new : Reading) (left_old left_new : Option (List ℕ)) : Type 0 where
  pub got : List ℕ
  pub consumed : Consumes left_old left_new got
  pub count : new.taken ≡ old.taken + length got
  pub same : (rest : List ℕ) → unskipped old.skipping (old.held ++ (got ++ rest)) ≡ stream new rest

-- the text and these bytes behind it came from the held bytes
abbrev pub Cuts : Reading → Reading → List ℕ → Type 0
Cuts old new bytes = (rest : List ℕ) → stream old rest ≡ bytes ++ (new.held ++ rest)

-- fewer bytes are held, and the source stayed as it was
pub record MovesOn (old new : Reading) : Type 0 where
  pub fewer : length new.held < length old.held
  pub taken : new.taken ≡ old.taken
  pub limit : new.limit ≡ old.limit
  pub over : new.over ≡ old.over

-- the first newline of a piece stands at n
pub record BreaksAt (piece : List ℕ) (n : ℕ) : Type 0 where
  pub within : n < length piece
  pub newline : slice_index piece n ≡ 10
  pub before : All (λ b. b ≢ 10) (take n piece)
