-- decides: bytes and faults
-- What a reader of lines makes of the bytes that it takes from a source.
use Rattle.std.specs.Prelude.{◌≡◌, ◌≢◌, ℕ, ◌+◌, ◌-◌, ◌≤◌, ◌==◌, List, [], ◌∷◌, ◌++◌, length, Bool, true, false, Option, Result, Ok, Err, All, if◌then◌else◌}
use Rattle.std.specs.Io.KnownBytes.{Consumes}
use Rattle.ifdb_io.specs.declared.lines.TheConstants.{LONGEST_LINE, LONG}
use Rattle.ifdb_io.specs.declared.lines.Line.{Line}
use Rattle.ifdb_io.specs.declared.lines.Line.TheVariants.{Whole, Rest, TooLong, End}
use Rattle.ifdb_io.specs.declared.lines.LineFault.{LineFault}

-- what a reader of lines shows
pub record Reading : Type 0 where
  -- the last line
  pub text : List ℕ
  -- bytes taken from the source and not given yet
  pub held : List ℕ
  -- the rest of a line that was too long is still to be dropped
  pub skipping : Bool
  -- how many bytes were taken from the source in all
  pub taken : ℕ
  -- how many of its bytes lines are made of
  pub limit : ℕ
  -- no line comes any more
  pub over : Bool

-- how many bytes may still come out of the reader
abbrev pub budget : Reading → ℕ
budget reading = (reading.limit - reading.taken) + length reading.held

-- the bytes behind the first newline
abbrev pub after_newline : List ℕ → List ℕ
after_newline [] = []
after_newline (b ∷ bytes) = if b == 10 then bytes else after_newline bytes

-- the bytes that lines are still made of
abbrev pub unskipped : Bool → List ℕ → List ℕ
unskipped skipping bytes = if skipping then after_newline bytes else bytes

-- a line without its newline
pub record IsLine (text : List ℕ) : Type 0 where
  pub plain : All (λ b. b ≢ 10) text
  pub short : length text ≤ LONGEST_LINE

-- the front of a line that is too long
pub record IsLong (bytes : List ℕ) : Type 0 where
  pub plain : All (λ b. b ≢ 10) bytes
  pub long : length bytes ≡ LONG

-- the next bytes are these, however the input goes on
pub record Gives (old new : Reading) (left_old left_new : Option (List ℕ)) (bytes : List ℕ) : Type 0 where
  -- what was taken from the source in this call
  pub got : List ℕ
  pub consumed : Consumes left_old left_new got
  pub count : new.taken ≡ old.taken + length got
  pub same : (rest : List ℕ) → unskipped old.skipping (old.held ++ (got ++ rest)) ≡ bytes ++ (new.held ++ rest)

-- nothing is held any more, and what was left is this text, a part of a line
pub record Ends (old new : Reading) (left_old left_new : Option (List ℕ)) : Type 0 where
  -- what was taken from the source in this call
  pub got : List ℕ
  pub consumed : Consumes left_old left_new got
  pub count : new.taken ≡ old.taken + length got
  pub all : unskipped old.skipping (old.held ++ got) ≡ new.text
  pub none : new.held ≡ []
  pub line : IsLine new.text

-- nothing is held any more, what was left within the limit is this text, a part of a line, and one byte more was taken
pub record Exceeds (old new : Reading) (left_old left_new : Option (List ℕ)) : Type 0 where
  -- what was taken from the source in this call, within the limit and past it
  pub got : List ℕ
  pub last : ℕ
  pub consumed : Consumes left_old left_new (got ++ last ∷ [])
  pub count : new.taken ≡ old.taken + length got + 1
  pub past : new.taken ≡ new.limit + 1
  pub all : unskipped old.skipping (old.held ++ got) ≡ new.text
  pub none : new.held ≡ []
  pub line : IsLine new.text

-- no line comes after this answer
abbrev pub is_last : Result Line LineFault → Bool
is_last (Ok Whole) = false
is_last (Ok TooLong) = false
is_last (Ok Rest) = true
is_last (Ok End) = true
is_last (Err fault) = true
