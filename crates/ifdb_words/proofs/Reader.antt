-- The words read as clap reads them: the value of an option is held until the next word or the end.
use Rattle.std.specs.Prelude.{◌&&◌, Bool, not, List, [], ◌∷◌, map, Option, Some, None, if◌then◌else◌, option_and_then}
use Rattle.std.specs.List.{list_any}
use Rattle.std.specs.Str.{bytes_eq}
use Rattle.clap.specs.Words.{Text}
use Rattle.clap.specs.Lexer.{long_of, short_of}
use Rattle.ifdb_words.specs.Options.{Use, is_used, with_use}

-- the last word: nothing that waits, the name of an option that waits for its value, or that value
pub data Last : Type 0 where
  nothing : Last
  wants : Text → Last
  has : Text → Text → Last

-- what was read
pub record Read : Type 0 where
  pub uses : List Use
  pub last : Last

abbrev pub start : Read
start = record { uses = []; last = nothing }

-- the uses, if the words end here
abbrev pub ended : List Use → Last → Option (List Use)
ended uses nothing = Some uses
ended uses (wants name) = None
ended uses (has name text) = with_use name text uses

abbrev pub begun : Text → Option (List Use) → Option Read
begun name None = None
begun name (Some uses) = Some (record { uses = uses; last = wants name })

abbrev pub given : Option (List Use) → Option Read
given None = None
given (Some uses) = Some (record { uses = uses; last = nothing })

abbrev pub then_use : Text → Text → Option (List Use) → Option (List Use)
then_use name text None = None
then_use name text (Some uses) = with_use name text uses

abbrev pub named : Text → Option Text → Option (List Use) → Option Read
named name None before = begun name before
named name (Some text) before = given (then_use name text before)

abbrev pub valued : List Use → Last → Text → Option Read
valued uses (wants name) word = Some (record { uses = uses; last = has name word })
valued uses nothing word = None
valued uses (has name text) word = None

abbrev pub dashes : Text
dashes = 45 ∷ 45 ∷ []

module _ (names : List Text) where
  abbrev pub is_known : Text → Bool
  is_known name = list_any (λ n. bytes_eq n name) names

  abbrev pub long_step : Read → Text × Option Text → Option Read
  long_step r p = if is_known p.0 then named p.0 p.1 (ended r.uses r.last) else None

  abbrev pub plain_step : Read → Text → Option Text → Option Read
  plain_step r word None = valued r.uses r.last word
  plain_step r word (Some flags) = None

  abbrev pub word_step : Read → Text → Option (Text × Option Text) → Option Read
  word_step r word None = plain_step r word (short_of word)
  word_step r word (Some p) = long_step r p

  -- one word more; `--` alone is none
  abbrev pub step : Read → Text → Option Read
  step r word = if bytes_eq word dashes then None else word_step r word (long_of word)

  -- all words, from what was read before them
  abbrev pub read_all : Read → List Text → Option Read
  read_all r [] = Some r
  read_all r (word ∷ words) = option_and_then (λ r. read_all r words) (step r word)

-- an option that has to be used isn't
abbrev pub lacks : List (Text × Bool) → List Use → Bool
lacks ps us = list_any (λ p. p.1 && not (is_used p.0 us)) ps

abbrev pub complete : List (Text × Bool) → Option (List Use) → Option (List Use)
complete ps None = None
complete ps (Some us) = if lacks ps us then None else Some us

-- what all words use, with all that has to be used
abbrev pub asked : List (Text × Bool) → List Text → Option (List Use)
asked ps words = complete ps (option_and_then (λ r. ended r.uses r.last) (read_all (map (λ p. p.0) ps) start words))
