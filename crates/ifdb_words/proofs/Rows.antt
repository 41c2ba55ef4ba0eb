-- The rows in which clap keeps the options that were used.
use Rattle.std.proofs.Common.{◌≡◌, ◌||◌, Bool, cond, true, false, refl, ap, List, [], ◌∷◌, ◌++◌, map, Some, None}
use Rattle.std.specs.Str.{bytes_eq}
use Rattle.std.specs.List.{find}
use Rattle.std.specs.Prelude.{option_and_then, slice_get}
use Rattle.clap.specs.Walk.{Row, Text, used, has_row, first_of}
use Rattle.clap.specs.Values.{reading_of}
use Rattle.clap.specs.declared.parser.matches.ValueSource.TheVariants.{CommandLine}
use Rattle.clap.specs.declared.builder.value_parser.ValueParser.TheVariants as vp
use Rattle.ifdb_words.specs.Options.{Use, is_used}
use Rattle.ifdb_words.specs.Options.{value_of}
use Rattle.ifdb_words.proofs.Basics.{or_false}
use Rattle.ifdb_words.proofs.Rules.{rule}

-- the row of a use
abbrev pub row : Use → Row
row u = record { id = u.name; values = u.text ∷ []; count = None; source = Some CommandLine; reading = reading_of vp.String }

pub has_used : (name : Text) (us : List Use) → has_row name (map row us) ≡ is_used name us
has_used name [] = refl
has_used name (u ∷ us) = ap (λ b. bytes_eq u.name name || b) (has_used name us)

-- one use more of an option that wasn't used
pub use_row : (p : Text × Bool) (text : Text) (us : List Use) → is_used p.0 us ≡ false → used (rule p) (text ∷ []) (map row us) ≡ map row (us ++ record { name = p.0; text = text } ∷ [])
use_row p text [] none = refl
use_row p text (u ∷ us) none = let o = or_false (bytes_eq u.name p.0) (is_used p.0 us) none in rw (o.0, o.0) (ap (λ rs. row u ∷ rs) (use_row p text us o.1))

-- a value in the rows
pub value_row : (name : Text) (us : List Use) → first_of name (map row us) ≡ value_of name us
value_row name [] = refl
value_row name (u ∷ us) = go (bytes_eq u.name name) (value_row name us)
  where
    go : (b : Bool) → first_of name (map row us) ≡ value_of name us
        → option_and_then (λ (r : Row). slice_get r.values 0) (cond b (Some (row u)) (find (λ r. bytes_eq r.id name) (map row us))) ≡ cond b (Some u.text) (value_of name us)
    go true e = refl
    go false e = e

-- an option that isn't used has no value
pub unused_value : (name : Text) (us : List Use) → is_used name us ≡ false → value_of name us ≡ None
unused_value name [] none = refl
unused_value name (u ∷ us) none = let o = or_false (bytes_eq u.name name) (is_used name us) none in rw o.0 (unused_value name us o.1)
