-- Words that begin with a hyphen: the definition's options are clap's, and what else begins so is a stray word.
use Rattle.std.proofs.Common.{◌≡◌, ◌&&◌, ◌==◌, ℕ, Bool, true, false, refl, sym, subst, List, [], ◌∷◌, Option, Some, None, is_some, true≢false, if◌then◌else◌}
use Rattle.std.specs.Prelude.{option_and_then, is_none}
use Rattle.std.specs.Str.{bytes_eq}
use Rattle.clap.specs.Lexer.{long_of, long_of_rest, short_of, short_of_rest, strip_byte}
use Rattle.ifdb_words.specs.Options.{is_hyphened, name_and_value, option_in}
use Rattle.ifdb_words.specs.Clap.{is_stray}
use Rattle.ifdb_words.proofs.Reader.{dashes}

-- what the word names is what clap finds in it
pub option_is : (word : List ℕ) → option_in word ≡ long_of word
option_is [] = refl
option_is (x ∷ []) = go (x == 45)
  where
    go : (b : Bool) → None ≡ option_and_then long_of_rest (option_and_then (strip_byte 45) (if b then Some [] else None))
    go true = refl
    go false = refl
option_is (x ∷ y ∷ []) = go (x == 45)
  where
    second : (c : Bool) → None ≡ option_and_then long_of_rest (if c then Some [] else None)
    second true = refl
    second false = refl

    go : (b : Bool) → None ≡ option_and_then long_of_rest (option_and_then (strip_byte 45) (if b then Some (y ∷ []) else None))
    go true = second (y == 45)
    go false = refl
option_is (x ∷ y ∷ z ∷ text) = go (x == 45)
  where
    second : (c : Bool) → (if c then Some (name_and_value (z ∷ text)) else None) ≡ option_and_then long_of_rest (if c then Some (z ∷ text) else None)
    second true = refl
    second false = refl

    go : (b : Bool) → (if b && (y == 45) then Some (name_and_value (z ∷ text)) else None)
        ≡ option_and_then long_of_rest (option_and_then (strip_byte 45) (if b then Some (y ∷ z ∷ text) else None))
    go true = second (y == 45)
    go false = refl

-- a word that isn't stray isn't `--`, and has no short options
pub not_stray : (word : List ℕ) → is_stray word ≡ false → (bytes_eq word dashes ≡ false) × (short_of word ≡ None)
not_stray [] none = (refl, refl)
not_stray (x ∷ []) none = go (x == 45) none
  where
    go : (b : Bool) → (b && true) ≡ false → ((b && false) ≡ false) × (option_and_then short_of_rest (if b then Some [] else None) ≡ None)
    go true none = absurd (true≢false none)
    go false none = (refl, refl)
not_stray (x ∷ y ∷ []) none = go (x == 45) none
  where
    go : (b : Bool) → (b && true) ≡ false → ((b && ((y == 45) && true)) ≡ false) × (option_and_then short_of_rest (if b then Some (y ∷ []) else None) ≡ None)
    go true none = absurd (true≢false none)
    go false none = (refl, refl)
not_stray (x ∷ y ∷ z ∷ text) none = go (x == 45) none
  where
    second : (c : Bool) → is_none (if c then Some (name_and_value (z ∷ text)) else None) ≡ false
        → ((c && false) ≡ false) × ((if c then None else Some (y ∷ z ∷ text)) ≡ None)
    second true none = (refl, refl)
    second false none = absurd (true≢false none)

    go : (b : Bool) → (b && is_none (if b && (y == 45) then Some (name_and_value (z ∷ text)) else None)) ≡ false
        → ((b && ((y == 45) && false)) ≡ false) × (option_and_then short_of_rest (if b then Some (y ∷ z ∷ text) else None) ≡ None)
    go true none = second (y == 45) none
    go false none = (refl, refl)

-- what names an option begins with a hyphen
pub option_hyphened : (word : List ℕ) → is_some (option_in word) ≡ true → is_hyphened word ≡ true
option_hyphened [] some = absurd (true≢false (sym some))
option_hyphened (x ∷ []) some = absurd (true≢false (sym some))
option_hyphened (x ∷ y ∷ []) some = absurd (true≢false (sym some))
option_hyphened (x ∷ y ∷ z ∷ text) some = go (x == 45) some
  where
    go : (b : Bool) → is_some (if b && (y == 45) then Some (name_and_value (z ∷ text)) else None) ≡ true → b ≡ true
    go true some = refl
    go false some = absurd (true≢false (sym some))

-- a word that isn't stray and names no option doesn't begin with one
pub plain_unhyphened : (word : List ℕ) → is_stray word ≡ false → option_in word ≡ None → is_hyphened word ≡ false
plain_unhyphened word none unnamed = go (is_hyphened word) (subst (λ o. (is_hyphened word && is_none o) ≡ false) unnamed none)
  where
    go : (b : Bool) → (b && true) ≡ false → b ≡ false
    go true e = e
    go false e = refl

-- a stray word begins with a hyphen and names no option
pub stray_is : (word : List ℕ) → is_stray word ≡ true → (is_hyphened word ≡ true) × (option_in word ≡ None)
stray_is word stray = go (is_hyphened word) (option_in word) stray
  where
    go : {X : Type 0} (b : Bool) (o : Option X) → (b && is_none o) ≡ true → (b ≡ true) × (o ≡ None)
    go true None e = (refl, refl)
    go true (Some x) e = absurd (true≢false (sym e))
    go false o e = absurd (true≢false (sym e))
