-- The definition's reader and clap's way of reading come to the same, where no word is stray.
use Rattle.std.proofs.Common.{◌≡◌, ◌∙◌, ◌||◌, Bool, true, false, refl, sym, ap, List, [], ◌∷◌, Option, Some, None, is_some, true≢false, if◌then◌else◌}
use Rattle.std.specs.Prelude.{option_and_then, option_map}
use Rattle.std.specs.List.{list_any}
use Rattle.clap.specs.Lexer.{long_of, short_of}
use Rattle.clap.specs.Words.{Text}
use Rattle.ifdb_words.specs.Options.{Use, is_hyphened, is_used, option_in, with_use, is_name, option_step, value_step, use_or_wait, uses_from, uses_of}
use Rattle.ifdb_words.specs.Options as definition
use Rattle.ifdb_words.specs.Clap.{is_stray}
use Rattle.ifdb_words.proofs.Basics.{or_false}
use Rattle.ifdb_words.proofs.Reader.{Last, nothing, wants, has, Read, start, ended, named, given, valued, word_step, long_step, step, read_all}
use Rattle.ifdb_words.proofs.Strays.{option_is, not_stray, option_hyphened, plain_unhyphened, stray_is}

module _ (names : List Text) where
  -- what clap's way comes to, from what was read on
  abbrev pub read_to_end : Option Read → List Text → Option (List Use)
  read_to_end r words = option_and_then (λ r. ended r.uses r.last) (option_and_then (λ r. read_all names r words) r)

  -- what the definition makes of the words behind a last one
  abbrev pub uses_behind : List Use → Last → List Text → Option (List Use)
  uses_behind uses nothing words = uses_from names words None uses
  uses_behind uses (wants name) words = uses_from names words (Some name) uses
  uses_behind uses (has name text) words = option_and_then (λ more. uses_from names words None more) (with_use name text uses)

  abbrev Same : List Text → Type 0
  Same words = (uses : List Use) (last : Last) → read_to_end (Some (record { uses = uses; last = last })) words ≡ uses_behind uses last words

  -- at the end
  same_end : Same []
  same_end uses nothing = refl
  same_end uses (wants name) = refl
  same_end uses (has name text) = go (with_use name text uses)
    where
      go : (o : Option (List Use)) → o ≡ option_and_then (λ more. Some more) o
      go None = refl
      go (Some more) = refl

  -- a word that is an option, where nothing waits
  option_same : (words : List Text) (p : Text × Option Text) (uses : List Use) → Same words
      → read_to_end (if is_name names p.0 then named p.0 p.1 (Some uses) else None) words
      ≡ option_and_then (λ (q : List Use × Option Text). uses_from names words q.1 q.0) (option_step names (Some p) uses)
  option_same words p uses same = go (is_name names p.0) p.1
    where
      with_text : (o : Option (List Use)) → read_to_end (given o) words
          ≡ option_and_then (λ (q : List Use × Option Text). uses_from names words q.1 q.0) (option_map (λ more. (more, None)) o)
      with_text None = refl
      with_text (Some more) = same more nothing

      go : (b : Bool) (v : Option Text) → read_to_end (if b then named p.0 v (Some uses) else None) words
          ≡ option_and_then (λ (q : List Use × Option Text). uses_from names words q.1 q.0) (if b then use_or_wait p.0 v uses else None)
      go false v = refl
      go true None = same uses (wants p.0)
      go true (Some text) = with_text (with_use p.0 text uses)

  -- a word that is an option
  option_word : (word : Text) (words : List Text) (p : Text × Option Text) (uses : List Use) (last : Last) → Same words → is_hyphened word ≡ true → option_in word ≡ Some p
      → read_to_end (long_step names (record { uses = uses; last = last }) p) words ≡ uses_behind uses last (word ∷ words)
  option_word word words p uses nothing same first is =
      option_same words p uses same ∙ ap (λ o. option_and_then (λ (q : List Use × Option Text). uses_from names words q.1 q.0) (option_step names o uses)) (sym is)
  option_word word words p uses (wants name) same first is = rw first (go (is_name names p.0) p.1)
    where
      go : (b : Bool) (v : Option Text) → read_to_end (if b then named p.0 v None else None) words ≡ None
      go true None = refl
      go true (Some text) = refl
      go false v = refl
  option_word word words p uses (has name text) same first is = go (with_use name text uses)
    where
      refused : (b : Bool) (v : Option Text) → read_to_end (if b then named p.0 v None else None) words ≡ None
      refused true None = refl
      refused true (Some text) = refl
      refused false v = refl

      go : (o : Option (List Use)) → read_to_end (if is_name names p.0 then named p.0 p.1 o else None) words
          ≡ option_and_then (λ more. uses_from names (word ∷ words) None more) o
      go None = refused (is_name names p.0) p.1
      go (Some more) = option_same words p more same ∙ ap (λ o. option_and_then (λ (q : List Use × Option Text). uses_from names words q.1 q.0) (option_step names o more)) (sym is)

  -- a word that doesn't begin with a hyphen
  value_word : (word : Text) (words : List Text) (uses : List Use) (last : Last) → Same words → is_hyphened word ≡ false → option_in word ≡ None
      → read_to_end (valued uses last word) words ≡ uses_behind uses last (word ∷ words)
  value_word word words uses nothing same plain is = ap (λ o. option_and_then (λ (q : List Use × Option Text). uses_from names words q.1 q.0) (option_step names o uses)) (sym is)
  value_word word words uses (wants name) same plain is = rw plain (same uses (has name word) ∙ go (with_use name word uses))
    where
      go : (o : Option (List Use)) → option_and_then (λ more. uses_from names words None more) o
          ≡ option_and_then (λ (q : List Use × Option Text). uses_from names words q.1 q.0) (option_map (λ more. (more, None)) o)
      go None = refl
      go (Some more) = refl
  value_word word words uses (has name text) same plain is = go (with_use name text uses)
    where
      go : (o : Option (List Use)) → None ≡ option_and_then (λ more. uses_from names (word ∷ words) None more) o
      go None = refl
      go (Some more) = ap (λ o. option_and_then (λ (q : List Use × Option Text). uses_from names words q.1 q.0) (option_step names o more)) (sym is)

  -- any word
  word_same : (word : Text) (words : List Text) (uses : List Use) (last : Last) → Same words → is_stray word ≡ false
      → read_to_end (step names (record { uses = uses; last = last }) word) words ≡ uses_behind uses last (word ∷ words)
  word_same word words uses last same none =
      let w = not_stray word none in
      rw w.0 (go (long_of word) (option_in word) refl (option_is word) w.1)
    where
      go : (l o : Option (Text × Option Text)) → option_in word ≡ o → o ≡ l → short_of word ≡ None
          → read_to_end (word_step names (record { uses = uses; last = last }) word l) words ≡ uses_behind uses last (word ∷ words)
      go None o is e short = rw short (value_word word words uses last same (plain_unhyphened word none (is ∙ e)) (is ∙ e))
      go (Some p) o is e short =
          option_word word words p uses last same (option_hyphened word (ap (λ (x : Option (Text × Option Text)). is_some x) (is ∙ e))) (is ∙ e)

  -- all words
  words_same : (words : List Text) → list_any is_stray words ≡ false → Same words
  words_same [] none uses last = same_end uses last
  words_same (word ∷ words) none uses last =
      let o = or_false (is_stray word) (list_any is_stray words) none in
      word_same word words uses last (words_same words o.1) o.0

  -- the uses that the definition reads are those that clap's way comes to
  pub uses_are : (words : List Text) → list_any is_stray words ≡ false
      → option_and_then (λ r. ended r.uses r.last) (read_all names start words) ≡ uses_of names words
  uses_are words none = words_same words none [] nothing

  -- a stray word is none of them
  pub strays_unread : (words : List Text) (waiting : Option Text) (uses : List Use) → list_any is_stray words ≡ true → uses_from names words waiting uses ≡ None
  strays_unread [] waiting uses some = absurd (true≢false (sym some))
  strays_unread (word ∷ words) waiting uses some =
      go (is_stray word) refl some (λ w us rest. strays_unread words w us rest)
    where
      unread : (waiting : Option Text) → is_stray word ≡ true → uses_from names (word ∷ words) waiting uses ≡ None
      unread None is = let w = stray_is word is in rw w.1 refl
      unread (Some name) is = let w = stray_is word is in rw w.0 refl

      go : (b : Bool) → is_stray word ≡ b → (b || list_any is_stray words) ≡ true
          → ((w : Option Text) (us : List Use) → list_any is_stray words ≡ true → uses_from names words w us ≡ None) → uses_from names (word ∷ words) waiting uses ≡ None
      go true is some more = unread waiting is
      go false is some more = later (definition.step names word waiting uses)
        where
          later : (o : Option (List Use × Option Text)) → option_and_then (λ (q : List Use × Option Text). uses_from names words q.1 q.0) o ≡ None
          later None = refl
          later (Some q) = more q.1 q.0 some
