-- What the program takes of clap's answers is what the definition reads.
use Rattle.std.proofs.Common.{◌≡◌, ◌∙◌, ◌⊎◌, Bool, true, false, refl, sym, ap, inl, inr, List, [], map, Option, Some, None, if◌then◌else◌}
use Rattle.std.specs.List.{list_any}
use Rattle.clap.specs.Words.{App, Text, fault_of, matches_of, is_simple, rows_of, found_of, first_value}
use Rattle.clap.specs.Walk.{first_of, nothing_held, rows_after}
use Rattle.clap.specs.Faults.{level_fault}
use Rattle.clap.specs.Simple.{Shape}
use Rattle.clap.specs.declared.parser.matches.ArgMatches.{ArgMatches}
use Rattle.clap.proofs.WalkLemmas.{first_value-rows}
use Rattle.ifdb_words.specs.Options.{Use, uses_of, value_of}
use Rattle.ifdb_words.specs.Clap.{IsTaken, is_stray}
use Rattle.ifdb_words.proofs.Reader.{asked, complete, lacks}
use Rattle.ifdb_words.proofs.Readers.{uses_are, strays_unread}
use Rattle.ifdb_words.proofs.Held.{rules_of, shape}
use Rattle.ifdb_words.proofs.Rows.{row, value_row}
use Rattle.ifdb_words.proofs.Levels.{level_good, level_bad}

-- the command has these options alone
pub record HasOptions (ps : List (Text × Bool)) (a : App) : Type 0 where
  pub top : Shape
  pub simple : is_simple a ≡ true
  pub fault : (words : List Text) → fault_of a words ≡ level_fault (shape ps top) [] nothing_held words false []
  pub rows : (words : List Text) → matches_of a words ≡ rows_after (rules_of ps) [] words

module _ (ps : List (Text × Bool)) where
  abbrev pub names : List Text
  names = map (λ p. p.0) ps

  -- what all words use with all that has to be used is what the definition reads
  asked_is : (words : List Text) → list_any is_stray words ≡ false → asked ps words ≡ complete ps (uses_of names words)
  asked_is words none = ap (complete ps) (uses_are names words none)

  -- a command's answer with matches: they have the values that were read
  pub taken : (a : App) (words : List Text) (m : ArgMatches) → HasOptions ps a → IsTaken a words (Some m)
      → (uses : List Use) × (uses_of names words ≡ Some uses) × ((name : Text) → first_value (found_of m) name ≡ value_of name uses)
  taken a words m has is = go (uses_of names words) refl (asked ps words) refl
    where
      none : list_any is_stray words ≡ false
      none = is.0

      values : (uses : List Use) → asked ps words ≡ Some uses → (name : Text) → first_value (found_of m) name ≡ value_of name uses
      values uses e name =
          let rows : rows_of (found_of m) ≡ map row uses = (is.1.1 has.simple).0 ∙ has.rows words ∙ (level_good ps has.top words uses e).1 in
          first_value-rows (found_of m) name ∙ ap (first_of name) rows ∙ value_row name uses

      by_lack : (uses : List Use) (b : Bool) → lacks ps uses ≡ b → asked ps words ≡ (if b then None else Some uses) → asked ps words ≡ Some uses
      by_lack uses true l e = absurd (level_bad ps has.top words none e (sym (has.fault words) ∙ is.1.0))
      by_lack uses false l e = e

      go : (o : Option (List Use)) → uses_of names words ≡ o → (r : Option (List Use)) → asked ps words ≡ r
          → (uses : List Use) × (uses_of names words ≡ Some uses) × ((name : Text) → first_value (found_of m) name ≡ value_of name uses)
      go None e r i = absurd (level_bad ps has.top words none (asked_is words none ∙ ap (complete ps) e) (sym (has.fault words) ∙ is.1.0))
      go (Some uses) e r i =
          let all = by_lack uses (lacks ps uses) refl (asked_is words none ∙ ap (complete ps) e) in
          (uses, e, values uses all)

  -- an answer without: nothing was read, or one is left out that has to be used
  pub refused : (a : App) (words : List Text) → HasOptions ps a → IsTaken a words None
      → (uses_of names words ≡ None) ⊎ ((uses : List Use) × (uses_of names words ≡ Some uses) × (lacks ps uses ≡ true))
  refused a words has (inl stray) = inl (strays_unread names words None [] stray)
  refused a words has (inr is) = go (uses_of names words) refl
    where
      by_lack : (uses : List Use) → uses_of names words ≡ Some uses → (b : Bool) → lacks ps uses ≡ b
          → (uses_of names words ≡ None) ⊎ ((uses : List Use) × (uses_of names words ≡ Some uses) × (lacks ps uses ≡ true))
      by_lack uses e true l = inr (uses, e, l)
      by_lack uses e false l =
          let all : asked ps words ≡ Some uses = asked_is words is.0 ∙ ap (complete ps) e ∙ ap (λ b. if b then None else Some uses) l in
          absurd (is.1 (has.fault words ∙ (level_good ps has.top words uses all).0))

      go : (o : Option (List Use)) → uses_of names words ≡ o
          → (uses_of names words ≡ None) ⊎ ((uses : List Use) × (uses_of names words ≡ Some uses) × (lacks ps uses ≡ true))
      go None e = inl e
      go (Some uses) e = by_lack uses e (lacks ps uses) refl
