-- What is asked for by the values of a command's options, where clap takes its words and where it refuses them.
use Rattle.std.proofs.Common.{◌≡◌, ◌∙◌, ◌||◌, not, Bool, true, false, true≢false, sym, ap, subst, refl, inl, inr, List, Option, Some, None}
use Rattle.std.specs.Prelude.{option_and_then}
use Rattle.clap.specs.Words.{App, Text, found_of, first_value}
use Rattle.clap.specs.declared.parser.matches.ArgMatches.{ArgMatches}
use Rattle.ifdb_words.specs.Clap.{IsTaken}
use Rattle.ifdb_words.specs.Options.{Use, is_used, uses_of, value_of, values_of}
use Rattle.ifdb_words.proofs.Reader.{lacks}
use Rattle.ifdb_words.proofs.Rows.{unused_value}
use Rattle.ifdb_words.proofs.Taken.{HasOptions, names, taken, refused}

abbrev Values : Type 0
Values = Text → Option Text

-- by the uses that were read
abbrev read_by : {X : Type 0} → (Values → Option X) → Option (List Use) → Option X
read_by of_values read = option_and_then (λ (uses : List Use). of_values (values_of uses)) read

module _ {X : Type 0} (ps : List (Text × Bool)) (app : App) (has : HasOptions ps app) (of_values : Values → Option X) where
  -- words that clap takes
  pub taken_as : ((v w : Values) → ((name : Text) → v name ≡ w name) → of_values v ≡ of_values w) → (a : App) (words : List Text) (m : ArgMatches) → a ≡ app → IsTaken a words (Some m)
      → of_values (first_value (found_of m)) ≡ read_by of_values (uses_of (names ps) words)
  taken_as same a words m is_app is =
      let t = taken ps app words m has (subst (λ (a : App). IsTaken a words (Some m)) is_app is) in
      same (first_value (found_of m)) (values_of t.0) t.2 ∙ sym (ap (read_by of_values) t.1)

  -- words that it refuses, where nothing is asked for without the options that have to be used
  pub refused_as : ((uses : List Use) → lacks ps uses ≡ true → of_values (values_of uses) ≡ None) → (a : App) (words : List Text) → a ≡ app → IsTaken a words None
      → None ≡ read_by of_values (uses_of (names ps) words)
  refused_as nothing a words is_app is = elim (refused ps app words has (subst (λ (a : App). IsTaken a words None) is_app is)) [
    | inl none ↦ sym (ap (read_by of_values) none)
    | inr lacking ↦ sym (ap (read_by of_values) lacking.1 ∙ nothing lacking.0 lacking.2)
  ]

-- the one option that has to be used was left out
pub left_out : (name : Text) (uses : List Use) → (not (is_used name uses) || false) ≡ true → value_of name uses ≡ None
left_out name uses lacking = unused_value name uses (unused (is_used name uses) lacking)
  where
    unused : (b : Bool) → (not b || false) ≡ true → b ≡ false
    unused true e = absurd (true≢false (sym e))
    unused false e = refl
