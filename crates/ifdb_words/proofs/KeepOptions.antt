-- What clap makes of the options of `keep`.
use Rattle.std.proofs.Common.{◌≡◌, ◌∙◌, Bool, true, false, true≢false, refl, ap, is_some, List, [], ◌∷◌, Option, Some, None, codes}
use Rattle.std.specs.Prelude.{Result, Ok, Err, IfOk}
use Rattle.clap.specs.Words.{App, Text, built, is_simple, found_of, first_value, is_simple_and_free}
use Rattle.clap.specs.Walk.{nothing_held, rows_after}
use Rattle.clap.specs.Faults.{level_fault}
use Rattle.clap.specs.Simple.{Shape}
use Rattle.clap.specs.declared.parser.matches.ArgMatches.{ArgMatches}
use Rattle.clap.proofs.OnLiterals.{clap_on_literals}
use Rattle.clap.proofs.FaultLemmas.{leaf_fault}
use Rattle.ifdb_words.specs.declared.keep.Keep.{Keep}
use Rattle.ifdb_words.specs.Clap.{IsTaken, keep_app}
use Rattle.ifdb_words.specs.Options.{Use, value_of, values_of}
use Rattle.ifdb_words.specs.FileName.{file_in}
use Rattle.ifdb_words.specs.Limit.{limit_of}
use Rattle.ifdb_words.specs.Keep.{keep_in, keep_of, keep_with}
use Rattle.ifdb_words.proofs.Held.{shape}
use Rattle.ifdb_words.proofs.Values.{keep_same}
use Rattle.ifdb_words.proofs.Reader.{lacks}
use Rattle.ifdb_words.proofs.Taken.{HasOptions}
use Rattle.ifdb_words.proofs.ByOptions.{taken_as, refused_as, left_out}

abbrev options : List (Text × Bool)
options = (codes "file", true) ∷ (codes "limit", false) ∷ []

abbrev top : Shape
top = (built keep_app).top

pub free : is_simple_and_free keep_app ≡ true
unfolding clap_on_literals
free = refl

simple : is_simple keep_app ≡ true
unfolding clap_on_literals
simple = refl

shape_is : top ≡ shape options top
unfolding clap_on_literals
shape_is = refl

has_options : HasOptions options keep_app
has_options = record {
  top = top;
  simple = simple;
  fault = λ words. leaf_fault (built keep_app) nothing_held words refl ∙ ap (λ (s : Shape). level_fault s [] nothing_held words false []) shape_is;
  rows = λ words. ap (λ (s : Shape). rows_after s.rules [] words) shape_is;
}

-- words that clap takes
pub keep_taken : {E : Type 0} (a : App) (words : List Text) (m : ArgMatches) (r : Result (Option Keep) E) → a ≡ keep_app
    → IsTaken a words (Some m) → IfOk r (λ p. p ≡ keep_of (first_value (found_of m))) → IfOk r (λ p. p ≡ keep_in words)
keep_taken a words m (Ok p) same is result = result ∙ taken_as options keep_app has_options keep_of keep_same a words m same is
keep_taken a words m (Err e) same is result = tt

-- nothing is asked for without `--file`
without : (uses : List Use) → lacks options uses ≡ true → keep_of (values_of uses) ≡ None
without uses lacking = go (value_of (codes "file") uses) (left_out (codes "file") uses lacking)
  where
    go : (value : Option Text) → value ≡ None → keep_with (file_in value) (limit_of (values_of uses)) ≡ None
    go None none = refl
    go (Some text) none = absurd (true≢false (ap (λ (o : Option Text). is_some o) none))

-- words that it refuses
pub keep_refused : (a : App) (words : List Text) → a ≡ keep_app → IsTaken a words None → None ≡ keep_in words
keep_refused a words same is = refused_as options keep_app has_options keep_of without a words same is
