-- What clap makes of the options of a command whose one option is `--file`.
use Rattle.std.proofs.Common.{◌≡◌, ◌∙◌, Bool, true, false, true≢false, refl, ap, is_some, List, [], ◌∷◌, Option, Some, None, codes}
use Rattle.std.specs.Prelude.{Result, Ok, Err, IfOk}
use Rattle.clap.specs.Words.{App, Text, built, is_simple, found_of, first_value, is_simple_and_free}
use Rattle.clap.specs.Walk.{nothing_held, rows_after}
use Rattle.clap.specs.Faults.{level_fault}
use Rattle.clap.specs.Simple.{Shape}
use Rattle.clap.specs.declared.parser.matches.ArgMatches.{ArgMatches}
use Rattle.clap.proofs.OnLiterals.{clap_on_literals}
use Rattle.clap.proofs.FaultLemmas.{leaf_fault}
use Rattle.ifdb_words.specs.Clap.{IsTaken, one_file_app}
use Rattle.ifdb_words.specs.Options.{Use, value_of, values_of}
use Rattle.ifdb_words.specs.FileName.{file_in}
use Rattle.ifdb_words.specs.OneFile.{one_file_in, one_file_of}
use Rattle.ifdb_words.proofs.Held.{shape}
use Rattle.ifdb_words.proofs.Values.{one_file_same}
use Rattle.ifdb_words.proofs.Reader.{lacks}
use Rattle.ifdb_words.proofs.Taken.{HasOptions}
use Rattle.ifdb_words.proofs.ByOptions.{taken_as, refused_as, left_out}

abbrev options : List (Text × Bool)
options = (codes "file", true) ∷ []

abbrev top : Shape
top = (built one_file_app).top

pub free : is_simple_and_free one_file_app ≡ true
unfolding clap_on_literals
free = refl

simple : is_simple one_file_app ≡ true
unfolding clap_on_literals
simple = refl

shape_is : top ≡ shape options top
unfolding clap_on_literals
shape_is = refl

has_options : HasOptions options one_file_app
has_options = record {
  top = top;
  simple = simple;
  fault = λ words. leaf_fault (built one_file_app) nothing_held words refl ∙ ap (λ (s : Shape). level_fault s [] nothing_held words false []) shape_is;
  rows = λ words. ap (λ (s : Shape). rows_after s.rules [] words) shape_is;
}

-- words that clap takes
pub one_file_taken : {E : Type 0} (a : App) (words : List Text) (m : ArgMatches) (r : Result (Option Text) E) → a ≡ one_file_app
    → IsTaken a words (Some m) → IfOk r (λ p. p ≡ one_file_of (first_value (found_of m))) → IfOk r (λ p. p ≡ one_file_in words)
one_file_taken a words m (Ok p) same is result = result ∙ taken_as options one_file_app has_options one_file_of one_file_same a words m same is
one_file_taken a words m (Err e) same is result = tt

-- nothing is asked for without `--file`
without : (uses : List Use) → lacks options uses ≡ true → one_file_of (values_of uses) ≡ None
without uses lacking = go (value_of (codes "file") uses) (left_out (codes "file") uses lacking)
  where
    go : (value : Option Text) → value ≡ None → file_in value ≡ None
    go None none = refl
    go (Some text) none = absurd (true≢false (ap (λ (o : Option Text). is_some o) none))

-- words that it refuses
pub one_file_refused : (a : App) (words : List Text) → a ≡ one_file_app → IsTaken a words None → None ≡ one_file_in words
one_file_refused a words same is = refused_as options one_file_app has_options one_file_of without a words same is
