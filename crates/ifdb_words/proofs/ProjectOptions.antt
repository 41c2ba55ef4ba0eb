-- What clap makes of the options of `project`.
use Rattle.std.proofs.Common.{◌≡◌, ◌∙◌, Bool, true, false, true≢false, refl, ap, is_some, List, [], ◌∷◌, Option, Some, None, codes}
use Rattle.std.specs.Prelude.{option_and_then, Result, Ok, Err, IfOk}
use Rattle.clap.specs.Words.{App, Text, built, is_simple, found_of, first_value, is_simple_and_free}
use Rattle.clap.specs.Walk.{nothing_held, rows_after}
use Rattle.clap.specs.Faults.{level_fault}
use Rattle.clap.specs.Simple.{Shape}
use Rattle.clap.specs.declared.parser.matches.ArgMatches.{ArgMatches}
use Rattle.clap.proofs.OnLiterals.{clap_on_literals}
use Rattle.clap.proofs.FaultLemmas.{leaf_fault}
use Rattle.ifdb_words.specs.declared.project.Project.{Project}
use Rattle.ifdb_words.specs.Clap.{IsTaken, project_app}
use Rattle.ifdb_words.specs.Options.{Use, value_of, values_of}
use Rattle.ifdb_words.specs.Level.{level_of}
use Rattle.ifdb_words.specs.Limit.{limit_of}
use Rattle.ifdb_words.specs.Project.{project_in, project_of, project_with}
use Rattle.ifdb_words.proofs.Held.{shape}
use Rattle.ifdb_words.proofs.Values.{project_same}
use Rattle.ifdb_words.proofs.Reader.{lacks}
use Rattle.ifdb_words.proofs.Taken.{HasOptions}
use Rattle.ifdb_words.proofs.ByOptions.{taken_as, refused_as, left_out}

abbrev options : List (Text × Bool)
options = (codes "tags", true) ∷ (codes "limit", false) ∷ []

abbrev top : Shape
top = (built project_app).top

pub free : is_simple_and_free project_app ≡ true
unfolding clap_on_literals
free = refl

simple : is_simple project_app ≡ true
unfolding clap_on_literals
simple = refl

shape_is : top ≡ shape options top
unfolding clap_on_literals
shape_is = refl

has_options : HasOptions options project_app
has_options = record {
  top = top;
  simple = simple;
  fault = λ words. leaf_fault (built project_app) nothing_held words refl ∙ ap (λ (s : Shape). level_fault s [] nothing_held words false []) shape_is;
  rows = λ words. ap (λ (s : Shape). rows_after s.rules [] words) shape_is;
}

-- words that clap takes
pub project_taken : {E : Type 0} (a : App) (words : List Text) (m : ArgMatches) (r : Result (Option Project) E) → a ≡ project_app
    → IsTaken a words (Some m) → IfOk r (λ p. p ≡ project_of (first_value (found_of m))) → IfOk r (λ p. p ≡ project_in words)
project_taken a words m (Ok p) same is result = result ∙ taken_as options project_app has_options project_of project_same a words m same is
project_taken a words m (Err e) same is result = tt

-- nothing is asked for without `--tags`
without : (uses : List Use) → lacks options uses ≡ true → project_of (values_of uses) ≡ None
without uses lacking = go (value_of (codes "tags") uses) (left_out (codes "tags") uses lacking)
  where
    go : (value : Option Text) → value ≡ None → project_with (option_and_then level_of value) (limit_of (values_of uses)) ≡ None
    go None none = refl
    go (Some text) none = absurd (true≢false (ap (λ (o : Option Text). is_some o) none))

-- words that it refuses
pub project_refused : (a : App) (words : List Text) → a ≡ project_app → IsTaken a words None → None ≡ project_in words
project_refused a words same is = refused_as options project_app has_options project_of without a words same is
