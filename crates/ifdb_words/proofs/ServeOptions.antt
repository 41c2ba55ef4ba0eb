-- What clap makes of the options of `serve`.
use Rattle.std.proofs.Common.{◌≡◌, ◌∙◌, Bool, true, false, true≢false, refl, ap, is_some, List, [], ◌∷◌, Option, Some, None, codes}
use Rattle.clap.specs.Words.{App, Text, built, is_simple, found_of, first_value, is_simple_and_free}
use Rattle.clap.specs.Walk.{nothing_held, rows_after}
use Rattle.clap.specs.Faults.{level_fault}
use Rattle.clap.specs.Simple.{Shape}
use Rattle.clap.specs.declared.parser.matches.ArgMatches.{ArgMatches}
use Rattle.clap.proofs.OnLiterals.{clap_on_literals}
use Rattle.clap.proofs.FaultLemmas.{leaf_fault}
use Rattle.std.specs.Prelude.{option_map}
use Rattle.ifdb_words.specs.declared.command.Command.{Command}
use Rattle.ifdb_words.specs.declared.command.Command.TheVariants.{Serve}
use Rattle.ifdb_words.specs.Clap.{IsTaken, serve_app}
use Rattle.ifdb_words.specs.Options.{Use, value_of, values_of}
use Rattle.ifdb_words.specs.Numbers.{needed_to}
use Rattle.ifdb_words.specs.Limit.{limit_of}
use Rattle.ifdb_words.specs.Serve.{links_of, serve_in, serve_of, service_with, workers_of}
use Rattle.ifdb_words.proofs.Held.{shape}
use Rattle.ifdb_words.proofs.Values.{serve_same}
use Rattle.ifdb_words.proofs.Reader.{lacks}
use Rattle.ifdb_words.proofs.Taken.{HasOptions}
use Rattle.ifdb_words.proofs.ByOptions.{taken_as, refused_as, left_out}

abbrev options : List (Text × Bool)
options = (codes "port", true) ∷ (codes "workers", false) ∷ (codes "links", false) ∷ (codes "limit", false) ∷ []

abbrev top : Shape
top = (built serve_app).top

pub free : is_simple_and_free serve_app ≡ true
unfolding clap_on_literals
free = refl

simple : is_simple serve_app ≡ true
unfolding clap_on_literals
simple = refl

shape_is : top ≡ shape options top
unfolding clap_on_literals
shape_is = refl

has_options : HasOptions options serve_app
has_options = record {
  top = top;
  simple = simple;
  fault = λ words. leaf_fault (built serve_app) nothing_held words refl ∙ ap (λ (s : Shape). level_fault s [] nothing_held words false []) shape_is;
  rows = λ words. ap (λ (s : Shape). rows_after s.rules [] words) shape_is;
}

-- words that clap takes
pub serve_taken : (a : App) (words : List Text) (m : ArgMatches) (r : Option Command) → a ≡ serve_app → IsTaken a words (Some m)
    → r ≡ serve_of (first_value (found_of m)) → r ≡ serve_in words
serve_taken a words m r same is result = result ∙ taken_as options serve_app has_options serve_of serve_same a words m same is

-- nothing is asked for without `--port`
without : (uses : List Use) → lacks options uses ≡ true → serve_of (values_of uses) ≡ None
without uses lacking = go (value_of (codes "port") uses) (left_out (codes "port") uses lacking)
  where
    go : (port : Option Text) → port ≡ None
        → option_map Serve (service_with (needed_to 65535 port) (workers_of (values_of uses)) (links_of (values_of uses)) (limit_of (values_of uses))) ≡ None
    go None none = refl
    go (Some text) none = absurd (true≢false (ap (λ (o : Option Text). is_some o) none))

-- words that it refuses
pub serve_refused : (a : App) (words : List Text) → a ≡ serve_app → IsTaken a words None → None ≡ serve_in words
serve_refused a words same is = refused_as options serve_app has_options serve_of without a words same is
