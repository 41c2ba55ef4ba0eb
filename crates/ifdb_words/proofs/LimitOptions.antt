-- What clap makes of the one option `--limit`.
use Rattle.std.proofs.Common.{◌≡◌, ◌∙◌, Bool, true, false, true≢false, refl, sym, ap, List, [], ◌∷◌, ℕ, Option, Some, None, codes}
use Rattle.clap.specs.Words.{App, Text, built, is_simple, found_of, first_value, is_simple_and_free}
use Rattle.clap.specs.Walk.{nothing_held, rows_after}
use Rattle.clap.specs.Faults.{level_fault}
use Rattle.clap.specs.Simple.{Shape}
use Rattle.clap.specs.declared.parser.matches.ArgMatches.{ArgMatches}
use Rattle.clap.proofs.OnLiterals.{clap_on_literals}
use Rattle.clap.proofs.FaultLemmas.{leaf_fault}
use Rattle.ifdb_words.specs.Clap.{IsTaken, limit_app}
use Rattle.ifdb_words.specs.Limit.{limit_in, limit_of}
use Rattle.ifdb_words.proofs.Held.{shape}
use Rattle.ifdb_words.proofs.Values.{limit_same}
use Rattle.ifdb_words.proofs.Taken.{HasOptions}
use Rattle.ifdb_words.proofs.ByOptions.{taken_as, refused_as}

abbrev options : List (Text × Bool)
options = (codes "limit", false) ∷ []

abbrev top : Shape
top = (built limit_app).top

pub free : is_simple_and_free limit_app ≡ true
unfolding clap_on_literals
free = refl

simple : is_simple limit_app ≡ true
unfolding clap_on_literals
simple = refl

shape_is : top ≡ shape options top
unfolding clap_on_literals
shape_is = refl

has_options : HasOptions options limit_app
has_options = record {
  top = top;
  simple = simple;
  fault = λ words. leaf_fault (built limit_app) nothing_held words refl ∙ ap (λ (s : Shape). level_fault s [] nothing_held words false []) shape_is;
  rows = λ words. ap (λ (s : Shape). rows_after s.rules [] words) shape_is;
}

-- words that clap takes
pub limit_taken : (a : App) (words : List Text) (m : ArgMatches) (r : Option ℕ) → a ≡ limit_app → IsTaken a words (Some m)
    → r ≡ limit_of (first_value (found_of m)) → r ≡ limit_in words
limit_taken a words m r same is result = result ∙ taken_as options limit_app has_options limit_of limit_same a words m same is

-- words that it refuses
pub limit_refused : (a : App) (words : List Text) → a ≡ limit_app → IsTaken a words None → None ≡ limit_in words
limit_refused a words same is = refused_as options limit_app has_options limit_of (λ uses lacking. absurd (true≢false (sym lacking))) a words same is
