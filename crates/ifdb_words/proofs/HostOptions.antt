-- What clap makes of the options of `host`.
use Rattle.std.proofs.Common.{◌≡◌, ◌∙◌, ◌||◌, not, Bool, true, false, true≢false, refl, sym, ap, is_some, List, [], ◌∷◌, Option, Some, None, codes}
use Rattle.std.specs.Prelude.{Result, Ok, Err, IfOk, option_and_then, option_map}
use Rattle.clap.specs.Words.{App, Text, built, is_simple, found_of, first_value, is_simple_and_free}
use Rattle.clap.specs.Walk.{nothing_held, rows_after}
use Rattle.clap.specs.Faults.{level_fault}
use Rattle.clap.specs.Simple.{Shape}
use Rattle.clap.specs.declared.parser.matches.ArgMatches.{ArgMatches}
use Rattle.clap.proofs.OnLiterals.{clap_on_literals}
use Rattle.clap.proofs.FaultLemmas.{leaf_fault}
use Rattle.ifdb_words.specs.declared.host.Hosting.{Hosting}
use Rattle.ifdb_words.specs.Clap.{IsTaken, host_app}
use Rattle.ifdb_words.specs.Options.{Use, is_used, values_of}
use Rattle.ifdb_words.specs.Numbers.{needed_to}
use Rattle.ifdb_words.specs.Serve.{port_of}
use Rattle.ifdb_words.specs.Loops.{loop_service_of}
use Rattle.ifdb_words.specs.FileName.{file_in}
use Rattle.ifdb_words.specs.Host.{host_in, host_of}
use Rattle.ifdb_words.proofs.Held.{shape}
use Rattle.ifdb_words.proofs.Values.{host_same}
use Rattle.ifdb_words.proofs.Reader.{lacks}
use Rattle.ifdb_words.proofs.Rows.{unused_value}
use Rattle.ifdb_words.proofs.Taken.{HasOptions}
use Rattle.ifdb_words.proofs.ByOptions.{taken_as, refused_as}

abbrev options : List (Text × Bool)
options = (codes "file", true) ∷ (codes "admin-key", true) ∷ (codes "port", true) ∷ (codes "loops", false) ∷ (codes "connections", false)
    ∷ (codes "limit", false) ∷ (codes "hello", false) ∷ (codes "idle", false) ∷ (codes "stall", false) ∷ []

abbrev top : Shape
top = (built host_app).top

pub free : is_simple_and_free host_app ≡ true
unfolding clap_on_literals
free = refl

simple : is_simple host_app ≡ true
unfolding clap_on_literals
simple = refl

shape_is : top ≡ shape options top
unfolding clap_on_literals
shape_is = refl

has_options : HasOptions options host_app
has_options = record {
  top = top;
  simple = simple;
  fault = λ words. leaf_fault (built host_app) nothing_held words refl ∙ ap (λ (s : Shape). level_fault s [] nothing_held words false []) shape_is;
  rows = λ words. ap (λ (s : Shape). rows_after s.rules [] words) shape_is;
}

-- words that clap takes
pub host_taken : {E : Type 0} (a : App) (words : List Text) (m : ArgMatches) (r : Result (Option Hosting) E) → a ≡ host_app
    → IsTaken a words (Some m) → IfOk r (λ p. p ≡ host_of (first_value (found_of m))) → IfOk r (λ p. p ≡ host_in words)
host_taken a words m (Ok p) same is result = result ∙ taken_as options host_app has_options host_of host_same a words m same is
host_taken a words m (Err e) same is result = tt

-- nothing comes of a value that is left out, nor of what stands behind it
none_first : {X Y : Type 0} (f : X → Option Y) (o : Option X) → o ≡ None → option_and_then f o ≡ None
none_first f None none = refl
none_first f (Some x) none = absurd (true≢false (ap (λ (o : Option _). is_some o) none))

none_behind : {X Y : Type 0} (f : X → Option Y) (o : Option X) → ((x : X) → f x ≡ None) → option_and_then f o ≡ None
none_behind f None none = refl
none_behind f (Some x) none = none x

-- nothing is asked for without `--file`, `--admin-key` and `--port`
without : (uses : List Use) → lacks options uses ≡ true → host_of (values_of uses) ≡ None
without uses lacking = by (is_used (codes "file") uses) (is_used (codes "admin-key") uses) refl refl lacking
  where
    value : Text → Option Text
    value = values_of uses

    no_port : is_used (codes "port") uses ≡ false → loop_service_of value ≡ None
    no_port unused = none_first _ (port_of value) (ap (needed_to 65535) (unused_value (codes "port") uses unused))

    by : (f k : Bool) → is_used (codes "file") uses ≡ f → is_used (codes "admin-key") uses ≡ k
        → (not f || (not k || (not (is_used (codes "port") uses) || false))) ≡ true → host_of value ≡ None
    by false k unused is e = none_first _ (file_in (value (codes "file"))) (ap file_in (unused_value (codes "file") uses unused))
    by true false used unused e = none_behind _ (file_in (value (codes "file")))
        (λ file. none_first _ (file_in (value (codes "admin-key"))) (ap file_in (unused_value (codes "admin-key") uses unused)))
    by true true used is e = none_behind _ (file_in (value (codes "file"))) (λ file. none_behind _ (file_in (value (codes "admin-key")))
        (λ key. ap (option_map _) (no_port (unused_of (is_used (codes "port") uses) e))))
      where
        unused_of : (b : Bool) → (not b || false) ≡ true → b ≡ false
        unused_of true e = absurd (true≢false (sym e))
        unused_of false e = refl

-- words that it refuses
pub host_refused : (a : App) (words : List Text) → a ≡ host_app → IsTaken a words None → None ≡ host_in words
host_refused a words same is = refused_as options host_app has_options host_of without a words same is
