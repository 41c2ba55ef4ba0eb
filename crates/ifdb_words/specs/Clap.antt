-- The commands as clap knows them, and what the program takes of its answers.
use Rattle.std.specs.Prelude.{◌≡◌, ◌⊎◌, ℕ, ◌&&◌, Bool, true, false, is_none, List, [], Option, Some, None, codes}
use Rattle.std.specs.List.{list_any}
use Rattle.clap.specs.Words.{App, Rule, HasMatchesOf, fault_of, new_app, new_rule, with_rule}
use Rattle.clap.specs.declared.builder.action.ArgAction.TheVariants.{Set}
use Rattle.clap.specs.declared.parser.matches.ArgMatches.{ArgMatches}
use Rattle.ifdb_words.specs.Options.{is_hyphened, option_in}

-- an option with a value
abbrev pub option_of : List ℕ → Bool → Rule
option_of name required = record (new_rule name) { long = Some name; required = required; action = Some Set }

-- a command whose words don't begin with its name, and which answers no `--help`
abbrev pub bared : App → App
bared a = record { top = record a.top { no_binary_name = true; disable_help_flag = true }; subs = a.subs }

abbrev pub bare_app : List ℕ → App
bare_app name = bared (new_app name)

abbrev pub limit_app : App
limit_app = with_rule (bare_app (codes "limit")) (option_of (codes "limit") false)

-- with the options of a service
abbrev pub with_service : App → App
with_service a = with_rule (with_rule (with_rule (with_rule a (option_of (codes "port") true))
    (option_of (codes "workers") false)) (option_of (codes "links") false)) (option_of (codes "limit") false)

abbrev pub serve_app : App
serve_app = with_service (bare_app (codes "serve"))

-- with the options by which a patience is said
abbrev pub with_patience : App → App
with_patience a = with_rule (with_rule (with_rule a (option_of (codes "hello") false)) (option_of (codes "idle") false)) (option_of (codes "stall") false)

-- with those that bound what is served
abbrev pub with_bounds : App → App
with_bounds a = with_rule (with_rule a (option_of (codes "connections") false)) (option_of (codes "limit") false)

-- with the options of loops
abbrev pub with_loops : App → App
with_loops a = with_patience (with_bounds (with_rule (with_rule a (option_of (codes "port") true)) (option_of (codes "loops") false)))

abbrev pub host_app : App
host_app = with_loops (with_rule (with_rule (bare_app (codes "host")) (option_of (codes "file") true)) (option_of (codes "admin-key") true))

abbrev pub project_app : App
project_app = with_rule (with_rule (bare_app (codes "project")) (option_of (codes "tags") true)) (option_of (codes "limit") false)

abbrev pub one_file_app : App
one_file_app = with_rule (bare_app (codes "file")) (option_of (codes "file") true)

abbrev pub keep_app : App
keep_app = with_rule (with_rule (bare_app (codes "keep")) (option_of (codes "file") true)) (option_of (codes "limit") false)

-- a word that begins with a hyphen and is no option, as `-`, `--` and `-x`
abbrev pub is_stray : List ℕ → Bool
is_stray word = is_hyphened word && is_none (option_in word)

-- clap takes the words and none is stray, or one is stray or clap refuses them
abbrev pub IsTaken : App → List (List ℕ) → Option ArgMatches → Type 0
IsTaken a words None = (list_any is_stray words ≡ true) ⊎ ((list_any is_stray words ≡ false) × ¬ (fault_of a words ≡ []))
IsTaken a words (Some m) = (list_any is_stray words ≡ false) × ((fault_of a words ≡ []) × HasMatchesOf a words m)
