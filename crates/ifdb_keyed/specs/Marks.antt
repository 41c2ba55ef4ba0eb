-- Which lines may be HELLO by their first mark, and what is heard of a line.
use Rattle.std.specs.Prelude.{ℕ, ◌==◌, ◌||◌, Bool, false, List, [], ◌∷◌, bytes_eq, Option, Some, None, Ok, if◌then◌else◌}
use Rattle.ifdb_lex.specs.Line.{is_blank}
use Rattle.ifdb_syntax.specs.declared.request.Request.{Request}
use Rattle.ifdb_keyed.specs.declared.heard.Heard.{Heard}
use Rattle.ifdb_keyed.specs.declared.heard.Heard.TheVariants as heard
use Rattle.ifdb_keyed.specs.Keyed.{hello_with, admin, said_key}

-- the first byte that is no space and no tab
abbrev pub first_mark : List ℕ → Option ℕ
first_mark [] = None
first_mark (b ∷ line) = if is_blank b then first_mark line else Some b

-- it is an H, in either case
abbrev pub is_h : Option ℕ → Bool
is_h None = false
is_h (Some b) = (b == 72) || (b == 104)

-- what is heard of a line
abbrev pub line_for : Heard → List ℕ → List ℕ
line_for heard.AsSaid line = line
line_for heard.Admin line = hello_with admin
line_for heard.Nobody line = hello_with []

-- what is heard where this key is said for admin
abbrev pub heard_for : List ℕ → Option (List ℕ) → Heard
heard_for key None = heard.AsSaid
heard_for key (Some said) = if bytes_eq said key then heard.Admin else heard.Nobody

abbrev pub heard_request : List ℕ → Request → Heard
heard_request key r = heard_for key (said_key (Ok r))
