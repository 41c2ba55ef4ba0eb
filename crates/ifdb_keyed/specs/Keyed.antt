-- decides: the service
-- What a server with a key for admin hears of what a peer says: a HELLO of admin is heard with admin's own key where it says the server's,
-- and with none where it says another. Each other line is heard as it was said.
use Rattle.std.specs.Prelude.{ℕ, List, [], bytes_eq, codes, Option, Some, None, Result, Ok, if◌then◌else◌}
use Rattle.ifdb_syntax.specs.declared.request.Request.{Request}
use Rattle.ifdb_syntax.specs.declared.request.Request.TheVariants as request
use Rattle.ifdb_syntax.specs.canonical.Text.{canonical_text}
use Rattle.ifdb_parse.specs.declared.fault.ParseFault.{ParseFault}
use Rattle.ifdb_parse.specs.Parsed.{parsed}

-- the principal that each database begins with, and the key that it begins with
abbrev pub admin : List ℕ
admin = codes "admin"

-- the key that a line says for admin, if it is read as HELLO of admin
abbrev pub said_key : Result Request ParseFault → Option (List ℕ)
said_key (Ok (request.Hello name key)) = if bytes_eq name admin then Some key else None
said_key _ = None

-- HELLO of admin with a key, on a line
abbrev pub hello_with : List ℕ → List ℕ
hello_with key = canonical_text (request.Hello admin key)

-- the key that is heard where this one is said
abbrev pub heard_key : List ℕ → List ℕ → List ℕ
heard_key key said = if bytes_eq said key then admin else []

abbrev pub heard_as : List ℕ → List ℕ → Option (List ℕ) → List ℕ
heard_as key line None = line
heard_as key line (Some said) = hello_with (heard_key key said)

-- what is heard of a line
abbrev pub keyed_line : List ℕ → List ℕ → List ℕ
keyed_line key line = heard_as key line (said_key (parsed line))
