-- decides: the service
-- Who is heard as admin, and what is heard as it was said.
use Rattle.std.specs.Prelude.{◌≡◌, ◌≢◌, ℕ, List, [], Some, None, Ok}
use Rattle.ifdb_syntax.specs.declared.request.Request.TheVariants as request
use Rattle.ifdb_parse.specs.Parsed.{parsed}
use Rattle.ifdb_keyed.specs.Keyed.{admin, keyed_line, said_key}

-- A line that is heard as HELLO of admin with admin's own key said HELLO of admin with the server's.
abbrev pub OnlyTheKeyIsAdmin : Type 0
OnlyTheKeyIsAdmin = (key line : List ℕ) → said_key (parsed (keyed_line key line)) ≡ Some admin → said_key (parsed line) ≡ Some key

-- Where a line says HELLO of admin with the server's key, HELLO of admin with admin's own is heard.
abbrev pub TheKeyIsAdmin : Type 0
TheKeyIsAdmin = (key line : List ℕ) → said_key (parsed line) ≡ Some key → parsed (keyed_line key line) ≡ Ok (request.Hello admin admin)

-- Where it says another, HELLO of admin with none is heard.
abbrev pub OtherKeysAreNone : Type 0
OtherKeysAreNone = (key line said : List ℕ) → said_key (parsed line) ≡ Some said → said ≢ key → parsed (keyed_line key line) ≡ Ok (request.Hello admin [])

-- A line that is no HELLO of admin is heard as it was said.
abbrev pub OthersAreAsSaid : Type 0
OthersAreAsSaid = (key line : List ℕ) → said_key (parsed line) ≡ None → keyed_line key line ≡ line
