-- The beginning of the worked scripts.
use Rattle.std.specs.Prelude.{ℕ, false, List, [], ◌∷◌, codes, Option}
use Rattle.ifdb_value.specs.declared.value.Value.{Value}
use Rattle.ifdb_syntax.specs.declared.condition.Cond.{Cond}
use Rattle.ifdb_laws.specs.Played.{Played, opened, done}
use Rattle.ifdb_laws.specs.Trees.{Read, int, text, is_value, hello, create_principal, create_tag, int_column, text_column, create_table, insert}

-- two principals, two tags and a table
abbrev pub setup : List Played
setup =
    opened 1
    ∷ done 1 (codes "HELLO admin KEY 'admin'") (hello (codes "admin") (codes "admin"))
    ∷ done 1 (codes "CREATE TAG a") (create_tag (codes "a") false [])
    ∷ done 1 (codes "CREATE TAG b") (create_tag (codes "b") false [])
    ∷ done 1 (codes "CREATE TABLE note (id INT, body TEXT, PRIMARY KEY (id))")
    (create_table (codes "note") (int_column (codes "id") ∷ text_column (codes "body") ∷ []) (codes "id" ∷ []) [])
    ∷ done 1 (codes "CREATE PRINCIPAL guest KEY 'g'") (create_principal (codes "guest") (codes "g"))
    ∷ opened 2
    ∷ done 2 (codes "HELLO guest KEY 'g'") (hello (codes "guest") (codes "g"))
    ∷ []

-- the values of a row of that table
abbrev pub a_note : ℕ → List ℕ → List Value
a_note id body = int id ∷ text body ∷ []

-- INSERT of one such row
abbrev pub insert_note : ℕ → List ℕ → Read
insert_note id body = insert (codes "note") (a_note id body ∷ []) []

-- WHERE id = n
abbrev pub is_id : ℕ → Option Cond
is_id n = is_value (codes "id") (int n)
