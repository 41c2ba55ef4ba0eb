-- Worked scripts of ceilings.
use Rattle.std.specs.Prelude.{true, false, List, [], ◌∷◌, codes, Some, None, Ok}
use Rattle.ifdb_value.specs.declared.value.ValueKind.TheVariants as kind
use Rattle.ifdb_syntax.specs.declared.request.Request.TheVariants as request
use Rattle.ifdb_laws.specs.Played.{Played, opened, says}

-- the worked row of ceilings
abbrev pub ceiling_row : List Played
ceiling_row =
    opened 1
    ∷ says 1 (codes "HELLO admin KEY 'admin'") (Ok (request.Hello (codes "admin") (codes "admin")))
    ((codes "OK") ∷ [])
    ∷ says 1 (codes "CREATE TAG a") (Ok (request.CreateTag (codes "a") false []))
    ((codes "OK") ∷ [])
    ∷ says 1 (codes "CREATE TAG b") (Ok (request.CreateTag (codes "b") false []))
    ((codes "OK") ∷ [])
    ∷ says 1 (codes "CREATE TABLE note (id INT, body TEXT, PRIMARY KEY (id))") (Ok (request.CreateTable (codes "note") ((record { name = (codes "id"); kind = kind.Int }) ∷ (record { name = (codes "body"); kind = kind.Text }) ∷ []) ((codes "id") ∷ []) []))
    ((codes "OK") ∷ [])
    ∷ says 1 (codes "CREATE PRINCIPAL guest KEY 'g'") (Ok (request.CreatePrincipal (codes "guest") (codes "g") None))
    ((codes "OK") ∷ [])
    ∷ opened 2
    ∷ says 2 (codes "HELLO guest KEY 'g'") (Ok (request.Hello (codes "guest") (codes "g")))
    ((codes "OK") ∷ [])
    ∷ says 1 (codes "CREATE COMPOUND TAG ward") (Ok (request.CreateTag (codes "ward") true []))
    ((codes "OK") ∷ [])
    ∷ says 1 (codes "CREATE TAG w1 IN (ward)") (Ok (request.CreateTag (codes "w1") false ((codes "ward") ∷ [])))
    ((codes "OK") ∷ [])
    ∷ says 1 (codes "CREATE PRINCIPAL nurse KEY 'n' CLEARANCE (ward)") (Ok (request.CreatePrincipal (codes "nurse") (codes "n") (Some ((codes "ward") ∷ []))))
    ((codes "OK") ∷ [])
    ∷ says 1 (codes "CREATE PRINCIPAL desk KEY 'd' CLEARANCE ()") (Ok (request.CreatePrincipal (codes "desk") (codes "d") (Some [])))
    ((codes "OK") ∷ [])
    ∷ says 1 (codes "CREATE PRINCIPAL q KEY 'q' CLEARANCE (nope)") (Ok (request.CreatePrincipal (codes "q") (codes "q") (Some ((codes "nope") ∷ []))))
    ((codes "ERR 6 UnknownName") ∷ [])
    ∷ opened 3
    ∷ says 3 (codes "HELLO nurse KEY 'n'") (Ok (request.Hello (codes "nurse") (codes "n")))
    ((codes "OK") ∷ [])
    ∷ says 3 (codes "SET LABEL (w1)") (Ok (request.SetLabel ((codes "w1") ∷ [])))
    ((codes "OK") ∷ [])
    ∷ says 3 (codes "SET LABEL (w1, a)") (Ok (request.SetLabel ((codes "w1") ∷ (codes "a") ∷ [])))
    ((codes "ERR 29 OverClearance") ∷ [])
    ∷ says 3 (codes "SHOW LABEL") (Ok request.ShowLabel)
    ((codes "LABEL (w1)") ∷ [])
    ∷ says 3 (codes "SET LABEL (ward)") (Ok (request.SetLabel ((codes "ward") ∷ [])))
    ((codes "OK") ∷ [])
    ∷ says 3 (codes "SET LABEL ()") (Ok (request.SetLabel []))
    ((codes "ERR 8 NoAuthority") ∷ [])
    ∷ opened 4
    ∷ says 4 (codes "HELLO desk KEY 'd'") (Ok (request.Hello (codes "desk") (codes "d")))
    ((codes "OK") ∷ [])
    ∷ says 4 (codes "SET LABEL (a)") (Ok (request.SetLabel ((codes "a") ∷ [])))
    ((codes "ERR 29 OverClearance") ∷ [])
    ∷ []
