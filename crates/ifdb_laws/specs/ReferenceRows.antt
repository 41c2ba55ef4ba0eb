-- Worked scripts: foreign keys.
use Rattle.std.specs.Prelude.{List, [], ◌∷◌, ◌++◌, codes, Ok}
use Rattle.ifdb_syntax.specs.declared.request.Request.TheVariants as request
use Rattle.ifdb_laws.specs.Played.{Played, done, says_one}
use Rattle.ifdb_laws.specs.Trees.{int, int_column, create_table, set_label, insert, delete}
use Rattle.ifdb_laws.specs.Setup.{setup, insert_note, is_id}

-- a child above its parent: it takes authority to refer, and the parent stays while the child does
abbrev pub secret_child_row : List Played
secret_child_row = setup ++
    (done 1 (codes "CREATE TABLE visit (v INT, note_id INT, PRIMARY KEY (v), FOREIGN KEY (note_id) REFERENCES note)") (create_table (codes "visit") (int_column (codes "v") ∷ int_column (codes "note_id") ∷ []) (codes "v" ∷ []) (record { columns = codes "note_id" ∷ []; parent = codes "note" } ∷ []))
    ∷ says_one 1 (codes "INSERT INTO note VALUES (1, 'n')") (insert_note 1 (codes "n")) (codes "OK 1")
    ∷ done 1 (codes "SET LABEL (a)") (set_label (codes "a" ∷ []))
    ∷ says_one 1 (codes "INSERT INTO visit VALUES (10, 1)") (insert (codes "visit") ((int 10 ∷ int 1 ∷ []) ∷ []) []) (codes "ERR 14 NoReference")
    ∷ says_one 1 (codes "INSERT INTO visit VALUES (10, 1) DECLASSIFYING (a)") (insert (codes "visit") ((int 10 ∷ int 1 ∷ []) ∷ []) (codes "a" ∷ [])) (codes "OK 1")
    ∷ done 2 (codes "SET LABEL (a)") (set_label (codes "a" ∷ []))
    ∷ says_one 2 (codes "INSERT INTO visit VALUES (11, 1) DECLASSIFYING (a)") (insert (codes "visit") ((int 11 ∷ int 1 ∷ []) ∷ []) (codes "a" ∷ [])) (codes "ERR 8 NoAuthority")
    ∷ done 1 (codes "SET LABEL ()") (set_label [])
    ∷ says_one 1 (codes "DELETE FROM note WHERE id = 1") (delete (codes "note") (is_id 1)) (codes "ERR 19 StillReferenced")
    ∷ done 1 (codes "BEGIN") (Ok request.Begin)
    ∷ says_one 1 (codes "DELETE FROM note WHERE id = 1") (delete (codes "note") (is_id 1)) (codes "OK 1")
    ∷ says_one 1 (codes "COMMIT") (Ok request.Commit) (codes "ERR 19 StillReferenced")
    ∷ [])

-- a parent that went while its child was being written
abbrev pub broken_reference_row : List Played
broken_reference_row = setup ++
    (done 1 (codes "CREATE TABLE visit (v INT, note_id INT, PRIMARY KEY (v), FOREIGN KEY (note_id) REFERENCES note)") (create_table (codes "visit") (int_column (codes "v") ∷ int_column (codes "note_id") ∷ []) (codes "v" ∷ []) (record { columns = codes "note_id" ∷ []; parent = codes "note" } ∷ []))
    ∷ says_one 1 (codes "INSERT INTO note VALUES (1, 'n')") (insert_note 1 (codes "n")) (codes "OK 1")
    ∷ done 2 (codes "BEGIN") (Ok request.Begin)
    ∷ says_one 2 (codes "INSERT INTO visit VALUES (20, 1)") (insert (codes "visit") ((int 20 ∷ int 1 ∷ []) ∷ []) []) (codes "OK 1")
    ∷ says_one 1 (codes "DELETE FROM note WHERE id = 1") (delete (codes "note") (is_id 1)) (codes "OK 1")
    ∷ says_one 2 (codes "COMMIT") (Ok request.Commit) (codes "ERR 18 BrokenReference")
    ∷ [])
