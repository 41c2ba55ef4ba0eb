-- Worked scripts: what labels see.
use Rattle.std.specs.Prelude.{true, false, List, [], ◌∷◌, ◌++◌, codes, None, Ok}
use Rattle.ifdb_syntax.specs.declared.request.Request.TheVariants as request
use Rattle.ifdb_laws.specs.Played.{Played, says, done, says_one}
use Rattle.ifdb_laws.specs.Trees.{text, shows, label_of, is_value, create_tag, set_label, set_text, select}
use Rattle.ifdb_laws.specs.Setup.{setup, insert_note, is_id}

-- a compound tag shows rows of a member that is made later; a label with both is the compound
abbrev pub compound_row : List Played
compound_row = setup ++
    (done 1 (codes "CREATE COMPOUND TAG every") (create_tag (codes "every") true [])
    ∷ done 2 (codes "SET LABEL (every)") (set_label (codes "every" ∷ []))
    ∷ done 1 (codes "CREATE TAG c IN (every)") (create_tag (codes "c") false (codes "every" ∷ []))
    ∷ done 1 (codes "SET LABEL (c)") (set_label (codes "c" ∷ []))
    ∷ says_one 1 (codes "INSERT INTO note VALUES (1, 'r')") (insert_note 1 (codes "r")) (codes "OK 1")
    ∷ says 2 (codes "SELECT LABEL OF note, body FROM note") (select (label_of (codes "note") ∷ shows (codes "body") ∷ []) (codes "note" ∷ []) None)
    (codes "ROWS 1 2" ∷ codes "{c}\tr" ∷ [])
    ∷ says_one 2 (codes "INSERT INTO note VALUES (1, 'd')") (insert_note 1 (codes "d")) (codes "ERR 13 DuplicateKey")
    ∷ done 2 (codes "SET LABEL (c, every)") (set_label (codes "c" ∷ codes "every" ∷ []))
    ∷ says_one 2 (codes "SHOW LABEL") (Ok request.ShowLabel) (codes "LABEL (every)")
    ∷ [])

-- one key at two labels; and what an UPDATE may write
abbrev pub polyinstantiation_row : List Played
polyinstantiation_row = setup ++
    (done 1 (codes "SET LABEL (a)") (set_label (codes "a" ∷ []))
    ∷ says_one 1 (codes "INSERT INTO note VALUES (1, 's')") (insert_note 1 (codes "s")) (codes "OK 1")
    ∷ says_one 2 (codes "INSERT INTO note VALUES (1, 'p')") (insert_note 1 (codes "p")) (codes "OK 1")
    ∷ says 1 (codes "SELECT LABEL OF note, body FROM note") (select (label_of (codes "note") ∷ shows (codes "body") ∷ []) (codes "note" ∷ []) None)
    (codes "ROWS 2 2" ∷ codes "{}\tp" ∷ codes "{a}\ts" ∷ [])
    ∷ says_one 2 (codes "INSERT INTO note VALUES (2, 'p')") (insert_note 2 (codes "p")) (codes "OK 1")
    ∷ says_one 1 (codes "INSERT INTO note VALUES (2, 's')") (insert_note 2 (codes "s")) (codes "ERR 13 DuplicateKey")
    ∷ says_one 1 (codes "UPDATE note SET body = 'z' WHERE id = 1") (set_text (codes "note") (codes "body") (codes "z") (is_id 1)) (codes "ERR 12 WriteLabel")
    ∷ says_one 1 (codes "UPDATE note SET body = 'z' WHERE body = 's'") (set_text (codes "note") (codes "body") (codes "z") (is_value (codes "body") (text (codes "s")))) (codes "OK 1")
    ∷ says 1 (codes "SELECT body FROM note WHERE id = 1") (select (shows (codes "body") ∷ []) (codes "note" ∷ []) (is_id 1))
    (codes "ROWS 2 1" ∷ codes "p" ∷ codes "z" ∷ [])
    ∷ [])

-- a row that was written at a higher label, committed at a lower one
abbrev pub lowering_row : List Played
lowering_row = setup ++
    (done 1 (codes "BEGIN") (Ok request.Begin)
    ∷ done 1 (codes "SET LABEL (a)") (set_label (codes "a" ∷ []))
    ∷ says_one 1 (codes "INSERT INTO note VALUES (4, 'k')") (insert_note 4 (codes "k")) (codes "OK 1")
    ∷ done 1 (codes "SET LABEL ()") (set_label [])
    ∷ says_one 1 (codes "SELECT id FROM note") (select (shows (codes "id") ∷ []) (codes "note" ∷ []) None) (codes "ROWS 0 1")
    ∷ done 1 (codes "COMMIT") (Ok request.Commit)
    ∷ says_one 1 (codes "SHOW LABEL") (Ok request.ShowLabel) (codes "LABEL ()")
    ∷ done 2 (codes "SET LABEL (a)") (set_label (codes "a" ∷ []))
    ∷ says 2 (codes "SELECT id FROM note") (select (shows (codes "id") ∷ []) (codes "note" ∷ []) None)
    (codes "ROWS 1 1" ∷ codes "4" ∷ [])
    ∷ [])
