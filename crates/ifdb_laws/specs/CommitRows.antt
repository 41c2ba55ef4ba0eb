-- Worked scripts: how commits are judged, and what a transaction reads.
use Rattle.std.specs.Prelude.{List, [], ◌∷◌, ◌++◌, codes, None, Ok}
use Rattle.ifdb_syntax.specs.declared.request.Request.TheVariants as request
use Rattle.ifdb_laws.specs.Played.{Played, says, done, says_one}
use Rattle.ifdb_laws.specs.Trees.{shows, set_label, set_text, select}
use Rattle.ifdb_laws.specs.Setup.{setup, insert_note, is_id}

-- a COMMIT above a written row is refused, and ends its transaction
abbrev pub commit_label_row : List Played
commit_label_row = setup ++
    (done 2 (codes "BEGIN") (Ok request.Begin)
    ∷ says_one 2 (codes "INSERT INTO note VALUES (3, 'w')") (insert_note 3 (codes "w")) (codes "OK 1")
    ∷ done 2 (codes "SET LABEL (a)") (set_label (codes "a" ∷ []))
    ∷ says_one 2 (codes "COMMIT") (Ok request.Commit) (codes "ERR 16 CommitLabel")
    ∷ says_one 2 (codes "COMMIT") (Ok request.Commit) (codes "ERR 10 NoTransaction")
    ∷ says_one 1 (codes "SELECT id FROM note") (select (shows (codes "id") ∷ []) (codes "note" ∷ []) None) (codes "ROWS 0 1")
    ∷ [])

-- first committer wins: for the same slot, and for a lower label of the key, but not for a higher one
abbrev pub first_committer_row : List Played
first_committer_row = setup ++
    (says_one 1 (codes "INSERT INTO note VALUES (1, 'o')") (insert_note 1 (codes "o")) (codes "OK 1")
    ∷ done 1 (codes "BEGIN") (Ok request.Begin)
    ∷ done 2 (codes "BEGIN") (Ok request.Begin)
    ∷ says_one 1 (codes "UPDATE note SET body = 'p' WHERE id = 1") (set_text (codes "note") (codes "body") (codes "p") (is_id 1)) (codes "OK 1")
    ∷ says_one 2 (codes "UPDATE note SET body = 'q' WHERE id = 1") (set_text (codes "note") (codes "body") (codes "q") (is_id 1)) (codes "OK 1")
    ∷ done 1 (codes "COMMIT") (Ok request.Commit)
    ∷ says_one 2 (codes "COMMIT") (Ok request.Commit) (codes "ERR 17 Conflict")
    ∷ says 2 (codes "SELECT body FROM note") (select (shows (codes "body") ∷ []) (codes "note" ∷ []) None)
    (codes "ROWS 1 1" ∷ codes "p" ∷ [])
    ∷ done 1 (codes "BEGIN") (Ok request.Begin)
    ∷ done 2 (codes "BEGIN") (Ok request.Begin)
    ∷ says_one 1 (codes "INSERT INTO note VALUES (2, 'l')") (insert_note 2 (codes "l")) (codes "OK 1")
    ∷ done 2 (codes "SET LABEL (a)") (set_label (codes "a" ∷ []))
    ∷ says_one 2 (codes "INSERT INTO note VALUES (2, 'h')") (insert_note 2 (codes "h")) (codes "OK 1")
    ∷ done 1 (codes "COMMIT") (Ok request.Commit)
    ∷ says_one 2 (codes "COMMIT") (Ok request.Commit) (codes "ERR 17 Conflict")
    ∷ done 2 (codes "BEGIN") (Ok request.Begin)
    ∷ done 1 (codes "BEGIN") (Ok request.Begin)
    ∷ says_one 2 (codes "INSERT INTO note VALUES (3, 'h')") (insert_note 3 (codes "h")) (codes "OK 1")
    ∷ says_one 1 (codes "INSERT INTO note VALUES (3, 'l')") (insert_note 3 (codes "l")) (codes "OK 1")
    ∷ done 2 (codes "COMMIT") (Ok request.Commit)
    ∷ done 1 (codes "COMMIT") (Ok request.Commit)
    ∷ [])

-- a transaction reads what was there at its BEGIN, and its own writes
abbrev pub snapshot_row : List Played
snapshot_row = setup ++
    (done 1 (codes "BEGIN") (Ok request.Begin)
    ∷ says_one 2 (codes "INSERT INTO note VALUES (1, 'x')") (insert_note 1 (codes "x")) (codes "OK 1")
    ∷ says_one 1 (codes "SELECT id FROM note") (select (shows (codes "id") ∷ []) (codes "note" ∷ []) None) (codes "ROWS 0 1")
    ∷ says_one 1 (codes "INSERT INTO note VALUES (2, 'y')") (insert_note 2 (codes "y")) (codes "OK 1")
    ∷ says 1 (codes "SELECT id FROM note") (select (shows (codes "id") ∷ []) (codes "note" ∷ []) None)
    (codes "ROWS 1 1" ∷ codes "2" ∷ [])
    ∷ says 2 (codes "SELECT id FROM note") (select (shows (codes "id") ∷ []) (codes "note" ∷ []) None)
    (codes "ROWS 1 1" ∷ codes "1" ∷ [])
    ∷ done 1 (codes "COMMIT") (Ok request.Commit)
    ∷ says 2 (codes "SELECT id FROM note") (select (shows (codes "id") ∷ []) (codes "note" ∷ []) None)
    (codes "ROWS 2 1" ∷ codes "1" ∷ codes "2" ∷ [])
    ∷ [])
