-- Worked pairs of scripts: two that agree below the empty level, and pairs of which each shows a case of crossing it.
use Rattle.std.specs.Prelude.{◌≡◌, ℕ, true, false, List, [], ◌∷◌, ◌++◌, codes, None, Ok}
use Rattle.ifdb_syntax.specs.declared.request.Request.TheVariants as request
use Rattle.ifdb_model.specs.Step.{Reader}
use Rattle.ifdb_model.specs.Run.{opening, Step}
use Rattle.ifdb_model.specs.Low.{low, heard}
use Rattle.ifdb_model.specs.Crossing.{quiet}
use Rattle.ifdb_model.specs.Script.{steps_of}
use Rattle.ifdb_model.specs.Output.{texts}
use Rattle.ifdb_laws.specs.Played.{Played, opened, says, done, says_one, script_of, told_by, reader_of, Plays}
use Rattle.ifdb_laws.specs.Trees.{Read, int, shows, hello, int_column, create_table, set_label, insert, delete, select_of, select}
use Rattle.ifdb_laws.specs.Setup.{setup, insert_note}

-- the steps of a worked script
abbrev pub steps_played : List Played → List Step
steps_played played = steps_of (script_of played)

-- the reader that knows the lines of both
abbrev pub both_read : List Played → List Played → Reader
both_read xs ys = reader_of (xs ++ ys)

-- the steps that are asked at the empty level are the same in both
abbrev pub HaveSameLow : List Played → List Played → Type 0
HaveSameLow xs ys = low (both_read xs ys) [] opening (steps_played xs) ≡ low (both_read xs ys) [] opening (steps_played ys)

-- neither crosses the empty level
pub record AreQuiet (xs ys : List Played) : Type 0 where
  pub first : quiet (both_read xs ys) [] opening (steps_played xs) ≡ true
  pub second : quiet (both_read xs ys) [] opening (steps_played ys) ≡ true

-- this is heard there of both
pub record AreHeard (xs ys : List Played) (bytes : List ℕ) : Type 0 where
  pub first : texts (heard (both_read xs ys) [] opening (steps_played xs)) ≡ bytes
  pub second : texts (heard (both_read xs ys) [] opening (steps_played ys)) ≡ bytes

-- two scripts that have the same low steps, of which the first crosses the level, and each of which is told what it says
pub record ShowCrossing (xs ys : List Played) : Type 0 where
  pub first_plays : Plays xs
  pub second_plays : Plays ys
  pub same_low : HaveSameLow xs ys
  pub crosses : quiet (both_read xs ys) [] opening (steps_played xs) ≡ false

-- two worlds: session 2 is above the empty level, and does other things in each
abbrev pub first_world : List Played
first_world = setup ++
    (done 2 (codes "SET LABEL (a)") (set_label (codes "a" ∷ []))
    ∷ done 1 (codes "BEGIN") (Ok request.Begin)
    ∷ done 2 (codes "BEGIN") (Ok request.Begin)
    ∷ says_one 2 (codes "INSERT INTO note VALUES (1, 's')") (insert_note 1 (codes "s")) (codes "OK 1")
    ∷ done 2 (codes "COMMIT") (Ok request.Commit)
    ∷ says_one 1 (codes "INSERT INTO note VALUES (1, 'p')") (insert_note 1 (codes "p")) (codes "OK 1")
    ∷ done 2 (codes "BEGIN") (Ok request.Begin)
    ∷ done 1 (codes "COMMIT") (Ok request.Commit)
    ∷ says 1 (codes "SELECT id, body FROM note") (select (shows (codes "id") ∷ shows (codes "body") ∷ []) (codes "note" ∷ []) None)
    (codes "ROWS 1 2" ∷ codes "1\tp" ∷ [])
    ∷ [])

-- the other world
abbrev pub second_world : List Played
second_world = setup ++
    (done 2 (codes "SET LABEL (a)") (set_label (codes "a" ∷ []))
    ∷ done 2 (codes "BEGIN") (Ok request.Begin)
    ∷ done 1 (codes "BEGIN") (Ok request.Begin)
    ∷ says_one 2 (codes "SELECT id FROM note") (select (shows (codes "id") ∷ []) (codes "note" ∷ []) None) (codes "ROWS 0 1")
    ∷ says_one 1 (codes "INSERT INTO note VALUES (1, 'p')") (insert_note 1 (codes "p")) (codes "OK 1")
    ∷ done 1 (codes "COMMIT") (Ok request.Commit)
    ∷ says 1 (codes "SELECT id, body FROM note") (select (shows (codes "id") ∷ shows (codes "body") ∷ []) (codes "note" ∷ []) None)
    (codes "ROWS 1 2" ∷ codes "1\tp" ∷ [])
    ∷ says_one 2 (codes "SELECT id FROM note") (select (shows (codes "id") ∷ []) (codes "note" ∷ []) None) (codes "ROWS 0 1")
    ∷ [])

-- what session 1 hears in both, and session 2 until it is above
abbrev pub worlds_heard : List ℕ
worlds_heard = told_by setup ++ codes "2 OK\n1 OK\n1 OK 1\n1 OK\n1 ROWS 1 2\n1 1\tp\n"

-- The first case: session 1 comes down to the level with its authority. Whether it wrote above shows in its COMMIT.
abbrev pub came_down : List Played
came_down = setup ++
    (done 2 (codes "SET LABEL (a)") (set_label (codes "a" ∷ []))
    ∷ done 1 (codes "BEGIN") (Ok request.Begin)
    ∷ done 1 (codes "SET LABEL (a)") (set_label (codes "a" ∷ []))
    ∷ says_one 1 (codes "INSERT INTO note VALUES (5, 'x')") (insert_note 5 (codes "x")) (codes "OK 1")
    ∷ done 1 (codes "SET LABEL ()") (set_label [])
    ∷ says_one 2 (codes "INSERT INTO note VALUES (5, 'y')") (insert_note 5 (codes "y")) (codes "OK 1")
    ∷ says_one 1 (codes "COMMIT") (Ok request.Commit) (codes "ERR 17 Conflict")
    ∷ [])

-- it did not write above
abbrev pub came_down_idle : List Played
came_down_idle = setup ++
    (done 2 (codes "SET LABEL (a)") (set_label (codes "a" ∷ []))
    ∷ done 1 (codes "BEGIN") (Ok request.Begin)
    ∷ done 1 (codes "SET LABEL (a)") (set_label (codes "a" ∷ []))
    ∷ done 1 (codes "SET LABEL ()") (set_label [])
    ∷ says_one 2 (codes "INSERT INTO note VALUES (5, 'y')") (insert_note 5 (codes "y")) (codes "OK 1")
    ∷ done 1 (codes "COMMIT") (Ok request.Commit)
    ∷ [])

-- The second case: session 1, at the level, refers with its authority to a row above, if there is one.
abbrev pub referred_up : List Played
referred_up = setup ++
    (done 1 (codes "CREATE TABLE visit (v INT, note_id INT, PRIMARY KEY (v), FOREIGN KEY (note_id) REFERENCES note)") (create_table (codes "visit") (int_column (codes "v") ∷ int_column (codes "note_id") ∷ []) (codes "v" ∷ []) (record { columns = codes "note_id" ∷ []; parent = codes "note" } ∷ []))
    ∷ done 2 (codes "SET LABEL (a)") (set_label (codes "a" ∷ []))
    ∷ says_one 2 (codes "INSERT INTO note VALUES (1, 's')") (insert_note 1 (codes "s")) (codes "OK 1")
    ∷ says_one 1 (codes "INSERT INTO visit VALUES (10, 1) DECLASSIFYING (a)") (insert (codes "visit") ((int 10 ∷ int 1 ∷ []) ∷ []) (codes "a" ∷ [])) (codes "OK 1")
    ∷ [])

-- there is no row above
abbrev pub referred_up_to_nothing : List Played
referred_up_to_nothing = setup ++
    (done 1 (codes "CREATE TABLE visit (v INT, note_id INT, PRIMARY KEY (v), FOREIGN KEY (note_id) REFERENCES note)") (create_table (codes "visit") (int_column (codes "v") ∷ int_column (codes "note_id") ∷ []) (codes "v" ∷ []) (record { columns = codes "note_id" ∷ []; parent = codes "note" } ∷ []))
    ∷ done 2 (codes "SET LABEL (a)") (set_label (codes "a" ∷ []))
    ∷ says_one 1 (codes "INSERT INTO visit VALUES (10, 1) DECLASSIFYING (a)") (insert (codes "visit") ((int 10 ∷ int 1 ∷ []) ∷ []) (codes "a" ∷ [])) (codes "ERR 14 NoReference")
    ∷ [])

-- a view of the rows above
abbrev pub create_due : Read
create_due = Ok (request.CreateView (codes "due") (select_of (shows (codes "id") ∷ []) (codes "note" ∷ []) None) (codes "a" ∷ []))

-- The second case again: session 1, at the level, reads a view that declassifies what is above.
abbrev pub viewed_up : List Played
viewed_up = setup ++
    (done 1 (codes "CREATE VIEW due AS SELECT id FROM note WITH DECLASSIFYING (a)") create_due
    ∷ done 2 (codes "SET LABEL (a)") (set_label (codes "a" ∷ []))
    ∷ says_one 2 (codes "INSERT INTO note VALUES (1, 's')") (insert_note 1 (codes "s")) (codes "OK 1")
    ∷ says 1 (codes "SELECT id FROM due") (select (shows (codes "id") ∷ []) (codes "due" ∷ []) None) (codes "ROWS 1 1" ∷ codes "1" ∷ [])
    ∷ [])

-- there is no row above
abbrev pub viewed_up_to_nothing : List Played
viewed_up_to_nothing = setup ++
    (done 1 (codes "CREATE VIEW due AS SELECT id FROM note WITH DECLASSIFYING (a)") create_due
    ∷ done 2 (codes "SET LABEL (a)") (set_label (codes "a" ∷ []))
    ∷ says_one 1 (codes "SELECT id FROM due") (select (shows (codes "id") ∷ []) (codes "due" ∷ []) None) (codes "ROWS 0 1")
    ∷ [])

-- The third case: session 3, above, refers with its authority to a row at the level, which then can't be deleted.
abbrev pub referred_down : List Played
referred_down = setup ++
    (done 1 (codes "CREATE TABLE visit (v INT, note_id INT, PRIMARY KEY (v), FOREIGN KEY (note_id) REFERENCES note)") (create_table (codes "visit") (int_column (codes "v") ∷ int_column (codes "note_id") ∷ []) (codes "v" ∷ []) (record { columns = codes "note_id" ∷ []; parent = codes "note" } ∷ []))
    ∷ says_one 1 (codes "INSERT INTO note VALUES (1, 'n')") (insert_note 1 (codes "n")) (codes "OK 1")
    ∷ opened 3
    ∷ done 3 (codes "HELLO admin KEY 'admin'") (hello (codes "admin") (codes "admin"))
    ∷ done 3 (codes "SET LABEL (a)") (set_label (codes "a" ∷ []))
    ∷ says_one 3 (codes "INSERT INTO visit VALUES (10, 1) DECLASSIFYING (a)") (insert (codes "visit") ((int 10 ∷ int 1 ∷ []) ∷ []) (codes "a" ∷ [])) (codes "OK 1")
    ∷ says_one 1 (codes "DELETE FROM note") (delete (codes "note") None) (codes "ERR 19 StillReferenced")
    ∷ [])

-- nothing refers to the row
abbrev pub referred_down_idle : List Played
referred_down_idle = setup ++
    (done 1 (codes "CREATE TABLE visit (v INT, note_id INT, PRIMARY KEY (v), FOREIGN KEY (note_id) REFERENCES note)") (create_table (codes "visit") (int_column (codes "v") ∷ int_column (codes "note_id") ∷ []) (codes "v" ∷ []) (record { columns = codes "note_id" ∷ []; parent = codes "note" } ∷ []))
    ∷ says_one 1 (codes "INSERT INTO note VALUES (1, 'n')") (insert_note 1 (codes "n")) (codes "OK 1")
    ∷ opened 3
    ∷ done 3 (codes "HELLO admin KEY 'admin'") (hello (codes "admin") (codes "admin"))
    ∷ done 3 (codes "SET LABEL (a)") (set_label (codes "a" ∷ []))
    ∷ says_one 1 (codes "DELETE FROM note") (delete (codes "note") None) (codes "OK 1")
    ∷ [])
