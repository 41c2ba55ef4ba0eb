-- Worked scripts: numbers at their ends, order, groups and escapes.
use Rattle.std.specs.Prelude.{negsuc, true, List, [], ◌∷◌, ◌++◌, codes, None, Ok, Err}
use Rattle.ifdb_value.specs.declared.value.Value.TheVariants as value
use Rattle.ifdb_syntax.specs.declared.expression.Expr.TheVariants as expr
use Rattle.ifdb_syntax.specs.declared.select.Item.TheVariants as item
use Rattle.ifdb_syntax.specs.declared.select.OrderBy.TheVariants as order_by
use Rattle.ifdb_syntax.specs.declared.request.Request.TheVariants as request
use Rattle.ifdb_wire.specs.declared.fault.Fault.TheVariants as fault
use Rattle.ifdb_laws.specs.Played.{Played, says, done, says_one}
use Rattle.ifdb_laws.specs.Trees.{int, ref, col, shows, is_value, source, int_column, create_table, insert, delete, select}
use Rattle.ifdb_laws.specs.Setup.{setup, insert_note, a_note, is_id}

-- the ends of 64 bits
abbrev pub range_row : List Played
range_row = setup ++
    (done 1 (codes "CREATE TABLE num (k INT, g INT, v INT, PRIMARY KEY (k))") (create_table (codes "num") (int_column (codes "k") ∷ int_column (codes "g") ∷ int_column (codes "v") ∷ []) (codes "k" ∷ []) [])
    ∷ says_one 1 (codes "INSERT INTO num VALUES (1, 1, 9223372036854775807)") (insert (codes "num") ((int 1 ∷ int 1 ∷ int 9223372036854775807 ∷ []) ∷ []) []) (codes "OK 1")
    ∷ says_one 1 (codes "SELECT v + 1 FROM num") (select (item.Expr (expr.Add (col (codes "v")) (expr.Literal (int 1))) None ∷ []) (codes "num" ∷ []) None) (codes "ERR 15 OutOfRange")
    ∷ says_one 1 (codes "INSERT INTO num VALUES (2, 1, 9223372036854775807)") (insert (codes "num") ((int 2 ∷ int 1 ∷ int 9223372036854775807 ∷ []) ∷ []) []) (codes "OK 1")
    ∷ says_one 1 (codes "SELECT g, SUM(v) FROM num GROUP BY g") (Ok (request.Select (record { items = shows (codes "g") ∷ item.Sum (ref (codes "v")) None ∷ []; sources = source (codes "num") ∷ []; cond = None; group = ref (codes "g") ∷ []; order = [] }))) (codes "ERR 15 OutOfRange")
    ∷ says_one 1 (codes "INSERT INTO num VALUES (3, 1, -9223372036854775807)") (insert (codes "num") ((int 3 ∷ int 1 ∷ value.Int (negsuc 9223372036854775806) ∷ []) ∷ []) []) (codes "OK 1")
    ∷ says 1 (codes "SELECT g, SUM(v) FROM num GROUP BY g") (Ok (request.Select (record { items = shows (codes "g") ∷ item.Sum (ref (codes "v")) None ∷ []; sources = source (codes "num") ∷ []; cond = None; group = ref (codes "g") ∷ []; order = [] })))
    (codes "ROWS 1 2" ∷ codes "1\t9223372036854775807" ∷ [])
    ∷ says_one 1 (codes "INSERT INTO num VALUES (4, 2, -9223372036854775808)") (insert (codes "num") ((int 4 ∷ int 2 ∷ value.Int (negsuc 9223372036854775807) ∷ []) ∷ []) []) (codes "OK 1")
    ∷ says_one 1 (codes "SELECT v - 1 FROM num WHERE k = 4") (select (item.Expr (expr.Sub (col (codes "v")) (expr.Literal (int 1))) None ∷ []) (codes "num" ∷ []) (is_value (codes "k") (int 4))) (codes "ERR 15 OutOfRange")
    ∷ says_one 1 (codes "INSERT INTO num VALUES (5, 2, 9223372036854775808)") (Err fault.Limit) (codes "ERR 22 Limit")
    ∷ [])

-- order, whole statements, groups and escapes
abbrev pub order_row : List Played
order_row = setup ++
    (says_one 1 (codes "INSERT INTO note VALUES (1, 'x'), (2, 'y'), (3, 'x')") (insert (codes "note") (a_note 1 (codes "x") ∷ a_note 2 (codes "y") ∷ a_note 3 (codes "x") ∷ []) []) (codes "OK 3")
    ∷ says 1 (codes "SELECT id, body FROM note ORDER BY body DESC") (Ok (request.Select (record { items = shows (codes "id") ∷ shows (codes "body") ∷ []; sources = source (codes "note") ∷ []; cond = None; group = []; order = record { target = order_by.Name (codes "body"); descending = true } ∷ [] })))
    (codes "ROWS 3 2" ∷ codes "2\ty" ∷ codes "1\tx" ∷ codes "3\tx" ∷ [])
    ∷ says_one 1 (codes "INSERT INTO note VALUES (4, 'z'), (1, 'q')") (insert (codes "note") (a_note 4 (codes "z") ∷ a_note 1 (codes "q") ∷ []) []) (codes "ERR 13 DuplicateKey")
    ∷ says 1 (codes "SELECT COUNT(*) FROM note") (select (item.CountAll None ∷ []) (codes "note" ∷ []) None)
    (codes "ROWS 1 1" ∷ codes "3" ∷ [])
    ∷ says 1 (codes "SELECT body, COUNT(*) FROM note GROUP BY body") (Ok (request.Select (record { items = shows (codes "body") ∷ item.CountAll None ∷ []; sources = source (codes "note") ∷ []; cond = None; group = ref (codes "body") ∷ []; order = [] })))
    (codes "ROWS 2 2" ∷ codes "x\t2" ∷ codes "y\t1" ∷ [])
    ∷ says_one 1 (codes "INSERT INTO note VALUES (5, 'it''s a\\b')") (insert_note 5 (codes "it's a\\b")) (codes "OK 1")
    ∷ says 1 (codes "SELECT body FROM note WHERE id = 5") (select (shows (codes "body") ∷ []) (codes "note" ∷ []) (is_id 5))
    (codes "ROWS 1 1" ∷ codes "it's a\\\\b" ∷ [])
    ∷ says_one 1 (codes "DELETE FROM note WHERE id = 9") (delete (codes "note") (is_id 9)) (codes "OK 0")
    ∷ [])
