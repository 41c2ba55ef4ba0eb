-- Worked scripts: a declassifying view.
use Rattle.std.specs.Prelude.{List, [], ◌∷◌, ◌++◌, codes, Some, None, Ok}
use Rattle.ifdb_value.specs.declared.value.Compare.TheVariants as how
use Rattle.ifdb_syntax.specs.declared.expression.Expr.TheVariants as expr
use Rattle.ifdb_syntax.specs.declared.expression.Operand.TheVariants as operand
use Rattle.ifdb_syntax.specs.declared.condition.Cond.TheVariants as cond
use Rattle.ifdb_syntax.specs.declared.select.Item.TheVariants as item
use Rattle.ifdb_syntax.specs.declared.request.Request.TheVariants as request
use Rattle.ifdb_laws.specs.Played.{Played, says, done, says_one}
use Rattle.ifdb_laws.specs.Trees.{int, ref_in, shows, label_of, select_of, int_column, create_table, grant, revoke, set_label, insert, select}
use Rattle.ifdb_laws.specs.Setup.{setup, insert_note}
use Rattle.ifdb_syntax.specs.declared.select.Select.{Select}

-- SELECT note.id, bill.pence FROM note, bill WHERE note.id = bill.id
abbrev due : Select
due = select_of (item.Expr (expr.Column (ref_in (codes "note") (codes "id"))) None ∷ item.Expr (expr.Column (ref_in (codes "bill") (codes "pence"))) None ∷ []) (codes "note" ∷ codes "bill" ∷ [])
    (Some (cond.Compare (operand.Column (ref_in (codes "note") (codes "id"))) how.Equal (operand.Column (ref_in (codes "bill") (codes "id")))))

-- a view shows rows without a tag, while its owner holds the tag
abbrev pub view_row : List Played
view_row = setup ++
    (done 1 (codes "CREATE TABLE bill (id INT, pence INT, PRIMARY KEY (id))") (create_table (codes "bill") (int_column (codes "id") ∷ int_column (codes "pence") ∷ []) (codes "id" ∷ []) [])
    ∷ done 1 (codes "GRANT a TO guest") (grant (codes "a") (codes "guest"))
    ∷ done 2 (codes "CREATE VIEW due AS SELECT note.id, bill.pence FROM note, bill WHERE note.id = bill.id WITH DECLASSIFYING (a)") (Ok (request.CreateView (codes "due") due (codes "a" ∷ [])))
    ∷ says_one 1 (codes "INSERT INTO bill VALUES (1, 250), (2, 90)") (insert (codes "bill") ((int 1 ∷ int 250 ∷ []) ∷ (int 2 ∷ int 90 ∷ []) ∷ []) []) (codes "OK 2")
    ∷ done 1 (codes "SET LABEL (a)") (set_label (codes "a" ∷ []))
    ∷ says_one 1 (codes "INSERT INTO note VALUES (1, 'x')") (insert_note 1 (codes "x")) (codes "OK 1")
    ∷ done 1 (codes "SET LABEL (a, b)") (set_label (codes "a" ∷ codes "b" ∷ []))
    ∷ says_one 1 (codes "INSERT INTO note VALUES (2, 'y')") (insert_note 2 (codes "y")) (codes "OK 1")
    ∷ done 1 (codes "SET LABEL ()") (set_label [])
    ∷ says_one 1 (codes "SELECT id FROM note") (select (shows (codes "id") ∷ []) (codes "note" ∷ []) None) (codes "ROWS 0 1")
    ∷ says 1 (codes "SELECT id, pence, LABEL OF due FROM due") (select (shows (codes "id") ∷ shows (codes "pence") ∷ label_of (codes "due") ∷ []) (codes "due" ∷ []) None)
    (codes "ROWS 1 3" ∷ codes "1\t250\t{}" ∷ [])
    ∷ says_one 1 (codes "SELECT COUNT(*) FROM due") (select (item.CountAll None ∷ []) (codes "due" ∷ []) None) (codes "ERR 11 TypeMismatch")
    ∷ done 1 (codes "SET LABEL (b)") (set_label (codes "b" ∷ []))
    ∷ says 1 (codes "SELECT id, LABEL OF due FROM due") (select (shows (codes "id") ∷ label_of (codes "due") ∷ []) (codes "due" ∷ []) None)
    (codes "ROWS 2 2" ∷ codes "1\t{}" ∷ codes "2\t{b}" ∷ [])
    ∷ done 1 (codes "SET LABEL ()") (set_label [])
    ∷ done 1 (codes "REVOKE a FROM guest") (revoke (codes "a") (codes "guest"))
    ∷ says_one 1 (codes "SELECT id FROM due") (select (shows (codes "id") ∷ []) (codes "due" ∷ []) None) (codes "ERR 27 ViewAuthority")
    ∷ [])
