-- A worked script: a clinic, where each patient has a tag, a doctor reads all of them, and billing sees the fees.
use Rattle.std.specs.Prelude.{ℕ, zero, suc, ◌+◌, ◌*◌, true, false, List, [], ◌∷◌, ◌++◌, codes, decimal, Some, None, Ok}
use Rattle.ifdb_value.specs.declared.value.Compare.TheVariants as how
use Rattle.ifdb_syntax.specs.declared.expression.Expr.TheVariants as expr
use Rattle.ifdb_syntax.specs.declared.expression.Operand.TheVariants as operand
use Rattle.ifdb_syntax.specs.declared.condition.Cond.TheVariants as cond
use Rattle.ifdb_syntax.specs.declared.select.Item.{Item}
use Rattle.ifdb_syntax.specs.declared.select.Item.TheVariants as item
use Rattle.ifdb_syntax.specs.declared.request.Request.TheVariants as request
use Rattle.ifdb_laws.specs.Played.{Played, opened, says, done, says_one}
use Rattle.ifdb_laws.specs.Trees.{int, text, ref, ref_in, shows, source, select_of, hello, create_principal, create_tag, int_column, text_column, create_table, grant, revoke, set_label, insert, select}

-- two tables, a compound tag for all patients, and three sessions
abbrev pub clinic_setup : List Played
clinic_setup =
    opened 1
    ∷ done 1 (codes "HELLO admin KEY 'admin'") (hello (codes "admin") (codes "admin"))
    ∷ done 1 (codes "CREATE COMPOUND TAG patients") (create_tag (codes "patients") true [])
    ∷ done 1 (codes "CREATE TABLE patient (id INT, name TEXT, PRIMARY KEY (id))")
    (create_table (codes "patient") (int_column (codes "id") ∷ text_column (codes "name") ∷ []) (codes "id" ∷ []) [])
    ∷ done 1 (codes "CREATE TABLE visit (id INT, pid INT, fee INT, why TEXT, PRIMARY KEY (id), FOREIGN KEY (pid) REFERENCES patient)")
    (create_table (codes "visit") (int_column (codes "id") ∷ int_column (codes "pid") ∷ int_column (codes "fee") ∷ text_column (codes "why") ∷ []) (codes "id" ∷ [])
    (record { columns = codes "pid" ∷ []; parent = codes "patient" } ∷ []))
    ∷ done 1 (codes "CREATE PRINCIPAL doctor KEY 'd'") (create_principal (codes "doctor") (codes "d"))
    ∷ done 1 (codes "CREATE PRINCIPAL billing KEY 'b'") (create_principal (codes "billing") (codes "b"))
    ∷ done 1 (codes "GRANT patients TO doctor") (grant (codes "patients") (codes "doctor"))
    ∷ opened 2
    ∷ done 2 (codes "HELLO doctor KEY 'd'") (hello (codes "doctor") (codes "d"))
    ∷ opened 3
    ∷ done 3 (codes "HELLO billing KEY 'b'") (hello (codes "billing") (codes "b"))
    ∷ []

-- the name of a patient's tag
abbrev pub tag_of : ℕ → List ℕ
tag_of i = codes "p" ++ decimal i

-- a patient with a tag, and a visit whose fee is 100 times the number
abbrev pub patient : ℕ → List Played
patient i =
    done 1 (codes "CREATE TAG " ++ tag_of i ++ codes " IN (patients)") (create_tag (tag_of i) false (codes "patients" ∷ []))
    ∷ done 2 (codes "SET LABEL (" ++ tag_of i ++ codes ")") (set_label (tag_of i ∷ []))
    ∷ says_one 2 (codes "INSERT INTO patient VALUES (" ++ decimal i ++ codes ", 'n" ++ decimal i ++ codes "')")
    (insert (codes "patient") ((int i ∷ text (codes "n" ++ decimal i) ∷ []) ∷ []) []) (codes "OK 1")
    ∷ says_one 2 (codes "INSERT INTO visit VALUES (" ++ decimal i ++ codes ", " ++ decimal i ++ codes ", " ++ decimal (100 * i) ++ codes ", 'flu')")
    (insert (codes "visit") ((int i ∷ int i ∷ int (100 * i) ∷ text (codes "flu") ∷ []) ∷ []) []) (codes "OK 1")
    ∷ done 2 (codes "SET LABEL ()") (set_label [])
    ∷ []

-- the patients 1 to n
abbrev pub patients : ℕ → List Played
patients zero = []
patients (suc n) = patients n ++ patient (n + 1)

-- the one item COUNT(*)
abbrev count_all : List Item
count_all = item.CountAll None ∷ []

-- a column of `visit` as an item
abbrev visit_item : List ℕ → Item
visit_item name = item.Expr (expr.Column (ref_in (codes "visit") name)) None

-- what the doctor and billing then ask, with forty patients
abbrev pub clinic_questions : List Played
clinic_questions =
    done 2 (codes "CREATE VIEW fees AS SELECT visit.id, visit.pid, visit.fee FROM visit WITH DECLASSIFYING (patients)")
    (Ok (request.CreateView (codes "fees") (select_of (visit_item (codes "id") ∷ visit_item (codes "pid") ∷ visit_item (codes "fee") ∷ []) (codes "visit" ∷ []) None) (codes "patients" ∷ [])))
    ∷ says 3 (codes "SELECT COUNT(*) FROM visit") (select count_all (codes "visit" ∷ []) None) (codes "ROWS 1 1" ∷ codes "0" ∷ [])
    ∷ says 3 (codes "SELECT COUNT(*) FROM fees") (select count_all (codes "fees" ∷ []) None) (codes "ROWS 1 1" ∷ codes "40" ∷ [])
    ∷ says 3 (codes "SELECT pid, SUM(fee) FROM fees WHERE fee >= 3900 GROUP BY pid")
    (Ok (request.Select (record {
      items = shows (codes "pid") ∷ item.Sum (ref (codes "fee")) None ∷ [];
      sources = source (codes "fees") ∷ [];
      cond = Some (cond.Compare (operand.Column (ref (codes "fee"))) how.AtLeast (operand.Literal (int 3900)));
      group = ref (codes "pid") ∷ [];
      order = [];
    })))
    (codes "ROWS 2 2" ∷ codes "39\t3900" ∷ codes "40\t4000" ∷ [])
    ∷ says_one 3 (codes "SELECT why FROM visit") (select (shows (codes "why") ∷ []) (codes "visit" ∷ []) None) (codes "ROWS 0 1")
    ∷ done 3 (codes "SET LABEL (p7)") (set_label (codes "p7" ∷ []))
    ∷ says 3 (codes "SELECT name FROM patient") (select (shows (codes "name") ∷ []) (codes "patient" ∷ []) None) (codes "ROWS 1 1" ∷ codes "n7" ∷ [])
    ∷ says_one 3 (codes "SET LABEL ()") (set_label []) (codes "ERR 8 NoAuthority")
    ∷ done 1 (codes "REVOKE patients FROM doctor") (revoke (codes "patients") (codes "doctor"))
    ∷ opened 4
    ∷ done 4 (codes "HELLO billing KEY 'b'") (hello (codes "billing") (codes "b"))
    ∷ says_one 4 (codes "SELECT COUNT(*) FROM fees") (select count_all (codes "fees" ∷ []) None) (codes "ERR 27 ViewAuthority")
    ∷ []

-- the whole script
abbrev pub clinic_row : List Played
clinic_row = clinic_setup ++ patients 40 ++ clinic_questions
