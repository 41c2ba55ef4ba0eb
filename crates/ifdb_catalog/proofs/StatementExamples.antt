-- Worked examples of INSERT, UPDATE and DELETE, by computation.
use Rattle.std.proofs.Common.{◌≡◌, refl, List, [], ◌∷◌, ℕ, Option, Some, None, Ok, Err}
use Rattle.std.specs.Prelude.{codes}
use Rattle.ifdb_value.specs.declared.value.Value.{Value}
use Rattle.ifdb_value.specs.declared.value.Compare.TheVariants as how
use Rattle.ifdb_syntax.specs.declared.expression.Expr.{Expr}
use Rattle.ifdb_syntax.specs.declared.expression.Expr.TheVariants as e
use Rattle.ifdb_syntax.specs.declared.condition.Cond.{Cond}
use Rattle.ifdb_syntax.specs.declared.request.Assignment.{Assignment}
use Rattle.ifdb_syntax.specs.declared.request.Request.{Request}
use Rattle.ifdb_syntax.specs.declared.request.Request.TheVariants as q
use Rattle.ifdb_bound.specs.declared.expression.BoundExpr.TheVariants as be
use Rattle.ifdb_bound.specs.declared.expression.BoundOperand.TheVariants as bo
use Rattle.ifdb_bound.specs.declared.condition.BoundCond.{BoundCond}
use Rattle.ifdb_bound.specs.declared.condition.BoundCond.TheVariants as bc
use Rattle.ifdb_bound.specs.declared.request.Bound.TheVariants as b
use Rattle.ifdb_wire.specs.declared.fault.Fault.TheVariants as fault
use Rattle.ifdb_catalog.specs.Binding.{bound}
use Rattle.ifdb_catalog.proofs.Site.{int, text, bare, dotted, equals, at, note, bill, id, body, pence, site}
use Rattle.ifdb_catalog.proofs.Computing.{binding}

-- ---- INSERT

abbrev insert : List ℕ → List (List ℕ) → List (List Value) → Request
insert table columns rows = q.Insert table columns rows []

abbrev row : ℕ → List ℕ → List Value
row n t = int n ∷ text t ∷ []

inserts : bound site 0 (insert note [] (row 1 (codes "x") ∷ row 2 (codes "y") ∷ [])) ≡ Ok (b.Insert 0 (row 1 (codes "x") ∷ row 2 (codes "y") ∷ []) [])
unfolding binding
inserts = refl

-- INSERT INTO note (body, id) VALUES ('x', 1)
in_order : bound site 0 (insert note (body ∷ id ∷ []) ((text (codes "x") ∷ int 1 ∷ []) ∷ [])) ≡ Ok (b.Insert 0 (row 1 (codes "x") ∷ []) [])
unfolding binding
in_order = refl

declassifies : bound site 1 (q.Insert note [] (row 1 (codes "x") ∷ []) (codes "b" ∷ codes "a" ∷ [])) ≡ Ok (b.Insert 0 (row 1 (codes "x") ∷ []) (0 ∷ 1 ∷ []))
unfolding binding
declassifies = refl

into_nothing : bound site 0 (insert (codes "nope") [] ((int 1 ∷ []) ∷ [])) ≡ Err fault.UnknownName
unfolding binding
into_nothing = refl

unknown_column : bound site 0 (insert note (id ∷ codes "nope" ∷ []) (row 1 [] ∷ [])) ≡ Err fault.UnknownName
unfolding binding
unknown_column = refl

unknown_tag : bound site 0 (q.Insert note [] ((int 1 ∷ []) ∷ []) (codes "nope" ∷ [])) ≡ Err fault.UnknownName
unfolding binding
unknown_tag = refl

into_view : bound site 0 (insert (codes "w") [] (row 1 [] ∷ [])) ≡ Err fault.NotATable
unfolding binding
into_view = refl

into_column_of_view : bound site 0 (insert (codes "w") (id ∷ []) ((int 1 ∷ []) ∷ [])) ≡ Err fault.NotATable
unfolding binding
into_column_of_view = refl

-- a column that the view doesn't have comes before
into_unknown_column_of_view : bound site 0 (insert (codes "w") (body ∷ []) ((int 1 ∷ []) ∷ [])) ≡ Err fault.UnknownName
unfolding binding
into_unknown_column_of_view = refl

column_twice : bound site 0 (insert note (id ∷ body ∷ id ∷ []) ((int 1 ∷ text [] ∷ int 1 ∷ []) ∷ [])) ≡ Err fault.TypeMismatch
unfolding binding
column_twice = refl

column_missing : bound site 0 (insert note (id ∷ []) ((int 1 ∷ []) ∷ [])) ≡ Err fault.TypeMismatch
unfolding binding
column_missing = refl

-- though all kinds fit
number_missing : bound site 0 (insert bill (id ∷ []) ((int 1 ∷ []) ∷ [])) ≡ Err fault.TypeMismatch
unfolding binding
number_missing = refl

short_row : bound site 0 (insert note [] (row 1 [] ∷ (int 2 ∷ []) ∷ [])) ≡ Err fault.TypeMismatch
unfolding binding
short_row = refl

long_row : bound site 0 (insert note [] ((int 1 ∷ text [] ∷ int 1 ∷ []) ∷ [])) ≡ Err fault.TypeMismatch
unfolding binding
long_row = refl

-- though each listed column has its value
long_listed_row : bound site 0 (insert note (body ∷ id ∷ []) ((text [] ∷ int 1 ∷ int 2 ∷ []) ∷ [])) ≡ Err fault.TypeMismatch
unfolding binding
long_listed_row = refl

short_listed_row : bound site 0 (insert note (body ∷ id ∷ []) ((text [] ∷ []) ∷ [])) ≡ Err fault.TypeMismatch
unfolding binding
short_listed_row = refl

other_kind : bound site 0 (insert note (body ∷ id ∷ []) (row 1 [] ∷ [])) ≡ Err fault.TypeMismatch
unfolding binding
other_kind = refl

-- ---- UPDATE

abbrev set : List ℕ → Expr → Assignment
set column x = record { column = column; expr = x }

abbrev update : List ℕ → List Assignment → Option Cond → Request
update table assignments found = q.Update table assignments found []

abbrev z : Expr
z = e.Literal (text (codes "z"))

abbrev id_is : ℕ → BoundCond
id_is n = bc.Compare (bo.Column (at 0 0)) how.Equal (bo.Literal (int n))

-- UPDATE note SET body = 'z' WHERE note.id = 1
updates : bound site 0 (update note (set body z ∷ []) (Some (equals (dotted note id) (int 1))))
    ≡ Ok (b.Update 0 (record { column = 1; expr = be.Literal (text (codes "z")) } ∷ []) (Some (id_is 1)) [])
unfolding binding
updates = refl

-- UPDATE bill SET pence = pence * 2 DECLASSIFYING (a)
computes : bound site 0 (q.Update bill (set pence (e.Mul (e.Column (bare pence)) (e.Literal (int 2))) ∷ []) None (codes "a" ∷ []))
    ≡ Ok (b.Update 1 (record { column = 1; expr = be.Mul (be.Column (at 0 1)) (be.Literal (int 2)) } ∷ []) None (0 ∷ []))
unfolding binding
computes = refl

-- UPDATE bill SET pence = pence - (id + 1)
subtracts : bound site 0 (update bill (set pence (e.Sub (e.Column (bare pence)) (e.Add (e.Column (bare id)) (e.Literal (int 1)))) ∷ []) None)
    ≡ Ok (b.Update 1 (record { column = 1; expr = be.Sub (be.Column (at 0 1)) (be.Add (be.Column (at 0 0)) (be.Literal (int 1))) } ∷ []) None [])
unfolding binding
subtracts = refl

unknown_table : bound site 0 (update (codes "nope") (set body z ∷ []) None) ≡ Err fault.UnknownName
unfolding binding
unknown_table = refl

unknown_assigned : bound site 0 (update note (set (codes "nope") z ∷ []) None) ≡ Err fault.UnknownName
unfolding binding
unknown_assigned = refl

unknown_within : bound site 0 (update note (set id (e.Column (bare (codes "nope"))) ∷ []) None) ≡ Err fault.UnknownName
unfolding binding
unknown_within = refl

unknown_condition : bound site 0 (update note (set id z ∷ []) (Some (equals (bare pence) (int 1)))) ≡ Err fault.UnknownName
unfolding binding
unknown_condition = refl

update_view : bound site 0 (update (codes "w") (set id z ∷ []) None) ≡ Err fault.NotATable
unfolding binding
update_view = refl

-- the primary key comes before the kind
key_assigned : bound site 0 (update note (set body (e.Literal (int 1)) ∷ set id z ∷ []) None) ≡ Err fault.KeyColumn
unfolding binding
key_assigned = refl

assigned_twice : bound site 0 (update note (set body z ∷ set body z ∷ []) None) ≡ Err fault.TypeMismatch
unfolding binding
assigned_twice = refl

other_kind_assigned : bound site 0 (update note (set body (e.Column (bare id)) ∷ []) None) ≡ Err fault.TypeMismatch
unfolding binding
other_kind_assigned = refl

other_kind_compared : bound site 0 (update note (set body z ∷ []) (Some (equals (bare id) (text [])))) ≡ Err fault.TypeMismatch
unfolding binding
other_kind_compared = refl

-- ---- DELETE

deletes : bound site 0 (q.Delete note (Some (equals (bare id) (int 1))))
    ≡ Ok (b.Delete 0 (Some (bc.Compare (bo.Column (at 0 0)) how.Equal (bo.Literal (int 1)))))
unfolding binding
deletes = refl

deletes_all : bound site 0 (q.Delete bill None) ≡ Ok (b.Delete 1 None)
unfolding binding
deletes_all = refl

delete_from_nothing : bound site 0 (q.Delete (codes "nope") None) ≡ Err fault.UnknownName
unfolding binding
delete_from_nothing = refl

delete_by_unknown : bound site 0 (q.Delete (codes "w") (Some (equals (bare body) (int 1)))) ≡ Err fault.UnknownName
unfolding binding
delete_by_unknown = refl

delete_from_view : bound site 0 (q.Delete (codes "w") (Some (equals (bare id) (text [])))) ≡ Err fault.NotATable
unfolding binding
delete_from_view = refl

delete_by_kind : bound site 0 (q.Delete note (Some (equals (bare id) (text [])))) ≡ Err fault.TypeMismatch
unfolding binding
delete_by_kind = refl
