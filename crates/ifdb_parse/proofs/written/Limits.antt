-- A bounded reader keeps a tree within the limits, or makes one that passes them.
use Rattle.std.proofs.Common.{◌≡◌, ◌+◌, ◌≤◌, min, Bool, true, false, List, [], ◌∷◌, map, refl, sym, ap, ◌∙◌, arith}
use Rattle.std.specs.Prelude.{◌||◌, nat_lt, if◌then◌else◌}
use Rattle.std.specs.List.{list_any, list_all}
use Rattle.std.proofs.lemmas.Bool.{and_parts, or_parts}
use Rattle.std.proofs.lemmas.Bool.Decides.{nat_tests}
use Rattle.std.proofs.lemmas.List.{length-map}
use Rattle.ifdb_syntax.specs.declared.expression.Expr.{Expr}
use Rattle.ifdb_syntax.specs.declared.expression.Expr.TheVariants as e
use Rattle.ifdb_syntax.specs.declared.select.Select.{Select}
use Rattle.ifdb_syntax.specs.declared.select.Item.{Item}
use Rattle.ifdb_syntax.specs.declared.select.Item.TheVariants as i
use Rattle.ifdb_syntax.specs.declared.request.Request.{Request}
use Rattle.ifdb_syntax.specs.declared.request.Request.TheVariants as q
use Rattle.ifdb_syntax.specs.declared.request.Assignment.{Assignment}
use Rattle.ifdb_syntax.specs.Reading.{operators, joined}
use Rattle.ifdb_syntax.specs.Bounded.{bounded_value, bounded_expr, bounded_item, bounded_select, bounded_assignment, bounded_request}
use Rattle.ifdb_syntax.specs.Within.{select_fits, request_fits, expr_short, item_short, select_short, assignment_short, request_short}
use Rattle.ifdb_syntax.proofs.BoundedLine.{bounded-Column, bounded-Literal, bounded-Add, bounded-Sub, bounded-Mul}
use Rattle.ifdb_syntax.proofs.ByForm.{each_expr}
use Rattle.ifdb_syntax.proofs.Within.{within_is_kept}
use Rattle.ifdb_parse.specs.Numbers.{order_fits, numbers_fit}
use Rattle.ifdb_parse.specs.TreeLimits.{exceeds_list, exceeds_len, exceeds_expr, exceeds_item, exceeds_select, exceeds_assignment, exceeds_request}
use Rattle.ifdb_parse.proofs.Operators.{operators-Column, operators-Literal, operators-Add, operators-Sub, operators-Mul}

-- ---- operators

at_most : (x : Expr) → operators x ≤ 65
at_most = each_expr (λ x. operators x ≤ 65) (record {
  column = λ x. let n = operators-Column x in omega arith;
  literal = λ v. let n = operators-Literal v in omega arith;
  add = λ a b ha hb. let n = operators-Add a b in omega arith;
  sub = λ a b ha hb. let n = operators-Sub a b in omega arith;
  mul = λ a b ha hb. let n = operators-Mul a b in omega arith;
})

joined_operators : (op : Expr → Expr → Expr) → ((a b : Expr) → operators (op a b) ≡ min 65 (operators a + operators b + 1)) → (a b : Expr) → operators (joined op a b) ≡ min 65 (operators a + operators b + 1)
unfolding joined
joined_operators op form a b = first (nat_lt 64 (operators a)) refl
  where
    second : (test : Bool) → nat_lt 64 (operators b) ≡ test → operators (if test then b else op a b) ≡ min 65 (operators a + operators b + 1)
    second true h = let n = at_most b in grind (arith, nat_tests)
    second false h = form a b

    first : (test : Bool) → nat_lt 64 (operators a) ≡ test → operators (if test then a else (if nat_lt 64 (operators b) then b else op a b)) ≡ min 65 (operators a + operators b + 1)
    first true h = let n = at_most a in grind (arith, nat_tests)
    first false h = second (nat_lt 64 (operators b)) refl

abbrev Same : Expr → Type 0
Same x = operators (bounded_expr x) ≡ operators x

node_same : (op : Expr → Expr → Expr) → ((a b : Expr) → operators (op a b) ≡ min 65 (operators a + operators b + 1)) → ((a b : Expr) → bounded_expr (op a b) ≡ joined op (bounded_expr a) (bounded_expr b)) → (a b : Expr) → Same a → Same b → Same (op a b)
node_same op form bound a b ha hb =
    ap operators (bound a b) ∙ joined_operators op form (bounded_expr a) (bounded_expr b) ∙ rw (ha, hb) (sym (form a b))

same_operators : (x : Expr) → Same x
same_operators = each_expr Same (record {
  column = λ x. ap operators (bounded-Column x);
  literal = λ v. ap operators (bounded-Literal v) ∙ operators-Literal (bounded_value v) ∙ sym (operators-Literal v);
  add = node_same e.Add operators-Add bounded-Add;
  sub = node_same e.Sub operators-Sub bounded-Sub;
  mul = node_same e.Mul operators-Mul bounded-Mul;
})

-- ---- the limits of a bounded tree are those of the written one

any_same : {A : Type 0} (f : A → A) (p : A → Bool) → ((x : A) → p (f x) ≡ p x) → (xs : List A) → list_any p (map f xs) ≡ list_any p xs
any_same f p h [] = refl
any_same f p h (x ∷ xs) = rw (h x, any_same f p h xs) refl

list_same : {A B : Type 0} (f : A → B) (xs : List A) → exceeds_list (map f xs) ≡ exceeds_list xs
list_same f xs = ap (nat_lt 64) (length-map xs f)

item_same : (x : Item) → exceeds_item (bounded_item x) ≡ exceeds_item x
item_same (i.Expr x name) = ap (nat_lt 64) (same_operators x)
item_same i.All = refl
item_same (i.LabelOf source name) = refl
item_same (i.CountAll name) = refl
item_same (i.Sum column name) = refl
item_same (i.Min column name) = refl
item_same (i.Max column name) = refl

select_same : (s : Select) → exceeds_select (bounded_select s) ≡ exceeds_select s
select_same s = rw (list_same bounded_item s.items, any_same bounded_item exceeds_item item_same s.items) refl

assignment_same : (a : Assignment) → exceeds_assignment (bounded_assignment a) ≡ exceeds_assignment a
assignment_same a = ap (nat_lt 64) (same_operators a.expr)

pub exceeds_same : (r : Request) → exceeds_request (bounded_request r) ≡ exceeds_request r
exceeds_same (q.CreateView name select tags) = rw (select_same select) refl
exceeds_same (q.Select select) = select_same select
exceeds_same (q.Insert table columns rows tags) =
    rw (length-map rows (map bounded_value), any_same (map bounded_value) exceeds_list (list_same bounded_value) rows) refl
exceeds_same (q.Update table assignments cond tags) =
    rw (list_same bounded_assignment assignments, any_same bounded_assignment exceeds_assignment assignment_same assignments) refl
exceeds_same (q.Delete table cond) = refl
exceeds_same (q.Hello name key) = refl
exceeds_same (q.CreatePrincipal name key clearance) = refl
exceeds_same (q.CreateTag name compound parents) = refl
exceeds_same (q.CreateTable name columns key foreign) = refl
exceeds_same (q.Grant tag to) = refl
exceeds_same (q.Revoke tag from) = refl
exceeds_same (q.SetLabel tags) = refl
exceeds_same q.ShowLabel = refl
exceeds_same q.Begin = refl
exceeds_same q.Commit = refl
exceeds_same q.Rollback = refl
exceeds_same q.Bye = refl

-- ---- a tree within the limits is kept

all_none : {A : Type 0} (p r : A → Bool) → ((x : A) → p x ≡ false → r x ≡ true) → (xs : List A) → list_any p xs ≡ false → list_all r xs ≡ true
all_none p r h [] e = refl
all_none p r h (x ∷ xs) e =
    let parts = or_parts (p x) (list_any p xs) e in
    rw (h x parts.0) (all_none p r h xs parts.1)

expr_short_of : (x : Expr) → exceeds_expr x ≡ false → expr_short x ≡ true
expr_short_of x h = grind (arith, nat_tests)

item_short_of : (x : Item) → exceeds_item x ≡ false → item_short x ≡ true
item_short_of (i.Expr x name) h = expr_short_of x h
item_short_of i.All h = refl
item_short_of (i.LabelOf source name) h = refl
item_short_of (i.CountAll name) h = refl
item_short_of (i.Sum column name) h = refl
item_short_of (i.Min column name) h = refl
item_short_of (i.Max column name) h = refl

-- the last of several tests
last_of : (a b : Bool) → (a || b) ≡ false → b ≡ false
last_of a b h = (or_parts a b h).1

select_short_of : (s : Select) → exceeds_select s ≡ false → select_short s ≡ true
select_short_of s h =
    all_none exceeds_item item_short item_short_of s.items
    (go (exceeds_list s.items) (exceeds_len 4 s.sources) (exceeds_list s.group) (exceeds_list s.order) (list_any exceeds_item s.items) h)
  where
    go : (a b c d x : Bool) → (a || b || c || d || x) ≡ false → x ≡ false
    go true b c d x h = absurd cc
    go false true c d x h = absurd cc
    go false false true d x h = absurd cc
    go false false false true x h = absurd cc
    go false false false false x h = h

request_short_of : (r : Request) → exceeds_request r ≡ false → request_short r ≡ true
request_short_of (q.CreateView name select tags) h = select_short_of select (or_parts (exceeds_select select) (exceeds_list tags) h).0
request_short_of (q.Select select) h = select_short_of select h
request_short_of (q.Update table assignments cond tags) h =
    all_none exceeds_assignment assignment_short (λ a. expr_short_of a.expr) assignments
    (go (exceeds_list assignments) (exceeds_list tags) (list_any exceeds_assignment assignments) h)
  where
    go : (a b x : Bool) → (a || b || x) ≡ false → x ≡ false
    go true b x h = absurd cc
    go false true x h = absurd cc
    go false false x h = h
request_short_of (q.Insert table columns rows tags) h = refl
request_short_of (q.Delete table cond) h = refl
request_short_of (q.Hello name key) h = refl
request_short_of (q.CreatePrincipal name key clearance) h = refl
request_short_of (q.CreateTag name compound parents) h = refl
request_short_of (q.CreateTable name columns key foreign) h = refl
request_short_of (q.Grant tag to) h = refl
request_short_of (q.Revoke tag from) h = refl
request_short_of (q.SetLabel tags) h = refl
request_short_of q.ShowLabel h = refl
request_short_of q.Begin h = refl
request_short_of q.Commit h = refl
request_short_of q.Rollback h = refl
request_short_of q.Bye h = refl

request_fits_of : (r : Request) → numbers_fit r ≡ true → request_fits r ≡ true
request_fits_of (q.Select select) h = (and_parts (select_fits select) (list_all order_fits select.order) h).0
request_fits_of (q.CreateView name select tags) h = h
request_fits_of (q.Insert table columns rows tags) h = h
request_fits_of (q.Update table assignments cond tags) h = h
request_fits_of (q.Delete table cond) h = h
request_fits_of (q.Hello name key) h = refl
request_fits_of (q.CreatePrincipal name key clearance) h = refl
request_fits_of (q.CreateTag name compound parents) h = refl
request_fits_of (q.CreateTable name columns key foreign) h = refl
request_fits_of (q.Grant tag to) h = refl
request_fits_of (q.Revoke tag from) h = refl
request_fits_of (q.SetLabel tags) h = refl
request_fits_of q.ShowLabel h = refl
request_fits_of q.Begin h = refl
request_fits_of q.Commit h = refl
request_fits_of q.Rollback h = refl
request_fits_of q.Bye h = refl

pub kept : (r : Request) → numbers_fit r ≡ true → exceeds_request r ≡ false → bounded_request r ≡ r
kept r h k = within_is_kept r (request_fits_of r h) (request_short_of r k)
