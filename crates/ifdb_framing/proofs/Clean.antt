-- What is clean: nothing of it that a reply can show holds a newline.
use Rattle.std.proofs.Common.{◌≡◌, Bool, true, refl, List, ◌&&◌, Some, None, Option, Ok, Err, Result}
use Rattle.std.specs.Prelude.{option_to_list}
use Rattle.std.specs.List.{list_all}
use Rattle.ifdb_value.specs.declared.value.Value.{Value}
use Rattle.ifdb_value.specs.declared.value.Value.TheVariants as value
use Rattle.ifdb_row.specs.declared.row.Row.{Row}
use Rattle.ifdb_row.specs.declared.write.Write.{Write}
use Rattle.ifdb_syntax.specs.declared.expression.ColumnRef.{ColumnRef}
use Rattle.ifdb_syntax.specs.declared.expression.Expr.{Expr}
use Rattle.ifdb_syntax.specs.declared.expression.Expr.TheVariants as e
use Rattle.ifdb_syntax.specs.declared.expression.Expr.TheOpen.{Expr-F}
use Rattle.ifdb_syntax.specs.declared.select.Select.{Select}
use Rattle.ifdb_syntax.specs.declared.select.Item.{Item}
use Rattle.ifdb_syntax.specs.declared.select.Item.TheVariants as i
use Rattle.ifdb_syntax.specs.declared.request.Assignment.{Assignment}
use Rattle.ifdb_syntax.specs.declared.request.Request.{Request}
use Rattle.ifdb_syntax.specs.declared.request.Request.TheVariants as q
use Rattle.ifdb_bound.specs.declared.expression.BoundColumn.{BoundColumn}
use Rattle.ifdb_bound.specs.declared.expression.BoundExpr.{BoundExpr}
use Rattle.ifdb_bound.specs.declared.expression.BoundExpr.TheVariants as be
use Rattle.ifdb_bound.specs.declared.expression.BoundExpr.TheOpen.{BoundExpr-F}
use Rattle.ifdb_bound.specs.declared.select.BoundItem.{BoundItem}
use Rattle.ifdb_bound.specs.declared.select.BoundItem.TheVariants as item
use Rattle.ifdb_bound.specs.declared.select.BoundSelect.{BoundSelect}
use Rattle.ifdb_bound.specs.declared.schema.ViewDef.{ViewDef}
use Rattle.ifdb_bound.specs.declared.request.Bound.{Bound}
use Rattle.ifdb_bound.specs.declared.request.Bound.TheVariants as bound
use Rattle.ifdb_bound.specs.declared.request.BoundAssignment.{BoundAssignment}
use Rattle.ifdb_bound.specs.declared.request.Change.{Change}
use Rattle.ifdb_bound.specs.declared.request.Change.TheVariants as change
use Rattle.ifdb_bound.specs.Folds as bound_folds
use Rattle.ifdb_bound.specs.Query.{SourceRow}
use Rattle.ifdb_wire.specs.declared.fault.Fault.{Fault}
use Rattle.ifdb_wire.specs.declared.reply.Reply.{Reply}
use Rattle.ifdb_wire.specs.Text.{reply_lines}
use Rattle.ifdb_catalog.specs.Folds.{fold_expr}
use Rattle.ifdb_catalog.specs.Public.{Public, KnownTag}
use Rattle.ifdb_model.specs.Log.{Entry, changes, commits}
use Rattle.ifdb_laws.specs.Bytes.{is_line}

-- ---- values and rows

-- NULL, a number, or a text without a newline
abbrev pub is_clean : Value → Bool
is_clean value.Null = true
is_clean (value.Int n) = true
is_clean (value.Text text) = is_line text

abbrev pub are_clean : List Value → Bool
are_clean values = list_all is_clean values

-- nothing, or what passes
abbrev pub if_there : {X : Type 0} → (X → Bool) → Option X → Bool
if_there p None = true
if_there p (Some x) = p x

abbrev pub is_clean_row : Row → Bool
is_clean_row r = are_clean r.values

abbrev pub is_clean_write : Write → Bool
is_clean_write w = list_all is_clean_row (option_to_list w.row)

abbrev pub is_clean_source : SourceRow → Bool
is_clean_source r = are_clean r.values

-- ---- requests: the names of tags, and the literals of items, rows and assignments

abbrev pub literals_step : Expr-F Bool → Bool
literals_step (Expr-F.Column c) = true
literals_step (Expr-F.Literal v) = is_clean v
literals_step (Expr-F.Add a b) = a && b
literals_step (Expr-F.Sub a b) = a && b
literals_step (Expr-F.Mul a b) = a && b

-- each literal of the expression is clean
pub is_clean_expr : Expr → Bool
is_clean_expr = fold_expr Bool literals_step

pub clean-Column : (c : ColumnRef) → is_clean_expr (e.Column c) ≡ true
unfolding is_clean_expr fold_expr
clean-Column c = refl

pub clean-Literal : (v : Value) → is_clean_expr (e.Literal v) ≡ is_clean v
unfolding is_clean_expr fold_expr
clean-Literal v = refl

pub clean-Add : (a b : Expr) → is_clean_expr (e.Add a b) ≡ is_clean_expr a && is_clean_expr b
unfolding is_clean_expr fold_expr
clean-Add a b = refl

pub clean-Sub : (a b : Expr) → is_clean_expr (e.Sub a b) ≡ is_clean_expr a && is_clean_expr b
unfolding is_clean_expr fold_expr
clean-Sub a b = refl

pub clean-Mul : (a b : Expr) → is_clean_expr (e.Mul a b) ≡ is_clean_expr a && is_clean_expr b
unfolding is_clean_expr fold_expr
clean-Mul a b = refl

abbrev pub is_clean_item : Item → Bool
is_clean_item (i.Expr x name) = is_clean_expr x
is_clean_item _ = true

abbrev pub is_clean_select : Select → Bool
is_clean_select s = list_all is_clean_item s.items

abbrev pub is_clean_assignment : Assignment → Bool
is_clean_assignment a = is_clean_expr a.expr

abbrev pub is_clean_request : Request → Bool
is_clean_request (q.CreateTag name compound parents) = is_line name
is_clean_request (q.CreateView name select tags) = is_clean_select select
is_clean_request (q.Select select) = is_clean_select select
is_clean_request (q.Insert table columns rows tags) = list_all are_clean rows
is_clean_request (q.Update table assignments cond tags) = list_all is_clean_assignment assignments
is_clean_request _ = true

-- a fault, or a clean request
abbrev pub reads_clean : Result Request Fault → Bool
reads_clean (Ok r) = is_clean_request r
reads_clean (Err f) = true

-- ---- the same with numbers for names

abbrev pub bound_literals_step : BoundExpr-F Bool → Bool
bound_literals_step (BoundExpr-F.Column c) = true
bound_literals_step (BoundExpr-F.Literal v) = is_clean v
bound_literals_step (BoundExpr-F.Add a b) = a && b
bound_literals_step (BoundExpr-F.Sub a b) = a && b
bound_literals_step (BoundExpr-F.Mul a b) = a && b

-- each literal of the expression is clean
pub is_clean_bound : BoundExpr → Bool
is_clean_bound = bound_folds.fold_expr Bool bound_literals_step

pub bound-Column : (c : BoundColumn) → is_clean_bound (be.Column c) ≡ true
unfolding is_clean_bound bound_folds.fold_expr
bound-Column c = refl

pub bound-Literal : (v : Value) → is_clean_bound (be.Literal v) ≡ is_clean v
unfolding is_clean_bound bound_folds.fold_expr
bound-Literal v = refl

pub bound-Add : (a b : BoundExpr) → is_clean_bound (be.Add a b) ≡ is_clean_bound a && is_clean_bound b
unfolding is_clean_bound bound_folds.fold_expr
bound-Add a b = refl

pub bound-Sub : (a b : BoundExpr) → is_clean_bound (be.Sub a b) ≡ is_clean_bound a && is_clean_bound b
unfolding is_clean_bound bound_folds.fold_expr
bound-Sub a b = refl

pub bound-Mul : (a b : BoundExpr) → is_clean_bound (be.Mul a b) ≡ is_clean_bound a && is_clean_bound b
unfolding is_clean_bound bound_folds.fold_expr
bound-Mul a b = refl

abbrev pub is_clean_bound_item : BoundItem → Bool
is_clean_bound_item (item.Expr x) = is_clean_bound x
is_clean_bound_item _ = true

abbrev pub is_clean_query : BoundSelect → Bool
is_clean_query s = list_all is_clean_bound_item s.items

abbrev pub is_clean_view : ViewDef → Bool
is_clean_view v = is_clean_query v.select

abbrev pub is_clean_set : BoundAssignment → Bool
is_clean_set a = is_clean_bound a.expr

abbrev pub is_clean_change : Change → Bool
is_clean_change (change.Tag asker name kind parents) = is_line name
is_clean_change (change.View view) = is_clean_view view
is_clean_change _ = true

abbrev pub is_clean_tree : Bound → Bool
is_clean_tree (bound.Change c) = is_clean_change c
is_clean_tree (bound.Select s) = is_clean_query s
is_clean_tree (bound.Insert t rows given) = list_all are_clean rows
is_clean_tree (bound.Update t sets cond given) = list_all is_clean_set sets
is_clean_tree _ = true

-- a refusal, or a clean tree
abbrev pub binds_clean : Result Bound Fault → Bool
binds_clean (Ok b) = is_clean_tree b
binds_clean (Err f) = true

-- ---- states

abbrev pub is_clean_tag : KnownTag → Bool
is_clean_tag t = is_line t.name

-- the names of tags, and the items of views
abbrev pub is_clean_public : Public → Bool
is_clean_public p = list_all is_clean_tag p.tags && list_all is_clean_view p.views

abbrev pub is_clean_entry : Entry → Bool
is_clean_entry (changes c) = is_clean_change c
is_clean_entry (commits ws) = list_all is_clean_write ws

-- no line of the reply holds a newline
abbrev pub is_framed_reply : Reply → Bool
is_framed_reply r = list_all is_line (reply_lines r)
