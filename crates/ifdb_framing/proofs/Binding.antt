-- A clean request is bound as a clean tree.
use Rattle.std.proofs.Common.{◌≡◌, ℕ, true, List, [], ◌∷◌, refl, sym, ap, ◌∙◌, ◌&&◌, Ok, Err, Result}
use Rattle.std.specs.Prelude.{map}
use Rattle.std.specs.List.{list_all}
use Rattle.ifdb_catalog.proofs.Tests.{both_of}
use Rattle.ifdb_value.specs.declared.value.Value.{Value}
use Rattle.ifdb_value.specs.declared.column.Column.{Column}
use Rattle.ifdb_syntax.specs.declared.expression.Expr.{Expr}
use Rattle.ifdb_syntax.specs.declared.select.Select.{Select}
use Rattle.ifdb_syntax.specs.declared.select.Item.{Item}
use Rattle.ifdb_syntax.specs.declared.select.Item.TheVariants as i
use Rattle.ifdb_syntax.specs.declared.request.Assignment.{Assignment}
use Rattle.ifdb_syntax.specs.declared.request.Request.{Request}
use Rattle.ifdb_syntax.specs.declared.request.Request.TheVariants as q
use Rattle.ifdb_syntax.proofs.ByForm.{each_expr}
use Rattle.ifdb_bound.specs.declared.expression.BoundExpr.TheVariants as be
use Rattle.ifdb_bound.specs.declared.expression.BoundColumn.{BoundColumn}
use Rattle.ifdb_bound.specs.declared.select.BoundItem.TheVariants as bi
use Rattle.ifdb_bound.specs.declared.request.Bound.{Bound}
use Rattle.ifdb_bound.specs.Expressions.{value_at}
use Rattle.ifdb_wire.specs.declared.fault.Fault.{Fault}
use Rattle.ifdb_catalog.specs.Public.{Public}
use Rattle.ifdb_catalog.specs.Scope.{Scope, column_at, scope_of, table_scope}
use Rattle.ifdb_catalog.specs.Terms.{bound_expr}
use Rattle.ifdb_catalog.specs.Queries.{all_from, bound_item, bound_select}
use Rattle.ifdb_catalog.specs.Statements.{columns_named, listed_at, arranged, bound_assignment}
use Rattle.ifdb_catalog.specs.Binding.{bound}
use Rattle.ifdb_catalog.proofs.Forms.{bound_expr-Column, bound_expr-Literal, bound_expr-Add, bound_expr-Sub, bound_expr-Mul}
use Rattle.ifdb_catalog.proofs.Judging.{accepted}
use Rattle.ifdb_framing.proofs.Lists.{all_map, all_flat_map, each_map}
use Rattle.ifdb_framing.proofs.Clean.{is_clean, are_clean, is_clean_expr, clean-Column, clean-Literal, clean-Add, clean-Sub, clean-Mul, is_clean_item, is_clean_select, is_clean_assignment, is_clean_request, is_clean_bound, bound-Column, bound-Literal, bound-Add, bound-Sub, bound-Mul, is_clean_bound_item, is_clean_query, is_clean_set, is_clean_tree, binds_clean}
use Rattle.ifdb_framing.proofs.Values.{value_at_clean}

module _ (scope : Scope) where
  -- an expression has the literals that it had
  abbrev KeepsLiterals : Expr → Type 0
  KeepsLiterals x = is_clean_bound (bound_expr scope x) ≡ is_clean_expr x

  keeps_literals : (x : Expr) → KeepsLiterals x
  keeps_literals = each_expr KeepsLiterals (record {
    column = λ c. ap is_clean_bound (bound_expr-Column scope c) ∙ bound-Column (column_at scope c) ∙ sym (clean-Column c);
    literal = λ v. ap is_clean_bound (bound_expr-Literal scope v) ∙ bound-Literal v ∙ sym (clean-Literal v);
    add = λ x y h k. ap is_clean_bound (bound_expr-Add scope x y) ∙ bound-Add (bound_expr scope x) (bound_expr scope y) ∙ (λ j. h j && k j) ∙ sym (clean-Add x y);
    sub = λ x y h k. ap is_clean_bound (bound_expr-Sub scope x y) ∙ bound-Sub (bound_expr scope x) (bound_expr scope y) ∙ (λ j. h j && k j) ∙ sym (clean-Sub x y);
    mul = λ x y h k. ap is_clean_bound (bound_expr-Mul scope x y) ∙ bound-Mul (bound_expr scope x) (bound_expr scope y) ∙ (λ j. h j && k j) ∙ sym (clean-Mul x y);
  })

  expr_clean : (x : Expr) → is_clean_expr x ≡ true → is_clean_bound (bound_expr scope x) ≡ true
  expr_clean x h = keeps_literals x ∙ h

  item_clean : (x : Item) → is_clean_item x ≡ true → list_all is_clean_bound_item (bound_item scope x) ≡ true
  item_clean i.All h = each_map is_clean_bound_item (λ (c : BoundColumn). bi.Expr (be.Column c)) (all_from 0 scope) bound-Column
  item_clean (i.Expr x name) h = both_of (is_clean_bound (bound_expr scope x)) true (expr_clean x h) refl
  item_clean (i.LabelOf source name) h = refl
  item_clean (i.CountAll name) h = refl
  item_clean (i.Sum c name) h = refl
  item_clean (i.Min c name) h = refl
  item_clean (i.Max c name) h = refl

  query_clean : (p : Public) (s : Select) → is_clean_select s ≡ true → is_clean_query (bound_select p scope s) ≡ true
  query_clean p s h = all_flat_map is_clean_item is_clean_bound_item (bound_item scope) s.items item_clean h

  sets_clean : (columns : List Column) (sets : List Assignment) → list_all is_clean_assignment sets ≡ true → list_all is_clean_set (map (bound_assignment columns scope) sets) ≡ true
  sets_clean columns sets h = all_map is_clean_assignment is_clean_set (bound_assignment columns scope) sets (λ a e. expr_clean a.expr e) h

arranged_clean : (columns : List Column) (names : List (List ℕ)) (row : List Value) → are_clean row ≡ true → are_clean (arranged columns names row) ≡ true
arranged_clean columns [] row h = h
arranged_clean columns (n ∷ names) row h =
    each_map is_clean (λ (c : Column). value_at row (listed_at (n ∷ names) c.name)) columns (λ c. value_at_clean row (listed_at (n ∷ names) c.name) h)

pub bound_clean : (p : Public) (asker : ℕ) (r : Request) (x : Bound) → is_clean_request r ≡ true → bound p asker r ≡ Ok x → is_clean_tree x ≡ true
unfolding bound
bound_clean p asker (q.CreatePrincipal name key clearance) x h e = accepted is_clean_tree _ _ x e (λ k. refl)
bound_clean p asker (q.CreateTag name compound parents) x h e = accepted is_clean_tree _ _ x e (λ k. h)
bound_clean p asker (q.CreateTable name columns key foreign) x h e = accepted is_clean_tree _ _ x e (λ k. refl)
bound_clean p asker (q.CreateView name s tags) x h e = accepted is_clean_tree _ _ x e (λ k. query_clean (scope_of p s.sources) p s h)
bound_clean p asker (q.Grant tag to) x h e = accepted is_clean_tree _ _ x e (λ k. refl)
bound_clean p asker (q.Revoke tag from) x h e = accepted is_clean_tree _ _ x e (λ k. refl)
bound_clean p asker (q.SetLabel tags) x h e = accepted is_clean_tree _ _ x e (λ k. refl)
bound_clean p asker (q.Select s) x h e = accepted is_clean_tree _ _ x e (λ k. query_clean (scope_of p s.sources) p s h)
bound_clean p asker (q.Insert table names rows tags) x h e =
    accepted is_clean_tree _ _ x e (λ k. all_map are_clean are_clean (arranged (columns_named p table) names) rows (arranged_clean (columns_named p table) names) h)
bound_clean p asker (q.Update table sets found tags) x h e = accepted is_clean_tree _ _ x e (λ k. sets_clean (table_scope p table) (columns_named p table) sets h)
bound_clean p asker (q.Delete table found) x h e = accepted is_clean_tree _ _ x e (λ k. refl)
bound_clean p asker (q.Hello name key) x h e = ap binds_clean (sym e)
bound_clean p asker q.ShowLabel x h e = ap binds_clean (sym e)
bound_clean p asker q.Begin x h e = ap binds_clean (sym e)
bound_clean p asker q.Commit x h e = ap binds_clean (sym e)
bound_clean p asker q.Rollback x h e = ap binds_clean (sym e)
bound_clean p asker q.Bye x h e = ap binds_clean (sym e)

result_clean : (p : Public) (asker : ℕ) (r : Request) → is_clean_request r ≡ true → (o : Result Bound Fault) → bound p asker r ≡ o → binds_clean o ≡ true
result_clean p asker r h (Err f) e = refl
result_clean p asker r h (Ok x) e = bound_clean p asker r x h e

-- a clean request is refused, or bound as a clean tree
pub binding_clean : (p : Public) (asker : ℕ) (r : Request) → is_clean_request r ≡ true → binds_clean (bound p asker r) ≡ true
binding_clean p asker r h = result_clean p asker r h (bound p asker r) refl
