-- What expressions give of clean values is clean, and clean rows are lines.
use Rattle.std.proofs.Common.{◌≡◌, ℕ, ℤ, Bool, true, false, List, [], refl, sym, ap, ◌∙◌, cond, Some, None, Option, ◌+ℤ◌, ◌-ℤ◌, ◌*ℤ◌}
use Rattle.std.specs.Prelude.{map, slice_index_or}
use Rattle.std.specs.List.{list_all}
use Rattle.ifdb_value.specs.declared.value.Value.{Value}
use Rattle.ifdb_value.specs.declared.value.Value.TheVariants as value
use Rattle.ifdb_bound.specs.declared.expression.BoundColumn.{BoundColumn}
use Rattle.ifdb_bound.specs.declared.expression.BoundExpr.{BoundExpr}
use Rattle.ifdb_bound.specs.Expressions.{no_value, value_at, column_value, is_in_range, operate_on, operate, in_range, value_of}
use Rattle.ifdb_bound.proofs.Meanings.{value_of-Column, value_of-Literal, value_of-Add, value_of-Sub, value_of-Mul}
use Rattle.ifdb_bound.proofs.BoundExprs.{each_bound_expr}
use Rattle.ifdb_wire.specs.Text.{value_text, row_text}
use Rattle.ifdb_laws.specs.Bytes.{is_line}
use Rattle.ifdb_framing.proofs.Lists.{all_map, at_or}
use Rattle.ifdb_framing.proofs.Lines.{signed_line, escaped_line, tabbed_line}
use Rattle.ifdb_framing.proofs.Clean.{is_clean, are_clean, if_there, is_clean_bound, bound-Literal}

-- ---- lines

value_line : (v : Value) → is_clean v ≡ true → is_line (value_text v) ≡ true
value_line value.Null h = refl
value_line (value.Int n) h = signed_line n
value_line (value.Text text) h = escaped_line text h

pub row_line : (values : List Value) → are_clean values ≡ true → is_line (row_text values) ≡ true
row_line values h = tabbed_line (map value_text values) (all_map is_clean is_line value_text values value_line h)

-- ---- values

pub value_at_clean : (values : List Value) (i : ℕ) → are_clean values ≡ true → is_clean (value_at values i) ≡ true
value_at_clean values i h = at_or is_clean no_value values i refl h

pub column_clean : (rows : List (List Value)) (c : BoundColumn) → list_all are_clean rows ≡ true → is_clean (column_value rows c) ≡ true
column_clean rows c h = value_at_clean (slice_index_or rows c.source []) c.column (at_or are_clean [] rows c.source refl h)

range_clean : (b : Bool) (n : ℤ) → if_there is_clean (cond b (Some (value.Int n)) None) ≡ true
range_clean true n = refl
range_clean false n = refl

pub in_range_clean : (n : ℤ) → if_there is_clean (in_range n) ≡ true
in_range_clean n = range_clean (is_in_range n) n

operate_on_clean : (f : ℤ → ℤ → ℤ) (a b : Value) → if_there is_clean (operate_on f a b) ≡ true
operate_on_clean f value.Null b = refl
operate_on_clean f (value.Int m) value.Null = refl
operate_on_clean f (value.Int m) (value.Int n) = in_range_clean (f m n)
operate_on_clean f (value.Int m) (value.Text t) = refl
operate_on_clean f (value.Text s) value.Null = refl
operate_on_clean f (value.Text s) (value.Int n) = refl
operate_on_clean f (value.Text s) (value.Text t) = refl

operate_clean : (f : ℤ → ℤ → ℤ) (a b : Option Value) → if_there is_clean (operate f a b) ≡ true
operate_clean f None b = refl
operate_clean f (Some a) None = refl
operate_clean f (Some a) (Some b) = operate_on_clean f a b

module _ (rows : List (List Value)) (all : list_all are_clean rows ≡ true) where
  abbrev GivesClean : BoundExpr → Type 0
  GivesClean x = is_clean_bound x ≡ true → if_there is_clean (value_of rows x) ≡ true

  pub value_clean : (x : BoundExpr) → GivesClean x
  value_clean = each_bound_expr GivesClean (record {
    column = λ c h. ap (if_there is_clean) (value_of-Column rows c) ∙ column_clean rows c all;
    literal = λ v h. ap (if_there is_clean) (value_of-Literal rows v) ∙ (sym (bound-Literal v) ∙ h);
    add = λ a b p q h. ap (if_there is_clean) (value_of-Add rows a b) ∙ operate_clean ◌+ℤ◌ (value_of rows a) (value_of rows b);
    sub = λ a b p q h. ap (if_there is_clean) (value_of-Sub rows a b) ∙ operate_clean ◌-ℤ◌ (value_of rows a) (value_of rows b);
    mul = λ a b p q h. ap (if_there is_clean) (value_of-Mul rows a b) ∙ operate_clean ◌*ℤ◌ (value_of rows a) (value_of rows b);
  })
