-- decides: the grammar
-- The limits that the lexemes of a line and its tree keep.
use Rattle.std.specs.Prelude.{ℕ, ◌^◌, Bool, false, ◌||◌, ◌==◌, nat_lt, List, [], ◌∷◌, length, Option, Some, None}
use Rattle.std.specs.List.{list_any}
use Rattle.ifdb_syntax.specs.declared.lexeme.Lexeme.{Lexeme}
use Rattle.ifdb_syntax.specs.declared.lexeme.Lexeme.TheVariants as t
use Rattle.ifdb_syntax.specs.declared.expression.Expr.{Expr}
use Rattle.ifdb_syntax.specs.declared.select.Select.{Select}
use Rattle.ifdb_syntax.specs.declared.select.Item.{Item}
use Rattle.ifdb_syntax.specs.declared.select.Item.TheVariants as i
use Rattle.ifdb_syntax.specs.declared.request.Request.{Request}
use Rattle.ifdb_syntax.specs.declared.request.Request.TheVariants as q
use Rattle.ifdb_syntax.specs.declared.request.ForeignKey.{ForeignKey}
use Rattle.ifdb_syntax.specs.declared.request.Assignment.{Assignment}
use Rattle.ifdb_syntax.specs.Words.{Lexemes}
use Rattle.ifdb_syntax.specs.Reading.{operators}
use Rattle.ifdb_parse.specs.declared.limits.Before.{Before}
use Rattle.ifdb_parse.specs.declared.limits.Before.TheVariants as before

-- ---- the number 2^63, which stands only behind the `-` of a literal

-- a `-` behind an operand subtracts, and any other is a literal's
abbrev pub behind_minus : Before → Before
behind_minus before.Operand = before.Other
behind_minus _ = before.Sign

-- what a lexeme is to the next one
abbrev pub behind : Before → Lexeme → Before
behind last (t.Name name) = before.Operand
behind last (t.Number number) = before.Operand
behind last (t.Quoted text) = before.Operand
behind last t.Null = before.Operand
behind last t.Close = before.Operand
behind last t.Minus = behind_minus last
behind last _ = before.Other

-- 2^63, but not behind the `-` of a literal
abbrev pub is_lone : Before → Lexeme → Bool
is_lone before.Sign x = false
is_lone _ (t.Number number) = number == 2 ^ 63
is_lone _ x = false

-- whether such a number stands among lexemes, where so much is known of the one before
abbrev pub has_lone : Before → Lexemes → Bool
has_lone last [] = false
has_lone last (x ∷ s) = is_lone last x || has_lone (behind last x) s

-- ---- lists and expressions

-- more than so many members
abbrev pub exceeds_len : {X : Type 0} → ℕ → List X → Bool
exceeds_len most xs = nat_lt most (length xs)

-- more than 64 columns, names, items, assignments, keys, or literals of a row
abbrev pub exceeds_list : {X : Type 0} → List X → Bool
exceeds_list xs = exceeds_len 64 xs

-- more than 64 operators
abbrev pub exceeds_expr : Expr → Bool
exceeds_expr x = nat_lt 64 (operators x)

abbrev pub exceeds_item : Item → Bool
exceeds_item (i.Expr x name) = exceeds_expr x
exceeds_item _ = false

-- FROM has at most 4 sources
abbrev pub exceeds_select : Select → Bool
exceeds_select s =
    exceeds_list s.items || exceeds_len 4 s.sources || exceeds_list s.group || exceeds_list s.order || list_any exceeds_item s.items

abbrev pub exceeds_foreign : ForeignKey → Bool
exceeds_foreign k = exceeds_list k.columns

abbrev pub exceeds_assignment : Assignment → Bool
exceeds_assignment a = exceeds_expr a.expr

abbrev pub exceeds_clearance : Option (List (List ℕ)) → Bool
exceeds_clearance None = false
exceeds_clearance (Some tags) = exceeds_list tags

-- INSERT has at most 256 rows
abbrev pub exceeds_request : Request → Bool
exceeds_request (q.CreatePrincipal name key clearance) = exceeds_clearance clearance
exceeds_request (q.CreateTag name compound parents) = exceeds_list parents
exceeds_request (q.CreateTable name columns key foreign) =
    exceeds_list columns || exceeds_list key || exceeds_list foreign || list_any exceeds_foreign foreign
exceeds_request (q.CreateView name select tags) = exceeds_select select || exceeds_list tags
exceeds_request (q.SetLabel tags) = exceeds_list tags
exceeds_request (q.Select select) = exceeds_select select
exceeds_request (q.Insert table columns rows tags) =
    exceeds_list columns || exceeds_len 256 rows || exceeds_list tags || list_any exceeds_list rows
exceeds_request (q.Update table assignments cond tags) =
    exceeds_list assignments || exceeds_list tags || list_any exceeds_assignment assignments
exceeds_request _ = false

-- ---- both

-- Whether a line with these lexemes and this tree, as a bounded reader makes it, passes a limit. A chain of more than 64
-- operators has more than 64 in that tree too.
abbrev pub exceeds_tree : Lexemes → Request → Bool
exceeds_tree s r = has_lone before.Other s || exceeds_request r
