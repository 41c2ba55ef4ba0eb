-- Where the rows of sources are.
use Rattle.std.proofs.Common.{◌≡◌, ℕ, zero, suc, add-one, ◌+◌, ◌<◌, ◌≤◌, arith, drop, List, [], ◌∷◌, length, get_or, map, refl, sym, ap, ◌∙◌, Bool, true, false, Option, Some, None, Err}
use Rattle.std.specs.Prelude.{Result, option_and_then, slice_get}
use Rattle.std.specs.List.{list_all}
use Rattle.std.proofs.lemmas.List.{length-map}
use Rattle.ifdb_bound.specs.declared.schema.ViewDef.{ViewDef}
use Rattle.ifdb_bound.specs.declared.select.Relation.{Relation}
use Rattle.ifdb_bound.specs.declared.select.Relation.TheVariants as relation
use Rattle.ifdb_value.specs.declared.value.Value.{Value}
use Rattle.ifdb_bound.specs.declared.select.BoundSelect.{BoundSelect}
use Rattle.ifdb_bound.specs.declared.select.BoundSource.{BoundSource}
use Rattle.ifdb_bound.specs.Query.{SourceRow, all_some, both, select}
use Rattle.ifdb_row.specs.declared.row.Row.{Row}
use Rattle.ifdb_expr.specs.declared.fault.ExprFault.{ExprFault}
use Rattle.ifdb_expr.specs.declared.fault.ExprFault.TheVariants as expr
use Rattle.ifdb_expr.specs.Tells.{Tells}
use Rattle.ifdb_expr.specs.View.{Setting, view_rows}
use Rattle.ifdb_expr.specs.Query.{QueryFault, allows_view, view_authority, out_of_range, is_allowed, answered, over_sources, query, rows_of_view, source_rows}
use Rattle.ifdb_view.specs.Faults.{as_view_fault, TellsBy, TellsQuery}
use Rattle.ifdb_view.specs.Made.{owner_holds}

-- a fault goes on where what has none makes the whole have none
pub by_goes_on : {A B C D : Type 0} (f : A → B) (g : C → D) (o : Option B) (p : Option D) (e : ExprFault) → (o ≡ None → p ≡ None) → TellsBy f o (Err e) → TellsBy g p (Err e)
by_goes_on f g o p expr.OutOfRange h t = h t
by_goes_on f g o p expr.OutOfMemory h t = tt

pub answer_goes_on : (o : Option (List (List Value))) (q : Result (List (List Value)) QueryFault) (e : ExprFault) → (o ≡ None → q ≡ Err out_of_range) → Tells o (Err e) → TellsQuery q (Err (as_view_fault e))
answer_goes_on o q expr.OutOfRange h t = h t
answer_goes_on o q expr.OutOfMemory h t = tt

-- a SELECT whose views are allowed
pub query_is : (set : Setting) (rows : List Row) (label : List ℕ) (s : BoundSelect) → list_all (λ (x : BoundSource). is_allowed set x.relation) s.sources ≡ true
    → query set rows label s ≡ over_sources set s (all_some (map (λ (x : BoundSource). source_rows set rows label x.relation) s.sources))
query_is set rows label s h = rw h refl

pub query_refused : (set : Setting) (rows : List Row) (label : List ℕ) (s : BoundSelect) → list_all (λ (x : BoundSource). is_allowed set x.relation) s.sources ≡ false → query set rows label s ≡ Err view_authority
query_refused set rows label s h = rw h refl

pub query_told : (set : Setting) (rows : List Row) (label : List ℕ) (s : BoundSelect) (o : Option (List (List SourceRow))) → list_all (λ (x : BoundSource). is_allowed set x.relation) s.sources ≡ true
    → o ≡ all_some (map (λ (x : BoundSource). source_rows set rows label x.relation) s.sources) → query set rows label s ≡ answered (option_and_then (select set.names s) o)
query_told set rows label s o h e = query_is set rows label s h ∙ ap (over_sources set s) (sym e) ∙ over set s o where
  over : (set : Setting) (s : BoundSelect) (o : Option (List (List SourceRow))) → over_sources set s o ≡ answered (option_and_then (select set.names s) o)
  over set s None = refl
  over set s (Some x) = refl

pub by_fault : {A B : Type 0} (f : A → B) (o p : Option B) (e : ExprFault) → o ≡ p → Tells p (Err e) → TellsBy f o (Err e)
by_fault f o p expr.OutOfRange h t = h ∙ t
by_fault f o p expr.OutOfMemory h t = tt

pub fault_by : {A B D : Type 0} (f : A → B) (o : Option B) (p : Option D) (e : ExprFault) → (o ≡ None → p ≡ None) → TellsBy f o (Err e) → Tells p (Err e)
fault_by f o p expr.OutOfRange h t = h t
fault_by f o p expr.OutOfMemory h t = tt

pub as_long : {A B C : Type 0} (f : A → C) (g : B → C) (xs : List A) (ys : List B) → map f xs ≡ map g ys → length ys ≤ 4 → length xs ≤ 4
as_long f g xs ys e h = let l = ap length e in grind (arith, length-map xs f, length-map ys g)

all_as_many : {A : Type 0} (xs : List (Option A)) (ys : List A) → all_some xs ≡ Some ys → length ys ≡ length xs
all_as_many [] ys h = let e : [] ≡ ys = cc in ap length (sym e)
all_as_many (None ∷ xs) ys h = cc
all_as_many (Some x ∷ xs) ys h = by x (all_some xs) xs (all_as_many xs) ys h where
  by : {A : Type 0} (x : A) (o : Option (List A)) (xs : List (Option A)) → ((zs : List A) → o ≡ Some zs → length zs ≡ length xs) → (ys : List A) → both (Some x) o ≡ Some ys → length ys ≡ length (Some x ∷ xs)
  by x None xs go ys h = cc
  by x (Some zs) xs go ys h = let e : x ∷ zs ≡ ys = cc in let l = go zs refl in let m = ap length e in grind arith

pub given_long : {A B C : Type 0} (f : A → C) (g : B → Option C) (xs : List A) (ys : List B) → all_some (map g ys) ≡ Some (map f xs) → length ys ≤ 4 → length xs ≤ 4
given_long f g xs ys e h = let l = all_as_many (map g ys) (map f xs) e in grind (arith, length-map xs f, length-map ys g)

pub source_is : (set : Setting) (rows : List Row) (label : List ℕ) (x : Relation) (id : ℕ) (v : ViewDef) → x ≡ relation.View id → slice_get set.views id ≡ Some v → source_rows set rows label x ≡ view_rows set rows label v
source_is set rows label x id v e s = ap (source_rows set rows label) e ∙ ap (rows_of_view set rows label) s

-- one source more, and none more
pub rest_passes : {X : Type 0} (p : X → Bool) (xs : List X) (i : ℕ) (x : X) → i < length xs → x ≡ get_or xs i x → p x ≡ true → list_all p (drop (i + 1) xs) ≡ list_all p (drop i xs)
rest_passes p [] i x h e k = absurd (omega (arith, h))
rest_passes p (y ∷ xs) zero x h e k = let s : p y ≡ true = ap p (sym e) ∙ k in sym (rw s refl)
rest_passes p (y ∷ xs) (suc i) x h e k = rw add-one (rw add-one at (rest_passes p xs i x (omega arith) e k))

pub rest_none : {X : Type 0} (p : X → Bool) (xs : List X) (i : ℕ) → length xs ≤ i → list_all p (drop i xs) ≡ true
rest_none p [] zero h = refl
rest_none p [] (suc i) h = refl
rest_none p (x ∷ xs) zero h = absurd (omega (arith, h))
rest_none p (x ∷ xs) (suc i) h = rest_none p xs i (omega arith)

-- a view's owner
pub owner_allows : (set : Setting) (o : Option ViewDef) → owner_holds set.allows o ≡ allows_view set o
owner_allows set None = refl
owner_allows set (Some v) = refl
