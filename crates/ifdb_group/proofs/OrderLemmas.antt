-- The order of rows.
use Rattle.std.proofs.Common.{◌≡◌, ℕ, Bool, true, false, cond, List, [], ◌∷◌, refl, sym, ap, ◌∙◌}
use Rattle.std.specs.Ordering.{is_lt, on, ordering_reverse}
use Rattle.std.specs.declared.cmp.Ordering.{Ordering}
use Rattle.std.specs.Cmp.{IsTotalOrder, IsStrictWeakOrder}
use Rattle.std.specs.List.Sorted.{IsSortedBy, IsStableBy}
use Rattle.std.proofs.lemmas.Cmp.{on_total, then_total}
use Rattle.std.proofs.lemmas.List.Sorted.{ranks_by}
use Rattle.ifdb_value.specs.declared.value.Value.{Value}
use Rattle.ifdb_value.specs.Value.{value_cmp}
use Rattle.ifdb_value.proofs.ValueOrder.{value_total}
use Rattle.ifdb_bound.specs.declared.select.OrderKey.{OrderKey}
use Rattle.ifdb_bound.specs.Expressions.{value_at}
use Rattle.ifdb_bound.specs.Query.{key_cmp, order_cmp, with_row, sorted_by}
use Rattle.ifdb_group.specs.Sort.{put_in, in_order}
use Rattle.ifdb_group.proofs.Sorting.{stable_sort}

flip_total : {K : Type 0} (R : K → K → Ordering) → IsTotalOrder R → IsTotalOrder (λ a b. R b a)
flip_total R o = record {
  antisymm = λ x y. o.antisymm y x;
  trans = λ x y z h k. o.trans z y x k h;
  congr = λ x y z h. o.antisymm z x ∙ ap ordering_reverse (sym (o.congr y x z h)) ∙ sym (o.antisymm z y);
}

abbrev directed : Bool → ℕ → List Value → List Value → Ordering
directed b n x y = cond b (value_cmp (value_at y n) (value_at x n)) (value_cmp (value_at x n) (value_at y n))

directed_total : (b : Bool) (n : ℕ) → IsTotalOrder (directed b n)
directed_total true n = flip_total (on (λ (row : List Value). value_at row n) value_cmp) (on_total (λ (row : List Value). value_at row n) value_total)
directed_total false n = on_total (λ (row : List Value). value_at row n) value_total

key_total : (key : OrderKey) → IsTotalOrder (key_cmp key)
key_total key = directed_total key.descending key.place

none_total : IsTotalOrder (order_cmp [])
none_total = record { antisymm = λ x y. refl; trans = λ x y z h k. h; congr = λ x y z h. refl }

order_total : (keys : List OrderKey) → IsTotalOrder (order_cmp keys)
order_total [] = none_total
order_total (key ∷ keys) = then_total (key_total key) (order_total keys)

abbrev pub precedes : List OrderKey → List Value → List Value → Bool
precedes keys a b = is_lt (order_cmp keys a b)

pub ranks : (keys : List OrderKey) → IsStrictWeakOrder (precedes keys)
ranks keys = ranks_by (order_total keys) (λ (row : List Value). row)

same_put : (keys : List OrderKey) (row : List Value) (rows : List (List Value)) → put_in (precedes keys) row rows ≡ with_row keys row rows
same_put keys row [] = refl
same_put keys row (r ∷ rows) = ap (λ l. cond (precedes keys r row) (r ∷ l) (row ∷ r ∷ rows)) (same_put keys row rows)

same_order : (keys : List OrderKey) (rows : List (List Value)) → in_order (precedes keys) rows ≡ sorted_by keys rows
same_order keys [] = refl
same_order keys (row ∷ rows) = same_put keys row (in_order (precedes keys) rows) ∙ ap (with_row keys row) (same_order keys rows)

-- what a stable sort by the keys leaves
pub sorted_is : (keys : List OrderKey) (old new : List (List Value)) → IsSortedBy (precedes keys) new → IsStableBy (precedes keys) old new → new ≡ sorted_by keys old
sorted_is keys old new s t = stable_sort (precedes keys) (ranks keys) old new s t ∙ same_order keys old
