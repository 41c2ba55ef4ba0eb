-- The rows of a key, one behind the other.
use Rattle.std.proofs.Common.{◌≡◌, ℕ, Bool, true, false, List, [], ◌∷◌, ◌∙◌, length, ◌<◌, refl, sym, ap, arith, Some, None, Option, Ordering, ◌&&◌}
use Rattle.std.specs.Prelude.{find, filter, ◌==◌, is_some}
use Rattle.std.specs.List.{list_all, list_any}
use Rattle.std.specs.declared.cmp.Ordering.TheVariants.{Less, Equal, Greater}
use Rattle.std.specs.Ordering.{is_lt, ordering_then}
use Rattle.std.proofs.lemmas.Cmp.{nat_cmp_total, nat_list_cmp_total, tied_itself}
use Rattle.std.proofs.lemmas.Bool.{false≢true}
use Rattle.std.proofs.lemmas.Bool.Decides.{nat_tests}
use Rattle.ifdb_value.specs.declared.value.Value.{Value}
use Rattle.ifdb_row.specs.declared.slot.Slot.{Slot}
use Rattle.ifdb_row.specs.declared.row.Row.{Row}
use Rattle.ifdb_row.specs.Slots.{key_cmp, label_cmp, slot_cmp, slot_lt, is_of_key, is_same_key}
use Rattle.ifdb_row.specs.Content.{rising}
use Rattle.ifdb_value.proofs.Lists.{filter_same_on}
use Rattle.ifdb_row.proofs.Edges.{key_total}
use Rattle.ifdb_row.proofs.SlotOrder.{key_exact}
use Rattle.ifdb_row.specs.Edges.{slot_at}
use Rattle.ifdb_row.specs.Questions.{is_past_label, is_further}

lt_Less : (o : Ordering) → is_lt o ≡ true → o ≡ Less
lt_Less Less e = refl
lt_Less Equal e = cc
lt_Less Greater e = cc

label_at : (t : ℕ) (key : List Value) (l m : List ℕ) → slot_lt (slot_at t key l) (slot_at t key m) ≡ is_lt (label_cmp l m)
unfolding slot_cmp
label_at t key l m = ap (λ o. is_lt (ordering_then o (ordering_then (key_cmp key key) (label_cmp l m)))) (tied_itself nat_cmp_total t) ∙ ap (λ o. is_lt (ordering_then o (label_cmp l m))) (tied_itself key_total key)

slot_is : (t : ℕ) (key : List Value) (s : Slot) → is_of_key t key s ≡ true → s ≡ slot_at t key s.label
slot_is t key s h =
    let parts : ((s.table == t) ≡ true) × (is_same_key s.key key ≡ true) = grind (arith, nat_tests) in
    let one : s.table ≡ t = grind (arith, nat_tests) in
    let two = key_exact s.key key parts.1 in
    λ i. record { table = one i; key = two i; label = s.label }

-- two slots of a key stand as their labels do
pub label_lt : (t : ℕ) (key : List Value) (p q : Slot) → is_of_key t key p ≡ true → is_of_key t key q ≡ true → slot_lt p q ≡ is_lt (label_cmp p.label q.label)
label_lt t key p q h k = ap (λ x. slot_lt x q) (slot_is t key p h) ∙ (ap (slot_lt (slot_at t key p.label)) (slot_is t key q k) ∙ label_at t key p.label q.label)

label_trans : (a b c : List ℕ) → is_lt (label_cmp a b) ≡ true → is_lt (label_cmp b c) ≡ true → is_lt (label_cmp a c) ≡ true
label_trans a b c h k = ap is_lt (nat_list_cmp_total.trans a b c (lt_Less (label_cmp a b) h) (lt_Less (label_cmp b c) k))

label_itself : (a : List ℕ) → is_lt (label_cmp a a) ≡ false
label_itself a = ap is_lt (tied_itself nat_list_cmp_total a)

label_back : (a b : List ℕ) → is_lt (label_cmp a b) ≡ true → is_lt (label_cmp b a) ≡ false
label_back a b h = by (is_lt (label_cmp b a)) refl where
  by : (c : Bool) → is_lt (label_cmp b a) ≡ c → is_lt (label_cmp b a) ≡ false
  by false e = e
  by true e = absurd (false≢true (sym (label_itself a) ∙ label_trans a b a h e))

past_more : (after : Option (List ℕ)) (l m : List ℕ) → is_past_label after l ≡ true → is_lt (label_cmp l m) ≡ true → is_past_label after m ≡ true
past_more None l m h k = refl
past_more (Some a) l m h k = label_trans a l m h k

pub found_all : (q p : Row → Bool) (rows : List Row) (x : Row) → find p rows ≡ Some x → list_all q rows ≡ true → q x ≡ true
found_all q p [] x e h = absurd (none_some e) where
  none_some : None ≡ Some x → ⊥
  none_some k = cc
found_all q p (r ∷ rows) x e h = by (found_all q p rows x) (p r) refl where
  by : (find p rows ≡ Some x → list_all q rows ≡ true → q x ≡ true) → (b : Bool) → p r ≡ b → q x ≡ true
  by more true k = let same : r ≡ x = grind (arith, nat_tests) in ap q (sym same) ∙ grind (arith, nat_tests)
  by more false k = grind (arith, nat_tests, more)

pub found_passes : (p : Row → Bool) (rows : List Row) (x : Row) → find p rows ≡ Some x → p x ≡ true
found_passes p [] x e = cc
found_passes p (r ∷ rows) x e = by (found_passes p rows x) (p r) refl where
  by : (find p rows ≡ Some x → p x ≡ true) → (b : Bool) → p r ≡ b → p x ≡ true
  by more true k = let same : r ≡ x = grind (arith, nat_tests) in ap p (sym same) ∙ k
  by more false k = grind (arith, nat_tests, more)

-- behind a row of the key stand the rows of the key behind its label
module _ (t : ℕ) (key : List Value) where
  behind_one : (after : Option (List ℕ)) (r : Row) (rows : List Row) → is_further t key after r ≡ true → list_all (λ (s : Row). slot_lt r.slot s.slot) rows ≡ true
      → filter (is_further t key after) rows ≡ filter (is_further t key (Some r.slot.label)) rows
  behind_one after r rows h a = filter_same_on (λ (s : Row). slot_lt r.slot s.slot) (is_further t key after) (is_further t key (Some r.slot.label)) rows a
      (λ s k. grind (arith, nat_tests, label_lt t key r.slot s.slot, past_more after r.slot.label s.slot.label))

  not_behind : (r x : Row) → is_of_key t key x.slot ≡ true → slot_lt r.slot x.slot ≡ true → is_further t key (Some x.slot.label) r ≡ false
  not_behind r x h k = grind (arith, nat_tests, label_lt t key r.slot x.slot, label_back r.slot.label x.slot.label)

  pub next_of_key : (after : Option (List ℕ)) (rows : List Row) (x : Row) → rising rows ≡ true → find (is_further t key after) rows ≡ Some x
      → filter (is_further t key after) rows ≡ x ∷ filter (is_further t key (Some x.slot.label)) rows
  next_of_key after [] x h e = cc
  next_of_key after (r ∷ rows) x h e = by (next_of_key after rows x) (is_further t key after r) refl where
    by : (rising rows ≡ true → find (is_further t key after) rows ≡ Some x → filter (is_further t key after) rows ≡ x ∷ filter (is_further t key (Some x.slot.label)) rows)
        → (b : Bool) → is_further t key after r ≡ b → filter (is_further t key after) (r ∷ rows) ≡ x ∷ filter (is_further t key (Some x.slot.label)) (r ∷ rows)
    by more true k =
        let same : r ≡ x = grind (arith, nat_tests) in
        let one : filter (is_further t key after) (r ∷ rows) ≡ r ∷ filter (is_further t key (Some r.slot.label)) (r ∷ rows) = grind (arith, nat_tests, behind_one after r rows k, label_itself r.slot.label) in
        one ∙ ap (λ (y : Row). y ∷ filter (is_further t key (Some y.slot.label)) (r ∷ rows)) same
    by more false k =
        let there : find (is_further t key after) rows ≡ Some x = grind (arith, nat_tests) in
        let passes = found_passes (is_further t key after) rows x there in
        let up = found_all (λ (s : Row). slot_lt r.slot s.slot) (is_further t key after) rows x there (grind (arith, nat_tests)) in
        let out = not_behind r x (grind (arith, nat_tests)) up in
        grind (arith, nat_tests, more)

  none_left : (p : Row → Bool) (rows : List Row) → find p rows ≡ None → filter p rows ≡ []
  none_left p [] e = refl
  none_left p (r ∷ rows) e = grind (arith, nat_tests, none_left p rows)

  pub no_next : (after : Option (List ℕ)) (rows : List Row) → find (is_further t key after) rows ≡ None → filter (is_further t key after) rows ≡ []
  no_next after rows e = none_left (is_further t key after) rows e

  -- a look-up among the rows of a key
  pub find_of_key : (p : Row → Bool) (rows : List Row) → find (λ (r : Row). is_of_key t key r.slot && p r) rows ≡ find p (filter (is_further t key None) rows)
  find_of_key p [] = refl
  find_of_key p (r ∷ rows) = grind (arith, nat_tests, find_of_key p rows)

  -- ---- steps of a loop over the rows of a key, each found behind the label of the one before
  pub fewer : (after : Option (List ℕ)) (rows : List Row) (x : Row) → rising rows ≡ true → find (is_further t key after) rows ≡ Some x
      → length (filter (is_further t key (Some x.slot.label)) rows) < length (filter (is_further t key after) rows)
  fewer after rows x h e = let k = ap length (next_of_key after rows x h e) in grind (arith, nat_tests)

  module _ (p : Row → Bool) (after : Option (List ℕ)) (rows : List Row) where
    pub find_here : (x : Row) → rising rows ≡ true → find (is_further t key after) rows ≡ Some x → find p (filter (is_further t key after) rows) ≡ find p (filter (is_further t key None) rows) → p x ≡ true
        → Some x ≡ find (λ (r : Row). is_of_key t key r.slot && p r) rows
    find_here x h e i k = let n = next_of_key after rows x h e in let f = find_of_key p rows in let g = ap (find p) n in grind (arith, nat_tests)

    pub find_on : (x : Row) → rising rows ≡ true → find (is_further t key after) rows ≡ Some x → find p (filter (is_further t key after) rows) ≡ find p (filter (is_further t key None) rows) → p x ≡ false
        → find p (filter (is_further t key (Some x.slot.label)) rows) ≡ find p (filter (is_further t key None) rows)
    find_on x h e i k = let n = ap (find p) (next_of_key after rows x h e) in grind (arith, nat_tests)

    pub find_none : find (is_further t key after) rows ≡ None → find p (filter (is_further t key after) rows) ≡ find p (filter (is_further t key None) rows)
        → None ≡ find (λ (r : Row). is_of_key t key r.slot && p r) rows
    find_none e i = let n = ap (find p) (no_next after rows e) in let f = find_of_key p rows in grind (arith, nat_tests)

  -- a question about some row of a key
  pub any_found : (p : Row → Bool) (rows : List Row) → list_any (λ (r : Row). is_of_key t key r.slot && p r) rows ≡ is_some (find (λ (r : Row). is_of_key t key r.slot && p r) rows)
  any_found p [] = refl
  any_found p (r ∷ rows) = grind (arith, nat_tests, any_found p rows)
