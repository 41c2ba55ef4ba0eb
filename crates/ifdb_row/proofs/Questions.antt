-- Questions to rows, answered by the rows from an edge on.
use Rattle.std.proofs.Common.{◌≡◌, ℕ, ◌≤◌, ◌<◌, Bool, true, false, List, [], ◌∷◌, ◌∙◌, refl, sym, ap, arith, Some, None, Option, Ordering, ◌&&◌}
use Rattle.std.specs.Prelude.{not, cond, find, filter, slice_get, nat_lt, ◌==◌, ◌++◌, if◌then◌else◌}
use Rattle.std.specs.List.{list_all}
use Rattle.std.specs.declared.cmp.Ordering.TheVariants.{Less, Equal, Greater}
use Rattle.std.specs.Ordering.{is_lt, is_eq, is_gt, ordering_then, ordering_reverse}
use Rattle.std.proofs.lemmas.Cmp.{nat_cmp_total, tied_itself}
use Rattle.std.proofs.lemmas.Bool.{false≢true}
use Rattle.std.proofs.lemmas.Bool.Decides.{nat_tests}
use Rattle.ifdb_value.specs.declared.value.Value.{Value}
use Rattle.ifdb_row.specs.declared.slot.Slot.{Slot}
use Rattle.ifdb_row.specs.declared.row.Row.{Row}
use Rattle.ifdb_row.specs.Slots.{key_cmp, label_cmp, slot_cmp, slot_lt, is_same_slot, is_of_key, is_same_key}
use Rattle.ifdb_row.specs.Content.{rising}
use Rattle.std.proofs.lemmas.List.Folds.{list_all-append}
use Rattle.ifdb_value.proofs.Lists.{all_wider}
use Rattle.ifdb_row.proofs.SlotOrder.{slot_same, key_exact}
use Rattle.ifdb_row.specs.Edges.{slot_at}
use Rattle.ifdb_row.specs.Reach.{is_parted, skip}
use Rattle.ifdb_row.specs.Questions.{if_passes, is_later, IsRun}
use Rattle.ifdb_row.proofs.Rising.{lt_not_same}
use Rattle.ifdb_row.proofs.Reaches.{leading}
use Rattle.ifdb_row.proofs.Edges.{key_total, slot_lt_table, slot_lt_key}

none_passes : (q : Row → Bool) (rows : List Row) → list_all (λ r. not (q r)) rows ≡ true → find q rows ≡ None
none_passes q [] h = refl
none_passes q (r ∷ rows) h = grind (arith, nat_tests, none_passes q rows)

pub passes_first : (p t q : Row → Bool) → ((r : Row) → q r ≡ not (p r) && t r) → ((r s : Row) → slot_lt r.slot s.slot ≡ true → p r ≡ false → t s ≡ true → t r ≡ true)
    → (rows : List Row) → rising rows ≡ true → find q rows ≡ if_passes t (find (λ r. not (p r)) rows)
passes_first p t q same down [] h = refl
passes_first p t q same down (r ∷ rows) h = by (passes_first p t q same down rows) (p r) refl (t r) refl where
  later : p r ≡ false → t r ≡ false → list_all (λ s. not (q s)) rows ≡ true
  later e u = all_wider (λ (s : Row). slot_lt r.slot s.slot) (λ s. not (q s)) rows (λ s k. grind (arith, nat_tests, same s, down r s k e)) (grind (arith, nat_tests))

  by : (rising rows ≡ true → find q rows ≡ if_passes t (find (λ r. not (p r)) rows)) → (a : Bool) → p r ≡ a → (b : Bool) → t r ≡ b
      → find q (r ∷ rows) ≡ if_passes t (find (λ r. not (p r)) (r ∷ rows))
  by more true e b u = grind (arith, nat_tests, more, same r)
  by more false e true u = grind (arith, nat_tests, same r)
  by more false e false u = let n = none_passes q rows (later e u) in grind (arith, nat_tests, same r, n)

-- the row in a slot
pub get_same : (s : Slot) (r : Row) → is_same_slot s r.slot ≡ not (slot_lt r.slot s) && is_same_slot s r.slot
get_same s r = grind (arith, nat_tests, lt_not_same r.slot s)

pub get_down : (s : Slot) (r x : Row) → slot_lt r.slot x.slot ≡ true → slot_lt r.slot s ≡ false → is_same_slot s x.slot ≡ true → is_same_slot s r.slot ≡ true
get_down s r x k e u = absurd (false≢true (sym e ∙ (ap (slot_lt r.slot) (slot_same s x.slot u) ∙ k)))

-- the rows of a table
pub table_same : (t : ℕ) (r : Row) → (r.slot.table == t) && true ≡ not (nat_lt r.slot.table t) && (r.slot.table == t)
table_same t r = grind (arith, nat_tests)

pub table_down : (t : ℕ) (r x : Row) → slot_lt r.slot x.slot ≡ true → nat_lt r.slot.table t ≡ false → (x.slot.table == t) ≡ true → (r.slot.table == t) ≡ true
table_down t r x k e u = let l = slot_lt_table r.slot x.slot k in grind (arith, nat_tests)

pub behind_same : (t : ℕ) (a : Slot) (r : Row) → (r.slot.table == t) && slot_lt a r.slot ≡ not (not (slot_lt a r.slot)) && (r.slot.table == t)
behind_same t a r = grind (arith, nat_tests)

pub behind_down : (t : ℕ) (a : Slot) (r x : Row) → a.table ≡ t → slot_lt r.slot x.slot ≡ true → not (slot_lt a r.slot) ≡ false → (x.slot.table == t) ≡ true → (r.slot.table == t) ≡ true
behind_down t a r x at k e u =
    let l = slot_lt_table r.slot x.slot k in
    let m : slot_lt a r.slot ≡ true = grind (arith, nat_tests) in
    let n = slot_lt_table a r.slot m in
    grind (arith, nat_tests)

-- the rows of a key
key_neither : (o u : Ordering) → u ≡ ordering_reverse o → is_lt o ≡ false → is_gt o ≡ false → is_eq u ≡ true
key_neither Less u e a b = cc
key_neither Equal u e a b = ap is_eq e
key_neither Greater u e a b = cc

pub key_same : (t : ℕ) (key : List Value) (r : Row) → is_of_key t key r.slot && true ≡ not (if r.slot.table == t then is_lt (key_cmp r.slot.key key) else nat_lt r.slot.table t) && is_of_key t key r.slot
key_same t key r = grind (arith, nat_tests, lt_eq (key_cmp r.slot.key key)) where
  lt_eq : (o : Ordering) → is_eq o ≡ true → is_lt o ≡ false
  lt_eq Less e = cc
  lt_eq Equal e = refl
  lt_eq Greater e = refl

between_eq : (o : Ordering) → is_lt o ≡ false → is_gt o ≡ false → is_eq o ≡ true
between_eq Less a b = cc
between_eq Equal a b = refl
between_eq Greater a b = cc

pub key_down : (t : ℕ) (key : List Value) (r x : Row) → slot_lt r.slot x.slot ≡ true → (if r.slot.table == t then is_lt (key_cmp r.slot.key key) else nat_lt r.slot.table t) ≡ false
    → is_of_key t key x.slot ≡ true → is_of_key t key r.slot ≡ true
key_down t key r x k e u =
    let parts : ((x.slot.table == t) ≡ true) × (is_same_key x.slot.key key ≡ true) = grind (arith, nat_tests) in
    let l = slot_lt_table r.slot x.slot k in
    let at : r.slot.table ≡ t = grind (arith, nat_tests) in
    let tables : r.slot.table ≡ x.slot.table = grind (arith, nat_tests) in
    let gt : is_gt (key_cmp r.slot.key key) ≡ false = ap (λ m. is_gt (key_cmp r.slot.key m)) (sym (key_exact x.slot.key key parts.1)) ∙ slot_lt_key r.slot x.slot k tables in
    let lt : is_lt (key_cmp r.slot.key key) ≡ false = grind (arith, nat_tests) in
    let same = between_eq (key_cmp r.slot.key key) lt gt in
    grind (arith, nat_tests)

label_at : (t : ℕ) (key : List Value) (l m : List ℕ) → slot_lt (slot_at t key l) (slot_at t key m) ≡ is_lt (label_cmp l m)
unfolding slot_cmp
label_at t key l m = ap (λ o. is_lt (ordering_then o (ordering_then (key_cmp key key) (label_cmp l m)))) (tied_itself nat_cmp_total t) ∙ ap (λ o. is_lt (ordering_then o (label_cmp l m))) (tied_itself key_total key)

slot_is : (t : ℕ) (key : List Value) (s : Slot) → is_of_key t key s ≡ true → s ≡ slot_at t key s.label
slot_is t key s h =
    let parts : ((s.table == t) ≡ true) × (is_same_key s.key key ≡ true) = grind (arith, nat_tests) in
    let one : s.table ≡ t = grind (arith, nat_tests) in
    let two = key_exact s.key key parts.1 in
    λ i. record { table = one i; key = two i; label = s.label }

pub label_same : (t : ℕ) (key : List Value) (l : List ℕ) (r : Row) → is_of_key t key r.slot && is_lt (label_cmp l r.slot.label) ≡ not (not (slot_lt (slot_at t key l) r.slot)) && is_of_key t key r.slot
label_same t key l r =
    let e : is_of_key t key r.slot ≡ true → slot_lt (slot_at t key l) r.slot ≡ is_lt (label_cmp l r.slot.label) = λ h. ap (slot_lt (slot_at t key l)) (slot_is t key r.slot h) ∙ label_at t key l r.slot.label in
    grind (arith, nat_tests, e)

rev_lt : (o u : Ordering) → u ≡ ordering_reverse o → is_gt o ≡ false → is_lt u ≡ false
rev_lt Less u e a = ap is_lt e
rev_lt Equal u e a = ap is_lt e
rev_lt Greater u e a = cc

pub label_down : (t : ℕ) (key : List Value) (l : List ℕ) (r x : Row) → slot_lt r.slot x.slot ≡ true → not (slot_lt (slot_at t key l) r.slot) ≡ false → is_of_key t key x.slot ≡ true → is_of_key t key r.slot ≡ true
label_down t key l r x k e u =
    let parts : ((x.slot.table == t) ≡ true) × (is_same_key x.slot.key key ≡ true) = grind (arith, nat_tests) in
    let m : slot_lt (slot_at t key l) r.slot ≡ true = grind (arith, nat_tests) in
    let low = slot_lt_table (slot_at t key l) r.slot m in
    let high = slot_lt_table r.slot x.slot k in
    let at : t ≡ r.slot.table = grind (arith, nat_tests) in
    let tables : r.slot.table ≡ x.slot.table = grind (arith, nat_tests) in
    let gt : is_gt (key_cmp r.slot.key key) ≡ false = ap (λ m. is_gt (key_cmp r.slot.key m)) (sym (key_exact x.slot.key key parts.1)) ∙ slot_lt_key r.slot x.slot k tables in
    let up = slot_lt_key (slot_at t key l) r.slot m at in
    let lt = rev_lt (key_cmp key r.slot.key) (key_cmp r.slot.key key) (key_total.antisymm r.slot.key key) up in
    let same = between_eq (key_cmp r.slot.key key) lt gt in
    grind (arith, nat_tests)

pub none_behind : (t : ℕ) (a : Slot) (rows : List Row) → t < a.table → find (λ (r : Row). (r.slot.table == t) && slot_lt a r.slot) rows ≡ None
none_behind t a [] lt = refl
none_behind t a (r ∷ rows) lt = grind (arith, nat_tests, none_behind t a rows, slot_lt_table a r.slot)

lower_table : (a s : Slot) → a.table < s.table → slot_lt a s ≡ true
unfolding slot_cmp
lower_table a s lt = grind (arith, nat_tests)

pub all_behind : (t : ℕ) (a : Slot) (rows : List Row) → a.table < t → find (λ (r : Row). (r.slot.table == t) && slot_lt a r.slot) rows ≡ find (λ (r : Row). (r.slot.table == t) && true) rows
all_behind t a [] lt = refl
all_behind t a (r ∷ rows) lt = grind (arith, nat_tests, all_behind t a rows lt, lower_table a r.slot)

-- ---- runs

-- the first row of a run is that of the rows
pub first_of_run : (run rows : List Row) → IsRun run rows → slice_get rows 0 ≡ slice_get run 0
first_of_run [] rows i = ap (λ x. slice_get x 0) (i.some refl)
first_of_run (r ∷ run) rows i = ap (λ x. slice_get x 0) i.front

leading-append : (t : Row → Bool) (xs ys : List Row) → leading t (xs ++ ys) ≡ leading t xs ++ cond (list_all t xs) (leading t ys) []
leading-append t [] ys = refl
leading-append t (x ∷ xs) ys = grind (arith, nat_tests, leading-append t xs ys)

-- what leads a run leads the rows
pub run_leads : (t : Row → Bool) (run rows : List Row) → IsRun run rows → IsRun (leading t run) (leading t rows)
run_leads t [] rows i = let e : leading t rows ≡ [] = ap (leading t) (i.some refl) in record { rest = []; front = e; some = λ _. e }
run_leads t (r ∷ run) rows i = record {
  rest = cond (list_all t (r ∷ run)) (leading t i.rest) [];
  front = ap (leading t) i.front ∙ leading-append t (r ∷ run) i.rest;
  some = by (t r) refl;
} where
  by : (b : Bool) → t r ≡ b → leading t (r ∷ run) ≡ [] → leading t rows ≡ []
  by true e h = cc
  by false e h = ap (leading t) i.front ∙ ap (λ c. cond c (r ∷ leading t (run ++ i.rest)) []) e

parted_front : (t : Row → Bool) (xs ys : List Row) → is_parted t (xs ++ ys) ≡ true → is_parted t xs ≡ true
parted_front t [] ys h = refl
parted_front t (x ∷ xs) ys h = grind (arith, nat_tests, parted_front t xs ys, list_all-append (λ y. not (t y)) xs ys)

pub parted_run : (t : Row → Bool) (run rows : List Row) → IsRun run rows → is_parted t rows ≡ true → is_parted t run ≡ true
parted_run t run rows i h = parted_front t run i.rest (ap (is_parted t) (sym i.front) ∙ h)

-- Rows that pass q stand from an edge on, before which p holds, as far as t holds.
module _ (p t q : Row → Bool) (same : (r : Row) → q r ≡ not (p r) && t r) (falls : (r s : Row) → slot_lt r.slot s.slot ≡ true → p s ≡ true → p r ≡ true)
    (down : (r s : Row) → slot_lt r.slot s.slot ≡ true → p r ≡ false → t s ≡ true → t r ≡ true) where
  filter_skip : (rows : List Row) → filter q rows ≡ filter q (skip p rows)
  filter_skip [] = refl
  filter_skip (r ∷ rows) = grind (arith, nat_tests, filter_skip rows, same r)

  skip_fails : (rows : List Row) → rising rows ≡ true → list_all (λ r. not (p r)) (skip p rows) ≡ true
  skip_fails [] h = refl
  skip_fails (r ∷ rows) h = by (skip_fails rows) (p r) refl where
    later : p r ≡ false → list_all (λ s. not (p s)) rows ≡ true
    later e = all_wider (λ (s : Row). slot_lt r.slot s.slot) (λ s. not (p s)) rows (λ s k. grind (arith, nat_tests, falls r s k)) (grind (arith, nat_tests))

    by : (rising rows ≡ true → list_all (λ s. not (p s)) (skip p rows) ≡ true) → (b : Bool) → p r ≡ b → list_all (λ s. not (p s)) (skip p (r ∷ rows)) ≡ true
    by more true e = grind (arith, nat_tests, more)
    by more false e = grind (arith, nat_tests, later e)

  down_parted : (rows : List Row) → rising rows ≡ true → list_all (λ r. not (p r)) rows ≡ true → is_parted t rows ≡ true
  down_parted [] h a = refl
  down_parted (r ∷ rows) h a = by (down_parted rows) (t r) refl where
    later : t r ≡ false → list_all (λ s. not (t s)) rows ≡ true
    later e = all_wider (λ (s : Row). slot_lt r.slot s.slot) (λ s. not (t s)) rows (λ s k. grind (arith, nat_tests, down r s k)) (grind (arith, nat_tests))

    by : (rising rows ≡ true → list_all (λ s. not (p s)) rows ≡ true → is_parted t rows ≡ true) → (b : Bool) → t r ≡ b → is_parted t (r ∷ rows) ≡ true
    by more true e = grind (arith, nat_tests, more)
    by more false e = grind (arith, nat_tests, later e)

  rising_skip : (rows : List Row) → rising rows ≡ true → rising (skip p rows) ≡ true
  rising_skip [] h = refl
  rising_skip (r ∷ rows) h = grind (arith, nat_tests, rising_skip rows)

  pub skip_parted : (rows : List Row) → rising rows ≡ true → is_parted t (skip p rows) ≡ true
  skip_parted rows h = down_parted (skip p rows) (rising_skip rows h) (skip_fails rows h)

  none_left : (rows : List Row) → list_all (λ r. not (t r)) rows ≡ true → filter q rows ≡ []
  none_left [] a = refl
  none_left (r ∷ rows) a = grind (arith, nat_tests, none_left rows, same r)

  filter_leads : (rows : List Row) → list_all (λ r. not (p r)) rows ≡ true → is_parted t rows ≡ true → filter q rows ≡ leading t rows
  filter_leads [] a h = refl
  filter_leads (r ∷ rows) a h = grind (arith, nat_tests, filter_leads rows, none_left rows, same r)

  pub filter_is : (rows : List Row) → rising rows ≡ true → filter q rows ≡ leading t (skip p rows)
  filter_is rows h = filter_skip rows ∙ filter_leads (skip p rows) (skip_fails rows h) (skip_parted rows h)

  -- so a run of the rows from the edge on gives one of those that pass
  pub run_of : (run rows : List Row) → rising rows ≡ true → IsRun run (skip p rows) → IsRun (leading t run) (filter q rows)
  run_of run rows h i = Rattle.std.proofs.Common.subst (λ (x : List Row). IsRun (leading t run) x) (sym (filter_is rows h)) (run_leads t run (skip p rows) i)

pub none_later : (t : ℕ) (a : Slot) (rows : List Row) → t < a.table → filter (is_later t (Some a)) rows ≡ []
none_later t a [] lt = refl
none_later t a (r ∷ rows) lt = grind (arith, nat_tests, none_later t a rows, slot_lt_table a r.slot)

pub all_later : (t : ℕ) (a : Slot) (rows : List Row) → a.table < t → filter (is_later t (Some a)) rows ≡ filter (is_later t None) rows
all_later t a [] lt = refl
all_later t a (r ∷ rows) lt = grind (arith, nat_tests, all_later t a rows lt, lower_table a r.slot)
