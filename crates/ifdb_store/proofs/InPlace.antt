-- Rows that are changed in place.
use Rattle.std.proofs.Common.{◌≡◌, ℕ, zero, suc, ◌<◌, ◌≤◌, ◌+◌, ◌-◌, ◌*◌, Bool, true, false, List, [], ◌∷◌, ◌++◌, ◌∙◌, length, get_or, set, take, drop, refl, sym, ap, arith, Some, None}
use Rattle.std.specs.Prelude.{if◌then◌else◌, ◌&&◌, map}
use Rattle.std.specs.List.{list_all, list_any, flat_map}
use Rattle.std.proofs.Math.Nat.{suc-mul}
use Rattle.std.proofs.lemmas.Bool.Decides.{nat_tests}
use Rattle.std.proofs.lemmas.Grind.{flat_map-append}
use Rattle.std.proofs.lemmas.List.{append-nil, drop_all, drop_more, get_or_default, length-append, length-drop, length-set, length-take-le, set_split, take-append-drop, take_all}
use Rattle.ifdb_value.specs.declared.value.Value.{Value}
use Rattle.ifdb_row.specs.declared.even_run.Head.{Head}
use Rattle.ifdb_row.specs.Runs.{even_rows}
use Rattle.ifdb_row.specs.declared.slot.Slot.{Slot}
use Rattle.ifdb_row.specs.declared.row.Row.{Row}
use Rattle.ifdb_row.specs.declared.write.Write.{Write}
use Rattle.ifdb_row.specs.Slots.{is_same_slot}
use Rattle.ifdb_row.specs.Writes.{is_fitting, are_fitting}
use Rattle.ifdb_row.specs.Content.{after, place, rising}
use Rattle.ifdb_row.proofs.SlotOrder.{slot_same}
use Rattle.ifdb_row.proofs.ContentLaws.{rising_after, rising_place}
use Rattle.ifdb_row.proofs.EvenRows.{even_length, row_within}
use Rattle.ifdb_row.proofs.Sorted.{taken, place_of, place_put, put_there, rising_sorted, taken_is, taken_within}
use Rattle.ifdb_store.specs.Stands.{stands}
use Rattle.ifdb_store.specs.InPlace.{IsPut, IsPlaced}
use Rattle.ifdb_store.specs.Pages.{Begins, Divides, Leaves, are_parts, front, is_node, is_page}
use Rattle.ifdb_store.specs.declared.even.Shape.{Shape}
use Rattle.ifdb_store.specs.Shapes.{cells_in, has_shape, head_in, is_unbound, refs_in}
use Rattle.ifdb_store.proofs.Shaping.{shaped_back}
use Rattle.ifdb_store.proofs.Splicing.{one_write, place_none, place_row, spliced_free, spliced_long}

-- rows that were put in rise
pub put_rises : (old new : List Row) (ws : List Write) (done : Bool) → IsPut old new ws done → are_fitting ws ≡ true → rising old ≡ true → rising new ≡ true
put_rises old new ws true p f h = ap rising p.rows ∙ rising_after old ws f h
put_rises old new ws false p f h = ap rising p.rows ∙ h

-- the first row's slot, where some rows in the middle are changed
front_mid : (xs a b ys : List Row) → 0 < length a → 0 < length b → front a ≡ front b → front (xs ++ (a ++ ys)) ≡ front (xs ++ (b ++ ys))
front_mid [] [] b ys m n e = absurd (omega arith)
front_mid [] (p ∷ a) [] ys m n e = absurd (omega arith)
front_mid [] (p ∷ a) (q ∷ b) ys m n e = e
front_mid (x ∷ xs) a b ys m n e = refl

some : (rows : List Row) (s : Slot) → Begins rows s → 0 < length rows
some rows s b = let long : length rows ≡ length (b.0 ∷ b.1) = ap length b.2 in omega (arith, long)

pub first_slot : (rows : List Row) (s : Slot) → Begins rows s → s ≡ front rows
first_slot rows s b = b.3 ∙ sym (ap front b.2)

-- a list of which an item is changed
pub all_set : {X : Type 0} (p : X → Bool) (xs : List X) (i : ℕ) (y : X) → list_all p xs ≡ true → p y ≡ true → list_all p (set xs i y) ≡ true
all_set p [] i y h e = refl
all_set p (x ∷ xs) zero y h e = grind (arith, nat_tests)
all_set p (x ∷ xs) (suc i) y h e = grind (arith, nat_tests, all_set p xs i y)

pub all_set_same : {X : Type 0} (p : X → Bool) (xs : List X) (i : ℕ) (x y : X) → x ≡ get_or xs i x → p y ≡ p x → list_all p (set xs i y) ≡ list_all p xs
all_set_same p [] i x y is e = refl
all_set_same p (z ∷ xs) zero x y is e = let same = e ∙ ap p is in ap (λ b. b && list_all p xs) same
all_set_same p (z ∷ xs) (suc i) x y is e = ap (λ b. p z && b) (all_set_same p xs i x y is e)

module _ {X : Type 0} (rows : X → List Row) (parts : List X) (i : ℕ) (x y : X) (lt : i < length parts) (is : x ≡ get_or parts i x) where
  -- the rows, with those of one part changed
  set_rows : flat_map rows (set parts i y) ≡ flat_map rows (take i parts) ++ (rows y ++ flat_map rows (drop (i + 1) parts))
  set_rows =
      let n : suc i ≡ i + 1 = omega arith in
      ap (flat_map rows) (set_split parts i y lt) ∙ (flat_map-append rows (take i parts) (y ∷ drop (suc i) parts)
      ∙ ap (λ k. flat_map rows (take i parts) ++ (rows y ++ flat_map rows (drop k parts))) n)

  -- and as they were
  all_rows : flat_map rows parts ≡ flat_map rows (take i parts) ++ (rows x ++ flat_map rows (drop (i + 1) parts))
  all_rows =
      ap (flat_map rows) (sym (take-append-drop i parts)) ∙ (flat_map-append rows (take i parts) (drop i parts)
      ∙ ap (λ ps. flat_map rows (take i parts) ++ flat_map rows ps) (drop_part)) where
        drop_part : drop i parts ≡ x ∷ drop (i + 1) parts
        drop_part = drop_more parts i x lt ∙ ap (λ z. z ∷ drop (i + 1) parts) (sym is)

  put_done : (ws : List Write) → Leaves rows parts ws i → Divides rows parts i ws (length ws) → rows y ≡ after (rows x) ws → flat_map rows (set parts i y) ≡ after (flat_map rows parts) ws
  put_done ws leaves divides e =
      let rest = flat_map rows (drop (i + 1) parts) in
      let split : after (flat_map rows (drop i parts)) ws ≡ after (rows x) ws ++ rest =
      divides x is ∙ (ap (λ us. after (rows x) us ++ after rest (drop (length ws) ws)) (take_all (length ws) ws (omega arith))
      ∙ ap (λ us. after (rows x) ws ++ after rest us) (drop_all (length ws) ws (omega arith))) in
      set_rows ∙ (ap (λ r. flat_map rows (take i parts) ++ (r ++ rest)) e ∙ sym (leaves ∙ ap (λ r. flat_map rows (take i parts) ++ r) split))

  put_kept : rows y ≡ rows x → flat_map rows (set parts i y) ≡ flat_map rows parts
  put_kept e = set_rows ∙ (ap (λ r. flat_map rows (take i parts) ++ (r ++ flat_map rows (drop (i + 1) parts))) e ∙ sym all_rows)

  put_rows : (ws : List Write) (done : Bool) → Leaves rows parts ws i → Divides rows parts i ws (length ws) → rows y ≡ (if done then after (rows x) ws else rows x)
      → flat_map rows (set parts i y) ≡ (if done then after (flat_map rows parts) ws else flat_map rows parts)
  put_rows ws true leaves divides e = put_done ws leaves divides e
  put_rows ws false leaves divides e = put_kept e

  -- one write put into one part is put into all
  pub put_part : (s q : Slot) (ws : List Write) (done : Bool) → Begins (rows x) s → Begins (rows y) q → Leaves rows parts ws i → Divides rows parts i ws (length ws) → IsPut (rows x) (rows y) ws done
      → IsPut (flat_map rows parts) (flat_map rows (set parts i y)) ws done
  put_part s q ws done b c leaves divides p = record {
    rows = put_rows ws done leaves divides p.rows;
    first = ap front set_rows ∙ (front_mid (flat_map rows (take i parts)) (rows y) (rows x) (flat_map rows (drop (i + 1) parts)) (some (rows y) q c) (some (rows x) s b) p.first ∙ sym (ap front all_rows));
  }

-- as many parts, as full as before, are a node as before
pub put_node : {X : Type 0} (rows : X → List Row) (is_part is_full : X → Bool) (parts more : List X) → is_node rows is_part is_full parts ≡ true
    → length more ≡ length parts → list_all is_part more ≡ true → list_all is_full more ≡ list_all is_full parts → rising (flat_map rows more) ≡ true → is_node rows is_part is_full more ≡ true
put_node rows is_part is_full parts more h n good full up = grind (arith, nat_tests, h, n, good, full, up)

-- and so are parts that are no node
pub put_parts : {X : Type 0} (rows : X → List Row) (is_part is_full : X → Bool) (parts more : List X) → are_parts rows is_part is_full parts ≡ true
    → length more ≡ length parts → list_all is_part more ≡ true → list_all is_full more ≡ list_all is_full parts → rising (flat_map rows more) ≡ true → are_parts rows is_part is_full more ≡ true
put_parts rows is_part is_full parts more h n good full up = grind (arith, nat_tests, h, n, good, full, up)

-- a row in place of one
front_set : (rows : List Row) (i : ℕ) (x y : Row) → y ≡ get_or rows i y → x.slot ≡ y.slot → front (set rows i x) ≡ front rows
front_set [] i x y is e = refl
front_set (r ∷ rows) zero x y is e = e ∙ ap (λ (z : Row). z.slot) is
front_set (r ∷ rows) (suc i) x y is e = refl

abbrev slot_in : Row → Slot
slot_in r = r.slot

module _ (rows : List Row) (s : Slot) (x : Row) (i : ℕ) (h : rising rows ≡ true) (f : is_same_slot x.slot s ≡ true) (a : i ≡ place_of slot_in s rows) (t : taken slot_in s rows ≡ true) where
  replaced : place s (Some x) rows ≡ set rows i x
  replaced = place_put s x rows ∙ (put_there slot_in s rows x (sym (rising_sorted rows) ∙ h) t ∙ ap (λ k. set rows k x) (sym a))

  replaced_first : (y : Row) → y ≡ get_or rows i y → front (set rows i x) ≡ front rows
  replaced_first y is =
      let sorted = sym (rising_sorted rows) ∙ h in
      let within = taken_within slot_in s rows sorted t in
      let lt : i < length rows = omega (arith, a, within) in
      let same : is_same_slot s y.slot ≡ true = taken_is slot_in s rows i y sorted a lt is ∙ t in
      front_set rows i x y is (slot_same x.slot s f ∙ slot_same s y.slot same)

-- nothing is put in
as_before : (old new : List Row) (w : Write) → new ≡ old → IsPlaced old new w false
as_before old new w e =
    let many : length new ≡ length old = ap length e in
    record { rows = e; first = ap front e; some = λ s. omega (arith, many, s); few = λ s. omega (arith, many, s) }

stands_one : (s : Slot) (rows : List Row) → stands s rows ≤ 1
stands_one s rows = by (list_any (λ (r : Row). is_same_slot s r.slot) rows) where
  by : (b : Bool) → (if b then 1 else 0) ≤ 1
  by true = omega arith
  by false = omega arith

-- a write that is put in place of its row
pub is_replaced : (old new : List Row) (w : Write) (x : Row) (i : ℕ) (done : Bool) → new ≡ (if done then set old i x else old) → rising old ≡ true → w.row ≡ Some x → is_fitting w.slot w.row ≡ true
    → i ≡ place_of slot_in w.slot old → taken slot_in w.slot old ≡ true → i < length old → IsPlaced old new w done
is_replaced old new w x i false e h o f a t lt = as_before old new w e
is_replaced old new w x i true e h o f a t lt =
    let fits : is_same_slot x.slot w.slot ≡ true = sym (ap (is_fitting w.slot) o) ∙ f in
    let y = get_or old i x in
    let is : y ≡ get_or old i y = get_or_default old i x y lt in
    let many : length new ≡ length old = ap length e ∙ length-set old i x in
    record {
      rows = e ∙ sym (ap (λ r. place w.slot r old) o ∙ replaced old w.slot x i h fits a t);
      first = ap front e ∙ replaced_first old w.slot x i h fits a t y is;
      some = λ s. omega (arith, many, s);
      few = λ s. omega (arith, many, s);
    }

-- the first row, of rows that begin with others
front_take : (rows ys : List Row) (n : ℕ) → 0 < n → 0 < length rows → front (take n rows ++ ys) ≡ front rows
front_take [] ys n a b = absurd (omega arith)
front_take (r ∷ rows) ys zero a b = absurd (omega arith)
front_take (r ∷ rows) ys (suc n) a b = refl

-- a write that is put between rows
pub is_inserted : (old new : List Row) (w : Write) (x : Row) (n m : ℕ) (done : Bool) → new ≡ (if done then take n old ++ (x ∷ drop n old) else old) → rising old ≡ true → w.row ≡ Some x
    → n ≡ place_of slot_in w.slot old → m ≡ n + stands w.slot old → m ≤ n → 0 < n → n ≤ length old → length old < 64 → IsPlaced old new w done
is_inserted old new w x n m false e h o a b le p within few = as_before old new w e
is_inserted old new w x n m true e h o a b le p within few =
    let same : n ≡ m = omega (arith, b, le) in
    let many : length new ≡ length old + 1 = ap length e ∙ omega (arith, length-append (take n old) (x ∷ drop n old), length-take-le n old within, length-drop n old, within) in
    record {
      rows = e ∙ (ap (λ k. take n old ++ (x ∷ drop k old)) same ∙ sym (ap (λ r. place w.slot r old) o ∙ place_row w.slot x old n m h a b));
      first = ap front e ∙ front_take old (x ∷ drop n old) n p (omega (arith, p, within));
      some = λ s. omega (arith, many, s);
      few = λ s. omega (arith, many, few);
    }

-- a row that is given up
pub is_removed : (old new : List Row) (w : Write) (n m : ℕ) (done : Bool) → new ≡ (if done then take n old ++ drop (n + 1) old else old) → rising old ≡ true → w.row ≡ None
    → n ≡ place_of slot_in w.slot old → m ≡ n + stands w.slot old → n < m → m ≤ length old → 0 < n → IsPlaced old new w done
is_removed old new w n m false e h o a b lt within p = as_before old new w e
is_removed old new w n m true e h o a b lt within p =
    let one : stands w.slot old ≤ 1 = stands_one w.slot old in
    let same : n + 1 ≡ m = omega (arith, b, lt, one) in
    let many : length new + 1 ≡ length old = ap (λ (xs : List Row). length xs + 1) e ∙ omega (arith, length-append (take n old) (drop (n + 1) old), length-take-le n old (omega (arith, lt, within)), length-drop (n + 1) old, within, same) in
    record {
      rows = e ∙ (ap (λ k. take n old ++ drop k old) same ∙ sym (ap (λ r. place w.slot r old) o ∙ place_none w.slot old n m h a b));
      first = ap front e ∙ front_take old (drop (n + 1) old) n p (omega (arith, lt, within));
      some = λ s. omega (arith, many, lt, within, p, same);
      few = λ s. omega (arith, many, s);
    }

-- where a gap takes in a row there is one
pub gap_taken : (b : Bool) (n m : ℕ) → m ≡ n + (if b then 1 else 0) → n < m → b ≡ true
gap_taken true n m e lt = refl
gap_taken false n m e lt = absurd (omega (arith, e, lt))

-- a page in which a row is replaced is a page
pub page_put : (old new : List Row) (w : Write) (done : Bool) → is_page old ≡ true → is_fitting w.slot w.row ≡ true → IsPlaced old new w done → is_page new ≡ true
page_put old new w true h f p =
    let up : rising old ≡ true = grind (arith, nat_tests, h) in
    let rises : rising new ≡ true = ap rising p.rows ∙ rising_place w.slot w.row old f up in
    let some : 0 < length new = p.some (grind (arith, nat_tests, h)) in
    let few : length new < 65 = p.few (grind (arith, nat_tests, h)) in
    grind (arith, nat_tests, rises, some, few)
page_put old new w false h f p = ap is_page p.rows ∙ h

-- one write, among the writes
pub put_one : (old new : List Row) (ws : List Write) (w : Write) (done : Bool) → length ws ≡ 1 → w ≡ get_or ws 0 w → IsPlaced old new w done → IsPut old new ws done
put_one old new ws w true n is p = record { rows = p.rows ∙ sym (one_write old ws w n is); first = p.first }
put_one old new ws w false n is p = record { rows = p.rows; first = p.first }

-- a row has as many values as its shape says
pub cells_wide : (s : Shape) → s.key ≤ s.width → (r : Row) → has_shape s r ≡ true → length (cells_in r) ≡ s.width
cells_wide s keyed r shaped =
    let key : length r.slot.key ≡ s.key = grind (arith, nat_tests, shaped) in
    let values : length r.values ≡ s.width - s.key = grind (arith, nat_tests, shaped) in
    omega (arith, keyed, key, values, length-append r.slot.key r.values)

-- the row in a list of values of its own
pub one_row : (s : Shape) → s.key ≤ s.width → (r : Row) (h : Head) (cs : List Value) → has_shape s r ≡ true → is_unbound r ≡ true → h ≡ head_in r → cs ≡ cells_in r
    → even_rows s.key s.width (h ∷ []) [] cs ≡ r ∷ []
one_row s keyed r h cs shaped unbound eh ec =
    let all : list_all (has_shape s) (r ∷ []) ≡ true = grind (arith, nat_tests, shaped) in
    let free : list_all is_unbound (r ∷ []) ≡ true = grind (arith, nat_tests, unbound) in
    let refs : refs_in (r ∷ []) ≡ [] = ap (λ b. if b then [] else map (λ (q : Row). q.refs) (r ∷ [])) free in
    ap (λ x. even_rows s.key s.width (x ∷ []) [] cs) eh
    ∙ (ap (even_rows s.key s.width (head_in r ∷ []) []) (ec ∙ sym (append-nil (cells_in r)))
    ∙ (ap (λ rs. even_rows s.key s.width (head_in r ∷ []) rs (cells_in r ++ [])) (sym refs) ∙ shaped_back s keyed (r ∷ []) all))

module _ (k w : ℕ) (keyed : k ≤ w) (hs : List Head) (rs : List (List Slot)) (cs : List Value) (long : length hs * w ≤ length cs) (i : ℕ) (lt : i < length hs) (cells : List Value) (wide : length cells ≡ w) where
  ends : i * w + length cells ≡ suc i * w
  ends = omega (arith, wide, suc-mul i w)

  -- a row in place of another, in the list of their values
  pub even_set : (h : Head) (x : Row) → rs ≡ [] → even_rows k w (h ∷ []) [] cells ≡ x ∷ []
      → even_rows k w (set hs i h) rs (take (i * w) cs ++ (cells ++ drop (i * w + length cells) cs)) ≡ set (even_rows k w hs rs cs) i x
  even_set h x none one =
      let long' : length cells ≡ length (h ∷ []) * w = omega (arith, wide) in
      let more = take (i * w) cs ++ (cells ++ drop (suc i * w) cs) in
      let many : i < length (even_rows k w hs rs cs) = omega (arith, lt, even_length k w hs rs cs) in
      ap (λ l. even_rows k w l rs (take (i * w) cs ++ (cells ++ drop (i * w + length cells) cs))) (set_split hs i h lt)
      ∙ (ap (λ n. even_rows k w (take i hs ++ (h ∷ drop (suc i) hs)) rs (take (i * w) cs ++ (cells ++ drop n cs))) ends
      ∙ (ap (λ r. even_rows k w (take i hs ++ (h ∷ drop (suc i) hs)) r more) none
      ∙ (spliced_free k w keyed hs rs cs long (h ∷ []) [] cells long' i (suc i) (omega (arith, lt)) refl none
      ∙ (ap (λ new. take i (even_rows k w hs rs cs) ++ (new ++ drop (suc i) (even_rows k w hs rs cs))) one
      ∙ sym (set_split (even_rows k w hs rs cs) i x many)))))

  pub set_within : i * w + length cells ≤ length cs
  set_within = omega (arith, wide, row_within i (length hs) w (length cs) lt long)

  pub set_long : (h : Head) → length (set hs i h) * w ≤ length (take (i * w) cs ++ (cells ++ drop (i * w + length cells) cs))
  set_long h =
      let within = set_within in
      let heads : length (set hs i h) * w ≡ length hs * w = ap (λ n. n * w) (length-set hs i h) in
      omega (
        arith,
        heads,
        long,
        within,
        length-append (take (i * w) cs) (cells ++ drop (i * w + length cells) cs),
        length-append cells (drop (i * w + length cells) cs),
        length-take-le (i * w) cs (omega (arith, within)),
        length-drop (i * w + length cells) cs,
      )

module _ (k w : ℕ) (keyed : k ≤ w) (hs : List Head) (rs : List (List Slot)) (cs : List Value) (long : length hs * w ≤ length cs) (i : ℕ) (free : rs ≡ []) where
  -- a row between others
  pub even_insert : (cells : List Value) → length cells ≡ w → (h : Head) (x : Row) → i ≤ length hs → even_rows k w (h ∷ []) [] cells ≡ x ∷ []
      → even_rows k w (take i hs ++ (h ∷ drop i hs)) rs (take (i * w) cs ++ (cells ++ drop (i * w) cs)) ≡ take i (even_rows k w hs rs cs) ++ (x ∷ drop i (even_rows k w hs rs cs))
  even_insert cells wide h x le one =
      let long' : length cells ≡ length (h ∷ []) * w = omega (arith, wide) in
      ap (λ r. even_rows k w (take i hs ++ (h ∷ drop i hs)) r (take (i * w) cs ++ (cells ++ drop (i * w) cs))) free
      ∙ (spliced_free k w keyed hs rs cs long (h ∷ []) [] cells long' i i le refl free
      ∙ ap (λ new. take i (even_rows k w hs rs cs) ++ (new ++ drop i (even_rows k w hs rs cs))) one)

  pub insert_long : (cells : List Value) → length cells ≡ w → (h : Head) → i ≤ length hs → length (take i hs ++ (h ∷ drop i hs)) * w ≤ length (take (i * w) cs ++ (cells ++ drop (i * w) cs))
  insert_long cells wide h le =
      let long' : length cells ≡ length (h ∷ []) * w = omega (arith, wide) in
      let order : i ≤ i = omega arith in
      spliced_long k w keyed hs rs cs long (h ∷ []) [] cells long' i i le order le

  after_one_more : i * w + w ≡ (i + 1) * w
  after_one_more = omega arith

  -- a row less
  pub even_remove : i < length hs → even_rows k w (take i hs ++ drop (i + 1) hs) rs (take (i * w) cs ++ drop (i * w + w) cs) ≡ take i (even_rows k w hs rs cs) ++ drop (i + 1) (even_rows k w hs rs cs)
  even_remove lt =
      ap (λ n. even_rows k w (take i hs ++ drop (i + 1) hs) rs (take (i * w) cs ++ drop n cs)) after_one_more
      ∙ (ap (λ r. even_rows k w (take i hs ++ drop (i + 1) hs) r (take (i * w) cs ++ drop ((i + 1) * w) cs)) free
      ∙ spliced_free k w keyed hs rs cs long [] [] [] (omega arith) i (i + 1) (omega (arith, lt)) refl free)

  pub remove_long : i < length hs → length (take i hs ++ drop (i + 1) hs) * w ≤ length (take (i * w) cs ++ drop (i * w + w) cs)
  remove_long lt =
      let order : i ≤ i + 1 = omega arith in
      let to : i + 1 ≤ length hs = omega (arith, lt) in
      let all = spliced_long k w keyed hs rs cs long [] [] [] (omega arith) i (i + 1) (omega (arith, lt)) order to in
      let cells : length (take (i * w) cs ++ drop (i * w + w) cs) ≡ length (take (i * w) cs ++ drop ((i + 1) * w) cs) = ap (λ n. length (take (i * w) cs ++ drop n cs)) after_one_more in
      omega (arith, all, cells)

-- an item that is put in and given up again
pub undone : {X : Type 0} (xs : List X) (i : ℕ) (x : X) → i ≤ length xs → take i (take i xs ++ (x ∷ drop i xs)) ++ drop (i + 1) (take i xs ++ (x ∷ drop i xs)) ≡ xs
undone xs i x le =
    let n : i + 1 ≡ suc i = omega arith in
    ap (λ k. take i (take i xs ++ (x ∷ drop i xs)) ++ drop k (take i xs ++ (x ∷ drop i xs))) n ∙ back xs i le where
      back : (ys : List _) (j : ℕ) → j ≤ length ys → take j (take j ys ++ (x ∷ drop j ys)) ++ drop (suc j) (take j ys ++ (x ∷ drop j ys)) ≡ ys
      back ys zero le = refl
      back [] (suc j) le = absurd (omega arith)
      back (y ∷ ys) (suc j) le = ap (λ zs. y ∷ zs) (back ys j (omega arith))
