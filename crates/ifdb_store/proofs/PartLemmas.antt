-- Parts of rising rows, and writes of each part.
use Rattle.std.proofs.Common.{◌≡◌, ℕ, zero, suc, ◌<◌, ◌≤◌, ◌+◌, ◌-◌, Bool, true, false, List, [], ◌∷◌, ◌++◌, length, get_or, take, drop, refl, sym, ap, subst, ◌∙◌, arith}
use Rattle.std.specs.Prelude.{not}
use Rattle.std.specs.List.{list_all, flat_map}
use Rattle.std.proofs.lemmas.Bool.{false≢true}
use Rattle.std.proofs.lemmas.Bool.Decides.{nat_tests}
use Rattle.std.proofs.lemmas.Grind.{flat_map-append}
use Rattle.std.proofs.lemmas.List.{drop_more, take-append-drop, take_all}
use Rattle.ifdb_row.specs.declared.slot.Slot.{Slot}
use Rattle.ifdb_row.specs.declared.row.Row.{Row}
use Rattle.ifdb_row.specs.declared.write.Write.{Write}
use Rattle.ifdb_row.specs.Slots.{is_same_slot, slot_lt}
use Rattle.ifdb_row.specs.Writes.{is_fitting, are_fitting}
use Rattle.ifdb_row.specs.Content.{after, rising}
use Rattle.ifdb_row.proofs.SlotOrder.{slot_same, slot_lt_itself, slot_lt_trans}
use Rattle.ifdb_value.proofs.Lists.{all_wider}
use Rattle.ifdb_row.proofs.ContentLaws.{above}
use Rattle.ifdb_store.specs.Pages.{Begins, Divides}
use Rattle.ifdb_store.proofs.Parts.{Cuts, after_parts, rows_in}
use Rattle.ifdb_row.proofs.Rising.{lt_from, lt_not_back, rising_front, rising_back, rising_between}
use Rattle.ifdb_store.proofs.WriteLemmas.{all_take}

-- the order cuts at a slot
pub cuts_at : (s : Slot) → Cuts (λ q. slot_lt q s)
cuts_at s p q a b = by (slot_lt p q) refl where
  by : (c : Bool) → slot_lt p q ≡ c → slot_lt p q ≡ true
  by true e = e
  by false e = same (is_same_slot p q) refl where
    same : (c : Bool) → is_same_slot p q ≡ c → slot_lt p q ≡ true
    same true k = absurd (false≢true (sym b ∙ (ap (λ x. slot_lt x s) (sym (slot_same p q k)) ∙ a)))
    same false k = lt_from p q k (back (slot_lt q p) refl) where
      back : (c : Bool) → slot_lt q p ≡ c → slot_lt q p ≡ false
      back false u = u
      back true u = absurd (false≢true (sym b ∙ slot_lt_trans q p s u a))

behind_first : (y : Row) (ys : List Row) → above y.slot ys ≡ true → rows_in (λ q. not (slot_lt q y.slot)) (y ∷ ys) ≡ true
behind_first y ys h =
    let first = slot_lt_itself y.slot in
    let more = all_wider (λ (x : Row). slot_lt y.slot x.slot) (λ (x : Row). not (slot_lt x.slot y.slot)) ys (λ x k. grind (arith, nat_tests, lt_not_back y.slot x.slot)) h in
    grind (arith, nat_tests)

module _ {X : Type 0} (rows : X → List Row) (place : X → Slot) (is_part : X → Bool) (begins : (x : X) → is_part x ≡ true → Begins (rows x) (place x)) where
  pub rising_behind : (parts : List X) (i : ℕ) → rising (flat_map rows parts) ≡ true → rising (flat_map rows (drop i parts)) ≡ true
  rising_behind parts zero h = h
  rising_behind [] (suc i) h = h
  rising_behind (p ∷ parts) (suc i) h = rising_behind parts i (rising_back (rows p) (flat_map rows parts) h)

  pub part_at : (parts : List X) (i : ℕ) (x : X) → i < length parts → x ≡ get_or parts i x → list_all is_part parts ≡ true → is_part x ≡ true
  part_at [] i x lt e h = absurd (omega arith)
  part_at (p ∷ parts) zero x lt e h = ap is_part e ∙ grind (arith, nat_tests)
  part_at (p ∷ parts) (suc i) x lt e h = part_at parts i x (omega arith) e (grind (arith, nat_tests))

  pub drop_at : (parts : List X) (i : ℕ) (x : X) → i < length parts → x ≡ get_or parts i x → drop i parts ≡ x ∷ drop (i + 1) parts
  drop_at parts i x lt e = drop_more parts i x lt ∙ ap (λ y. y ∷ drop (i + 1) parts) (sym e)

  pub divides : (parts : List X) (i n : ℕ) (ws : List Write) (q : X) → i + 1 < length parts → q ≡ get_or parts (i + 1) q
      → list_all is_part parts ≡ true → rising (flat_map rows parts) ≡ true → are_fitting ws ≡ true
      → list_all (λ (w : Write). slot_lt w.slot (place q)) (take n ws) ≡ true → list_all (λ (w : Write). not (slot_lt w.slot (place q))) (drop n ws) ≡ true
      → Divides rows parts i ws n
  divides parts i n ws q lt e good h f a b x k =
      let next = drop_at parts (i + 1) q lt e in
      let here = drop_at parts i x (omega arith) k in
      let begin = begins q (part_at parts (i + 1) q lt e good) in
      let behind : flat_map rows (drop (i + 1) parts) ≡ begin.0 ∷ (begin.1 ++ flat_map rows (drop (i + 1 + 1) parts)) = ap (flat_map rows) next ∙ ap (λ r. r ++ flat_map rows (drop (i + 1 + 1) parts)) begin.2 in
      let all : rising (rows x ++ flat_map rows (drop (i + 1) parts)) ≡ true = ap (λ ps. rising (flat_map rows ps)) (sym here) ∙ rising_behind parts i h in
      let low : rows_in (λ s. slot_lt s (place q)) (rows x) ≡ true =
      subst (λ (s : Slot). rows_in (λ p. slot_lt p s) (rows x) ≡ true) (sym begin.3) (rising_between (rows x) begin.0 (begin.1 ++ flat_map rows (drop (i + 1 + 1) parts)) (ap (λ ys. rising (rows x ++ ys)) (sym behind) ∙ all)) in
      let up : rising (begin.0 ∷ (begin.1 ++ flat_map rows (drop (i + 1 + 1) parts))) ≡ true = ap rising (sym behind) ∙ rising_back (rows x) _ all in
      let high : rows_in (λ s. not (slot_lt s (place q))) (flat_map rows (drop (i + 1) parts)) ≡ true =
      subst (λ (s : Slot). rows_in (λ p. not (slot_lt p s)) (flat_map rows (drop (i + 1) parts)) ≡ true) (sym begin.3)
      (ap (rows_in (λ p. not (slot_lt p begin.0.slot))) behind ∙ behind_first begin.0 (begin.1 ++ flat_map rows (drop (i + 1 + 1) parts)) (grind (arith, nat_tests, up))) in
      ap (λ ps. after (flat_map rows ps) ws) here
      ∙ (ap (after (rows x ++ flat_map rows (drop (i + 1) parts))) (sym (take-append-drop n ws))
      ∙ after_parts (λ s. slot_lt s (place q)) (cuts_at (place q)) (rows x) (flat_map rows (drop (i + 1) parts)) (take n ws) (drop n ws)
      (all_take (λ (w : Write). is_fitting w.slot w.row) n ws f) low a high b)

-- ---- parts by number

pub take_part : {X : Type 0} (n m : ℕ) (xs : List X) → n ≤ m → take m xs ≡ take n xs ++ take (m - n) (drop n xs)
take_part zero m xs le = let e : m - 0 ≡ m = omega arith in ap (λ k. take k xs) (sym e)
take_part (suc n) zero xs le = absurd (omega arith)
take_part (suc n) (suc m) [] le = sym (take_all (suc m - suc n) [] (omega arith))
take_part (suc n) (suc m) (x ∷ xs) le = let more = take_part n m xs (omega arith) in let e : suc m - suc n ≡ m - n = omega arith in rw e (ap (λ ys. x ∷ ys) more)

flat_part : {X : Type 0} (rows : X → List Row) (n k : ℕ) (parts : List X) → flat_map rows parts ≡ flat_map rows (take n parts) ++ (flat_map rows (take k (drop n parts)) ++ flat_map rows (drop k (drop n parts)))
flat_part rows n k parts =
    ap (flat_map rows) (sym (take-append-drop n parts)) ∙ (flat_map-append rows (take n parts) (drop n parts)
    ∙ ap (λ r. flat_map rows (take n parts) ++ r) (ap (flat_map rows) (sym (take-append-drop k (drop n parts))) ∙ flat_map-append rows (take k (drop n parts)) (drop k (drop n parts))))

pub rising_parts : {X : Type 0} (rows : X → List Row) (n k : ℕ) (parts : List X) → rising (flat_map rows parts) ≡ true → rising (flat_map rows (take k (drop n parts))) ≡ true
rising_parts rows n k parts h =
    rising_front (flat_map rows (take k (drop n parts))) _ (rising_back (flat_map rows (take n parts)) _ (ap rising (sym (flat_part rows n k parts)) ∙ h))

pub flat_take_part : {X : Type 0} (rows : X → List Row) (n m : ℕ) (parts : List X) → n ≤ m → flat_map rows (take m parts) ≡ flat_map rows (take n parts) ++ flat_map rows (take (m - n) (drop n parts))
flat_take_part rows n m parts le = ap (flat_map rows) (take_part n m parts le) ∙ flat_map-append rows (take n parts) (take (m - n) (drop n parts))
