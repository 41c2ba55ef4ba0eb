-- Runs of rows found in parts, and rows that no write touches.
use Rattle.std.proofs.Common.{◌≡◌, ℕ, zero, suc, ◌<◌, ◌+◌, ◌-◌, Bool, true, false, List, [], ◌∷◌, ◌++◌, length, get_or, take, drop, refl, sym, ap, subst, ◌∙◌, arith}
use Rattle.std.specs.Prelude.{not, cond, find, is_some, Option, Some, None}
use Rattle.std.specs.List.{list_all, flat_map}
use Rattle.std.proofs.lemmas.Bool.{false≢true}
use Rattle.std.proofs.lemmas.Bool.Decides.{nat_tests}
use Rattle.std.proofs.lemmas.Grind.{flat_map-append}
use Rattle.std.proofs.lemmas.List.{append_assoc, append-nil, take-append-drop, get_or_default}
use Rattle.std.proofs.lemmas.List.Folds.{list_all-append}
use Rattle.ifdb_value.proofs.Lists.{all_wider}
use Rattle.ifdb_row.specs.declared.slot.Slot.{Slot}
use Rattle.ifdb_row.specs.declared.row.Row.{Row}
use Rattle.ifdb_row.specs.declared.row.RowRef.{RowRef}
use Rattle.ifdb_row.specs.ByReference.{option_row}
use Rattle.ifdb_row.specs.declared.write.Write.{Write}
use Rattle.ifdb_row.specs.Slots.{is_same_slot, slot_lt}
use Rattle.ifdb_row.specs.Writes.{are_rising}
use Rattle.ifdb_row.specs.Content.{after, rising}
use Rattle.ifdb_row.specs.Reach.{reach, is_parted, skip}
use Rattle.ifdb_row.specs.Questions.{IsRun}
use Rattle.ifdb_row.proofs.SlotOrder.{slot_same, slot_lt_trans, slot_above}
use Rattle.ifdb_row.proofs.Rising.{Falls, rising_back, rising_between}
use Rattle.ifdb_row.proofs.Reaches.{reach_within, reach_passes}
use Rattle.ifdb_store.specs.Pages.{Begins}
use Rattle.ifdb_store.proofs.Parts.{after_right}
use Rattle.ifdb_store.proofs.PartLemmas.{part_at, drop_at}

-- a first row that stands before an edge, and rows before it
all_before : (p : Slot → Bool) → Falls p → (y : Row) (xs : List Row) → p y.slot ≡ true → list_all (λ (x : Row). slot_lt x.slot y.slot) xs ≡ true → list_all (λ (x : Row). p x.slot) xs ≡ true
all_before p f y xs e h = all_wider (λ (x : Row). slot_lt x.slot y.slot) (λ (x : Row). p x.slot) xs (λ x k. f x.slot y.slot k e) h

-- rows that all pass are skipped, and a row that doesn't pass ends it
skip_over : (t : Row → Bool) (xs ys : List Row) → list_all t xs ≡ true → skip t (xs ++ ys) ≡ skip t ys
skip_over t [] ys h = refl
skip_over t (x ∷ xs) ys h = grind (arith, nat_tests, skip_over t xs ys)

skip_up_to : (t : Row → Bool) (xs : List Row) (y : Row) (ys : List Row) → t y ≡ false → skip t (xs ++ y ∷ ys) ≡ skip t xs ++ y ∷ ys
skip_up_to t [] y ys h = grind (arith, nat_tests)
skip_up_to t (x ∷ xs) y ys h = grind (arith, nat_tests, skip_up_to t xs y ys h)

-- a run that has a row is one of more rows too
pub run_more : (run xs ys : List Row) → IsRun run xs → (run ≡ [] → ⊥) → IsRun run (xs ++ ys)
run_more run xs ys i n = record {
  rest = i.rest ++ ys;
  front = ap (λ zs. zs ++ ys) i.front ∙ append_assoc run i.rest ys;
  some = λ e. absurd (n e);
}

pub whole_run : (rows : List Row) → IsRun rows rows
whole_run rows = record { rest = []; front = sym (append-nil rows); some = λ e. e }

pub same_run : (run xs ys : List Row) → xs ≡ ys → IsRun run xs → IsRun run ys
same_run run xs ys e i = subst (λ zs. IsRun run zs) e i

-- a run of rows of which there is one has one
pub has_row : (run rows : List Row) (s : Slot) → Begins rows s → IsRun run rows → run ≡ [] → ⊥
has_row run rows s b i e = no_rows (sym b.2 ∙ i.some e) where
  no_rows : b.0 ∷ b.1 ≡ [] → ⊥
  no_rows k = cc

module _ {X : Type 0} (p : Slot → Bool) (f : Falls p) (rows : X → List Row) (place : X → Slot) (is_part : X → Bool) (begins : (x : X) → is_part x ≡ true → Begins (rows x) (place x)) where
  -- the rows from an edge on are those of the part that reaches it, and all behind that
  skipped : (x : X) (parts : List X) (y : X) → y ≡ get_or (x ∷ parts) (reach (λ z. p (place z)) parts) y → list_all is_part parts ≡ true → rising (flat_map rows (x ∷ parts)) ≡ true
      → skip (λ (r : Row). p r.slot) (flat_map rows (x ∷ parts)) ≡ skip (λ (r : Row). p r.slot) (rows y) ++ flat_map rows (drop (suc (reach (λ z. p (place z)) parts)) (x ∷ parts))
  skipped x [] y e h k = ap (skip (λ (r : Row). p r.slot)) (append-nil (rows x)) ∙ (ap (λ z. skip (λ (r : Row). p r.slot) (rows z)) (sym e) ∙ sym (append-nil (skip (λ (r : Row). p r.slot) (rows y))))
  skipped x (z ∷ parts) y e h k = by (skipped z parts y) (p (place z)) refl where
    t : Row → Bool
    t r = p r.slot

    b : Begins (rows z) (place z)
    b = begins z (grind (arith, nat_tests))

    goal : ℕ → Type 0
    goal n = y ≡ get_or (x ∷ z ∷ parts) n y → skip (λ (r : Row). p r.slot) (flat_map rows (x ∷ z ∷ parts)) ≡ skip (λ (r : Row). p r.slot) (rows y) ++ flat_map rows (drop (suc n) (x ∷ z ∷ parts))

    up : rising (rows x ++ b.0 ∷ (b.1 ++ flat_map rows parts)) ≡ true
    up = ap (λ r. rising (rows x ++ (r ++ flat_map rows parts))) (sym b.2) ∙ k

    low : p (place z) ≡ true → list_all (λ (r : Row). p r.slot) (rows x) ≡ true
    low u = all_before p f b.0 (rows x) (ap p (sym b.3) ∙ u) (rising_between (rows x) b.0 (b.1 ++ flat_map rows parts) up)

    by : (y ≡ get_or (z ∷ parts) (reach (λ z. p (place z)) parts) y → list_all is_part parts ≡ true → rising (flat_map rows (z ∷ parts)) ≡ true
        → skip (λ (r : Row). p r.slot) (flat_map rows (z ∷ parts)) ≡ skip (λ (r : Row). p r.slot) (rows y) ++ flat_map rows (drop (suc (reach (λ z. p (place z)) parts)) (z ∷ parts)))
        → (c : Bool) → p (place z) ≡ c → skip (λ (r : Row). p r.slot) (flat_map rows (x ∷ z ∷ parts)) ≡ skip (λ (r : Row). p r.slot) (rows y) ++ flat_map rows (drop (suc (reach (λ z. p (place z)) (z ∷ parts))) (x ∷ z ∷ parts))
    by more true u =
        let n = reach (λ z. p (place z)) parts in
        let is : reach (λ z. p (place z)) (z ∷ parts) ≡ suc n = ap (λ c. cond c (suc n) 0) u in
        skip_over (λ (r : Row). p r.slot) (rows x) (flat_map rows (z ∷ parts)) (low u)
        ∙ (more (e ∙ ap (λ m. get_or (x ∷ z ∷ parts) m y) is) (grind (arith, nat_tests)) (rising_back (rows x) (flat_map rows (z ∷ parts)) k)
        ∙ ap (λ m. skip (λ (r : Row). p r.slot) (rows y) ++ flat_map rows (drop (suc m) (x ∷ z ∷ parts))) (sym is))
    by more false u =
        let n = reach (λ z. p (place z)) parts in
        let is : reach (λ z. p (place z)) (z ∷ parts) ≡ 0 = ap (λ c. cond c (suc n) 0) u in
        let no : p b.0.slot ≡ false = ap p (sym b.3) ∙ u in
        let at : x ≡ y = sym (e ∙ ap (λ m. get_or (x ∷ z ∷ parts) m y) is) in
        let split : flat_map rows (z ∷ parts) ≡ b.0 ∷ (b.1 ++ flat_map rows parts) = ap (λ r. r ++ flat_map rows parts) b.2 in
        ap (λ r. skip (λ (r : Row). p r.slot) (rows x ++ r)) split
        ∙ (skip_up_to (λ (r : Row). p r.slot) (rows x) b.0 (b.1 ++ flat_map rows parts) no
        ∙ (ap (λ w. skip (λ (r : Row). p r.slot) (rows w) ++ b.0 ∷ (b.1 ++ flat_map rows parts)) at
        ∙ (ap (λ r. skip (λ (r : Row). p r.slot) (rows y) ++ r) (sym split)
        ∙ ap (λ m. skip (λ (r : Row). p r.slot) (rows y) ++ flat_map rows (drop (suc m) (x ∷ z ∷ parts))) (sym is))))

  pub skipped_at : (parts : List X) (k : ℕ) (y : X) → 0 < length parts → k ≡ reach (λ z. p (place z)) (drop 1 parts) → y ≡ get_or parts k y → list_all is_part parts ≡ true → rising (flat_map rows parts) ≡ true
      → skip (λ (r : Row). p r.slot) (flat_map rows parts) ≡ skip (λ (r : Row). p r.slot) (rows y) ++ flat_map rows (drop (k + 1) parts)
  skipped_at [] k y some e is h up = absurd (omega arith)
  skipped_at (x ∷ parts) k y some e is h up =
      let n = reach (λ z. p (place z)) parts in
      let one : suc n ≡ k + 1 = omega arith in
      skipped x parts y (is ∙ ap (λ m. get_or (x ∷ parts) m y) e) (grind (arith, nat_tests)) up ∙ ap (λ m. skip (λ (r : Row). p r.slot) (rows y) ++ flat_map rows (drop m (x ∷ parts))) one

  rising_skip : (xs ys zs : List Row) → rising (xs ++ (ys ++ zs)) ≡ true → rising (xs ++ zs) ≡ true
  rising_skip [] ys zs h = rising_back ys zs h
  rising_skip (x ∷ xs) ys zs h =
      grind (arith, nat_tests, rising_skip xs ys zs, list_all-append (λ (z : Row). slot_lt x.slot z.slot) xs (ys ++ zs), list_all-append (λ (z : Row). slot_lt x.slot z.slot) xs zs, list_all-append (λ (z : Row). slot_lt x.slot z.slot) ys zs)

  none_later : (x : X) (parts : List X) → is_part x ≡ true → list_all is_part parts ≡ true → p (place x) ≡ false → rising (flat_map rows (x ∷ parts)) ≡ true → list_all (λ y. not (p (place y))) parts ≡ true
  none_later x [] a h e k = refl
  none_later x (y ∷ parts) a h e k =
      let more = none_later x parts a (grind (arith, nat_tests)) e (rising_skip (rows x) (rows y) (flat_map rows parts) k) in
      let b = begins x a in
      let c = begins y (grind (arith, nat_tests)) in
      let up : rising (b.0 ∷ (b.1 ++ (c.0 ∷ (c.1 ++ flat_map rows parts)))) ≡ true = ap (λ r. rising (r ++ (c.0 ∷ (c.1 ++ flat_map rows parts)))) (sym b.2) ∙ (ap (λ r. rising (rows x ++ (r ++ flat_map rows parts))) (sym c.2) ∙ k) in
      let lt : slot_lt b.0.slot c.0.slot ≡ true = grind (arith, nat_tests, list_all-append (λ (z : Row). slot_lt b.0.slot z.slot) b.1 (c.0 ∷ (c.1 ++ flat_map rows parts))) in
      let here : p (place y) ≡ true → ⊥ = λ u. false≢true (sym (ap p (sym b.3) ∙ e) ∙ f b.0.slot c.0.slot lt (ap p (sym c.3) ∙ u)) in
      grind (arith, nat_tests, here, more)

  pub parted_parts : (parts : List X) → list_all is_part parts ≡ true → rising (flat_map rows parts) ≡ true → is_parted (λ x. p (place x)) parts ≡ true
  parted_parts [] h k = refl
  parted_parts (x ∷ parts) h k = by (parted_parts parts (grind (arith, nat_tests)) (rising_back (rows x) (flat_map rows parts) k)) (p (place x)) refl where
    by : is_parted (λ x. p (place x)) parts ≡ true → (b : Bool) → p (place x) ≡ b → is_parted (λ x. p (place x)) (x ∷ parts) ≡ true
    by more true e = grind (arith, nat_tests, more)
    by more false e = let n = none_later x parts (grind (arith, nat_tests)) (grind (arith, nat_tests)) e k in grind (arith, nat_tests, n)

-- ---- rows before all writes

under_write : (s : Slot) (y : Row) (xs : List Row) → slot_lt s y.slot ≡ false → list_all (λ (x : Row). slot_lt x.slot y.slot) xs ≡ true → list_all (λ (x : Row). slot_lt x.slot s) xs ≡ true
under_write s y xs e h = all_wider (λ (x : Row). slot_lt x.slot y.slot) (λ (x : Row). slot_lt x.slot s) xs (λ x k. under x.slot k) h where
  under : (q : Slot) → slot_lt q y.slot ≡ true → slot_lt q s ≡ true
  under q k = by (slot_lt q s) refl where
    by : (b : Bool) → slot_lt q s ≡ b → slot_lt q s ≡ true
    by true u = u
    by false u = same (is_same_slot q s) refl where
      same : (b : Bool) → is_same_slot q s ≡ b → slot_lt q s ≡ true
      same true v = absurd (false≢true (sym e ∙ (ap (λ z. slot_lt z y.slot) (sym (slot_same q s v)) ∙ k)))
      same false v = absurd (false≢true (sym e ∙ slot_lt_trans s q y.slot (slot_above q s v u) k))

under_all : (w : Write) (ws : List Write) (xs : List Row) → are_rising (w ∷ ws) ≡ true → list_all (λ (x : Row). slot_lt x.slot w.slot) xs ≡ true → list_all (λ (v : Write). list_all (λ (x : Row). slot_lt x.slot v.slot) xs) (w ∷ ws) ≡ true
under_all w ws xs r h =
    let later : list_all (λ (v : Write). slot_lt w.slot v.slot) ws ≡ true = grind (arith, nat_tests) in
    let each = all_wider (λ (v : Write). slot_lt w.slot v.slot) (λ (v : Write). list_all (λ (x : Row). slot_lt x.slot v.slot) xs) ws
    (λ v k. all_wider (λ (x : Row). slot_lt x.slot w.slot) (λ (x : Row). slot_lt x.slot v.slot) xs (λ x u. slot_lt_trans x.slot w.slot v.slot u k) h) later in
    grind (arith, nat_tests, each)

module _ {X : Type 0} (rows : X → List Row) (place : X → Slot) (is_part : X → Bool) (begins : (x : X) → is_part x ≡ true → Begins (rows x) (place x)) where
  pub before_writes : (parts : List X) (i : ℕ) (q : X) (w : Write) (ws : List Write) → i < length parts → q ≡ get_or parts i q → list_all is_part parts ≡ true → rising (flat_map rows parts) ≡ true
      → not (slot_lt w.slot (place q)) ≡ true → are_rising (w ∷ ws) ≡ true
      → after (flat_map rows parts) (w ∷ ws) ≡ flat_map rows (take i parts) ++ after (flat_map rows (drop i parts)) (w ∷ ws)
  before_writes parts i q w ws lt e good h n r =
      let b = begins q (part_at rows place is_part begins parts i q lt e good) in
      let split : flat_map rows parts ≡ flat_map rows (take i parts) ++ flat_map rows (drop i parts) = ap (flat_map rows) (sym (take-append-drop i parts)) ∙ flat_map-append rows (take i parts) (drop i parts) in
      let here : flat_map rows (drop i parts) ≡ b.0 ∷ (b.1 ++ flat_map rows (drop (i + 1) parts)) = ap (flat_map rows) (drop_at rows place is_part begins parts i q lt e) ∙ ap (λ x. x ++ flat_map rows (drop (i + 1) parts)) b.2 in
      let low = rising_between (flat_map rows (take i parts)) b.0 (b.1 ++ flat_map rows (drop (i + 1) parts)) (ap rising (sym (split ∙ ap (λ x. flat_map rows (take i parts) ++ x) here)) ∙ h) in
      let no : slot_lt w.slot b.0.slot ≡ false = ap (slot_lt w.slot) (sym b.3) ∙ grind (arith, nat_tests) in
      ap (λ x. after x (w ∷ ws)) split ∙ after_right (flat_map rows (take i parts)) (flat_map rows (drop i parts)) (w ∷ ws) (under_all w ws (flat_map rows (take i parts)) r (under_write w.slot b.0 (flat_map rows (take i parts)) no low))

  pub skips : (parts : List X) (k : ℕ) (ws : List Write) (w : Write) → k ≡ reach (λ x. not (slot_lt w.slot (place x))) parts → (k ≡ 0 → ⊥) → 0 < length ws → w ≡ get_or ws 0 w
      → list_all is_part parts ≡ true → rising (flat_map rows parts) ≡ true → are_rising ws ≡ true
      → after (flat_map rows parts) ws ≡ flat_map rows (take (k - 1) parts) ++ after (flat_map rows (drop (k - 1) parts)) ws
  skips parts k [] w e n some v good h r = absurd (omega arith)
  skips [] k (y ∷ ws) w e n some v good h r = absurd (n e)
  skips (x ∷ parts) k (y ∷ ws) w e n some v good h r =
      let within = reach_within (λ x. not (slot_lt w.slot (place x))) (x ∷ parts) in
      let lt : k - 1 < length (x ∷ parts) = omega arith in
      let q = get_or (x ∷ parts) (k - 1) x in
      let at : q ≡ get_or (x ∷ parts) (k - 1) q = get_or_default (x ∷ parts) (k - 1) x q lt in
      let pass = reach_passes (λ x. not (slot_lt w.slot (place x))) (x ∷ parts) (k - 1) q (omega arith) at in
      before_writes (x ∷ parts) (k - 1) q y ws lt at good h (ap (λ (u : Write). not (slot_lt u.slot (place q))) (sym v) ∙ pass) r

rest_parts : {X : Type 0} (is_part : X → Bool) (parts : List X) → list_all is_part parts ≡ true → list_all is_part (drop 1 parts) ≡ true
rest_parts is_part [] h = refl
rest_parts is_part (x ∷ parts) h = grind (arith, nat_tests)

rest_rising : {X : Type 0} (rows : X → List Row) (parts : List X) → rising (flat_map rows parts) ≡ true → rising (flat_map rows (drop 1 parts)) ≡ true
rest_rising rows [] h = h
rest_rising rows (x ∷ parts) h = rising_back (rows x) (flat_map rows parts) h

-- the parts behind the first are parted as all are
pub parted_others : {X : Type 0} (p : Slot → Bool) → Falls p → (rows : X → List Row) (place : X → Slot) (is_part : X → Bool) → ((x : X) → is_part x ≡ true → Begins (rows x) (place x))
    → (parts : List X) → list_all is_part parts ≡ true → rising (flat_map rows parts) ≡ true → is_parted (λ x. p (place x)) (drop 1 parts) ≡ true
parted_others p f rows place is_part begins parts h k = parted_parts p f rows place is_part begins (drop 1 parts) (rest_parts is_part parts h) (rest_rising rows parts k)

pub empty_run : (run : List Row) → length run ≡ 0 → run ≡ []
empty_run [] e = refl
empty_run (r ∷ run) e = absurd (omega arith)

pub some_run : (run : List Row) → (length run ≡ 0 → ⊥) → run ≡ [] → ⊥
some_run run n e = n (ap length e)

-- ---- the first row that passes, of all parts

find_past : (q : Row → Bool) (xs ys : List Row) → find q xs ≡ None → find q (xs ++ ys) ≡ find q ys
find_past q [] ys n = refl
find_past q (x ∷ xs) ys n = by (find_past q xs ys) (q x) refl where
  by : (find q xs ≡ None → find q (xs ++ ys) ≡ find q ys) → (b : Bool) → q x ≡ b → find q ((x ∷ xs) ++ ys) ≡ find q ys
  by more true u = grind (arith, nat_tests)
  by more false u = grind (arith, nat_tests, more)

find_front : (q : Row → Bool) (xs ys : List Row) → is_some (find q xs) ≡ true → find q (xs ++ ys) ≡ find q xs
find_front q [] ys s = absurd (false≢true s)
find_front q (x ∷ xs) ys s = by (find_front q xs ys) (q x) refl where
  by : (is_some (find q xs) ≡ true → find q (xs ++ ys) ≡ find q xs) → (b : Bool) → q x ≡ b → find q ((x ∷ xs) ++ ys) ≡ find q (x ∷ xs)
  by more true u = grind (arith, nat_tests)
  by more false u = grind (arith, nat_tests, more)

none_front : (q : Row → Bool) (xs ys : List Row) → find q (xs ++ ys) ≡ None → find q xs ≡ None
none_front q [] ys n = refl
none_front q (x ∷ xs) ys n = by (none_front q xs ys) (q x) refl where
  by : (find q (xs ++ ys) ≡ None → find q xs ≡ None) → (b : Bool) → q x ≡ b → find q (x ∷ xs) ≡ None
  by more true u = grind (arith, nat_tests)
  by more false u = grind (arith, nat_tests, more)

pub some_row : (o : Option RowRef) → is_some o ≡ is_some (option_row o)
some_row None = refl
some_row (Some r) = refl

pub none_row : (o : Option RowRef) → is_some o ≡ false → option_row o ≡ None
none_row None e = refl
none_row (Some r) e = cc

module _ {X : Type 0} (q : Row → Bool) (rows : X → List Row) where
  pub part_finds : (parts : List X) (i : ℕ) (x : X) → find q (flat_map rows (take i parts)) ≡ None → i < length parts → x ≡ get_or parts i x → is_some (find q (rows x)) ≡ true
      → find q (flat_map rows parts) ≡ find q (rows x)
  part_finds [] i x n lt e s = absurd (omega arith)
  part_finds (y ∷ parts) zero x n lt e s = find_front q (rows y) (flat_map rows parts) (ap (λ z. is_some (find q (rows z))) (sym e) ∙ s) ∙ ap (λ z. find q (rows z)) (sym e)
  part_finds (y ∷ parts) (suc i) x n lt e s =
      let none = none_front q (rows y) (flat_map rows (take i parts)) n in
      find_past q (rows y) (flat_map rows parts) none ∙ part_finds parts i x (sym (find_past q (rows y) (flat_map rows (take i parts)) none) ∙ n) (omega arith) e s

  part_none : (parts : List X) (i : ℕ) (x : X) → find q (flat_map rows (take i parts)) ≡ None → i < length parts → x ≡ get_or parts i x → find q (rows x) ≡ None
      → find q (flat_map rows (take (suc i) parts)) ≡ None
  part_none [] i x n lt e s = refl
  part_none (y ∷ parts) zero x n lt e s = find_past q (rows y) [] (ap (λ z. find q (rows z)) (sym e) ∙ s)
  part_none (y ∷ parts) (suc i) x n lt e s =
      let none = none_front q (rows y) (flat_map rows (take i parts)) n in
      find_past q (rows y) (flat_map rows (take (suc i) parts)) none ∙ part_none parts i x (sym (find_past q (rows y) (flat_map rows (take i parts)) none) ∙ n) (omega arith) e s

  pub part_passes_none : (parts : List X) (i : ℕ) (x : X) → find q (flat_map rows (take i parts)) ≡ None → i < length parts → x ≡ get_or parts i x → find q (rows x) ≡ None
      → find q (flat_map rows (take (i + 1) parts)) ≡ None
  part_passes_none parts i x n lt e s = let one : suc i ≡ i + 1 = omega arith in ap (λ m. find q (flat_map rows (take m parts))) (sym one) ∙ part_none parts i x n lt e s
