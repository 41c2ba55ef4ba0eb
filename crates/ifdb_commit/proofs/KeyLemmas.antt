-- Writes around a key: those before it aren't of it, and behind the first that is beyond it none is.
use Rattle.std.proofs.Common.{◌≡◌, ℕ, zero, suc, ◌<◌, length, get_or, take, Bool, true, false, List, [], ◌∷◌, ◌∙◌, refl, sym, ap, arith, subst, Ordering, Bor}
use Rattle.std.specs.Prelude.{not, ◌==◌, nat_lt, cond}
use Rattle.std.specs.List.{list_all}
use Rattle.std.specs.Ordering.{is_lt, is_gt, is_eq}
use Rattle.std.specs.declared.cmp.Ordering.TheVariants.{Less, Equal, Greater}
use Rattle.std.proofs.lemmas.Cmp.{tied_itself}
use Rattle.std.proofs.lemmas.Bool.{false≢true}
use Rattle.std.proofs.lemmas.Bool.Decides.{nat_tests}
use Rattle.ifdb_label.specs.Tags.{MadeTag}
use Rattle.ifdb_value.specs.declared.value.Value.{Value}
use Rattle.ifdb_value.proofs.Lists.{all_wider}
use Rattle.ifdb_row.specs.declared.slot.Slot.{Slot}
use Rattle.ifdb_row.specs.declared.write.Write.{Write}
use Rattle.ifdb_row.specs.declared.edge.Edge.TheVariants.{Key}
use Rattle.ifdb_row.specs.Writes.{are_rising}
use Rattle.ifdb_row.specs.Slots.{key_cmp, is_same_key, is_of_key, slot_lt}
use Rattle.ifdb_row.specs.Reach.{is_parted, skip}
use Rattle.ifdb_row.specs.Verdict.{meets}
use Rattle.ifdb_row.proofs.SlotOrder.{key_exact, key_itself}
use Rattle.ifdb_row.proofs.Edges.{key_total, edge_falls, slot_lt_table, slot_lt_key}
use Rattle.ifdb_row.proofs.Rising.{Falls}
use Rattle.ifdb_commit.specs.Meeting.{is_behind_key}

-- a slot stands before all slots of a table and key
abbrev pub before : ℕ → List Value → Slot → Bool
before t k s = cond (s.table == t) (is_lt (key_cmp s.key k)) (nat_lt s.table t)

pub before_falls : (t : ℕ) (b : Bor (List Value)) (k : List Value) → b.now ≡ k → Falls (before t k)
before_falls t b k e = subst (λ x. Falls (before t x)) e (edge_falls (Key t b))

pub parted_writes : (t : Slot → Bool) → Falls t → (ws : List Write) → are_rising ws ≡ true → is_parted (λ (w : Write). t w.slot) ws ≡ true
parted_writes t falls [] h = refl
parted_writes t falls (w ∷ ws) h = by (parted_writes t falls ws) (t w.slot) refl where
  back : (v : Write) → t w.slot ≡ false → slot_lt w.slot v.slot ≡ true → (b : Bool) → t v.slot ≡ b → not (t v.slot) ≡ true
  back v e lt true k = absurd (false≢true (sym e ∙ falls w.slot v.slot lt k))
  back v e lt false k = ap not k

  by : (are_rising ws ≡ true → is_parted (λ (v : Write). t v.slot) ws ≡ true) → (b : Bool) → t w.slot ≡ b → is_parted (λ (v : Write). t v.slot) (w ∷ ws) ≡ true
  by more true e = grind (arith, nat_tests, more)
  by more false e =
      let none : list_all (λ (v : Write). not (t v.slot)) ws ≡ true = all_wider (λ (v : Write). slot_lt w.slot v.slot) (λ (v : Write). not (t v.slot)) ws (λ v k. back v e k (t v.slot) refl) (grind (arith, nat_tests)) in
      grind (arith, nat_tests)

-- ---- the key of a slot

module _ (s : Slot) where
  -- the write is of the slot's key
  abbrev pub of_key : Write → Bool
  of_key w = is_of_key w.slot.table w.slot.key s

  same_key : (w : Write) → of_key w ≡ true → (s.table ≡ w.slot.table) × (s.key ≡ w.slot.key)
  same_key w h =
      let parts : ((s.table == w.slot.table) ≡ true) × (is_same_key s.key w.slot.key ≡ true) = grind (arith, nat_tests) in
      (grind (arith, nat_tests), key_exact s.key w.slot.key parts.1)

  -- a write before the key isn't of it
  pub before_not : (w : Write) → is_behind_key s w ≡ true → of_key w ≡ false
  before_not w h = by (of_key w) refl where
    by : (b : Bool) → of_key w ≡ b → of_key w ≡ false
    by false e = e
    by true e =
        let same = same_key w e in
        let table : w.slot.table ≡ s.table = sym same.0 in
        let tied : is_lt (key_cmp w.slot.key s.key) ≡ false = ap (λ k. is_lt (key_cmp w.slot.key k)) same.1 ∙ ap is_lt (tied_itself key_total w.slot.key) in
        absurd (false≢true (grind (arith, nat_tests)))

  eq_or : (o : Ordering) → is_lt o ≡ false → is_gt o ≡ false → is_eq o ≡ true
  eq_or Less a b = absurd (false≢true (sym a))
  eq_or Equal a b = refl
  eq_or Greater a b = absurd (false≢true (sym b))

  -- behind a write that isn't before the key, and isn't of it, no write is of it
  pub beyond_not : (w v : Write) → not (is_behind_key s w) ≡ true → of_key w ≡ false → slot_lt w.slot v.slot ≡ true → of_key v ≡ false
  beyond_not w v h n lt = by (of_key v) refl where
    by : (b : Bool) → of_key v ≡ b → of_key v ≡ false
    by false e = e
    by true e =
        let same = same_key v e in
        let table = slot_lt_table w.slot v.slot lt in
        let one : w.slot.table ≡ s.table = grind (arith, nat_tests, same.0, table) in
        let two : w.slot.table ≡ v.slot.table = one ∙ same.0 in
        let low : is_gt (key_cmp w.slot.key v.slot.key) ≡ false = slot_lt_key w.slot v.slot lt two in
        let high : is_lt (key_cmp w.slot.key s.key) ≡ false = grind (arith, nat_tests) in
        let tied : is_same_key w.slot.key s.key ≡ true = eq_or (key_cmp w.slot.key s.key) high (ap (λ k. is_gt (key_cmp w.slot.key k)) same.1 ∙ low) in
        let key : s.key ≡ w.slot.key = sym (key_exact w.slot.key s.key tied) in
        let again : is_same_key s.key w.slot.key ≡ true = ap (is_same_key s.key) (sym key) ∙ key_itself s.key in
        absurd (false≢true (grind (arith, nat_tests)))

  -- ---- whether the slot meets writes

  module _ (tags : List MadeTag) where
    not_met : (w : Write) → of_key w ≡ false → meets tags (w ∷ []) s ≡ false
    not_met w h = grind (arith, nat_tests)

    none_met : (w : Write) (ws : List Write) → not (is_behind_key s w) ≡ true → of_key w ≡ false → list_all (λ (v : Write). slot_lt w.slot v.slot) ws ≡ true → meets tags ws s ≡ false
    none_met w [] h n up = refl
    none_met w (v ∷ ws) h n up =
        let one = beyond_not w v h n (grind (arith, nat_tests)) in
        grind (arith, nat_tests, one, none_met w ws h n)

    -- where the first writes don't meet it, and the next is beyond the key, none does
    pub stops : (own : List Write) (k : ℕ) (w : Write) → are_rising own ≡ true → list_all (λ (v : Write). not (is_behind_key s v)) own ≡ true → k < length own → w ≡ get_or own k w
        → of_key w ≡ false → meets tags (take k own) s ≡ false → false ≡ meets tags own s
    stops [] k w up from lt e n before = refl
    stops (v ∷ own) zero w up from lt e n before =
        let no : of_key v ≡ false = ap of_key (sym e) ∙ n in
        let rest = none_met v own (grind (arith, nat_tests)) no (grind (arith, nat_tests)) in
        grind (arith, nat_tests, rest)
    stops (v ∷ own) (suc k) w up from lt e n before =
        let more = stops own k w (grind (arith, nat_tests)) (grind (arith, nat_tests)) (omega arith) e n (grind (arith, nat_tests)) in
        grind (arith, nat_tests, more)

    -- writes before the key don't matter
    pub skip_meets : (own : List Write) → meets tags (skip (is_behind_key s) own) s ≡ meets tags own s
    skip_meets [] = refl
    skip_meets (w ∷ own) = by (is_behind_key s w) refl (skip_meets own) where
      by : (b : Bool) → is_behind_key s w ≡ b → meets tags (skip (is_behind_key s) own) s ≡ meets tags own s → meets tags (skip (is_behind_key s) (w ∷ own)) s ≡ meets tags (w ∷ own) s
      by true e more =
          let no = before_not w e in
          ap (λ b. meets tags (cond b (skip (is_behind_key s) own) (w ∷ own)) s) e ∙ (more ∙ grind (arith, nat_tests, no))
      by false e more = ap (λ b. meets tags (cond b (skip (is_behind_key s) own) (w ∷ own)) s) e

-- ---- what holds of the writes behind a skipped front

pub skip_all : {X : Type 0} (q p : X → Bool) (xs : List X) → list_all q xs ≡ true → list_all q (skip p xs) ≡ true
skip_all q p [] h = refl
skip_all q p (x ∷ xs) h = by (p x) (skip_all q p xs) where
  by : (b : Bool) → (list_all q xs ≡ true → list_all q (skip p xs) ≡ true) → list_all q (cond b (skip p xs) (x ∷ xs)) ≡ true
  by true more = more (grind (arith, nat_tests))
  by false more = h

pub skip_rises : (p : Write → Bool) (ws : List Write) → are_rising ws ≡ true → are_rising (skip p ws) ≡ true
skip_rises p [] h = refl
skip_rises p (w ∷ ws) h = by (p w) (skip_rises p ws) where
  by : (b : Bool) → (are_rising ws ≡ true → are_rising (skip p ws) ≡ true) → are_rising (cond b (skip p ws) (w ∷ ws)) ≡ true
  by true more = more (grind (arith, nat_tests))
  by false more = h

pub skip_fails : {X : Type 0} (p : X → Bool) (xs : List X) → is_parted p xs ≡ true → list_all (λ x. not (p x)) (skip p xs) ≡ true
skip_fails p [] h = refl
skip_fails p (x ∷ xs) h = by (p x) refl (skip_fails p xs) where
  by : (b : Bool) → p x ≡ b → (is_parted p xs ≡ true → list_all (λ x. not (p x)) (skip p xs) ≡ true) → list_all (λ x. not (p x)) (skip p (x ∷ xs)) ≡ true
  by true e more = ap (λ b. list_all (λ x. not (p x)) (cond b (skip p xs) (x ∷ xs))) e ∙ more (grind (arith, nat_tests))
  by false e more = ap (λ b. list_all (λ x. not (p x)) (cond b (skip p xs) (x ∷ xs))) e ∙ grind (arith, nat_tests)
