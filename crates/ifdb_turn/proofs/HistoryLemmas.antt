-- Histories, their beginnings, and the longer of two.
use Rattle.std.proofs.Common.{◌≡◌, ◌<◌, ◌≤◌, ◌⊎◌, true, false, List, [], ◌∷◌, ◌++◌, length, sym, refl, ap, ◌∙◌, subst, ⊎_elim, inl, inr, arith, Option, Some, None, cond, ltb, lt-ltb, le-ltb, length-append, append-nil, append_assoc}
use mathlib.Core.List.{IsPrefix}
use native.Mathlib.Decide.{dec_lt}
use Rattle.ifdb_turn.specs.Histories.{AllRight, longer, shorter}

module _ {E : Type 0} where
  pub no_length : (l : List E) → length l ≡ 0 → l ≡ []
  no_length [] e = refl
  no_length (x ∷ xs) e = absurd (omega arith)

  abbrev pub get_Some : E → Option E → E
  get_Some d None = d
  get_Some d (Some e) = e

  abbrev pub hd : E → List E → E
  hd d [] = d
  hd d (x ∷ xs) = x

  abbrev pub tl : List E → List E
  tl [] = []
  tl (x ∷ xs) = xs

  pub prefix_length : (xs ys : List E) → IsPrefix xs ys → length xs ≤ length ys
  prefix_length xs ys p = let n : length (xs ++ p.0) ≡ length ys = ap length p.1 in let m = length-append xs p.0 in omega arith

  -- a beginning as long as the whole
  pub prefix_whole : (xs ys : List E) → IsPrefix xs ys → length ys ≤ length xs → xs ≡ ys
  prefix_whole xs ys p le = let n : length (xs ++ p.0) ≡ length ys = ap length p.1 in let m = length-append xs p.0 in
      let none_ : p.0 ≡ [] = no_length p.0 (omega arith) in
      sym (append-nil xs) ∙ (ap (λ r. xs ++ r) (sym none_) ∙ p.1)

  pub prefix-snoc : (xs ys : List E) (e : E) → IsPrefix xs ys → IsPrefix xs (ys ++ e ∷ [])
  prefix-snoc xs ys e p = (p.0 ++ e ∷ [], sym (append_assoc xs p.0 (e ∷ [])) ∙ ap (λ l. l ++ e ∷ []) p.1)

  pub prefix_last : (b l : List E) (x e : E) (more : List E) → (b ++ x ∷ []) ++ more ≡ l ++ e ∷ []
      → IsPrefix (b ++ x ∷ []) l ⊎ ((b ≡ l) × (x ≡ e))
  prefix_last [] [] x e more is = inr (refl, ap (hd x) is)
  prefix_last [] (y ∷ ys) x e more is = inl (ys, ap (λ z. z ∷ ys) (ap (hd x) is))
  prefix_last (b ∷ bs) [] x e more is = let n : length ((bs ++ x ∷ []) ++ more) ≡ 0 = ap length (ap tl is) in
      let m = length-append (bs ++ x ∷ []) more in let o = length-append bs (x ∷ []) in absurd (omega arith)
  prefix_last (b ∷ bs) (y ∷ ys) x e more is = let h : b ≡ y = ap (hd b) is in ⊎_elim
      (λ (p : IsPrefix (bs ++ x ∷ []) ys). inl (p.0, (λ i. h i ∷ p.1 i)))
      (λ (p : (bs ≡ ys) × (x ≡ e)). inr ((λ i. h i ∷ p.0 i), p.1)) (prefix_last bs ys x e more (ap tl is))

  -- of two beginnings of one list the shorter begins the longer
  pub prefix_two : (xs ys zs : List E) → IsPrefix xs zs → IsPrefix ys zs → length xs ≤ length ys → IsPrefix xs ys
  prefix_two [] ys zs p q le = (ys, refl)
  prefix_two (x ∷ xs) [] zs p q le = absurd (omega arith)
  prefix_two (x ∷ xs) (y ∷ ys) [] p q le = absurd (let n : length ((x ∷ xs) ++ p.0) ≡ 0 = ap length p.1 in
      let m = length-append (x ∷ xs) p.0 in omega arith)
  prefix_two (x ∷ xs) (y ∷ ys) (z ∷ zs) p q le =
      let h : x ≡ y = ap (hd x) p.1 ∙ sym (ap (hd x) q.1) in
      let r = prefix_two xs ys zs (p.0, ap tl p.1) (q.0, ap tl q.1) (omega arith) in
      (r.0, λ i. h i ∷ r.1 i)

  pub right-snoc : (right : List E → E → Type 0) (l : List E) (e : E) → AllRight right l → right l e
      → AllRight right (l ++ e ∷ [])
  right-snoc right l e all ok b x p = ⊎_elim (λ (q : IsPrefix (b ++ x ∷ []) l). all b x q) (λ (q : (b ≡ l) × (x ≡ e)). subst
      (λ (z : List E × E). right z.0 z.1) (λ i. (sym q.0 i, sym q.1 i)) ok) (prefix_last b l x e p.0 p.1)

  pub longer_prefix : (P : List E → Type 0) (xs ys : List E) → P xs → P ys → P (longer xs ys)
  longer_prefix P xs ys p q = elim (ltb (length xs) (length ys)) as (λ b. P (cond b ys xs)) [ true ↦ q | false ↦ p ]

  pub longer_at : (xs ys : List E) → Dec (length xs < length ys)
      → (length xs ≤ length (longer xs ys)) × (length ys ≤ length (longer xs ys))
  longer_at xs ys (yes d) = subst (λ b. (length xs ≤ length (cond b ys xs)) × (length ys ≤ length (cond b ys xs))) (sym (lt-ltb (length xs) (length ys) d)) (omega arith, omega arith)
  longer_at xs ys (no d) = subst (λ b. (length xs ≤ length (cond b ys xs)) × (length ys ≤ length (cond b ys xs))) (sym (le-ltb (length xs) (length ys) (omega arith))) (omega arith, omega arith)

  pub longer_length : (xs ys : List E) → (length xs ≤ length (longer xs ys)) × (length ys ≤ length (longer xs ys))
  longer_length xs ys = longer_at xs ys (dec_lt (length xs) (length ys))

  pub longer-snoc : (xs : List E) (e : E) → longer xs (xs ++ e ∷ []) ≡ xs ++ e ∷ []
  longer-snoc xs e = let n = length-append xs (e ∷ []) in
      subst (λ b. cond b (xs ++ e ∷ []) xs ≡ xs ++ e ∷ []) (sym (lt-ltb (length xs) (length (xs ++ e ∷ [])) (omega arith))) refl

  pub shorter_at : (xs ys zs : List E) → IsPrefix xs zs → IsPrefix ys zs → Dec (length xs < length ys)
      → IsPrefix (shorter xs ys) (longer xs ys)
  shorter_at xs ys zs p q (yes d) = subst (λ b. IsPrefix (cond b xs ys) (cond b ys xs)) (sym (lt-ltb (length xs) (length ys) d)) (prefix_two xs ys zs p q (omega arith))
  shorter_at xs ys zs p q (no d) = subst (λ b. IsPrefix (cond b xs ys) (cond b ys xs)) (sym (le-ltb (length xs) (length ys) (omega arith))) (prefix_two ys xs zs q p (omega arith))

  pub shorter_prefix : (xs ys zs : List E) → IsPrefix xs zs → IsPrefix ys zs → IsPrefix (shorter xs ys) (longer xs ys)
  shorter_prefix xs ys zs p q = shorter_at xs ys zs p q (dec_lt (length xs) (length ys))

  pub both_prefix : (xs ys : List E) → IsPrefix (shorter xs ys) (longer xs ys)
      → IsPrefix xs (longer xs ys) × IsPrefix ys (longer xs ys)
  both_prefix xs ys p = elim (ltb (length xs) (length ys)) as
      (λ b. IsPrefix (cond b xs ys) (cond b ys xs) → IsPrefix xs (cond b ys xs) × IsPrefix ys (cond b ys xs))
      [ true ↦ λ h. (h, ([], append-nil ys)) | false ↦ λ h. (([], append-nil xs), h) ] p
