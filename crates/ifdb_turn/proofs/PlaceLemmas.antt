-- Rising lists of places.
use Rattle.std.proofs.Common.{◌≡◌, ◌≢◌, ℕ, ◌+◌, ◌<◌, ◌≤◌, true, false, List, [], ◌∷◌, ◌++◌, sym, refl, ap, ◌∙◌, subst, arith, cond, eqb, ltb, lt-ltb, le-ltb, lt_of_not-le, eq-eqb, ne_eqb}
use mathlib.Core.Logic.{dite}
use native.Mathlib.Decide.{ℕ_discrete, dec_lt}
use Rattle.ifdb_turn.specs.Places.{one_if, one_below, times, RisesFrom, put_in, merge}
use Rattle.ifdb_turn.proofs.ByPass.{one_used}

pub one_if-same : (k : ℕ) → one_if k k ≡ 1
one_if-same k = subst (λ b. one_used b ≡ 1) (sym (eq-eqb k k refl)) refl

pub one_if-other : (k n : ℕ) → k ≢ n → one_if k n ≡ 0
one_if-other k n ne = subst (λ b. one_used b ≡ 0) (sym (ne_eqb k n ne)) refl

-- rising lists of places
pub times_put : (j k : ℕ) (ns : List ℕ) → times j (put_in k ns) ≡ one_if j k + times j ns
times_put j k [] = refl
times_put j k (n ∷ ns) = let r = times_put j k ns in elim (ltb k n) as
    (λ b. times j (cond b (k ∷ n ∷ ns) (n ∷ put_in k ns)) ≡ one_if j k + times j (n ∷ ns)) [ true ↦ refl | false ↦ omega arith ]

pub times_merge : (j : ℕ) (xs ks : List ℕ) → times j (merge xs ks) ≡ times j xs + times j ks
times_merge j xs [] = omega arith
times_merge j xs (k ∷ ks) = let r = times_merge j (put_in k xs) ks in let p = times_put j k xs in omega arith

pub times-snoc : (k : ℕ) (xs : List ℕ) (n : ℕ) → times k (xs ++ n ∷ []) ≡ times k xs + one_if k n
times-snoc k [] n = omega arith
times-snoc k (x ∷ xs) n = let r = times-snoc k xs n in omega arith

pub rises_put_at : (low k n : ℕ) (ns : List ℕ) → RisesFrom low (n ∷ ns) → low ≤ k → Dec (k < n)
    → (n + 1 ≤ k → RisesFrom (n + 1) (put_in k ns)) → times k (n ∷ ns) ≡ 0 → RisesFrom low (put_in k (n ∷ ns))
rises_put_at low k n ns r le (yes d) next z = subst (λ b. RisesFrom low (cond b (k ∷ n ∷ ns) (n ∷ put_in k ns))) (sym (lt-ltb k n d)) (le, (omega arith, r.1))
rises_put_at low k n ns r le (no d) next z = let ne : k ≢ n = λ e. (let one_ = one_if-same n in
    let z' : one_if n n + times n ns ≡ 0 = subst (λ (y : ℕ). one_if y n + times y ns ≡ 0) e z in absurd (omega arith)) in
    subst (λ b. RisesFrom low (cond b (k ∷ n ∷ ns) (n ∷ put_in k ns))) (sym (le-ltb k n (omega arith))) (r.0, next (omega arith))

pub rises_put : (low k : ℕ) (ns : List ℕ) → RisesFrom low ns → low ≤ k → times k ns ≡ 0 → RisesFrom low (put_in k ns)
rises_put low k [] r le z = (le, tt)
rises_put low k (n ∷ ns) r le z = rises_put_at low k n ns r le (dec_lt k n)
    (λ le'. rises_put (n + 1) k ns r.1 le' (omega arith)) z

pub rises_merge : (xs ks : List ℕ) → RisesFrom 0 xs → ((k : ℕ) → times k xs + times k ks ≤ 1) → RisesFrom 0 (merge xs ks)
rises_merge xs [] r apart = r
rises_merge xs (k ∷ ks) r apart = rises_merge (put_in k xs) ks (rises_put 0 k xs r (omega arith) (let a = apart k in
    let o = one_if-same k in let z : times k xs ≡ 0 = omega arith in z)) (λ j. let a = apart j in let p = times_put j k xs in
    omega arith)

pub rises_snoc : (low n : ℕ) (xs : List ℕ) → RisesFrom low xs → low ≤ n → ((k : ℕ) → n ≤ k → times k xs ≡ 0)
    → RisesFrom low (xs ++ n ∷ [])
rises_snoc low n [] r le z = (le, tt)
rises_snoc low n (x ∷ xs) r le z = let o = one_if-same x in let lt : ¬ (n ≤ x) = λ h. (let y = z x h in absurd (omega arith)) in
    (r.0, rises_snoc (x + 1) n xs r.1 (let m : x < n = lt_of_not-le lt in omega arith) (λ k h. let y = z k h in omega arith))

pub one_below-most : (k n : ℕ) → one_below k n ≤ 1
one_below-most k n = elim (ltb k n) as (λ b. cond b 1 0 ≤ 1) [ true ↦ omega arith | false ↦ omega arith ]

pub one_below-zero : (k : ℕ) → one_below k 0 ≡ 0
one_below-zero k = subst (λ b. one_used b ≡ 0) (sym (le-ltb k 0 (omega arith))) refl

pub one_below-more : (k n : ℕ) → Dec (k < n) → one_below k (n + 1) ≡ one_below k n + one_if k n
one_below-more k n (yes d) = let a : one_below k (n + 1) ≡ 1 = subst
    (λ b. one_used b ≡ 1) (sym (lt-ltb k (n + 1) (omega arith))) refl in
    let b : one_below k n ≡ 1 = subst (λ b. one_used b ≡ 1) (sym (lt-ltb k n d)) refl in
    let c = one_if-other k n (λ e. omega arith) in omega arith
one_below-more k n (no d) = let b : one_below k n ≡ 0 = subst (λ b. one_used b ≡ 0) (sym (le-ltb k n (omega arith))) refl in
    dite (ℕ_discrete k n)
    (λ e. let a : one_below k (n + 1) ≡ 1 = subst (λ b. one_used b ≡ 1) (sym (lt-ltb k (n + 1) (omega arith))) refl in
    let c : one_if k n ≡ 1 = ap (λ (z : ℕ). one_if k z) (sym e) ∙ one_if-same k in omega arith)
    (λ ne. let a : one_below k (n + 1) ≡ 0 = subst (λ b. one_used b ≡ 0) (sym (le-ltb k (n + 1) (omega arith))) refl in
    let c = one_if-other k n ne in omega arith)

-- a rising list has no place below its start, and each place once
rises_none : (low : ℕ) (ns : List ℕ) → RisesFrom low ns → (k : ℕ) → k < low → times k ns ≡ 0
rises_none low [] r k lt = refl
rises_none low (n ∷ ns) r k lt = let first : low ≤ n = r.0 in let o = one_if-other k n (λ e. omega arith) in
    let rest = rises_none (n + 1) ns r.1 k (omega arith) in omega arith

rises_once : (low : ℕ) (ns : List ℕ) → RisesFrom low ns → (k : ℕ) → times k ns ≤ 1
rises_once low [] r k = omega arith
rises_once low (n ∷ ns) r k = dite (ℕ_discrete k n)
    (λ e. let rest = rises_none (n + 1) ns r.1 k (omega arith) in
    let one : one_if k n ≤ 1 = elim (eqb k n) as (λ b. cond b 1 0 ≤ 1) [ true ↦ omega arith | false ↦ omega arith ] in
    omega arith)
    (λ ne. let o = one_if-other k n ne in let rest = rises_once (n + 1) ns r.1 k in omega arith)

-- where two lists merge to a rising one, they have no place in common
pub merged_apart : (xs ks : List ℕ) → RisesFrom 0 (merge xs ks) → (k : ℕ) → times k xs + times k ks ≤ 1
merged_apart xs ks r k = let m = times_merge k xs ks in let o = rises_once 0 (merge xs ks) r k in omega arith
