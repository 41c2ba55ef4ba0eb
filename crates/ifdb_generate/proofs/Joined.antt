-- Rounds that are put or written one behind the other.
use Rattle.std.proofs.Common.{◌≡◌, ◌⊎◌, inl, inr, ℕ, zero, suc, ◌+◌, ◌≤◌, ◌<◌, List, [], ◌++◌, ◌∙◌, sym, ap, subst, arith, append_assoc, append-nil, Option}
use Rattle.std.proofs.Math.Nat.{eq-or-lt_of_le}
use Rattle.std.specs.Io.KnownBytes.{Appends}
use Rattle.ifdb_io.specs.Causes.{WritesShort}
use Rattle.ifdb_io.proofs.Behind.{all_then, short_first, short_then}
use Rattle.ifdb_generate.specs.Script.{drawn, drawn_after, round, round_of, rounds}

-- a text, and what is put behind it
pub joined : {X : Type 0} (a b c x y : List X) → b ≡ a ++ x → c ≡ b ++ y → c ≡ a ++ (x ++ y)
joined a b c x y e h = h ∙ ap (λ l. l ++ y) e ∙ append_assoc a x y

-- what is drawn next is drawn for the next round
drawn_next : (i x y : ℕ) → x ≡ drawn i → y ≡ drawn_after x → y ≡ drawn (i + 1)
drawn_next i x y d h = let next : suc i ≡ i + 1 = omega arith in h ∙ ap drawn_after d ∙ ap drawn next

-- the rounds so far, and the next one
one_further : (n i : ℕ) → rounds n i ++ round n (i + 1) ≡ rounds n (i + 1)
one_further n i = let next : suc i ≡ i + 1 = omega arith in ap (λ j. rounds n i ++ round n j) (sym next) ∙ ap (rounds n) next

-- one more round is put
pub one_more : (n i x y : ℕ) (a b c : List ℕ) → b ≡ a ++ rounds n i → x ≡ drawn i → y ≡ drawn_after x → c ≡ b ++ round_of n (i + 1) y → (c ≡ a ++ rounds n (i + 1)) × (y ≡ drawn (i + 1))
one_more n i x y a b c e d h k =
    let drew = drawn_next i x y d h in
    (joined a b c (rounds n i) (round n (i + 1)) e (k ∙ ap (λ z. b ++ round_of n (i + 1) z) drew) ∙ ap (λ l. a ++ l) (one_further n i), drew)

-- one more round is written
pub one_written : (n i x y : ℕ) (a b c : Option (List ℕ)) → Appends a b (rounds n i) → x ≡ drawn i → y ≡ drawn_after x → Appends b c (round_of n (i + 1) y)
    → Appends a c (rounds n (i + 1)) × (y ≡ drawn (i + 1))
one_written n i x y a b c e d h k =
    let drew = drawn_next i x y d h in
    (subst (Appends a c) (one_further n i) (all_then a b c (rounds n i) (round n (i + 1)) e (subst (λ z. Appends b c (round_of n (i + 1) z)) drew k)), drew)

-- the first rounds are a front of more rounds
abbrev IsFront : ℕ → ℕ → ℕ → Type 0
IsFront n m k = (rest : List ℕ) × (rounds n k ≡ rounds n m ++ rest)

front_by : (n m k : ℕ) → (m ≡ suc k) ⊎ (m < suc k) → (m ≤ k → IsFront n m k) → IsFront n m (suc k)
front_by n m k (inl same) before = ([], ap (rounds n) (sym same) ∙ sym (append-nil (rounds n m)))
front_by n m k (inr less) before =
    let r = before (omega (arith, less)) in
    (r.0 ++ round n (suc k), ap (λ l. l ++ round n (suc k)) r.1 ∙ append_assoc (rounds n m) r.0 (round n (suc k)))

front_of : (n m k : ℕ) → m ≤ k → IsFront n m k
front_of n m zero le = let none : 0 ≡ m = omega (arith, le) in ([], ap (rounds n) none ∙ sym (append-nil (rounds n m)))
front_of n m (suc k) le = front_by n m k (eq-or-lt_of_le le) (front_of n m k)

-- the next round was written short
pub one_cut : (n i x y : ℕ) (a b c : Option (List ℕ)) → i < n → Appends a b (rounds n i) → x ≡ drawn i → y ≡ drawn_after x → WritesShort b c (round_of n (i + 1) y)
    → WritesShort a c (rounds n n)
one_cut n i x y a b c few e d h k =
    let drew = drawn_next i x y d h in
    let cut = short_then a b c (rounds n i) (round n (i + 1)) e (subst (λ z. WritesShort b c (round_of n (i + 1) z)) drew k) in
    let all = front_of n (i + 1) n (omega (arith, few)) in
    subst (WritesShort a c) (sym all.1) (short_first a c (rounds n (i + 1)) all.0 (subst (WritesShort a c) (one_further n i) cut))
