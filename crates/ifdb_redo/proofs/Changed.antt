-- One byte that changed is seen by the checksum.
use Rattle.std.proofs.Common.{◌≡◌, ◌≢◌, ℕ, zero, suc, ◌+◌, ◌-◌, ◌^◌, ◌<◌, ◌≤◌, Bool, true, false, List, [], ◌∷◌, ◌++◌, length, take, drop, refl, sym, ap, subst, ◌∙◌, Some, None, ◌⊎◌, inl, inr, arith}
use Rattle.std.specs.Prelude.{All, fold}
use Rattle.std.specs.Str.{bytes_eq}
use Rattle.std.specs.Int.{w32, from_be_bytes, to_be_bytes}
use Rattle.std.proofs.lemmas.Bool.{cases_lt}
use Rattle.std.proofs.lemmas.Nat.{xor_lt, from_be_bytes-to_be_bytes_4}
use Rattle.std.proofs.lemmas.List.{take-append-le, drop-append-le, length-append}
use Rattle.std.proofs.lemmas.List.Elements.{All-append, All-cons, All-head, All-tail, All-take}
use Rattle.std.proofs.lemmas.List.Sums.{fold-append}
use Rattle.std.proofs.lemmas.Slice.Eq.{bytes_eq-Decides}
use Rattle.ifdb_redo.specs.declared.record.RedoRecord.{RedoRecord}
use Rattle.ifdb_redo.specs.Checksum.{after_byte, remainder_of, checksum}
use Rattle.ifdb_redo.specs.Laws.{IsByte}
use Rattle.ifdb_redo.specs.Reading.{record_of}
use Rattle.ifdb_redo.proofs.Division.{xor_cancels, after_byte_lt, remainder_tells, byte_tells}

-- ---- the checksum

All-front : {X : Type 0} (P : X → Type 0) (xs ys : List X) → All P (xs ++ ys) → All P xs
All-front P [] ys all k d lt = absurd (omega arith)
All-front P (x ∷ xs) ys all zero d lt = all 0 d (omega arith)
All-front P (x ∷ xs) ys all (suc k) d lt = All-front P xs ys (All-tail P x (xs ++ ys) all) k d (omega arith)

All-back : {X : Type 0} (P : X → Type 0) (xs ys : List X) → All P (xs ++ ys) → All P ys
All-back P [] ys all = all
All-back P (x ∷ xs) ys all = All-back P xs ys (All-tail P x (xs ++ ys) all)

fold_lt : (n : ℕ) (bytes : List ℕ) → n < 2 ^ 32 → All IsByte bytes → fold after_byte n bytes < 2 ^ 32
fold_lt n [] lt all = lt
fold_lt n (b ∷ bytes) lt all = fold_lt (after_byte n b) bytes (after_byte_lt n b lt (All-head IsByte b bytes all)) (All-tail IsByte b bytes all)

fold_tells : (m n : ℕ) (bytes : List ℕ) → m < 2 ^ 32 → n < 2 ^ 32 → All IsByte bytes → fold after_byte m bytes ≡ fold after_byte n bytes → m ≡ n
fold_tells m n [] lm ln all e = e
fold_tells m n (b ∷ bytes) lm ln all e =
    let is = All-head IsByte b bytes all in
    remainder_tells m n b lm ln is
    (fold_tells (after_byte m b) (after_byte n b) bytes (after_byte_lt m b lm is) (after_byte_lt n b ln is) (All-tail IsByte b bytes all) e)

checksum_lt : (bytes : List ℕ) → All IsByte bytes → checksum bytes < 2 ^ 32
checksum_lt bytes all = xor_lt 32 (remainder_of bytes) 0xFFFFFFFF (fold_lt 0xFFFFFFFF bytes (omega arith) all) (omega arith)

checksum_tells : (front back : List ℕ) (a b : ℕ) → All IsByte front → All IsByte back → IsByte a → IsByte b
    → checksum (front ++ a ∷ back) ≡ checksum (front ++ b ∷ back) → a ≡ b
checksum_tells front back a b fronts backs is_a is_b e =
    let start = fold_lt 0xFFFFFFFF front (omega arith) fronts in
    let n : ℕ = fold after_byte 0xFFFFFFFF front in
    let same = xor_cancels (remainder_of (front ++ a ∷ back)) (remainder_of (front ++ b ∷ back)) 0xFFFFFFFF e in
    let behind : fold after_byte (after_byte n a) back ≡ fold after_byte (after_byte n b) back =
    sym (fold-append after_byte 0xFFFFFFFF front (a ∷ back)) ∙ same ∙ fold-append after_byte 0xFFFFFFFF front (b ∷ back) in
    byte_tells n a b start is_a is_b (fold_tells (after_byte n a) (after_byte n b) back (after_byte_lt n a start is_a) (after_byte_lt n b start is_b) backs behind)

-- ---- a record and its checksum

-- bytes whose last four are the checksum of those before them
abbrev pub IsSealed : ℕ → List ℕ → Type 0
IsSealed size bytes = drop size bytes ≡ to_be_bytes w32 (checksum (take size bytes))

is_sealed : (bytes : List ℕ) (r : RedoRecord) → record_of bytes ≡ Some r → IsSealed (length bytes - 4) bytes
unfolding record_of
is_sealed bytes r e = by (bytes_eq (drop (length bytes - 4) bytes) (to_be_bytes w32 (checksum (take (length bytes - 4) bytes)))) refl where
  by : (t : Bool) → bytes_eq (drop (length bytes - 4) bytes) (to_be_bytes w32 (checksum (take (length bytes - 4) bytes))) ≡ t → IsSealed (length bytes - 4) bytes
  by true k = (bytes_eq-Decides (drop (length bytes - 4) bytes) (to_be_bytes w32 (checksum (take (length bytes - 4) bytes)))).0 k
  by false k = let none : record_of bytes ≡ None = rw k refl in absurd (cc)

not_sealed : (bytes : List ℕ) → (IsSealed (length bytes - 4) bytes → ⊥) → record_of bytes ≡ None
unfolding record_of
not_sealed bytes not = by (bytes_eq (drop (length bytes - 4) bytes) (to_be_bytes w32 (checksum (take (length bytes - 4) bytes)))) refl where
  by : (t : Bool) → bytes_eq (drop (length bytes - 4) bytes) (to_be_bytes w32 (checksum (take (length bytes - 4) bytes))) ≡ t → record_of bytes ≡ None
  by true k = absurd (not ((bytes_eq-Decides (drop (length bytes - 4) bytes) (to_be_bytes w32 (checksum (take (length bytes - 4) bytes)))).0 k))
  by false k = rw k refl

-- a byte before the checksum
in_body : (front back : List ℕ) (x size : ℕ) → length front < size
    → (take size (front ++ x ∷ back) ≡ front ++ x ∷ take (size - (length front + 1)) back) × (drop size (front ++ x ∷ back) ≡ drop (size - (length front + 1)) back)
in_body [] back x zero lt = absurd (omega arith)
in_body [] back x (suc s) lt =
    let k : suc s - (0 + 1) ≡ s = omega arith in
    (ap (λ n. x ∷ take n back) (sym k), ap (λ n. drop n back) (sym k))
in_body (y ∷ front) back x zero lt = absurd (omega arith)
in_body (y ∷ front) back x (suc s) lt =
    let rest = in_body front back x s (omega arith) in
    let k : s - (length front + 1) ≡ suc s - (suc (length front) + 1) = omega arith in
    (ap (λ zs. y ∷ zs) (rest.0 ∙ ap (λ n. front ++ x ∷ take n back) k), rest.1 ∙ ap (λ n. drop n back) k)

-- what stands at one place between the same lists
same_at : (front back : List ℕ) (a b : ℕ) → front ++ a ∷ back ≡ front ++ b ∷ back → a ≡ b
same_at [] back a b e = cc
same_at (x ∷ front) back a b e = let rest : front ++ a ∷ back ≡ front ++ b ∷ back = cc in same_at front back a b rest

-- two texts with their checksums that differ at one place alone don't differ
sealed_tells : (front back : List ℕ) (a b size : ℕ) → All IsByte front → All IsByte back → IsByte a → IsByte b
    → IsSealed size (front ++ a ∷ back) → IsSealed size (front ++ b ∷ back) → a ≡ b
sealed_tells front back a b size fronts backs is_a is_b one two = by (cases_lt (length front) size) where
  within : length front < size → a ≡ b
  within lt =
      let j : ℕ = size - (length front + 1) in
      let p = in_body front back a size lt in
      let q = in_body front back b size lt in
      let mids = All-take IsByte j back backs in
      let sums : to_be_bytes w32 (checksum (front ++ a ∷ take j back)) ≡ to_be_bytes w32 (checksum (front ++ b ∷ take j back)) =
      sym (ap (λ (xs : List ℕ). to_be_bytes w32 (checksum xs)) p.0) ∙ sym one ∙ p.1 ∙ sym q.1 ∙ two ∙ ap (λ (xs : List ℕ). to_be_bytes w32 (checksum xs)) q.0 in
      let lt_a = checksum_lt (front ++ a ∷ take j back) (joined a is_a j mids) in
      let lt_b = checksum_lt (front ++ b ∷ take j back) (joined b is_b j mids) in
      let same = sym (from_be_bytes-to_be_bytes_4 (checksum (front ++ a ∷ take j back)) lt_a) ∙ ap (from_be_bytes w32) sums ∙ from_be_bytes-to_be_bytes_4 (checksum (front ++ b ∷ take j back)) lt_b in
      checksum_tells front (take j back) a b fronts mids is_a is_b same
    where
      joined : (x : ℕ) → IsByte x → (j : ℕ) → All IsByte (take j back) → All IsByte (front ++ x ∷ take j back)
      joined x is j mids = All-append IsByte front (x ∷ take j back) fronts (All-cons IsByte x (take j back) is mids)

  behind : size ≤ length front → a ≡ b
  behind le =
      let cut : (x : ℕ) → drop size front ++ x ∷ back ≡ to_be_bytes w32 (checksum (take size (front ++ x ∷ back))) → drop size front ++ x ∷ back ≡ to_be_bytes w32 (checksum (take size front)) =
      λ x e. e ∙ ap (λ (xs : List ℕ). to_be_bytes w32 (checksum xs)) (take-append-le size front (x ∷ back) le) in
      let here = cut a (sym (drop-append-le size front (a ∷ back) le) ∙ one) in
      let there = cut b (sym (drop-append-le size front (b ∷ back) le) ∙ two) in
      same_at (drop size front) back a b (here ∙ sym there)

  by : (length front < size) ⊎ (size ≤ length front) → a ≡ b
  by (inl lt) = within lt
  by (inr le) = behind le

pub refused : (front back : List ℕ) (a b : ℕ) (r : RedoRecord) → All IsByte (front ++ a ∷ back) → IsByte b → a ≢ b
    → record_of (front ++ a ∷ back) ≡ Some r → record_of (front ++ b ∷ back) ≡ None
refused front back a b r all is_b ne e =
    let behind = All-back IsByte front (a ∷ back) all in
    let long : length (front ++ b ∷ back) ≡ length (front ++ a ∷ back) = length-append front (b ∷ back) ∙ sym (length-append front (a ∷ back)) in
    not_sealed (front ++ b ∷ back) (λ other.
    ne (sealed_tells front back a b (length (front ++ a ∷ back) - 4) (All-front IsByte front (a ∷ back) all) (All-tail IsByte a back behind) (All-head IsByte a back behind) is_b
    (is_sealed (front ++ a ∷ back) r e) (subst (λ (n : ℕ). IsSealed (n - 4) (front ++ b ∷ back)) long other)))
