-- Laws of the division of polynomials over bits: the higher bits go through it unchanged, and it loses nothing.
use Rattle.std.proofs.Common.{◌≡◌, ℕ, zero, suc, ◌+◌, ◌*◌, ◌/◌, ◌%◌, ◌^◌, ◌<◌, Bool, true, false, refl, sym, ap, ◌∙◌, arith}
use Rattle.std.specs.Prelude.{◌==◌}
use Rattle.std.specs.Int.Bits.{bit_xor, xor_self, xor_assoc, xor_zero_r, xor_disjoint, and_shifted, shifted_even, shifted_half}
use Rattle.std.specs.Int.{bit_at}
use Rattle.std.proofs.lemmas.Nat.{xor_comm, xor_lt, xor_shr, xor_mod, div-add-mod'}
use Rattle.std.proofs.lemmas.Nat.Bits.{bit_at_xor, bit_at_above}
use Rattle.std.proofs.lemmas.Bool.Decides.{nat_tests}
use Rattle.ifdb_redo.specs.Checksum.{polynomial, divided, divided_times, after_byte}

-- a bit is divided beside higher bits
divided_beside : (high k n : ℕ) → divided (bit_xor (high * 2 ^ suc k) n) ≡ bit_xor (high * 2 ^ k) (divided n)
unfolding divided
divided_beside high k n = by (n % 2 == 0) refl where
  lowest : bit_xor (high * 2 ^ suc k) n % 2 ≡ n % 2
  lowest = xor_mod (high * 2 ^ suc k) n 1 ∙ ap (λ (x : ℕ). bit_xor x (n % 2)) (shifted_even high k)

  others : bit_xor (high * 2 ^ suc k) n / 2 ≡ bit_xor (high * 2 ^ k) (n / 2)
  others = xor_shr (high * 2 ^ suc k) n 1 ∙ ap (λ (x : ℕ). bit_xor x (n / 2)) (shifted_half high k)

  by : (b : Bool) → (n % 2 == 0) ≡ b → divided (bit_xor (high * 2 ^ suc k) n) ≡ bit_xor (high * 2 ^ k) (divided n)
  by true e = rw (lowest, others, e) refl
  by false e = rw (lowest, others, e) (xor_assoc (high * 2 ^ k) (n / 2) polynomial)

-- so many bits are divided beside higher bits
pub times_beside : (k high n : ℕ) → divided_times k (bit_xor (high * 2 ^ k) n) ≡ bit_xor high (divided_times k n)
unfolding divided_times
times_beside zero high n = ap (λ (x : ℕ). bit_xor x n) (omega arith)
times_beside (suc k) high n = ap (divided_times k) (divided_beside high k n) ∙ times_beside k high (divided n)

-- a number is its higher bits beside its lowest eight
pub split : (n : ℕ) → n ≡ bit_xor (n / 2 ^ 8 * 2 ^ 8) (n % 2 ^ 8)
split n =
    let low : n % 2 ^ 8 < 2 ^ 8 = omega arith in
    sym (xor_disjoint (n / 2 ^ 8 * 2 ^ 8) (n % 2 ^ 8) (and_shifted (n / 2 ^ 8) 8 (n % 2 ^ 8) low) ∙ div-add-mod' n (2 ^ 8))

pub after_byte_is : (n byte : ℕ) → after_byte n byte ≡ bit_xor (n / 2 ^ 8) (divided_times 8 (bit_xor (n % 2 ^ 8) byte))
unfolding after_byte
after_byte_is n byte =
    let apart : bit_xor n byte ≡ bit_xor (n / 2 ^ 8 * 2 ^ 8) (bit_xor (n % 2 ^ 8) byte) =
    ap (λ (x : ℕ). bit_xor x byte) (split n) ∙ xor_assoc (n / 2 ^ 8 * 2 ^ 8) (n % 2 ^ 8) byte in
    ap (divided_times 8) apart ∙ times_beside 8 (n / 2 ^ 8) (bit_xor (n % 2 ^ 8) byte)

-- ---- nothing is lost

pub xor_cancels : (a b c : ℕ) → bit_xor a c ≡ bit_xor b c → a ≡ b
xor_cancels a b c e =
    let back : (x : ℕ) → bit_xor (bit_xor x c) c ≡ x = λ x. xor_assoc x c c ∙ ap (bit_xor x) (xor_self c) ∙ xor_zero_r x in
    sym (back a) ∙ ap (λ (x : ℕ). bit_xor x c) e ∙ back b

divided_lt : (n : ℕ) → n < 2 ^ 32 → divided n < 2 ^ 32
unfolding divided
divided_lt n lt = by (n % 2 == 0) refl where
  half : n / 2 < 2 ^ 32
  half = omega arith

  by : (b : Bool) → (n % 2 == 0) ≡ b → divided n < 2 ^ 32
  by true e = rw e half
  by false e = rw e (xor_lt 32 (n / 2) polynomial half (omega arith))

-- the highest bit tells whether the lowest was 0
highest : (n : ℕ) → n < 2 ^ 32 → bit_at (divided n) 31 ≡ n % 2
unfolding divided
highest n lt = by (n % 2 == 0) refl where
  none : bit_at (n / 2) 31 ≡ 0
  none = bit_at_above (n / 2) 31 31 (omega arith) (omega arith)

  by : (b : Bool) → (n % 2 == 0) ≡ b → bit_at (divided n) 31 ≡ n % 2
  by true e = rw e (none ∙ grind (arith, nat_tests))
  by false e =
      let one : (bit_at (n / 2) 31 + bit_at polynomial 31) % 2 ≡ 1 = rw none refl in
      rw e (bit_at_xor (n / 2) polynomial 31 ∙ one ∙ grind (arith, nat_tests))

halves : (m n : ℕ) → m % 2 ≡ n % 2 → divided m ≡ divided n → m / 2 ≡ n / 2
unfolding divided
halves m n same e = by (n % 2 == 0) refl where
  by : (b : Bool) → (n % 2 == 0) ≡ b → m / 2 ≡ n / 2
  by true k = rw (same, k) at e
  by false k = xor_cancels (m / 2) (n / 2) polynomial (rw (same, k) at e)

divided_tells : (m n : ℕ) → m < 2 ^ 32 → n < 2 ^ 32 → divided m ≡ divided n → m ≡ n
divided_tells m n lm ln e =
    let same : m % 2 ≡ n % 2 = sym (highest m lm) ∙ ap (λ (x : ℕ). bit_at x 31) e ∙ highest n ln in
    let half = halves m n same e in
    omega (arith, same, half)

times_lt : (k n : ℕ) → n < 2 ^ 32 → divided_times k n < 2 ^ 32
unfolding divided_times
times_lt zero n lt = lt
times_lt (suc k) n lt = times_lt k (divided n) (divided_lt n lt)

times_tell : (k m n : ℕ) → m < 2 ^ 32 → n < 2 ^ 32 → divided_times k m ≡ divided_times k n → m ≡ n
unfolding divided_times
times_tell zero m n lm ln e = e
times_tell (suc k) m n lm ln e = divided_tells m n lm ln (times_tell k (divided m) (divided n) (divided_lt m lm) (divided_lt n ln) e)

in_byte : (n byte : ℕ) → n < 2 ^ 32 → byte < 2 ^ 8 → bit_xor n byte < 2 ^ 32
in_byte n byte lt b = xor_lt 32 n byte lt (omega arith)

pub after_byte_lt : (n byte : ℕ) → n < 2 ^ 32 → byte < 2 ^ 8 → after_byte n byte < 2 ^ 32
unfolding after_byte
after_byte_lt n byte lt b = times_lt 8 (bit_xor n byte) (in_byte n byte lt b)

pub remainder_tells : (m n byte : ℕ) → m < 2 ^ 32 → n < 2 ^ 32 → byte < 2 ^ 8 → after_byte m byte ≡ after_byte n byte → m ≡ n
unfolding after_byte
remainder_tells m n byte lm ln b e = xor_cancels m n byte (times_tell 8 (bit_xor m byte) (bit_xor n byte) (in_byte m byte lm b) (in_byte n byte ln b) e)

pub byte_tells : (n a b : ℕ) → n < 2 ^ 32 → a < 2 ^ 8 → b < 2 ^ 8 → after_byte n a ≡ after_byte n b → a ≡ b
unfolding after_byte
byte_tells n a b lt la lb e =
    let same = times_tell 8 (bit_xor n a) (bit_xor n b) (in_byte n a lt la) (in_byte n b lt lb) e in
    xor_cancels a b n (xor_comm a n ∙ same ∙ xor_comm n b)
