-- The key in a file is told by its first bytes.
use Rattle.std.proofs.Common.{◌≡◌, ◌≢◌, ℕ, zero, suc, ◌+◌, ◌-◌, ◌<◌, ◌≤◌, All, get_or, Bool, true, false, List, [], ◌∷◌, length, take, Option, Some, None, refl, sym, ap, ◌∙◌, inl, inr, arith}
use Rattle.std.specs.Prelude.{◌==◌, ◌&&◌, ◌⊎◌, nat_le, slice_index, option_map, IfSome, if◌then◌else◌}
use Rattle.std.specs.Str.Lossy.{utf8_valid_len}
use Rattle.std.proofs.lemmas.Bool.Decides.{nat_tests}
use Rattle.std.proofs.lemmas.List.{length-take, take_all}
use Rattle.std.proofs.lemmas.List.Elements.{All-head, All-tail}
use Rattle.ifdb_io.specs.Reader.{BreaksAt}
use Rattle.ifdb_lex.specs.Line.{without_return}
use Rattle.ifdb_keyed.specs.declared.admin_key.AdminKey.{AdminKey}
use Rattle.ifdb_keyed.specs.Keys.{key_bytes}
use Rattle.ifdb_keyed.specs.Files.{first_line, is_key, key_in}

-- ---- the first line

is_other : (b : ℕ) → b ≢ 10 → (b == 10) ≡ false
is_other b h = grind (arith, nat_tests)

line_before : (n : ℕ) (bytes : List ℕ) → All (λ b. b ≢ 10) (take n bytes) → get_or bytes n 0 ≡ 10 → take n bytes ≡ first_line bytes
line_before zero [] plain newline = refl
line_before zero (b ∷ bytes) plain newline = let is : (b == 10) ≡ true = ap (λ x. x == 10) newline in rw is refl
line_before (suc n) [] plain newline = refl
line_before (suc n) (b ∷ bytes) plain newline =
    let other : (b == 10) ≡ false = is_other b (All-head (λ b. b ≢ 10) b (take n bytes) plain) in
    rw other (ap (λ xs. b ∷ xs) (line_before n bytes (All-tail (λ b. b ≢ 10) b (take n bytes) plain) newline))

pub line_found : (bytes : List ℕ) (n : ℕ) → BreaksAt bytes n → take n bytes ≡ first_line bytes
line_found bytes n found = line_before n bytes found.before found.newline

pub no_newline : (bytes : List ℕ) → All (λ b. b ≢ 10) bytes → bytes ≡ first_line bytes
no_newline [] plain = refl
no_newline (b ∷ bytes) plain =
    let other : (b == 10) ≡ false = is_other b (All-head (λ b. b ≢ 10) b bytes plain) in
    rw other (ap (λ xs. b ∷ xs) (no_newline bytes (All-tail (λ b. b ≢ 10) b bytes plain)))

-- the first line of a front is a front of the first line
line_front : (n : ℕ) (bytes : List ℕ) → first_line (take n bytes) ≡ take n (first_line bytes)
line_front zero bytes = refl
line_front (suc n) [] = refl
line_front (suc n) (b ∷ bytes) = by (b == 10) (line_front n bytes)
  where
    by : (test : Bool) → first_line (take n bytes) ≡ take n (first_line bytes)
        → (if test then [] else b ∷ first_line (take n bytes)) ≡ take (suc n) (if test then [] else b ∷ first_line bytes)
    by true same = refl
    by false same = ap (λ xs. b ∷ xs) same

-- of a text, at most one byte is dropped
one_less : (text : List ℕ) → length text ≤ length (without_return text) + 1
one_less text = by (slice_index text (length text - 1) == 13)
  where
    by : (test : Bool) → length text ≤ length (if test then take (length text - 1) text else text) + 1
    by true = omega (arith, length-take (length text - 1) text)
    by false = omega arith

-- a text, if it is a key
abbrev pub key_if : List ℕ → Option (List ℕ)
key_if text = if is_key text then Some text else None

not_key : (text : List ℕ) (a b c : Bool) → (a && b) ≡ false → (if (a && b) && c then Some text else None) ≡ None
not_key text a b c h = rw h refl

no_and : (a b : Bool) → b ≡ false → (a && b) ≡ false
no_and true b h = h
no_and false b h = refl

too_long : (text : List ℕ) → 64 < length text → key_if text ≡ None
too_long text h =
    let long : nat_le (length text) 64 ≡ false = grind (arith, nat_tests) in
    not_key text (nat_le 1 (length text)) (nat_le (length text) 64) (nat_le (length text) (utf8_valid_len text))
    (no_and (nat_le 1 (length text)) (nat_le (length text) 64) long)

empty : (text : List ℕ) → length text ≡ 0 → key_if text ≡ None
empty text h =
    let none : nat_le 1 (length text) ≡ false = grind (arith, nat_tests) in
    rw none refl

pub no_text : (text : List ℕ) → nat_le (length text) (utf8_valid_len text) ≡ false → key_if text ≡ None
no_text text h =
    let none : is_key text ≡ false = no_and (nat_le 1 (length text) && nat_le (length text) 64) (nat_le (length text) (utf8_valid_len text)) h in
    rw none refl

is_text_of_size : (text : List ℕ) → 0 < length text → length text ≤ 64 → nat_le (length text) (utf8_valid_len text) ≡ true → key_if text ≡ Some text
is_text_of_size text some short valid =
    let a : nat_le 1 (length text) ≡ true = grind (arith, nat_tests) in
    let b : nat_le (length text) 64 ≡ true = grind (arith, nat_tests) in
    rw (a, b, valid) refl

-- the first 66 bytes tell the key
pub key_front : (bytes front : List ℕ) → front ≡ take 66 bytes → key_in front ≡ key_in bytes
key_front bytes front e = ap key_in e ∙ by (nat_le (length (first_line bytes)) 66) refl
  where
    line : first_line (take 66 bytes) ≡ take 66 (first_line bytes)
    line = line_front 66 bytes

    by : (test : Bool) → nat_le (length (first_line bytes)) 66 ≡ test → key_in (take 66 bytes) ≡ key_in bytes
    by true is =
        let short : length (first_line bytes) ≤ 66 = grind (arith, nat_tests) in
        ap (λ xs. key_if (without_return xs)) (line ∙ take_all 66 (first_line bytes) short)
    by false is =
        let long : 66 < length (first_line bytes) = grind (arith, nat_tests) in
        let size : length (first_line (take 66 bytes)) ≡ 66 = ap length line ∙ omega (arith, length-take 66 (first_line bytes)) in
        too_long (without_return (first_line (take 66 bytes))) (omega (arith, one_less (first_line (take 66 bytes))))
        ∙ sym (too_long (without_return (first_line bytes)) (omega (arith, one_less (first_line bytes))))

-- a key is made of a text
pub key_made : (text : List ℕ) (key : Option AdminKey) → nat_le (length text) (utf8_valid_len text) ≡ true → IfSome key (λ k. key_bytes k ≡ text)
    → (key ≡ None → (length text ≡ 0) ⊎ (64 < length text)) → IfSome key (λ k. (0 < length text) × (length text ≤ 64)) → option_map key_bytes key ≡ key_if text
key_made text None valid bytes none some = elim (none refl) [ inl h ↦ sym (empty text h) | inr h ↦ sym (too_long text h) ]
key_made text (Some key) valid bytes none some = ap (λ xs. Some xs) bytes ∙ sym (is_text_of_size text some.0 some.1 valid)
