-- Numbers of the command line, by what `parse` reads.
use Rattle.std.proofs.Common.{◌≡◌, ℕ, ◌<◌, ◌≤◌, ◌^◌, Bool, true, List, [], ◌∷◌, ◌∙◌, length, refl, sym, ap, subst, arith, Some, None}
use Rattle.std.specs.Prelude.{Result, Ok, Err, nat_le, nat_lt, ◌&&◌, false, if◌then◌else◌}
use Rattle.std.specs.List.{list_all}
use Rattle.std.specs.Result.{result_ok}
use Rattle.std.specs.Char.{is_ascii_digit}
use Rattle.std.specs.Str.Parse.{AllDigits, IsNumeral, ParsesUnsigned, digits_value, without_leading_plus}
use Rattle.std.proofs.lemmas.Bool.Decides.{nat_tests}
use Rattle.std.proofs.lemmas.Int.Digits.{digits_value-lt}
use Rattle.std.proofs.Math.Nat.{pow-le-pow_right}
use Rattle.std.proofs.lemmas.Str.{digit_value_digit}
use Rattle.ifdb_words.specs.Numbers.{decimal_of}

digits_all : (bs : List ℕ) → list_all is_ascii_digit bs ≡ true → AllDigits 10 bs
digits_all [] h = tt
digits_all (c ∷ cs) h =
    let low : 48 ≤ c = grind (arith, nat_tests) in
    let high : c ≤ 57 = grind (arith, nat_tests) in
    let rest : list_all is_ascii_digit cs ≡ true = grind (arith, nat_tests) in
    let value = digit_value_digit c (low, high) in
    (omega (arith, value, high), digits_all cs rest)

no_plus : (bs : List ℕ) → list_all is_ascii_digit bs ≡ true → without_leading_plus bs ≡ bs
no_plus [] h = refl
no_plus (c ∷ cs) h =
    let low : 48 ≤ c = grind (arith, nat_tests) in
    grind (arith, nat_tests)

-- a text of digits alone, not too many
some_read : {E : Type 0} (bs : List ℕ) (r : Result ℕ E) → list_all is_ascii_digit bs ≡ true → length bs ≤ 19
    → (b : Bool) → nat_lt 0 (length bs) ≡ b → ParsesUnsigned 64 10 bs r → result_ok r ≡ (if b then Some (digits_value 10 bs) else None)
some_read bs (Ok n) h few true some p = ap Some (p.1 ∙ ap (digits_value 10) (no_plus bs h))
some_read bs (Ok n) h few false none p = absurd (let some = p.0.0 in let same = ap length (no_plus bs h) in grind (arith, nat_tests))
some_read bs (Err e) h few true some p =
    let value = digits_value-lt 10 bs (digits_all bs h) in
    let most : 10 ^ length bs ≤ 10 ^ 19 = pow-le-pow_right {n = 10} (omega arith) {i = length bs} {j = 19} few in
    let numeral : IsNumeral 10 bs = (grind (arith, nat_tests), digits_all bs h) in
    absurd (p (subst (λ ds. IsNumeral 10 ds × (digits_value 10 ds < 2 ^ 64)) (sym (no_plus bs h)) (numeral, omega (arith, value, most))))
some_read bs (Err e) h few false none p = refl

pub number_read : {E : Type 0} (most : ℕ) (bs : List ℕ) (r : Result ℕ E) → most ≤ 19 → list_all is_ascii_digit bs ≡ true → length bs ≤ most
    → ParsesUnsigned 64 10 bs r → result_ok r ≡ decimal_of most bs
number_read most bs r within h few p =
    let short : nat_le (length bs) most ≡ true = grind (arith, nat_tests) in
    some_read bs r h (omega arith) (nat_lt 0 (length bs)) refl p ∙ by (nat_lt 0 (length bs)) short where
      by : (b : Bool) → nat_le (length bs) most ≡ true → (if b then Some (digits_value 10 bs) else None) ≡ (if b && nat_le (length bs) most && list_all is_ascii_digit bs then Some (digits_value 10 bs) else None)
      by true s = rw (s, h) refl
      by false s = refl

-- others are no numbers
pub number_too_long : (most : ℕ) (bs : List ℕ) → most < length bs → None ≡ decimal_of most bs
number_too_long most bs h = let long : nat_le (length bs) most ≡ false = grind (arith, nat_tests) in grind (arith, nat_tests, long)

pub number_of_others : (most : ℕ) (bs : List ℕ) → list_all is_ascii_digit bs ≡ false → None ≡ decimal_of most bs
number_of_others most bs h = grind (arith, nat_tests, h)
