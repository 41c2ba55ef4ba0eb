-- The first line of a text, by the place of its newline.
use Rattle.std.proofs.Common.{◌≡◌, ℕ, ◌+◌, ◌<◌, ◌≤◌, suc, Bool, true, false, List, [], ◌∷◌, ◌∙◌, take, drop, length, refl, sym, ap, subst, cond, arith, Some, None, inl, inr}
use Rattle.std.specs.Prelude.{◌==◌, nat_lt, if◌then◌else◌}
use Rattle.std.specs.List.{position, position_or_len}
use Rattle.std.proofs.lemmas.Bool.{cases_Bool}
use Rattle.std.proofs.lemmas.Bool.Decides.{nat_tests}
use Rattle.ifdb_model.specs.Script.{lines_of, on_first}

-- how many bytes stand before the first newline
abbrev newline_at : List ℕ → ℕ
newline_at text = position_or_len (λ b. b == 10) text

-- there is one
line_before : (text : List ℕ) → newline_at text < length text → lines_of text ≡ take (newline_at text) text ∷ lines_of (drop (suc (newline_at text)) text)
line_before [] h = absurd (omega (arith, h))
line_before (b ∷ bytes) h = elim (cases_Bool (b == 10)) [
  | inl is ↦ rw is refl
  | inr other ↦
      let one : newline_at (b ∷ bytes) ≡ suc (newline_at bytes) = rw other (omega arith) in
      let rest : newline_at bytes < length bytes = omega (arith, h, one) in
      let e = line_before bytes rest in
      subst (λ n. lines_of (b ∷ bytes) ≡ take n (b ∷ bytes) ∷ lines_of (drop (suc n) (b ∷ bytes))) (sym one) (rw (other, e) refl)
]

-- there is none
line_alone : (b : ℕ) (bytes : List ℕ) → length (b ∷ bytes) ≤ newline_at (b ∷ bytes) → (b == 10 ≡ false) × (length bytes ≤ newline_at bytes)
line_alone b bytes h = elim (cases_Bool (b == 10)) [
  | inl is ↦ absurd (let none : newline_at (b ∷ bytes) ≡ 0 = rw is refl in omega (arith, h, none))
  | inr other ↦ (other, let one : newline_at (b ∷ bytes) ≡ suc (newline_at bytes) = rw other (omega arith) in omega (arith, h, one))
]

only_line : (b : ℕ) (bytes : List ℕ) → length (b ∷ bytes) ≤ newline_at (b ∷ bytes) → lines_of (b ∷ bytes) ≡ (b ∷ bytes) ∷ []
only_line b [] h = rw (line_alone b [] h).0 refl
only_line b (c ∷ more) h = let k = line_alone b (c ∷ more) h in rw k.0 (ap (on_first b) (only_line c more k.1))

-- the newline stands at a place
pub lines_at : (text : List ℕ) (at : ℕ) → position (λ b. b == 10) text ≡ Some at → lines_of text ≡ take at text ∷ lines_of (drop (at + 1) text)
lines_at text at h = by (nat_lt (newline_at text) (length text)) refl h where
  by : (b : Bool) → nat_lt (newline_at text) (length text) ≡ b → cond b (Some (newline_at text)) None ≡ Some at → lines_of text ≡ take at text ∷ lines_of (drop (at + 1) text)
  by true e k =
      let there : newline_at text < length text = grind (arith, nat_tests) in
      let same : newline_at text ≡ at = cc in
      let behind : suc (newline_at text) ≡ at + 1 = omega (arith, same) in
      subst (λ n. lines_of text ≡ take n text ∷ lines_of (drop (at + 1) text)) same
      (subst (λ n. lines_of text ≡ take (newline_at text) text ∷ lines_of (drop n text)) behind (line_before text there))
  by false e k = cc

-- there is none
pub lines_without : (text : List ℕ) → 0 < length text → position (λ b. b == 10) text ≡ None → lines_of text ≡ text ∷ lines_of []
lines_without [] some h = absurd (omega (arith, some))
lines_without (b ∷ bytes) some h = only_line b bytes (by (nat_lt (newline_at (b ∷ bytes)) (length (b ∷ bytes))) refl h) where
  by : (c : Bool) → nat_lt (newline_at (b ∷ bytes)) (length (b ∷ bytes)) ≡ c → cond c (Some (newline_at (b ∷ bytes))) None ≡ None → length (b ∷ bytes) ≤ newline_at (b ∷ bytes)
  by true e k = cc
  by false e k = grind (arith, nat_tests)
