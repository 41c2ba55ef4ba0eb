-- Lists of tags that rise, by looking at neighbours alone.
use Rattle.std.proofs.Common.{◌≡◌, ℕ, suc, ◌+◌, ◌-◌, ◌<◌, ◌≤◌, Bool, true, false, List, [], ◌∷◌, length, drop, get_or, nat_lt, refl, sym, ap, ◌∙◌, arith}
use Rattle.std.specs.List.{list_all}
use Rattle.std.proofs.Math.Seq.{drop-cons}
use Rattle.std.proofs.lemmas.Bool.Decides.{nat_tests}
use Rattle.std.proofs.lemmas.List.{length-drop}
use Rattle.ifdb_value.proofs.Lists.{all_wider}
use Rattle.ifdb_label.specs.Label.{is_rising}

-- behind a smaller tag a list that rises goes on rising
pub rises_on : (t u : ℕ) (ts : List ℕ) → t < u → is_rising (t ∷ u ∷ ts) ≡ is_rising (u ∷ ts)
rises_on t u ts lt = by (list_all (λ v. nat_lt u v) ts) refl where
  by : (b : Bool) → list_all (λ v. nat_lt u v) ts ≡ b → is_rising (t ∷ u ∷ ts) ≡ is_rising (u ∷ ts)
  by true e =
      let all : list_all (λ v. nat_lt t v) ts ≡ true = all_wider (λ v. nat_lt u v) (λ v. nat_lt t v) ts (λ v i. grind (arith, nat_tests)) e in
      grind (arith, nat_tests)
  by false e = grind (arith, nat_tests)

-- a tag that isn't smaller than the next one
pub falls : (t u : ℕ) (ts : List ℕ) → u ≤ t → is_rising (t ∷ u ∷ ts) ≡ false
falls t u ts le = grind (arith, nat_tests)

at_two : (tags : List ℕ) (i a b : ℕ) → 1 ≤ i → i < length tags → a ≡ get_or tags (i - 1) a → b ≡ get_or tags i b → drop (i - 1) tags ≡ a ∷ b ∷ drop (i + 1) tags
at_two tags i a b ge lt here there =
    let k : suc (i - 1) ≡ i = omega arith in
    let l : suc i ≡ i + 1 = omega arith in
    let one : drop (i - 1) tags ≡ a ∷ drop (suc (i - 1)) tags = drop-cons tags (i - 1) a (omega arith) ∙ ap (λ x. x ∷ drop (suc (i - 1)) tags) (sym here) in
    let two : drop i tags ≡ b ∷ drop (suc i) tags = drop-cons tags i b lt ∙ ap (λ x. x ∷ drop (suc i) tags) (sym there) in
    one ∙ ap (λ xs. a ∷ xs) (ap (λ n. drop n tags) k ∙ two ∙ ap (λ n. b ∷ drop n tags) l)

at_one : (tags : List ℕ) (i b : ℕ) → i < length tags → b ≡ get_or tags i b → drop i tags ≡ b ∷ drop (i + 1) tags
at_one tags i b lt there =
    let l : suc i ≡ i + 1 = omega arith in
    drop-cons tags i b lt ∙ ap (λ x. x ∷ drop (suc i) tags) (sym there) ∙ ap (λ n. b ∷ drop n tags) l

pub goes_on : (tags : List ℕ) (i a b : ℕ) → 1 ≤ i → i < length tags → a ≡ get_or tags (i - 1) a → b ≡ get_or tags i b → nat_lt a b ≡ true
    → is_rising (drop (i - 1) tags) ≡ is_rising tags → is_rising (drop (i + 1 - 1) tags) ≡ is_rising tags
goes_on tags i a b ge lt here there test so_far =
    let less : a < b = grind (arith, nat_tests) in
    let k : i + 1 - 1 ≡ i = omega arith in
    let next : is_rising (drop i tags) ≡ is_rising (drop (i - 1) tags) =
    ap is_rising (at_one tags i b lt there) ∙ sym (ap is_rising (at_two tags i a b ge lt here there) ∙ rises_on a b (drop (i + 1) tags) less) in
    ap (λ n. is_rising (drop n tags)) k ∙ next ∙ so_far

pub stops : (tags : List ℕ) (i a b : ℕ) → 1 ≤ i → i < length tags → a ≡ get_or tags (i - 1) a → b ≡ get_or tags i b → nat_lt a b ≡ false
    → is_rising (drop (i - 1) tags) ≡ is_rising tags → false ≡ is_rising tags
stops tags i a b ge lt here there test so_far =
    let le : b ≤ a = grind (arith, nat_tests) in
    sym (falls a b (drop (i + 1) tags) le) ∙ sym (ap is_rising (at_two tags i a b ge lt here there)) ∙ so_far

one_left : (xs : List ℕ) → length xs ≤ 1 → is_rising xs ≡ true
one_left [] h = refl
one_left (x ∷ []) h = refl
one_left (x ∷ y ∷ xs) h = absurd (omega arith)

pub ends : (tags : List ℕ) (i : ℕ) → length tags ≤ i → is_rising (drop (i - 1) tags) ≡ is_rising tags → true ≡ is_rising tags
ends tags i le so_far = sym (one_left (drop (i - 1) tags) (omega (arith, length-drop (i - 1) tags))) ∙ so_far
