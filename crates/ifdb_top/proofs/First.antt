-- Words without a first one, and words whose first one is another.
use Rattle.std.proofs.Common.{◌≡◌, ◌∙◌, ℕ, ◌<◌, true, false, List, [], ◌∷◌, get_or, length, refl, ap, sym, subst, arith}
use Rattle.std.proofs.lemmas.Bool.{false≢true}
use Rattle.std.proofs.lemmas.Slice.Eq.{bytes_eq-Decides}
use Rattle.std.specs.Prelude.{codes, String, string_bytes}
use Rattle.std.specs.Str.{bytes_eq}
use Rattle.std.specs.declared.alloc.Global.{Global}
use Rattle.ifdb_words.specs.First.{is_first}

pub no_first : (name : List ℕ) (words : List (String Global)) → length words < 1 → is_first name words ≡ false
no_first name [] h = refl
no_first name (word ∷ words) h = absurd (omega (arith, h))

-- words have one first word
pub one_first : (name other : List ℕ) (words : List (String Global)) → is_first name words ≡ true → is_first other words ≡ true → name ≡ other
one_first name other [] is also = absurd (false≢true is)
one_first name other (word ∷ words) is also = sym ((bytes_eq-Decides (string_bytes word) name).0 is) ∙ (bytes_eq-Decides (string_bytes word) other).0 also

-- the first word is this one
pub first_is : (name : List ℕ) (words : List (String Global)) (word : String Global) → 0 < length words → word ≡ get_or words 0 word → bytes_eq (string_bytes word) name ≡ true → is_first name words ≡ true
first_is name [] word some at same = absurd (omega (arith, some))
first_is name (first ∷ words) word some at same = subst (λ (w : String Global). bytes_eq (string_bytes w) name ≡ true) at same

pub other_first : (words : List (String Global)) → is_first (codes "compact") words ≡ true → is_first (codes "inspect") words ≡ true → ⊥
other_first words is also = let head : 99 ≡ 105 = ap (λ (l : List ℕ). get_or l 0 0) (one_first (codes "compact") (codes "inspect") words is also) in absurd (omega (arith, head))
