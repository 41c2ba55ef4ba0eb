-- Small facts on options, tests and texts.
use Rattle.std.proofs.Common.{◌≡◌, ◌||◌, ℕ, Bool, true, false, refl, sym, ap, List, Option, Some, None, is_some, true≢false}
use Rattle.std.specs.Str.{bytes_eq}
use Rattle.std.specs.List.{find, fold, list_any}
use Rattle.std.proofs.lemmas.Slice.Eq.{bytes_eq-Decides}

pub none_of : {X : Type 0} (o : Option X) → is_some o ≡ false → o ≡ None
none_of None e = refl
none_of (Some x) e = absurd (true≢false e)

pub or_false : (a b : Bool) → (a || b) ≡ false → (a ≡ false) × (b ≡ false)
or_false true b e = absurd (true≢false e)
or_false false b e = (refl, e)

pub text_is : (xs ys : List ℕ) → bytes_eq xs ys ≡ true → xs ≡ ys
text_is xs ys e = (bytes_eq-Decides xs ys).0 e

pub some_is : {X : Type 0} (x y : X) → Some x ≡ Some y → x ≡ y
some_is x y e = ap (λ (o : Option _). Rattle.std.specs.Option.unwrap_or o x) e

pub none_some : {X : Type 0} (x : X) → None ≡ Some x → ⊥
none_some x e = true≢false (sym (ap (λ (o : Option _). is_some o) e))
