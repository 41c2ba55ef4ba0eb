-- Lists of the tags above a tag.
use Rattle.std.proofs.Common.{◌≡◌, ℕ, Bool, true, false, List, [], ◌∷◌, refl, sym, arith}
use Rattle.std.specs.List.{list_all}
use Rattle.std.proofs.lemmas.Bool.Decides.{nat_tests}
use Rattle.ifdb_label.specs.Tags.{MadeTag, below}
use Rattle.ifdb_label.specs.Ancestors.{has, HasAncestors}
use Rattle.ifdb_authority.specs.Authority.{Delegation, holds}
use Rattle.ifdb_authority.specs.Search.{AreAbove, HasAbove, IsAnswer}

all_listed : (f : ℕ → Bool) (list : List ℕ) → ((u : ℕ) → has list u ≡ true → f u ≡ true) → list_all f list ≡ true
all_listed f [] h = refl
all_listed f (u ∷ list) h = grind (arith, nat_tests, h u, all_listed f list (λ v e. h v (grind (arith, nat_tests))))

pub ancestors_are_above : (tags : List MadeTag) (t : ℕ) (above : List ℕ) → HasAncestors tags t above → AreAbove tags t above
ancestors_are_above tags t above all = all_listed (λ u. below tags t u) above (λ u e. grind (arith, nat_tests, all u))

pub ancestors_are_all : (tags : List MadeTag) (t : ℕ) (above : List ℕ) → HasAncestors tags t above → HasAbove tags t above
ancestors_are_all tags t above all u e = grind (arith, nat_tests, all u)

same_answer : (a b : Bool) → (a ≡ true → b ≡ true) → (b ≡ true → a ≡ true) → a ≡ b
same_answer true b f g = sym (f refl)
same_answer false true f g = g refl
same_answer false false f g = refl

-- the answer by all tags above is exact
pub exact_answer : (tags : List MadeTag) (a : Delegation) (p t : ℕ) (above : List ℕ) (held : Bool) → HasAbove tags t above → IsAnswer tags a p t above held → held ≡ holds tags a p t
exact_answer tags a p t above held has_all answer = same_answer held (holds tags a p t) answer.sound (answer.complete has_all)
