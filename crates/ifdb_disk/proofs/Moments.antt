-- How what is said of all moments since some time is put together.
use Rattle.std.proofs.Common.{◌≡◌, ℕ, List, [], ◌∷◌, ◌++◌, refl, sym, ap, ◌∙◌, append_assoc}
use Rattle.std.specs.Prelude.{Option, Some, None}
use Rattle.std.specs.List.{AllByRecursion}
use Rattle.ifdb_disk.specs.Images.{Shown, IsImage}
use Rattle.ifdb_disk.specs.Clock.{Clock, goes, Since, Leaves}

all_append : (P : Shown → Type 0) (xs ys : List Shown) → AllByRecursion P xs → AllByRecursion P ys → AllByRecursion P (xs ++ ys)
all_append P [] ys all more = more
all_append P (x ∷ xs) ys all more = (all.0, all_append P xs ys all.1 more)

all_weaker : (P Q : Shown → Type 0) → ((s : Shown) → P s → Q s) → (xs : List Shown) → AllByRecursion P xs → AllByRecursion Q xs
all_weaker P Q imply [] all = all
all_weaker P Q imply (x ∷ xs) all = (imply x all.0, all_weaker P Q imply xs all.1)

pub since_here : (t : Option Clock) (P : Shown → Type 0) → Since t t P
since_here None P = tt
since_here (Some c) P = ([], refl, tt)

pub since_next : (t : Option Clock) (f : Shown → Shown) (P : Shown → Type 0) → ((c : Clock) → t ≡ Some c → P (f c.now)) → Since t (goes f t) P
since_next None f P here = tt
since_next (Some c) f P here = (f c.now ∷ [], refl, (here c refl, tt))

pub since_on : (a b c : Option Clock) (P : Shown → Type 0) → Since a b P → Since b c P → Since a c P
since_on None b c P first second = tt
since_on (Some a) None c P first second = absurd first
since_on (Some a) (Some b) None P first second = second
since_on (Some a) (Some b) (Some c) P first second =
    (second.0 ++ first.0, second.1 ∙ ap (λ (l : List Shown). second.0 ++ l) first.1 ∙ sym (append_assoc second.0 first.0 (a.now ∷ a.before)), all_append P second.0 first.0 second.2 first.2)

pub since_weaker : (a b : Option Clock) (P Q : Shown → Type 0) → ((s : Shown) → P s → Q s) → Since a b P → Since a b Q
since_weaker None b P Q imply since = tt
since_weaker (Some a) None P Q imply since = since
since_weaker (Some a) (Some b) P Q imply since = (since.0, since.1, all_weaker P Q imply since.0 since.2)

pub leaves_weaker : (a b : Option Clock) (P Q : List ℕ → Type 0) → ((image : List ℕ) → P image → Q image) → Leaves a b P → Leaves a b Q
leaves_weaker a b P Q imply leaves = since_weaker a b (λ s. (image : List ℕ) → IsImage s image → P image) (λ s. (image : List ℕ) → IsImage s image → Q image) (λ s each image is. imply image (each image is)) leaves

pub leaves_on : (a b c : Option Clock) (P : List ℕ → Type 0) → Leaves a b P → Leaves b c P → Leaves a c P
leaves_on a b c P first second = since_on a b c (λ s. (image : List ℕ) → IsImage s image → P image) first second
