-- Rows by reference in lists: what is told of the rows that they refer to.
use Rattle.std.proofs.Common.{◌≡◌, ℕ, suc, Bool, List, [], ◌∷◌, ◌++◌, ◌∙◌, map, take, drop, refl, sym, ap, arith}
use Rattle.std.specs.Prelude.{insert, remove, not}
use Rattle.std.specs.List.{list_all, list_any}
use Rattle.std.proofs.lemmas.Bool.Decides.{nat_tests}
use Rattle.std.proofs.lemmas.List.{map-append}
use Rattle.std.specs.List.{drop-map, take-map}
use Rattle.ifdb_row.specs.Reach.{reach, is_parted}

module _ {X Y : Type 0} (f : X → Y) where
  pub all_map : (p : Y → Bool) (xs : List X) → list_all (λ x. p (f x)) xs ≡ list_all p (map f xs)
  all_map p [] = refl
  all_map p (x ∷ xs) = grind (arith, nat_tests, all_map p xs)

  pub any_map : (p : Y → Bool) (xs : List X) → list_any (λ x. p (f x)) xs ≡ list_any p (map f xs)
  any_map p [] = refl
  any_map p (x ∷ xs) = grind (arith, nat_tests, any_map p xs)

  pub parted_map : (p : Y → Bool) (xs : List X) → is_parted (λ x. p (f x)) xs ≡ is_parted p (map f xs)
  parted_map p [] = refl
  parted_map p (x ∷ xs) = grind (arith, nat_tests, parted_map p xs, all_map (λ y. not (p y)) xs)

  pub reach_map : (p : Y → Bool) (xs : List X) → reach (λ x. p (f x)) xs ≡ reach p (map f xs)
  reach_map p [] = refl
  reach_map p (x ∷ xs) = grind (arith, nat_tests, reach_map p xs)

  pub insert_map : (xs : List X) (i : ℕ) (x : X) → map f (insert xs i x) ≡ insert (map f xs) i (f x)
  insert_map xs i x =
      map-append f (take i xs) (x ∷ drop i xs)
      ∙ (ap (λ ys. ys ++ f x ∷ map f (drop i xs)) (sym (take-map f i xs)) ∙ ap (λ ys. take i (map f xs) ++ f x ∷ ys) (sym (drop-map f i xs)))

  pub remove_map : (xs : List X) (i : ℕ) → map f (remove xs i) ≡ remove (map f xs) i
  remove_map xs i =
      map-append f (take i xs) (drop (suc i) xs)
      ∙ (ap (λ ys. ys ++ map f (drop (suc i) xs)) (sym (take-map f i xs)) ∙ ap (λ ys. take i (map f xs) ++ ys) (sym (drop-map f (suc i) xs)))
