-- How few rows parts have, and what a search in them costs.
use Rattle.std.proofs.Common.{◌≡◌, ℕ, zero, suc, ◌<◌, ◌≤◌, ◌+◌, ◌-◌, ◌*◌, ◌^◌, Bool, true, List, [], ◌∷◌, length, get_or, sym, ap, subst, arith}
use Rattle.std.specs.List.{list_all, flat_map}
use Rattle.std.proofs.lemmas.Bool.Decides.{nat_tests}
use Rattle.std.proofs.lemmas.List.{length-append}
use Rattle.std.proofs.Math.Nat.{mul-le-mul}
use Rattle.ifdb_row.specs.declared.row.Row.{Row}
use Rattle.ifdb_store.specs.Pages.{are_full, branch_rows, flat, front, is_branch, is_full_node, is_limb, is_page, is_twig, limb_rows, page_begins, rows_of}
use Rattle.ifdb_store.specs.Costs.{BranchBounds, LimbBounds, PageBounds, SearchedIn, TwigBounds}
use Rattle.ifdb_store.proofs.PartLemmas.{part_at}
use Rattle.ifdb_store.proofs.Costs.{at_most_product, branch_square, limb_square, square_is, tree_square, twig_square}

module _ {X : Type 0} (rows : X → List Row) (good big : X → Bool) (n : ℕ) (least : (x : X) → good x ≡ true → big x ≡ true → n ≤ length (rows x)) where
  all_least : (parts : List X) → list_all good parts ≡ true → list_all big parts ≡ true → n * length parts ≤ length (flat_map rows parts)
  all_least [] g b = omega arith
  all_least (x ∷ parts) g b =
      let one = least x (grind (arith, nat_tests)) (grind (arith, nat_tests)) in
      let more = all_least parts (grind (arith, nat_tests)) (grind (arith, nat_tests)) in
      let all = length-append (rows x) (flat_map rows parts) in
      omega (arith, one, more, all)

  -- beside one part each has so many rows at least
  pub others_least : (parts : List X) (i : ℕ) (x : X) → i < length parts → x ≡ get_or parts i x → list_all good parts ≡ true → list_all big parts ≡ true
      → n * length parts + length (rows x) ≤ length (flat_map rows parts) + n
  others_least [] i x lt e g b = absurd (omega arith)
  others_least (y ∷ parts) zero x lt e g b =
      let same : length (rows x) ≡ length (rows y) = ap (λ z. length (rows z)) e in
      let more = all_least parts (grind (arith, nat_tests)) (grind (arith, nat_tests)) in
      let all = length-append (rows y) (flat_map rows parts) in
      omega (arith, same, more, all)
  others_least (y ∷ parts) (suc i) x lt e g b =
      let one = least y (grind (arith, nat_tests)) (grind (arith, nat_tests)) in
      let more = others_least parts i x (omega arith) e (grind (arith, nat_tests)) (grind (arith, nat_tests)) in
      let all = length-append (rows y) (flat_map rows parts) in
      omega (arith, one, more, all)

-- one part has no more rows than all
one_within : {X : Type 0} (rows : X → List Row) (parts : List X) (i : ℕ) (x : X) → i < length parts → x ≡ get_or parts i x → length (rows x) ≤ length (flat_map rows parts)
one_within rows [] i x lt e = absurd (omega arith)
one_within rows (y ∷ parts) zero x lt e =
    let same : length (rows x) ≡ length (rows y) = ap (λ z. length (rows z)) e in
    let all = length-append (rows y) (flat_map rows parts) in
    omega (arith, same, all)
one_within rows (y ∷ parts) (suc i) x lt e =
    let more = one_within rows parts i x (omega arith) e in
    let all = length-append (rows y) (flat_map rows parts) in
    omega (arith, more, all)

more_times : (n m : ℕ) → n * suc m ≡ n * m + n
more_times n m = omega arith

-- beside one of several parts, each of which is full
beside : {X : Type 0} (rows : X → List Row) (good big : X → Bool) (n : ℕ) (least : (x : X) → good x ≡ true → big x ≡ true → n ≤ length (rows x)) (parts : List X) (i : ℕ) (x : X)
    → i < length parts → x ≡ get_or parts i x → list_all good parts ≡ true → are_full big parts ≡ true
    → n * (length parts - 1) + (length (rows x) + 1) ≤ length (flat_map rows parts) + 1
beside rows good big n least [] i x lt e g f = absurd (omega arith)
beside rows good big n least (y ∷ []) i x lt e g f = let one = one_within rows (y ∷ []) i x lt e in omega (arith, one)
beside rows good big n least (y ∷ z ∷ parts) i x lt e g f =
    let full : list_all big (y ∷ z ∷ parts) ≡ true = grind (arith, nat_tests) in
    let more = others_least rows good big n least (y ∷ z ∷ parts) i x lt e g full in
    let others = length (z ∷ parts) in
    let one : length (y ∷ z ∷ parts) - 1 ≡ others = omega arith in
    let short : n * (length (y ∷ z ∷ parts) - 1) ≡ n * others = ap (λ k. n * k) one in
    let long : n * length (y ∷ z ∷ parts) ≡ n * others + n = more_times n others in
    omega (arith, more, short, long)

few_rows : (rows : List Row) → is_page rows ≡ true → (1 ≤ length rows) × (length rows ≤ 64)
few_rows rows h = (grind (arith, nat_tests), grind (arith, nat_tests))

pub twig_bounds : (pages : List (List Row)) (k : ℕ) → is_twig pages ≡ true → SearchedIn PageBounds pages k → TwigBounds pages k
twig_bounds pages k h s =
    let good : list_all is_page pages ≡ true = grind (arith, nat_tests) in
    let few : length pages ≤ 32 = grind (arith, nat_tests) in
    let page = few_rows s.part (part_at (λ r. r) front is_page page_begins pages s.place s.part s.there s.is good) in
    let least = others_least (λ r. r) is_page is_page 1 (λ r g b. (few_rows r g).0) pages s.place s.part s.there s.is good good in
    let few_of = page.1 in
    let bounded = s.bounded in
    let one : 1 ≤ length pages = let t = s.there in omega (arith, t) in
    let side : length pages + length s.part ≤ length (flat pages) + 1 = omega (arith, least) in
    let all = mul-le-mul side side in
    let square = twig_square (length pages) (length s.part) s.inside k one s.bounded s.product in
    record {
      square = omega (arith, all, square);
      most = at_most_product (2 * (length pages - 1) + 1) s.inside 63 129 k (omega (arith, few, one)) (omega (arith, bounded, few_of)) s.product;
    }

-- a full twig has 16 rows
twig_rows : (pages : List (List Row)) → is_twig pages ≡ true → is_full_node pages ≡ true → 16 ≤ length (flat pages)
twig_rows pages g b =
    let good : list_all is_page pages ≡ true = grind (arith, nat_tests) in
    let full : 16 ≤ length pages = grind (arith, nat_tests) in
    let least = all_least (λ r. r) is_page is_page 1 (λ r g b. (few_rows r g).0) pages good good in
    omega (arith, full, least)

pub branch_bounds : (twigs : List (List (List Row))) (k : ℕ) → is_branch twigs ≡ true → SearchedIn TwigBounds twigs k → BranchBounds twigs k
branch_bounds twigs k h s =
    let good : list_all is_twig twigs ≡ true = grind (arith, nat_tests) in
    let full : are_full is_full_node twigs ≡ true = grind (arith, nat_tests) in
    let few : length twigs ≤ 32 = grind (arith, nat_tests) in
    let there = s.there in
    let side = beside flat is_twig is_full_node 16 twig_rows twigs s.place s.part s.there s.is good full in
    record {
      square = branch_square (length twigs - 1) (length (flat s.part) + 1) s.inside k (length (branch_rows twigs) + 1) s.bounded.square s.bounded.most side s.product;
      most = at_most_product (2 * (length twigs - 1) + 1) s.inside 63 8127 k (omega (arith, few, there)) s.bounded.most s.product;
    }

-- a full branch has 256
branch_least : (twigs : List (List (List Row))) → is_branch twigs ≡ true → is_full_node twigs ≡ true → 256 ≤ length (branch_rows twigs)
branch_least twigs g b =
    let good : list_all is_twig twigs ≡ true = grind (arith, nat_tests) in
    let full : 16 ≤ length twigs = grind (arith, nat_tests) in
    let big : list_all is_full_node twigs ≡ true = grind (arith, nat_tests) in
    let least = all_least flat is_twig is_full_node 16 twig_rows twigs good big in
    omega (arith, full, least)

pub limb_bounds : (branches : List (List (List (List Row)))) (k : ℕ) → is_limb branches ≡ true → SearchedIn BranchBounds branches k → LimbBounds branches k
limb_bounds branches k h s =
    let good : list_all is_branch branches ≡ true = grind (arith, nat_tests) in
    let full : are_full is_full_node branches ≡ true = grind (arith, nat_tests) in
    let few : length branches ≤ 32 = grind (arith, nat_tests) in
    let there = s.there in
    let side = beside branch_rows is_branch is_full_node 256 branch_least branches s.place s.part s.there s.is good full in
    record {
      square = limb_square (length branches - 1) (length (branch_rows s.part) + 1) s.inside k (length (limb_rows branches) + 1) s.bounded.square s.bounded.most side s.product;
      most = at_most_product (2 * (length branches - 1) + 1) s.inside 63 512001 k (omega (arith, few, there)) s.bounded.most s.product;
    }

-- a full limb has 4096
limb_least : (branches : List (List (List (List Row)))) → is_limb branches ≡ true → is_full_node branches ≡ true → 4096 ≤ length (limb_rows branches)
limb_least branches g b =
    let good : list_all is_branch branches ≡ true = grind (arith, nat_tests) in
    let full : 16 ≤ length branches = grind (arith, nat_tests) in
    let big : list_all is_full_node branches ≡ true = grind (arith, nat_tests) in
    let least = all_least branch_rows is_branch is_full_node 256 branch_least branches good big in
    omega (arith, full, least)

-- a search over full limbs
pub tree_bounds : (limbs : List (List (List (List (List Row))))) (k : ℕ) → are_full is_full_node limbs ≡ true → list_all is_limb limbs ≡ true → SearchedIn LimbBounds limbs k
    → k ≤ 4 * (length (rows_of limbs) + 1) ^ 2
tree_bounds limbs k full good s =
    let side = beside limb_rows is_limb is_full_node 4096 limb_least limbs s.place s.part s.there s.is good full in
    subst (λ m. k ≤ 4 * m) (sym (square_is (length (rows_of limbs) + 1)))
    (tree_square (length limbs - 1) (length (limb_rows s.part) + 1) s.inside k (length (rows_of limbs) + 1) s.bounded.square s.bounded.most side s.product)
