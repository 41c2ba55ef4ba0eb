-- Children found by links, one behind the other.
use Rattle.std.proofs.Common.{◌≡◌, ℕ, ◌<◌, ◌≤◌, ◌*◌, ◌+◌, Bool, true, false, List, [], ◌∷◌, length, get_or, refl, sym, ap, ◌∙◌, arith, Some, None, Option, ◌&&◌}
use Rattle.std.specs.Prelude.{not, find, filter, is_some, nat_lt, ◌==◌, ◌++◌, IsTrue}
use Rattle.std.specs.List.{list_all, list_any}
use Rattle.std.proofs.lemmas.Bool.{false≢true}
use Rattle.std.proofs.lemmas.Bool.Decides.{nat_tests}
use Rattle.ifdb_value.proofs.Lists.{all_wider, any_meets_all}
use Rattle.ifdb_row.specs.declared.slot.Slot.{Slot}
use Rattle.ifdb_row.specs.declared.row.Row.{Row}
use Rattle.ifdb_row.specs.Slots.{is_same_slot, slot_lt}
use Rattle.ifdb_row.specs.Content.{live, rising}
use Rattle.ifdb_row.specs.Reach.{skip}
use Rattle.ifdb_row.specs.Questions.{IsRun, is_child_of, is_next_child, is_past, row_at, row_bound_to, if_passes}
use Rattle.ifdb_row.proofs.SlotOrder.{slot_same, slot_lt_itself, slot_lt_trans}
use Rattle.ifdb_row.proofs.Rising.{lt_not_back, lt_from}
use Rattle.ifdb_row.proofs.Edges.{slot_lt_table}
use Rattle.ifdb_row.proofs.ContentLaws.{above}
use Rattle.ifdb_store.specs.Links.{is_near, are_near, is_from, is_first, has_links, lead_to, are_links, link_slot, child_slot, print_of, is_next_link}
use Rattle.ifdb_store.proofs.Prints.{child_back, from_print, link_back, child_near, link_lt}

-- rows of which none is left out by a test all pass it
pub skips_all : {X : Type 0} (p : X → Bool) (xs : List X) → skip p xs ≡ [] → list_all p xs ≡ true
skips_all p [] e = refl
skips_all p (x ∷ xs) e = grind (arith, nat_tests, skips_all p xs)

-- where one is left out, not all pass it
skips_some : {X : Type 0} (p : X → Bool) (xs : List X) (y : X) (ys : List X) → skip p xs ≡ y ∷ ys → list_all p xs ≡ false
skips_some p [] y ys e = cc
skips_some p (x ∷ xs) y ys e = grind (arith, nat_tests, skips_some p xs y ys)

-- a run of those from the first left out on is empty exactly where all pass
pub run_tells : (p : Row → Bool) (rows run : List Row) → IsRun run (skip p rows) → (length run == 0) ≡ list_all p rows
run_tells p rows [] r = sym (skips_all p rows (r.some refl))
run_tells p rows (x ∷ run) r = let e : (length (x ∷ run) == 0) ≡ false = grind (arith, nat_tests) in e ∙ sym (skips_some p rows x (run ++ r.rest) r.front)

-- the child that a link tells
pub first_is : (s : Slot) (refs : List Slot) (x : Slot) → is_first s refs ≡ true → x ≡ get_or refs 0 x → x ≡ s
first_is s [] x h e = absurd (false≢true h)
first_is s (p ∷ refs) x h e = e ∙ sym (slot_same s p h)

pub near_child : (s c : Slot) → c ≡ child_slot s → IsTrue (is_near c)
near_child s c e = let n : is_near c ≡ true = ap is_near e ∙ child_near s in grind (arith, nat_tests)

-- ---- the first link behind an edge

-- the links from a print, from its first on
pub first_same : (print : ℕ) (r : Row) → is_from print r.slot && true ≡ not (nat_lt r.slot.table (print * 4294967296)) && is_from print r.slot
first_same print r = grind (arith, nat_tests)

pub first_down : (print : ℕ) (r x : Row) → slot_lt r.slot x.slot ≡ true → nat_lt r.slot.table (print * 4294967296) ≡ false → is_from print x.slot ≡ true → is_from print r.slot ≡ true
first_down print r x k e u = let l = slot_lt_table r.slot x.slot k in grind (arith, nat_tests)

-- those behind the link to a child
pub later_same : (print : ℕ) (c : Slot) (r : Row) → is_from print r.slot && slot_lt c (child_slot r.slot) ≡ not (not (slot_lt (link_slot print c) r.slot)) && is_from print r.slot
later_same print c r =
    let e : is_from print r.slot ≡ true → slot_lt (link_slot print c) r.slot ≡ slot_lt c (child_slot r.slot) = λ h. ap (slot_lt (link_slot print c)) (sym (link_back print r.slot h)) ∙ link_lt print c (child_slot r.slot) in
    grind (arith, nat_tests, e)

pub later_down : (print : ℕ) (c : Slot) (r x : Row) → slot_lt r.slot x.slot ≡ true → not (slot_lt (link_slot print c) r.slot) ≡ false → is_from print x.slot ≡ true → is_from print r.slot ≡ true
later_down print c r x k e u =
    let l = slot_lt_table r.slot x.slot k in
    let m : slot_lt (link_slot print c) r.slot ≡ true = grind (arith, nat_tests) in
    let n : print * 4294967296 + c.table ≤ r.slot.table = slot_lt_table (link_slot print c) r.slot m in
    grind (arith, nat_tests)

-- ---- what the first link tells

past_more : (after : Option Slot) (p q : Slot) → is_past after p ≡ true → slot_lt p q ≡ true → is_past after q ≡ true
past_more None p q h k = refl
past_more (Some a) p q h k = slot_lt_trans a p q h k

module _ (print : ℕ) (behind : Option Slot) (s : Slot) (near : is_near s ≡ true) (past : is_past behind s ≡ true) where
  -- the link to a child behind a slot passes
  passes : (y : Row) → is_same_slot y.slot (link_slot print s) ≡ true → is_next_link print behind y ≡ true
  passes y e =
      let same = slot_same y.slot (link_slot print s) e in
      let one : is_from print y.slot ≡ true = ap (is_from print) same ∙ from_print print s near in
      let two : is_past behind (child_slot y.slot) ≡ true = ap (is_past behind) (ap child_slot same ∙ child_back print s near) ∙ past in
      grind (arith, nat_tests, one, two)

  none_live : (links : List Row) → find (is_next_link print behind) links ≡ None → live links (link_slot print s) ≡ false
  none_live [] e = refl
  none_live (y ∷ links) e = grind (arith, nat_tests, none_live links, passes y)

  -- so none stands before the child of the first link
  first_least : (links : List Row) (x : Row) → rising links ≡ true → find (is_next_link print behind) links ≡ Some x → live links (link_slot print s) ≡ true → slot_lt s (child_slot x.slot) ≡ false
  first_least [] x h e k = absurd (false≢true k)
  first_least (y ∷ links) x h e k = by (first_least links x) (is_next_link print behind y) refl where
    at_first : is_same_slot y.slot (link_slot print s) ≡ true → slot_lt s (child_slot y.slot) ≡ false
    at_first i = ap (slot_lt s) (ap child_slot (slot_same y.slot (link_slot print s) i) ∙ child_back print s near) ∙ slot_lt_itself s

    later : (zs : List Row) → is_from print y.slot ≡ true → above y.slot zs ≡ true → live zs (link_slot print s) ≡ true → slot_lt s (child_slot y.slot) ≡ false
    later [] f a l = absurd (false≢true l)
    later (z ∷ zs) f a l = grind (arith, nat_tests, later zs f, one) where
      one : is_same_slot z.slot (link_slot print s) ≡ true → slot_lt y.slot z.slot ≡ true → slot_lt s (child_slot y.slot) ≡ false
      one i lt =
          let up : slot_lt y.slot (link_slot print s) ≡ true = ap (slot_lt y.slot) (sym (slot_same z.slot (link_slot print s) i)) ∙ lt in
          let down : slot_lt (link_slot print s) y.slot ≡ false = lt_not_back y.slot (link_slot print s) up in
          sym (link_lt print s (child_slot y.slot)) ∙ (ap (slot_lt (link_slot print s)) (link_back print y.slot f) ∙ down)

    by : (rising links ≡ true → find (is_next_link print behind) links ≡ Some x → live links (link_slot print s) ≡ true → slot_lt s (child_slot x.slot) ≡ false)
        → (b : Bool) → is_next_link print behind y ≡ b → slot_lt s (child_slot x.slot) ≡ false
    by more true i =
        let same : y ≡ x = grind (arith, nat_tests) in
        let from : is_from print y.slot ≡ true = grind (arith, nat_tests) in
        ap (λ (z : Row). slot_lt s (child_slot z.slot)) (sym same) ∙ grind (arith, nat_tests, at_first, later links from)
    by more false i = grind (arith, nat_tests, more, passes y)

-- a child's link is live
child_live : (links : List Row) (p c : Slot) (parents : List Slot) → list_any (is_same_slot p) parents ≡ true → lead_to links c parents ≡ true → live links (link_slot (print_of p) c) ≡ true
child_live links p c parents h k = any_meets_all (is_same_slot p) (λ q. live links (link_slot (print_of q) c)) (live links (link_slot (print_of p) c)) parents
    (λ q e l. ap (λ x. live links (link_slot (print_of x) c)) (slot_same p q e) ∙ l) h k

row_live : (links : List Row) (p : Slot) (r : Row) → is_near r.slot ≡ true → has_links links r ≡ true → is_child_of p r ≡ true → live links (link_slot (print_of p) r.slot) ≡ true
row_live links p r near h k = child_live links p r.slot r.refs k (grind (arith, nat_tests))

-- ---- steps of the walk

module _ (p : Slot) (behind : Option Slot) (links : List Row) where
  -- with no link left there is no child left
  none_left : (rows : List Row) → find (is_next_link (print_of p) behind) links ≡ None → are_near rows ≡ true → list_all (has_links links) rows ≡ true → find (is_next_child p behind) rows ≡ None
  none_left [] e n h = refl
  none_left (r ∷ rows) e n h = grind (arith, nat_tests, none_left rows e, one) where
    one : is_near r.slot ≡ true → has_links links r ≡ true → is_next_child p behind r ≡ false
    one near k = by (is_next_child p behind r) refl where
      by : (b : Bool) → is_next_child p behind r ≡ b → is_next_child p behind r ≡ false
      by false i = i
      by true i =
          let child : is_child_of p r ≡ true = grind (arith, nat_tests) in
          let past : is_past behind r.slot ≡ true = grind (arith, nat_tests) in
          absurd (false≢true (sym (none_live (print_of p) behind r.slot near past links e) ∙ row_live links p r near k child))

  pub walk_none : (rows : List Row) → find (is_next_link (print_of p) behind) links ≡ None → are_near rows ≡ true → are_links links rows ≡ true → row_bound_to p behind rows ≡ None
  walk_none rows e n h = none_left rows e n (grind (arith, nat_tests))

  module _ (x : Row) (up : rising links ≡ true) (e : find (is_next_link (print_of p) behind) links ≡ Some x) where
    -- no child stands before that of the first link
    not_before : (r : Row) → is_near r.slot ≡ true → has_links links r ≡ true → slot_lt r.slot (child_slot x.slot) ≡ true → is_next_child p behind r ≡ false
    not_before r near k lt = by (is_next_child p behind r) refl where
      by : (b : Bool) → is_next_child p behind r ≡ b → is_next_child p behind r ≡ false
      by false i = i
      by true i =
          let child : is_child_of p r ≡ true = grind (arith, nat_tests) in
          let past : is_past behind r.slot ≡ true = grind (arith, nat_tests) in
          absurd (false≢true (sym (first_least (print_of p) behind r.slot near past links x up e (row_live links p r near k child)) ∙ lt))

    first_past : (ls : List Row) → find (is_next_link (print_of p) behind) ls ≡ Some x → is_past behind (child_slot x.slot) ≡ true
    first_past [] i = absurd (none_some i) where
      none_some : None ≡ Some x → ⊥
      none_some k = cc
    first_past (y ∷ ls) i = by (first_past ls) (is_next_link (print_of p) behind y) refl where
      by : (find (is_next_link (print_of p) behind) ls ≡ Some x → is_past behind (child_slot x.slot) ≡ true) → (b : Bool) → is_next_link (print_of p) behind y ≡ b → is_past behind (child_slot x.slot) ≡ true
      by more true k =
          let same : y ≡ x = grind (arith, nat_tests) in
          ap (λ (z : Row). is_past behind (child_slot z.slot)) (sym same) ∙ grind (arith, nat_tests)
      by more false k = more (grind (arith, nat_tests))

    past : is_past behind (child_slot x.slot) ≡ true
    past = first_past links e

    -- behind the child the same rows are left
    behind_same : (rows : List Row) → above (child_slot x.slot) rows ≡ true → find (is_next_child p behind) rows ≡ find (is_next_child p (Some (child_slot x.slot))) rows
    behind_same [] a = refl
    behind_same (r ∷ rows) a = grind (arith, nat_tests, behind_same rows, past_more behind (child_slot x.slot) r.slot past)

    not_there : (rows : List Row) → above (child_slot x.slot) rows ≡ true → row_at (child_slot x.slot) rows ≡ None
    not_there [] a = refl
    not_there (r ∷ rows) a = grind (arith, nat_tests, not_there rows, apart) where
      apart : slot_lt (child_slot x.slot) r.slot ≡ true → is_same_slot (child_slot x.slot) r.slot ≡ false
      apart lt = by (is_same_slot (child_slot x.slot) r.slot) refl where
        by : (b : Bool) → is_same_slot (child_slot x.slot) r.slot ≡ b → is_same_slot (child_slot x.slot) r.slot ≡ false
        by false i = i
        by true i = absurd (false≢true (sym (slot_lt_itself (child_slot x.slot)) ∙ (ap (slot_lt (child_slot x.slot)) (slot_same (child_slot x.slot) r.slot i) ∙ lt)))

    -- the row of the first link, if it is a child, or else what stands behind it
    abbrev next : Option Row → List Row → Option Row
    next None rows = find (is_next_child p (Some (child_slot x.slot))) rows
    next (Some r) rows = Some r

    at_child : (r : Row) (rows : List Row) → is_same_slot (child_slot x.slot) r.slot ≡ true → above r.slot rows ≡ true
        → find (is_next_child p behind) (r ∷ rows) ≡ next (if_passes (is_child_of p) (Some r)) (r ∷ rows)
    at_child r rows i a =
        let same = slot_same (child_slot x.slot) r.slot i in
        let here : is_past behind r.slot ≡ true = ap (is_past behind) (sym same) ∙ past in
        let out : slot_lt (child_slot x.slot) r.slot ≡ false = ap (slot_lt (child_slot x.slot)) (sym same) ∙ slot_lt_itself (child_slot x.slot) in
        let rest = behind_same rows (ap (λ q. above q rows) same ∙ a) in
        by (is_child_of p r) refl here out rest where
          by : (b : Bool) → is_child_of p r ≡ b → is_past behind r.slot ≡ true → slot_lt (child_slot x.slot) r.slot ≡ false
              → find (is_next_child p behind) rows ≡ find (is_next_child p (Some (child_slot x.slot))) rows
              → find (is_next_child p behind) (r ∷ rows) ≡ next (if_passes (is_child_of p) (Some r)) (r ∷ rows)
          by true k here out rest = grind (arith, nat_tests)
          by false k here out rest = grind (arith, nat_tests)

    step : (rows : List Row) → rising rows ≡ true → are_near rows ≡ true → list_all (has_links links) rows ≡ true
        → find (is_next_child p behind) rows ≡ next (if_passes (is_child_of p) (row_at (child_slot x.slot) rows)) rows
    step [] h n k = refl
    step (r ∷ rows) h n k = by (step rows (grind (arith, nat_tests)) (grind (arith, nat_tests)) (grind (arith, nat_tests))) (is_same_slot (child_slot x.slot) r.slot) refl (slot_lt r.slot (child_slot x.slot)) refl where
      over : above r.slot rows ≡ true
      over = grind (arith, nat_tests)

      before : find (is_next_child p behind) rows ≡ next (if_passes (is_child_of p) (row_at (child_slot x.slot) rows)) rows → slot_lt r.slot (child_slot x.slot) ≡ true
          → is_same_slot (child_slot x.slot) r.slot ≡ false → find (is_next_child p behind) (r ∷ rows) ≡ next (if_passes (is_child_of p) (row_at (child_slot x.slot) (r ∷ rows))) (r ∷ rows)
      before more lt i =
          let none : is_next_child p behind r ≡ false = not_before r (grind (arith, nat_tests)) (grind (arith, nat_tests)) lt in
          let back : slot_lt (child_slot x.slot) r.slot ≡ false = lt_not_back r.slot (child_slot x.slot) lt in
          choose (if_passes (is_child_of p) (row_at (child_slot x.slot) rows)) none back more ∙ ap (λ o. next (if_passes (is_child_of p) o) (r ∷ rows)) same where
            same : row_at (child_slot x.slot) rows ≡ row_at (child_slot x.slot) (r ∷ rows)
            same = grind (arith, nat_tests)

            choose : (o : Option Row) → is_next_child p behind r ≡ false → slot_lt (child_slot x.slot) r.slot ≡ false → find (is_next_child p behind) rows ≡ next o rows → find (is_next_child p behind) (r ∷ rows) ≡ next o (r ∷ rows)
            choose None none back more = grind (arith, nat_tests)
            choose (Some y) none back more = grind (arith, nat_tests)

      after : slot_lt (child_slot x.slot) r.slot ≡ true → is_same_slot (child_slot x.slot) r.slot ≡ false
          → find (is_next_child p behind) (r ∷ rows) ≡ next (if_passes (is_child_of p) (row_at (child_slot x.slot) (r ∷ rows))) (r ∷ rows)
      after gt i =
          let all : above (child_slot x.slot) (r ∷ rows) ≡ true = grind (arith, nat_tests, all_wider (λ (y : Row). slot_lt r.slot y.slot) (λ (y : Row). slot_lt (child_slot x.slot) y.slot) rows (λ y l. slot_lt_trans (child_slot x.slot) r.slot y.slot gt l) over) in
          behind_same (r ∷ rows) all ∙ ap (λ o. next (if_passes (is_child_of p) o) (r ∷ rows)) (sym (not_there (r ∷ rows) all))

      by : find (is_next_child p behind) rows ≡ next (if_passes (is_child_of p) (row_at (child_slot x.slot) rows)) rows → (b : Bool) → is_same_slot (child_slot x.slot) r.slot ≡ b → (c : Bool) → slot_lt r.slot (child_slot x.slot) ≡ c
          → find (is_next_child p behind) (r ∷ rows) ≡ next (if_passes (is_child_of p) (row_at (child_slot x.slot) (r ∷ rows))) (r ∷ rows)
      by more true i c j =
          let here : Some r ≡ row_at (child_slot x.slot) (r ∷ rows) = grind (arith, nat_tests) in
          at_child r rows i over ∙ ap (λ o. next (if_passes (is_child_of p) o) (r ∷ rows)) here
      by more false i true j = before more j i
      by more false i false j = after (lt_from (child_slot x.slot) r.slot i j) i

    module _ (rows : List Row) (h : rising rows ≡ true) (n : are_near rows ≡ true) (k : are_links links rows ≡ true) where
      pub walk_here : (o : Option Row) → if_passes (is_child_of p) (row_at (child_slot x.slot) rows) ≡ o → is_some o ≡ true → o ≡ row_bound_to p behind rows
      walk_here None i m = absurd (false≢true m)
      walk_here (Some r) i m = sym (step rows h n (grind (arith, nat_tests)) ∙ ap (λ o. next o rows) i)

      pub walk_on : if_passes (is_child_of p) (row_at (child_slot x.slot) rows) ≡ None → row_bound_to p behind rows ≡ row_bound_to p (Some (child_slot x.slot)) rows
      walk_on i = step rows h n (grind (arith, nat_tests)) ∙ ap (λ o. next o rows) i

    -- fewer links are left
    on : (y : Row) → is_next_link (print_of p) (Some (child_slot x.slot)) y ≡ true → is_next_link (print_of p) behind y ≡ true
    on y i = grind (arith, nat_tests, past_more behind (child_slot x.slot) (child_slot y.slot) past)

    at_most : (ls : List Row) → length (filter (is_next_link (print_of p) (Some (child_slot x.slot))) ls) ≤ length (filter (is_next_link (print_of p) behind) ls)
    at_most [] = omega arith
    at_most (y ∷ ls) = grind (arith, nat_tests, at_most ls, on y)

    less : (ls : List Row) → find (is_next_link (print_of p) behind) ls ≡ Some x → length (filter (is_next_link (print_of p) (Some (child_slot x.slot))) ls) < length (filter (is_next_link (print_of p) behind) ls)
    less [] i = absurd (none_some i) where
      none_some : None ≡ Some x → ⊥
      none_some k = cc
    less (y ∷ ls) i = by (less ls) (is_next_link (print_of p) behind y) refl where
      by : (find (is_next_link (print_of p) behind) ls ≡ Some x → length (filter (is_next_link (print_of p) (Some (child_slot x.slot))) ls) < length (filter (is_next_link (print_of p) behind) ls))
          → (b : Bool) → is_next_link (print_of p) behind y ≡ b
          → length (filter (is_next_link (print_of p) (Some (child_slot x.slot))) (y ∷ ls)) < length (filter (is_next_link (print_of p) behind) (y ∷ ls))
      by more true k =
          let same : y ≡ x = grind (arith, nat_tests) in
          let out : slot_lt (child_slot x.slot) (child_slot y.slot) ≡ false = ap (λ (z : Row). slot_lt (child_slot x.slot) (child_slot z.slot)) same ∙ slot_lt_itself (child_slot x.slot) in
          grind (arith, nat_tests, at_most ls)
      by more false k = grind (arith, nat_tests, more, on y)

    pub fewer : length (filter (is_next_link (print_of p) (Some (child_slot x.slot))) links) < length (filter (is_next_link (print_of p) behind) links)
    fewer = less links e
