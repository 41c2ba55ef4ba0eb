-- Links after writes, and children found by links.
use Rattle.std.proofs.Common.{◌≡◌, ℕ, Bool, true, false, List, [], ◌∷◌, ◌++◌, refl, sym, ap, ◌∙◌, arith, Some, None, Option, ◌||◌}
use Rattle.std.specs.Prelude.{option_to_list}
use Rattle.std.specs.List.{list_all}
use Rattle.std.proofs.lemmas.Bool.{false≢true}
use Rattle.std.proofs.lemmas.Bool.Decides.{nat_tests}
use Rattle.std.proofs.lemmas.List.Folds.{list_all-append}
use Rattle.ifdb_value.proofs.Lists.{all_wider}
use Rattle.ifdb_row.specs.declared.slot.Slot.{Slot}
use Rattle.ifdb_row.specs.declared.row.Row.{Row}
use Rattle.ifdb_row.specs.declared.write.Write.{Write}
use Rattle.ifdb_row.specs.Slots.{is_same_slot, slot_lt}
use Rattle.ifdb_row.specs.Writes.{is_fitting, are_fitting, are_rising, merged, put}
use Rattle.ifdb_row.specs.Content.{place, after, live, rising}
use Rattle.ifdb_row.proofs.SlotOrder.{slot_same, slot_itself, slot_lt_itself}
use Rattle.ifdb_row.proofs.ContentLaws.{above, above_more, all-place, rising_after}
use Rattle.ifdb_row.proofs.LiveLaws.{live_after}
use Rattle.ifdb_row.proofs.AfterMerged.{after_merged}
use Rattle.ifdb_row.proofs.Sorted.{merged_fits, merged_rises, put_fits, put_rises}
use Rattle.ifdb_store.specs.Links.{is_near, is_link, has_links, lead_to, are_links, are_links_beside, link, link_slot, print_of, parents_of}
use Rattle.ifdb_store.specs.Links.{Follows, LeavesOthers, BringsLinks}
use Rattle.ifdb_store.proofs.Parts.{after-append}
use Rattle.ifdb_store.proofs.Prints.{same_child, child_back}

-- ---- one write to links

-- what a row brings to its slot is live
pub live_new : (s : Slot) (r : Row) (rows : List Row) → is_same_slot r.slot s ≡ true → live (place s (Some r) rows) s ≡ true
live_new s r [] f = grind (arith, nat_tests)
live_new s r (x ∷ rows) f = grind (arith, nat_tests, live_new s r rows f)

-- other slots stay live
live_other : (s p : Slot) (o : Option Row) (rows : List Row) → is_fitting s o ≡ true → is_same_slot s p ≡ false → live rows p ≡ true → live (place s o rows) p ≡ true
live_other s p o rows f e h = live_after rows (record { slot = s; row = o } ∷ []) p (grind (arith, nat_tests)) (grind (arith, nat_tests)) h

-- a row that is put leaves all slots live
live_put : (s p : Slot) (r : Row) (rows : List Row) → is_same_slot r.slot s ≡ true → live rows p ≡ true → live (place s (Some r) rows) p ≡ true
live_put s p r rows f h = live_after rows (record { slot = s; row = Some r } ∷ []) p (grind (arith, nat_tests)) (grind (arith, nat_tests)) h

module _ (print : ℕ) (s : Slot) (o : Option Row) (near : is_near s ≡ true) (f : is_fitting (link_slot print s) o ≡ true) (good : list_all is_link (option_to_list o) ≡ true) where
  keeps_child : (links : List Row) (c : Slot) (parents : List Slot) → is_near c ≡ true → is_same_slot s c ≡ false → lead_to links c parents ≡ true → lead_to (place (link_slot print s) o links) c parents ≡ true
  keeps_child links c parents h e k = all_wider (λ p. live links (link_slot (print_of p) c)) (λ p. live (place (link_slot print s) o links) (link_slot (print_of p) c)) parents
      (λ p l. live_other (link_slot print s) (link_slot (print_of p) c) o links f (apart p) l) k where
        apart : (p : Slot) → is_same_slot (link_slot print s) (link_slot (print_of p) c) ≡ false
        apart p = by (is_same_slot (link_slot print s) (link_slot (print_of p) c)) refl where
          by : (b : Bool) → is_same_slot (link_slot print s) (link_slot (print_of p) c) ≡ b → is_same_slot (link_slot print s) (link_slot (print_of p) c) ≡ false
          by false i = i
          by true i = absurd (false≢true (sym e ∙ (ap (is_same_slot s) (sym (same_child print (print_of p) s c near h i)) ∙ slot_itself s)))

  keeps_row : (links : List Row) (r : Row) → is_same_slot s r.slot || has_links links r ≡ true → is_same_slot s r.slot || has_links (place (link_slot print s) o links) r ≡ true
  keeps_row links r h = grind (arith, nat_tests, keeps_child links r.slot r.refs)

  pub keeps_others : (links rows : List Row) → are_links_beside s links rows ≡ true → are_links_beside s (place (link_slot print s) o links) rows ≡ true
  keeps_others links rows h =
      let parts : (list_all is_link links ≡ true) × (list_all (λ (r : Row). is_same_slot s r.slot || has_links links r) rows ≡ true) = grind (arith, nat_tests) in
      let one = all-place is_link (link_slot print s) o links good parts.0 in
      let two = all_wider (λ (r : Row). is_same_slot s r.slot || has_links links r) (λ (r : Row). is_same_slot s r.slot || has_links (place (link_slot print s) o links) r) rows (keeps_row links) parts.1 in
      grind (arith, nat_tests, one, two)

-- ---- writes put among others

pub after_put : (links : List Row) (u : Write) (us : List Write) → rising links ≡ true → are_rising us ≡ true → are_fitting us ≡ true → is_fitting u.slot u.row ≡ true
    → after links (put u us) ≡ place u.slot u.row (after links us)
after_put links u us h r f g = after_merged links us (u ∷ []) h r f (grind (arith, nat_tests))

pub others_put : (print : ℕ) (s : Slot) (u : Write) (us : List Write) → is_near s ≡ true → u.slot ≡ link_slot print s → is_fitting u.slot u.row ≡ true
    → list_all is_link (option_to_list u.row) ≡ true → LeavesOthers s us → LeavesOthers s (put u us)
others_put print s u us near e f good l = record {
  in_order = put_rises u us l.in_order;
  fit = put_fits u us f l.fit;
  keep = λ links rows h k.
      let at : after links (put u us) ≡ place (link_slot print s) u.row (after links us) = after_put links u us h l.in_order l.fit f ∙ ap (λ q. place q u.row (after links us)) e in
      let fits : is_fitting (link_slot print s) u.row ≡ true = ap (λ q. is_fitting q u.row) (sym e) ∙ f in
      ap (λ ls. are_links_beside s ls rows) at ∙ keeps_others print s u.row near fits good (after links us) rows (l.keep links rows h k);
}

pub others_none : (s : Slot) → LeavesOthers s []
others_none s = record { in_order = refl; fit = refl; keep = λ links rows h k. k }

pub gone_put : (print : ℕ) (s : Slot) (u : Write) (us : List Write) → is_near s ≡ true → u.slot ≡ link_slot print s → u.row ≡ None → LeavesOthers s us → LeavesOthers s (put u us)
gone_put print s u us near e n l = others_put print s u us near e (ap (is_fitting u.slot) n) (ap (λ o. list_all is_link (option_to_list o)) n) l

-- a link is one
pub is_link_link : (print : ℕ) (s : Slot) → is_near s ≡ true → is_link (link print s) ≡ true
is_link_link print s near = ap (λ q. is_same_slot q s) (child_back print s near) ∙ slot_itself s

module _ (s : Slot) (q : Slot) (u : Write) (us : List Write) (near : is_near s ≡ true) (e : u.slot ≡ link_slot (print_of q) s) (n : u.row ≡ Some (link (print_of q) s)) (l : LeavesOthers s us) where
  fits_u : is_fitting u.slot u.row ≡ true
  fits_u = ap (λ o. is_fitting u.slot o) n ∙ (ap (is_same_slot (link_slot (print_of q) s)) e ∙ slot_itself (link_slot (print_of q) s))

  pub link_others : LeavesOthers s (put u us)
  link_others = others_put (print_of q) s u us near e fits_u (ap (λ o. list_all is_link (option_to_list o)) n ∙ grind (arith, nat_tests, is_link_link (print_of q) s near)) l

  at_put : (links : List Row) → rising links ≡ true → after links (put u us) ≡ place (link_slot (print_of q) s) (Some (link (print_of q) s)) (after links us)
  at_put links h = after_put links u us h l.in_order l.fit fits_u ∙ (ap (λ p. place p u.row (after links us)) e ∙ ap (λ o. place (link_slot (print_of q) s) o (after links us)) n)

  pub link_brings : (parents : List Slot) → BringsLinks s parents us → BringsLinks s (parents ++ q ∷ []) (put u us)
  link_brings parents b links h =
      let t = link_slot (print_of q) s in
      let now = after links us in
      let new = place t (Some (link (print_of q) s)) now in
      let old : lead_to new s parents ≡ true = all_wider (λ p. live now (link_slot (print_of p) s)) (λ p. live new (link_slot (print_of p) s)) parents
      (λ p k. live_put t (link_slot (print_of p) s) (link (print_of q) s) now (slot_itself t) k) (b links h) in
      let one : live new t ≡ true = live_new t (link (print_of q) s) now (slot_itself t) in
      let both = list_all-append (λ p. live new (link_slot (print_of p) s)) parents (q ∷ []) in
      ap (λ ls. lead_to ls s (parents ++ q ∷ [])) (at_put links h) ∙ grind (arith, nat_tests, old, one, both)

-- ---- the row itself

not_there : (g : Row → Bool) (s : Slot) (rows : List Row) → above s rows ≡ true → list_all (λ (r : Row). is_same_slot s r.slot || g r) rows ≡ true → list_all g rows ≡ true
not_there g s [] h k = refl
not_there g s (r ∷ rows) h k = grind (arith, nat_tests, not_there g s rows, apart) where
  apart : slot_lt s r.slot ≡ true → is_same_slot s r.slot ≡ false
  apart i = by (is_same_slot s r.slot) refl where
    by : (b : Bool) → is_same_slot s r.slot ≡ b → is_same_slot s r.slot ≡ false
    by false e = e
    by true e = absurd (false≢true (sym (slot_lt_itself s) ∙ (ap (slot_lt s) (slot_same s r.slot e) ∙ i)))

place_all : (g : Row → Bool) (s : Slot) (o : Option Row) (rows : List Row) → list_all g (option_to_list o) ≡ true → rising rows ≡ true
    → list_all (λ (r : Row). is_same_slot s r.slot || g r) rows ≡ true → list_all g (place s o rows) ≡ true
place_all g s o [] k h l = k
place_all g s o (r ∷ rows) k h l =
    grind (
      arith,
      nat_tests,
      place_all g s o rows k,
      list_all-append g (option_to_list o) rows,
      list_all-append g (option_to_list o) (r ∷ rows),
      not_there g s rows,
      not_there g s (r ∷ rows),
      above_more s r.slot rows,
      above_same,
    ) where
      above_same : is_same_slot s r.slot ≡ true → above r.slot rows ≡ true → above s rows ≡ true
      above_same e a = ap (λ p. above p rows) (slot_same s r.slot e) ∙ a

row_has : (links : List Row) (s : Slot) (o : Option Row) → is_fitting s o ≡ true → lead_to links s (parents_of o) ≡ true → list_all (has_links links) (option_to_list o) ≡ true
row_has links s None f h = refl
row_has links s (Some r) f h = let e : lead_to links r.slot r.refs ≡ true = ap (λ q. lead_to links q r.refs) (slot_same r.slot s f) ∙ h in grind (arith, nat_tests, e)

pub follows_one : (w : Write) (us : List Write) → is_fitting w.slot w.row ≡ true → LeavesOthers w.slot us → BringsLinks w.slot (parents_of w.row) us → Follows (w ∷ []) us
follows_one w us f l b = record {
  in_order = l.in_order;
  fit = l.fit;
  keep = λ links rows h k a.
      let parts : (list_all is_link links ≡ true) × (list_all (has_links links) rows ≡ true) = grind (arith, nat_tests) in
      let weak = all_wider (has_links links) (λ (r : Row). is_same_slot w.slot r.slot || has_links links r) rows (λ r i. grind (arith, nat_tests)) parts.1 in
      let beside : are_links_beside w.slot links rows ≡ true = grind (arith, nat_tests, weak) in
      let now = l.keep links rows h beside in
      let split : (list_all is_link (after links us) ≡ true) × (list_all (λ (r : Row). is_same_slot w.slot r.slot || has_links (after links us) r) rows ≡ true) = grind (arith, nat_tests) in
      let all = place_all (has_links (after links us)) w.slot w.row rows (row_has (after links us) w.slot w.row f (b links h)) k split.1 in
      grind (arith, nat_tests, all);
}

far_has : (links : List Row) (s : Slot) (o : Option Row) → is_fitting s o ≡ true → is_near s ≡ false → list_all (has_links links) (option_to_list o) ≡ true
far_has links s None f h = refl
far_has links s (Some r) f h = let e : is_near r.slot ≡ false = ap is_near (slot_same r.slot s f) ∙ h in grind (arith, nat_tests, e)

pub follows_far : (w : Write) → is_fitting w.slot w.row ≡ true → is_near w.slot ≡ false → Follows (w ∷ []) []
follows_far w f n = record {
  in_order = refl;
  fit = refl;
  keep = λ links rows h k a.
      let parts : (list_all is_link links ≡ true) × (list_all (has_links links) rows ≡ true) = grind (arith, nat_tests) in
      let all = all-place (has_links links) w.slot w.row rows (far_has links w.slot w.row f n) parts.1 in
      grind (arith, nat_tests, all);
}

pub follows_none : Follows [] []
follows_none = record { in_order = refl; fit = refl; keep = λ links rows h k a. a }

pub follows_both : (us vs xs ys : List Write) → are_fitting us ≡ true → Follows us xs → Follows vs ys → Follows (us ++ vs) (merged xs ys)
follows_both us vs xs ys f a b = record {
  in_order = merged_rises xs ys a.in_order;
  fit = merged_fits xs ys a.fit b.fit;
  keep = λ links rows h k e.
      let one = a.keep links rows h k e in
      let two = b.keep (after links xs) (after rows us) (rising_after links xs a.fit h) (rising_after rows us f k) one in
      ap (λ ls. are_links ls (after rows (us ++ vs))) (after_merged links xs ys h a.in_order a.fit b.fit)
      ∙ (ap (are_links (after (after links xs) ys)) (after-append rows us vs) ∙ two);
}
