-- What stays true of the public state as it changes.
use Rattle.std.proofs.Common.{◌≡◌, ℕ, ◌≤◌, Bool, true, List, [], ◌∷◌, ◌++◌, ◌∙◌, length, sym, ap, subst, arith, Option}
use Rattle.std.specs.Prelude.{nat_le, nat_lt, option_to_list}
use Rattle.std.proofs.lemmas.List.{append-nil, map-append}
use Rattle.std.specs.List.{list_all}
use Rattle.std.proofs.lemmas.Bool.Decides.{nat_tests}
use Rattle.std.proofs.lemmas.Grind.{common_steps}
use Rattle.ifdb_label.specs.Tags.{are_made}
use Rattle.ifdb_value.proofs.Lists.{all_wider}
use Rattle.ifdb_bound.specs.declared.schema.ViewDef.{ViewDef}
use Rattle.ifdb_bound.specs.declared.request.Change.{Change}
use Rattle.ifdb_bound.specs.declared.request.Change.TheVariants as change
use Rattle.ifdb_catalog.specs.Public.{KnownTag, Public, changed, tag_names}
use Rattle.ifdb_catalog.specs.Fits.{change_fits, view_fits}
use Rattle.ifdb_view.specs.Made.{is_view_made, are_views_made}
use Rattle.ifdb_snapshot.specs.Narrow.{is_narrow_change}
use Rattle.ifdb_snapshot.specs.PublicState.{IsListed, new_tag}
use Rattle.ifdb_snapshot.proofs.ViewLemmas.{view_is_made}

-- ---- tags that are made stay made

longer : {X : Type 0} (xs : List X) (x : X) → length xs ≤ length (xs ++ x ∷ [])
longer xs x = grind (arith, common_steps)

pub tags_grow : (p : Public) (c : Change) → length p.tags ≤ length (changed p c).tags
tags_grow p (change.Principal asker name key clearance) = omega arith
tags_grow p (change.Tag asker name kind parents) = longer p.tags _
tags_grow p (change.Table asker schema) = omega arith
tags_grow p (change.View view) = omega arith
tags_grow p (change.Grant asker tag to) = omega arith
tags_grow p (change.Revoke asker tag from) = omega arith

pub made_more : (m n : ℕ) (label : List ℕ) → m ≤ n → are_made m label ≡ true → are_made n label ≡ true
made_more m n label h k = all_wider (λ t. nat_lt t m) (λ t. nat_lt t n) label (λ t e. grind (arith, nat_tests)) k

-- ---- views and names

pub all_push : {X : Type 0} (test : X → Bool) (xs : List X) (x : X) → test x ≡ true → list_all test xs ≡ true → list_all test (xs ++ x ∷ []) ≡ true
all_push test [] x h k = grind (arith, nat_tests)
all_push test (y ∷ xs) x h k = grind (arith, nat_tests, all_push test xs x h)

view_made_more : (m n : ℕ) (v : ViewDef) → m ≤ n → is_view_made m v ≡ true → is_view_made n v ≡ true
view_made_more m n v h k = grind (arith, nat_tests, made_more m n v.declassifying h)

views_made_more : (m n : ℕ) (views : List ViewDef) → m ≤ n → are_views_made m views ≡ true → are_views_made n views ≡ true
views_made_more m n views h k = all_wider (is_view_made m) (is_view_made n) views (λ v e. view_made_more m n v h e) k

-- a view that fits, over four sources at most, can be computed
new_view_made : (p : Public) (v : ViewDef) → view_fits p v ≡ true → nat_le (length v.select.sources) 4 ≡ true → is_view_made (length p.tags) v ≡ true
new_view_made p v h k = let made = view_is_made p v h in grind (arith, nat_tests)

views_changed : (p : Public) (c : Change) → change_fits p c ≡ true → is_narrow_change c ≡ true → are_views_made (length p.tags) p.views ≡ true
    → are_views_made (length (changed p c).tags) (changed p c).views ≡ true
views_changed p (change.Principal asker name key clearance) f n h = h
views_changed p (change.Tag asker name kind parents) f n h = views_made_more (length p.tags) (length (changed p (change.Tag asker name kind parents)).tags) p.views (tags_grow p (change.Tag asker name kind parents)) h
views_changed p (change.Table asker schema) f n h = h
views_changed p (change.View v) f n h = all_push (is_view_made (length p.tags)) p.views v (new_view_made p v f n) h
views_changed p (change.Grant asker tag to) f n h = h
views_changed p (change.Revoke asker tag from) f n h = h

names_changed : (p : Public) (c : Change) → tag_names (changed p c) ≡ tag_names p ++ option_to_list (new_tag c)
names_changed p (change.Principal asker name key clearance) = sym (append-nil (tag_names p))
names_changed p (change.Tag asker name kind parents) = map-append (λ (t : KnownTag). t.name) p.tags _
names_changed p (change.Table asker schema) = sym (append-nil (tag_names p))
names_changed p (change.View view) = sym (append-nil (tag_names p))
names_changed p (change.Grant asker tag to) = sym (append-nil (tag_names p))
names_changed p (change.Revoke asker tag from) = sym (append-nil (tag_names p))

listed_changed : (p : Public) (c : Change) (names : List (List ℕ)) → change_fits p c ≡ true → is_narrow_change c ≡ true → IsListed p names
    → IsListed (changed p c) (names ++ option_to_list (new_tag c))
listed_changed p c names f n h = record {
  names = ap (λ ns. ns ++ option_to_list (new_tag c)) h.names ∙ sym (names_changed p c);
  views = views_changed p c f n h.views;
}

-- so the names stay those of the tags, and each view can be computed
pub listed_after : (p q : Public) (c : Change) (names more : List (List ℕ)) (o : Option (List ℕ)) → q ≡ changed p c → o ≡ new_tag c → more ≡ names ++ option_to_list o
    → change_fits p c ≡ true → is_narrow_change c ≡ true → IsListed p names → IsListed q more
listed_after p q c names more o e t m f n h =
    let same : names ++ option_to_list (new_tag c) ≡ more = ap (λ u. names ++ option_to_list u) (sym t) ∙ sym m in
    subst (λ ns. IsListed q ns) same (subst (λ z. IsListed z (names ++ option_to_list (new_tag c))) (sym e) (listed_changed p c names f n h))
