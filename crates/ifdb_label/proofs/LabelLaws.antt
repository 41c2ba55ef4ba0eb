-- Laws of labels, for any lists of tag numbers.
use Rattle.std.proofs.Common.{◌≡◌, ℕ, ◌<◌, ◌≤◌, zero, suc, Bool, true, false, List, [], ◌∷◌, ◌++◌, ◌∙◌, length, refl, sym, arith, ◌||◌, ltb, eqb, ◌&&◌}
use Rattle.std.specs.Prelude.{filter, not}
use Rattle.std.specs.List.{list_any, list_all}
use Rattle.std.proofs.lemmas.Bool.{ltb-true}
use Rattle.std.proofs.lemmas.Bool.Decides.{nat_tests}
use Rattle.std.proofs.lemmas.List.Folds.{list_all-append, list_any-append}
use Rattle.ifdb_label.specs.Tags.{MadeTag, below, AreMade, AreWellFormed}
use Rattle.ifdb_label.specs.Label.{is_rising, is_below_some, flows, with_tag, rising, is_below_another, reduce, union, strip}
use Rattle.ifdb_value.proofs.Lists.{any_same_on, all_same_on, any_wider, all_wider, any_meets_all, all-filter, any-filter, filter_all, filter_passes, any_of_itself, all_of_itself}
use Rattle.ifdb_label.proofs.TagLaws.{below_refl, below_trans, below_le, below-append, below_stays}

-- flows

-- the label without tags flows everywhere
pub flows_nil : (tags : List MadeTag) (b : List ℕ) → flows tags [] b ≡ true
flows_nil tags b = refl

flows_within : (tags : List MadeTag) (a b : List ℕ) → ((t : ℕ) → list_any (λ u. eqb t u) a ≡ true → list_any (λ u. eqb t u) b ≡ true) → flows tags a b ≡ true
flows_within tags [] b h = refl
flows_within tags (t ∷ ts) b h =
    let one = any_wider (λ u. eqb t u) (λ u. below tags t u) b (λ u e. grind (arith, nat_tests, below_refl tags t)) in
    grind (arith, nat_tests, one, h t, flows_within tags ts b (λ u e. grind (arith, nat_tests, h u)))

pub flows_refl : (tags : List MadeTag) (a : List ℕ) → flows tags a a ≡ true
flows_refl tags a = flows_within tags a a (λ t h. h)

pub flows_trans : (tags : List MadeTag) → AreWellFormed tags → (a b c : List ℕ) → flows tags a b ≡ true → flows tags b c ≡ true → flows tags a c ≡ true
flows_trans tags w a b c h k = all_wider (λ t. is_below_some tags t b) (λ t. is_below_some tags t c) a
    (λ t e. any_meets_all (λ u. below tags t u) (λ u. is_below_some tags u c) (is_below_some tags t c) b
    (λ u i j. any_wider (λ v. below tags u v) (λ v. below tags t v) c (λ v q. below_trans tags w t u v i q) j) e k) h

-- what flows goes on to flow when tags are made
pub flows_stays : (tags more : List MadeTag) → AreWellFormed tags → (a b : List ℕ) → flows tags a b ≡ true → flows (tags ++ more) a b ≡ true
flows_stays tags more w a b = all_wider (λ t. is_below_some tags t b) (λ t. is_below_some (tags ++ more) t b) a
    (λ t. any_wider (λ u. below tags t u) (λ u. below (tags ++ more) t u) b (λ u. below_stays tags more w t u))

-- tags made later change nothing of where made tags flow, be the tags of the other list made or not
pub flows-append : (tags more : List MadeTag) → AreWellFormed tags → (a b : List ℕ) → AreMade (length tags) a → flows (tags ++ more) a b ≡ flows tags a b
flows-append tags more w a b m = all_same_on (λ t. ltb t (length tags)) (λ t. is_below_some (tags ++ more) t b) (λ t. is_below_some tags t b) a m
    (λ t e. any_same_on (λ _. true) (λ u. below (tags ++ more) t u) (λ u. below tags t u) b (all_true b) (λ u _. below-append tags more w t u (ltb-true t (length tags) e))) where
      all_true : (b : List ℕ) → list_all (λ _. true) b ≡ true
      all_true [] = refl
      all_true (u ∷ us) = all_true us

-- strip

-- nothing is left of a stripped by b exactly where a flows to b
pub strip_flows : (tags : List MadeTag) (a b : List ℕ) → list_all (λ _. false) (strip tags a b) ≡ flows tags a b
strip_flows tags [] b = refl
strip_flows tags (t ∷ ts) b = grind (arith, nat_tests, strip_flows tags ts b)

pub strip_is_nil : (tags : List MadeTag) (a b : List ℕ) → flows tags a b ≡ true → strip tags a b ≡ []
strip_is_nil tags [] b h = refl
strip_is_nil tags (t ∷ ts) b h = grind (arith, nat_tests, strip_is_nil tags ts b)

pub strip_nil_flows : (tags : List MadeTag) (a b : List ℕ) → strip tags a b ≡ [] → flows tags a b ≡ true
strip_nil_flows tags [] b h = refl
strip_nil_flows tags (t ∷ ts) b h = grind (arith, nat_tests, strip_nil_flows tags ts b)

-- what each tag passes, each left over passes
pub strip_all : (tags : List MadeTag) (p : ℕ → Bool) (a b : List ℕ) → list_all p a ≡ true → list_all p (strip tags a b) ≡ true
strip_all tags p a b = all-filter (λ t. not (is_below_some tags t b)) p a

-- reduce: what each tag of a list passes, each of its reduction passes

with_tag_all : (p : ℕ → Bool) (t : ℕ) (list : List ℕ) → p t ≡ true → list_all p list ≡ true → list_all p (with_tag t list) ≡ true
with_tag_all p t [] h k = grind (arith, nat_tests)
with_tag_all p t (u ∷ us) h k = grind (arith, nat_tests, with_tag_all p t us)

rising_all : (p : ℕ → Bool) (list : List ℕ) → list_all p list ≡ true → list_all p (rising list) ≡ true
rising_all p [] h = refl
rising_all p (t ∷ ts) h = grind (arith, nat_tests, rising_all p ts, with_tag_all p t (rising ts))

pub reduce_all : (tags : List MadeTag) (p : ℕ → Bool) (list : List ℕ) → list_all p list ≡ true → list_all p (reduce tags list) ≡ true
reduce_all tags p list h = all-filter (λ t. not (is_below_another tags t list)) p (rising list) (rising_all p list h)

with_tag_any : (p : ℕ → Bool) (t : ℕ) (list : List ℕ) → list_any p (with_tag t list) ≡ true → p t || list_any p list ≡ true
with_tag_any p t [] h = grind (arith, nat_tests)
with_tag_any p t (u ∷ us) h = grind (arith, nat_tests, with_tag_any p t us)

rising_any : (p : ℕ → Bool) (list : List ℕ) → list_any p (rising list) ≡ true → list_any p list ≡ true
rising_any p [] h = h
rising_any p (t ∷ ts) h = grind (arith, nat_tests, rising_any p ts, with_tag_any p t (rising ts))

-- a tag of the reduction is a tag of the list
pub reduce_any : (tags : List MadeTag) (p : ℕ → Bool) (list : List ℕ) → list_any p (reduce tags list) ≡ true → list_any p list ≡ true
reduce_any tags p list h = rising_any p list (any-filter (λ t. not (is_below_another tags t list)) p (rising list) h)

-- union

-- a union flows where both flow; the tags by which it was made may be fewer than those by which it flows
pub union_flows : (tags before : List MadeTag) (a b c : List ℕ) → flows tags a c ≡ true → flows tags b c ≡ true → flows tags (union before a b) c ≡ true
union_flows tags before a b c h k =
    let q : ℕ → Bool = λ t. is_below_some tags t c in
    reduce_all before q (a ++ b) (grind (arith, nat_tests, list_all-append q a b))

-- rising lists

with_tag_is_rising : (t : ℕ) (list : List ℕ) → is_rising list ≡ true → is_rising (with_tag t list) ≡ true
with_tag_is_rising t [] h = refl
with_tag_is_rising t (u ∷ us) h =
    let above = all_wider (λ v. ltb u v) (λ v. ltb t v) us in
    grind (arith, nat_tests, with_tag_is_rising t us, with_tag_all (λ v. ltb u v) t us, above)

rising_is_rising : (list : List ℕ) → is_rising (rising list) ≡ true
rising_is_rising [] = refl
rising_is_rising (t ∷ ts) = with_tag_is_rising t (rising ts) (rising_is_rising ts)

pub filter_is_rising : (p : ℕ → Bool) (list : List ℕ) → is_rising list ≡ true → is_rising (filter p list) ≡ true
filter_is_rising p [] h = refl
filter_is_rising p (t ∷ ts) h = grind (arith, nat_tests, filter_is_rising p ts, all-filter p (λ u. ltb t u) ts)

pub reduce_is_rising : (tags : List MadeTag) (list : List ℕ) → is_rising (reduce tags list) ≡ true
reduce_is_rising tags list = filter_is_rising (λ t. not (is_below_another tags t list)) (rising list) (rising_is_rising list)

pub strip_is_rising : (tags : List MadeTag) (a b : List ℕ) → is_rising a ≡ true → is_rising (strip tags a b) ≡ true
strip_is_rising tags a b = filter_is_rising (λ t. not (is_below_some tags t b)) a

-- what is made stays so
pub reduce_are_made : (tags : List MadeTag) (n : ℕ) (list : List ℕ) → AreMade n list → AreMade n (reduce tags list)
reduce_are_made tags n list = reduce_all tags (λ t. ltb t n) list

pub strip_are_made : (tags : List MadeTag) (n : ℕ) (a b : List ℕ) → AreMade n a → AreMade n (strip tags a b)
strip_are_made tags n a b = strip_all tags (λ t. ltb t n) a b

pub union_are_made : (tags : List MadeTag) (n : ℕ) (a b : List ℕ) → AreMade n a → AreMade n b → AreMade n (union tags a b)
union_are_made tags n a b h k = reduce_are_made tags n (a ++ b) (grind (arith, nat_tests, list_all-append (λ t. ltb t n) a b))

-- a label is its own reduction

with_tag_in_front : (t : ℕ) (list : List ℕ) → list_all (λ u. ltb t u) list ≡ true → with_tag t list ≡ t ∷ list
with_tag_in_front t [] h = refl
with_tag_in_front t (u ∷ us) h = grind (arith, nat_tests)

rising_itself : (list : List ℕ) → is_rising list ≡ true → rising list ≡ list
rising_itself [] h = refl
rising_itself (t ∷ ts) h = grind (arith, nat_tests, rising_itself ts, with_tag_in_front t ts)

-- a rising list with no tag below another
pub reduce_itself : (tags : List MadeTag) (list : List ℕ) → is_rising list ≡ true → list_all (λ t. not (is_below_another tags t list)) list ≡ true → reduce tags list ≡ list
reduce_itself tags list h k = rw (rising_itself list h) (filter_all (λ t. not (is_below_another tags t list)) list k)

-- no tag of a reduction is below another
pub reduce_is_apart : (tags : List MadeTag) (list : List ℕ) → list_all (λ t. not (is_below_another tags t (reduce tags list))) (reduce tags list) ≡ true
reduce_is_apart tags list = all_wider (λ t. not (is_below_another tags t list)) (λ t. not (is_below_another tags t (reduce tags list))) (reduce tags list)
    (λ t h. grind (arith, nat_tests, reduce_any tags (λ u. not (eqb t u) && below tags t u) list)) (filter_passes (λ t. not (is_below_another tags t list)) (rising list))

pub reduce-reduce : (tags : List MadeTag) (list : List ℕ) → reduce tags (reduce tags list) ≡ reduce tags list
reduce-reduce tags list = reduce_itself tags (reduce tags list) (reduce_is_rising tags list) (reduce_is_apart tags list)

-- a list flows where its reduction does

with_tag_keeps : (p : ℕ → Bool) (t : ℕ) (list : List ℕ) → p t || list_any p list ≡ true → list_any p (with_tag t list) ≡ true
with_tag_keeps p t [] h = grind (arith, nat_tests)
with_tag_keeps p t (u ∷ us) h = grind (arith, nat_tests, with_tag_keeps p t us)

rising_keeps : (p : ℕ → Bool) (list : List ℕ) → list_any p list ≡ true → list_any p (rising list) ≡ true
rising_keeps p [] h = h
rising_keeps p (t ∷ ts) h = grind (arith, nat_tests, rising_keeps p ts, with_tag_keeps p t (rising ts))

-- t is in the list and not below another of it, so it stays in a filter by this
stays_in : (p : ℕ → Bool) (t : ℕ) (list : List ℕ) → p t ≡ true → list_any (λ u. eqb t u) list ≡ true → list_any (λ u. eqb t u) (filter p list) ≡ true
stays_in p t [] h k = k
stays_in p t (u ∷ us) h k = grind (arith, nat_tests, stays_in p t us)

-- each tag of a list is below some tag of its reduction
below_reduction_step : (tags : List MadeTag) → AreWellFormed tags → (list : List ℕ) (t : ℕ) → ((u : ℕ) → u < t → list_any (λ v. eqb u v) list ≡ true → is_below_some tags u (reduce tags list) ≡ true)
    → list_any (λ u. eqb t u) list ≡ true → is_below_some tags t (reduce tags list) ≡ true
below_reduction_step tags w list t ih h =
    let test : ℕ → Bool = λ v. not (is_below_another tags v list) in
    let kept : test t ≡ true → list_any (λ u. eqb t u) (reduce tags list) ≡ true = λ e. stays_in test t (rising list) e (rising_keeps (λ u. eqb t u) list h) in
    let by_itself = any_wider (λ u. eqb t u) (λ u. below tags t u) (reduce tags list) (λ u e. grind (arith, nat_tests, below_refl tags t)) in
    let by_another = any_of_itself (λ u. not (eqb t u) && below tags t u) (is_below_some tags t (reduce tags list)) list
    (λ u e i. let le = below_le tags w t u in
    let up = any_wider (λ v. below tags u v) (λ v. below tags t v) (reduce tags list) (λ v q. grind (arith, nat_tests, below_trans tags w t u v)) in
    grind (arith, nat_tests, le, up, ih u)) in
    grind (arith, nat_tests, kept, by_itself, by_another)

below_reduction_in : (tags : List MadeTag) → AreWellFormed tags → (list : List ℕ) (n t : ℕ) → t ≤ n → list_any (λ u. eqb t u) list ≡ true → is_below_some tags t (reduce tags list) ≡ true
below_reduction_in tags w list zero t le h = below_reduction_step tags w list t (λ u lt e. absurd (omega arith)) h
below_reduction_in tags w list (suc n) t le h = below_reduction_step tags w list t (λ u lt e. below_reduction_in tags w list n u (omega arith) e) h

pub flows-reduce : (tags : List MadeTag) → AreWellFormed tags → (list : List ℕ) → flows tags list (reduce tags list) ≡ true
flows-reduce tags w list = all_of_itself (λ t. is_below_some tags t (reduce tags list)) list (λ t h. let le : t ≤ t = omega arith in below_reduction_in tags w list t t le h)

-- so a list flows exactly where its reduction does
pub reduce_flows : (tags : List MadeTag) → AreWellFormed tags → (list b : List ℕ) → flows tags (reduce tags list) b ≡ flows tags list b
reduce_flows tags w list b =
    grind (arith, nat_tests, reduce_all tags (λ t. is_below_some tags t b) list, flows_trans tags w list (reduce tags list) b (flows-reduce tags w list))

-- ---- unions

same_bool : (a b : Bool) → (a ≡ true → b ≡ true) → (b ≡ true → a ≡ true) → a ≡ b
same_bool true b f g = sym (f refl)
same_bool false true f g = g refl
same_bool false false f g = refl

-- below a tag of two lists
pub below_either : (tags : List MadeTag) (t : ℕ) (a b : List ℕ) → is_below_some tags t (a ++ b) ≡ is_below_some tags t a || is_below_some tags t b
below_either tags t a b = list_any-append (below tags t) a b

-- what flows to a reduction flows to the list
pub flows_to_reduce : (tags : List MadeTag) → AreWellFormed tags → (a list : List ℕ) → flows tags a (reduce tags list) ≡ flows tags a list
flows_to_reduce tags w a list =
    same_bool (flows tags a (reduce tags list)) (flows tags a list)
    (λ h. flows_trans tags w a (reduce tags list) list h (reduce_flows tags w list list ∙ flows_refl tags list))
    (λ h. flows_trans tags w a list (reduce tags list) h (flows-reduce tags w list))

pub flows_to_union : (tags : List MadeTag) → AreWellFormed tags → (a b c : List ℕ) → flows tags a (union tags b c) ≡ flows tags a (b ++ c)
flows_to_union tags w a b c = flows_to_reduce tags w a (b ++ c)
