-- Ranges of keys that a condition gives.
use Rattle.std.proofs.Common.{◌≡◌, ℕ, ◌+◌, ◌-◌, ◌<◌, ◌≤◌, zero, suc, Bool, true, false, not, ◌&&◌, List, [], ◌∷◌, ◌++◌, ◌∙◌, length, get_or, drop, take, map, cond, refl, sym, ap, subst, arith, Option, Some, None, Ordering}
use Rattle.std.specs.List.{list_all}
use Rattle.std.specs.Option.{option_map}
use Rattle.std.specs.declared.cmp.Ordering.TheVariants.{Less, Equal, Greater}
use Rattle.std.specs.Ordering.{is_eq, is_le, is_lt, ordering_reverse, ordering_then}
use Rattle.std.proofs.lemmas.Bool.{false≢true}
use Rattle.std.proofs.lemmas.List.{length-append, length-map}
use Rattle.std.proofs.lemmas.Bool.Decides.{nat_tests}
use Rattle.ifdb_value.specs.declared.value.Value.{Value}
use Rattle.ifdb_value.specs.declared.value.Value.TheVariants as value
use Rattle.ifdb_value.specs.declared.value.Compare.{Compare}
use Rattle.ifdb_value.specs.declared.value.Compare.TheVariants as how
use Rattle.ifdb_value.specs.Value.{value_cmp}
use Rattle.ifdb_value.proofs.ValueOrder.{value_exact, value_total}
use Rattle.ifdb_row.specs.declared.range.Side.{Side}
use Rattle.ifdb_row.specs.declared.range.Side.TheVariants as side
use Rattle.ifdb_row.specs.declared.range.Cut.{Cut}
use Rattle.ifdb_row.specs.declared.range.KeyRange.{KeyRange}
use Rattle.ifdb_row.specs.Fronts.{front_cmp}
use Rattle.ifdb_row.specs.Ranges.{is_before, lies_in, stands_before}
use Rattle.ifdb_bound.specs.declared.expression.BoundColumn.{BoundColumn}
use Rattle.std.proofs.lemmas.Cmp.{tied_itself}
use denote.Hole.Carrier.{roll, roll-out}
use Rattle.ifdb_bound.specs.declared.expression.BoundOperand.{BoundOperand}
use Rattle.ifdb_bound.specs.declared.expression.BoundOperand.TheVariants as of
use Rattle.ifdb_bound.specs.declared.condition.BoundCond.{BoundCond}
use Rattle.ifdb_bound.specs.declared.condition.BoundCond.TheOpen.{BoundCond-F}
use Rattle.ifdb_bound.specs.declared.condition.BoundCond.TheViews.{roll-BoundCond, out-BoundCond}
use Rattle.ifdb_bound.specs.declared.condition.BoundCond.TheBlock.{the_members, the_sigs, the_carrier, member-BoundCond}
use Rattle.ifdb_bound.specs.Expressions.{column_value, value_at}
use Rattle.ifdb_bound.specs.Conditions.{compares, holds, operand_value, passes}
use Rattle.ifdb_bound.proofs.Meanings.{compared_so}
use Rattle.ifdb_plan.specs.declared.test.Test.{Test}
use Rattle.ifdb_plan.specs.declared.range.End.{End}
use Rattle.ifdb_plan.specs.declared.range.Ends.{Ends}
use Rattle.ifdb_plan.specs.Tests.{conds_of}
use Rattle.ifdb_plan.specs.Keys.{column_at, fields, is_column}
use Rattle.ifdb_plan.specs.Ranges.{Bound, HasRange, bound_between, bound_by, bound_in, bound_of, cut_of, ends_behind, fixed_by, fixed_value, is_before_high, is_behind_low, is_between, is_short, lies_between, lies_by, lies_within, meets, meets_first, or_else, side_behind, stands_behind, turned}
use Rattle.ifdb_plan.proofs.Keying.{column_is, is_Equal}

-- ---- cuts behind some values

then_equal : (o : Ordering) → ordering_then o Equal ≡ o
then_equal Less = refl
then_equal Equal = refl
then_equal Greater = refl

then_then : (o u w : Ordering) → ordering_then o (ordering_then u w) ≡ ordering_then (ordering_then o u) w
then_then Less u w = refl
then_then Equal u w = refl
then_then Greater u w = refl

-- some values and one more
front_snoc : (front : List Value) (v : Value) (values : List Value) → length front < length values
    → front_cmp values (front ++ v ∷ []) ≡ ordering_then (front_cmp values front) (value_cmp (get_or values (length front) value.Null) v)
front_snoc [] v [] lt = absurd (omega arith)
front_snoc [] v (x ∷ values) lt = then_equal (value_cmp x v)
front_snoc (f ∷ front) v [] lt = absurd (omega arith)
front_snoc (f ∷ front) v (x ∷ values) lt =
    ap (ordering_then (value_cmp x f)) (front_snoc front v values (omega (arith, lt)))
    ∙ then_then (value_cmp x f) (front_cmp values front) (value_cmp (get_or values (length front) value.Null) v)

-- what lies between two cuts behind the same values begins with these, and goes on between their ends
ends_case : (low high : Side) (o a b : Ordering) → (not (is_before low (ordering_then o a)) && is_before high (ordering_then o b)) ≡ (is_eq o && (not (is_before low a) && is_before high b))
ends_case side.Before side.Before Less a b = refl
ends_case side.Before side.Before Equal a b = refl
ends_case side.Before side.Before Greater a b = refl
ends_case side.Before side.Behind Less a b = refl
ends_case side.Before side.Behind Equal a b = refl
ends_case side.Before side.Behind Greater a b = refl
ends_case side.Behind side.Before Less a b = refl
ends_case side.Behind side.Before Equal a b = refl
ends_case side.Behind side.Before Greater a b = refl
ends_case side.Behind side.Behind Less a b = refl
ends_case side.Behind side.Behind Equal a b = refl
ends_case side.Behind side.Behind Greater a b = refl

-- the side of an end, or the open one, and how a value stands to it
side_of : Option End → Side → Side
side_of None outer = outer
side_of (Some e) outer = e.side

to_end : Option End → Value → Ordering
to_end None v = Equal
to_end (Some e) v = value_cmp v e.value.now

before_cut : (front : List Value) (e : Option End) (outer : Side) (values : List Value) → length front < length values
    → stands_before (cut_of front e outer) values ≡ is_before (side_of e outer) (ordering_then (front_cmp values front) (to_end e (get_or values (length front) value.Null)))
unfolding side_of to_end
before_cut front None outer values lt = ap (is_before outer) (sym (then_equal (front_cmp values front)))
before_cut front (Some e) outer values lt = ap (is_before e.side) (front_snoc front e.value.now values lt)

low_is : (e : Option End) (v : Value) → not (is_before (side_of e side.Before) (to_end e v)) ≡ is_behind_low e v
unfolding side_of to_end
low_is None v = refl
low_is (Some e) v = refl

high_is : (e : Option End) (v : Value) → is_before (side_of e side.Behind) (to_end e v) ≡ is_before_high e v
unfolding side_of to_end
high_is None v = refl
high_is (Some e) v = refl

pub between_is : (front : List Value) (ends : Ends) (x : KeyRange) → x.low ≡ cut_of front ends.low side.Before → x.high ≡ cut_of front ends.high side.Behind → (values : List Value) → length front < length values
    → lies_in x values ≡ (is_eq (front_cmp values front) && is_between ends (get_or values (length front) value.Null))
between_is front ends x low high values lt =
    let v = get_or values (length front) value.Null in
    let o = front_cmp values front in
    (λ i. not (stands_before (low i) values) && stands_before (high i) values)
    ∙ (λ i. not (before_cut front ends.low side.Before values lt i) && before_cut front ends.high side.Behind values lt i)
    ∙ ends_case (side_of ends.low side.Before) (side_of ends.high side.Behind) o (to_end ends.low v) (to_end ends.high v)
    ∙ (λ i. is_eq o && (low_is ends.low v i && high_is ends.high v i))

pub all_is : (front : List Value) (x : KeyRange) → x.low ≡ record { values = front; side = side.Before } → x.high ≡ record { values = front; side = side.Behind } → (values : List Value)
    → lies_in x values ≡ is_eq (front_cmp values front)
all_is front x low high values = (λ i. not (stands_before (low i) values) && stands_before (high i) values) ∙ by (front_cmp values front) where
  by : (o : Ordering) → (not (is_lt o) && is_le o) ≡ is_eq o
  by Less = refl
  by Equal = refl
  by Greater = refl

-- ---- one column more

drop_is : (n : ℕ) (values : List Value) → n < length values → drop n values ≡ get_or values n value.Null ∷ drop (n + 1) values
drop_is n [] lt = absurd (omega arith)
drop_is zero (v ∷ values) lt = refl
drop_is (suc n) (v ∷ values) lt =
    let e : suc (n + 1) ≡ suc n + 1 = omega arith in
    drop_is n values (omega (arith, lt)) ∙ ap (λ m. get_or values n value.Null ∷ drop m (v ∷ values)) e

is_eq_then : (o u : Ordering) → is_eq (ordering_then o u) ≡ (is_eq o && is_eq u)
is_eq_then Less u = refl
is_eq_then Equal u = refl
is_eq_then Greater u = refl

pub and_and : (a b c : Bool) → ((a && b) && c) ≡ (a && (b && c))
and_and true b c = refl
and_and false b c = refl

module _ (conds : List BoundCond) (place k : ℕ) (others : List ℕ) (front values : List Value) (lt : length front < length values) where
  meets_next : meets conds place (k ∷ others) (drop (length front) values)
      ≡ meets conds place (k ∷ others) (get_or values (length front) value.Null ∷ drop (length front + 1) values)
  meets_next = ap (meets conds place (k ∷ others)) (drop_is (length front) values lt)

  pub one_fixed : (w : Value) → fixed_value (column_at place k) conds ≡ Some w
      → (is_eq (front_cmp values (front ++ w ∷ [])) && meets conds place others (drop (length (front ++ w ∷ [])) values))
      ≡ (is_eq (front_cmp values front) && meets conds place (k ∷ others) (drop (length front) values))
  one_fixed w e =
      let v = get_or values (length front) value.Null in
      let rest = meets conds place others (drop (length front + 1) values) in
      let long : length (front ++ w ∷ []) ≡ length front + 1 = length-append front (w ∷ []) in
      let next : meets conds place (k ∷ others) (v ∷ drop (length front + 1) values) ≡ (is_eq (value_cmp v w) && rest) =
      ap (λ o. meets_first o v (lies_between (column_at place k) conds v) rest) e in
      (λ i. is_eq (front_snoc front w values lt i) && meets conds place others (drop (long i) values))
      ∙ ap (λ b. b && rest) (is_eq_then (front_cmp values front) (value_cmp v w))
      ∙ and_and (is_eq (front_cmp values front)) (is_eq (value_cmp v w)) rest
      ∙ ap (λ b. is_eq (front_cmp values front) && b) (sym (meets_next ∙ next))

  pub none_fixed : fixed_value (column_at place k) conds ≡ None
      → meets conds place (k ∷ others) (drop (length front) values) ≡ lies_between (column_at place k) conds (get_or values (length front) value.Null)
  none_fixed e =
      let v = get_or values (length front) value.Null in
      meets_next ∙ ap (λ o. meets_first o v (lies_between (column_at place k) conds v) (meets conds place others (drop (length front + 1) values))) e

-- ---- ends

is_less : (o : Ordering) → is_lt o ≡ true → o ≡ Less
is_less Less e = refl
is_less Equal e = cc
is_less Greater e = cc

-- what stands before an end stands before each that doesn't stand before that
short_more : (a b : End) (v : Value) → stands_behind a b ≡ false → is_short a v ≡ true → is_short b v ≡ true
short_more a b v h e = by (value_cmp a.value.now b.value.now) refl (value_cmp v a.value.now) refl a.side b.side h e where
  at : (o : Ordering) → value_cmp v b.value.now ≡ o → (s : Side) → is_before s o ≡ true → is_before s (value_cmp v b.value.now) ≡ true
  at o is s h = ap (is_before s) is ∙ h

  less : (s : Side) → is_before s Less ≡ true
  less side.Before = refl
  less side.Behind = refl

  by : (o : Ordering) → value_cmp a.value.now b.value.now ≡ o → (u : Ordering) → value_cmp v a.value.now ≡ u → (s t : Side) → ends_behind o (side_behind s t) ≡ false → is_before s u ≡ true → is_before t (value_cmp v b.value.now) ≡ true
  by Less p Less q s t h e = at Less (value_total.trans v a.value.now b.value.now q p) t (less t)
  by Less p Equal q s t h e = at Less (value_total.congr v a.value.now b.value.now q ∙ p) t (less t)
  by Less p Greater q side.Before t h e = cc
  by Less p Greater q side.Behind t h e = cc
  by Equal p u q side.Before side.Before h e = at u (ap (value_cmp v) (sym (value_exact a.value.now b.value.now p)) ∙ q) side.Before e
  by Equal p Less q side.Before side.Behind h e = at Less (ap (value_cmp v) (sym (value_exact a.value.now b.value.now p)) ∙ q) side.Behind refl
  by Equal p Equal q side.Before side.Behind h e = cc
  by Equal p Greater q side.Before side.Behind h e = cc
  by Equal p u q side.Behind side.Before h e = cc
  by Equal p u q side.Behind side.Behind h e = at u (ap (value_cmp v) (sym (value_exact a.value.now b.value.now p)) ∙ q) side.Behind e
  by Greater p u q s t h e = cc

-- of two ends one doesn't stand behind the other
behind_back : (a b : End) → stands_behind a b ≡ true → stands_behind b a ≡ false
behind_back a b h = by (value_cmp a.value.now b.value.now) (value_cmp b.value.now a.value.now) (value_total.antisymm b.value.now a.value.now) a.side b.side h where
  by : (o u : Ordering) → u ≡ ordering_reverse o → (s t : Side) → ends_behind o (side_behind s t) ≡ true → ends_behind u (side_behind t s) ≡ false
  by Less u e s t h = cc
  by Equal u e side.Before t h = cc
  by Equal u e side.Behind side.Before h = ap (λ w. ends_behind w false) e
  by Equal u e side.Behind side.Behind h = cc
  by Greater u e s t h = ap (λ w. ends_behind w (side_behind t s)) e

and_comm : (a b : Bool) → (a && b) ≡ (b && a)
and_comm true true = refl
and_comm true false = refl
and_comm false true = refl
and_comm false false = refl

-- what stands before both of two ends, and behind both
pub both_short : (a b : End) (v : Value) → stands_behind a b ≡ false → is_short a v ≡ (is_short a v && is_short b v)
both_short a b v h = by (is_short a v) refl (is_short b v) refl where
  by : (p : Bool) → is_short a v ≡ p → (q : Bool) → is_short b v ≡ q → p ≡ (p && q)
  by false e q f = refl
  by true e true f = refl
  by true e false f = absurd (false≢true (sym f ∙ short_more a b v h e))

pub both_short_behind : (a b : End) (v : Value) → stands_behind a b ≡ true → is_short b v ≡ (is_short a v && is_short b v)
both_short_behind a b v h = both_short b a v (behind_back a b h) ∙ and_comm (is_short b v) (is_short a v)

pub both_past : (a b : End) (v : Value) → stands_behind a b ≡ false → not (is_short b v) ≡ (not (is_short a v) && not (is_short b v))
both_past a b v h = by (is_short a v) refl (is_short b v) refl where
  by : (p : Bool) → is_short a v ≡ p → (q : Bool) → is_short b v ≡ q → not q ≡ (not p && not q)
  by false e q f = refl
  by true e true f = refl
  by true e false f = absurd (false≢true (sym f ∙ short_more a b v h e))

pub both_past_behind : (a b : End) (v : Value) → stands_behind a b ≡ true → not (is_short a v) ≡ (not (is_short a v) && not (is_short b v))
both_past_behind a b v h = both_past b a v (behind_back a b h) ∙ and_comm (not (is_short b v)) (not (is_short a v))

pub low_and : (a b c d : Bool) → a ≡ (b && d) → (a && c) ≡ ((b && c) && d)
low_and a true c d e = (λ i. e i && c) ∙ and_comm d c
low_and a false c d e = λ i. e i && c

pub high_and : (a b c d : Bool) → c ≡ (b && d) → (a && c) ≡ ((a && b) && d)
high_and a b c d e = (λ i. a && e i) ∙ sym (and_and a b d)

-- ---- bounds, test by test

drop_at : {X : Type 0} (n : ℕ) (xs : List X) (x : X) → n < length xs → x ≡ get_or xs n x → drop n xs ≡ x ∷ drop (n + 1) xs
drop_at n [] x lt is = absurd (omega arith)
drop_at zero (y ∷ xs) x lt is = λ i. sym is i ∷ xs
drop_at (suc n) (y ∷ xs) x lt is = let e : suc (n + 1) ≡ suc n + 1 = omega arith in drop_at n xs x (omega (arith, lt)) is ∙ ap (λ m. x ∷ drop m (y ∷ xs)) e

drop_none : {X : Type 0} (n : ℕ) (xs : List X) → length xs ≤ n → drop n xs ≡ []
drop_none zero [] le = refl
drop_none (suc n) [] le = refl
drop_none zero (x ∷ xs) le = absurd (omega arith)
drop_none (suc n) (x ∷ xs) le = drop_none n xs (omega (arith, le))

and_true : (a : Bool) → (a && true) ≡ a
and_true true = refl
and_true false = refl

module _ (c : BoundColumn) (tests : List Test) (i : ℕ) (v : Value) (all : Bool) where
  pub ends_on : (t : Test) (old new : Bool) → i < length tests → t ≡ get_or tests i t → new ≡ (old && lies_within v (bound_in c t.cond.now))
      → (old && lies_between c (conds_of (drop i tests)) v) ≡ all → (new && lies_between c (conds_of (drop (i + 1) tests)) v) ≡ all
  ends_on t old new lt is step so =
      let rest = lies_between c (conds_of (drop (i + 1) tests)) v in
      (λ k. step k && rest)
      ∙ and_and old (lies_within v (bound_in c t.cond.now)) rest
      ∙ ap (λ (l : List Test). old && lies_between c (conds_of l) v) (sym (drop_at i tests t lt is))
      ∙ so

  pub ends_done : (old : Bool) → length tests ≤ i → (old && lies_between c (conds_of (drop i tests)) v) ≡ all → old ≡ all
  ends_done old le so = sym (ap (λ (l : List Test). old && lies_between c (conds_of l) v) (drop_none i tests le) ∙ and_true old) ∙ so

-- ---- a range behind a column that is fixed
take_whole : {X : Type 0} (xs : List X) → take (length xs) xs ≡ xs
take_whole [] = refl
take_whole (x ∷ xs) = ap (λ l. x ∷ l) (take_whole xs)

pub column_fixed : (conds : List BoundCond) (place : ℕ) (key : List ℕ) (front more : List Value) (w : Value) (x : KeyRange) → 1 ≤ length key → fixed_value (column_at place (get_or key 0 0)) conds ≡ Some w → more ≡ front ++ w ∷ []
    → ((values : List Value) → length more + length (take (length key - 1) (drop 1 key)) ≤ length values → lies_in x values ≡ (is_eq (front_cmp values more) && meets conds place (take (length key - 1) (drop 1 key)) (drop (length more) values)))
    → (values : List Value) → length front + length key ≤ length values → lies_in x values ≡ (is_eq (front_cmp values front) && meets conds place key (drop (length front) values))
column_fixed conds place [] front more w x some fixed is so values le = absurd (omega arith)
column_fixed conds place (k ∷ others) front more w x some fixed is so values le =
    let one : suc (length others) - 1 ≡ length others = omega arith in
    let rest : take (suc (length others) - 1) others ≡ others = ap (λ n. take n others) one ∙ take_whole others in
    let long : length more ≡ length front + 1 = ap length is ∙ length-append front (w ∷ []) in
    let size = ap length rest in
    so values (omega (arith, long, le, size))
    ∙ (λ i. is_eq (front_cmp values (is i)) && meets conds place (rest i) (drop (length (is i)) values))
    ∙ one_fixed conds place k others front values (omega (arith, le)) w fixed

-- ---- where the tests hold, a row's key meets what they say of its columns

flip_lt : (a b : Value) → is_lt (value_cmp b a) ≡ not (is_le (value_cmp a b))
flip_lt a b = by (value_cmp a b) (value_cmp b a) (value_total.antisymm b a) where
  by : (o u : Ordering) → u ≡ ordering_reverse o → is_lt u ≡ not (is_le o)
  by Less u e = ap is_lt e
  by Equal u e = ap is_lt e
  by Greater u e = ap is_lt e

flip_le : (a b : Value) → is_le (value_cmp b a) ≡ not (is_lt (value_cmp a b))
flip_le a b = by (value_cmp a b) (value_cmp b a) (value_total.antisymm b a) where
  by : (o u : Ordering) → u ≡ ordering_reverse o → is_le u ≡ not (is_lt o)
  by Less u e = ap is_le e
  by Equal u e = ap is_le e
  by Greater u e = ap is_le e

flip_eq : (a b : Value) → is_eq (value_cmp b a) ≡ is_eq (value_cmp a b)
flip_eq a b = by (value_cmp a b) (value_cmp b a) (value_total.antisymm b a) where
  by : (o u : Ordering) → u ≡ ordering_reverse o → is_eq u ≡ is_eq o
  by Less u e = ap is_eq e
  by Equal u e = ap is_eq e
  by Greater u e = ap is_eq e

-- a value is what a bound says
record Says (v : Value) (o : Option Bound) : Type 0 where
  within : lies_within v o ≡ true
  fixed : (w : Value) → fixed_by o ≡ Some w → v ≡ w

says_none : (v : Value) → Says v None
says_none v = record { within = refl; fixed = λ w e. cc }

some_is : (v w : Value) → Some v ≡ Some w → v ≡ w
some_is v w e = cc

says_by : (how : Compare) (v : Value) (b : BoundOperand) (rows : List (List Value)) → compares how v (operand_value rows b) ≡ true → Says v (bound_by how b)
says_by how v (of.Column c) rows h = says_none v
says_by how.Equal v (of.Literal w) rows h = let same = value_exact v w (is_Equal (value_cmp v w) h) in record { within = refl; fixed = λ u e. same ∙ some_is w u e }
says_by how.NotEqual v (of.Literal w) rows h = record { within = refl; fixed = λ u e. cc }
says_by how.Less v (of.Literal w) rows h = record { within = h; fixed = λ u e. cc }
says_by how.AtMost v (of.Literal w) rows h = record { within = h; fixed = λ u e. cc }
says_by how.Greater v (of.Literal w) rows h = record { within = sym (flip_lt v w) ∙ h; fixed = λ u e. cc }
says_by how.AtLeast v (of.Literal w) rows h = record { within = sym (flip_le v w) ∙ h; fixed = λ u e. cc }

turned_so : (how : Compare) (a b : Value) → compares how a b ≡ true → compares (turned how) b a ≡ true
turned_so how.Equal a b h = flip_eq a b ∙ h
turned_so how.NotEqual a b h = ap not (flip_eq a b) ∙ h
turned_so how.Less a b h = h
turned_so how.AtMost a b h = h
turned_so how.Greater a b h = h
turned_so how.AtLeast a b h = h

says_between : (c : BoundColumn) (a : BoundOperand) (how : Compare) (b : BoundOperand) (rows : List (List Value)) → compares how (operand_value rows a) (operand_value rows b) ≡ true → Says (column_value rows c) (bound_between c a how b)
says_between c a how b rows h = by (is_column c a) refl (is_column c b) refl where
  by : (p : Bool) → is_column c a ≡ p → (q : Bool) → is_column c b ≡ q → Says (column_value rows c) (cond p (bound_by how b) (cond q (bound_by (turned how) a) None))
  by true e q f = says_by how (column_value rows c) b rows (ap (λ v. compares how v (operand_value rows b)) (sym (column_is rows c a e)) ∙ h)
  by false e true f = says_by (turned how) (column_value rows c) a rows (turned_so how (operand_value rows a) (column_value rows c) (ap (compares how (operand_value rows a)) (sym (column_is rows c b f)) ∙ h))
  by false e false f = says_none (column_value rows c)

says_in : (c : BoundColumn) (x : BoundCond) (rows : List (List Value)) → holds rows x ≡ true → Says (column_value rows c) (bound_in c x)
unfolding roll-BoundCond out-BoundCond holds roll
says_in c x rows h = by (out-BoundCond x) (roll-out the_members the_sigs the_carrier member-BoundCond x) where
  by : (f : BoundCond-F BoundCond) → roll-BoundCond f ≡ x → Says (column_value rows c) (bound_of c f)
  by (BoundCond-F.Compare a how b) e = says_between c a how b rows (compared_so rows a how b (ap (holds rows) e ∙ h)).1
  by (BoundCond-F.IsNull a negated) e = says_none (column_value rows c)
  by (BoundCond-F.And parts) e = says_none (column_value rows c)
  by (BoundCond-F.Or parts) e = says_none (column_value rows c)
  by (BoundCond-F.Not part) e = says_none (column_value rows c)

module _ (c : BoundColumn) (rows : List (List Value)) where
  within_all : (conds : List BoundCond) → list_all (holds rows) conds ≡ true → lies_between c conds (column_value rows c) ≡ true
  within_all [] h = refl
  within_all (x ∷ conds) h =
      let parts : (holds rows x ≡ true) × (list_all (holds rows) conds ≡ true) = grind (arith, nat_tests) in
      let one = (says_in c x rows parts.0).within in
      let more = within_all conds parts.1 in
      λ i. one i && more i

  fixed_so : (conds : List BoundCond) (w : Value) → list_all (holds rows) conds ≡ true → fixed_value c conds ≡ Some w → column_value rows c ≡ w
  fixed_so [] w h e = cc
  fixed_so (x ∷ conds) w h e =
      let parts : (holds rows x ≡ true) × (list_all (holds rows) conds ≡ true) = grind (arith, nat_tests) in
      by (fixed_so conds w parts.1) (fixed_by (bound_in c x)) refl ((says_in c x rows parts.0).fixed) e where
        by : (fixed_value c conds ≡ Some w → column_value rows c ≡ w) → (o : Option Value) → fixed_by (bound_in c x) ≡ o → ((u : Value) → fixed_by (bound_in c x) ≡ Some u → column_value rows c ≡ u)
            → or_else o (fixed_value c conds) ≡ Some w → column_value rows c ≡ w
        by more None is so e = more e
        by more (Some v) is so e = so v is ∙ some_is v w e

same_eq : (v w : Value) → v ≡ w → is_eq (value_cmp v w) ≡ true
same_eq v w e = ap (λ u. is_eq (value_cmp v u)) (sym e) ∙ ap is_eq (tied_itself value_total v)

first_meets : (c : BoundColumn) (rows : List (List Value)) (conds : List BoundCond) (others : Bool) → list_all (holds rows) conds ≡ true → others ≡ true
    → meets_first (fixed_value c conds) (column_value rows c) (lies_between c conds (column_value rows c)) others ≡ true
first_meets c rows conds others h more = by (fixed_value c conds) refl where
  by : (o : Option Value) → fixed_value c conds ≡ o → meets_first o (column_value rows c) (lies_between c conds (column_value rows c)) others ≡ true
  by None e = within_all c rows conds h
  by (Some w) e = let one = same_eq (column_value rows c) w (fixed_so c rows conds w h e) in λ i. one i && more i

pub holds_meets : (conds : List BoundCond) (place : ℕ) (key : List ℕ) (rows : List (List Value)) → list_all (holds rows) conds ≡ true
    → meets conds place key (map (λ k. column_value rows (column_at place k)) key) ≡ true
holds_meets conds place [] rows h = refl
holds_meets conds place (k ∷ key) rows h =
    first_meets (column_at place k) rows conds (meets conds place key (map (λ k. column_value rows (column_at place k)) key)) h (holds_meets conds place key rows h)

-- over one source
fields_are : (key : List ℕ) (row : List Value) → fields key row ≡ map (λ k. column_value (row ∷ []) (column_at 0 k)) key
fields_are [] row = refl
fields_are (k ∷ key) row = ap (λ l. value_at row k ∷ l) (fields_are key row)

pub has_range : (cond : Option BoundCond) (tests : List Test) (key : List ℕ) (x : KeyRange) → ((rows : List (List Value)) → list_all (holds rows) (conds_of tests) ≡ passes cond rows)
    → ((values : List Value) → length key ≤ length values → lies_in x values ≡ meets (conds_of tests) 0 key values) → HasRange cond key x
has_range cond tests key x parts is = record {
  each = λ row h.
      let values = map (λ k. column_value (row ∷ []) (column_at 0 k)) key in
      let long = length-map key (λ k. column_value (row ∷ []) (column_at 0 k)) in
      ap (lies_in x) (fields_are key row) ∙ is values (omega (arith, long)) ∙ holds_meets (conds_of tests) 0 key (row ∷ []) (parts (row ∷ []) ∙ h);
}
