-- One connection of a loop changes, and the others are served still.
use Rattle.std.proofs.Common.{◌≡◌, ◌≢◌, ℕ, map, sym, ap, subst, ◌∙◌, arith, Bool, true, false, refl}
use Rattle.std.specs.Prelude.{◌==◌, ◌⊎◌, ◌+◌, ◌<◌, ◌≤◌, List, [], ◌∷◌, length, nat_lt, IfSome, IsPermutation}
use Rattle.std.specs.declared.option.Option.{Option}
use Rattle.std.specs.declared.option.Option.TheVariants.{None, Some}
use Rattle.std.proofs.lemmas.Bool.Decides.{nat_tests}
use Rattle.std.proofs.lemmas.List.{get_or_past}
use Rattle.slab.specs.Slab.{Slab, get, slab_len, Updates}
use Rattle.slab.proofs.DrainLemmas.{length-values}
use Rattle.ifdb_loop.specs.declared.port.Port as port
use Rattle.ifdb_loop.specs.declared.service.Service as service
use Rattle.ifdb_loop.specs.declared.client.Client.{Client}
use Rattle.ifdb_loop.specs.declared.ending.Ending.{Ending}
use Rattle.ifdb_loop.specs.Dialogues.{Dialogue}
use Rattle.ifdb_loop.specs.Standing.{IsServed, KeepsOthers}
use Rattle.ifdb_loop.specs.Crowd.{AreServed, HasEndedAt, numbers_in}
use Rattle.ifdb_loop.proofs.Endings.{none_some, some_is}
use Rattle.ifdb_loop.proofs.Values.{seen, values_more, values_none, values_same}

-- the same key, or another
data Same (j k : ℕ) : Type 0 where
  Is : j ≡ k → Same j k
  Other : j ≢ k → Same j k

same_by : (j k : ℕ) (b : Bool) → (j == k) ≡ b → Same j k
same_by j k true e = Is (grind (arith, nat_tests))
same_by j k false e = Other (grind (arith, nat_tests))

same : (j k : ℕ) → Same j k
same j k = same_by j k (j == k) refl

-- what is at a key has ended as it says
pub ended_at : {P T : Type 0} → (clients : Slab (Client P T)) (k : ℕ) (c : Client P T) (ending : Option Ending) → get clients k ≡ Some c
    → IfSome ending (λ e. c.ending ≡ Some e) → IfSome ending (λ _. (c.wires.owed ≡ []) ⊎ (c.is_lost ≡ true)) → IfSome ending (HasEndedAt clients k)
ended_at clients k c None at is paid = tt
ended_at clients k c (Some ending) at is paid = (c, at, is, paid)

-- what is at a key has ended so
pub ended_is : {P T : Type 0} → (clients : Slab (Client P T)) (k : ℕ) (c : Client P T) (ending : Ending) → get clients k ≡ Some c → HasEndedAt clients k ending
    → (c.ending ≡ Some ending) × ((c.wires.owed ≡ []) ⊎ (c.is_lost ≡ true))
ended_is {P} {T} clients k c ending was x =
    subst (λ (d : Client P T). (d.ending ≡ Some ending) × ((d.wires.owed ≡ []) ⊎ (d.is_lost ≡ true))) (some_is x.0 c (sym x.1 ∙ was)) (x.2, x.3)

still_by : {P T : Type 0} → (old new : Slab (Client P T)) (k j : ℕ) → Same j k → Updates old new k None → get old j ≡ None → get new j ≡ None
still_by old new k j (Is e) out none = ap (get new) e ∙ out.changed
still_by old new k j (Other o) out none = out.others j o ∙ none

-- what was empty is empty still, where something was taken out
pub empty_still : {P T : Type 0} → (old new : Slab (Client P T)) (k j : ℕ) → Updates old new k None → get old j ≡ None → get new j ≡ None
empty_still old new k j out none = still_by old new k j (same j k) out none

gone_by : {P T : Type 0} → (old new : Slab (Client P T)) (k j : ℕ) → Same j k → get new k ≡ None → ((i : ℕ) → get old i ≡ None → get new i ≡ None)
    → ((i : ℕ) → i < k → get old i ≡ None) → j < k + 1 → get new j ≡ None
gone_by old new k j (Is e) here kept gone below = ap (get new) e ∙ here
gone_by old new k j (Other o) here kept gone below = kept j (gone j (omega (arith, below, o)))

-- one key more has nothing
pub gone_on : {P T : Type 0} → (old new : Slab (Client P T)) (k : ℕ) → get new k ≡ None → ((i : ℕ) → get old i ≡ None → get new i ≡ None)
    → ((i : ℕ) → i < k → get old i ≡ None) → (j : ℕ) → j < k + 1 → get new j ≡ None
gone_on old new k here kept gone j below = gone_by old new k j (same j k) here kept gone below

past_by : {P T : Type 0} → (clients : Slab (Client P T)) (n j : ℕ) (b : Bool) → nat_lt j n ≡ b → length clients.slots ≤ n
    → ((i : ℕ) → i < n → get clients i ≡ None) → get clients j ≡ None
past_by clients n j true lt size gone = gone j (grind (arith, nat_tests, lt))
past_by clients n j false lt size gone = get_or_past clients.slots j None (grind (arith, nat_tests, lt, size))

-- no key has anything, since none has below a number that no slot reaches
pub all_gone : {P T : Type 0} → (clients : Slab (Client P T)) (n : ℕ) → length clients.slots ≤ n
    → ((i : ℕ) → i < n → get clients i ≡ None) → (j : ℕ) → get clients j ≡ None
all_gone clients n size gone j = past_by clients n j (nat_lt j n) refl size gone

-- ---- the numbers of their sessions

module _ {S T P : Type 0} (services : service.Ghosts S T) where
  abbrev number_of : Client P T → ℕ
  number_of c = services.number c.seat

  -- one more came in
  pub numbers_more : (old new : Slab (Client P T)) (k : ℕ) (d : Client P T) → get old k ≡ None → Updates old new k (Some d)
      → IsPermutation (services.number d.seat ∷ numbers_in services old) (numbers_in services new)
  numbers_more old new k d none came = values_more number_of k d old.slots new.slots none came.changed came.others

  -- one was taken out
  pub numbers_fewer : (old new : Slab (Client P T)) (k : ℕ) (c : Client P T) → get old k ≡ Some c → Updates old new k None
      → IsPermutation (services.number c.seat ∷ numbers_in services new) (numbers_in services old)
  numbers_fewer old new k c was out = values_more number_of k c new.slots old.slots out.changed was (λ j o. sym (out.others j o))

  -- each slot has what it had
  pub numbers_same : (old new : Slab (Client P T)) → ((j : ℕ) → get new j ≡ get old j) → numbers_in services new ≡ numbers_in services old
  numbers_same old new kept = values_same number_of old.slots new.slots (λ j. ap (seen number_of) (kept j))

  changed_by : (old mid new : Slab (Client P T)) (k : ℕ) (c d : Client P T) → get old k ≡ Some c → Updates old mid k None → Updates mid new k (Some d)
      → services.number d.seat ≡ services.number c.seat → (j : ℕ) → Same j k → seen number_of (get new j) ≡ seen number_of (get old j)
  changed_by old mid new k c d was out back number j (Is e) =
      ap (λ i. seen number_of (get new i)) e ∙ (ap (seen number_of) back.changed ∙ (ap Some number ∙ (sym (ap (seen number_of) was) ∙ ap (λ i. seen number_of (get old i)) (sym e))))
  changed_by old mid new k c d was out back number j (Other o) = ap (seen number_of) (back.others j o ∙ out.others j o)

  -- one was taken out and came back, with the same session
  pub numbers_changed : (old mid new : Slab (Client P T)) (k : ℕ) (c d : Client P T) → get old k ≡ Some c → Updates old mid k None → Updates mid new k (Some d)
      → services.number d.seat ≡ services.number c.seat → numbers_in services new ≡ numbers_in services old
  numbers_changed old mid new k c d was out back number =
      values_same number_of old.slots new.slots (λ j. changed_by old mid new k c d was out back number j (same j k))

  -- there is none
  pub numbers_none : (clients : Slab (Client P T)) → ((j : ℕ) → get clients j ≡ None) → numbers_in services clients ≡ []
  numbers_none clients none = ap (map number_of) (values_none clients.slots none)

  nil_by : (xs : List (Client P T)) → length xs ≡ 0 → map number_of xs ≡ []
  nil_by [] none = refl
  nil_by (x ∷ xs) none = absurd (omega (arith, none))

  pub numbers_empty : (clients : Slab (Client P T)) → slab_len clients ≡ 0 → numbers_in services clients ≡ []
  numbers_empty clients none = nil_by _ (sym (length-values clients.slots) ∙ none)

module _ {S T P : Type 0} (services : service.Ghosts S T) (ports : port.Ghosts P) where
  -- one connection of a loop was taken out and came back, and sessions of other numbers are as they were
  record Changes (s t : S) (old new : Slab (Client P T)) (k : ℕ) (c d : Client P T) : Type 0 where
    all : AreServed services ports s old
    was : get old k ≡ Some c
    is : get new k ≡ Some d
    same : (j : ℕ) → j ≢ k → get new j ≡ get old j
    number : services.number d.seat ≡ services.number c.seat
    others : KeepsOthers services ports s t (services.number c.seat)
    limit : services.limit t ≡ services.limit s
    served : IsServed services ports t d

  -- where there is no connection
  pub AreServed-none : (s : S) (clients : Slab (Client P T)) → ((k : ℕ) → get clients k ≡ None) → AreServed services ports s clients
  AreServed-none s clients none = record {
    each = λ k c at. absurd (none_some c (sym (none k) ∙ at));
    apart = λ j k c d at by ne. absurd (none_some c (sym (none j) ∙ at));
  }

  -- what the service says of a connection's session it says still
  says_on : (s t : S) (c : Client P T) → services.limit t ≡ services.limit s → ((d : Dialogue) → services.says s c.seat d → services.says t c.seat d)
      → IsServed services ports s c → IsServed services ports t c
  says_on s t c limit says x = ((x.0.0, says x.0.0 x.0.1, rw limit x.0.2), x.1, x.2)

  each_by : (s t : S) (old new : Slab (Client P T)) (k : ℕ) (c d : Client P T) → Changes s t old new k c d
      → (j : ℕ) (x : Client P T) → Same j k → get new j ≡ Some x → IsServed services ports t x
  each_by s t old new k c d h j x (Is e) at = subst (IsServed services ports t) (some_is d x (sym h.is ∙ (ap (get new) (sym e) ∙ at))) h.served
  each_by s t old new k c d h j x (Other o) at =
      let before = sym (h.same j o) ∙ at in
      let served = h.all.each j x before in
      says_on s t x h.limit (λ d. h.others x.seat d (h.all.apart j k x c before h.was o)) served

  apart_by : (s t : S) (old new : Slab (Client P T)) (k : ℕ) (c d : Client P T) → Changes s t old new k c d
      → (i j : ℕ) (x y : Client P T) → Same i k → Same j k → get new i ≡ Some x → get new j ≡ Some y → i ≢ j → services.number x.seat ≢ services.number y.seat
  apart_by s t old new k c d h i j x y (Is e) (Is f) at by ne = absurd (ne (e ∙ sym f))
  apart_by s t old new k c d h i j x y (Is e) (Other o) at by ne =
      let x_is : services.number x.seat ≡ services.number c.seat = ap (λ (z : Client P T). services.number z.seat) (some_is x d (sym at ∙ (ap (get new) e ∙ h.is))) ∙ h.number in
      λ q. h.all.apart k j c y h.was (sym (h.same j o) ∙ by) (λ r. ne (e ∙ r)) (sym x_is ∙ q)
  apart_by s t old new k c d h i j x y (Other o) (Is f) at by ne =
      let y_is : services.number y.seat ≡ services.number c.seat = ap (λ (z : Client P T). services.number z.seat) (some_is y d (sym by ∙ (ap (get new) f ∙ h.is))) ∙ h.number in
      λ q. h.all.apart i k x c (sym (h.same i o) ∙ at) h.was o (q ∙ y_is)
  apart_by s t old new k c d h i j x y (Other o) (Other p) at by ne = h.all.apart i j x y (sym (h.same i o) ∙ at) (sym (h.same j p) ∙ by) ne

  pub AreServed-changed : (s t : S) (old mid new : Slab (Client P T)) (k : ℕ) (c d : Client P T) → AreServed services ports s old
      → get old k ≡ Some c → Updates old mid k None → Updates mid new k (Some d)
      → services.number d.seat ≡ services.number c.seat → KeepsOthers services ports s t (services.number c.seat) → services.limit t ≡ services.limit s
      → IsServed services ports t d → AreServed services ports t new
  AreServed-changed s t old mid new k c d all was out back number others limit served =
      let h : Changes s t old new k c d = record {
        all = all;
        was = was;
        is = back.changed;
        same = λ j o. back.others j o ∙ out.others j o;
        number = number;
        others = others;
        limit = limit;
        served = served;
      } in record {
        each = λ j x. each_by s t old new k c d h j x (same j k);
        apart = λ i j x y. apart_by s t old new k c d h i j x y (same i k) (same j k);
      }

  -- what the service said is so still
  pub AreServed-settled : (s t : S) (clients : Slab (Client P T))
      → ((seat : T) (dialogue : Dialogue) → services.says s seat dialogue → services.says t seat dialogue)
      → services.limit t ≡ services.limit s → AreServed services ports s clients → AreServed services ports t clients
  AreServed-settled s t clients kept limit all = record {
    each = λ k c at. says_on s t c limit (kept c.seat) (all.each k c at);
    apart = all.apart;
  }

  before_by : (old new : Slab (Client P T)) (k : ℕ) → Updates old new k None → (j : ℕ) (x : Client P T) → Same j k → get new j ≡ Some x → get old j ≡ Some x
  before_by old new k out j x (Is e) at = absurd (none_some x (sym out.changed ∙ (ap (get new) (sym e) ∙ at)))
  before_by old new k out j x (Other o) at = sym (out.others j o) ∙ at

  -- one that was taken out is served no more
  pub AreServed-without : (s : S) (old new : Slab (Client P T)) (k : ℕ) → AreServed services ports s old → Updates old new k None → AreServed services ports s new
  AreServed-without s old new k all out =
      let before : (j : ℕ) (x : Client P T) → get new j ≡ Some x → get old j ≡ Some x = λ j x at. before_by old new k out j x (same j k) at in
      record {
        each = λ j x at. all.each j x (before j x at);
        apart = λ i j x y at by ne. all.apart i j x y (before i x at) (before j y by) ne;
      }

  left_by : (s t : S) (old new : Slab (Client P T)) (k : ℕ) (c : Client P T) → AreServed services ports s old → get old k ≡ Some c → Updates old new k None
      → KeepsOthers services ports s t (services.number c.seat) → services.limit t ≡ services.limit s
      → (j : ℕ) (x : Client P T) → Same j k → get new j ≡ Some x → IsServed services ports t x
  left_by s t old new k c all was out others limit j x (Is e) at = absurd (none_some x (sym out.changed ∙ (ap (get new) (sym e) ∙ at)))
  left_by s t old new k c all was out others limit j x (Other o) at =
      let before = sym (out.others j o) ∙ at in
      says_on s t x limit (λ d. others x.seat d (all.apart j k x c before was o)) (all.each j x before)

  -- the same where its session has left, and sessions of other numbers are as they were
  pub AreServed-left : (s t : S) (old new : Slab (Client P T)) (k : ℕ) (c : Client P T) → AreServed services ports s old → get old k ≡ Some c → Updates old new k None
      → KeepsOthers services ports s t (services.number c.seat) → services.limit t ≡ services.limit s → AreServed services ports t new
  AreServed-left s t old new k c all was out others limit =
      let rest = AreServed-without s old new k all out in
      record {
        each = λ j x at. left_by s t old new k c all was out others limit j x (same j k) at;
        apart = rest.apart;
      }

  -- one came in, and sessions that there were are as they were
  more_by : (s t : S) (old new : Slab (Client P T)) (k : ℕ) (d : Client P T) → AreServed services ports s old → get new k ≡ Some d
      → ((j : ℕ) → j ≢ k → get new j ≡ get old j)
      → ((seat : T) (dialogue : Dialogue) → services.says s seat dialogue → services.says t seat dialogue)
      → services.limit t ≡ services.limit s → IsServed services ports t d
      → (j : ℕ) (x : Client P T) → Same j k → get new j ≡ Some x → IsServed services ports t x
  more_by s t old new k d all is kept says limit served j x (Is e) at = subst (IsServed services ports t) (some_is d x (sym is ∙ (ap (get new) (sym e) ∙ at))) served
  more_by s t old new k d all is kept says limit served j x (Other o) at = says_on s t x limit (says x.seat) (all.each j x (sym (kept j o) ∙ at))

  more_apart : (s : S) (old new : Slab (Client P T)) (k : ℕ) (d : Client P T) → AreServed services ports s old → get new k ≡ Some d
      → ((j : ℕ) → j ≢ k → get new j ≡ get old j)
      → ((other : T) (dialogue : Dialogue) → services.says s other dialogue → services.number other ≢ services.number d.seat)
      → (i j : ℕ) (x y : Client P T) → Same i k → Same j k → get new i ≡ Some x → get new j ≡ Some y → i ≢ j → services.number x.seat ≢ services.number y.seat
  more_apart s old new k d all is kept fresh i j x y (Is e) (Is f) at by ne = absurd (ne (e ∙ sym f))
  more_apart s old new k d all is kept fresh i j x y (Is e) (Other o) at by ne =
      let y_is = all.each j y (sym (kept j o) ∙ by) in
      λ q. fresh y.seat y_is.0.0 y_is.0.1 (sym q ∙ ap (λ (z : Client P T). services.number z.seat) (some_is x d (sym at ∙ (ap (get new) e ∙ is))))
  more_apart s old new k d all is kept fresh i j x y (Other o) (Is f) at by ne =
      let x_is = all.each i x (sym (kept i o) ∙ at) in
      λ q. fresh x.seat x_is.0.0 x_is.0.1 (q ∙ ap (λ (z : Client P T). services.number z.seat) (some_is y d (sym by ∙ (ap (get new) f ∙ is))))
  more_apart s old new k d all is kept fresh i j x y (Other o) (Other p) at by ne = all.apart i j x y (sym (kept i o) ∙ at) (sym (kept j p) ∙ by) ne

  pub AreServed-more : (s t : S) (old new : Slab (Client P T)) (k : ℕ) (d : Client P T) → AreServed services ports s old → Updates old new k (Some d)
      → ((seat : T) (dialogue : Dialogue) → services.says s seat dialogue → services.says t seat dialogue)
      → ((other : T) (dialogue : Dialogue) → services.says s other dialogue → services.number other ≢ services.number d.seat)
      → services.limit t ≡ services.limit s → IsServed services ports t d → AreServed services ports t new
  AreServed-more s t old new k d all came says fresh limit served = record {
    each = λ j x. more_by s t old new k d all came.changed came.others says limit served j x (same j k);
    apart = λ i j x y. more_apart s old new k d all came.changed came.others fresh i j x y (same i k) (same j k);
  }

  -- the same of a slab that has the same at each key
  pub AreServed-same : (s : S) (old new : Slab (Client P T)) → ((j : ℕ) → get new j ≡ get old j) → AreServed services ports s old → AreServed services ports s new
  AreServed-same s old new kept all = record {
    each = λ j x at. all.each j x (sym (kept j) ∙ at);
    apart = λ i j x y at by ne. all.apart i j x y (sym (kept i) ∙ at) (sym (kept j) ∙ by) ne;
  }
