-- What a connection that comes in or is given back does to the order of a loop.
use Rattle.std.proofs.Common.{◌≡◌, ℕ, ◌+◌, ◌≤◌, List, [], ◌∷◌, ◌++◌, map, cond, Bool, true, false, refl, sym, ap, subst, ◌∙◌, arith}
use Rattle.std.specs.Prelude.{IfSome, option_map, count_by, nat_eq, IsPermutation}
use Rattle.std.specs.declared.option.Option.{Option}
use Rattle.std.specs.declared.option.Option.TheVariants.{None, Some}
use Rattle.std.proofs.lemmas.Bool.{eqb-true}
use Rattle.std.proofs.lemmas.List.{append_assoc, map-append}
use Rattle.std.proofs.lemmas.List.Elements.{All-push}
use Rattle.std.proofs.lemmas.List.Sums.{sum_by_push}
use Rattle.std.proofs.lemmas.List.Sorted.{IsPermutation-sym, IsPermutation-trans, IsPermutation-cons, IsPermutation-middle, IsPermutation-append_right, IsPermutation-to_front}
use Rattle.ifdb_loop.specs.declared.gate.Gate as gate
use Rattle.ifdb_loop.specs.declared.port.Port as port
use Rattle.ifdb_loop.specs.declared.service.Service as service
use Rattle.ifdb_loop.specs.Visits.{Visit}
use Rattle.ifdb_loop.specs.Standing.{WasServed}
use Rattle.ifdb_loop.specs.Rounds.{IsInOrder}
use Rattle.ifdb_loop.proofs.Leaving.{Remembers, all_served_later}

-- ---- lists of numbers

-- one more at the end of the whole, and among the parts
opened_more : (gone ns ms all : List ℕ) (n : ℕ) → IsPermutation (gone ++ ns) all → IsPermutation (n ∷ ns) ms → IsPermutation (gone ++ ms) (all ++ n ∷ [])
opened_more gone ns ms all n before more =
    IsPermutation-trans _ _ _ (IsPermutation-append_right gone _ _ (IsPermutation-sym _ _ more))
    (IsPermutation-trans _ _ _ (IsPermutation-middle gone n ns)
    (IsPermutation-trans _ _ _ (IsPermutation-cons n _ _ before) (IsPermutation-sym _ _ (IsPermutation-to_front all n))))

-- one went from the one part to the other
opened_over : (gone ns ms all : List ℕ) (n : ℕ) → IsPermutation (gone ++ ns) all → IsPermutation (n ∷ ms) ns → IsPermutation ((gone ++ n ∷ []) ++ ms) all
opened_over gone ns ms all n before fewer =
    subst (λ l. IsPermutation l all) (sym (append_assoc gone (n ∷ []) ms)) (IsPermutation-trans _ _ _ (IsPermutation-append_right gone _ _ fewer) before)

once_by : (m n count : ℕ) (b : Bool) → nat_eq m n ≡ b → count ≤ 1 → (m ≡ n → count ≡ 0) → count + cond b 1 0 ≤ 1
once_by m n count true is most none = let zero = none (eqb-true m n is) in omega (arith, zero)
once_by m n count false is most none = omega (arith, most)

-- a number that wasn't there comes to others that were there once
once_more : (all : List ℕ) (n : ℕ) → ((m : ℕ) → count_by (nat_eq m) all ≤ 1) → count_by (nat_eq n) all ≡ 0 → (m : ℕ) → count_by (nat_eq m) (all ++ n ∷ []) ≤ 1
once_more all n once fresh m =
    rw (sum_by_push (λ x. cond (nat_eq m x) 1 0) all n) (once_by m n (count_by (nat_eq m) all) (nat_eq m n) refl (once m) (λ e. rw e fresh))

-- ---- what was given back

back_more : {A B : Type 0} (f : B → A) (told : Option (List A)) (visits : List B) (b : B) → IfSome told (λ l. l ≡ map f visits)
    → IfSome (option_map (λ l. l ++ f b ∷ []) told) (λ l. l ≡ map f (visits ++ b ∷ []))
back_more f None visits b is = tt
back_more f (Some l) visits b is = ap (λ m. m ++ f b ∷ []) is ∙ sym (map-append f visits (b ∷ []))

module _ {S T P G : Type 0} (services : service.Ghosts S T) (ports : port.Ghosts P) (gates : gate.Ghosts G P) where
  -- no session was opened, and nothing was given back
  pub order_on : (s t : S) (g h : G) (ns ms : List ℕ) → Remembers services ports s t (gates.faults g) (gates.faults h)
      → services.opened t ≡ services.opened s → gates.back h ≡ gates.back g → ms ≡ ns
      → IsInOrder services ports gates s g ns → IsInOrder services ports gates t h ms
  order_on s t g h ns ms m opened back same x = record {
    visits = x.visits;
    back = rw back x.back;
    served = all_served_later services ports s t _ _ m x.visits x.served;
    opened = rw (opened, same) x.opened;
    once = rw opened x.once;
  }

  -- a session was opened for a connection that came in
  pub order_more : (s t : S) (g h : G) (ns ms : List ℕ) (n : ℕ) → Remembers services ports s t (gates.faults g) (gates.faults h)
      → services.opened t ≡ services.opened s ++ n ∷ [] → gates.back h ≡ gates.back g → count_by (nat_eq n) (services.opened s) ≡ 0 → IsPermutation (n ∷ ns) ms
      → IsInOrder services ports gates s g ns → IsInOrder services ports gates t h ms
  order_more s t g h ns ms n m opened back fresh more x = record {
    visits = x.visits;
    back = rw back x.back;
    served = all_served_later services ports s t _ _ m x.visits x.served;
    opened = rw opened (opened_more _ ns ms _ n x.opened more);
    once = rw opened (once_more (services.opened s) n x.once fresh);
  }

  -- a connection was given back
  pub order_over : (s t : S) (g h : G) (ns ms : List ℕ) (v : Visit P) → Remembers services ports s t (gates.faults g) (gates.faults h)
      → services.opened t ≡ services.opened s → gates.back h ≡ option_map (λ told. told ++ v.over ∷ []) (gates.back g) → IsPermutation (v.number ∷ ms) ns
      → WasServed services ports t (gates.faults h) v → IsInOrder services ports gates s g ns → IsInOrder services ports gates t h ms
  order_over s t g h ns ms v m opened back fewer served x = record {
    visits = x.visits ++ v ∷ [];
    back = rw back (back_more (λ (w : Visit P). w.over) (gates.back g) x.visits v x.back);
    served = All-push (WasServed services ports t (gates.faults h)) x.visits v (all_served_later services ports s t _ _ m x.visits x.served) served;
    opened = rw (opened, map-append (λ (w : Visit P). w.number) x.visits (v ∷ [])) (opened_over _ ns ms _ v.number x.opened fewer);
    once = rw opened x.once;
  }
