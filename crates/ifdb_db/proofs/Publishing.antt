-- CREATE, GRANT and REVOKE outside a transaction, by what they are bound to.
use Rattle.std.proofs.Common.{◌≡◌, ℕ, true, false, List, ◌∙◌, refl, sym, ap, Option, Some, None, inl, inr}
use Rattle.std.specs.Prelude.{◌⊎◌, Ok, Err}
use Rattle.ifdb_bound.specs.declared.request.Bound.{Bound}
use Rattle.ifdb_bound.specs.declared.request.Bound.TheVariants as b
use Rattle.ifdb_syntax.specs.declared.request.Request.{Request}
use Rattle.ifdb_wire.specs.declared.fault.Fault.{Fault}
use Rattle.ifdb_wire.specs.declared.fault.Fault.TheVariants as fault
use Rattle.ifdb_wire.specs.declared.reply.Reply.TheVariants as reply
use Rattle.ifdb_catalog.specs.Public.{Public}
use Rattle.ifdb_catalog.specs.Binding.{bound}
use Rattle.ifdb_catalog.specs.Laws.{BoundIsNew}
use Rattle.ifdb_model.specs.Session.{Session}
use Rattle.ifdb_model.specs.Step.{Outcome, refuses, is_empty, form_of, publishes, publish, publish_bound, publish_it}
use Rattle.ifdb_restore.specs.Redone.{recorded}
use Rattle.ifdb_db.specs.Desk.{Desk, with_entry, settled}
use Rattle.ifdb_db.specs.Noting.{Noted, noted, IsNotedAt}
use Rattle.ifdb_db.specs.Client.{standing}
use Rattle.ifdb_db.specs.Inside.{session_of}
use Rattle.ifdb_db.specs.Outside.{outside, IsAdded, IsNotAdded}
use Rattle.ifdb_db.specs.Publishing.{entry_of, is_new_bound, refusal_of}

-- what is bound makes a new name
pub bound_is_new : (p : Public) (asker : ℕ) (r : Request) (found : Bound) → BoundIsNew → bound p asker r ≡ Ok found → is_new_bound p found ≡ true
bound_is_new p asker r (b.Change c) h e = h p asker r c e
bound_is_new p asker r (b.SetLabel label) h e = refl
bound_is_new p asker r (b.Select q) h e = refl
bound_is_new p asker r (b.Insert t rows given) h e = refl
bound_is_new p asker r (b.Update t sets cond given) h e = refl
bound_is_new p asker r (b.Delete t cond) h e = refl
bound_is_new p asker r b.Other h e = refl

added_by : (p : Public) (s : Session) (found : Bound) → refusal_of p found ≡ None → publish_bound p s (Ok found) ≡ record { session = s; added = entry_of found; reply = reply.Done }
added_by p s (b.Change c) r = ap (publish_it s c) r
added_by p s (b.SetLabel label) r = refl
added_by p s (b.Select q) r = refl
added_by p s (b.Insert t rows given) r = refl
added_by p s (b.Update t sets cond given) r = refl
added_by p s (b.Delete t cond) r = refl
added_by p s b.Other r = refl

refused_by : (p : Public) (s : Session) (found : Bound) (g : Fault) → refusal_of p found ≡ Some g → publish_bound p s (Ok found) ≡ refuses s g
refused_by p s (b.Change c) g r = ap (publish_it s c) r
refused_by p s (b.SetLabel label) g r = cc
refused_by p s (b.Select q) g r = cc
refused_by p s (b.Insert t rows given) g r = cc
refused_by p s (b.Update t sets cond given) g r = cc
refused_by p s (b.Delete t cond) g r = cc
refused_by p s b.Other g r = cc

module _ (x y : Desk) (asker : ℕ) (l : List ℕ) (r : Request) (f : form_of r ≡ publishes) where
  -- who asks, under any ceiling
  abbrev there : Option (List ℕ) → Session
  there c = session_of (standing asker c l) None

  by_form : (c : Option (List ℕ)) → outside x (standing asker c l) r ≡ publish x.seen.public (there c) (bound x.seen.public asker r)
  by_form c = ap (Rattle.ifdb_model.specs.Step.answered_as x.count x.seen None (there c) asker r) f

  pub labelled : is_empty l ≡ false → y ≡ x → IsNotAdded asker l r x y fault.LabelNotEmpty
  labelled e k = record { cause = inr (λ c. by_form c ∙ rw e refl); desk = k }

  module _ (e : is_empty l ≡ true) where
    unlabelled : (c : Option (List ℕ)) → outside x (standing asker c l) r ≡ publish_bound x.seen.public (there c) (bound x.seen.public asker r)
    unlabelled c = by_form c ∙ rw e refl

    -- the refusal, or that there was no memory
    abbrev Refuses : Fault → Type 0
    Refuses g = (g ≡ fault.OutOfMemory) ⊎ ((c : Option (List ℕ)) → outside x (standing asker c l) r ≡ refuses (there c) g)

    pub unbound : (g : Fault) → (g ≡ fault.OutOfMemory) ⊎ (bound x.seen.public asker r ≡ Err g) → y ≡ x → IsNotAdded asker l r x y g
    unbound g h k = record { cause = by h; desk = k } where
      by : (g ≡ fault.OutOfMemory) ⊎ (bound x.seen.public asker r ≡ Err g) → Refuses g
      by (inl m) = inl m
      by (inr i) = inr (λ c. unlabelled c ∙ ap (publish_bound x.seen.public (there c)) i)

    module _ (found : Bound) (i : bound x.seen.public asker r ≡ Ok found) where
      pub published : refusal_of x.seen.public found ≡ None → y ≡ settled (with_entry x (entry_of found)) → IsAdded asker l r x y reply.Done
      published n k = record {
        added = entry_of found;
        outcome = λ c. unlabelled c ∙ ap (publish_bound x.seen.public (there c)) i ∙ added_by x.seen.public (there c) found n;
        desk = k;
        bounded = λ u. u;
      }

      pub published_noted : (line : List ℕ) (n m : Noted) → refusal_of x.seen.public found ≡ None → m ≡ noted n (recorded (Some asker) line (entry_of found)) → IsNotedAt asker l r line x n m (Ok reply.Done)
      published_noted line n m none k = λ c. k ∙ sym (ap (λ (o : Outcome). noted n (recorded (Some asker) line o.added))
          (unlabelled c ∙ ap (publish_bound x.seen.public (there c)) i ∙ added_by x.seen.public (there c) found none))

      pub refused : (g : Fault) → (g ≡ fault.OutOfMemory) ⊎ (refusal_of x.seen.public found ≡ Some g) → y ≡ x → IsNotAdded asker l r x y g
      refused g h k = record { cause = by h; desk = k } where
        by : (g ≡ fault.OutOfMemory) ⊎ (refusal_of x.seen.public found ≡ Some g) → Refuses g
        by (inl m) = inl m
        by (inr n) = inr (λ c. unlabelled c ∙ ap (publish_bound x.seen.public (there c)) i ∙ refused_by x.seen.public (there c) found g n)
