-- One assignment after the other.
use Rattle.std.proofs.Common.{◌≡◌, ◌⊎◌, inl, inr, ℕ, ◌<◌, ◌+◌, List, [], ◌∷◌, ◌∙◌, length, get_or, drop, refl, ap, Some, None, slice_set}
use Rattle.std.specs.List.{fold}
use Rattle.std.proofs.lemmas.List.{drop_more}
use Rattle.ifdb_value.specs.declared.value.Value.{Value}
use Rattle.ifdb_bound.specs.declared.request.BoundAssignment.{BoundAssignment}
use Rattle.ifdb_bound.specs.Expressions.{value_of}
use Rattle.ifdb_wire.specs.declared.fault.Fault.{Fault}
use Rattle.ifdb_wire.specs.declared.fault.Fault.TheVariants as fault
use Rattle.ifdb_model.specs.Writes.{and_assigned, assigned, with_value}

none_assigned : (old : List Value) (sets : List BoundAssignment) → fold (and_assigned old) None sets ≡ None
none_assigned old [] = refl
none_assigned old (a ∷ sets) = none_assigned old sets

module _ (old : List Value) (sets : List BoundAssignment) (i : ℕ) (a : BoundAssignment) (lt : i < length sets) (at : get_or sets i a ≡ a) where
  pub assigned_on : (values : List Value) (v : Value) → value_of (old ∷ []) a.expr ≡ Some v
      → fold (and_assigned old) (Some values) (drop i sets) ≡ fold (and_assigned old) (Some (slice_set values a.column v)) (drop (i + 1) sets)
  assigned_on values v e =
      ap (fold (and_assigned old) (Some values)) (drop_more sets i a lt)
      ∙ (ap (λ b. fold (and_assigned old) (and_assigned old (Some values) b) (drop (i + 1) sets)) at
      ∙ ap (λ o. fold (and_assigned old) (with_value values a.column o) (drop (i + 1) sets)) e)

  pub assigned_none : (values : List Value) → value_of (old ∷ []) a.expr ≡ None → fold (and_assigned old) (Some values) (drop i sets) ≡ None
  assigned_none values e =
      ap (fold (and_assigned old) (Some values)) (drop_more sets i a lt)
      ∙ (ap (λ b. fold (and_assigned old) (and_assigned old (Some values) b) (drop (i + 1) sets)) at
      ∙ (ap (λ o. fold (and_assigned old) (with_value values a.column o) (drop (i + 1) sets)) e ∙ none_assigned old (drop (i + 1) sets)))

  pub assigned_out : (values : List Value) (f : Fault) → assigned old sets ≡ fold (and_assigned old) (Some values) (drop i sets)
      → (f ≡ fault.OutOfMemory) ⊎ ((f ≡ fault.OutOfRange) × (value_of (old ∷ []) a.expr ≡ None)) → (f ≡ fault.OutOfMemory) ⊎ ((f ≡ fault.OutOfRange) × (assigned old sets ≡ None))
  assigned_out values f e (inl k) = inl k
  assigned_out values f e (inr k) = inr (k.0, e ∙ assigned_none values k.1)
