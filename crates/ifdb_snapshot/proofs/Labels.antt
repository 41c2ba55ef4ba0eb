-- SET LABEL, by whether the label flows to the ceiling and the given up tags are held.
use Rattle.std.proofs.Common.{◌≡◌, ℕ, Bool, true, false, List, ◌∙◌, refl, ap, cond, Option, Some, None}
use Rattle.ifdb_label.specs.Label.{strip}
use Rattle.ifdb_wire.specs.declared.fault.Fault.{Fault}
use Rattle.ifdb_wire.specs.declared.fault.Fault.TheVariants as fault
use Rattle.ifdb_wire.specs.declared.reply.Reply.TheVariants as reply
use Rattle.ifdb_catalog.specs.Public.{Public, tags_of, has_tags}
use Rattle.ifdb_model.specs.Session.{Session}
use Rattle.ifdb_model.specs.Step.{tells, refuses, is_under, label_refusal, relabelled, relabelled_as}
use Rattle.ifdb_snapshot.specs.Labels.{IsAt}

module _ (p : Public) (asker : ℕ) (ceiling : Option (List ℕ)) (old label : List ℕ) (s : Session) where
  -- why a session at that label doesn't get the new one, by the two tests
  by_tests : (under held : Bool) → IsAt ceiling old s → is_under (tags_of p) ceiling label ≡ under → has_tags p asker (strip (tags_of p) old label) ≡ held
      → label_refusal p asker s label ≡ cond under (cond held None (Some fault.NoAuthority)) (Some fault.OverClearance)
  by_tests under held at u h = λ i. cond
      ((ap (λ c. is_under (tags_of p) c label) at.0 ∙ u) i)
      (cond ((ap (λ l. has_tags p asker (strip (tags_of p) l label)) at.1 ∙ h) i) None (Some fault.NoAuthority))
      (Some fault.OverClearance)

  pub over_ceiling : is_under (tags_of p) ceiling label ≡ false → IsAt ceiling old s → label_refusal p asker s label ≡ Some fault.OverClearance
  over_ceiling u at = by_tests false (has_tags p asker (strip (tags_of p) old label)) at u refl

  pub label_unheld : is_under (tags_of p) ceiling label ≡ true → has_tags p asker (strip (tags_of p) old label) ≡ false → IsAt ceiling old s
      → label_refusal p asker s label ≡ Some fault.NoAuthority
  label_unheld u h at = by_tests true false at u h

  pub label_free : is_under (tags_of p) ceiling label ≡ true → has_tags p asker (strip (tags_of p) old label) ≡ true → IsAt ceiling old s
      → label_refusal p asker s label ≡ None
  label_free u h at = by_tests true true at u h

module _ (p : Public) (asker : ℕ) (label : List ℕ) (s : Session) where
  pub label_set : label_refusal p asker s label ≡ None → relabelled p asker s label ≡ tells (record s { label = label }) reply.Done
  label_set h = ap (relabelled_as s label) h

  pub label_refused : (f : Fault) → label_refusal p asker s label ≡ Some f → relabelled p asker s label ≡ refuses s f
  label_refused f h = ap (relabelled_as s label) h
