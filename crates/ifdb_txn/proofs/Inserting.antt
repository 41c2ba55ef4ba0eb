-- One row inserted, and one after the other.
use Rattle.std.proofs.Common.{◌≡◌, ◌⊎◌, inl, inr, ℕ, ◌<◌, ◌+◌, Bool, true, false, List, [], ◌∷◌, ◌∙◌, length, get_or, drop, refl, ap, arith, cond, Some, None}
use Rattle.std.specs.Prelude.{Ok, Err}
use Rattle.std.proofs.lemmas.List.{drop_more}
use Rattle.std.proofs.lemmas.Bool.Decides.{nat_tests}
use Rattle.ifdb_value.specs.declared.value.Value.{Value}
use Rattle.ifdb_label.specs.Tags.{MadeTag}
use Rattle.ifdb_row.specs.declared.slot.Slot.{Slot}
use Rattle.ifdb_row.specs.declared.row.Row.{Row}
use Rattle.ifdb_row.specs.declared.write.Write.{Write}
use Rattle.ifdb_row.specs.Slots.{is_same_label}
use Rattle.ifdb_row.specs.Writes.{put}
use Rattle.ifdb_row.specs.Content.{after}
use Rattle.ifdb_row.specs.Seen.{clash}
use Rattle.ifdb_row.proofs.LiveLaws.{put_all}
use Rattle.ifdb_bound.specs.declared.schema.Schema.{Schema}
use Rattle.ifdb_wire.specs.declared.fault.Fault.{Fault}
use Rattle.ifdb_wire.specs.declared.fault.Fault.TheVariants as fault
use Rattle.ifdb_catalog.specs.Statements.{values_at}
use Rattle.ifdb_model.specs.Writes.{Scene, binding_keys, bound_parents, new_slot, new_write, inserted, insert_one, insert_all}
use Rattle.std.proofs.lemmas.Cmp.{nat_list_cmp_total, tied_itself}
use Rattle.std.specs.Ordering.{is_eq}
use Rattle.ifdb_txn.specs.Inserted.{is_new, are_new}
use Rattle.ifdb_txn.proofs.NewRows.{free_slot}

module _ (x : Scene) (t : ℕ) (schema : Schema) (earlier : List Write) (values : List Value) where
  abbrev its_clash : Bool
  its_clash = clash x.tags (after x.rows earlier) t (values_at values schema.key) x.label

  pub inserted_put : (refs : List Slot) → its_clash ≡ false → bound_parents x values (binding_keys values schema.foreign) ≡ Some refs
      → insert_one x t schema earlier values ≡ Ok (put (new_write (new_slot t schema values x.label) values refs) earlier)
  inserted_put refs h b = ap (λ c. cond c (Err fault.DuplicateKey) (inserted x t schema earlier values (bound_parents x values (binding_keys values schema.foreign)))) h ∙ ap (inserted x t schema earlier values) b

  pub key_refused : its_clash ≡ true → insert_one x t schema earlier values ≡ Err fault.DuplicateKey
  key_refused h = ap (λ c. cond c (Err fault.DuplicateKey) (inserted x t schema earlier values (bound_parents x values (binding_keys values schema.foreign)))) h

  pub parent_refused : its_clash ≡ false → bound_parents x values (binding_keys values schema.foreign) ≡ None → insert_one x t schema earlier values ≡ Err fault.NoReference
  parent_refused h b = ap (λ c. cond c (Err fault.DuplicateKey) (inserted x t schema earlier values (bound_parents x values (binding_keys values schema.foreign)))) h ∙ ap (inserted x t schema earlier values) b

label_same : (l : List ℕ) → is_same_label l l ≡ true
label_same l = ap is_eq (tied_itself nat_list_cmp_total l)

-- a new row among the others
pub new_put : (tags : List MadeTag) (rows : List Row) (s : Slot) (values : List Value) (refs : List Slot) (ws : List Write) → are_new rows s.table s.label ws ≡ true → clash tags rows s.table s.key s.label ≡ false
    → are_new rows s.table s.label (put (new_write s values refs) ws) ≡ true
new_put tags rows s values refs ws h free =
    let none = free_slot tags s rows free in
    let l = label_same s.label in
    let one : is_new rows s.table s.label (new_write s values refs) ≡ true = grind (arith, nat_tests) in
    put_all (is_new rows s.table s.label) (new_write s values refs) ws one h

-- ---- all rows

pub err_all : (x : Scene) (t : ℕ) (schema : Schema) (rows : List (List Value)) (f : Fault) → insert_all x t schema rows (Err f) ≡ Err f
err_all x t schema [] f = refl
err_all x t schema (r ∷ rows) f = refl

pub one_more : (x : Scene) (t : ℕ) (schema : Schema) (rows : List (List Value)) (i : ℕ) (values : List Value) (earlier now : List Write) → i < length rows → get_or rows i values ≡ values
    → insert_one x t schema earlier values ≡ Ok now → insert_all x t schema (drop i rows) (Ok earlier) ≡ insert_all x t schema (drop (i + 1) rows) (Ok now)
one_more x t schema rows i values earlier now lt at e =
    ap (λ d. insert_all x t schema d (Ok earlier)) (drop_more rows i values lt)
    ∙ (ap (λ v. insert_all x t schema (drop (i + 1) rows) (insert_one x t schema earlier v)) at ∙ ap (insert_all x t schema (drop (i + 1) rows)) e)

pub one_refused : (x : Scene) (t : ℕ) (schema : Schema) (rows : List (List Value)) (i : ℕ) (values : List Value) (earlier : List Write) (f : Fault) → i < length rows → get_or rows i values ≡ values
    → insert_one x t schema earlier values ≡ Err f → insert_all x t schema (drop i rows) (Ok earlier) ≡ Err f
one_refused x t schema rows i values earlier f lt at e =
    ap (λ d. insert_all x t schema d (Ok earlier)) (drop_more rows i values lt)
    ∙ (ap (λ v. insert_all x t schema (drop (i + 1) rows) (insert_one x t schema earlier v)) at ∙ (ap (insert_all x t schema (drop (i + 1) rows)) e ∙ err_all x t schema (drop (i + 1) rows) f))

pub all_refused : (x : Scene) (t : ℕ) (schema : Schema) (rows : List (List Value)) (i : ℕ) (values : List Value) (earlier now : List Write) (f : Fault) → i < length rows → get_or rows i values ≡ values
    → insert_all x t schema rows (Ok []) ≡ insert_all x t schema (drop i rows) (Ok earlier)
    → (f ≡ fault.OutOfMemory) ⊎ (insert_one x t schema earlier values ≡ Err f) → (f ≡ fault.OutOfMemory) ⊎ (insert_all x t schema rows (Ok []) ≡ Err f)
all_refused x t schema rows i values earlier now f lt at e (inl k) = inl k
all_refused x t schema rows i values earlier now f lt at e (inr k) = inr (e ∙ one_refused x t schema rows i values earlier f lt at k)
