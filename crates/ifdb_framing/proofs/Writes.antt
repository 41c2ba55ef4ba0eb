-- INSERT and UPDATE write clean rows, where their trees and the rows that they see are clean.
use Rattle.std.proofs.Common.{◌≡◌, ℕ, Bool, true, List, [], ◌∷◌, length, refl, sym, ap, ◌∙◌, ◌&&◌, Some, None, Ok, Err, Option, Result}
use Rattle.std.specs.Prelude.{map}
use Rattle.std.specs.List.{list_all, fold}
use Rattle.std.proofs.lemmas.Bool.{and_parts}
use Rattle.ifdb_catalog.proofs.Tests.{both_of}
use Rattle.ifdb_value.specs.declared.value.Value.{Value}
use Rattle.ifdb_row.specs.declared.row.Row.{Row}
use Rattle.ifdb_row.specs.declared.write.Write.{Write}
use Rattle.ifdb_bound.specs.declared.request.Bound.{Bound}
use Rattle.ifdb_bound.specs.declared.request.Bound.TheVariants as bound
use Rattle.ifdb_bound.specs.declared.request.BoundAssignment.{BoundAssignment}
use Rattle.ifdb_bound.specs.Expressions.{value_of}
use Rattle.ifdb_wire.specs.declared.fault.Fault.{Fault}
use Rattle.ifdb_wire.specs.declared.fault.Fault.TheVariants as fault
use Rattle.ifdb_catalog.specs.Public.{Public, tags_of, has_tags, table_at}
use Rattle.ifdb_model.specs.Writes.{insert_all, matched, are_writable, with_value, and_assigned, assigned, update_all, deletion, counted, update_matched, scene_of, writes_of}
use Rattle.ifdb_laws.proofs.Statements.{matched_all}
use Rattle.ifdb_laws.proofs.Sided.{result_all, written_all}
use Rattle.ifdb_laws.proofs.rows.Fits.{brings_all, renews_all}
use Rattle.ifdb_framing.proofs.Lists.{pick, all_set}
use Rattle.ifdb_framing.proofs.Clean.{is_clean, are_clean, if_there, is_clean_row, is_clean_write, is_clean_set, is_clean_tree}
use Rattle.ifdb_framing.proofs.Values.{value_clean}

-- ---- assignments

set_clean : (values : List Value) (column : ℕ) (o : Option Value) → are_clean values ≡ true → if_there is_clean o ≡ true → if_there are_clean (with_value values column o) ≡ true
set_clean values column None h k = refl
set_clean values column (Some v) h k = all_set is_clean values column v h k

module _ (old : List Value) (all : are_clean old ≡ true) where
  one_clean : (o : Option (List Value)) (a : BoundAssignment) → if_there are_clean o ≡ true → is_clean_set a ≡ true → if_there are_clean (and_assigned old o a) ≡ true
  one_clean None a h k = refl
  one_clean (Some values) a h k = set_clean values a.column (value_of (old ∷ []) a.expr) h (value_clean (old ∷ []) (both_of (are_clean old) true all refl) a.expr k)

  sets_clean : (sets : List BoundAssignment) (o : Option (List Value)) → if_there are_clean o ≡ true → list_all is_clean_set sets ≡ true → if_there are_clean (fold (and_assigned old) o sets) ≡ true
  sets_clean [] o h k = h
  sets_clean (a ∷ sets) o h k =
      let parts = and_parts (is_clean_set a) (list_all is_clean_set sets) k in
      sets_clean sets (and_assigned old o a) (one_clean o a h parts.0) parts.1

assigned_clean : (old : List Value) (sets : List BoundAssignment) (now : List Value) → are_clean old ≡ true → list_all is_clean_set sets ≡ true → assigned old sets ≡ Some now → are_clean now ≡ true
assigned_clean old sets now h k e = sym (ap (if_there are_clean) e) ∙ sets_clean old h sets (Some old) h k

-- ---- statements

counted_all : (q : Write → Bool) (n : ℕ) (o : Result (List Write) Fault) → result_all q o ≡ true → written_all q (counted n o) ≡ true
counted_all q n (Err f) h = refl
counted_all q n (Ok ws) h = h

deletions_clean : (rs : List Row) → list_all is_clean_write (map deletion rs) ≡ true
deletions_clean [] = refl
deletions_clean (r ∷ rs) = deletions_clean rs

new_clean : (values : List Value) → are_clean values ≡ true → are_clean values && true ≡ true
new_clean values h = both_of (are_clean values) true h refl

pub writes_clean : (p : Public) (asker : ℕ) (rows : List Row) (label : List ℕ) (b : Bound) → list_all is_clean_row rows ≡ true → is_clean_tree b ≡ true
    → written_all is_clean_write (writes_of p asker rows label b) ≡ true
writes_clean p asker rows label (bound.Insert t values given) h k =
    let x = scene_of p rows label given in
    pick (written_all is_clean_write) (has_tags p asker given) (counted (length values) (insert_all x t (table_at p t) values (Ok []))) (Err fault.NoAuthority)
    (counted_all is_clean_write (length values) (insert_all x t (table_at p t) values (Ok []))
    (brings_all x t (table_at p t) is_clean_write are_clean (λ vs refs g e. new_clean vs g) values (Ok []) k refl)) refl
writes_clean p asker rows label (bound.Update t sets c given) h k =
    let x = scene_of p rows label given in
    let rs = matched (tags_of p) rows t c label in
    pick (written_all is_clean_write) (has_tags p asker given) (update_matched x (table_at p t) sets rs) (Err fault.NoAuthority)
    (pick (written_all is_clean_write) (are_writable label rs) (counted (length rs) (update_all x (table_at p t) sets rs)) (Err fault.WriteLabel)
    (counted_all is_clean_write (length rs) (update_all x (table_at p t) sets rs)
    (renews_all x (table_at p t) sets is_clean_write is_clean_row (λ r values refs g e f. new_clean values (assigned_clean r.values sets values g k e)) rs
    (matched_all is_clean_row (tags_of p) rows t c label h))) refl) refl
writes_clean p asker rows label (bound.Delete t c) h k =
    let rs = matched (tags_of p) rows t c label in
    pick (written_all is_clean_write) (are_writable label rs) (counted (length rs) (Ok (map deletion rs))) (Err fault.WriteLabel) (deletions_clean rs) refl
writes_clean p asker rows label (bound.Change c) h k = refl
writes_clean p asker rows label (bound.SetLabel l) h k = refl
writes_clean p asker rows label (bound.Select s) h k = refl
writes_clean p asker rows label bound.Other h k = refl
