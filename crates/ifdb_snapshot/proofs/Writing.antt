-- What INSERT, UPDATE and DELETE write fits, and whether it leaves a row without a parent.
use Rattle.std.proofs.Common.{◌≡◌, ℕ, Bool, true, false, List, [], ◌∷◌, length, refl, sym, ap, subst, ◌∙◌, arith, ◌&&◌, None, Some, Option}
use Rattle.std.specs.Prelude.{IfOk, IsTrue, Result, Ok, Err, find, option_map, option_to_list}
use Rattle.std.specs.List.{list_all, list_any}
use Rattle.std.proofs.lemmas.Bool.Decides.{nat_tests}
use Rattle.std.proofs.lemmas.List.{length-map}
use Rattle.ifdb_label.specs.Tags.{are_made}
use Rattle.ifdb_row.specs.declared.row.Row.{Row}
use Rattle.ifdb_row.specs.declared.write.Write.{Write}
use Rattle.ifdb_row.specs.Seen.{are_rows_made}
use Rattle.ifdb_row.specs.Verdict.{Witness, leaves, is_left, first_left, left_in, empties_parent}
use Rattle.ifdb_row.proofs.Children.{left_any}
use Rattle.ifdb_row.proofs.ShowsLaws.{find_some}
use Rattle.ifdb_bound.specs.declared.request.Bound.{Bound}
use Rattle.ifdb_wire.specs.declared.fault.Fault.{Fault}
use Rattle.ifdb_catalog.specs.Public.{Public, tags_of}
use Rattle.ifdb_catalog.specs.Fits.{bound_fits}
use Rattle.ifdb_model.specs.Writes.{Written, writes_of}
use Rattle.ifdb_laws.proofs.Statements.{is_good, writes_good}
use Rattle.ifdb_row.specs.declared.slot.Slot.{Slot}
use Rattle.ifdb_txn.specs.Answers.{Gives}
use Rattle.ifdb_txn.specs.Keyed.{are_all_keyed}
use Rattle.ifdb_laws.specs.RowLaws.{row_fits}
use Rattle.ifdb_laws.proofs.rows.Fits.{statement_fits}
use Rattle.ifdb_laws.proofs.Sided.{written_all}
use Rattle.ifdb_snapshot.specs.Writing.{are_fit}

-- ---- rows that fit

tags_as_many : (p : Public) → length (tags_of p) ≡ length p.tags
tags_as_many p = simp length-map refl

pub fit_made : (p : Public) (rows : List Row) → list_all (row_fits p) rows ≡ true → are_rows_made (length (tags_of p)) rows ≡ true
fit_made p [] h = refl
fit_made p (r ∷ rows) h = grind (arith, nat_tests, fit_made p rows)

pub fit_keyed : (p : Public) (rows : List Row) → list_all (row_fits p) rows ≡ true → are_all_keyed p rows ≡ true
fit_keyed p [] h = refl
fit_keyed p (r ∷ rows) h = grind (arith, nat_tests, fit_keyed p rows)

pub known_made : (p : Public) (rows : List Row) → list_all (row_fits p) rows ≡ true → are_rows_made (length p.tags) rows ≡ true
known_made p rows h = ap (λ n. are_rows_made n rows) (sym (tags_as_many p)) ∙ fit_made p rows h

both_all : {X : Type 0} (q r : X → Bool) (xs : List X) → list_all q xs ≡ true → list_all r xs ≡ true → list_all (λ x. q x && r x) xs ≡ true
both_all q r [] h k = refl
both_all q r (x ∷ xs) h k = grind (arith, nat_tests, both_all q r xs)

-- each write of a statement is of made tags
slots_made : (p : Public) (rows : List Row) (asker : ℕ) (label : List ℕ) (b : Bound) (w : Written) → are_made (length p.tags) label ≡ true → writes_of p asker rows label b ≡ Ok w
    → list_all (λ (x : Write). are_made (length p.tags) x.slot.label) w.writes ≡ true
slots_made p rows asker label b w m e =
    let side : Slot → Bool = λ s. are_made (length p.tags) s.label in
    let good = subst (λ o. is_good side o ≡ true) e (writes_good p asker rows label side (λ s k. ap (are_made (length p.tags)) k ∙ m) b) in
    grind (arith, nat_tests)

-- what is written fits
pub written_fit : (p : Public) (rows : List Row) (asker : ℕ) (label : List ℕ) (b : Bound) (w : Written) → list_all (row_fits p) rows ≡ true → are_made (length p.tags) label ≡ true
    → bound_fits p b ≡ true → writes_of p asker rows label b ≡ Ok w → are_fit p w.writes ≡ true
written_fit p rows asker label b w h m f e =
    let fit = subst (λ o. written_all (λ (x : Write). list_all (row_fits p) (option_to_list x.row)) o ≡ true) e (statement_fits p rows h label (ap (λ n. are_made n label) (tags_as_many p) ∙ m) asker b f) in
    both_all (λ (x : Write). are_made (length p.tags) x.slot.label) (λ (x : Write). list_all (row_fits p) (option_to_list x.row)) w.writes (slots_made p rows asker label b w m e) fit

pub gives_fit : (p : Public) (rows : List Row) (asker : ℕ) (label : List ℕ) (b : Bound) (r : Result Written Fault) → list_all (row_fits p) rows ≡ true → are_made (length p.tags) label ≡ true
    → bound_fits p b ≡ true → Gives (writes_of p asker rows label b) r → IfOk r (λ w. IsTrue (are_fit p w.writes))
gives_fit p rows asker label b (Ok w) h m f g = written_fit p rows asker label b w h m f g
gives_fit p rows asker label b (Err f) h m k g = tt

-- ---- a row without a parent

some_found : {X : Type 0} (p : X → Bool) (xs : List X) (x : X) → find p xs ≡ Some x → list_any p xs ≡ true
some_found p [] x e = cc
some_found p (y ∷ xs) x e = grind (arith, nat_tests, some_found p xs x)

module _ (rows : List Row) (writes : List Write) where
  pub some_left : (x : Witness) → first_left rows writes ≡ Some x → leaves rows writes ≡ true
  some_left x e = by (find (is_left writes) rows) refl where
    by : (o : Option Row) → find (is_left writes) rows ≡ o → leaves rows writes ≡ true
    by None k = absurd (apart (sym (ap (left_in writes) k) ∙ e)) where
      apart : None ≡ Some x → ⊥
      apart i = cc
    by (Some r) k = some_found (is_left writes) rows r k

  pub none_left : first_left rows writes ≡ None → leaves rows writes ≡ false
  none_left e = by (leaves rows writes) refl where
    by : (b : Bool) → leaves rows writes ≡ b → leaves rows writes ≡ false
    by false h = h
    by true h =
        let f = find_some (is_left writes) rows h in
        let p = find_some (empties_parent f.first) writes (sym (left_any writes f.first) ∙ f.passes) in
        absurd (apart _ (sym e ∙ (ap (left_in writes) f.found ∙ ap (option_map _) p.found))) where
          apart : (x : Witness) → None ≡ Some x → ⊥
          apart x i = cc
