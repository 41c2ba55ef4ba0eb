-- Fronts of records restore fronts of the log.
use Rattle.std.proofs.Common.{◌≡◌, ℕ, zero, suc, List, [], ◌∷◌, ◌++◌, ◌∙◌, length, take, refl, sym, ap, Option, Some, None}
use Rattle.std.proofs.lemmas.List.{append-nil}
use Rattle.std.proofs.Math.Seq.{take-nil}
use mathlib.Core.List.{append_assoc}
use Rattle.ifdb_redo.specs.declared.record.RedoRecord.{RedoRecord}
use Rattle.ifdb_model.specs.Log.{Entry}
use Rattle.ifdb_model.specs.Step.{Reader}
use Rattle.ifdb_restore.specs.Redone.{Test, installed, longer, restored_behind}
use Rattle.ifdb_restore.specs.Fronts.{FrontsRestore}

module _ (read : Reader) (fits : Test) where
  -- what some records add to a log
  record Adds (log : List Entry) (rs : List RedoRecord) (all : List Entry) : Type 0 where
    added : List Entry
    whole : all ≡ log ++ added
    count : length added ≡ length rs
    front : (n : ℕ) → restored_behind read fits (Some log) (take n rs) ≡ Some (log ++ take n added)

  none_left : (rs : List RedoRecord) → restored_behind read fits None rs ≡ None
  none_left [] = refl
  none_left (r ∷ rs) = none_left rs

  adds : (log : List Entry) (rs : List RedoRecord) (all : List Entry) → restored_behind read fits (Some log) rs ≡ Some all → Adds log rs all
  adds log [] all e = record {
    added = [];
    whole = same log all e ∙ sym (append-nil log);
    count = refl;
    front = λ n. ap (λ rs. restored_behind read fits (Some log) rs) (take-nil n) ∙ ap Some (sym (append-nil log)) ∙ ap (λ es. Some (log ++ es)) (sym (take-nil n));
  } where
    same : (a b : List Entry) → Some a ≡ Some b → b ≡ a
    same a b e = cc
  adds log (r ∷ rs) all e = by (installed read fits log r) refl (λ x k. adds (log ++ x ∷ []) rs all k) where
    lost : None ≡ Some all → ⊥
    lost h = cc

    fronts : (x : Entry) → installed read fits log r ≡ Some x → (rest : Adds (log ++ x ∷ []) rs all) (n : ℕ)
        → restored_behind read fits (Some log) (take n (r ∷ rs)) ≡ Some (log ++ take n (x ∷ rest.added))
    fronts x k rest zero = ap Some (sym (append-nil log))
    fronts x k rest (suc n) = ap (λ o. restored_behind read fits (longer log o) (take n rs)) k ∙ rest.front n ∙ ap Some (append_assoc log (x ∷ []) (take n rest.added))

    by : (o : Option Entry) → installed read fits log r ≡ o → ((x : Entry) → restored_behind read fits (Some (log ++ x ∷ [])) rs ≡ Some all → Adds (log ++ x ∷ []) rs all)
        → Adds log (r ∷ rs) all
    by None k goes = absurd (lost (sym (none_left rs) ∙ ap (λ o. restored_behind read fits (longer log o) rs) (sym k) ∙ e))
    by (Some x) k goes =
        let rest = goes x (ap (λ o. restored_behind read fits (longer log o) rs) (sym k) ∙ e) in
        record {
          added = x ∷ rest.added;
          whole = rest.whole ∙ append_assoc log (x ∷ []) rest.added;
          count = ap suc rest.count;
          front = fronts x k rest;
        }

pub fronts_lem : FrontsRestore
fronts_lem read fits rs log e =
    let all = adds read fits [] rs log e in
    record { count = ap length all.whole ∙ all.count; front = λ n. all.front n ∙ ap (λ l. Some (take n l)) (sym all.whole) }
