-- Texts restore what the records restore that they are read as.
use Rattle.std.proofs.Common.{◌≡◌, ℕ, ◌+◌, List, [], ◌∷◌, ◌++◌, ◌∙◌, length, map, take, refl, sym, ap, Option, Some}
use Rattle.std.proofs.Math.Seq.{take-append-add}
use Rattle.std.proofs.lemmas.List.{length-append, length-map, map-append, take-map}
use Rattle.ifdb_redo.specs.declared.record.RedoRecord.{RedoRecord}
use Rattle.ifdb_redo.specs.Reading.{record_of}
use Rattle.ifdb_model.specs.Log.{Entry}
use Rattle.ifdb_model.specs.Run.{opening, run}
use Rattle.ifdb_restore.specs.Fronts.{FrontsRestore}
use Rattle.ifdb_restore.specs.Passing.{commit_fits, RunsAreRestored}
use Rattle.ifdb_restore.specs.Redone.{grown, records, restored, restored_behind}
use Rattle.ifdb_db.specs.Reading.{read_line}
use Rattle.ifdb_db.specs.Redoing.{closed_state}
use Rattle.ifdb_restart.specs.Restarted.{with_record, log_behind, log_of}
use Rattle.ifdb_restart.specs.Laws.{AreTextsOf, FirstTextsAddAFront, FirstTextsRestoreAFront}
use Rattle.ifdb_restart.proofs.FitStates.{run_restored}
use Rattle.ifdb_restart.proofs.FitLogs.{restored_fit, restored_read}

pub restored_texts : (log : Option (List Entry)) (texts : List (List ℕ)) (rs : List RedoRecord) → AreTextsOf texts rs → log_behind log texts ≡ restored_behind read_line commit_fits log rs
restored_texts log [] [] e = refl
restored_texts log [] (r ∷ rs) e = cc
restored_texts log (text ∷ texts) [] e = cc
restored_texts log (text ∷ texts) (r ∷ rs) e =
    let first : record_of text ≡ Some r = cc in
    let rest : map record_of texts ≡ map Some rs = cc in
    ap (λ o. log_behind (with_record log o) texts) first ∙ restored_texts (grown read_line commit_fits log r) texts rs rest

-- the first of them restore what the first records do
front_of : (texts : List (List ℕ)) (rs : List RedoRecord) (n : ℕ) → AreTextsOf texts rs → AreTextsOf (take n texts) (take n rs)
front_of texts rs n e = sym (take-map record_of n texts) ∙ ap (take n) e ∙ take-map Some n rs

pub first_texts : RunsAreRestored → FrontsRestore → FirstTextsRestoreAFront
first_texts runs fronts steps texts n e =
    let rs = records read_line opening steps in
    restored_texts (Some []) (take n texts) (take n rs) (front_of texts rs n e)
    ∙ (fronts read_line commit_fits rs (run read_line opening steps).log (runs read_line steps).log).front n

-- ---- behind a log

both : (texts more : List (List ℕ)) (rs ss : List RedoRecord) → AreTextsOf texts rs → AreTextsOf more ss → AreTextsOf (texts ++ more) (rs ++ ss)
both texts more rs ss e f = map-append record_of texts more ∙ (λ i. e i ++ f i) ∙ sym (map-append Some rs ss)

-- one more text
pub with_text : (texts : List (List ℕ)) (rs : List RedoRecord) (text : List ℕ) (r : RedoRecord) → AreTextsOf texts rs → record_of text ≡ Some r → AreTextsOf (texts ++ text ∷ []) (rs ++ r ∷ [])
with_text texts rs text r e f = both texts (text ∷ []) rs (r ∷ []) e (λ i. f i ∷ [])

pub behind_both : (o : Option (List Entry)) (rs ss : List RedoRecord) → restored_behind read_line commit_fits o (rs ++ ss) ≡ restored_behind read_line commit_fits (restored_behind read_line commit_fits o rs) ss
behind_both o [] ss = refl
behind_both o (r ∷ rs) ss = behind_both (grown read_line commit_fits o r) rs ss

pub further_texts : FrontsRestore → FirstTextsAddAFront
further_texts fronts before first steps texts restores e = record { count = count; front = front } where
  rs : List RedoRecord
  rs = records read_line (closed_state first) steps

  all : List Entry
  all = (run read_line (closed_state first) steps).log

  old : (ss : List RedoRecord) × AreTextsOf before ss
  old = restored_read before (Some []) first restores

  begun : restored read_line commit_fits [] old.0 ≡ Some first
  begun = sym (restored_texts (Some []) before old.0 old.1) ∙ restores

  same : length first ≡ length old.0
  same = (fronts read_line commit_fits old.0 first begun).count

  whole : restored read_line commit_fits [] (old.0 ++ rs) ≡ Some all
  whole = behind_both (Some []) old.0 rs ∙ ap (λ o. restored_behind read_line commit_fits o rs) begun ∙ run_restored read_line (closed_state first) (restored_fit before first restores) steps

  each : length texts ≡ length rs
  each = sym (length-map texts record_of) ∙ ap length e ∙ length-map rs Some

  count : length all ≡ length first + length texts
  count = (fronts read_line commit_fits (old.0 ++ rs) all whole).count ∙ length-append old.0 rs ∙ sym (λ i. same i + each i)

  front : (n : ℕ) → log_of (before ++ take n texts) ≡ Some (take (length first + n) all)
  front n =
      restored_texts (Some []) (before ++ take n texts) (old.0 ++ take n rs) (both before (take n texts) old.0 (take n rs) old.1 (front_of texts rs n e))
      ∙ ap (λ l. restored read_line commit_fits [] l) (sym (take-append-add old.0 rs n))
      ∙ (fronts read_line commit_fits (old.0 ++ rs) all whole).front (length old.0 + n)
      ∙ ap (λ k. Some (take (k + n) all)) (sym same)
