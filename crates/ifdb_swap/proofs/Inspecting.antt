-- How an inspection ended, from what was taken and given back.
use Rattle.std.proofs.Common.{◌≡◌, ◌≤◌, ℕ, List, Ok, Err, arith, subst, sym}
use Rattle.std.specs.Prelude.{Option}
use Rattle.ifdb_io.specs.Causes.{Rose}
use Rattle.ifdb_disk.specs.Clock.{Clock, Now}
use Rattle.ifdb_extract.specs.Texts.{Extracted}
use Rattle.ifdb_folder.specs.declared.named.Named.{Named}
use Rattle.ifdb_folder.specs.Folders.{Gives, Takes}
use Rattle.ifdb_log.specs.Title.{IsOther}
use Rattle.ifdb_log.specs.declared.fault.LogFault.{LogFault}
use Rattle.ifdb_log.specs.declared.fault.LogFault.TheVariants as log_fault
use Rattle.ifdb_reopen.specs.Causes.{IsCaused}
use Rattle.ifdb_swap.specs.Inspections.{ComesTo, Counts, Inspects}
use Rattle.ifdb_swap.specs.Swapped.{HasNoLog, IsExtractIn, IsKept}
use Rattle.ifdb_swap.specs.declared.inspection.InspectFault.TheVariants as fault
use Rattle.ifdb_swap.specs.declared.inspection.Inspection.{Inspection}
use Rattle.ifdb_swap.proofs.Swaps.{caused_one, none_taken, of_taken, one_back}

-- what an extract has is what its log comes to
comes_to : (t : Option Clock) (x : Extracted) (i : Inspection) → IsExtractIn t x → Counts x i → ComesTo i t
comes_to t x i extract counts = λ told. let found = extract told in (found.0, x, found.1, found.2, counts)

module _ {D : Type 0} (tells : D → Option Clock) (faults : D → ℕ) (name : List ℕ) where
  pub not_given : (t u : Option (List (Named D))) (m n : ℕ) → u ≡ t → m ≤ n → Rose m n → Inspects tells faults name t u m n (Err fault.Folder)
  not_given t u m n same later rose = record {
    kept = none_taken tells name t u same;
    told = tt;
    damaged = λ at e. absurd (cc e);
    other = λ e. absurd (cc e);
    cause = (later, rose);
    later = later;
  }

  module _ (t u v : Option (List (Named D))) (m n : ℕ) (d d' : D) (first : Takes name d t u) (gives : Gives name d' u v) (kept : IsKept (tells d) (tells d')) (calm : n ≡ m) where
    pub inspected : (x : Extracted) (i : Inspection) → IsExtractIn (tells d) x → Counts x i → Inspects tells faults name t v m n (Ok i)
    inspected x i extract counts = record {
      kept = one_back tells name t u v d d' first gives kept;
      told = of_taken tells name t u d (ComesTo i) first (comes_to (tells d) x i extract counts);
      damaged = λ at e. absurd (cc e);
      other = λ e. absurd (cc e);
      cause = calm;
      later = omega (arith, calm);
    }

    pub not_read : (f : LogFault) → IsCaused (faults d) (faults d') f → ((at : ℕ) → f ≡ log_fault.Damaged at → HasNoLog (tells d)) → (f ≡ log_fault.NotALog → Now (tells d) (λ s. IsOther s.bytes))
        → Inspects tells faults name t v m n (Err (fault.Read f))
    not_read f cause damaged other = record {
      kept = one_back tells name t u v d d' first gives kept;
      told = tt;
      damaged = λ at e. of_taken tells name t u d HasNoLog first (damaged at (cc e));
      other = λ e. of_taken tells name t u d (λ o. Now o (λ s. IsOther s.bytes)) first (other (cc e));
      cause = (calm, caused_one faults name t u v d d' (λ a b. IsCaused a b f) first gives cause);
      later = omega (arith, calm);
    }
