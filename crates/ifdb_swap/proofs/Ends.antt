-- How a compaction ended, from what was taken and given back.
use Rattle.std.proofs.Common.{◌≡◌, ◌≢◌, ◌≤◌, inl, ℕ, true, false, List, Ok, Err, arith}
use Rattle.std.specs.Prelude.{Option}
use Rattle.ifdb_io.specs.Causes.{Rose}
use Rattle.ifdb_disk.specs.Clock.{Clock, Now}
use Rattle.ifdb_folder.specs.declared.named.Named.{Named}
use Rattle.ifdb_folder.specs.Folders.{Gives, GivesBoth, MayReplace, Replaces, Takes}
use Rattle.ifdb_log.specs.Title.{IsOther}
use Rattle.ifdb_log.specs.declared.fault.LogFault.{LogFault}
use Rattle.ifdb_log.specs.declared.fault.LogFault.TheVariants as log_fault
use Rattle.ifdb_compact.specs.Compacted.{CompactedTextsRestore}
use Rattle.ifdb_extract.specs.Texts.{Extracted}
use Rattle.ifdb_reopen.specs.Causes.{IsCaused}
use Rattle.ifdb_reopen.specs.Files.{IsTold, IsUnopened}
use Rattle.ifdb_swap.specs.Causes.{IsSpareCaused}
use Rattle.ifdb_swap.specs.Swapped.{HasNoLog, HoldsFileOf, IsExtractIn, IsKept, IsOtherOn, IsUnneeded, IsWorth}
use Rattle.ifdb_swap.specs.Folders.{Compacts}
use Rattle.ifdb_swap.specs.declared.fault.CompactFault.TheVariants as fault
use Rattle.ifdb_swap.specs.declared.fault.SpareFault.{SpareFault}
use Rattle.ifdb_swap.specs.declared.fault.SpareFault.TheVariants as spare_fault
use Rattle.ifdb_swap.specs.declared.when.When.{When}
use Rattle.ifdb_swap.specs.declared.when.When.TheVariants as when
use Rattle.ifdb_swap.proofs.Swaps.{both_back, caused_one, caused_spare, none_taken, not_swapped, of_other, of_taken, one_back, others_aside, others_back, others_here, others_none, swapped}

module _ {D : Type 0} (tells : D → Option Clock) (faults : D → ℕ) (wish : When) (name spare : List ℕ) (apart : name ≢ spare) where
  -- ---- the database's disk wasn't given, or was given back

  pub not_taken : (t u : Option (List (Named D))) (m n : ℕ) → u ≡ t → m ≤ n → Rose m n → Compacts tells faults wish name spare t u m n (Err fault.Folder)
  not_taken t u m n same later rose = record {
    database = inl (none_taken tells name t u same);
    needed = λ e. absurd (cc e);
    asked = λ e. absurd (cc e);
    unneeded = λ e. absurd (cc e);
    damaged = λ at e. absurd (cc e);
    other = λ e. absurd (cc e);
    taken = λ e. absurd (cc e);
    others = others_here tells spare t u same;
    cause = (later, rose);
    later = later;
  }

  module _ (t u v : Option (List (Named D))) (m n : ℕ) (d d' : D) (first : Takes name d t u) (gives : Gives name d' u v) (kept : IsKept (tells d) (tells d')) where
    pub unneeded_back : n ≡ m → wish ≡ when.IfWorth → IsUnneeded (tells d) → Compacts tells faults wish name spare t v m n (Ok false)
    unneeded_back calm asked unneeded = record {
      database = one_back tells name t u v d d' first gives kept;
      needed = λ e. absurd (cc e);
      asked = λ e. asked;
      unneeded = λ e. of_taken tells name t u d IsUnneeded first unneeded;
      damaged = λ at e. absurd (cc e);
      other = λ e. absurd (cc e);
      taken = λ e. absurd (cc e);
      others = others_aside tells name spare t u v d d' apart first gives;
      cause = calm;
      later = omega (arith, calm);
    }

    pub unread_back : (f : LogFault) → n ≡ m → IsCaused (faults d) (faults d') f → ((at : ℕ) → f ≡ log_fault.Damaged at → HasNoLog (tells d)) → (f ≡ log_fault.NotALog → Now (tells d) (λ s. IsOther s.bytes))
        → Compacts tells faults wish name spare t v m n (Err (fault.Read f))
    unread_back f calm cause damaged other = record {
      database = one_back tells name t u v d d' first gives kept;
      needed = λ e. absurd (cc e);
      asked = λ e. absurd (cc e);
      unneeded = λ e. absurd (cc e);
      damaged = λ at e. of_taken tells name t u d HasNoLog first (damaged at (cc e));
      other = λ e. of_taken tells name t u d (λ o. Now o (λ s. IsOther s.bytes)) first (other (cc e));
      taken = λ e. absurd (cc e);
      others = others_aside tells name spare t u v d d' apart first gives;
      cause = (calm, caused_one faults name t u v d d' (λ a b. IsCaused a b f) first gives cause);
      later = omega (arith, calm);
    }

    pub spare_not_taken : m ≤ n → Rose m n → Compacts tells faults wish name spare t v m n (Err fault.Folder)
    spare_not_taken later rose = record {
      database = inl (one_back tells name t u v d d' first gives kept);
      needed = λ e. absurd (cc e);
      asked = λ e. absurd (cc e);
      unneeded = λ e. absurd (cc e);
      damaged = λ at e. absurd (cc e);
      other = λ e. absurd (cc e);
      taken = λ e. absurd (cc e);
      others = others_aside tells name spare t u v d d' apart first gives;
      cause = (later, rose);
      later = later;
    }

  -- ---- both disks were taken

  module _ (t u v w : Option (List (Named D))) (m n : ℕ) (d e d' e' : D) (first : Takes name d t u) (second : Takes spare e u v) (kept : IsKept (tells d) (tells d')) where
    pub unwritten_back : (f : SpareFault) → GivesBoth spare e' name d' v w → n ≡ m → IsSpareCaused (faults e) (faults e') f → (f ≡ spare_fault.NotALog → Now (tells e) (λ s. IsOther s.bytes))
        → (IsOtherOn (tells e) → IsUnopened (tells e) (tells e')) → Compacts tells faults wish name spare t w m n (Err (fault.Write f))
    unwritten_back f gives calm cause taken spared = record {
      database = both_back tells name spare t u v w d e d' e' first second gives kept;
      needed = λ i. absurd (cc i);
      asked = λ i. absurd (cc i);
      unneeded = λ i. absurd (cc i);
      damaged = λ at i. absurd (cc i);
      other = λ i. absurd (cc i);
      taken = λ i. of_other tells name spare t u v d e (λ o. Now o (λ s. IsOther s.bytes)) apart first second (taken (cc i));
      others = others_back tells name spare t u v w d e d' e' apart first second gives spared;
      cause = (calm, caused_spare faults name spare t u v w d e d' e' (λ a b. IsSpareCaused a b f) apart first second gives cause);
      later = omega (arith, calm);
    }

    module _ (restores : CompactedTextsRestore) (x : Extracted) (extract : IsExtractIn (tells d) x) (written : IsTold (tells e) → HoldsFileOf (tells e') x) (own : IsOtherOn (tells e) → ⊥) where
      pub compacted : Replaces spare e' name v w → n ≡ m → (wish ≡ when.IfWorth → IsWorth true (tells d)) → Compacts tells faults wish name spare t w m n (Ok true)
      compacted swaps calm worth = record {
        database = swapped tells restores name spare t u v w d e d' e' x apart first second swaps kept extract written;
        needed = λ i wished. of_taken tells name t u d (IsWorth true) first (worth wished);
        asked = λ i. absurd (cc i);
        unneeded = λ i. absurd (cc i);
        damaged = λ at i. absurd (cc i);
        other = λ i. absurd (cc i);
        taken = λ i. absurd (cc i);
        others = others_none tells name spare t u v w d e apart first second own;
        cause = calm;
        later = omega (arith, calm);
      }

      pub not_replaced : MayReplace spare e' name d' v w → m ≤ n → Rose m n → Compacts tells faults wish name spare t w m n (Err fault.Folder)
      not_replaced may later rose = record {
        database = not_swapped tells restores name spare t u v w d e d' e' x apart first second may kept extract written;
        needed = λ i. absurd (cc i);
        asked = λ i. absurd (cc i);
        unneeded = λ i. absurd (cc i);
        damaged = λ at i. absurd (cc i);
        other = λ i. absurd (cc i);
        taken = λ i. absurd (cc i);
        others = others_none tells name spare t u v w d e apart first second own;
        cause = (later, rose);
        later = later;
      }
