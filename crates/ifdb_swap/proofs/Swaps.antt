-- What a database's name has, once its disk was taken and something given back.
use Rattle.std.proofs.Common.{◌≡◌, ◌≢◌, inl, inr, ℕ, true, List, ◌∙◌, sym, subst}
use Rattle.std.specs.Prelude.{Option, Some, None}
use Rattle.ifdb_disk.specs.Clock.{Clock}
use Rattle.ifdb_folder.specs.declared.named.Named.{Named}
use Rattle.ifdb_folder.specs.Folders.{Gives, GivesBoth, MayReplace, Replaces, Takes, with_disk}
use Rattle.ifdb_reopen.specs.Files.{IsTold, IsUnopened}
use Rattle.ifdb_extract.specs.Texts.{Extracted}
use Rattle.ifdb_compact.specs.Compacted.{CompactedTextsRestore}
use Rattle.ifdb_reopen.proofs.Restarts.{same_some}
use Rattle.ifdb_swap.specs.Swapped.{HasLog, HoldsFileOf, IsExtractIn, IsKept, IsOtherOn}
use Rattle.ifdb_swap.specs.Folders.{HasDisk, IsCausedBy, Keeps, KeepsOrSwaps, MayHave, OfName, SparesOthers, Swaps}
use Rattle.ifdb_swap.proofs.Files.{file_compacted, kept_here}
use Rattle.ifdb_swap.proofs.Names.{disk_kept, disk_there, has_name, named, same_names}

module _ {D : Type 0} where
  -- ---- what was taken

  -- a told folder tells which disk was taken
  pub taken_is : (name : List ℕ) (t u : Option (List (Named D))) (disk d : D) → Takes name d t u → HasDisk name t disk → d ≡ disk
  taken_is name None u disk d takes has = absurd has
  taken_is name (Some disks) u disk d takes has = same_some d disk (sym takes.0 ∙ has)

  pub taken_may : (name : List ℕ) (t u : Option (List (Named D))) (d : D) → Takes name d t u → MayHave name t d
  taken_may name None u d takes = tt
  taken_may name (Some disks) u d takes = takes.0

  -- another name's disk is there before as behind
  pub other_has : (name other : List ℕ) (t u : Option (List (Named D))) (d disk : D) → name ≢ other → Takes name d t u → HasDisk other t disk → HasDisk other u disk
  other_has name other None u d disk apart takes has = absurd has
  other_has name other (Some disks) u d disk apart takes has = subst (λ t. HasDisk other t disk) (sym takes.1) (disk_kept other name None disks apart ∙ has)

  pub other_may : (name other : List ℕ) (t u v : Option (List (Named D))) (d e : D) → name ≢ other → Takes name d t u → Takes other e u v → MayHave other t e
  other_may name other None u v d e apart first second = tt
  other_may name other (Some disks) u v d e apart first second =
      let more : Takes other e (Some (with_disk name None disks)) v = subst (λ t. Takes other e t v) first.1 second in
      sym (disk_kept other name None disks apart) ∙ more.0

  -- ---- what was given back

  given_has : (name : List ℕ) (t u v : Option (List (Named D))) (disk d e : D) → HasDisk name t disk → Takes name d t u → Gives name e u v → HasDisk name v e
  given_has name None u v disk d e has takes gives = absurd has
  given_has name (Some disks) u v disk d e has takes gives =
      let there = same_names name name None disks ∙ named name disks disk has in
      let given : Gives name e (Some (with_disk name None disks)) v = subst (λ t. Gives name e t v) takes.1 gives in
      subst (λ t. HasDisk name t e) (sym given) (disk_there name (Some e) (with_disk name None disks) there)

  pub given_may : (name : List ℕ) (t u v : Option (List (Named D))) (d e : D) → Takes name d t u → Gives name e u v → MayHave name v e
  given_may name None u v d e takes gives =
      let given : Gives name e None v = subst (λ t. Gives name e t v) takes gives in
      subst (λ t. MayHave name t e) (sym given) tt
  given_may name (Some disks) u v d e takes gives =
      let there = same_names name name None disks ∙ named name disks d takes.0 in
      let given : Gives name e (Some (with_disk name None disks)) v = subst (λ t. Gives name e t v) takes.1 gives in
      subst (λ t. MayHave name t e) (sym given) (disk_there name (Some e) (with_disk name None disks) there)

  -- of two disks that were taken
  both_taken : (name spare : List ℕ) (disks : List (Named D)) (u v : Option (List (Named D))) (d e : D) → Takes name d (Some disks) u → Takes spare e u v → v ≡ Some (with_disk spare None (with_disk name None disks))
  both_taken name spare disks u v d e first second =
      let more : Takes spare e (Some (with_disk name None disks)) v = subst (λ t. Takes spare e t v) first.1 second in
      more.1

  both_named : (one name spare : List ℕ) (disks : List (Named D)) → has_name one disks ≡ true → has_name one (with_disk spare None (with_disk name None disks)) ≡ true
  both_named one name spare disks there = same_names one spare None (with_disk name None disks) ∙ same_names one name None disks ∙ there

  both_has : (name spare : List ℕ) (t u v w : Option (List (Named D))) (disk d e d' e' : D) → HasDisk name t disk → Takes name d t u → Takes spare e u v → GivesBoth spare e' name d' v w → HasDisk name w d'
  both_has name spare None u v w disk d e d' e' has first second gives = absurd has
  both_has name spare (Some disks) u v w disk d e d' e' has first second gives =
      let x = with_disk spare None (with_disk name None disks) in
      let given : GivesBoth spare e' name d' (Some x) w = subst (λ t. GivesBoth spare e' name d' t w) (both_taken name spare disks u v d e first second) gives in
      let there = same_names name spare (Some e') x ∙ both_named name name spare disks (named name disks disk has) in
      subst (λ t. HasDisk name t d') (sym given) (disk_there name (Some d') (with_disk spare (Some e') x) there)

  pub spare_may : (name spare : List ℕ) (t u v w : Option (List (Named D))) (d e d' e' : D) → name ≢ spare → Takes name d t u → Takes spare e u v → GivesBoth spare e' name d' v w → MayHave spare w e'
  spare_may name spare None u v w d e d' e' apart first second gives =
      let more : Takes spare e None v = subst (λ t. Takes spare e t v) first second in
      let given : GivesBoth spare e' name d' None w = subst (λ t. GivesBoth spare e' name d' t w) more gives in
      subst (λ t. MayHave spare t e') (sym given) tt
  spare_may name spare (Some disks) u v w d e d' e' apart first second gives =
      let x = with_disk spare None (with_disk name None disks) in
      let given : GivesBoth spare e' name d' (Some x) w = subst (λ t. GivesBoth spare e' name d' t w) (both_taken name spare disks u v d e first second) gives in
      let more : Takes spare e (Some (with_disk name None disks)) v = subst (λ t. Takes spare e t v) first.1 second in
      let there = same_names spare spare None (with_disk name None disks) ∙ named spare (with_disk name None disks) e more.0 in
      subst (λ t. MayHave spare t e') (sym given) (disk_kept spare name (Some d') (with_disk spare (Some e') x) apart ∙ disk_there spare (Some e') x there)

  -- where the folder tells which disk the spare name had, it tells which it has
  spare_has : (name spare : List ℕ) (t u v w : Option (List (Named D))) (disk d e d' e' : D) → name ≢ spare → HasDisk spare t disk → Takes name d t u → Takes spare e u v → GivesBoth spare e' name d' v w → HasDisk spare w e'
  spare_has name spare None u v w disk d e d' e' apart has first second gives = absurd has
  spare_has name spare (Some disks) u v w disk d e d' e' apart has first second gives =
      let x = with_disk spare None (with_disk name None disks) in
      let given : GivesBoth spare e' name d' (Some x) w = subst (λ t. GivesBoth spare e' name d' t w) (both_taken name spare disks u v d e first second) gives in
      let there = same_names spare spare None (with_disk name None disks) ∙ same_names spare name None disks ∙ named spare disks disk has in
      subst (λ t. HasDisk spare t e') (sym given) (disk_kept spare name (Some d') (with_disk spare (Some e') x) apart ∙ disk_there spare (Some e') x there)

  -- another name's disk stays where one is given back
  given_aside : (name other : List ℕ) (u v : Option (List (Named D))) (disk e : D) → name ≢ other → HasDisk other u disk → Gives name e u v → HasDisk other v disk
  given_aside name other None v disk e apart has gives = absurd has
  given_aside name other (Some disks) v disk e apart has gives = subst (λ t. HasDisk other t disk) (sym gives) (disk_kept other name (Some e) disks apart ∙ has)

  new_has : (name spare : List ℕ) (t u v w : Option (List (Named D))) (disk d e e' : D) → HasDisk name t disk → Takes name d t u → Takes spare e u v → Replaces spare e' name v w → HasDisk name w e'
  new_has name spare None u v w disk d e e' has first second swaps = absurd has
  new_has name spare (Some disks) u v w disk d e e' has first second swaps =
      let x = with_disk spare None (with_disk name None disks) in
      let more : Replaces spare e' name (Some x) w = subst (λ t. Replaces spare e' name t w) (both_taken name spare disks u v d e first second) swaps in
      let there = same_names name spare None x ∙ both_named name name spare disks (named name disks disk has) in
      subst (λ t. HasDisk name t e') (sym more) (disk_there name (Some e') (with_disk spare None x) there)

  module _ (tells : D → Option Clock) where
    -- ---- what is so of the disk that was taken

    pub of_taken : (name : List ℕ) (t u : Option (List (Named D))) (d : D) (P : Option Clock → Type 0) → Takes name d t u → P (tells d) → OfName tells name t P
    of_taken name t u d P takes so = λ disk has. subst (λ x. P (tells x)) (taken_is name t u disk d takes has) so

    pub of_other : (name spare : List ℕ) (t u v : Option (List (Named D))) (d e : D) (P : Option Clock → Type 0) → name ≢ spare → Takes name d t u → Takes spare e u v → P (tells e) → OfName tells spare t P
    of_other name spare t u v d e P apart first second so = λ disk has.
        subst (λ x. P (tells x)) (taken_is spare u v disk e second (other_has name spare t u d disk apart first has)) so

    -- ---- the database

    pub none_taken : (name : List ℕ) (t u : Option (List (Named D))) → u ≡ t → Keeps tells name t u
    none_taken name t u same = λ disk has. (disk, subst (λ x. HasDisk name x disk) (sym same) has, kept_here (tells disk))

    pub one_back : (name : List ℕ) (t u v : Option (List (Named D))) (d e : D) → Takes name d t u → Gives name e u v → IsKept (tells d) (tells e) → Keeps tells name t v
    one_back name t u v d e takes gives kept = λ disk has.
        (e, given_has name t u v disk d e has takes gives, subst (λ x. IsKept (tells x) (tells e)) (taken_is name t u disk d takes has) kept)

    pub both_back : (name spare : List ℕ) (t u v w : Option (List (Named D))) (d e d' e' : D) → Takes name d t u → Takes spare e u v → GivesBoth spare e' name d' v w → IsKept (tells d) (tells d') → Keeps tells name t w
    both_back name spare t u v w d e d' e' first second gives kept = λ disk has.
        (d', both_has name spare t u v w disk d e d' e' has first second gives, subst (λ x. IsKept (tells x) (tells d')) (taken_is name t u disk d first has) kept)

    told_spare : (name spare : List ℕ) (t u v : Option (List (Named D))) (disk d e : D) → name ≢ spare → HasDisk name t disk → Takes name d t u → Takes spare e u v → OfName tells spare t IsTold → IsTold (tells e)
    told_spare name spare None u v disk d e apart has first second told = absurd has
    told_spare name spare (Some disks) u v disk d e apart has first second told = told e (other_may name spare (Some disks) u v d e apart first second)

    pub swapped : CompactedTextsRestore → (name spare : List ℕ) (t u v w : Option (List (Named D))) (d e d' e' : D) (x : Extracted) → name ≢ spare → Takes name d t u → Takes spare e u v → Replaces spare e' name v w
        → IsKept (tells d) (tells d') → IsExtractIn (tells d) x → (IsTold (tells e) → HoldsFileOf (tells e') x) → Swaps tells name spare t w
    swapped restores name spare t u v w d e d' e' x apart first second swaps kept extract written = λ disk has told spare_told.
        let same = taken_is name t u disk d first has in
        let found = extract (subst (λ y. IsTold (tells y)) (sym same) told) in (
          d',
          e',
          new_has name spare t u v w disk d e e' has first second swaps,
          record {
            log = found.0;
            held = subst (λ y. HasLog (tells y) found.0) same found.1;
            kept = subst (λ y. IsKept (tells y) (tells d')) same kept;
            compacted = file_compacted restores (tells e') x found.0 found.2 (written (told_spare name spare t u v disk d e apart has first second spare_told));
          },
        )

    pub not_swapped : CompactedTextsRestore → (name spare : List ℕ) (t u v w : Option (List (Named D))) (d e d' e' : D) (x : Extracted) → name ≢ spare → Takes name d t u → Takes spare e u v → MayReplace spare e' name d' v w
        → IsKept (tells d) (tells d') → IsExtractIn (tells d) x → (IsTold (tells e) → HoldsFileOf (tells e') x) → KeepsOrSwaps tells name spare t w
    not_swapped restores name spare t u v w d e d' e' x apart first second (inl gives) kept extract written = inl (both_back name spare t u v w d e d' e' first second gives kept)
    not_swapped restores name spare t u v w d e d' e' x apart first second (inr swaps) kept extract written = inr (swapped restores name spare t u v w d e d' e' x apart first second swaps kept extract written)

    -- ---- the file of the spare name, where it is another

    pub others_here : (spare : List ℕ) (t u : Option (List (Named D))) → u ≡ t → SparesOthers tells spare t u
    others_here spare t u same = λ disk has other. (disk, subst (λ x. HasDisk spare x disk) (sym same) has, (kept_here (tells disk)).unopened)

    pub others_aside : (name spare : List ℕ) (t u v : Option (List (Named D))) (d e : D) → name ≢ spare → Takes name d t u → Gives name e u v → SparesOthers tells spare t v
    others_aside name spare t u v d e apart takes gives = λ disk has other.
        (disk, given_aside name spare u v disk e apart (other_has name spare t u d disk apart takes has) gives, (kept_here (tells disk)).unopened)

    pub others_back : (name spare : List ℕ) (t u v w : Option (List (Named D))) (d e d' e' : D) → name ≢ spare → Takes name d t u → Takes spare e u v → GivesBoth spare e' name d' v w
        → (IsOtherOn (tells e) → IsUnopened (tells e) (tells e')) → SparesOthers tells spare t w
    others_back name spare t u v w d e d' e' apart first second gives spared = λ disk has other.
        let same = taken_is spare u v disk e second (other_has name spare t u d disk apart first has) in (
          e',
          spare_has name spare t u v w disk d e d' e' apart has first second gives,
          subst (λ x. IsUnopened (tells x) (tells e')) same (spared (subst (λ x. IsOtherOn (tells x)) (sym same) other)),
        )

    pub others_none : (name spare : List ℕ) (t u v w : Option (List (Named D))) (d e : D) → name ≢ spare → Takes name d t u → Takes spare e u v → (IsOtherOn (tells e) → ⊥) → SparesOthers tells spare t w
    others_none name spare t u v w d e apart first second own = λ disk has other.
        absurd (own (subst (λ x. IsOtherOn (tells x)) (sym (taken_is spare u v disk e second (other_has name spare t u d disk apart first has))) other))

  module _ (faults : D → ℕ) where
    -- ---- whose fault it is

    pub caused_one : (name : List ℕ) (t u v : Option (List (Named D))) (d e : D) (Caused : ℕ → ℕ → Type 0) → Takes name d t u → Gives name e u v → Caused (faults d) (faults e) → IsCausedBy faults name t v Caused
    caused_one name t u v d e Caused takes gives cause = (d, e, taken_may name t u d takes, given_may name t u v d e takes gives, cause)

    pub caused_spare : (name spare : List ℕ) (t u v w : Option (List (Named D))) (d e d' e' : D) (Caused : ℕ → ℕ → Type 0) → name ≢ spare → Takes name d t u → Takes spare e u v → GivesBoth spare e' name d' v w
        → Caused (faults e) (faults e') → IsCausedBy faults spare t w Caused
    caused_spare name spare t u v w d e d' e' Caused apart first second gives cause =
        (e, e', other_may name spare t u v d e apart first second, spare_may name spare t u v w d e d' e' apart first second gives, cause)
