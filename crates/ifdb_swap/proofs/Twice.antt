-- A log that is made again, and then read a second time.
use Rattle.std.proofs.Common.{◌≡◌, ◌⊎◌, inl, inr, ℕ, List, subst}
use Rattle.std.specs.Prelude.{Option, Some, None}
use Rattle.ifdb_disk.specs.Images.{IsImage, settled}
use Rattle.ifdb_disk.specs.Clock.{Clock, Leaves, Now}
use Rattle.ifdb_journal.specs.Reading.{IsOldOrShort, SpellsSame}
use Rattle.ifdb_log.specs.Behind.{Fronted, behind}
use Rattle.ifdb_log.specs.Reading.{DamagedHasNoTexts, IsDamaged}
use Rattle.ifdb_log.specs.Title.{IsLog, IsSettled}
use Rattle.ifdb_model.specs.Log.{Entry}
use Rattle.ifdb_extract.specs.Texts.{Extracted, HasBrokenAt, IsExtractOf}
use Rattle.ifdb_reopen.specs.Files.{IsOldOrBare, IsTold, ShowsLog}
use Rattle.ifdb_swap.specs.Swapped.{HasLog, HasNoLog, IsExtractIn, IsKept}
use Rattle.ifdb_swap.proofs.Damage.{read_whole}
use Rattle.ifdb_swap.proofs.Files.{file_before, kept_bare, kept_on, read_extract, read_leaves}

synced_now : (t : Option Clock) (texts : List (List ℕ)) (log : List Entry) → ShowsLog t texts log → Now t (λ s. s ≡ settled s.bytes)
synced_now None texts log shows = tt
synced_now (Some c) texts log shows = shows.0

titled_now : (t : Option Clock) (texts : List (List ℕ)) (log : List Entry) → ShowsLog t texts log → IsSettled IsLog t
titled_now None texts log shows = tt
titled_now (Some c) texts log shows = (shows.0, shows.1.titled)

told_log : (t : Option Clock) (log : List Entry) → HasLog t log → IsTold t
told_log None log (inl file) = absurd file.1
told_log None log (inr new) = absurd new.0
told_log (Some c) log has = tt

-- nothing is said of a disk that doesn't tell what it holds
kept_untold : (t u : Option Clock) → (IsTold t → IsKept t u) → IsKept t u
kept_untold None u kept = record { unopened = tt; file = λ texts log shows. absurd shows }
kept_untold (Some c) u kept = kept tt

-- what is known of a disk that began with the title, when the log was made again, with a front of n bytes
pub record IsMadeAgain (n : ℕ) (begun t : Option Clock) (made : List Entry) : Type 0 where
  pub before : Now begun (λ s. IsImage s s.bytes)
  pub present : Now t (λ s. IsImage s s.bytes)
  pub titled : IsSettled IsLog begun
  pub fronted : Fronted n begun t
  pub shows : IsTold begun → (n ≡ 16) × ((texts : List (List ℕ)) × ShowsLog t texts made)
  pub moments : Leaves begun t (IsOldOrBare begun)

-- and then it was read again, and has a front of m bytes
module _ (n m : ℕ) (begun t u : Option Clock) (made : List Entry) (k : IsMadeAgain n begun t made) (last : Fronted m begun u) (read : Leaves (behind n t) (behind m u) (IsOldOrShort (behind n t))) where
  read_16 : n ≡ 16 → Leaves (behind 16 t) (behind m u) (IsOldOrShort (behind 16 t))
  read_16 is = subst (λ j. Leaves (behind j t) (behind m u) (IsOldOrShort (behind j t))) is read

  same_16 : n ≡ 16 → SpellsSame (behind n t) (behind m u) → SpellsSame (behind 16 t) (behind m u)
  same_16 is same = subst (λ j. SpellsSame (behind j t) (behind m u)) is same

  pub twice_kept : IsKept begun u
  twice_kept = kept_untold begun u kept where
    kept : IsTold begun → IsKept begun u
    kept told =
        let s = k.shows told in
        let first : Fronted 16 begun t = subst (λ j. Fronted j begun t) s.0 k.fronted in
        kept_on begun t u k.before k.present k.titled (titled_now t s.1.0 made s.1.1) (kept_bare begun t k.before k.titled k.moments)
        (read_leaves m begun t u k.titled first last (synced_now t s.1.0 made s.1.1) (read_16 s.0) told)

  pub twice_extract : (x : Extracted) → SpellsSame (behind n t) (behind m u) → IsExtractOf (behind m u) x → IsExtractIn begun x
  twice_extract x same found = λ told.
      let s = k.shows told in
      (made, inl (s.1.0, file_before begun t s.1.0 made k.titled k.present k.moments told s.1.1), read_extract m t u s.1.0 made x s.1.1 (read_16 s.0) (same_16 s.0 same) found)

  pub twice_whole : DamagedHasNoTexts → (at : ℕ) → SpellsSame (behind n t) (behind m u) → IsDamaged (behind m u) at ⊎ HasBrokenAt (behind m u) at → HasNoLog begun
  twice_whole law at same found = λ log has.
      let s = k.shows (told_log begun log has) in
      read_whole law m t u s.1.0 made at s.1.1 (read_16 s.0) (same_16 s.0 same) found
