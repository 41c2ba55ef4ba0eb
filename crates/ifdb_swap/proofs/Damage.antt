-- The file of a log is never damaged.
use Rattle.std.proofs.Common.{◌≡◌, ◌⊎◌, inl, inr, ℕ, List, [], ◌∷◌, ◌++◌, ◌∙◌, map, drop, sym, ap}
use Rattle.std.specs.Prelude.{Option, Some, None}
use Rattle.ifdb_disk.specs.Clock.{Clock, Leaves}
use Rattle.ifdb_journal.specs.Records.{records}
use Rattle.ifdb_journal.specs.Reading.{IsOldOrShort, SpellsSame}
use Rattle.ifdb_log.specs.Behind.{behind, shown_behind}
use Rattle.ifdb_log.specs.Pieces.{texts_of}
use Rattle.ifdb_log.specs.Reading.{DamagedHasNoTexts, IsDamaged}
use Rattle.ifdb_model.specs.Log.{Entry}
use Rattle.ifdb_redo.specs.Reading.{record_of}
use Rattle.ifdb_restart.specs.Restarted.{log_behind, log_of, with_record}
use Rattle.ifdb_restart.proofs.FitLogs.{none_behind}
use Rattle.ifdb_extract.specs.Texts.{HasBrokenAt}
use Rattle.ifdb_reopen.specs.Files.{ShowsLog}
use Rattle.ifdb_reopen.proofs.Restarts.{behind_more, read_first, stood}

-- with a text that is no record no log is restored
lost : (before more : List (List ℕ)) (broken : List ℕ) → record_of broken ≡ None → log_of ((before ++ broken ∷ []) ++ more) ≡ None
lost before more broken none =
    behind_more (Some []) (before ++ broken ∷ []) more ∙ ap (λ o. log_behind o more) (behind_more (Some []) before (broken ∷ [])) ∙ ap (λ o. log_behind (with_record (log_of before) o) more) none ∙ none_behind more

pub read_whole : DamagedHasNoTexts → (n : ℕ) (t u : Option Clock) (texts : List (List ℕ)) (log : List Entry) (at : ℕ) → ShowsLog t texts log → Leaves (behind 16 t) (behind n u) (IsOldOrShort (behind 16 t))
    → SpellsSame (behind 16 t) (behind n u) → IsDamaged (behind n u) at ⊎ HasBrokenAt (behind n u) at → ⊥
read_whole law n None u texts log at shows moments same found = shows
read_whole law n (Some c) None texts log at shows moments same found = absurd moments
read_whole law n (Some c) (Some d) texts log at shows moments same found = by found where
  again : texts_of (records (drop n d.now.bytes)) ≡ Some texts
  again = ap texts_of same.0 ∙ shows.1.restores.are

  by : IsDamaged (behind n (Some d)) at ⊎ HasBrokenAt (behind n (Some d)) at → ⊥
  by (inl damaged) = cc (sym (law (drop n d.now.bytes) damaged.0 damaged.2 (same.1 ∙ shows.1.whole)) ∙ again)
  by (inr broken) =
      let first = read_first (drop n d.now.bytes) broken.read.0 broken.next.at (broken.before ++ broken.broken ∷ []) texts broken.read.2
      (stood (shown_behind n d.now) (map (shown_behind n) d.before) broken.read.0 broken.next broken.read.1) again in
      cc (sym (ap log_of first.1 ∙ lost broken.before first.0 broken.broken broken.none) ∙ shows.1.restores.is)
