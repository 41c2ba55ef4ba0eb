-- What an image with a front of the records of a history restores.
use Rattle.std.proofs.Common.{◌≡◌, ℕ, ◌+◌, ◌≤◌, List, ◌++◌, ◌∙◌, length, take, drop, sym, ap, subst, arith, length-append}
use Rattle.std.specs.Prelude.{Some, None}
use Rattle.std.specs.List.{flat_map}
use Rattle.std.proofs.Math.Seq.{drop-append_seam, take-append-add, take-append_seam}
use mathlib.Core.List.{IsPrefix}
use Rattle.ifdb_journal.specs.declared.record.Record.{Record}
use Rattle.ifdb_journal.specs.Records.{damage, records}
use Rattle.ifdb_log.specs.Pieces.{pieces, FrontsAreFirstTexts}
use Rattle.ifdb_log.specs.Title.{IsLog}
use Rattle.ifdb_log.specs.Behind.{HasBehind}
use Rattle.ifdb_turn.proofs.HistoryLemmas.{prefix_length}
use Rattle.ifdb_durable.specs.Worth.{HasFront}
use Rattle.ifdb_model.specs.Log.{Entry as LogEntry}
use Rattle.ifdb_history.specs.declared.entry.Entry.{Entry}
use Rattle.ifdb_history.specs.History.{added_in, flat}
use Rattle.ifdb_history.proofs.Logs.{log_added}
use Rattle.ifdb_restart.specs.Laws.{FirstTextsAddAFront}
use Rattle.ifdb_session.specs.Durable.{count_of}
use Rattle.ifdb_session.specs.Records.{records_of, texts_of}
use Rattle.ifdb_session.specs.Starts.{start_of}
use Rattle.ifdb_session.specs.Texts.{AreReadAgain}
use Rattle.ifdb_reopen.specs.Files.{Restore}
use Rattle.ifdb_host.specs.Fronts.{HasFrontOf}
use Rattle.ifdb_reopen.proofs.Titles.{IsTitle, title_then}

-- what stands behind the title: the texts of before and the first ones of a history, at least so many
pub record IsRestOf (before : List (List ℕ)) (first : List LogEntry) (h : List Entry) (least : ℕ) (rest : List ℕ) : Type 0 where
  pub n : ℕ
  pub enough : least ≤ n
  pub there : n ≤ length (added_in (start_of first) h)
  pub whole : damage rest ≡ None
  pub restores : Restore (records rest) (before ++ take n (texts_of first h)) (first ++ take n (added_in (start_of first) h))

-- so it is with an image that has a front of the records of these texts
pub rest_of : FrontsAreFirstTexts → FirstTextsAddAFront → (rs : List Record) (before : List (List ℕ)) (first : List LogEntry) (h : List Entry) (texts : List (List ℕ)) (least : ℕ) (rest : List ℕ)
    → Restore rs before first → AreReadAgain (records_of first h) → IsPrefix texts (texts_of first h) → count_of texts ≤ least → HasFront rs (flat_map pieces (texts_of first h)) least rest
    → IsRestOf before first h (length texts) rest
rest_of fronts adds rs before first h texts least rest restore again front le has =
    let all = texts_of first h in
    let added = added_in (start_of first) h in
    let n = has.0 in
    let found = fronts rs before all n restore.are in
    let k = found.0 in
    let one = adds before first (flat h) all restore.is again in
    let log = log_added (start_of first) h in
    let short : take (length texts) all ≡ texts = ap (take (length texts)) (sym front.1) ∙ take-append_seam texts front.0 in
    let fits : length (flat_map pieces (take (length texts) all)) ≤ n = subst (λ l. length (flat_map pieces l) ≤ n) (sym short) (omega (arith, le, has.1)) in
    let count : length added ≡ length all = omega (arith, one.count, ap length log, length-append first added) in
    record {
      n = k;
      enough = found.1.most (length texts) (prefix_length texts all front) fits;
      there = omega (arith, count, found.1.few);
      whole = has.3.whole;
      restores = record {
        are = ap Rattle.ifdb_log.specs.Pieces.texts_of has.3.has ∙ found.2;
        is = one.front k ∙ ap (λ l. Some (take (length first + k) l)) log ∙ ap Some (take-append-add first added k);
      };
    }

-- behind a title it is the file
pub file_of : (title : List ℕ) (before : List (List ℕ)) (first : List LogEntry) (h : List Entry) (least : ℕ) (image : List ℕ) → IsTitle title → HasBehind title (IsRestOf before first h least) image → HasFrontOf before first h least image
file_of title before first h least image is has =
    let rest = has.0 in
    let r = has.2 in
    let behind : drop 16 image ≡ rest = ap (drop 16) has.1 ∙ ap (λ k. drop k (title ++ rest)) (sym is.1) ∙ drop-append_seam title rest in
    record {
      n = r.n;
      enough = r.enough;
      there = r.there;
      file = record {
        titled = subst IsLog (sym has.1) (title_then title rest is);
        whole = ap damage behind ∙ r.whole;
        restores = subst (λ l. Restore (records l) (before ++ take r.n (texts_of first h)) (first ++ take r.n (added_in (start_of first) h))) (sym behind) r.restores;
      };
    }
