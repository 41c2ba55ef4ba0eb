-- What the compacted texts of a log restore.
use Rattle.std.proofs.Common.{◌≡◌, ℕ, Bool, true, false, List, [], ◌∷◌, ◌++◌, ◌∙◌, refl, sym, ap, subst, cond, append_assoc, append-nil, Option, Some, None}
use Rattle.ifdb_value.proofs.Lists.{all_wider}
use Rattle.ifdb_redo.specs.declared.record.RedoRecord.{RedoRecord}
use Rattle.ifdb_redo.specs.declared.record.RedoRecord.TheVariants as redo
use Rattle.ifdb_redo.specs.Reading.{record_of}
use Rattle.ifdb_row.specs.declared.row.Row.{Row}
use Rattle.ifdb_row.specs.declared.write.Write.{Write}
use Rattle.ifdb_row.specs.Writes.{are_fitting}
use Rattle.ifdb_row.specs.Content.{after, content_from, rising}
use Rattle.ifdb_row.proofs.Rising.{rising_front}
use Rattle.ifdb_bound.specs.declared.request.Change.{Change}
use Rattle.ifdb_catalog.specs.Public.{Public}
use Rattle.ifdb_model.specs.Log.{Entry, changes, commits, commits_of, content_of, public_from, public_of}
use Rattle.ifdb_model.specs.Step.{ask}
use Rattle.ifdb_model.proofs.LogLaws.{content_from-append, public_from-append}
use Rattle.ifdb_laws.specs.RowLaws.{row_fits}
use Rattle.ifdb_laws.proofs.Logs.{rising_content}
use Rattle.ifdb_laws.proofs.two_worlds.Outcomes.{tag_count}
use Rattle.ifdb_laws.proofs.two_worlds.Sound.{are_sound, sound_fits}
use Rattle.ifdb_restore.specs.Passing.{commit_fits}
use Rattle.ifdb_restore.specs.Redone.{change_of, entry_if, idle, longer, redone}
use Rattle.ifdb_restore.specs.Same.{SameLogsAnswerAlike}
use Rattle.ifdb_restore.specs.Shorter.{changes_of, writing}
use Rattle.ifdb_restore.proofs.Redone.{redone_lem}
use Rattle.ifdb_restore.proofs.Shortened.{after_writing, no_commits, public_kept}
use Rattle.ifdb_db.specs.Reading.{read_line}
use Rattle.ifdb_restart.specs.Laws.{AreTextsOf}
use Rattle.ifdb_restart.specs.Restarted.{log_behind, log_of, with_record}
use Rattle.ifdb_restart.proofs.FitLogs.{none_behind, restored_fit}
use Rattle.ifdb_extract.specs.Texts.{change_texts, is_change, rows_behind, with_writes}
use Rattle.ifdb_extract.specs.Extracts.{records_each, rows_of}
use Rattle.ifdb_compact.specs.Compacted.{CompactedLogsAnswerAlike, CompactedTextsRestore, IsCompacted, commits_each}
use Rattle.ifdb_compact.proofs.Older.{added_fits, are_older, is_behind_parents, row_behind_parents}
use Rattle.ifdb_compact.proofs.Pieces.{AreInOrder, piece_passes}

-- ---- how a text makes a log longer

lost : (texts : List (List ℕ)) (log : List Entry) → log_behind None texts ≡ Some log → ⊥
lost texts log e = cc (none_behind texts, e)

pub data Restores (log : List Entry) (text : List ℕ) (texts : List (List ℕ)) (first : List Entry) : Type 0 where
  -- a public change that the asker's line makes
  changed : (asker : ℕ) (line : List ℕ) (c : Change) → record_of text ≡ Some (redo.Change asker line) → (ask read_line log (idle asker) line).added ≡ Some (changes c)
      → log_behind (Some (log ++ changes c ∷ [])) texts ≡ Some first → Restores log text texts first
  -- a commit that fits
  written : (ws : List Write) → record_of text ≡ Some (redo.Commit ws) → log_behind (Some (log ++ commits ws ∷ [])) texts ≡ Some first → Restores log text texts first

added_one : (o : Option Entry) (c : Change) → change_of o ≡ Some c → o ≡ Some (changes c)
added_one None c k = absurd cc
added_one (Some (changes d)) c k = let same : d ≡ c = cc in ap (λ (x : Change). Some (changes x)) same
added_one (Some (commits ws)) c k = absurd cc

one_text : (log : List Entry) (text : List ℕ) (texts : List (List ℕ)) (first : List Entry) → log_behind (Some log) (text ∷ texts) ≡ Some first → Restores log text texts first
one_text log text texts first e = by (record_of text) refl e where
  of_change : (asker : ℕ) (line : List ℕ) → record_of text ≡ Some (redo.Change asker line) → (o : Option Change) → redone read_line log asker line ≡ o
      → log_behind (longer log (entry_if o)) texts ≡ Some first → Restores log text texts first
  of_change asker line is None made k = absurd (lost texts first k)
  of_change asker line is (Some c) made k = changed asker line c is (added_one (ask read_line log (idle asker) line).added c made) k

  of_commit : (ws : List Write) → record_of text ≡ Some (redo.Commit ws) → (b : Bool) → log_behind (longer log (cond b (Some (commits ws)) None)) texts ≡ Some first → Restores log text texts first
  of_commit ws is false k = absurd (lost texts first k)
  of_commit ws is true k = written ws is k

  by : (o : Option RedoRecord) → record_of text ≡ o → log_behind (with_record (Some log) o) texts ≡ Some first → Restores log text texts first
  by None is k = absurd (lost texts first k)
  by (Some (redo.Change asker line)) is k = of_change asker line is (redone read_line log asker line) refl k
  by (Some (redo.Commit ws)) is k = of_commit ws is (commit_fits log ws) k

-- ---- what holds of each log that texts restore

-- each table's foreign keys refer to older ones
abbrev tables_older : List Entry → Type 0
tables_older log = are_older 0 (public_of log).tables ≡ true

all_older : (texts : List (List ℕ)) (log first : List Entry) → tables_older log → log_behind (Some log) texts ≡ Some first → tables_older first
all_older [] log first a e = let same : log ≡ first = cc in subst tables_older same a
all_older (text ∷ texts) log first a e = by (one_text log text texts first e) (all_older texts) where
  by : Restores log text texts first → ((log first : List Entry) → tables_older log → log_behind (Some log) texts ≡ Some first → tables_older first) → tables_older first
  by (changed asker line c is added rest) go =
      let now = added_fits log asker (read_line line) c added a in
      go (log ++ changes c ∷ []) first (ap (λ (p : Public). are_older 0 p.tables) (public_from-append (public_of []) log (changes c ∷ [])) ∙ now) rest
  by (written ws is rest) go =
      go (log ++ commits ws ∷ []) first (ap (λ (p : Public). are_older 0 p.tables) (public_from-append (public_of []) log (commits ws ∷ [])) ∙ a) rest

-- the rows
all_rows : (texts : List (List ℕ)) (log first : List Entry) → log_behind (Some log) texts ≡ Some first → content_of first ≡ rows_behind (content_of log) texts
all_rows [] log first e = let same : log ≡ first = cc in ap content_of (sym same)
all_rows (text ∷ texts) log first e = by (one_text log text texts first e) (all_rows texts) where
  by : Restores log text texts first → ((log first : List Entry) → log_behind (Some log) texts ≡ Some first → content_of first ≡ rows_behind (content_of log) texts)
      → content_of first ≡ rows_behind (with_writes (content_of log) (record_of text)) texts
  by (changed asker line c is added rest) go =
      go (log ++ changes c ∷ []) first rest ∙ ap (λ rows. rows_behind rows texts) (content_from-append [] log (changes c ∷ []))
      ∙ ap (λ o. rows_behind (with_writes (content_of log) o) texts) (sym is)
  by (written ws is rest) go =
      go (log ++ commits ws ∷ []) first rest ∙ ap (λ rows. rows_behind rows texts) (content_from-append [] log (commits ws ∷ []))
      ∙ ap (λ o. rows_behind (with_writes (content_of log) o) texts) (sym is)

-- ---- the public changes

changes_append : (a b : List Entry) → changes_of (a ++ b) ≡ changes_of a ++ changes_of b
changes_append [] b = refl
changes_append (changes c ∷ a) b = ap (λ x. changes c ∷ x) (changes_append a b)
changes_append (commits ws ∷ a) b = changes_append a b

behind_append : (o : Option (List Entry)) (texts more : List (List ℕ)) → log_behind o (texts ++ more) ≡ log_behind (log_behind o texts) more
behind_append o [] more = refl
behind_append o (text ∷ texts) more = behind_append (with_record o (record_of text)) texts more

changes_alone : (texts : List (List ℕ)) (log first : List Entry) → log_behind (Some log) texts ≡ Some first → log_behind (Some (changes_of log)) (change_texts texts) ≡ Some (changes_of first)
changes_alone [] log first e = let same : log ≡ first = cc in ap (λ l. Some (changes_of l)) same
changes_alone (text ∷ texts) log first e = by (one_text log text texts first e) (changes_alone texts) where
  by : Restores log text texts first → ((log first : List Entry) → log_behind (Some log) texts ≡ Some first → log_behind (Some (changes_of log)) (change_texts texts) ≡ Some (changes_of first))
      → log_behind (Some (changes_of log)) (cond (is_change (record_of text)) (text ∷ change_texts texts) (change_texts texts)) ≡ Some (changes_of first)
  by (changed asker line c is added rest) go =
      let again = redone_lem read_line log (changes_of log) (idle asker) line c (sym (public_kept (public_of []) log)) added in
      let same : again.asker ≡ asker = cc (again.principal) in
      let made : redone read_line (changes_of log) asker line ≡ Some c = ap (λ n. redone read_line (changes_of log) n line) (sym same) ∙ again.again in
      ap (λ o. log_behind (Some (changes_of log)) (cond (is_change o) (text ∷ change_texts texts) (change_texts texts))) is
      ∙ ap (λ o. log_behind (with_record (Some (changes_of log)) o) (change_texts texts)) is
      ∙ ap (λ (o : Option Change). log_behind (longer (changes_of log) (entry_if o)) (change_texts texts)) made
      ∙ ap (λ l. log_behind (Some l) (change_texts texts)) (sym (changes_append log (changes c ∷ [])))
      ∙ go (log ++ changes c ∷ []) first rest
  by (written ws is rest) go =
      ap (λ o. log_behind (Some (changes_of log)) (cond (is_change o) (text ∷ change_texts texts) (change_texts texts))) is
      ∙ ap (λ l. log_behind (Some l) (change_texts texts)) (sym (changes_append log (commits ws ∷ []) ∙ append-nil (changes_of log)))
      ∙ go (log ++ commits ws ∷ []) first rest

-- ---- the rows in pieces

pieces_restore : (p : Public) (all front : List Row) (pieces : List (List Row)) (more : List (List ℕ)) (base : List Entry) → AreInOrder p all → front ++ rows_of pieces ≡ all → public_of base ≡ p
    → content_of base ≡ front → AreTextsOf more (records_each pieces) → log_behind (Some base) more ≡ Some (base ++ commits_each pieces)
pieces_restore p all front [] [] base are is public content texts = ap Some (sym (append-nil base))
pieces_restore p all front [] (text ∷ more) base are is public content texts = absurd (cc texts)
pieces_restore p all front (rows ∷ pieces) [] base are is public content texts = absurd (cc texts)
pieces_restore p all front (rows ∷ pieces) (text ∷ more) base are is public content texts =
    let read : record_of text ≡ Some (redo.Commit (writing rows)) = cc texts in
    let others : AreTextsOf more (records_each pieces) = cc texts in
    let passes = piece_passes p base front rows (rows_of pieces) all are is public content in
    let whole : (front ++ rows) ++ rows_of pieces ≡ all = append_assoc front rows (rows_of pieces) ∙ is in
    let rises : rising (front ++ rows) ≡ true = rising_front (front ++ rows) (rows_of pieces) (ap rising whole ∙ are.rises) in
    let next : List Entry = base ++ commits (writing rows) ∷ [] in
    let content' : content_of next ≡ front ++ rows =
    content_from-append [] base (commits (writing rows) ∷ []) ∙ ap (λ x. after x (writing rows)) content ∙ after_writing front rows rises in
    let public' : public_of next ≡ p = public_from-append (public_of []) base (commits (writing rows) ∷ []) ∙ public in
    ap (λ o. log_behind (with_record (Some base) o) more) read
    ∙ ap (λ (b : Bool). log_behind (longer base (cond b (Some (commits (writing rows))) None)) more) passes
    ∙ pieces_restore p all (front ++ rows) pieces more next are whole public' content' others
    ∙ ap Some (append_assoc base (commits (writing rows) ∷ []) (commits_each pieces))

public_each : (p : Public) (pieces : List (List Row)) → public_from p (commits_each pieces) ≡ p
public_each p [] = refl
public_each p (rows ∷ pieces) = public_each p pieces

content_each : (front : List Row) (pieces : List (List Row)) → rising (front ++ rows_of pieces) ≡ true → content_from front (commits_of (commits_each pieces)) ≡ front ++ rows_of pieces
content_each front [] up = sym (append-nil front)
content_each front (rows ∷ pieces) up =
    let whole : (front ++ rows) ++ rows_of pieces ≡ front ++ (rows ++ rows_of pieces) = append_assoc front rows (rows_of pieces) in
    let rises : rising (front ++ rows) ≡ true = rising_front (front ++ rows) (rows_of pieces) (ap rising whole ∙ up) in
    ap (λ x. content_from x (commits_of (commits_each pieces))) (after_writing front rows rises) ∙ content_each (front ++ rows) pieces (ap rising whole ∙ up) ∙ whole

-- ---- the compacted log

in_order : (texts : List (List ℕ)) (log : List Entry) → log_of texts ≡ Some log → AreInOrder (public_of log) (content_of log)
in_order texts log e =
    let v = restored_fit texts log e in
    let older = all_older texts [] log refl e in
    record {
      rises = rising_content log (all_wider (are_sound (tag_count log)) are_fitting (commits_of log) (λ ws k. sound_fits (tag_count log) ws k) v.sound.sound_log.writes);
      fit = v.content;
      rooted = v.rooted;
      behind = all_wider (row_fits (public_of log)) is_behind_parents (content_of log) (λ r k. row_behind_parents (public_of log) r older k) v.content;
    }

pub texts_restore : CompactedTextsRestore
texts_restore texts more log restores of = (short, restored, compacted) where
  pieces : List (List Row)
  pieces = of.parts

  short : List Entry
  short = changes_of log ++ commits_each pieces

  rows : rows_of pieces ≡ content_of log
  rows = of.all ∙ sym (all_rows texts [] log restores)

  order : AreInOrder (public_of log) (content_of log)
  order = in_order texts log restores

  public : public_of (changes_of log) ≡ public_of log
  public = public_kept (public_of []) log

  none : content_of (changes_of log) ≡ []
  none = ap (content_from []) (no_commits log)

  restored : log_of (change_texts texts ++ more) ≡ Some short
  restored =
      behind_append (Some []) (change_texts texts) more ∙ ap (λ o. log_behind o more) (changes_alone texts [] log restores)
      ∙ pieces_restore (public_of log) (content_of log) [] pieces more (changes_of log) order rows public none of.are

  compacted : IsCompacted log short
  compacted = record {
    parts = pieces;
    rows = rows;
    is = refl;
    same = record {
      public = public_from-append (public_of []) (changes_of log) (commits_each pieces) ∙ public_each (public_of (changes_of log)) pieces ∙ public;
      content =
          content_from-append [] (changes_of log) (commits_each pieces) ∙ ap (λ x. content_from x (commits_of (commits_each pieces))) none
          ∙ content_each [] pieces (ap rising rows ∙ order.rises) ∙ rows;
    };
  }

pub answer_alike : SameLogsAnswerAlike → CompactedLogsAnswerAlike
answer_alike same read log short steps is = same read short log [] steps is.same refl
