-- The extract of a log, text by text.
use Rattle.std.proofs.Common.{◌≡◌, ℕ, ◌+◌, Bool, true, false, List, [], ◌∷◌, ◌++◌, ◌∙◌, refl, sym, ap, subst, cond, append_assoc, append-nil}
use Rattle.std.specs.Prelude.{Option, Some, None}
use Rattle.ifdb_disk.specs.Clock.{Clock}
use Rattle.ifdb_journal.specs.Reading.{Place}
use Rattle.ifdb_log.specs.Reading.{HasRead, HoldsTexts}
use Rattle.ifdb_redo.specs.declared.record.RedoRecord.{RedoRecord}
use Rattle.ifdb_redo.specs.declared.record.RedoRecord.TheVariants as redo
use Rattle.ifdb_redo.specs.Reading.{record_of}
use Rattle.ifdb_row.specs.declared.row.Row.{Row}
use Rattle.ifdb_row.specs.declared.write.Write.{Write}
use Rattle.ifdb_row.specs.Content.{after}
use Rattle.ifdb_extract.specs.Texts.{Extracted, HasBrokenAt, IsExtractOf, change_texts, extract_of, is_change, rows_behind, with_text, with_writes}

-- ---- one text more

pub took_change : (x : Extracted) (text line : List ℕ) (asker : ℕ) → record_of text ≡ Some (redo.Change asker line) → record { changes = x.changes ++ text ∷ []; rows = x.rows } ≡ with_text x text
took_change x text line asker is = sym (ap (λ o. record { changes = cond (is_change o) (x.changes ++ text ∷ []) x.changes; rows = with_writes x.rows o }) is)

pub took_commit : (x : Extracted) (text : List ℕ) (ws : List Write) → record_of text ≡ Some (redo.Commit ws) → record { changes = x.changes; rows = after x.rows ws } ≡ with_text x text
took_commit x text ws is = sym (ap (λ o. record { changes = cond (is_change o) (x.changes ++ text ∷ []) x.changes; rows = with_writes x.rows o }) is)

changes_more : (texts : List (List ℕ)) (text : List ℕ) → change_texts (texts ++ text ∷ []) ≡ cond (is_change (record_of text)) (change_texts texts ++ text ∷ []) (change_texts texts)
changes_more [] text = refl
changes_more (s ∷ texts) text = ap (λ l. cond (is_change (record_of s)) (s ∷ l) l) (changes_more texts text) ∙ by (is_change (record_of s)) (is_change (record_of text)) where
  all : List (List ℕ)
  all = change_texts texts

  by : (a b : Bool) → cond a (s ∷ cond b (all ++ text ∷ []) all) (cond b (all ++ text ∷ []) all) ≡ cond b (cond a (s ∷ all) all ++ text ∷ []) (cond a (s ∷ all) all)
  by true true = refl
  by true false = refl
  by false true = refl
  by false false = refl

rows_more : (rows : List Row) (texts : List (List ℕ)) (text : List ℕ) → rows_behind rows (texts ++ text ∷ []) ≡ with_writes (rows_behind rows texts) (record_of text)
rows_more rows [] text = refl
rows_more rows (s ∷ texts) text = rows_more (with_writes rows (record_of s)) texts text

extract_more : (texts : List (List ℕ)) (text : List ℕ) → with_text (extract_of texts) text ≡ extract_of (texts ++ text ∷ [])
extract_more texts text = sym (λ i. record { changes = changes_more texts text i; rows = rows_more [] texts text i })

-- ---- the loop

-- so many texts were taken in
pub record IsTaken (t : Option Clock) (p : Place) (x : Extracted) : Type 0 where
  pub texts : List (List ℕ)
  pub read : HasRead t texts p
  pub is : x ≡ extract_of texts

pub taken_first : (t : Option Clock) (p : Place) (x : Extracted) → HasRead t [] p → x ≡ extract_of [] → IsTaken t p x
taken_first t p x read is = record { texts = []; read = read; is = is }

pub taken_next : (t u : Option Clock) (p q : Place) (x y : Extracted) (text : List ℕ) → ((texts : List (List ℕ)) → HasRead t texts p → HasRead u (texts ++ text ∷ []) q) → y ≡ with_text x text → IsTaken t p x → IsTaken u q y
taken_next t u p q x y text reads more so = record {
  texts = so.texts ++ text ∷ [];
  read = reads so.texts so.read;
  is = more ∙ ap (λ z. with_text z text) so.is ∙ extract_more so.texts text;
}

pub taken_last : (t u : Option Clock) (p : Place) (x : Extracted) (at : ℕ) → ((texts : List (List ℕ)) → HasRead t texts p → HoldsTexts u texts at) → IsTaken t p x → IsExtractOf u x
taken_last t u p x at holds so = (so.texts, at, holds so.texts so.read, so.is)

pub taken_broken : (t u : Option Clock) (p q : Place) (x : Extracted) (text : List ℕ) (at : ℕ) → ((texts : List (List ℕ)) → HasRead t texts p → HasRead u (texts ++ text ∷ []) q) → u ≡ t → at ≡ 16 + p.at
    → record_of text ≡ None → IsTaken t p x → HasBrokenAt u at
taken_broken t u p q x text at reads still there none so = record {
  before = so.texts;
  broken = text;
  place = p;
  next = q;
  up_to = subst (λ c. HasRead c so.texts p) (sym still) so.read;
  there = there;
  read = reads so.texts so.read;
  none = none;
}
