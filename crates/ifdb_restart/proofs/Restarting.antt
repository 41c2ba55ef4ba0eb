-- How a restart goes on, text by text.
use Rattle.std.proofs.Common.{◌≡◌, ℕ, ◌+◌, List, [], ◌∷◌, ◌++◌, ◌∙◌, length, map, refl, sym, ap, subst, Option, Some}
use Rattle.std.specs.Prelude.{IsSome}
use Rattle.std.specs.Option.{unwrap_or}
use Rattle.ifdb_disk.specs.Clock.{Clock}
use Rattle.ifdb_journal.specs.Reading.{Place}
use Rattle.ifdb_log.specs.Reading.{HasRead, HoldsTexts}
use Rattle.ifdb_redo.specs.declared.record.RedoRecord.{RedoRecord}
use Rattle.ifdb_redo.specs.Reading.{record_of}
use Rattle.ifdb_model.specs.Log.{Entry}
use Rattle.ifdb_model.specs.Run.{opening}
use Rattle.ifdb_restore.specs.Passing.{commit_fits}
use Rattle.ifdb_restore.specs.Redone.{grown, restored}
use Rattle.ifdb_db.specs.Reading.{read_line}
use Rattle.ifdb_db.specs.Room.{Hall, StandsFor}
use Rattle.ifdb_restart.specs.Laws.{AreTextsOf}
use Rattle.ifdb_restart.specs.Restarted.{with_record, log_behind, log_in, records_in, HasOneMore, IsClosedOver, IsLonger, IsUnfit, IsRestored, IsRestarted, HasUnfitAt}
use Rattle.ifdb_restart.proofs.Texts.{behind_both, restored_texts, with_text}

-- one more text
one_more : (log : Option (List Entry)) (texts : List (List ℕ)) (text : List ℕ) → log_behind log (texts ++ text ∷ []) ≡ with_record (log_behind log texts) (record_of text)
one_more log [] text = refl
one_more log (t ∷ texts) text = one_more (with_record log (record_of t)) texts text

module _ {A : Type 0} where
  -- so many texts were read, and made again
  pub record IsSoFar (t : Option Clock) (p : Place) (h : Hall) (made : List (RedoRecord × A)) : Type 0 where
    pub texts : List (List ℕ)
    pub read : HasRead t texts p
    pub are : AreTextsOf texts (records_in made)
    pub restored : IsRestored texts (log_in made) h

  pub begun_so : (t : Option Clock) (p : Place) (h : Hall) (made : List (RedoRecord × A)) → HasRead t [] p → made ≡ [] → IsRestored [] [] h → IsSoFar t p h made
  begun_so t p h made read none restored = subst (IsSoFar t p h) (sym none) (record { texts = []; read = read; are = refl; restored = restored })

  -- the next text is made again
  pub goes_on : (t u : Option Clock) (p q : Place) (h k : Hall) (made more : List (RedoRecord × A)) (text : List ℕ) → ((texts : List (List ℕ)) → HasRead t texts p → HasRead u (texts ++ text ∷ []) q)
      → IsLonger h k text → HasOneMore made more text → k.clients ≡ h.clients → IsSoFar t p h made → IsSoFar u q k more
  goes_on t u p q h k made more text reads longer one same so =
      let old = so.restored in
      let new = longer (log_in made) old.stands in
      let begun : restored read_line commit_fits [] (records_in made) ≡ Some (log_in made) = sym (restored_texts (Some []) so.texts (records_in made) so.are) ∙ old.is in
      let grows : restored read_line commit_fits [] (records_in more) ≡ Some new.0 =
      ap (restored read_line commit_fits []) one.2 ∙ behind_both (Some []) (records_in made) (one.0 ∷ []) ∙ ap (λ o. grown read_line commit_fits o one.0) begun
      ∙ ap (with_record (Some (log_in made))) (sym one.1) ∙ new.1 in
      let log : log_in more ≡ new.0 = ap (λ (o : Option (List Entry)). unwrap_or o []) grows in
      record {
        texts = so.texts ++ text ∷ [];
        read = reads so.texts so.read;
        are = with_text so.texts (records_in made) text one.0 so.are one.1 ∙ ap (map Some) (sym one.2);
        restored = record {
          is = one_more (Some []) so.texts text ∙ ap (λ o. with_record o (record_of text)) old.is ∙ new.1 ∙ ap Some (sym log);
          stands = subst (λ l. IsClosedOver k l) (sym log) new.2;
          nobody = ap length same ∙ old.nobody;
        };
      }

  -- it doesn't fit
  pub stands_unfit : (t u : Option Clock) (p q : Place) (h : Hall) (made : List (RedoRecord × A)) (text : List ℕ) (at : ℕ) → ((texts : List (List ℕ)) → HasRead t texts p → HasRead u (texts ++ text ∷ []) q)
      → u ≡ t → at ≡ 16 + p.at → IsUnfit h text → IsSoFar t p h made → HasUnfitAt u at
  stands_unfit t u p q h made text at reads still there unfit so =
      let r = so.restored in
      record {
        before = so.texts;
        unfit = text;
        place = p;
        next = q;
        up_to = subst (λ c. HasRead c so.texts p) (sym still) so.read;
        there = there;
        read = reads so.texts so.read;
        restores = subst (λ (o : Option (List Entry)). IsSome o) (sym r.is) refl;
        none = one_more (Some []) so.texts text ∙ ap (λ o. with_record o (record_of text)) r.is ∙ unfit (log_in made) r.stands;
      }

  -- there is none
  pub ends_so : (t u : Option Clock) (p : Place) (h : Hall) (made : List (RedoRecord × A)) (at : ℕ) → ((texts : List (List ℕ)) → HasRead t texts p → HoldsTexts u texts at) → IsSoFar t p h made
      → IsRestarted u at (log_in made) h
  ends_so t u p h made at holds so = (so.texts, holds so.texts so.read, so.restored)

pub opened_so : (h : Hall) → StandsFor h opening → length h.clients ≡ 0 → IsRestored [] [] h
opened_so h stands nobody = record { is = refl; stands = stands; nobody = nobody }
