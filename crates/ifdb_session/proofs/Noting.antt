-- What a note holds is what its line's step records.
use Rattle.std.proofs.Common.{◌≡◌, ℕ, ◌<◌, ◌≤◌, Bool, true, false, List, [], ◌∷◌, ◌++◌, ◌∙◌, length, refl, sym, ap, subst, arith, cond, Option, Some, None}
use Rattle.std.specs.Prelude.{IfSome, option_to_list, unwrap_or}
use Rattle.std.proofs.lemmas.List.{append-nil}
use Rattle.ifdb_redo.specs.Reading.{record_of}
use Rattle.ifdb_redo.specs.Spelling.{text}
use Rattle.ifdb_redo.specs.declared.record.RedoRecord.{RedoRecord}
use Rattle.ifdb_redo.specs.declared.record.RedoRecord.TheVariants as redo
use Rattle.ifdb_model.specs.Log.{Entry as LogEntry, changes, commits}
use Rattle.ifdb_model.specs.Step.{Reader, ask}
use Rattle.ifdb_model.specs.Run.{State, session_of, asks}
use Rattle.ifdb_restore.specs.Redone.{recorded, records_at}
use Rattle.ifdb_db.specs.Noting.{Noted, text_of, blank, holding, noted, IsNotedIn, IsWithin}
use Rattle.ifdb_db.specs.Reading.{read_line}
use Rattle.ifdb_db.specs.Room.{Hall, StandsFor}
use Rattle.ifdb_session.specs.declared.records.Records as recorder
use Rattle.ifdb_session.specs.Records.{records_in, Forgets, HasRoom}
use Rattle.ifdb_session.specs.Texts.{IsTextOf}

-- ---- a step records one text at most

one_recorded : (asker : Option ℕ) (line : List ℕ) (added : Option LogEntry) → length (recorded asker line added) ≤ 1
one_recorded asker line None = omega arith
one_recorded asker line (Some (commits ws)) = omega arith
one_recorded None line (Some (changes c)) = omega arith
one_recorded (Some asker) line (Some (changes c)) = omega arith

one_at : (read : Reader) (st : State) (n : ℕ) (line : List ℕ) → length (records_at read st (asks n line)) ≤ 1
one_at read st n line = by (session_of st n).is_open where
  by : (b : Bool) → length (cond b (recorded (session_of st n).principal line (ask read st.log (session_of st n) line).added) []) ≤ 1
  by true = one_recorded (session_of st n).principal line (ask read st.log (session_of st n) line).added
  by false = omega arith

-- and none is empty
some_text : (r : RedoRecord) → 0 < length (text r)
some_text (redo.Change asker line) = omega arith
some_text (redo.Commit ws) = omega arith

-- a note's text is that of the record that it holds, and is read again as it
pub text_held : (t : List ℕ) (held : Option RedoRecord) → Some t ≡ text_of held → record_of t ≡ held → (r : RedoRecord) × (held ≡ Some r) × IsTextOf t r
text_held t None is again = cc
text_held t (Some r) is again = (r, refl, (ap (λ (o : Option (List ℕ)). unwrap_or o t) is, again))

module _ {Q : Type 0} (recorders : recorder.Ghosts Q) where
  -- there is room for what a note holds
  pub fits_so : (q : Q) (limit : Option ℕ) (held : Option RedoRecord) (t : List ℕ) → IfSome limit (HasRoom recorders q) → IsWithin limit (Some t) → Some t ≡ text_of held → recorders.fits q t
  fits_so q None held t room within is = absurd within
  fits_so q (Some limit) None t room within is = cc
  fits_so q (Some limit) (Some r) t room within is =
      let same : t ≡ text r = ap (λ (o : Option (List ℕ)). unwrap_or o t) is in
      room t (subst (λ l. 0 < length l) (sym same) (some_text r)) within

  step_by : (a b : Noted) (step : List RedoRecord) (q : Q) (rs : List RedoRecord) → length step ≤ 1 → a.held ≡ None → b ≡ noted a step → recorders.has q (rs ++ records_in b)
      → (b.limit ≡ None → Forgets recorders q) → recorders.has q (rs ++ step)
  step_by a b step q rs few none is has forgets = by a.limit refl step few is where
    by : (limit : Option ℕ) → a.limit ≡ limit → (step : List RedoRecord) → length step ≤ 1 → b ≡ noted a step → recorders.has q (rs ++ step)
    by limit same [] few is = subst (λ (z : Option RedoRecord). recorders.has q (rs ++ option_to_list z)) (ap (λ (z : Noted). z.held) is ∙ none) has
    by None same (r ∷ more) few is =
        let still : b ≡ a = is ∙ ap (λ l. holding l a r) same in
        let here : recorders.has q (rs ++ []) = subst (λ (z : Option RedoRecord). recorders.has q (rs ++ option_to_list z)) (ap (λ (z : Noted). z.held) still ∙ none) has in
        forgets (ap (λ (z : Noted). z.limit) still ∙ same) rs (r ∷ more) (subst (recorders.has q) (append-nil rs) here)
    by (Some limit) same (r ∷ []) few is =
        let holds : b ≡ record a { held = Some r } = is ∙ ap (λ l. holding l a r) same in
        subst (λ (z : Option RedoRecord). recorders.has q (rs ++ option_to_list z)) (ap (λ (z : Noted). z.held) holds) has
    by (Some limit) same (r ∷ x ∷ more) few is = absurd (omega (arith, few))

  -- so the records of a line's step are made, whatever state the hall stood for
  pub noted_step : (h : Hall) (n : ℕ) (line : List ℕ) (a b : Noted) (old new : Q) → IsNotedIn h n line a b
      → ((rs : List RedoRecord) → recorders.has old rs → recorders.has new (rs ++ records_in b)) → (b.limit ≡ None → Forgets recorders new)
      → (st : State) (rs : List RedoRecord) → StandsFor h st → recorders.has old rs → recorders.has new (rs ++ records_at read_line st (asks n line))
  noted_step h n line a b old new is recorded forgets st rs stands has =
      step_by (blank a) b (records_at read_line st (asks n line)) new rs (one_at read_line st n line) refl (is st stands) (recorded rs has) forgets
