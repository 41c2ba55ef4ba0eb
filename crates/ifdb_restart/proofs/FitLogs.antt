-- Texts restore logs from which runs pass: whatever a restart makes again fits.
use Rattle.std.proofs.Common.{◌≡◌, ℕ, Bool, true, false, List, [], ◌∷◌, ◌++◌, ◌∙◌, length, map, refl, sym, ap, subst, arith, cond, Option, Some, None}
use Rattle.std.specs.Prelude.{◌||◌, option_to_list}
use Rattle.std.specs.List.{list_all}
use Rattle.std.proofs.lemmas.Bool.{false≢true}
use Rattle.std.proofs.lemmas.Bool.Decides.{nat_tests}
use Rattle.std.proofs.lemmas.List.{length-map}
use Rattle.std.proofs.lemmas.List.Elements.{All-nil, All-push}
use Rattle.ifdb_value.proofs.Lists.{all_wider, any_meets_all, any_none}
use Rattle.ifdb_label.specs.Tags.{are_made, AreWellFormed}
use Rattle.ifdb_row.specs.declared.slot.Slot.{Slot}
use Rattle.ifdb_row.specs.declared.row.Row.{Row}
use Rattle.ifdb_row.specs.declared.write.Write.{Write}
use Rattle.ifdb_row.specs.Slots.{is_same_slot, slot_lt}
use Rattle.ifdb_row.specs.Writes.{is_fitting, is_written}
use Rattle.ifdb_row.specs.Content.{after, are_rooted, live, place}
use Rattle.ifdb_row.proofs.SlotOrder.{slot_lt_itself, slot_same}
use Rattle.ifdb_row.proofs.LiveLaws.{after_old}
use Rattle.ifdb_redo.specs.declared.record.RedoRecord.{RedoRecord}
use Rattle.ifdb_redo.specs.declared.record.RedoRecord.TheVariants as redo
use Rattle.ifdb_redo.specs.Reading.{record_of}
use Rattle.ifdb_bound.specs.declared.request.Change.{Change}
use Rattle.ifdb_catalog.specs.Public.{Public, tags_of}
use Rattle.ifdb_model.specs.Log.{Entry, changes, commits, all_tags, content_of, public_of}
use Rattle.ifdb_model.specs.Step.{ask}
use Rattle.ifdb_model.specs.Run.{State, with_outcome}
use Rattle.ifdb_laws.specs.RowLaws.{row_fits}
use Rattle.ifdb_laws.proofs.Logs.{all_commits, is_made_slot}
use Rattle.ifdb_laws.proofs.Sided.{is_whole, is_whole_write}
use Rattle.ifdb_laws.proofs.two_worlds.Outcomes.{tag_count}
use Rattle.ifdb_laws.proofs.two_worlds.Sound.{SoundSession, are_sound, commits_join, opening_sound}
use Rattle.ifdb_laws.proofs.rows.Fits.{write_fits}
use Rattle.ifdb_laws.proofs.rows.Fitting.{are_fit}
use Rattle.ifdb_restore.specs.Passing.{commit_fits, is_fit}
use Rattle.ifdb_restore.specs.Redone.{change_of, entry_if, grown, idle, longer, redone}
use Rattle.ifdb_db.specs.Reading.{read_line}
use Rattle.ifdb_db.specs.Redoing.{closed_state}
use Rattle.ifdb_restart.specs.Restarted.{log_behind, with_record}
use Rattle.ifdb_restart.proofs.ReadCommits.{AreInPlace, read_in_place}
use Rattle.ifdb_restart.proofs.FitStates.{FitsSession, IsFit, asked_fit, commit_content, commit_public, commit_rows, idle_fits}

-- nobody's session is open
closed_fit : (st : State) → IsFit st → IsFit (closed_state st.log)
closed_fit st v = record {
  sound = record { sound_log = v.sound.sound_log; sound_sessions = All-nil (SoundSession st.log) };
  content = v.content;
  rooted = v.rooted;
  sessions = All-nil (FitsSession st.log);
}

-- there is no log
opening_fit : IsFit (closed_state [])
opening_fit = record { sound = opening_sound; content = refl; rooted = refl; sessions = All-nil (FitsSession []) }

-- ---- a change

idle_fit : (log : List Entry) (asker : ℕ) → IsFit (closed_state log) → IsFit (record { log = log; sessions = idle asker ∷ [] })
idle_fit log asker v = record {
  sound = record {
    sound_log = v.sound.sound_log;
    sound_sessions = All-push (SoundSession log) [] (idle asker) (All-nil (SoundSession log)) (record { label_made = refl; own = refl; begins = refl });
  };
  content = v.content;
  rooted = v.rooted;
  sessions = All-push (FitsSession log) [] (idle asker) (All-nil (FitsSession log)) (idle_fits log [] refl);
}

change_fit : (log : List Entry) (asker : ℕ) (line : List ℕ) → IsFit (closed_state log) → IsFit (closed_state (log ++ option_to_list (ask read_line log (idle asker) line).added))
change_fit log asker line v =
    let st : State = record { log = log; sessions = idle asker ∷ [] } in
    closed_fit (with_outcome st 1 (ask read_line log (idle asker) line)) (asked_fit read_line st (idle_fit log asker v) 1 line)

-- ---- a commit

-- what holds of all rows after writes, in their order, holds of the written ones
place_has : (g : Row → Bool) (s : Slot) (o : Option Row) (rows : List Row) → list_all g (place s o rows) ≡ true → list_all g (option_to_list o) ≡ true
place_has g s o [] h = h
place_has g s None (r ∷ rows) h = refl
place_has g s (Some x) (r ∷ rows) h = grind (arith, nat_tests, place_has g s (Some x) rows)

not_written : (s : Slot) (ws : List Write) → list_all (λ (v : Write). slot_lt s v.slot) ws ≡ true → is_written ws s ≡ false
not_written s ws up = any_none (λ (v : Write). slot_lt s v.slot) (λ (v : Write). is_same_slot v.slot s) ws up (λ v e. by v (is_same_slot v.slot s) refl e) where
  by : (v : Write) (b : Bool) → is_same_slot v.slot s ≡ b → slot_lt s v.slot ≡ true → b ≡ false
  by v false same e = refl
  by v true same e = absurd (false≢true (sym (slot_lt_itself s) ∙ ap (slot_lt s) (sym (slot_same v.slot s same)) ∙ e))

stands_here : (g : Row → Bool) (w : Write) (ws : List Write) (rows : List Row) → is_fitting w.slot w.row ≡ true → list_all (λ (v : Write). slot_lt w.slot v.slot) ws ≡ true
    → list_all g (after (place w.slot w.row rows) ws) ≡ true → list_all g (option_to_list w.row) ≡ true
stands_here g w ws rows fit up h = by w.row fit (place_has (λ (r : Row). is_written ws r.slot || g r) w.slot w.row rows (after_old g (place w.slot w.row rows) ws h)) where
  by : (o : Option Row) → is_fitting w.slot o ≡ true → list_all (λ (r : Row). is_written ws r.slot || g r) (option_to_list o) ≡ true → list_all g (option_to_list o) ≡ true
  by None fit h = refl
  by (Some r) fit h =
      let not : is_written ws r.slot ≡ false = ap (is_written ws) (slot_same r.slot w.slot fit) ∙ not_written w.slot ws up in
      grind (arith, nat_tests)

written_stand : (g : Row → Bool) (ws : List Write) (rows : List Row) → AreInPlace ws → list_all g (after rows ws) ≡ true → list_all (λ (w : Write). list_all g (option_to_list w.row)) ws ≡ true
written_stand g [] rows are h = refl
written_stand g (w ∷ ws) rows are h =
    let rises = are.rising in
    let fits = are.fitting in
    let up : list_all (λ (v : Write). slot_lt w.slot v.slot) ws ≡ true = grind (arith, nat_tests) in
    let fit : is_fitting w.slot w.row ≡ true = grind (arith, nat_tests) in
    let here = stands_here g w ws rows fit up h in
    let rest = written_stand g ws (place w.slot w.row rows) (record { rising = grind (arith, nat_tests); fitting = grind (arith, nat_tests) }) h in
    grind (arith, nat_tests)

-- rows that fit and have their parents name made slots alone
all_whole : (p : Public) (rows some : List Row) → list_all (row_fits p) rows ≡ true → list_all (row_fits p) some ≡ true → are_rooted rows some ≡ true → list_all (is_whole (is_made_slot (length (tags_of p)))) some ≡ true
all_whole p rows [] fit h rooted = refl
all_whole p rows (r ∷ some) fit h rooted =
    let parts : (row_fits p r ≡ true) × (list_all (row_fits p) some ≡ true) = grind (arith, nat_tests) in
    let parents : (list_all (live rows) r.refs ≡ true) × (are_rooted rows some ≡ true) = grind (arith, nat_tests) in
    let label = of_row r parts.0 in
    let refs = all_wider (live rows) (is_made_slot (length (tags_of p))) r.refs of_live parents.0 in
    let rest = all_whole p rows some fit parts.1 parents.1 in
    grind (arith, nat_tests)
  where
    of_row : (x : Row) → row_fits p x ≡ true → is_made_slot (length (tags_of p)) x.slot ≡ true
    of_row x e = grind (arith, nat_tests)

    of_live : (s : Slot) → live rows s ≡ true → is_made_slot (length (tags_of p)) s ≡ true
    of_live s e =
        any_meets_all (λ (x : Row). is_same_slot x.slot s) (row_fits p) (is_made_slot (length (tags_of p)) s) rows
        (λ x same k. ap (is_made_slot (length (tags_of p))) (sym (slot_same x.slot s same)) ∙ of_row x k) e fit

all_sound : (n : ℕ) (p : Public) (ws : List Write) → n ≡ length p.tags → AreInPlace ws → list_all (is_fit p) ws ≡ true → list_all (is_whole_write (is_made_slot n)) ws ≡ true → are_sound n ws ≡ true
all_sound n p [] e are fit whole = refl
all_sound n p (w ∷ ws) e are fit whole =
    let rises = are.rising in
    let fits = are.fitting in
    let one : (is_fit p w ≡ true) × (list_all (is_fit p) ws ≡ true) = grind (arith, nat_tests) in
    let made : are_made (length p.tags) w.slot.label ≡ true = grind (arith, nat_tests) in
    let here : is_made_slot n w.slot ≡ true = ap (λ m. are_made m w.slot.label) e ∙ made in
    let parts : (is_whole_write (is_made_slot n) w ≡ true) × (list_all (is_whole_write (is_made_slot n)) ws ≡ true) = grind (arith, nat_tests) in
    let rest = all_sound n p ws e (record { rising = grind (arith, nat_tests); fitting = grind (arith, nat_tests) }) one.1 parts.1 in
    grind (arith, nat_tests)

fit_of : (p : Public) (ws : List Write) → list_all (is_fit p) ws ≡ true → are_fit p ws ≡ true
fit_of p ws h = all_wider (is_fit p) (write_fits p) ws (λ w e. grind (arith, nat_tests)) h

commit_fit : (log : List Entry) (ws : List Write) → IsFit (closed_state log) → AreInPlace ws → commit_fits log ws ≡ true → IsFit (closed_state (log ++ commits ws ∷ []))
commit_fit log ws v are test =
    let p = public_of log in
    let rows = after (content_of log) ws in
    let parts : (list_all (is_fit p) ws ≡ true) × (are_rooted rows rows ≡ true) = grind (arith, nat_tests) in
    let fit = fit_of p ws parts.0 in
    let content = commit_content log ws v.content fit in
    let fitting : list_all (row_fits p) rows ≡ true = sym (λ i. list_all (row_fits (commit_public log ws i)) (commit_rows log ws i)) ∙ content in
    let n = tag_count log in
    let whole = written_stand (is_whole (is_made_slot n)) ws (content_of log) are (all_whole p rows rows fitting fitting parts.1) in
    let sound = all_sound n p ws (length-map p.tags _) are parts.0 whole in
    let one : all_commits (are_sound n) (commits ws ∷ []) ≡ true = grind (arith, nat_tests) in
    let all = commits_join (are_sound n) log (commits ws ∷ []) v.sound.sound_log.writes one in
    let same : all_tags (log ++ commits ws ∷ []) ≡ all_tags log = ap tags_of (commit_public log ws) in
    record {
      sound = record {
        sound_log = record {
          formed = subst AreWellFormed (sym same) v.sound.sound_log.formed;
          writes = subst (λ m. all_commits (are_sound m) (log ++ commits ws ∷ []) ≡ true) (ap length (sym same)) all;
        };
        sound_sessions = All-nil (SoundSession (log ++ commits ws ∷ []));
      };
      content = content;
      rooted = ap (λ x. are_rooted x x) (commit_rows log ws) ∙ parts.1;
      sessions = All-nil (FitsSession (log ++ commits ws ∷ []));
    }

-- ---- texts

pub none_behind : (texts : List (List ℕ)) → log_behind None texts ≡ None
none_behind [] = refl
none_behind (text ∷ texts) = ap (λ o. log_behind o texts) (by (record_of text)) ∙ none_behind texts where
  by : (o : Option RedoRecord) → with_record None o ≡ None
  by None = refl
  by (Some r) = refl

lost : (texts : List (List ℕ)) (log : List Entry) → log_behind None texts ≡ Some log → ⊥
lost texts log e = cc (none_behind texts, e)

-- the log behind which a text was restored
restored_one : (log : List Entry) (o : Option Entry) (texts : List (List ℕ)) (first : List Entry) → log_behind (longer log o) texts ≡ Some first → (e : Entry) × (o ≡ Some e) × (log_behind (Some (log ++ e ∷ [])) texts ≡ Some first)
restored_one log None texts first e = absurd (lost texts first e)
restored_one log (Some x) texts first e = (x, refl, e)

changed_one : (o : Option Change) (e : Entry) → entry_if o ≡ Some e → (c : Change) × (o ≡ Some c) × (e ≡ changes c)
changed_one None e k = absurd cc
changed_one (Some c) e k = let same : e ≡ changes c = cc in (c, refl, same)

added_one : (o : Option Entry) (c : Change) → change_of o ≡ Some c → o ≡ Some (changes c)
added_one None c k = absurd cc
added_one (Some (changes d)) c k = let same : d ≡ c = cc in ap (λ (x : Change). Some (changes x)) same
added_one (Some (commits ws)) c k = absurd cc

tested_one : (b : Bool) (ws : List Write) (e : Entry) → cond b (Some (commits ws)) None ≡ Some e → (b ≡ true) × (e ≡ commits ws)
tested_one true ws e k = let same : e ≡ commits ws = cc in (refl, same)
tested_one false ws e k = absurd cc

entry_fit : (log : List Entry) (text : List ℕ) (r : RedoRecord) (texts : List (List ℕ)) (first : List Entry) → record_of text ≡ Some r → IsFit (closed_state log)
    → log_behind (grown read_line commit_fits (Some log) r) texts ≡ Some first → (more : List Entry) × IsFit (closed_state more) × (log_behind (Some more) texts ≡ Some first)
entry_fit log text (redo.Change asker line) texts first is v e =
    let one = restored_one log (entry_if (redone read_line log asker line)) texts first e in
    let change = changed_one (redone read_line log asker line) one.0 one.1 in
    let added = added_one (ask read_line log (idle asker) line).added change.0 change.1 in
    let same : (ask read_line log (idle asker) line).added ≡ Some one.0 = added ∙ ap Some (sym change.2) in
    (log ++ one.0 ∷ [], subst (λ (o : Option Entry). IsFit (closed_state (log ++ option_to_list o))) same (change_fit log asker line v), one.2)
entry_fit log text (redo.Commit ws) texts first is v e =
    let one = restored_one log (cond (commit_fits log ws) (Some (commits ws)) None) texts first e in
    let test = tested_one (commit_fits log ws) ws one.0 one.1 in
    (log ++ one.0 ∷ [], subst (λ (x : Entry). IsFit (closed_state (log ++ x ∷ []))) (sym test.1) (commit_fit log ws v (read_in_place text ws is) test.0), one.2)

texts_fit : (texts : List (List ℕ)) (log first : List Entry) → IsFit (closed_state log) → log_behind (Some log) texts ≡ Some first → IsFit (closed_state first)
texts_fit [] log first v e = let same : log ≡ first = cc in subst (λ l. IsFit (closed_state l)) same v
texts_fit (text ∷ texts) log first v e = by (record_of text) refl e (texts_fit texts) where
  by : (o : Option RedoRecord) → record_of text ≡ o → log_behind (with_record (Some log) o) texts ≡ Some first → ((log first : List Entry) → IsFit (closed_state log) → log_behind (Some log) texts ≡ Some first → IsFit (closed_state first)) → IsFit (closed_state first)
  by None is k go = absurd (lost texts first k)
  by (Some r) is k go =
      let one = entry_fit log text r texts first is v k in
      go one.0 first one.1 one.2

-- whatever log texts restore, a run from it passes
pub restored_fit : (texts : List (List ℕ)) (first : List Entry) → log_behind (Some []) texts ≡ Some first → IsFit (closed_state first)
restored_fit texts first e = texts_fit texts [] first opening_fit e

-- and each of the texts is a record
pub restored_read : (texts : List (List ℕ)) (o : Option (List Entry)) (first : List Entry) → log_behind o texts ≡ Some first → (rs : List RedoRecord) × (map record_of texts ≡ map Some rs)
restored_read [] o first e = ([], refl)
restored_read (text ∷ texts) o first e = by (record_of text) refl e (restored_read texts) where
  by : (r : Option RedoRecord) → record_of text ≡ r → log_behind (with_record o r) texts ≡ Some first
      → ((o : Option (List Entry)) (first : List Entry) → log_behind o texts ≡ Some first → (rs : List RedoRecord) × (map record_of texts ≡ map Some rs))
      → (rs : List RedoRecord) × (map record_of (text ∷ texts) ≡ map Some rs)
  by None is k go = absurd (lost texts first k)
  by (Some r) is k go =
      let rest = go (with_record o (Some r)) first k in
      (r ∷ rest.0, λ i. is i ∷ rest.1 i)
