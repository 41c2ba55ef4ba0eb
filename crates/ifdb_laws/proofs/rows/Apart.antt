-- In every run keys stand apart.
use Rattle.std.proofs.Common.{◌≡◌, ℕ, ◌-◌, ◌≤◌, zero, suc, Bool, true, false, List, [], ◌∷◌, ◌++◌, length, take, refl, sym, ap, ◌∙◌, arith, cond, ◌&&◌, ◌||◌, subst, Some, None, Option, inl, inr}
use Rattle.std.specs.Prelude.{not, option_to_list, All}
use Rattle.std.specs.List.{list_all}
use Rattle.std.proofs.lemmas.Bool.{cases_lt, leb-true}
use Rattle.std.proofs.lemmas.Bool.Decides.{nat_tests}
use Rattle.std.proofs.lemmas.List.{take-append-le, take_all, length-append}
use Rattle.std.proofs.lemmas.List.Elements.{All-nil, All-set, All-push, All-weaker}
use Rattle.ifdb_label.specs.Tags.{MadeTag, are_made}
use Rattle.ifdb_label.specs.Label.{flows}
use Rattle.ifdb_row.specs.declared.slot.Slot.{Slot}
use Rattle.ifdb_row.specs.declared.row.Row.{Row}
use Rattle.ifdb_row.specs.declared.write.Write.{Write}
use Rattle.ifdb_row.specs.Slots.{is_of_key}
use Rattle.ifdb_row.specs.Writes.{is_fitting, are_fitting, is_written}
use Rattle.ifdb_row.specs.Content.{after, live}
use Rattle.ifdb_row.specs.Sides.{are_on}
use Rattle.ifdb_value.proofs.Lists.{all_wider}
use Rattle.ifdb_row.proofs.SlotOrder.{slot_same, slot_itself}
use Rattle.ifdb_row.proofs.ContentLaws.{all-after}
use Rattle.ifdb_row.proofs.LiveLaws.{all_live, brings, live_cases}
use Rattle.ifdb_row.proofs.KeyLaws.{shares_key, is_clear, are_fresh, brought}
use Rattle.ifdb_model.specs.Log.{Entry, commits, all_tags, content_of}
use Rattle.ifdb_model.specs.Session.{Txn, Session, new_session, no_session, closed}
use Rattle.ifdb_model.specs.Step.{Reader, ask}
use Rattle.ifdb_model.specs.Run.{State, opening, session_of, Step, opens, asks, refused, long, stray, leaves, with_outcome, with_session, next, run}
use Rattle.ifdb_laws.specs.RowLaws.{is_apart, are_apart, KeysApart}
use Rattle.ifdb_laws.proofs.Shapes.{shape}
use Rattle.ifdb_laws.proofs.Logs.{all_commits, txn_all, begins_within, is_made_slot}
use Rattle.ifdb_laws.proofs.two_worlds.Outcomes.{added_by, log_after}
use Rattle.ifdb_laws.proofs.two_worlds.Sound.{are_sound, sound_fits, sound_slots, SoundLog, SoundSession, Sound, commits_from, txn_from, line_tidy, log_stays_sound, later_sound, session_stays_sound, asked_sound, left_sound, next_sound, opening_sound}
use Rattle.ifdb_laws.proofs.rows.Runs.{session_has, added_fits}
use Rattle.ifdb_laws.proofs.rows.Fresh.{txn_fresh, adds_fresh, Fronts, outcome_fresh}

-- the rows that the writes give stand at written slots
given_one : (q : Row → Bool) (s : Slot) (o : Option Row) → is_fitting s o ≡ true → ((r : Row) → r.slot ≡ s → q r ≡ true) → list_all q (option_to_list o) ≡ true
given_one q s None f k = refl
given_one q s (Some r) f k = let x = k r (slot_same r.slot s f) in grind (arith, nat_tests)

given_written : (q : Row → Bool) (ws vs : List Write) → are_fitting vs ≡ true → ((s : Slot) → is_written vs s ≡ true → is_written ws s ≡ true) → ((r : Row) → is_written ws r.slot ≡ true → q r ≡ true)
    → list_all (λ (w : Write). list_all q (option_to_list w.row)) vs ≡ true
given_written q ws [] f h k = refl
given_written q ws (v ∷ vs) f h k =
    let itself = slot_itself v.slot in
    let there : is_written ws v.slot ≡ true = h v.slot (grind (arith, nat_tests)) in
    let one = given_one q v.slot v.row (grind (arith, nat_tests)) (λ r e. k r (ap (is_written ws) e ∙ there)) in
    let more = given_written q ws vs (grind (arith, nat_tests)) (λ s e. h s (grind (arith, nat_tests))) k in
    grind (arith, nat_tests)

-- fresh writes keep keys apart
apart_one : (tags : List MadeTag) (before : List Row) (ws : List Write) → are_fitting ws ≡ true → are_fresh tags before ws ≡ true → (x : Row) → live (after before ws) x.slot ≡ true
    → is_apart tags before ws (after before ws) x ≡ true
apart_one tags before ws f h x e =
    let q : Row → Bool = λ r. is_written ws r.slot || not (is_of_key x.slot.table x.slot.key r.slot && flows tags r.slot.label x.slot.label) in
    let cases = live_cases before ws x.slot f e in
    let came : brings ws x.slot ≡ true → live before x.slot || is_clear tags before (is_written ws) x.slot ≡ true = brought tags before ws ws x.slot h in
    let clear : is_clear tags before (is_written ws) x.slot ≡ true → list_all q (after before ws) ≡ true =
    λ i. all-after q before ws (given_written q ws ws f (λ s j. j) (λ r j. grind (arith, nat_tests)))
    (all_wider (λ (r : Row). not (shares_key tags r x.slot) || is_written ws r.slot) q before (λ r j. grind (arith, nat_tests)) i) in
    grind (arith, nat_tests, cases, came, clear)

fresh_apart : (tags : List MadeTag) (before : List Row) (ws : List Write) → are_fitting ws ≡ true → are_fresh tags before ws ≡ true → are_apart tags before ws ≡ true
fresh_apart tags before ws f h =
    all_wider (λ (x : Row). live (after before ws) x.slot) (is_apart tags before ws (after before ws)) (after before ws) (apart_one tags before ws f h) (all_live (after before ws))

-- ---- runs

-- each front of the log is sound
abbrev SoundFronts : List Entry → Type 0
SoundFronts log = (b : ℕ) → SoundLog (take b log)

-- a session is sound, and its own writes are fresh
record Both (log : List Entry) (s : Session) : Type 0 where
  pub sound : SoundSession log s
  pub fresh : txn_fresh log s.txn ≡ true

record Keyed (st : State) : Type 0 where
  pub sound : Sound st
  pub fronts : SoundFronts st.log
  pub sessions : All (Both st.log) st.sessions

fronts_of : (log : List Entry) → SoundLog log → SoundFronts log → Fronts log
fronts_of log l k = record {
  formed = l.formed;
  fits = commits_from (are_sound (length (all_tags log))) are_fitting (sound_fits (length (all_tags log))) log l.writes;
  made = λ b. commits_from (are_sound (length (all_tags (take b log)))) (are_on (is_made_slot (length (all_tags (take b log))))) (sound_slots (length (all_tags (take b log)))) (take b log) (k b).writes;
}

one_at_most : (a : Option Entry) → length (option_to_list a) ≤ 1
one_at_most None = omega arith
one_at_most (Some e) = omega arith

fronts_grow : (log : List Entry) (a : Option Entry) → SoundFronts log → SoundLog (log ++ option_to_list a) → SoundFronts (log ++ option_to_list a)
fronts_grow log a k l b =
    let P : List Entry → Type 0 = λ x. SoundLog x in
    elim (cases_lt (length log) b) [
      | inr le ↦ subst P (sym (take-append-le b log (option_to_list a) le)) (k b)
      | inl lt ↦ let few = one_at_most a in
          let le : length (log ++ option_to_list a) ≤ b = simp length-append (omega arith) in
          subst P (sym (take_all b (log ++ option_to_list a) le)) l
    ]

fresh_grows : (log a : List Entry) (o : Option Txn) → begins_within (length log) o ≡ true → txn_fresh log o ≡ true → txn_fresh (log ++ a) o ≡ true
fresh_grows log a None b h = refl
fresh_grows log a (Some x) b h = let le = leb-true x.begin (length log) b in ap (λ l. are_fresh (all_tags l) (content_of l) x.own) (take-append-le x.begin log a le) ∙ h

no_txn : (log : List Entry) (s : Session) → are_made (length (all_tags log)) s.label ≡ true → s.txn ≡ None → Both log s
no_txn log s m e = record {
  sound = record { label_made = m; own = ap (txn_all (are_sound (length (all_tags log)))) e; begins = ap (begins_within (length log)) e };
  fresh = ap (txn_fresh log) e;
}

both_at : (st : State) → Keyed st → (n : ℕ) → Both st.log (session_of st n)
both_at st v n = session_has (Both st.log) st v.sessions (no_txn st.log no_session refl refl) n

line_fresh : (read : Reader) (st : State) (v : Keyed st) (n : ℕ) (line : List ℕ)
    → (txn_fresh st.log (ask read st.log (session_of st n) line).session.txn ≡ true) × (adds_fresh st.log (ask read st.log (session_of st n) line).added ≡ true)
line_fresh read st v n line =
    let s = session_of st n in
    let k = both_at st v n in
    outcome_fresh st.log s (read line) (fronts_of st.log v.sound.sound_log v.fronts) (txn_from (are_sound (length (all_tags st.log))) are_fitting (sound_fits (length (all_tags st.log))) s.txn k.sound.own) k.fresh
    (ask read st.log s line) (shape read st.log s line)

asked_keyed : (read : Reader) (st : State) → Keyed st → (n : ℕ) (line : List ℕ) → Keyed (with_outcome st n (ask read st.log (session_of st n) line))
asked_keyed read st v n line =
    let s = session_of st n in
    let k = (both_at st v n).sound in
    let o = ask read st.log s line in
    let more = added_by read st.log s line in
    let later = log_after read st.log s line in
    let l = v.sound.sound_log in
    record {
      sound = asked_sound read st v.sound n line;
      fronts = fronts_grow st.log o.added v.fronts (log_stays_sound st.log s l k read line);
      sessions =
          let here : Both later o.session = record {
            sound = session_stays_sound st.log s l k read line;
            fresh = fresh_grows st.log more o.session.txn (line_tidy st.log s l k read line).begins (line_fresh read st v n line).0;
          } in
          let others = All-weaker (Both st.log) (Both later)
          (λ u b. record { sound = later_sound st.log more u b.sound; fresh = fresh_grows st.log more u.txn b.sound.begins b.fresh }) st.sessions v.sessions in
          All-set (Both later) st.sessions (n - 1) o.session here others;
    }

either : (b : Bool) (st u : State) → Keyed st → Keyed u → Keyed (cond b st u)
either true st u h k = h
either false st u h k = k

left_keyed : (st : State) → Keyed st → (n : ℕ) → Keyed (with_session st n (closed (session_of st n)))
left_keyed st v n = record {
  sound = left_sound st v.sound n;
  fronts = v.fronts;
  sessions = All-set (Both st.log) st.sessions (n - 1) (closed (session_of st n)) (no_txn st.log (closed (session_of st n)) (both_at st v n).sound.label_made refl) v.sessions;
}

next_keyed : (read : Reader) (st : State) (x : Step) → Keyed st → Keyed (next read st x)
next_keyed read st opens v = record { sound = next_sound read st opens v.sound; fronts = v.fronts; sessions = All-push (Both st.log) st.sessions new_session v.sessions (no_txn st.log new_session refl refl) }
next_keyed read st (asks n line) v = either (session_of st n).is_open (with_outcome st n (ask read st.log (session_of st n) line)) st (asked_keyed read st v n line) v
next_keyed read st (refused n) v = v
next_keyed read st long v = v
next_keyed read st stray v = v
next_keyed read st (leaves n) v = either (session_of st n).is_open (with_session st n (closed (session_of st n))) st (left_keyed st v n) v

run_keyed : (read : Reader) (steps : List Step) (st : State) → Keyed st → Keyed (run read st steps)
run_keyed read [] st v = v
run_keyed read (x ∷ steps) st v = run_keyed read steps (next read st x) (next_keyed read st x v)

opening_keyed : Keyed opening
opening_keyed = record { sound = opening_sound; fronts = none; sessions = All-nil (Both []) } where
  none : (b : ℕ) → SoundLog (take b [])
  none zero = opening_sound.sound_log
  none (suc b) = opening_sound.sound_log

pub keys_apart_lem : KeysApart
keys_apart_lem read steps n line ws e =
    let st = run read opening steps in
    let v = run_keyed read steps opening opening_keyed in
    let s = session_of st n in
    let fits : all_commits are_fitting (commits ws ∷ []) ≡ true =
    ap (λ a. all_commits are_fitting (option_to_list a)) (sym e)
    ∙ added_fits st.log s (read line) (ask read st.log s line) (shape read st.log s line) (txn_from (are_sound (length (all_tags st.log))) are_fitting (sound_fits (length (all_tags st.log))) s.txn (both_at st v n).sound.own) in
    fresh_apart (all_tags st.log) (content_of st.log) ws (grind (arith, nat_tests)) (ap (adds_fresh st.log) (sym e) ∙ (line_fresh read st v n line).1)
