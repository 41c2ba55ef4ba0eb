-- The part of a state inside a level: a step outside leaves it, and what a step inside reads of a state is in it.
use Rattle.std.proofs.Common.{◌≡◌, ℕ, ◌-◌, zero, suc, Bool, true, false, List, [], ◌∷◌, ◌++◌, length, take, get_or, set, map, refl, sym, ap, ◌∙◌, arith, cond, ltb, Some, None, Option}
use Rattle.std.specs.Prelude.{All, not, option_to_list, is_some, nat_lt, slice_index_or, if◌then◌else◌}
use Rattle.std.proofs.lemmas.Bool.{false≢true}
use Rattle.std.proofs.lemmas.Bool.Decides.{nat_tests}
use Rattle.std.proofs.lemmas.List.{map-set, set-get_or, append-nil}
use Rattle.std.proofs.lemmas.List.Elements.{All-head, All-tail}
use Rattle.ifdb_label.specs.Tags.{MadeTag}
use Rattle.ifdb_label.proofs.LabelLaws.{flows-append}
use Rattle.ifdb_row.specs.declared.slot.Slot.{Slot}
use Rattle.ifdb_row.specs.declared.write.Write.{Write}
use Rattle.ifdb_row.specs.Sides.{writes_on, are_on}
use Rattle.ifdb_model.specs.Log.{Entry, changes, commits, all_tags}
use Rattle.ifdb_model.specs.Session.{Txn, Session, no_session, closed}
use Rattle.ifdb_model.specs.Step.{Reader, ask}
use Rattle.ifdb_model.specs.Run.{State, session_of, Step, opens, asks, refused, long, stray, leaves, with_outcome, with_session, next}
use Rattle.ifdb_model.specs.Low.{is_inside_slot, if_any, keep, reindex_txn, reindex, shown, Part, part, is_inside, asked}
use Rattle.ifdb_model.specs.Crossing.{crosses_at, crosses}
use Rattle.ifdb_laws.proofs.Logs.{all_commits, commits_take, keep_append, keep_more, reindex_more, begins_within, is_made_slot, new_tags, tags_append}
use Rattle.ifdb_laws.proofs.two_worlds.Outcomes.{tag_count, is_in, added_by, log_after, is_hidden}
use Rattle.ifdb_laws.proofs.two_worlds.Sound.{are_sound, SoundLog, SoundSession, Sound, sound_slots, commits_from, session_sound}
use Rattle.ifdb_laws.proofs.two_worlds.Facts.{line_hidden, stays_outside}

-- ---- a longer log leaves the part of what stood before

pub slots_made : (log : List Entry) → SoundLog log → all_commits (are_on (is_made_slot (tag_count log))) log ≡ true
slots_made log l = commits_from (are_sound (tag_count log)) (are_on (is_made_slot (tag_count log))) (sound_slots (tag_count log)) log l.writes

reindex_later : (level : List ℕ) (log more : List Entry) (o : Option Txn) → SoundLog log → begins_within (length log) o ≡ true
    → reindex_txn (all_tags log ++ new_tags more) level (log ++ more) o ≡ reindex_txn (all_tags log) level log o
reindex_later level log more None l b = refl
reindex_later level log more (Some x) l b =
    reindex_more (all_tags log ++ new_tags more) level log more (Some x) b
    ∙ ap (λ (kept : List Entry). Some (record { begin = length kept; own = x.own }))
    (keep_more (all_tags log) (new_tags more) level (take x.begin log) l.formed
    (commits_take (are_on (is_made_slot (tag_count log))) x.begin log (slots_made log l)))

shown_later : (level : List ℕ) (log more : List Entry) (s : Session) → SoundLog log → SoundSession log s
    → shown (all_tags log ++ new_tags more) level (log ++ more) s ≡ shown (all_tags log) level log s
shown_later level log more s l k =
    let one = flows-append (all_tags log) (new_tags more) l.formed s.label level k.label_made in
    let two = reindex_later level log more s.txn l k.begins in
    λ i. cond (one i) (Some (record s { txn = two i })) None

all_shown_later : (level : List ℕ) (log more : List Entry) → SoundLog log → (xs : List Session) → All (SoundSession log) xs
    → map (shown (all_tags log ++ new_tags more) level (log ++ more)) xs ≡ map (shown (all_tags log) level log) xs
all_shown_later level log more l [] h = refl
all_shown_later level log more l (s ∷ xs) h =
    let one = shown_later level log more s l (All-head (SoundSession log) s xs h) in
    let two = all_shown_later level log more l xs (All-tail (SoundSession log) s xs h) in
    cc

pub sessions_later : (level : List ℕ) (st : State) → Sound st → (more : List Entry)
    → map (shown (all_tags (st.log ++ more)) level (st.log ++ more)) st.sessions ≡ map (shown (all_tags st.log) level st.log) st.sessions
sessions_later level st v more =
    ap (λ tags. map (shown tags level (st.log ++ more)) st.sessions) (tags_append st.log more)
    ∙ all_shown_later level st.log more v.sound_log st.sessions v.sound_sessions

pub keep_later : (level : List ℕ) (log more : List Entry) → SoundLog log
    → keep (all_tags (log ++ more)) level (log ++ more) ≡ keep (all_tags log) level log ++ keep (all_tags log ++ new_tags more) level more
keep_later level log more l =
    ap (λ tags. keep tags level (log ++ more)) (tags_append log more)
    ∙ keep_append (all_tags log ++ new_tags more) level log more
    ∙ ap (λ kept. kept ++ keep (all_tags log ++ new_tags more) level more) (keep_more (all_tags log) (new_tags more) level log l.formed (slots_made log l))

-- ---- a step outside

none_kept : (side : Slot → Bool) (ws : List Write) → are_on (λ s. not (side s)) ws ≡ true → writes_on side ws ≡ []
none_kept side [] h = refl
none_kept side (w ∷ ws) h = grind (arith, nat_tests, none_kept side ws)

keep_hidden : (tags : List MadeTag) (level : List ℕ) (o : Option Entry) → is_hidden (is_inside_slot tags level) o ≡ true
    → keep (tags ++ new_tags (option_to_list o)) level (option_to_list o) ≡ []
keep_hidden tags level None h = refl
keep_hidden tags level (Some (changes c)) h = absurd (false≢true h)
keep_hidden tags level (Some (commits ws)) h =
    ap (λ u. keep u level (commits ws ∷ [])) (append-nil tags) ∙ ap (λ (kept : List Write). if_any kept ++ []) (none_kept (is_inside_slot tags level) ws h)

shown_outside : (level : List ℕ) (log : List Entry) (s : Session) → is_in log level s ≡ false → shown (all_tags log) level log s ≡ None
shown_outside level log s h = rw h refl

set_outside : (f g : Session → Option Session) (xs : List Session) (i : ℕ) (s : Session) → map f xs ≡ map g xs → f s ≡ None → g (get_or xs i no_session) ≡ None
    → map f (set xs i s) ≡ map g xs
set_outside f g xs i s e h k =
    map-set f xs i s ∙ (λ j. set (e j) i (h j)) ∙ ap (set (map g xs) i) (sym k) ∙ sym (map-set g xs i (get_or xs i no_session))
    ∙ ap (map g) (set-get_or xs i no_session)

-- a session outside has a place
pub outside_place : (level : List ℕ) (st : State) (n : ℕ) → is_inside level st n ≡ false → session_of st n ≡ get_or st.sessions (n - 1) no_session
outside_place level st n h = by (ltb 0 n) refl where
  by : (b : Bool) → ltb 0 n ≡ b → session_of st n ≡ get_or st.sessions (n - 1) no_session
  by true e = rw e refl
  by false e = absurd (false≢true (sym h ∙ rw e refl))

asked_outside : (read : Reader) (level : List ℕ) (st : State) → Sound st → (n : ℕ) (line : List ℕ) → crosses_at read level st.log (session_of st n) line ≡ false
    → is_inside level st n ≡ false
    → part level (with_outcome st n (ask read st.log (session_of st n) line)) ≡ part level st
asked_outside read level st v n line q h =
    let s = session_of st n in
    let l = v.sound_log in
    let k = session_sound st v n in
    let o = ask read st.log s line in
    let more = added_by read st.log s line in
    let later = log_after read st.log s line in
    let kept = keep (all_tags st.log) level st.log in
    let show = shown (all_tags st.log) level st.log in
    let none = keep_hidden (all_tags st.log) level o.added (line_hidden level st.log s l k h read line) in
    let logs = keep_later level st.log more l ∙ ap (λ added. kept ++ added) none ∙ append-nil kept in
    let here = shown_outside level later o.session (stays_outside read level st.log s line l k q h) in
    let there = ap show (sym (outside_place level st n h)) ∙ shown_outside level st.log s h in
    let sessions = set_outside (shown (all_tags later) level later) show st.sessions (n - 1) o.session (sessions_later level st v more) here there in
    λ i. record { log = logs i; sessions = sessions i }

left_outside : (level : List ℕ) (st : State) (n : ℕ) → is_inside level st n ≡ false → part level (with_session st n (closed (session_of st n))) ≡ part level st
left_outside level st n h =
    let here = shown_outside level st.log (closed (session_of st n)) h in
    let show = shown (all_tags st.log) level st.log in
    let there = ap show (sym (outside_place level st n h)) ∙ shown_outside level st.log (session_of st n) h in
    let sessions = set_outside show show st.sessions (n - 1) (closed (session_of st n)) refl here there in
    λ i. record { log = keep (all_tags st.log) level st.log; sessions = sessions i }

pub step_outside : (read : Reader) (level : List ℕ) (st : State) (x : Step) → Sound st → asked level st x ≡ false → crosses read level st x ≡ false
    → part level (next read st x) ≡ part level st
step_outside read level st opens v h q = absurd (false≢true (sym h))
step_outside read level st (asks n line) v h q = by (session_of st n).is_open refl where
  by : (b : Bool) → (session_of st n).is_open ≡ b → part level (cond b (with_outcome st n (ask read st.log (session_of st n) line)) st) ≡ part level st
  by true e = asked_outside read level st v n line (rw e at q) h
  by false e = refl
step_outside read level st (refused n) v h q = refl
step_outside read level st long v h q = absurd (false≢true (sym h))
step_outside read level st stray v h q = absurd (false≢true (sym h))
step_outside read level st (leaves n) v h q = by (session_of st n).is_open where
  by : (b : Bool) → part level (cond b (with_session st n (closed (session_of st n))) st) ≡ part level st
  by true = left_outside level st n h
  by false = refl

-- ---- what a step inside reads is in the part

-- the session of a number, where it is inside
abbrev pub part_session : Part → ℕ → Option Session
part_session p n = if nat_lt 0 n then slice_index_or p.sessions (n - 1) (Some no_session) else Some no_session

get_map : {X Y : Type 0} (f : X → Y) (xs : List X) (i : ℕ) (d : X) (e : Y) → f d ≡ e → get_or (map f xs) i e ≡ f (get_or xs i d)
get_map f [] i d e h = sym h
get_map f (x ∷ xs) zero d e h = refl
get_map f (x ∷ xs) (suc i) d e h = get_map f xs i d e h

pub part_session_is : (level : List ℕ) (st : State) (n : ℕ) → part_session (part level st) n ≡ shown (all_tags st.log) level st.log (session_of st n)
part_session_is level st n = by (ltb 0 n) where
  by : (b : Bool) → cond b (get_or (map (shown (all_tags st.log) level st.log) st.sessions) (n - 1) (Some no_session)) (Some no_session)
      ≡ shown (all_tags st.log) level st.log (cond b (get_or st.sessions (n - 1) no_session) no_session)
  by true = get_map (shown (all_tags st.log) level st.log) st.sessions (n - 1) no_session (Some no_session) refl
  by false = refl

-- whether a step is asked inside
abbrev pub part_asked : Part → Step → Bool
part_asked p opens = true
part_asked p (asks n line) = is_some (part_session p n)
part_asked p (refused n) = is_some (part_session p n)
part_asked p long = true
part_asked p stray = true
part_asked p (leaves n) = is_some (part_session p n)

inside_is : (level : List ℕ) (st : State) (n : ℕ) → is_inside level st n ≡ is_some (part_session (part level st) n)
inside_is level st n =
    by (is_in st.log level (session_of st n)) (reindex (all_tags st.log) level st.log (session_of st n)) ∙ ap is_some (sym (part_session_is level st n)) where
      by : (b : Bool) (s : Session) → b ≡ is_some (cond b (Some s) None)
      by true s = refl
      by false s = refl

pub asked_is : (level : List ℕ) (st : State) (x : Step) → asked level st x ≡ part_asked (part level st) x
asked_is level st opens = refl
asked_is level st (asks n line) = inside_is level st n
asked_is level st (refused n) = inside_is level st n
asked_is level st long = refl
asked_is level st stray = refl
asked_is level st (leaves n) = inside_is level st n

pub shown_inside : (level : List ℕ) (st : State) (n : ℕ) → is_inside level st n ≡ true
    → part_session (part level st) n ≡ Some (reindex (all_tags st.log) level st.log (session_of st n))
shown_inside level st n h = part_session_is level st n ∙ rw h refl
