-- What holds in each state of a run without a crossing: writes stand on one side of the level with their parents, each
-- commit is on one side, and a session inside has written inside alone.
use Rattle.std.proofs.Common.{◌≡◌, ℕ, ◌-◌, Bool, true, false, List, [], ◌∷◌, ◌++◌, length, refl, sym, ap, ◌∙◌, arith, cond, ◌||◌, Some, None, Ok, Err, Option, Result, inl, inr}
use Rattle.std.specs.Prelude.{All, not, option_to_list}
use Rattle.std.specs.List.{list_all}
use Rattle.std.proofs.lemmas.Bool.{false≢true, not-false, cases_Bool}
use Rattle.std.proofs.lemmas.Bool.Decides.{nat_tests}
use Rattle.std.proofs.lemmas.List.Elements.{All-nil, All-cons, All-head, All-tail, All-set, All-push}
use Rattle.ifdb_label.specs.Tags.{MadeTag, are_made, AreWellFormed}
use Rattle.ifdb_label.specs.Label.{flows}
use Rattle.ifdb_label.proofs.LabelLaws.{flows_trans, flows-append}
use Rattle.ifdb_row.specs.declared.slot.Slot.{Slot}
use Rattle.ifdb_row.specs.declared.row.Row.{Row}
use Rattle.ifdb_row.specs.declared.write.Write.{Write}
use Rattle.ifdb_row.specs.Sides.{are_alike, are_on, is_sided, is_sided_write, are_sided_writes}
use Rattle.ifdb_value.proofs.Lists.{all_same_on}
use Rattle.ifdb_bound.specs.declared.request.Bound.{Bound}
use Rattle.ifdb_syntax.specs.declared.request.Request.{Request}
use Rattle.ifdb_wire.specs.declared.fault.Fault.{Fault}
use Rattle.ifdb_model.specs.Log.{Entry, changes, commits, all_tags}
use Rattle.ifdb_model.specs.Session.{Txn, Session, new_session, no_session, closed, seen}
use Rattle.ifdb_model.specs.Writes.{Written, given_of}
use Rattle.ifdb_model.specs.Step.{Reader, ask}
use Rattle.ifdb_model.specs.Run.{State, opening, session_of, Step, opens, asks, refused, long, stray, leaves, with_outcome, with_session, next, run}
use Rattle.ifdb_model.specs.Low.{is_inside_slot}
use Rattle.ifdb_model.specs.Crossing.{names_out, binds_in, refers_inside, crosses_by, crosses_at, crosses, quiet}
use Rattle.ifdb_laws.specs.OneSide.{are_together}
use Rattle.ifdb_laws.proofs.Shapes.{IsWrite, shape}
use Rattle.ifdb_laws.proofs.Statements.{is_good, writes_good}
use Rattle.ifdb_laws.proofs.Sided.{is_whole, written_all, writes_sided, outside_sided}
use Rattle.ifdb_laws.proofs.Logs.{all_commits, txn_all, is_made_slot, seen_all, seen_widens, new_tags, tags_append}
use Rattle.ifdb_laws.proofs.Alike.{Fit}
use Rattle.ifdb_laws.proofs.rows.Runs.{session_has}
use Rattle.ifdb_laws.proofs.two_worlds.Outcomes.{tag_count, side_by, is_in, writes_by, added_by, log_after, PassesWrites, outcome_writes, is_hidden, outcome_hidden}
use Rattle.ifdb_laws.proofs.two_worlds.Sound.{is_sound_write, are_sound, SoundLog, SoundSession, Sound, sound_fits, commits_from, txn_from, commits_join, line_tidy, log_sound_before, own_sound_before, session_sound, asked_sound, left_sound, next_sound, opening_sound}

pub record SidedLog (level : List ℕ) (log : List Entry) : Type 0 where
  pub sided : all_commits (are_sided_writes (side_by log level)) log ≡ true
  pub together : all_commits (are_together (side_by log level)) log ≡ true

-- a session beside a log
pub record SidedSession (level : List ℕ) (log : List Entry) (s : Session) : Type 0 where
  pub sided : txn_all (are_sided_writes (side_by log level)) s.txn ≡ true
  pub own_inside : is_in log level s ≡ true → txn_all (are_on (side_by log level)) s.txn ≡ true

pub record Facts (level : List ℕ) (st : State) : Type 0 where
  pub sound : Sound st
  pub sided_log : SidedLog level st.log
  pub sided_sessions : All (SidedSession level st.log) st.sessions

-- ---- new tags leave all sound writes on their sides

module _ (tags more : List MadeTag) (level : List ℕ) (w : AreWellFormed tags) where
  abbrev now : Slot → Bool
  now = is_inside_slot tags level

  abbrev later : Slot → Bool
  later = is_inside_slot (tags ++ more) level

  same_side : (s : Slot) → is_made_slot (length tags) s ≡ true → later s ≡ now s
  same_side s m = flows-append tags more w s.label level m

  same_row : (r : Row) → is_whole (is_made_slot (length tags)) r ≡ true → is_sided later r ≡ is_sided now r
  same_row r m =
      let parts : (is_made_slot (length tags) r.slot ≡ true) × (list_all (is_made_slot (length tags)) r.refs ≡ true) = grind (arith, nat_tests) in
      all_same_on (is_made_slot (length tags)) (λ p. are_alike (later r.slot) (later p)) (λ p. are_alike (now r.slot) (now p)) r.refs parts.1
      (λ p e i. are_alike (same_side r.slot parts.0 i) (same_side p e i))

  same_write : (v : Write) → is_sound_write (length tags) v ≡ true → is_sided_write later v ≡ is_sided_write now v
  same_write v m =
      all_same_on (is_whole (is_made_slot (length tags))) (is_sided later) (is_sided now) (option_to_list v.row) (grind (arith, nat_tests)) same_row

  same_writes : (ws : List Write) → are_sound (length tags) ws ≡ true → are_sided_writes later ws ≡ are_sided_writes now ws
  same_writes ws m = all_same_on (is_sound_write (length tags)) (is_sided_write later) (is_sided_write now) ws m same_write

  same_on : (ws : List Write) → are_sound (length tags) ws ≡ true → are_on later ws ≡ are_on now ws
  same_on ws m =
      all_same_on (is_sound_write (length tags)) (λ (v : Write). later v.slot) (λ (v : Write). now v.slot) ws m
      (λ v e. same_side v.slot (grind (arith, nat_tests)))

  same_off : (ws : List Write) → are_sound (length tags) ws ≡ true → are_on (λ s. not (later s)) ws ≡ are_on (λ s. not (now s)) ws
  same_off ws m =
      all_same_on (is_sound_write (length tags)) (λ (v : Write). not (later v.slot)) (λ (v : Write). not (now v.slot)) ws m
      (λ v e. ap not (same_side v.slot (grind (arith, nat_tests))))

  same_together : (ws : List Write) → are_sound (length tags) ws ≡ true → are_together later ws ≡ are_together now ws
  same_together ws m = λ i. same_on ws m i || same_off ws m i

  -- of the commits of a log, and of a transaction
  same_commits : (f g : List Write → Bool) → ((ws : List Write) → are_sound (length tags) ws ≡ true → f ws ≡ g ws) → (log : List Entry)
      → all_commits (are_sound (length tags)) log ≡ true → all_commits f log ≡ all_commits g log
  same_commits f g h log m = all_same_on (are_sound (length tags)) f g (Rattle.ifdb_model.specs.Log.commits_of log) m h

  same_txn : (f g : List Write → Bool) → ((ws : List Write) → are_sound (length tags) ws ≡ true → f ws ≡ g ws) → (o : Option Txn)
      → txn_all (are_sound (length tags)) o ≡ true → txn_all f o ≡ txn_all g o
  same_txn f g h None m = refl
  same_txn f g h (Some x) m = h x.own m

  grown_log : (log : List Entry) → all_commits (are_sound (length tags)) log ≡ true → all_commits (are_sided_writes now) log ≡ true
      → all_commits (are_sided_writes later) log ≡ true
  grown_log log m h = same_commits (are_sided_writes later) (are_sided_writes now) same_writes log m ∙ h

  grown_together : (log : List Entry) → all_commits (are_sound (length tags)) log ≡ true → all_commits (are_together now) log ≡ true
      → all_commits (are_together later) log ≡ true
  grown_together log m h = same_commits (are_together later) (are_together now) same_together log m ∙ h

  grown_sided : (o : Option Txn) → txn_all (are_sound (length tags)) o ≡ true → txn_all (are_sided_writes now) o ≡ true
      → txn_all (are_sided_writes later) o ≡ true
  grown_sided o m h = same_txn (are_sided_writes later) (are_sided_writes now) same_writes o m ∙ h

  grown_inside : (o : Option Txn) → txn_all (are_sound (length tags)) o ≡ true → txn_all (are_on now) o ≡ true → txn_all (are_on later) o ≡ true
  grown_inside o m h = same_txn (are_on later) (are_on now) same_on o m ∙ h

-- a session beside a longer log
pub later_session : (log more : List Entry) (level : List ℕ) (u : Session) → AreWellFormed (all_tags log) → are_made (tag_count log) u.label ≡ true
    → txn_all (are_sound (tag_count log)) u.txn ≡ true
    → SidedSession level log u → SidedSession level (log ++ more) u
later_session log more level u w m own e = record {
  sided =
      ap (λ tags. txn_all (are_sided_writes (is_inside_slot tags level)) u.txn) (tags_append log more)
      ∙ grown_sided (all_tags log) (new_tags more) level w u.txn own e.sided;
  own_inside = λ h.
      let before = sym (flows-append (all_tags log) (new_tags more) w u.label level m) ∙ ap (λ tags. flows tags u.label level) (sym (tags_append log more))
      ∙ h in
      ap (λ tags. txn_all (are_on (is_inside_slot tags level)) u.txn) (tags_append log more)
      ∙ grown_inside (all_tags log) (new_tags more) level w u.txn own (e.own_inside before);
}

-- ---- what a line writes

module _ (level : List ℕ) (log : List Entry) (s : Session) (l : SoundLog log) (k : SoundSession log s) where
  abbrev side : Slot → Bool
  side = side_by log level

  at_inside : is_in log level s ≡ true → (t : Slot) → t.label ≡ s.label → side t ≡ true
  at_inside h t e = ap (λ label. flows (all_tags log) label level) e ∙ h

  at_outside : is_in log level s ≡ false → (t : Slot) → t.label ≡ s.label → not (side t) ≡ true
  at_outside h t e = ap not (ap (λ label. flows (all_tags log) label level) e ∙ h)

  good_on : (on : Slot → Bool) (o : Result Written Fault) → is_good on o ≡ true → written_all (λ (w : Write). on w.slot) o ≡ true
  good_on on (Err f) h = refl
  good_on on (Ok x) h = grind (arith, nat_tests)

  writes_at : (on : Slot → Bool) → ((t : Slot) → t.label ≡ s.label → on t ≡ true) → (line : Result Request Fault)
      → PassesWrites (λ (w : Write). on w.slot) log s line
  writes_at on at line asker r b i =
      good_on on (writes_by log s asker b) (writes_good (seen log s).public asker (seen log s).rows s.label on at b)

  pub line_hidden : is_in log level s ≡ false → (read : Reader) (line : List ℕ) → is_hidden (side_by log level) (ask read log s line).added ≡ true
  line_hidden h read line =
      outcome_hidden level log s (read line) (flows_trans (all_tags log) l.formed) h (writes_at (λ t. not (side t)) (at_outside h) (read line))
      (ask read log s line) (shape read log s line)

  line_inside : is_in log level s ≡ true → txn_all (are_on (side_by log level)) s.txn ≡ true → (read : Reader) (line : List ℕ)
      → (txn_all (are_on (side_by log level)) (ask read log s line).session.txn ≡ true)
      × (all_commits (are_on (side_by log level)) (added_by read log s line) ≡ true)
  line_inside h own read line =
      let new = writes_at side (at_inside h) (read line) in
      let both = outcome_writes (λ (w : Write). side w.slot) log s (read line) own new (ask read log s line) (shape read log s line) in
      grind (arith, nat_tests)

  module _ (d : SidedLog level log) (e : SidedSession level log s) where
    pub seen_sided : list_all (is_sided (side_by log level)) (seen log s).rows ≡ true
    seen_sided = seen_all (is_sided (side_by log level)) log s.txn d.sided e.sided

    outside_writes : (o : Result Written Fault) → is_good (λ t. not (side t)) o ≡ true → refers_inside (all_tags log) level o ≡ false
        → written_all (is_sided_write side) o ≡ true
    outside_writes (Err f) g n = refl
    outside_writes (Ok x) g n = outside_sided side x.writes g n

    by_side : (asker : ℕ) (b : Bound) (c : Bool) → is_in log level s ≡ c
        → cond c (not (flows (all_tags log) (given_of b) level)) (refers_inside (all_tags log) level (writes_by log s asker b)) ≡ false
        → written_all (is_sided_write side) (writes_by log s asker b) ≡ true
    by_side asker b true h q =
        writes_sided (all_tags log) level (seen log s).public (seen_widens log s.txn l.formed) asker (seen log s).rows s.label b h
        (not-false (flows (all_tags log) (given_of b) level) q) seen_sided
    by_side asker b false h q =
        outside_writes (writes_by log s asker b) (writes_good (seen log s).public asker (seen log s).rows s.label (λ t. not (side t)) (at_outside h) b) q

    -- what the line binds across the level, where it asks for a write
    crosses_write : (line : Result Request Fault) (asker : ℕ) (r : Request) (b : Bound) → IsWrite log s line asker r b
        → crosses_by (all_tags log) level log s s.principal line
        ≡ cond (is_in log level s) (not (flows (all_tags log) (given_of b) level)) (refers_inside (all_tags log) level (writes_by log s asker b))
    crosses_write line asker r b i =
        (λ j. crosses_by (all_tags log) level log s (i.principal j) (i.request j))
        ∙ (λ j. cond (is_in log level s) (names_out (all_tags log) level (seen log s).public (i.found j) (i.form j))
        (binds_in (all_tags log) level (seen log s) asker s.label (i.found j) (i.form j)))

    sided_writes : (line : Result Request Fault) → crosses_by (all_tags log) level log s s.principal line ≡ false
        → PassesWrites (is_sided_write (side_by log level)) log s line
    sided_writes line q asker r b i = by_side asker b (is_in log level s) refl (sym (crosses_write line asker r b i) ∙ q)

-- ---- a line that doesn't cross

together_inside : (side : Slot → Bool) (o : Option Entry) → all_commits (are_on side) (option_to_list o) ≡ true
    → all_commits (are_together side) (option_to_list o) ≡ true
together_inside side None h = refl
together_inside side (Some (changes c)) h = refl
together_inside side (Some (commits ws)) h = grind (arith, nat_tests)

together_outside : (side : Slot → Bool) (o : Option Entry) → is_hidden side o ≡ true → all_commits (are_together side) (option_to_list o) ≡ true
together_outside side None h = refl
together_outside side (Some (changes c)) h = refl
together_outside side (Some (commits ws)) h = grind (arith, nat_tests)

module _ (read : Reader) (level : List ℕ) (log : List Entry) (s : Session) (line : List ℕ) (l : SoundLog log) (k : SoundSession log s)
    (q : crosses_at read level log s line ≡ false) where
  -- a session outside stays there
  pub stays_outside : is_in log level s ≡ false → is_in (log_after read log s line) level (ask read log s line).session ≡ false
  stays_outside h = grind (arith, nat_tests)

  same_label : is_in (log_after read log s line) level (ask read log s line).session ≡ is_in log level (ask read log s line).session
  same_label =
      let label = (ask read log s line).session.label in
      let more = added_by read log s line in
      ap (λ tags. flows tags label level) (tags_append log more)
      ∙ flows-append (all_tags log) (new_tags more) l.formed label level (line_tidy log s l k read line).label_made

  module _ (d : SidedLog level log) (e : SidedSession level log s) where
    no_case : crosses_by (all_tags log) level log s s.principal (read line) ≡ false
    no_case = grind (arith, nat_tests)

    line_sided : (txn_all (are_sided_writes (side_by log level)) (ask read log s line).session.txn ≡ true)
        × (all_commits (are_sided_writes (side_by log level)) (added_by read log s line) ≡ true)
    line_sided =
        let new = sided_writes level log s l k d e (read line) no_case in
        let both = outcome_writes (is_sided_write (side_by log level)) log s (read line) e.sided new (ask read log s line) (shape read log s line) in
        grind (arith, nat_tests)

    added_together : (b : Bool) → is_in log level s ≡ b → all_commits (are_together (side_by log level)) (added_by read log s line) ≡ true
    added_together true h = together_inside (side_by log level) (ask read log s line).added (line_inside level log s l k h (e.own_inside h) read line).1
    added_together false h = together_outside (side_by log level) (ask read log s line).added (line_hidden level log s l k h read line)

    pub log_stays_sided : SidedLog level (log_after read log s line)
    log_stays_sided =
        let more = added_by read log s line in
        let side = side_by log level in
        let all = log_sound_before log s l k read line in
        record {
          sided = ap (λ tags. all_commits (are_sided_writes (is_inside_slot tags level)) (log ++ more)) (tags_append log more)
              ∙ grown_log (all_tags log) (new_tags more) level l.formed (log ++ more) all (commits_join (are_sided_writes side) log more d.sided line_sided.1);
          together = ap (λ tags. all_commits (are_together (is_inside_slot tags level)) (log ++ more)) (tags_append log more)
              ∙ grown_together (all_tags log) (new_tags more) level l.formed (log ++ more) all
              (commits_join (are_together side) log more d.together (added_together (is_in log level s) refl));
        }

    own_inside : is_in log level (ask read log s line).session ≡ true → txn_all (are_on (side_by log level)) (ask read log s line).session.txn ≡ true
    own_inside h = elim (cases_Bool (is_in log level s)) [
      | inl i ↦ (line_inside level log s l k i (e.own_inside i) read line).0
      | inr o ↦ absurd (false≢true (sym (stays_outside o) ∙ same_label ∙ h))
    ]

    pub session_stays_sided : SidedSession level (log_after read log s line) (ask read log s line).session
    session_stays_sided =
        later_session log (added_by read log s line) level (ask read log s line).session l.formed (line_tidy log s l k read line).label_made
        (own_sound_before log s l k read line) (record { sided = line_sided.0; own_inside = own_inside })

-- ---- steps and runs

no_txn_is_sided : (level : List ℕ) (log : List Entry) (s : Session) → s.txn ≡ None → SidedSession level log s
no_txn_is_sided level log s e = record {
  sided = ap (txn_all (are_sided_writes (side_by log level))) e;
  own_inside = λ h. ap (txn_all (are_on (side_by log level))) e;
}

pub session_sided : (level : List ℕ) (st : State) → Facts level st → (n : ℕ) → SidedSession level st.log (session_of st n)
session_sided level st f n = session_has (SidedSession level st.log) st f.sided_sessions (no_txn_is_sided level st.log no_session refl) n

-- what a line of a session inside reads and writes is on the side
pub session_fits : (level : List ℕ) (st : State) → Facts level st → (n : ℕ) → is_in st.log level (session_of st n) ≡ true → Fit level st.log (session_of st n)
session_fits level st f n h =
    let k = session_sound st f.sound n in
    let e = session_sided level st f n in
    let tags = tag_count st.log in
    record {
      formed = f.sound.sound_log.formed;
      log_fits = commits_from (are_sound tags) Rattle.ifdb_row.specs.Writes.are_fitting (sound_fits tags) st.log f.sound.sound_log.writes;
      txn_fits = txn_from (are_sound tags) Rattle.ifdb_row.specs.Writes.are_fitting (sound_fits tags) (session_of st n).txn k.own;
      log_sided = f.sided_log.sided;
      txn_sided = e.sided;
      txn_inside = e.own_inside h;
    }

asked_facts : (read : Reader) (level : List ℕ) (st : State) → Facts level st → (n : ℕ) (line : List ℕ)
    → crosses_at read level st.log (session_of st n) line ≡ false
    → Facts level (with_outcome st n (ask read st.log (session_of st n) line))
asked_facts read level st f n line q =
    let s = session_of st n in
    let l = f.sound.sound_log in
    let k = session_sound st f.sound n in
    let e = session_sided level st f n in
    let later = log_after read st.log s line in
    record {
      sound = asked_sound read st f.sound n line;
      sided_log = log_stays_sided read level st.log s line l k q f.sided_log e;
      sided_sessions =
          All-set (SidedSession level later) st.sessions (n - 1) (ask read st.log s line).session
          (session_stays_sided read level st.log s line l k q f.sided_log e)
          (all_later (added_by read st.log s line) st.sessions f.sound.sound_sessions f.sided_sessions);
    } where
      all_later : (more : List Entry) (xs : List Session) → All (SoundSession st.log) xs → All (SidedSession level st.log) xs
          → All (SidedSession level (st.log ++ more)) xs
      all_later more [] a b = All-nil (SidedSession level (st.log ++ more))
      all_later more (u ∷ xs) a b =
          let h = All-head (SoundSession st.log) u xs a in
          let one = later_session st.log more level u f.sound.sound_log.formed h.label_made h.own (All-head (SidedSession level st.log) u xs b) in
          All-cons (SidedSession level (st.log ++ more)) u xs one
          (all_later more xs (All-tail (SoundSession st.log) u xs a) (All-tail (SidedSession level st.log) u xs b))

left_facts : (level : List ℕ) (st : State) → Facts level st → (n : ℕ) → Facts level (with_session st n (closed (session_of st n)))
left_facts level st f n = record {
  sound = left_sound st f.sound n;
  sided_log = f.sided_log;
  sided_sessions =
      All-set (SidedSession level st.log) st.sessions (n - 1) (closed (session_of st n)) (no_txn_is_sided level st.log (closed (session_of st n)) refl)
      f.sided_sessions;
}

either : (level : List ℕ) (b : Bool) (s t : State) → (b ≡ true → Facts level s) → Facts level t → Facts level (cond b s t)
either level true s t h k = h refl
either level false s t h k = k

pub next_facts : (read : Reader) (level : List ℕ) (st : State) (x : Step) → Facts level st → crosses read level st x ≡ false → Facts level (next read st x)
next_facts read level st opens f q = record {
  sound = next_sound read st opens f.sound;
  sided_log = f.sided_log;
  sided_sessions = All-push (SidedSession level st.log) st.sessions new_session f.sided_sessions (no_txn_is_sided level st.log new_session refl);
}
next_facts read level st (asks n line) f q =
    either level (session_of st n).is_open (with_outcome st n (ask read st.log (session_of st n) line)) st
    (λ o. asked_facts read level st f n line (rw o at q)) f
next_facts read level st (refused n) f q = f
next_facts read level st long f q = f
next_facts read level st stray f q = f
next_facts read level st (leaves n) f q =
    either level (session_of st n).is_open (with_session st n (closed (session_of st n))) st (λ o. left_facts level st f n) f

pub opening_facts : (level : List ℕ) → Facts level opening
opening_facts level = record { sound = opening_sound; sided_log = record { sided = refl; together = refl }; sided_sessions = All-nil (SidedSession level []) }

pub run_facts : (read : Reader) (level : List ℕ) (st : State) (steps : List Step) → Facts level st → quiet read level st steps ≡ true
    → Facts level (run read st steps)
run_facts read level st [] f q = f
run_facts read level st (x ∷ steps) f q =
    let parts : (crosses read level st x ≡ false) × (quiet read level (next read st x) steps ≡ true) = grind (arith, nat_tests) in
    run_facts read level (next read st x) steps (next_facts read level st x f parts.0) parts.1
