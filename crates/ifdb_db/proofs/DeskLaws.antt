-- A desk goes along with each state of the machine that it stands for.
use Rattle.std.proofs.Common.{◌≡◌, ℕ, zero, suc, ◌+◌, ◌<◌, ◌≤◌, Bool, true, false, List, [], ◌∷◌, ◌++◌, ◌∙◌, length, refl, sym, ap, subst, arith, cond, Option, Some, None}
use Rattle.std.specs.Prelude.{◌==◌, slice_index_or, slice_set, option_to_list}
use Rattle.std.proofs.lemmas.Bool.Decides.{nat_tests}
use Rattle.std.proofs.lemmas.List.{append-nil, length-append}
use Rattle.std.proofs.lemmas.List.Elements.{filter-append}
use Rattle.ifdb_value.proofs.Lists.{filter-filter}
use Rattle.ifdb_row.specs.declared.commit.Commit.{Commit}
use Rattle.ifdb_row.specs.Content.{after, content_from}
use Rattle.ifdb_store.specs.Kept.{is_later, trimmed}
use Rattle.ifdb_catalog.specs.Public.{changed}
use Rattle.ifdb_model.specs.Log.{Entry, changes, commits, public_from, public_of, commits_of, content_of, stamped_from}
use Rattle.ifdb_model.specs.Session.{Txn, Session, Seen, no_session, seen_in}
use Rattle.ifdb_model.specs.Step.{Outcome}
use Rattle.ifdb_model.specs.Run.{State}
use Rattle.ifdb_model.proofs.LogLaws.{public_from-append, content_from-append}
use Rattle.ifdb_db.specs.Desk.{Desk, oldest, oldest_of, with_entry, without, begins_after, moved}
use Rattle.ifdb_db.specs.Kept.{IsSound, are_ordered}
use Rattle.ifdb_db.specs.Room.{IsOf, times, begin_of, begins_of}
use Rattle.ifdb_db.proofs.BeginLaws.{oldest_more, oldest_push, oldest_without}

-- ---- what an added entry does to what all see

seen_at : List Entry → Option Entry → Seen
seen_at log e = record { public = public_from (public_of log) (option_to_list e); rows = content_from (content_of log) (commits_of (option_to_list e)) }

appended : (log : List Entry) (e : Option Entry) → seen_in (log ++ option_to_list e) None ≡ seen_at log e
unfolding seen_at
appended log e =
    let p = public_from-append (public_of []) log (option_to_list e) in
    let c = content_from-append [] log (option_to_list e) in
    λ i. record { public = p i; rows = c i }

one_entry : (d : Desk) (log : List Entry) (e : Option Entry) → d.seen ≡ seen_in log None → (with_entry d e).seen ≡ seen_at log e
unfolding seen_at
one_entry d log None h = h
one_entry d log (Some (changes c)) h = ap (λ (x : Seen). record x { public = changed x.public c }) h
one_entry d log (Some (commits ws)) h = ap (λ (x : Seen). record x { rows = after x.rows ws }) h

entry_seen : (d : Desk) (log : List Entry) (e : Option Entry) → d.seen ≡ seen_in log None → (with_entry d e).seen ≡ seen_in (log ++ option_to_list e) None
entry_seen d log e h = one_entry d log e h ∙ sym (appended log e)

-- ---- and to the commits

-- the commit that an entry is, if it is one
abbrev commit_of : ℕ → Option Entry → List Commit
commit_of n None = []
commit_of n (Some (changes c)) = []
commit_of n (Some (commits ws)) = record { stamp = n + 1; writes = ws } ∷ []

entry_commits : (d : Desk) (e : Option Entry) → (with_entry d e).commits ≡ d.commits ++ commit_of d.count e
entry_commits d None = sym (append-nil d.commits)
entry_commits d (Some (changes c)) = sym (append-nil d.commits)
entry_commits d (Some (commits ws)) = refl

stamped_more : (at : ℕ) (log : List Entry) (e : Option Entry) → stamped_from at (log ++ option_to_list e) ≡ stamped_from at log ++ commit_of (at + length log) e
stamped_more at [] None = refl
stamped_more at [] (Some (changes c)) = refl
stamped_more at [] (Some (commits ws)) = let same : at + 1 ≡ (at + 0) + 1 = omega arith in ap (λ n. record { stamp = n; writes = ws } ∷ []) same
stamped_more at (changes c ∷ log) e =
    let same : (at + 1) + length log ≡ at + suc (length log) = omega arith in
    stamped_more (at + 1) log e ∙ ap (λ n. stamped_from (at + 1) log ++ commit_of n e) same
stamped_more at (commits ws ∷ log) e =
    let same : (at + 1) + length log ≡ at + suc (length log) = omega arith in
    ap (λ cs. record { stamp = at + 1; writes = ws } ∷ cs) (stamped_more (at + 1) log e ∙ ap (λ n. stamped_from (at + 1) log ++ commit_of n e) same)

trimmed_again : (low high : ℕ) (cs : List Commit) → low ≤ high → trimmed high (trimmed low cs) ≡ trimmed high cs
trimmed_again low high cs le = filter-filter (is_later low) (is_later high) cs (λ c e. grind (arith, nat_tests))

trimmed_more : (low high : ℕ) (xs ys : List Commit) → low ≤ high → trimmed high (trimmed low xs ++ ys) ≡ trimmed high (xs ++ ys)
trimmed_more low high xs ys le =
    filter-append (is_later high) (trimmed low xs) ys ∙ ap (λ cs. cs ++ trimmed high ys) (trimmed_again low high xs le) ∙ sym (filter-append (is_later high) xs ys)

-- the commits that are kept are those of the longer log
commits_stay : (d : Desk) (log : List Entry) (e : Option Entry) (low high : ℕ) → d.count ≡ length log → d.commits ≡ trimmed low (stamped_from 0 log) → low ≤ high
    → trimmed high (with_entry d e).commits ≡ trimmed high (stamped_from 0 (log ++ option_to_list e))
commits_stay d log e low high n c le =
    let plus : length log ≡ 0 + length log = omega arith in
    ap (trimmed high) (entry_commits d e ∙ ap (λ cs. cs ++ commit_of d.count e) c)
    ∙ trimmed_more low high (stamped_from 0 log) (commit_of d.count e) le
    ∙ ap (trimmed high) (ap (λ k. stamped_from 0 log ++ commit_of k e) (n ∙ plus) ∙ sym (stamped_more 0 log e))

-- ---- and to its length

entry_count : (d : Desk) (log : List Entry) (e : Option Entry) → d.count ≡ length log → (with_entry d e).count ≡ length (log ++ option_to_list e)
entry_count d log None h = h ∙ ap length (sym (append-nil log))
entry_count d log (Some (changes c)) h = ap (λ n. n + 1) h ∙ sym (length-append log (changes c ∷ []))
entry_count d log (Some (commits ws)) h = ap (λ n. n + 1) h ∙ sym (length-append log (commits ws ∷ []))

count_rises : (d : Desk) (e : Option Entry) → d.count ≤ (with_entry d e).count
count_rises d None = omega arith
count_rises d (Some (changes c)) = omega arith
count_rises d (Some (commits ws)) = omega arith

begins_stay : (d : Desk) (e : Option Entry) → (with_entry d e).begins ≡ d.begins
begins_stay d None = refl
begins_stay d (Some (changes c)) = refl
begins_stay d (Some (commits ws)) = refl

-- ---- where the open transactions began

-- a transaction that begins does so at the end of the log, and one that goes on began where it did
abbrev pub Follows : ℕ → Option Txn → Option Txn → Type 0
Follows n None None = Unit {0}
Follows n None (Some y) = y.begin ≡ n
Follows n (Some x) None = Unit {0}
Follows n (Some x) (Some y) = y.begin ≡ x.begin

oldest_rises : (n m : ℕ) (s t : Option Txn) (begins : List ℕ) → n ≤ m → are_ordered begins n ≡ true → Follows n s t → oldest_of begins n ≤ oldest_of (begins_after s t begins) m
oldest_rises n m None None begins le h f = oldest_more begins n m le
oldest_rises n m None (Some y) begins le h f = subst (λ b. oldest_of begins n ≤ oldest_of (begins ++ b ∷ []) m) (sym f) (oldest_push begins n m le)
oldest_rises n m (Some x) None begins le h f = oldest_without x.begin begins n m le h
oldest_rises n m (Some x) (Some y) begins le h f = oldest_more begins n m le

times_more : (b : ℕ) (xs ys : List ℕ) → times b (xs ++ ys) ≡ times b xs + times b ys
times_more b [] ys = omega arith
times_more b (x ∷ xs) ys = by (x == b) (times_more b xs ys) where
  by : (c : Bool) → times b (xs ++ ys) ≡ times b xs + times b ys → cond c (times b (xs ++ ys) + 1) (times b (xs ++ ys)) ≡ cond c (times b xs + 1) (times b xs) + times b ys
  by true h = omega (arith, h)
  by false h = h

-- one session of many
pub times_set : (b : ℕ) (sessions : List Session) (k : ℕ) (s : Session) → k < length sessions
    → times b (begins_of (slice_set sessions k s)) + times b (begin_of (slice_index_or sessions k no_session).txn) ≡ times b (begins_of sessions) + times b (begin_of s.txn)
times_set b [] k s lt = absurd (omega (arith, lt))
times_set b (x ∷ sessions) zero s lt =
    let one = times_more b (begin_of s.txn) (begins_of sessions) in
    let two = times_more b (begin_of x.txn) (begins_of sessions) in
    omega (arith, one, two)
times_set b (x ∷ sessions) (suc k) s lt =
    let more = times_set b sessions k s (omega (arith, lt)) in
    let one = times_more b (begin_of x.txn) (begins_of (slice_set sessions k s)) in
    let two = times_more b (begin_of x.txn) (begins_of sessions) in
    omega (arith, more, one, two)

-- a session's begin is among those of all
times_at : (b : ℕ) (sessions : List Session) (k : ℕ) → k < length sessions → times b (begin_of (slice_index_or sessions k no_session).txn) ≤ times b (begins_of sessions)
times_at b [] k lt = absurd (omega (arith, lt))
times_at b (x ∷ sessions) zero lt = let one = times_more b (begin_of x.txn) (begins_of sessions) in omega (arith, one)
times_at b (x ∷ sessions) (suc k) lt =
    let more = times_at b sessions k (omega (arith, lt)) in
    let one = times_more b (begin_of x.txn) (begins_of sessions) in
    omega (arith, more, one)

times_without : (b x : ℕ) (begins : List ℕ) → 1 ≤ times x begins → times b (without x begins) + times b (x ∷ []) ≡ times b begins
times_without b x [] le = absurd (omega (arith, le))
times_without b x (c ∷ begins) le = by (c == x) refl (times_without b x begins) le where
  same : (c == x) ≡ true → times b (x ∷ []) ≡ cond (c == b) 1 0
  same e = let i : c ≡ x = grind (arith, nat_tests) in ap (λ n. cond (n == b) 1 0) (sym i)

  one : (t : Bool) → times b begins + cond t 1 0 ≡ cond t (times b begins + 1) (times b begins)
  one true = refl
  one false = omega arith

  two : (t : Bool) → times b (without x begins) + times b (x ∷ []) ≡ times b begins → cond t (times b (without x begins) + 1) (times b (without x begins)) + times b (x ∷ []) ≡ cond t (times b begins + 1) (times b begins)
  two true h = omega (arith, h)
  two false h = h

  by : (t : Bool) → (c == x) ≡ t → (1 ≤ times x begins → times b (without x begins) + times b (x ∷ []) ≡ times b begins) → 1 ≤ cond t (times x begins + 1) (times x begins)
      → times b (cond t begins (c ∷ without x begins)) + times b (x ∷ []) ≡ times b (c ∷ begins)
  by true e more h = ap (λ n. times b begins + n) (same e) ∙ one (c == b)
  by false e more h = two (c == b) (more h)

times_one : (x : ℕ) → times x (x ∷ []) ≡ 1
times_one x = let e : (x == x) ≡ true = grind (arith, nat_tests) in rw e refl

times_after : (b n : ℕ) (s t : Option Txn) (begins : List ℕ) → Follows n s t → ((x : ℕ) → times x (begin_of s) ≤ times x begins)
    → times b (begins_after s t begins) + times b (begin_of s) ≡ times b begins + times b (begin_of t)
times_after b n None None begins f le = refl
times_after b n None (Some y) begins f le = let one = times_more b begins (y.begin ∷ []) in omega (arith, one)
times_after b n (Some x) None begins f le =
    let there = le x.begin in
    let once = times_one x.begin in
    let one = times_without b x.begin begins (omega (arith, there, once)) in
    omega (arith, one)
times_after b n (Some x) (Some y) begins f le = ap (λ m. times b begins + times b (m ∷ [])) (sym f)

-- ---- all of it

-- a session of the state came to an outcome
pub moves : (d : Desk) (st : State) (k : ℕ) (o : Outcome) → IsOf d st → IsSound d → k < length st.sessions → Follows d.count (slice_index_or st.sessions k no_session).txn o.session.txn
    → IsOf (moved (slice_index_or st.sessions k no_session) o d) (record { log = st.log ++ option_to_list o.added; sessions = slice_set st.sessions k o.session })
moves d st k o w sound lt f = record {
  seen = entry_seen d st.log o.added w.seen;
  commits = commits_stay d st.log o.added (oldest d) (oldest_of (begins_after s.txn o.session.txn d.begins) (with_entry d o.added).count) w.count w.commits
      (oldest_rises d.count (with_entry d o.added).count s.txn o.session.txn d.begins (count_rises d o.added) sound.order f);
  count = entry_count d st.log o.added w.count;
  begins = λ b. began b;
} where
  s : Session
  s = slice_index_or st.sessions k no_session

  there : (x : ℕ) → times x (begin_of s.txn) ≤ times x d.begins
  there x = let le = times_at x st.sessions k lt in let e = w.begins x in omega (arith, le, e)

  began : (b : ℕ) → times b (begins_after s.txn o.session.txn d.begins) ≡ times b (begins_of (slice_set st.sessions k o.session))
  began b =
      let one = times_after b d.count s.txn o.session.txn d.begins f there in
      let two = times_set b st.sessions k o.session lt in
      let e = w.begins b in
      omega (arith, one, two, e)

-- ---- the oldest BEGIN is below those of all sessions

above_oldest : (b : ℕ) (begins : List ℕ) (count : ℕ) → are_ordered begins count ≡ true → 1 ≤ times b begins → oldest_of begins count ≤ b
above_oldest b [] count h le = absurd (omega (arith, le))
above_oldest b (c ∷ begins) count h le = by (c == b) refl le where
  below : (xs : List ℕ) → Rattle.std.specs.List.list_all (Rattle.std.specs.Prelude.nat_le c) xs ≡ true → 1 ≤ times b xs → c ≤ b
  below [] i j = absurd (omega (arith, j))
  below (x ∷ xs) i j = at (x == b) refl (below xs (grind (arith, nat_tests))) j where
    at : (t : Bool) → (x == b) ≡ t → (1 ≤ times b xs → c ≤ b) → 1 ≤ cond t (times b xs + 1) (times b xs) → c ≤ b
    at true e more n = grind (arith, nat_tests)
    at false e more n = more n

  by : (t : Bool) → (c == b) ≡ t → 1 ≤ cond t (times b begins + 1) (times b begins) → c ≤ b
  by true e n = grind (arith, nat_tests)
  by false e n = below begins (grind (arith, nat_tests)) n

pub begins_above : (d : Desk) (st : State) (k : ℕ) (x : Txn) → IsOf d st → IsSound d → k < length st.sessions → (slice_index_or st.sessions k no_session).txn ≡ Some x → oldest d ≤ x.begin
begins_above d st k x w sound lt e =
    let at = times_at x.begin st.sessions k lt in
    let same = ap (λ t. times x.begin (begin_of t)) e in
    let once = times_one x.begin in
    let all = w.begins x.begin in
    above_oldest x.begin d.begins d.count sound.order (omega (arith, at, same, once, all))
