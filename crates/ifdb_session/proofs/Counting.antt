-- What a turn adds to the counts of a history, and that the room's tests tell it.
use Rattle.std.proofs.Common.{◌≡◌, ℕ, ◌+◌, ◌-◌, ◌<◌, Bool, true, false, List, [], ◌∷◌, ◌++◌, ◌∙◌, length, refl, sym, ap, subst, arith, cond, Option, Some, None, Result}
use Rattle.std.specs.Prelude.{not, ◌&&◌, ◌||◌, nat_lt, option_to_list, slice_index_or, slice_set, IfSome, IsSome}
use Rattle.std.specs.Option.{is_some}
use Rattle.std.proofs.lemmas.Bool.Decides.{nat_tests}
use Rattle.std.proofs.lemmas.List.{length-append, get_or-set_same}
use Rattle.ifdb_syntax.specs.declared.request.Request.{Request}
use Rattle.ifdb_wire.specs.declared.fault.Fault.{Fault}
use Rattle.ifdb_wire.specs.declared.fault.Fault.TheVariants as fault
use Rattle.ifdb_wire.specs.declared.reply.Reply.{Reply}
use Rattle.ifdb_wire.specs.Text.{memory_text, reply_text}
use Rattle.ifdb_model.specs.Log.{Entry as LogEntry, changes, commits, commits_of}
use Rattle.ifdb_model.specs.Session.{Txn, Session, no_session, in_txn}
use Rattle.ifdb_model.specs.Step.{Reader, Outcome, refuses, ask}
use Rattle.ifdb_model.specs.Run.{State, session_of, outcome_of, with_outcome, asks, leaves, next, run}
use Rattle.ifdb_model.proofs.Runs.{run-append}
use Rattle.ifdb_laws.proofs.Shapes.{Shape, stayed, greeted_as, relabelled_to, begun, ended, published, joined, wrote, done, shape}
use Rattle.ifdb_db.specs.Client.{Open, Client, txn_at}
use Rattle.ifdb_db.specs.Lent.{IsLent}
use Rattle.ifdb_db.specs.Reading.{read_line}
use Rattle.ifdb_db.specs.Room.{Hall, StandsFor, client_in}
use Rattle.ifdb_db.specs.RoomSteps.{GoesBy, IsReplyTo, IsReplyText}
use Rattle.ifdb_db.proofs.RoomLaws.{same_session}
use Rattle.ifdb_history.specs.declared.entry.Entry.{Entry}
use Rattle.ifdb_history.specs.declared.entry.Kind.{Kind}
use Rattle.ifdb_history.specs.declared.entry.Kind.TheVariants as kind
use Rattle.ifdb_history.specs.Counts.{is_refusal, refusal_of, refusals_from, refusals_in, commits_in}
use Rattle.ifdb_history.specs.History.{Start, first_state, steps_of, flat, after}
use Rattle.ifdb_history.proofs.Sessions.{open_was}
use Rattle.ifdb_history.proofs.Logs.{commits_of-append, commits_added}
use Rattle.ifdb_session.specs.declared.counts.Glance.{Glance}
use Rattle.ifdb_session.specs.declared.records.Records as recorder
use Rattle.ifdb_session.specs.declared.shared.SharedRoom.{SharedRoom}
use Rattle.ifdb_session.specs.Counts.{counted, is_commit, commits_at, refuses_at, is_count, IsGlance, has_committed, has_refused}
use Rattle.ifdb_session.specs.Endings.{capped}
use Rattle.ifdb_session.specs.Records.{records_of}
use Rattle.ifdb_session.specs.Standing.{StandsForHistory}
use Rattle.ifdb_session.specs.Starts.{start_of}
use Rattle.ifdb_session.specs.declared.shared.Asked.{Asked}
use Rattle.ifdb_session.specs.declared.shared.Asked.TheVariants as asked
use Rattle.ifdb_session.specs.Turns.{IsAnswered, IsAsked, IsCount, IsLentAfter, IsLentBy, IsLeftOpen, HasCounted, CountsTurn}

-- ---- a history and one more entry

-- what a line adds
one_commit : (added : Option LogEntry) → length (commits_of (option_to_list added)) ≡ cond (is_commit added) 1 0
one_commit None = refl
one_commit (Some (changes c)) = refl
one_commit (Some (commits ws)) = refl

module _ (read : Reader) where
  pub line_commits : (st : State) (n : ℕ) (line : List ℕ)
      → length (commits_of (next read st (asks n line)).log) ≡ length (commits_of st.log) + cond (commits_at read st (kind.Asked n [] line)) 1 0
  line_commits st n line = by (session_of st n).is_open where
    by : (b : Bool) → length (commits_of (cond b (with_outcome st n (ask read st.log (session_of st n) line)) st).log)
        ≡ length (commits_of st.log) + cond (is_commit (cond b (ask read st.log (session_of st n) line) (refuses (session_of st n) fault.NoSession)).added) 1 0
    by true =
        let o = ask read st.log (session_of st n) line in
        commits_of-append st.log (option_to_list o.added) ∙ ap (λ k. length (commits_of st.log) + k) (one_commit o.added)
    by false = omega arith

  pub leaving_commits : (st : State) (n : ℕ) → length (commits_of (next read st (leaves n)).log) ≡ length (commits_of st.log) + 0
  leaving_commits st n = by (session_of st n).is_open where
    by : (b : Bool) → length (commits_of (cond b (Rattle.ifdb_model.specs.Run.with_session st n (Rattle.ifdb_model.specs.Session.closed (session_of st n))) st).log) ≡ length (commits_of st.log) + 0
    by true = omega arith
    by false = omega arith

  refusals_from-append : (st : State) (h k : List Entry) → refusals_from read st (h ++ k) ≡ refusals_from read st h + refusals_from read (run read st (flat h)) k
  refusals_from-append st [] k = omega arith
  refusals_from-append st (e ∷ h) k =
      let a = refusals_from-append (run read st (steps_of e.kind)) h k in
      let b = ap (λ (s : State). refusals_from read s k) (run-append read st (steps_of e.kind) (flat h)) in
      omega (arith, a, b)

  one_refusal : (st : State) (x : Kind) → refusal_of read st x ≡ cond (refuses_at read st x) 1 0
  one_refusal st kind.Opened = refl
  one_refusal st (kind.Asked n work line) = refl
  one_refusal st (kind.Looked n line) = refl
  one_refusal st (kind.Refused n line) = refl
  one_refusal st (kind.Left n work) = refl

module _ (start : Start) where
  -- the log after a history, and after one entry more, which leads to a state
  pub commits_more : (h : List Entry) (e : Entry) (st : State) (is_commit : Bool) → after start (h ++ e ∷ []) ≡ st
      → length (commits_of st.log) ≡ length (commits_of (after start h).log) + cond is_commit 1 0 → commits_in start (h ++ e ∷ []) ≡ commits_in start h + cond is_commit 1 0
  commits_more h e st is_commit is more =
      let before = commits_added start h in
      let now = commits_added start (h ++ e ∷ []) in
      let there = ap (λ (z : State). length (commits_of z.log)) is in
      omega (arith, before, now, there, more)

  pub refusals_more : (h : List Entry) (e : Entry) → refusals_in start (h ++ e ∷ []) ≡ refusals_in start h + cond (refuses_at start.read (after start h) e.kind) 1 0
  refusals_more h e =
      let a = refusals_from-append start.read (first_state start) h (e ∷ []) in
      let b = one_refusal start.read (after start h) e.kind in
      omega (arith, a, b)

  -- there is none yet
  no_commits : commits_in start [] ≡ 0
  no_commits = let first = commits_added start [] in omega (arith, first)

-- ---- the counts go along

capped_more : (n m k : ℕ) (is_so : Bool) → n ≡ capped m → k ≡ m + cond is_so 1 0 → counted n is_so ≡ capped k
capped_more n m k true e f = omega (arith, e, f)
capped_more n m k false e f = omega (arith, e, f)

-- the room stands for one entry more, where the turn was counted as what it is and recorded what it did
pub stands_more : {Q : Type 0} (recorders : recorder.Ghosts Q) (old new : SharedRoom Q) (h : List Entry) (e : Entry) (is_commit is_refused : Bool) → StandsForHistory recorders old h → StandsFor new.room (after (start_of recorders.first) (h ++ e ∷ []))
    → commits_in (start_of recorders.first) (h ++ e ∷ []) ≡ commits_in (start_of recorders.first) h + cond is_commit 1 0 → refuses_at read_line (after (start_of recorders.first) h) e.kind ≡ is_refused
    → HasCounted old new is_commit is_refused → recorders.has new.records (records_of recorders.first (h ++ e ∷ [])) → StandsForHistory recorders new (h ++ e ∷ [])
stands_more recorders old new h e is_commit is_refused stands room more refuses told recorded = record {
  room = room;
  entries = told.entries ∙ capped_more old.entries (length h) (length (h ++ e ∷ [])) true stands.entries (length-append h (e ∷ []));
  commits = told.commits ∙ capped_more old.commits _ _ is_commit stands.commits more;
  refused = told.refused ∙ capped_more old.refused _ _ is_refused stands.refused (refusals_more (start_of recorders.first) h e ∙ ap (λ b. refusals_in (start_of recorders.first) h + cond b 1 0) refuses);
  recorded = recorded;
}

-- it stands for the log that there was, before the first entry
pub stands_first : {Q : Type 0} (recorders : recorder.Ghosts Q) (room : Hall) (records : Q) → StandsFor room (first_state (start_of recorders.first)) → recorders.has records []
    → StandsForHistory recorders (record { room = room; records = records; entries = 0; commits = 0; refused = 0 }) []
stands_first recorders room records stands none = record {
  room = stands;
  entries = refl;
  commits = ap capped (sym (no_commits (start_of recorders.first)));
  refused = refl;
  recorded = none;
}

-- ---- how the room tells what a line did

no_longer : (log : List LogEntry) → nat_lt (length log) (length (log ++ [])) ≡ false
no_longer log = let same = length-append log [] in grind (arith, nat_tests, same)

longer : (log : List LogEntry) (e : LogEntry) → nat_lt (length log) (length (log ++ e ∷ [])) ≡ true
longer log e = let more = length-append log (e ∷ []) in grind (arith, nat_tests, more)

-- a commit adds to the log, and is of a transaction or tells a count
commit_told : (log : List LogEntry) (s : Session) (line : Result Request Fault) (o : Outcome) → Shape log s line o
    → (nat_lt (length log) (length (log ++ option_to_list o.added)) && (in_txn s.txn || is_count o.reply)) ≡ is_commit o.added
commit_told log s line _ (stayed r) = ap (λ b. b && (in_txn s.txn || is_count r)) (no_longer log)
commit_told log s line _ (greeted_as n g lt) = ap (λ b. b && (in_txn s.txn || false)) (no_longer log)
commit_told log s line _ (relabelled_to asker r label p e h) = ap (λ b. b && (in_txn s.txn || false)) (no_longer log)
commit_told log s line _ (begun t) = ap (λ b. b && (in_txn s.txn || false)) (no_longer log)
commit_told log s line _ (ended is_open r why) = ap (λ b. b && (in_txn s.txn || is_count r)) (no_longer log)
commit_told log s line _ (published asker r c line_is t e b f) = ap (λ b. b && (in_txn s.txn || false)) (longer log (changes c)) ∙ ap (λ (x : Option Txn). in_txn x || false) t
commit_told log s line _ (joined asker r b x w i t e) = ap (λ b. b && (in_txn s.txn || true)) (no_longer log)
commit_told log s line _ (wrote asker r b w i t e f) = ap (λ b. b && (in_txn s.txn || true)) (longer log (commits w.writes)) ∙ ap (λ (x : Option Txn). in_txn x || true) t
commit_told log s line _ (done x t j) = ap (λ b. b && (in_txn s.txn || false)) (longer log (commits x.own)) ∙ ap (λ (x : Option Txn). in_txn x || false) t

module _ (read : Reader) (st : State) (n : ℕ) (line : List ℕ) where
  -- by the log before and after, the session's transaction and the reply
  pub line_committed : (nat_lt (length st.log) (length (next read st (asks n line)).log) && (in_txn (session_of st n).txn || is_count (outcome_of read st n line).reply))
      ≡ commits_at read st (kind.Asked n [] line)
  line_committed = by (session_of st n).is_open where
    by : (b : Bool) → (nat_lt (length st.log) (length (cond b (with_outcome st n (ask read st.log (session_of st n) line)) st).log)
        && (in_txn (session_of st n).txn || is_count (cond b (ask read st.log (session_of st n) line) (refuses (session_of st n) fault.NoSession)).reply))
        ≡ is_commit (cond b (ask read st.log (session_of st n) line) (refuses (session_of st n) fault.NoSession)).added
    by true = commit_told st.log (session_of st n) (read line) (ask read st.log (session_of st n) line) (shape read st.log (session_of st n) line)
    by false = ap (λ b. b && (in_txn (session_of st n).txn || false)) same where
      same : nat_lt (length st.log) (length st.log) ≡ false
      same = grind (arith, nat_tests)

  -- the session after the line
  pub session_after : session_of (next read st (asks n line)) n ≡ (outcome_of read st n line).session
  session_after = by (session_of st n).is_open refl where
    by : (b : Bool) → (session_of st n).is_open ≡ b → session_of (cond b (with_outcome st n (ask read st.log (session_of st n) line)) st) n
        ≡ (cond b (ask read st.log (session_of st n) line) (refuses (session_of st n) fault.NoSession)).session
    by true e = there ∙ get_or-set_same st.sessions (n - 1) (ask read st.log (session_of st n) line).session no_session below where
      below : n - 1 < length st.sessions
      below = let w = open_was st n e in let some = w.0 in let le = w.1 in omega (arith, some, le)

      there : session_of (with_outcome st n (ask read st.log (session_of st n) line)) n
          ≡ slice_index_or (slice_set st.sessions (n - 1) (ask read st.log (session_of st n) line).session) (n - 1) no_session
      there = let some = (open_was st n e).0 in let from_1 : nat_lt 0 n ≡ true = grind (arith, nat_tests) in rw from_1 refl
    by false e = refl

-- a client's transaction is its session's
txn_told : (x : Option Open) → is_some x ≡ in_txn (txn_at x)
txn_told None = refl
txn_told (Some x) = refl

glance_told : (h : Hall) (st : State) (n : ℕ) → StandsFor h st → is_some (client_in h n).txn ≡ in_txn (session_of st n).txn
glance_told h st n w = txn_told (client_in h n).txn ∙ ap (λ (s : Session). in_txn s.txn) (sym (same_session h st w n))

-- the two tests of the room are what the line did
module _ (h g : Hall) (n : ℕ) (line : List ℕ) (r : Reply) (before now : Glance) (was : IsGlance h n before) (is : IsGlance g n now) (goes : GoesBy h g (asks n line)) (told : IsReplyTo h n line r)
    (st : State) (w : StandsFor h st) where
  log_before : before.entries ≡ length st.log
  log_before = was.0 ∙ w.desk.count

  log_now : now.entries ≡ length (next read_line st (asks n line)).log
  log_now = is.0 ∙ (goes st w).desk.count

  txn_before : before.in_transaction ≡ in_txn (session_of st n).txn
  txn_before = was.1 ∙ glance_told h st n w

  txn_now : now.in_transaction ≡ in_txn (outcome_of read_line st n line).session.txn
  txn_now = is.1 ∙ glance_told g (next read_line st (asks n line)) n (goes st w) ∙ ap (λ (s : Session). in_txn s.txn) (session_after read_line st n line)

  pub committed_so : has_committed before now r ≡ commits_at read_line st (kind.Asked n [] line)
  committed_so = seen ∙ line_committed read_line st n line where
    seen : has_committed before now r ≡ (nat_lt (length st.log) (length (next read_line st (asks n line)).log) && (in_txn (session_of st n).txn || is_count (outcome_of read_line st n line).reply))
    seen = λ i. nat_lt (log_before i) (log_now i) && (txn_before i || is_count (told st w i))

  pub refused_so : has_refused before now r ≡ refuses_at read_line st (kind.Asked n [] line)
  refused_so = λ i. txn_before i && not (txn_now i) && is_refusal (told st w i)

-- a line that was answered so, of a hall, and counted by these tests
pub answered_and_counted : {Q : Type 0} (h : Hall) (old new : SharedRoom Q) (n : ℕ) (line text : List ℕ) (r : Reply) (before now : Glance) (is_open : Bool) → IsGlance h n before → IsGlance new.room n now
    → GoesBy h new.room (asks n line) → IsReplyTo h n line r → text ≡ reply_text None r → (client_in new.room n).is_open ≡ is_open
    → HasCounted old new (has_committed before now r) (has_refused before now r) → IsAnswered n line h new.room text is_open × CountsTurn h (kind.Asked n [] line) old new
answered_and_counted h old new n line text r before now is_open was is goes told says left counts = ((goes, said, shown), counted_so) where
  said : IsReplyText h n line None text
  said st w = says ∙ ap (reply_text None) (told st w)

  shown : IsLeftOpen new.room n is_open
  shown st w = ap (λ (s : Session). s.is_open) (same_session new.room st w n) ∙ left

  counted_so : CountsTurn h (kind.Asked n [] line) old new
  counted_so st w = subst (λ (z : Bool × Bool). HasCounted old new z.0 z.1)
      (λ i. (committed_so h new.room n line r before now was is goes told st w i, refused_so h new.room n line r before now was is goes told st w i)) counts

-- a line for which there was no memory
pub not_asked : {Q : Type 0} (recorders : recorder.Ghosts Q) (n : ℕ) (line : List ℕ) (lent now : Option Client) (old new : SharedRoom Q) (text : List ℕ) (result : Asked)
    → new.room ≡ old.room → new.records ≡ old.records → text ≡ memory_text None → now ≡ lent
    → (lent ≡ None → (count : ℕ) × (result ≡ asked.Refused count) × IsCount recorders new count) → (lent ≡ None → HasCounted old new false false)
    → (IsSome lent → result ≡ asked.Kept) → (IsSome lent → new ≡ old) → IsAsked recorders n line lent now old new text result
not_asked recorders n line None now old new text result room recorded told same refused counted kept still =
    let r = refused refl in
    subst (IsAsked recorders n line None now old new text) (sym r.1) (room, told, (λ st w. counted refl), refl, same, recorded, r.2)
not_asked recorders n line (Some c) now old new text result room recorded told same refused counted kept still =
    subst (IsAsked recorders n line (Some c) now old new text) (sym (kept refl)) (still refl, told, same, (c, refl))

-- what is lent of a session that is open
pub lent_if_open : (h : Hall) (n : ℕ) (is_open : Bool) (now : Option Client) → IsLentAfter h n is_open now → is_open ≡ true → IsLentBy h n now
lent_if_open h n true now lent e = lent
lent_if_open h n false now lent e = cc

-- what the room lends
pub lent_by : (h : Hall) (n : ℕ) (lent : Option Client) → IfSome lent (λ c. c ≡ client_in h n) → IfSome lent IsLent → IsLentBy h n lent
lent_by h n None copy lent = tt
lent_by h n (Some c) copy lent = (copy, lent)
