-- A room goes along with each state of the machine that it stands for.
use Rattle.std.proofs.Common.{◌≡◌, ℕ, zero, suc, ◌-◌, ◌<◌, ◌≤◌, Bool, true, false, List, [], ◌∷◌, ◌++◌, ◌∙◌, length, take, map, refl, sym, ap, subst, arith, cond, Option, Some, None, inl, inr}
use Rattle.std.specs.Prelude.{Result, Ok, nat_lt, slice_index_or, slice_set, option_to_list, All}
use Rattle.std.proofs.lemmas.List.{append-nil, length-append, length-map, map-append, take-append-le, take_all}
use Rattle.std.proofs.lemmas.Bool.{false≢true}
use Rattle.ifdb_row.specs.Writes.{merged}
use Rattle.ifdb_syntax.specs.declared.request.Request.{Request}
use Rattle.ifdb_wire.specs.declared.fault.Fault.{Fault}
use Rattle.ifdb_wire.specs.declared.fault.Fault.TheVariants as fault
use Rattle.ifdb_wire.specs.declared.reply.Reply.{Reply}
use Rattle.ifdb_catalog.specs.Public.{opening as first_public}
use Rattle.ifdb_model.specs.Log.{Entry}
use Rattle.ifdb_model.specs.Session.{Txn, Session, new_session, no_session, closed, seen_in}
use Rattle.ifdb_model.specs.Step.{Outcome, refuses, bye, ask}
use Rattle.ifdb_model.specs.Run.{State, opening, session_of, outcome_of, with_outcome, with_session, asks, opens, leaves, next}
use Rattle.ifdb_laws.proofs.Shapes.{Shape, stayed, greeted_as, relabelled_to, begun, ended, published, joined, wrote, done, shape}
use Rattle.ifdb_db.specs.Answer.{IsRefusal, IsDone, IsStill, answered}
use Rattle.ifdb_db.specs.Client.{Open, Client, new_client, session_at, txn_at, IsBased}
use Rattle.ifdb_db.specs.Desk.{Desk, oldest, moved}
use Rattle.ifdb_db.specs.Kept.{IsSound}
use Rattle.ifdb_db.specs.Reading.{read_line}
use Rattle.ifdb_db.specs.Room.{Hall, IsOf, times, begin_of, begins_of, IsOver, StandsFor, IsSoundRoom, no_client, client_in, outcome_in}
use Rattle.ifdb_db.specs.RoomSteps.{IsAsked, IsLeftBy}
use Rattle.ifdb_db.proofs.AskLaws.{read_same}
use Rattle.ifdb_db.proofs.DeskLaws.{Follows, moves, begins_above}
use Rattle.ifdb_db.proofs.Keeping.{all_set, all_add}

-- ---- the clients of a room

pub index_map : (clients : List Client) (k : ℕ) → slice_index_or (map session_at clients) k no_session ≡ session_at (slice_index_or clients k no_client)
index_map [] k = refl
index_map (c ∷ clients) zero = refl
index_map (c ∷ clients) (suc k) = index_map clients k

pub set_map : (clients : List Client) (k : ℕ) (c : Client) → map session_at (slice_set clients k c) ≡ slice_set (map session_at clients) k (session_at c)
set_map [] k c = refl
set_map (x ∷ clients) zero c = refl
set_map (x ∷ clients) (suc k) c = ap (λ l. session_at x ∷ l) (set_map clients k c)

opened_at : (clients : List Client) (k : ℕ) → (slice_index_or clients k no_client).is_open ≡ true → k < length clients
opened_at [] k h = cc
opened_at (c ∷ clients) zero h = omega arith
opened_at (c ∷ clients) (suc k) h = let lt = opened_at clients k h in omega (arith, lt)

-- what is known of an open client of a room
pub record IsThere (h : Hall) (n : ℕ) : Type 0 where
  pub from_1 : nat_lt 0 n ≡ true
  pub there : n - 1 < length h.clients
  pub at : client_in h n ≡ slice_index_or h.clients (n - 1) no_client

pub at_open : (h : Hall) (n : ℕ) → (client_in h n).is_open ≡ true → IsThere h n
at_open h n o = by (nat_lt 0 n) refl o where
  by : (b : Bool) → nat_lt 0 n ≡ b → (cond b (slice_index_or h.clients (n - 1) no_client) no_client).is_open ≡ true → IsThere h n
  by true e k = record { from_1 = e; there = opened_at h.clients (n - 1) k; at = rw e refl }
  by false e k = cc

-- ---- what they are answered

module _ (h : Hall) (st : State) (w : StandsFor h st) where
  pub same_session : (n : ℕ) → session_of st n ≡ session_at (client_in h n)
  same_session n = by (nat_lt 0 n) where
    by : (b : Bool) → cond b (slice_index_or st.sessions (n - 1) no_session) no_session ≡ session_at (cond b (slice_index_or h.clients (n - 1) no_client) no_client)
    by true = ap (λ l. slice_index_or l (n - 1) no_session) (sym w.sessions) ∙ index_map h.clients (n - 1)
    by false = refl

  pub as_many : length h.clients ≡ length st.sessions
  as_many = sym (length-map h.clients session_at) ∙ ap length w.sessions

  pub over_at : (n : ℕ) → IsThere h n → IsOver st.log (client_in h n).txn
  over_at n t = subst (λ (c : Client). IsOver st.log c.txn) (sym t.at) (w.over (n - 1) no_client t.there)

  oldest_at : IsSound h.desk → (n : ℕ) → IsThere h n → (x : Open) → (client_in h n).txn ≡ Some x → oldest h.desk ≤ x.begin
  oldest_at sound n t x e =
      let lt : n - 1 < length st.sessions = let a = t.there in let b = as_many in omega (arith, a, b) in
      let same : slice_index_or st.sessions (n - 1) no_session ≡ session_at (client_in h n) = ap (λ l. slice_index_or l (n - 1) no_session) (sym w.sessions) ∙ index_map h.clients (n - 1) ∙ ap session_at (sym t.at) in
      begins_above h.desk st (n - 1) (record { begin = x.begin; own = x.own }) w.desk sound lt (ap (λ (s : Session). s.txn) same ∙ ap txn_at e)

  pub asked_same : IsSound h.desk → (n : ℕ) (line : List ℕ) → (client_in h n).is_open ≡ true → ask read_line st.log (session_of st n) line ≡ outcome_in h n line
  asked_same sound n line o =
      let t = at_open h n o in
      ap (λ (s : Session). ask read_line st.log s line) (same_session n)
      ∙ read_same h.desk st w.desk (client_in h n) (over_at n t) (oldest_at sound n t) (read_line line) ∙ rw o refl

  pub same_outcome : IsSound h.desk → (n : ℕ) (line : List ℕ) → outcome_of read_line st n line ≡ outcome_in h n line
  same_outcome sound n line = by (client_in h n).is_open refl where
    open_same : (b : Bool) → (client_in h n).is_open ≡ b → (session_of st n).is_open ≡ b
    open_same b e = ap (λ (s : Session). s.is_open) (same_session n) ∙ e

    by : (b : Bool) → (client_in h n).is_open ≡ b → outcome_of read_line st n line ≡ outcome_in h n line
    by true e =
        let there : outcome_of read_line st n line ≡ ask read_line st.log (session_of st n) line = rw (open_same true e) refl in
        there ∙ asked_same sound n line e
    by false e =
        let left : outcome_of read_line st n line ≡ refuses (session_of st n) fault.NoSession = rw (open_same false e) refl in
        let right : outcome_in h n line ≡ refuses (session_at (client_in h n)) fault.NoSession = rw e refl in
        left ∙ ap (λ (s : Session). refuses s fault.NoSession) (same_session n) ∙ sym right

-- the reply of an outcome
pub told_reply : (h : Hall) (st : State) (n : ℕ) (line : List ℕ) (r : Reply) → IsSoundRoom h → r ≡ (outcome_in h n line).reply → StandsFor h st → r ≡ (outcome_of read_line st n line).reply
told_reply h st n line r k t w = t ∙ sym (ap (λ (o : Outcome). o.reply) (same_outcome h st w k.desk n line))

-- ---- transactions over a longer log

pub over_more : (log zs : List Entry) (t : Option Open) → IsOver log t → IsOver (log ++ zs) t
over_more log zs None o = tt
over_more log zs (Some x) o = (long, o.1 ∙ ap (λ l. seen_in l None) (sym (take-append-le x.begin log zs o.0))) where
  long : x.begin ≤ length (log ++ zs)
  long = let e = length-append log zs in let le = o.0 in omega (arith, e, le)

-- one that goes on, or begins
over_moved : (d : Desk) (log zs : List Entry) (n : ℕ) (t u : Option Open) → d.seen ≡ seen_in log None → n ≡ length log → IsOver log t → IsBased d.seen t u → Follows n (txn_at t) (txn_at u)
    → IsOver (log ++ zs) u
over_moved d log zs n t None e m o b f = tt
over_moved d log zs n None (Some y) e m o b f =
    let at : y.begin ≡ length log = f ∙ m in
    let front : take y.begin log ≡ log = take_all y.begin log (omega (arith, at)) in
    over_more log zs (Some y) (let le : y.begin ≤ length log = omega (arith, at) in le, b ∙ e ∙ ap (λ l. seen_in l None) (sym front))
over_moved d log zs n (Some x) (Some y) e m o b f =
    over_more log zs (Some y) (let le = o.0 in let long : y.begin ≤ length log = omega (arith, f, le) in long, b ∙ o.1 ∙ ap (λ k. seen_in (take k log) None) (sym f))

-- ---- how a line leaves the sessions' transactions

follows_itself : (n : ℕ) (t : Option Txn) → Follows n t t
follows_itself n None = tt
follows_itself n (Some x) = refl

follows_none : (n : ℕ) (t : Option Txn) → Follows n t None
follows_none n None = tt
follows_none n (Some x) = tt

follows_shape : (log : List Entry) (s : Session) (line : Result Request Fault) (o : Outcome) → Shape log s line o → Follows (length log) s.txn o.session.txn
follows_shape log s line _ (stayed r) = follows_itself (length log) s.txn
follows_shape log s line _ (greeted_as n g lt) = follows_itself (length log) s.txn
follows_shape log s line _ (relabelled_to asker r label p e h) = follows_itself (length log) s.txn
follows_shape log s line _ (begun t) = subst (λ o. Follows (length log) o (Some (record { begin = length log; own = [] }))) (sym t) refl
follows_shape log s line _ (ended is_open r why) = follows_none (length log) s.txn
follows_shape log s line _ (published asker r c line_is t e b f) = follows_itself (length log) s.txn
follows_shape log s line _ (joined asker r b x w i t e) = subst (λ o. Follows (length log) o (Some (record { begin = x.begin; own = merged x.own w.writes }))) (sym t) refl
follows_shape log s line _ (wrote asker r b w i t e f) = follows_itself (length log) s.txn
follows_shape log s line _ (done x t j) = follows_none (length log) s.txn

-- ---- one client comes to an outcome

module _ (h : Hall) (st : State) (w : StandsFor h st) (sound : IsSoundRoom h) (n : ℕ) (t : IsThere h n) where
  here : slice_index_or st.sessions (n - 1) no_session ≡ session_at (client_in h n)
  here = ap (λ l. slice_index_or l (n - 1) no_session) (sym w.sessions) ∙ index_map h.clients (n - 1) ∙ ap session_at (sym t.at)

  there : n - 1 < length st.sessions
  there = let a = t.there in let b = as_many h st w in omega (arith, a, b)

  stands_moved : (o : Outcome) (e : Client) (g : Hall) → session_at e ≡ o.session → IsBased h.desk.seen (client_in h n).txn e.txn → Follows (length st.log) (session_at (client_in h n)).txn o.session.txn
      → g.desk ≡ moved (session_at (client_in h n)) o h.desk → g.clients ≡ slice_set h.clients (n - 1) e → StandsFor g (with_outcome st n o)
  stands_moved o e g s b f d c = record {
    desk = subst (λ (z : Desk). IsOf z (with_outcome st n o)) (sym d) (subst (λ (z : Session). IsOf (moved z o h.desk) (with_outcome st n o)) here
        (moves h.desk st (n - 1) o w.desk sound.desk there (follows_here)));
    sessions = ap (map session_at) c ∙ set_map h.clients (n - 1) e ∙ ap (λ l. slice_set l (n - 1) (session_at e)) w.sessions ∙ ap (slice_set st.sessions (n - 1)) s;
    over = subst (All (λ (z : Client). IsOver (st.log ++ option_to_list o.added) z.txn)) (sym c)
        (all_set (λ (z : Client). IsOver (st.log ++ option_to_list o.added) z.txn) h.clients (n - 1) e mine
        (λ k x lt. over_more st.log (option_to_list o.added) (slice_index_or h.clients k x).txn (w.over k x lt)));
  } where
    follows_here : Follows h.desk.count (slice_index_or st.sessions (n - 1) no_session).txn o.session.txn
    follows_here = subst (λ m. Follows m (slice_index_or st.sessions (n - 1) no_session).txn o.session.txn) (sym w.desk.count)
        (subst (λ (z : Session). Follows (length st.log) z.txn o.session.txn) (sym here) f)

    mine : IsOver (st.log ++ option_to_list o.added) e.txn
    mine = over_moved h.desk st.log (option_to_list o.added) (length st.log) (client_in h n).txn e.txn w.desk.seen refl (over_at h st w n t) b
        (subst (λ (z : Session). Follows (length st.log) (txn_at (client_in h n).txn) z.txn) (sym s) f)

-- an open session's line
pub follows : (h g : Hall) (st : State) (n : ℕ) (line : List ℕ) (r : Reply) → IsSoundRoom h → IsAsked n line h g r → StandsFor h st → StandsFor g (next read_line st (asks n line))
follows h g st n line r k a w =
    let t = at_open h n a.is_open in
    let o = outcome_in h n line in
    let opened : (session_of st n).is_open ≡ true = ap (λ (s : Session). s.is_open) (same_session h st w n) ∙ a.is_open in
    let same = asked_same h st w k.desk n line a.is_open in
    let stepped : next read_line st (asks n line) ≡ with_outcome st n (ask read_line st.log (session_of st n) line) = rw opened refl in
    let goes : Follows (length st.log) (session_of st n).txn (ask read_line st.log (session_of st n) line).session.txn =
    follows_shape st.log (session_of st n) (read_line line) (ask read_line st.log (session_of st n) line) (shape read_line st.log (session_of st n) line) in
    let goes_on : Follows (length st.log) (session_at (client_in h n)).txn o.session.txn =
    subst (λ (z : Outcome). Follows (length st.log) (session_at (client_in h n)).txn z.session.txn) same
    (subst (λ (s : Session). Follows (length st.log) s.txn (ask read_line st.log (session_of st n) line).session.txn) (same_session h st w n) goes) in
    subst (StandsFor g) (sym (stepped ∙ ap (with_outcome st n) same))
    (stands_moved h st w k n t o a.client g a.done.session a.done.based goes_on a.done.desk a.clients)

-- ---- a refusal

pub set_itself : {X : Type 0} (xs : List X) (k : ℕ) (d : X) → slice_set xs k (slice_index_or xs k d) ≡ xs
set_itself [] k d = refl
set_itself (x ∷ xs) zero d = refl
set_itself (x ∷ xs) (suc k) d = ap (λ l. x ∷ l) (set_itself xs k d)

-- a refusal leaves the state as it is
refused_state : (st : State) (n : ℕ) (f : Fault) → (session_of st n).is_open ≡ true → with_outcome st n (refuses (session_of st n) f) ≡ st
refused_state st n f o = by (nat_lt 0 n) refl where
  by : (b : Bool) → nat_lt 0 n ≡ b → with_outcome st n (refuses (session_of st n) f) ≡ st
  by true e =
      let at : session_of st n ≡ slice_index_or st.sessions (n - 1) no_session = rw e refl in
      let put = ap (slice_set st.sessions (n - 1)) at ∙ set_itself st.sessions (n - 1) no_session in
      let log = append-nil st.log in
      λ i. record { log = log i; sessions = put i }
  by false e =
      let shut : (session_of st n).is_open ≡ false = rw e refl in
      absurd (false≢true (sym shut ∙ o))

pub stays : (h g : Hall) (st : State) (n : ℕ) (line : List ℕ) (f : Fault) → IsSoundRoom h → outcome_in h n line ≡ refuses (session_at (client_in h n)) f → g ≡ h → StandsFor h st
    → StandsFor g (next read_line st (asks n line))
stays h g st n line f k o e w = subst (λ (z : Hall). StandsFor z (next read_line st (asks n line))) (sym e) (by (session_of st n).is_open refl) where
  by : (b : Bool) → (session_of st n).is_open ≡ b → StandsFor h (next read_line st (asks n line))
  by true i =
      let opened : (client_in h n).is_open ≡ true = sym (ap (λ (s : Session). s.is_open) (same_session h st w n)) ∙ i in
      let same : ask read_line st.log (session_of st n) line ≡ refuses (session_of st n) f = asked_same h st w k.desk n line opened ∙ o ∙ ap (λ (s : Session). refuses s f) (sym (same_session h st w n)) in
      let stepped : next read_line st (asks n line) ≡ with_outcome st n (ask read_line st.log (session_of st n) line) = rw i refl in
      subst (StandsFor h) (sym (stepped ∙ ap (with_outcome st n) same ∙ refused_state st n f i)) w
  by false i =
      let same : next read_line st (asks n line) ≡ st = rw i refl in
      subst (StandsFor h) (sym same) w

-- a refusal that isn't want of memory
pub refused_so : (o : Outcome) (s : Session) (f : Fault) → (f ≡ fault.OutOfMemory → ⊥) → IsRefusal o s f → o ≡ refuses s f
refused_so o s f h (inl e) = absurd (h e)
refused_so o s f h (inr e) = e

-- ---- the opening, the next session, and one that leaves

abbrev pub first_desk : Desk
first_desk = record { seen = record { public = first_public; rows = [] }; commits = []; count = 0; begins = [] }

pub stands_open : (h : Hall) → h.desk ≡ first_desk → h.clients ≡ [] → StandsFor h opening
stands_open h d c = subst (λ (z : Hall). StandsFor z opening) (λ i. record { desk = sym d i; clients = sym c i }) begun where
  begun : StandsFor (record { desk = first_desk; clients = [] }) opening
  begun = record {
    desk = record { seen = refl; commits = refl; count = refl; begins = λ b. refl };
    sessions = refl;
    over = λ k x lt. absurd (omega (arith, lt));
  }

begins_new : (sessions : List Session) (b : ℕ) → times b (begins_of (sessions ++ new_session ∷ [])) ≡ times b (begins_of sessions)
begins_new sessions b = ap (times b) (added sessions) where
  added : (sessions : List Session) → begins_of (sessions ++ new_session ∷ []) ≡ begins_of sessions
  added [] = refl
  added (s ∷ sessions) = ap (λ l. begin_of s.txn ++ l) (added sessions)

pub one_more : (h g : Hall) (st : State) → g ≡ record h { clients = h.clients ++ new_client ∷ [] } → StandsFor h st → StandsFor g (next read_line st opens)
one_more h g st e w = subst (λ (x : Hall). StandsFor x (next read_line st opens)) (sym e) (record {
  desk = record { seen = w.desk.seen; commits = w.desk.commits; count = w.desk.count; begins = λ b. w.desk.begins b ∙ sym (begins_new st.sessions b) };
  sessions = map-append session_at h.clients (new_client ∷ []) ∙ ap (λ (sessions : List Session). sessions ++ new_session ∷ []) w.sessions;
  over = all_add (λ (c : Client). IsOver st.log c.txn) h.clients new_client tt w.over;
})

pub one_leaves : (h g : Hall) (st : State) (n : ℕ) → IsSoundRoom h → (client_in h n).is_open ≡ true → IsLeftBy n h g → StandsFor h st → StandsFor g (next read_line st (leaves n))
one_leaves h g st n k o l w =
    let t = at_open h n o in
    let opened : (session_of st n).is_open ≡ true = ap (λ (s : Session). s.is_open) (same_session h st w n) ∙ o in
    let stepped : next read_line st (leaves n) ≡ with_session st n (closed (session_of st n)) = rw opened refl in
    let same : with_outcome st n (bye (session_at (client_in h n))) ≡ with_session st n (closed (session_of st n)) =
    (let log = append-nil st.log in let s = sym (same_session h st w n) in λ i. record { log = log i; sessions = slice_set st.sessions (n - 1) (closed (s i)) }) in
    subst (StandsFor g) (same ∙ sym stepped)
    (stands_moved h st w k n t (bye (session_at (client_in h n))) (record (client_in h n) { is_open = false; txn = None }) g refl tt (follows_none (length st.log) (session_at (client_in h n)).txn) l.desk l.clients)

pub none_leaves : (h : Hall) (st : State) (n : ℕ) → (client_in h n).is_open ≡ false → StandsFor h st → StandsFor h (next read_line st (leaves n))
none_leaves h st n o w =
    let shut : (session_of st n).is_open ≡ false = ap (λ (s : Session). s.is_open) (same_session h st w n) ∙ o in
    let same : next read_line st (leaves n) ≡ st = rw shut refl in
    subst (StandsFor h) (sym same) w

-- ---- an open client's line, by what the database answered

pub outcome_open : (h : Hall) (n : ℕ) (line : List ℕ) → (client_in h n).is_open ≡ true → outcome_in h n line ≡ answered h.desk (client_in h n) (read_line line)
outcome_open h n line o = rw o refl

pub put_back : (h : Hall) (n : ℕ) (c e : Client) → (client_in h n).is_open ≡ true → c ≡ client_in h n → e ≡ c → slice_set h.clients (n - 1) e ≡ h.clients
put_back h n c e o i k =
    let t = at_open h n o in
    ap (slice_set h.clients (n - 1)) (k ∙ i ∙ t.at) ∙ set_itself h.clients (n - 1) no_client

pub asked_open : (h g : Hall) (n : ℕ) (line : List ℕ) (c e : Client) (r : Reply) → (client_in h n).is_open ≡ true → c ≡ client_in h n
    → IsDone (answered h.desk c (read_line line)) c e h.desk g.desk r → IsStill c e h.desk g.desk (Ok r) → g.clients ≡ slice_set h.clients (n - 1) e → IsAsked n line h g r
asked_open h g n line c e r o i d s k = record {
  client = e;
  is_open = o;
  done = subst (λ (z : Outcome). IsDone z (client_in h n) e h.desk g.desk r) (sym (outcome_open h n line o))
      (subst (λ (z : Client). IsDone (answered h.desk z (read_line line)) z e h.desk g.desk r) i d);
  clients = k;
  still = λ u. same (s u);
} where
  same : (g.desk ≡ h.desk) × (e ≡ c) → g ≡ h
  same q = let clients = k ∙ put_back h n c e o i q.1 in λ j. record { desk = q.0 j; clients = clients j }
