-- Sessions that are lent: what they answer by themselves is what the machine answers, and a room that has them back goes along.
use Rattle.std.proofs.Common.{◌≡◌, ℕ, zero, suc, ◌-◌, ◌<◌, ◌≤◌, true, false, List, [], ◌∷◌, ◌∙◌, length, take, refl, sym, ap, subst, arith, Option, Some, None, inl, inr}
use Rattle.std.specs.Prelude.{◌⊎◌, Ok, Err, slice_index_or, slice_set}
use Rattle.std.proofs.lemmas.List.{append-nil, get_or-set_same}
use Rattle.ifdb_label.specs.Tags.{AreMade}
use Rattle.ifdb_row.specs.Content.{after}
use Rattle.ifdb_row.specs.declared.write.Write.{Write}
use Rattle.ifdb_syntax.specs.declared.request.Request.{Request}
use Rattle.ifdb_wire.specs.declared.fault.Fault.{Fault}
use Rattle.ifdb_wire.specs.declared.fault.Fault.TheVariants as fault
use Rattle.ifdb_wire.specs.declared.reply.Reply.{Reply}
use Rattle.ifdb_wire.specs.declared.reply.Reply.TheVariants as reply
use Rattle.ifdb_model.specs.Log.{Entry}
use Rattle.ifdb_model.specs.Session.{Txn, Session, Seen, no_session, seen_in, seen}
use Rattle.ifdb_model.specs.Step.{Form, greets, publishes, relabels, shows_label, begins, ends, rolls_back, leaves_us, looks, writes, form_of, Outcome, tells, refuses, ask, ask_read, ask_by, ask_as, answered_as}
use Rattle.ifdb_model.specs.Run.{State, session_of, with_outcome, asks, next}
use Rattle.ifdb_db.specs.Client.{Open, Client, Standing, at_label, client_of, session_at, txn_at}
use Rattle.ifdb_db.specs.Inside.{is_end, Inside, IsReplied, IsLeft, IsDenied}
use Rattle.ifdb_db.specs.Kept.{IsBegun, IsLabelKept, IsHeld}
use Rattle.ifdb_db.specs.Lent.{IsLabelInside, IsLent, GoesOn, Answers, EndsTransaction, with_client, MayComeBack}
use Rattle.ifdb_db.specs.Reading.{read_line}
use Rattle.ifdb_db.specs.Room.{Hall, times, begin_of, begins_of, IsOver, StandsFor, IsSoundRoom, no_client, client_in}
use Rattle.ifdb_db.proofs.DeskLaws.{times_set}
use Rattle.ifdb_db.proofs.Keeping.{all_set, held_on}
use Rattle.ifdb_db.proofs.RoomLaws.{IsThere, at_open, same_session, as_many, index_map, set_map, set_itself, over_at}

-- ---- transactions that go on

pub goes_itself : (label : List ℕ) (t : Option Open) → IsLabelInside label t → GoesOn t t
goes_itself label None k = absurd k
goes_itself label (Some x) k = (refl, refl)

pub goes_further : (s t u : Option Open) → GoesOn s t → GoesOn t u → GoesOn s u
goes_further None t u p q = absurd p
goes_further (Some x) None u p q = absurd p
goes_further (Some x) (Some y) None p q = absurd q
goes_further (Some x) (Some y) (Some z) p q = (q.0 ∙ p.0, q.1 ∙ p.1)

pub over_further : (log : List Entry) (t u : Option Open) → GoesOn t u → IsOver log t → IsOver log u
over_further log None u p o = absurd p
over_further log (Some x) None p o = absurd p
over_further log (Some x) (Some y) p o = subst (λ (z : ℕ × Seen). (z.0 ≤ length log) × (z.1 ≡ seen_in (take z.0 log) None)) (λ i. (sym p.0 i, sym p.1 i)) o

-- ---- a line that a session answers by itself

module _ (who : Standing) (x : Open) (r : Request) where
  as_inside : (log : List Entry) (z : Seen) (s : Session) (f : Form) → is_end f ≡ false → ask_as log s z who.principal r f ≡ answered_as (length log) z None s who.principal r f
  as_inside log z s (greets name key) h = refl
  as_inside log z s publishes h = refl
  as_inside log z s relabels h = refl
  as_inside log z s shows_label h = refl
  as_inside log z s begins h = refl
  as_inside log z s ends h = cc
  as_inside log z s rolls_back h = refl
  as_inside log z s leaves_us h = refl
  as_inside log z s looks h = refl
  as_inside log z s writes h = refl

  abbrev there : Client
  there = client_of who (Some x)

  inside_asked : (o : Outcome) (log : List Entry) → is_end (form_of r) ≡ false → Inside who x r o → IsOver log (Some x) → ask_by log (session_at there) (Some who.principal) r ≡ o
  inside_asked o log g h over =
      as_inside log (seen log (session_at there)) (session_at there) (form_of r) g
      ∙ ap (λ (z : Seen). answered_as (length log) z None (session_at there) who.principal r (form_of r))
      (ap (λ (z : Seen). record { public = z.public; rows = after z.rows x.own }) (sym over.1))
      ∙ h (length log) None

  -- a line that is left to the database ends the transaction
  pub room_so : (line : List ℕ) → read_line line ≡ Ok r → (m : List ℕ) (y : Open) (end : Form) → is_end end ≡ true → IsLeft end who.label m x y r → EndsTransaction line
  room_so line found m y end is d = (r, found, ap is_end d.form ∙ is)

  module _ (line : List ℕ) (found : read_line line ≡ Ok r) (c : Client) (is : c ≡ there) where
    asked_so : (o : Outcome) (log : List Entry) → is_end (form_of r) ≡ false → Inside who x r o → IsOver log c.txn → ask read_line log (session_at c) line ≡ o
    asked_so o log g h over =
        ap (ask_read log (session_at c)) found
        ∙ ap (λ (z : Client). ask_by log (session_at z) z.principal r) is
        ∙ inside_asked o log g h (subst (λ (z : Client). IsOver log z.txn) is over)

    pub answers_so : (e : Client) (m : List ℕ) (y : Open) (told : Reply) → e ≡ record c { label = m; txn = Some y } → AreMade (length y.base.public.tags) m → IsReplied who m x y r told
        → Answers line c e told
    answers_so e m y told k made h = record {
      told = λ log o. asked_so _ log h.goes_on h.told o ∙ ap (λ (z : Client). tells (session_at z) told) (sym same);
      goes_on = subst (λ (z : Client). GoesOn z.txn e.txn) (sym is) (subst (λ (z : Client). GoesOn (Some x) z.txn) (sym same) (h.begin, h.base));
      lent = subst IsLent (sym same) (record { is_open = refl; greeted = refl; label = made });
      still = λ u. let q = h.still u in same ∙ (λ i. client_of (at_label who (q.0 i)) (Some (q.1 i))) ∙ sym is;
    } where
      same : e ≡ client_of (at_label who m) (Some y)
      same = k ∙ ap (λ (z : Client). record z { label = m; txn = Some y }) is

    pub denied_so : (e : Client) (m : List ℕ) (y : Open) (f : Fault) → e ≡ record c { label = m; txn = Some y } → AreMade (length x.base.public.tags) who.label → IsDenied who m x y r f
        → (e ≡ c) × ((f ≡ fault.OutOfMemory) ⊎ Answers line c c (reply.Refused f))
    denied_so e m y f k made d = (same, by d.cause) where
      same : e ≡ c
      same = k ∙ ap (λ (z : Client). record z { label = m; txn = Some y }) is ∙ (λ i. client_of (at_label who (d.label i)) (Some (d.txn i))) ∙ sym is

      by : (f ≡ fault.OutOfMemory) ⊎ Inside who x r (refuses (Rattle.ifdb_db.specs.Inside.session_of who (txn_at (Some x))) f) → (f ≡ fault.OutOfMemory) ⊎ Answers line c c (reply.Refused f)
      by (inl o) = inl o
      by (inr h) = inr (record {
        told = λ log o. asked_so _ log d.goes_on h o ∙ ap (λ (z : Client). tells (session_at z) (reply.Refused f)) (sym is);
        goes_on = subst (λ (z : Client). GoesOn z.txn z.txn) (sym is) (refl, refl);
        lent = subst IsLent (sym is) (record { is_open = refl; greeted = refl; label = made });
        still = λ u. refl;
      })

    -- it is left to the database
    pub left_so : (e : Client) (m : List ℕ) (y : Open) (end : Form) → e ≡ record c { label = m; txn = Some y } → IsLeft end who.label m x y r → e ≡ c
    left_so e m y end k d = k ∙ ap (λ (z : Client). record z { label = m; txn = Some y }) is ∙ (λ i. client_of (at_label who (d.label i)) (Some (d.txn i))) ∙ sym is

-- a line that isn't read
pub unread_so : (line : List ℕ) (c : Client) (f : Fault) → IsLent c → (f ≡ fault.OutOfMemory) ⊎ (read_line line ≡ Err f)
    → (c ≡ c) × ((f ≡ fault.OutOfMemory) ⊎ Answers line c c (reply.Refused f))
unread_so line c f k (inl e) = (refl, inl e)
unread_so line c f k (inr e) = (
  refl,
  inr (record {
    told = λ log o. ap (ask_read log (session_at c)) e;
    goes_on = goes_itself c.label c.txn k.label;
    lent = k;
    still = λ u. refl;
  }),
)

-- ---- a client comes back

pub held_back : (h : Hall) (n : ℕ) (c : Client) → IsSoundRoom h → MayComeBack h n c → IsHeld h.desk c
held_back h n c sound m = by (client_in h n).txn c.txn m.goes_on m.lent.label held where
  now : Seen
  now = h.desk.seen

  held : IsHeld h.desk (client_in h n)
  held = let t = at_open h n m.is_open in subst (IsHeld h.desk) (sym t.at) (sound.clients (n - 1) no_client t.there)

  by : (t u : Option Open) → GoesOn t u → IsLabelInside c.label u → IsLabelKept now.public (client_in h n).label t × IsBegun now h.desk.count t → IsLabelKept now.public c.label u × IsBegun now h.desk.count u
  by None u g l k = absurd g
  by (Some x) None g l k = absurd g
  by (Some x) (Some y) g l k = held_on now h.desk.count (client_in h n).label c.label x y g.0 g.1 l k

pub held_there : (h : Hall) (n : ℕ) → IsSoundRoom h → (client_in h n).is_open ≡ true → IsHeld h.desk (client_in h n)
held_there h n sound o = let t = at_open h n o in subst (IsHeld h.desk) (sym t.at) (sound.clients (n - 1) no_client t.there)

-- it stands in its place then
pub put_there : (h : Hall) (n : ℕ) (c : Client) → (client_in h n).is_open ≡ true → client_in (with_client h n c) n ≡ c
put_there h n c o =
    let t = at_open h n o in
    let from_1 = t.from_1 in
    let there : client_in (with_client h n c) n ≡ slice_index_or (slice_set h.clients (n - 1) c) (n - 1) no_client = rw from_1 refl in
    there ∙ get_or-set_same h.clients (n - 1) c no_client t.there

pub set_twice : {X : Type 0} (xs : List X) (k : ℕ) (x y : X) → slice_set (slice_set xs k x) k y ≡ slice_set xs k y
set_twice [] k x y = refl
set_twice (z ∷ xs) zero x y = refl
set_twice (z ∷ xs) (suc k) x y = ap (λ l. z ∷ l) (set_twice xs k x y)

pub put_twice : (h : Hall) (n : ℕ) (c e : Client) → with_client (with_client h n c) n e ≡ with_client h n e
put_twice h n c e = ap (λ (cs : List Client). record h { clients = cs }) (set_twice h.clients (n - 1) c e)

pub put_itself : (h : Hall) (n : ℕ) → (client_in h n).is_open ≡ true → with_client h n (client_in h n) ≡ h
put_itself h n o =
    let t = at_open h n o in
    ap (λ (cs : List Client). record h { clients = cs }) (ap (slice_set h.clients (n - 1)) t.at ∙ set_itself h.clients (n - 1) no_client)

-- ---- a room and a state, and a line that a lent session answered

begin_goes : (b : ℕ) (t u : Option Open) → GoesOn t u → times b (begin_of (txn_at u)) ≡ times b (begin_of (txn_at t))
begin_goes b None u g = absurd g
begin_goes b (Some x) None g = absurd g
begin_goes b (Some x) (Some y) g = ap (λ k. times b (k ∷ [])) g.0

module _ (h : Hall) (st : State) (w : StandsFor h st) (n : ℕ) (o : (client_in h n).is_open ≡ true) where
  t : IsThere h n
  t = at_open h n o

  here : slice_index_or st.sessions (n - 1) no_session ≡ session_at (client_in h n)
  here = ap (λ l. slice_index_or l (n - 1) no_session) (sym w.sessions) ∙ index_map h.clients (n - 1) ∙ ap session_at (sym t.at)

  there_in : n - 1 < length st.sessions
  there_in = let a = t.there in let b = as_many h st w in omega (arith, a, b)

  -- with a client whose transaction has gone on
  pub stands_with : (e : Client) → GoesOn (client_in h n).txn e.txn → StandsFor (with_client h n e) (record st { sessions = slice_set st.sessions (n - 1) (session_at e) })
  stands_with e g = record {
    desk = record { seen = w.desk.seen; commits = w.desk.commits; count = w.desk.count; begins = λ b. began b };
    sessions = set_map h.clients (n - 1) e ∙ ap (λ l. slice_set l (n - 1) (session_at e)) w.sessions;
    over = all_set (λ (z : Client). IsOver st.log z.txn) h.clients (n - 1) e (over_further st.log (client_in h n).txn e.txn g (over_at h st w n t)) w.over;
  } where
    began : (b : ℕ) → times b h.desk.begins ≡ times b (begins_of (slice_set st.sessions (n - 1) (session_at e)))
    began b =
        let two = times_set b st.sessions (n - 1) (session_at e) there_in in
        let old = ap (λ (s : Session). times b (begin_of s.txn)) here in
        let new = begin_goes b (client_in h n).txn e.txn g in
        let was = w.desk.begins b in
        omega (arith, two, old, new, was)

  module _ (line : List ℕ) (e : Client) (r : Reply) (a : Answers line (client_in h n) e r) where
    opened : (session_of st n).is_open ≡ true
    opened = ap (λ (s : Session). s.is_open) (same_session h st w n) ∙ o

    asked : ask read_line st.log (session_of st n) line ≡ tells (session_at e) r
    asked = ap (λ (s : Session). ask read_line st.log s line) (same_session h st w n) ∙ a.told st.log (over_at h st w n t)

    -- the room stands for the state after the line
    pub stands_answered : StandsFor (with_client h n e) (next read_line st (asks n line))
    stands_answered =
        let stepped : next read_line st (asks n line) ≡ with_outcome st n (ask read_line st.log (session_of st n) line) = rw opened refl in
        let log = append-nil st.log in
        let same : with_outcome st n (tells (session_at e) r) ≡ record st { sessions = slice_set st.sessions (n - 1) (session_at e) } =
        (λ i. record { log = log i; sessions = slice_set st.sessions (n - 1) (session_at e) }) in
        subst (StandsFor (with_client h n e)) (sym (stepped ∙ ap (with_outcome st n) asked ∙ same)) (stands_with e a.goes_on)

-- ---- what a client is, by the machine's session and log

-- where a transaction began, and its writes, if it is one
abbrev begin_at : Option Txn → ℕ
begin_at None = 0
begin_at (Some x) = x.begin

abbrev own_at : Option Txn → List Write
own_at None = []
own_at (Some x) = x.own

client_same : (log : List Entry) (c d : Client) → session_at c ≡ session_at d → IsOver log c.txn → IsOver log d.txn → c ≡ d
client_same log c d e o p = λ i. record {
  is_open = (ap (λ (s : Session). s.is_open) e) i;
  principal = (ap (λ (s : Session). s.principal) e) i;
  ceiling = (ap (λ (s : Session). s.ceiling) e) i;
  label = (ap (λ (s : Session). s.label) e) i;
  txn = (by c.txn d.txn (ap (λ (s : Session). s.txn) e) o p) i;
} where
  by : (t u : Option Open) → txn_at t ≡ txn_at u → IsOver log t → IsOver log u → t ≡ u
  by None None e o p = refl
  by None (Some y) e o p = cc
  by (Some x) None e o p = cc
  by (Some x) (Some y) e o p = ap Some (λ i. record { begin = begin i; own = own i; base = base i }) where
    begin : x.begin ≡ y.begin
    begin = ap begin_at e

    own : x.own ≡ y.own
    own = ap own_at e

    base : x.base ≡ y.base
    base = o.1 ∙ ap (λ k. seen_in (take k log) None) begin ∙ sym p.1

pub client_is_that : (h : Hall) (st : State) (n : ℕ) (c : Client) → StandsFor h st → c.is_open ≡ true → session_of st n ≡ session_at c → IsOver st.log c.txn → client_in h n ≡ c
client_is_that h st n c w o e p =
    let same = sym (same_session h st w n) ∙ e in
    let opened : (client_in h n).is_open ≡ true = ap (λ (s : Session). s.is_open) same ∙ o in
    client_same st.log (client_in h n) c same (over_at h st w n (at_open h n opened)) p
