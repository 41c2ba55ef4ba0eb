-- What is recorded of a line, by what its request came to.
use Rattle.std.proofs.Common.{◌≡◌, ℕ, Bool, true, false, cond, List, [], ◌∷◌, ◌∙◌, refl, sym, ap, subst, Option, Some, None}
use Rattle.std.specs.Prelude.{Result, Ok, Err}
use Rattle.ifdb_row.specs.declared.write.Write.{Write}
use Rattle.ifdb_redo.specs.declared.record.RedoRecord.{RedoRecord}
use Rattle.ifdb_redo.specs.declared.record.RedoRecord.TheVariants as redo
use Rattle.ifdb_syntax.specs.declared.request.Request.{Request}
use Rattle.ifdb_wire.specs.declared.fault.Fault.{Fault}
use Rattle.ifdb_wire.specs.declared.fault.Fault.TheVariants as fault
use Rattle.ifdb_wire.specs.declared.reply.Reply.{Reply}
use Rattle.ifdb_wire.specs.declared.reply.Reply.TheVariants as reply
use Rattle.ifdb_bound.specs.declared.request.Bound.{Bound}
use Rattle.ifdb_bound.specs.declared.request.Bound.TheVariants as bound
use Rattle.ifdb_catalog.specs.Public.{Public, principal_named, is_key}
use Rattle.ifdb_model.specs.Log.{Entry, commits}
use Rattle.ifdb_model.specs.Session.{Session, Seen, in_txn}
use Rattle.ifdb_model.specs.Step.{Form, greets, publishes, relabels, shows_label, begins, ends, rolls_back, leaves_us, looks, writes, form_of, Outcome, tells, refuses, welcomed, greeted, label_refusal, relabelled_as, set_label, answered_as, answered_new, ask}
use Rattle.ifdb_model.specs.Run.{State, session_of, asks}
use Rattle.ifdb_model.specs.Writes.{Written}
use Rattle.ifdb_restore.specs.Redone.{recorded, records_at}
use Rattle.ifdb_db.specs.Answer.{answered, answered_by, commits_by, fault_of}
use Rattle.ifdb_db.specs.Client.{Open, Client, Standing, standing, client_of, session_at, seen_by}
use Rattle.ifdb_db.specs.Desk.{Desk}
use Rattle.ifdb_db.specs.Inside.{IsReplied}
use Rattle.ifdb_db.specs.Noting.{Noted, blank, holding, noted, IsNoted, IsNotedAt, IsNotedIn}
use Rattle.ifdb_db.specs.Outside.{outside, Writes as FindsWrites}
use Rattle.ifdb_db.specs.Reading.{read_line}
use Rattle.ifdb_db.specs.Room.{Hall, StandsFor, IsSoundRoom, client_in, outcome_in}
use Rattle.ifdb_db.proofs.Answering.{client_is}
use Rattle.ifdb_db.proofs.RoomLaws.{asked_same, same_session}

-- ---- what adds nothing

greeted_adds : (p : Public) (s : Session) (key : List ℕ) (o : Option ℕ) → (greeted p s key o).added ≡ None
greeted_adds p s key None = refl
greeted_adds p s key (Some n) = by (is_key p n key) where
  by : (b : Bool) → (cond b (tells (welcomed p s n) reply.Done) (refuses s fault.BadKey)).added ≡ None
  by true = refl
  by false = refl

new_adds : (p : Public) (s : Session) (f : Form) → (answered_new p s f).added ≡ None
new_adds p s (greets name key) = greeted_adds p s key (principal_named p name)
new_adds p s publishes = refl
new_adds p s relabels = refl
new_adds p s shows_label = refl
new_adds p s begins = refl
new_adds p s ends = refl
new_adds p s rolls_back = refl
new_adds p s leaves_us = refl
new_adds p s looks = refl
new_adds p s writes = refl

relabelled_adds : (s : Session) (label : List ℕ) (o : Option Fault) → (relabelled_as s label o).added ≡ None
relabelled_adds s label None = refl
relabelled_adds s label (Some f) = refl

set_label_adds : (p : Public) (asker : ℕ) (s : Session) (found : Result Bound Fault) → (set_label p asker s found).added ≡ None
set_label_adds p asker s (Err f) = refl
set_label_adds p asker s (Ok (bound.SetLabel label)) = relabelled_adds s label (label_refusal p asker s label)
set_label_adds p asker s (Ok (bound.Change c)) = refl
set_label_adds p asker s (Ok (bound.Select q)) = refl
set_label_adds p asker s (Ok (bound.Insert table rows given)) = refl
set_label_adds p asker s (Ok (bound.Update table assignments c given)) = refl
set_label_adds p asker s (Ok (bound.Delete table c)) = refl
set_label_adds p asker s (Ok bound.Other) = refl

begin_adds : (n : ℕ) (s : Session) (b : Bool) → (cond b (refuses s fault.InTransaction) (tells (record s { txn = Some (record { begin = n; own = [] }) }) reply.Done)).added ≡ None
begin_adds n s true = refl
begin_adds n s false = refl

rollback_adds : (s : Session) (b : Bool) → (cond b (tells (record s { txn = None }) reply.Done) (refuses s fault.NoTransaction)).added ≡ None
rollback_adds s true = refl
rollback_adds s false = refl

-- the form adds nothing, whatever it comes to
abbrev pub is_quiet : Form → Bool
is_quiet publishes = false
is_quiet ends = false
is_quiet writes = false
is_quiet _ = true

quiet_adds : (n : ℕ) (x : Seen) (o : Option Fault) (s : Session) (asker : ℕ) (r : Request) (f : Form) → is_quiet f ≡ true → (answered_as n x o s asker r f).added ≡ None
quiet_adds n x o s asker r (greets name key) q = refl
quiet_adds n x o s asker r publishes q = cc
quiet_adds n x o s asker r relabels q = set_label_adds x.public asker s _
quiet_adds n x o s asker r shows_label q = refl
quiet_adds n x o s asker r begins q = begin_adds n s (in_txn s.txn)
quiet_adds n x o s asker r ends q = cc
quiet_adds n x o s asker r rolls_back q = rollback_adds s (in_txn s.txn)
quiet_adds n x o s asker r leaves_us q = refl
quiet_adds n x o s asker r looks q = refl
quiet_adds n x o s asker r writes q = cc

-- ---- what is noted

-- where nothing is added
pub nothing_noted : (o : Outcome) (asker : Option ℕ) (line : List ℕ) (n : Noted) (told : Result Reply Fault) → o.added ≡ None → IsNoted o asker line n n told
nothing_noted o asker line n (Ok r) e = sym (ap (λ (a : Option Entry). noted n (recorded asker line a)) e)
nothing_noted o asker line n (Err f) e = refl

-- a commit
pub commit_noted : (o : Outcome) (asker : Option ℕ) (line : List ℕ) (n m : Noted) (told : Reply) (ws : List Write) → o.added ≡ Some (commits ws)
    → m ≡ noted n (redo.Commit ws ∷ []) → IsNoted o asker line n m (Ok told)
commit_noted o asker line n m told ws e k = k ∙ sym (ap (λ (a : Option Entry). noted n (recorded asker line a)) e)

module _ (d : Desk) (c : Client) (asker : ℕ) (r : Request) (line : List ℕ) (n : Noted) (told : Result Reply Fault) where
  -- of a session that didn't say HELLO
  pub new_noted : IsNoted (answered_by d c None r) None line n n told
  new_noted = nothing_noted (answered_by d c None r) None line n told (new_adds d.seen.public (session_at c) (form_of r))

  pub quiet_noted : is_quiet (form_of r) ≡ true → IsNoted (answered_by d c (Some asker) r) (Some asker) line n n told
  quiet_noted q = nothing_noted (answered_by d c (Some asker) r) (Some asker) line n told
      (quiet_adds d.count (seen_by d.seen c.txn) (fault_of d c.label c.txn) (session_at c) asker r (form_of r) q)

-- inside a transaction
pub replied_noted : (d : Desk) (c : Client) (who : Standing) (t u : Open) (m : List ℕ) (r : Request) (line : List ℕ) (n : Noted) (told : Reply)
    → c ≡ client_of who (Some t) → IsReplied who m t u r told → IsNoted (answered_by d c (Some who.principal) r) (Some who.principal) line n n (Ok told)
replied_noted d c who t u m r line n told is h =
    nothing_noted (answered_by d c (Some who.principal) r) (Some who.principal) line n (Ok told)
    (ap (λ (e : Client). (answered_by d e (Some who.principal) r).added) is ∙ ap (λ (o : Outcome). o.added) (h.told d.count (fault_of d who.label (Some t))))

-- ---- outside a transaction

module _ (x : Desk) (asker : ℕ) (l : List ℕ) (r : Request) (line : List ℕ) (n m : Noted) where
  -- what is written
  pub landed_noted : (w : Written) → FindsWrites asker l r x (Ok w) → m ≡ noted n (redo.Commit w.writes ∷ []) → IsNotedAt asker l r line x n m (Ok (reply.Count w.count))
  landed_noted w h k = λ c. commit_noted (outside x (standing asker c l) r) (Some asker) line n m (reply.Count w.count) w.writes (ap (λ (o : Outcome). o.added) (h c)) k

  pub not_noted : (f : Fault) → m.limit ≡ n.limit → IsNotedAt asker l r line x n m (Err f)
  not_noted f k = λ c. k

-- at a session's label
pub noted_at : (x : Desk) (c : Client) (asker : ℕ) (r : Request) (line : List ℕ) (n m : Noted) (told : Result Reply Fault)
    → c.is_open ≡ true → c.principal ≡ Some asker → c.txn ≡ None → IsNotedAt asker c.label r line x n m told → IsNoted (answered_by x c (Some asker) r) (Some asker) line n m told
noted_at x c asker r line n m told o p t h =
    subst (λ (e : Client). IsNoted (answered_by x e (Some asker) r) (Some asker) line n m told) (sym (client_is asker None c o p t)) (h c.ceiling)

-- COMMIT, by its form
pub ends_noted : (d : Desk) (c : Client) (asker : ℕ) (r : Request) (line : List ℕ) (n m : Noted) (told : Result Reply Fault) → form_of r ≡ ends
    → IsNoted (commits_by d c) (Some asker) line n m told → IsNoted (answered_by d c (Some asker) r) (Some asker) line n m told
ends_noted d c asker r line n m told e h =
    subst (λ (f : Form). IsNoted (answered_as d.count (seen_by d.seen c.txn) (fault_of d c.label c.txn) (session_at c) asker r f) (Some asker) line n m told) (sym e) h

-- the limit stays
holding_limit : (o : Option ℕ) (n : Noted) (r : RedoRecord) → (holding o n r).limit ≡ n.limit
holding_limit None n r = refl
holding_limit (Some limit) n r = refl

pub noted_limit : (n : Noted) (rs : List RedoRecord) → (noted n rs).limit ≡ n.limit
noted_limit n [] = refl
noted_limit n (r ∷ rs) = holding_limit n.limit n r

-- ---- in a room

-- an open client is asked
pub asked_noted : (h : Hall) (n : ℕ) (line : List ℕ) (c : Client) (a b : Noted) (told : Result Reply Fault) → (client_in h n).is_open ≡ true → c ≡ client_in h n
    → IsNoted (answered h.desk c (read_line line)) c.principal line a b told → IsNoted (outcome_in h n line) (client_in h n).principal line a b told
asked_noted h n line c a b told o is k =
    let same : outcome_in h n line ≡ answered h.desk (client_in h n) (read_line line) = rw o refl in
    subst (λ (x : Outcome). IsNoted x (client_in h n).principal line a b told) (sym same)
    (subst (λ (e : Client). IsNoted (answered h.desk e (read_line line)) e.principal line a b told) is k)

module _ (h : Hall) (st : State) (w : StandsFor h st) (sound : IsSoundRoom h) (n : ℕ) (line : List ℕ) where
  -- the records of a line, by what the room holds
  records_in : records_at read_line st (asks n line) ≡ recorded (client_in h n).principal line (outcome_in h n line).added
  records_in = by (client_in h n).is_open refl where
    open_same : (b : Bool) → (client_in h n).is_open ≡ b → (session_of st n).is_open ≡ b
    open_same b e = ap (λ (s : Session). s.is_open) (same_session h st w n) ∙ e

    by : (b : Bool) → (client_in h n).is_open ≡ b → records_at read_line st (asks n line) ≡ recorded (client_in h n).principal line (outcome_in h n line).added
    by true e =
        let there : records_at read_line st (asks n line) ≡ recorded (session_of st n).principal line (ask read_line st.log (session_of st n) line).added = rw (open_same true e) refl in
        there ∙ ap (λ (s : Session). recorded s.principal line (ask read_line st.log (session_of st n) line).added) (same_session h st w n)
        ∙ ap (λ (o : Outcome). recorded (client_in h n).principal line o.added) (asked_same h st w sound.desk n line e)
    by false e =
        let none : records_at read_line st (asks n line) ≡ [] = rw (open_same false e) refl in
        let refused : outcome_in h n line ≡ refuses (session_at (client_in h n)) fault.NoSession = rw e refl in
        none ∙ sym (ap (λ (o : Outcome). recorded (client_in h n).principal line o.added) refused)

pub noted_in : (h : Hall) (n : ℕ) (line : List ℕ) (a b : Noted) (told : Reply) → IsSoundRoom h
    → IsNoted (outcome_in h n line) (client_in h n).principal line (blank a) b (Ok told) → IsNotedIn h n line a b
noted_in h n line a b told sound k = λ st w. k ∙ sym (ap (λ (rs : List RedoRecord). noted (blank a) rs) (records_in h st w sound n line))

-- of a line that is refused
pub refused_noted : (h : Hall) (n : ℕ) (line : List ℕ) (a m b : Noted) (f : Fault) → IsSoundRoom h → outcome_in h n line ≡ refuses (session_at (client_in h n)) f
    → m.limit ≡ a.limit → b ≡ blank m → IsNotedIn h n line a b
refused_noted h n line a m b f sound e limit is =
    let same : b ≡ blank a = is ∙ (λ i. record { limit = limit i; held = None }) in
    noted_in h n line a b (reply.Refused f) sound (same ∙ sym (ap (λ (o : Outcome). noted (blank a) (recorded (client_in h n).principal line o.added)) e))
