-- An open session is looked at in its room; it is taken out, changes, and is put back.
use Rattle.std.proofs.Common.{◌≡◌, ℕ, ◌-◌, true, List, ◌∙◌, Option, Some, None, is_some, sym, ap, subst}
use Rattle.std.specs.Prelude.{Result, Ok, Err, IfSome, slice_set}
use Rattle.std.proofs.lemmas.Bool.{false≢true}
use Rattle.ifdb_wire.specs.declared.fault.Fault.{Fault}
use Rattle.ifdb_wire.specs.declared.reply.Reply.{Reply}
use Rattle.ifdb_model.specs.Session.{Seen}
use Rattle.ifdb_model.specs.Step.{Outcome, bye}
use Rattle.ifdb_db.specs.Answer.{IsAnswered, IsRefusal, IsStill, answered}
use Rattle.ifdb_db.specs.Client.{Open, Client, left_client, new_client, session_at}
use Rattle.ifdb_db.specs.Desk.{Desk, moved}
use Rattle.ifdb_db.specs.Kept.{AreHeld, IsBegun, IsHeld, IsLabelKept}
use Rattle.ifdb_db.specs.Lent.{IsLabelInside, IsLent}
use Rattle.ifdb_db.specs.Looks.{Sight, IsSightOf, client_of_sight}
use Rattle.ifdb_db.specs.Reading.{read_line}
use Rattle.ifdb_db.specs.Room.{Hall, no_client, client_in}
use Rattle.ifdb_db.specs.RoomSteps.{IsAskedIn, IsLeftBy}
use Rattle.ifdb_db.specs.Sessions.{client_at}
use Rattle.ifdb_db.proofs.Keeping.{all_held_moved, all_set}
use Rattle.ifdb_db.proofs.Lending.{put_there, set_twice}
use Rattle.ifdb_db.proofs.RoomLaws.{asked_open, at_open, outcome_open, put_back}

-- in a transaction that is open the label is kept with it
label_inside : (now : Seen) (count : ℕ) (label : List ℕ) (t : Option Open) → is_some t ≡ true → IsLabelKept now.public label t × IsBegun now count t → IsLabelInside label t
label_inside now count label None inside held = absurd (false≢true inside)
label_inside now count label (Some x) inside held = held.0.0

module _ (h : Hall) (n : ℕ) (is_open : (client_in h n).is_open ≡ true) where
  -- a new one stands in its place meanwhile
  pub stands_in : (xs : List Client) (c : Client) → c ≡ new_client → xs ≡ slice_set h.clients (n - 1) c → (client_at xs n).is_open ≡ true
  stands_in xs c new e = subst (λ (z : List Client). (client_at z n).is_open ≡ true) (sym e) (ap (λ (z : Client). z.is_open) (put_there h n c is_open ∙ new))

  -- and then it does, as it is by then
  pub put_after : (xs ys : List Client) (c e : Client) → xs ≡ slice_set h.clients (n - 1) c → ys ≡ slice_set xs (n - 1) e → ys ≡ slice_set h.clients (n - 1) e
  put_after xs ys c e first then = then ∙ ap (λ (z : List Client). slice_set z (n - 1) e) first ∙ set_twice h.clients (n - 1) c e

  pub is_held : (c : Client) → c ≡ client_in h n → AreHeld h.desk h.clients → IsHeld h.desk c
  is_held c i held = let t = at_open h n is_open in subst (IsHeld h.desk) (sym (i ∙ t.at)) (held (n - 1) no_client t.there)

  -- a copy of it is lent
  pub is_lent : (c : Client) → c ≡ client_in h n → AreHeld h.desk h.clients → (copy : Option Client) → IfSome copy (λ x. x ≡ c) → IfSome copy (λ _. is_some c.principal ≡ true)
      → IfSome copy (λ _. is_some c.txn ≡ true) → IfSome copy (λ x. x ≡ client_in h n) × IfSome copy (λ x. IsLent x)
  is_lent c i held None same greeted inside = (tt, tt)
  is_lent c i held (Some x) same greeted inside =
      let lent : IsLent c = record {
        is_open = ap (λ (z : Client). z.is_open) i ∙ is_open;
        greeted = greeted;
        label = label_inside h.desk.seen h.desk.count c.label c.txn inside (is_held c i held);
      } in
      (same ∙ i, subst IsLent (sym same) lent)

  -- what it sees
  pub is_seen : (c : Client) → c ≡ client_in h n → (sight : Option Sight) → IfSome sight (λ x. c ≡ client_of_sight c.ceiling x) → IfSome sight (λ x. x.seen ≡ h.desk.seen)
      → IfSome sight (IsSightOf h n)
  is_seen c i None client seen = tt
  is_seen c i (Some x) client seen = record { client = sym i ∙ client ∙ ap (λ (z : Client). client_of_sight z.ceiling x) i; seen = seen }

  -- the desk holds all of them, whatever its line came to
  pub held_after : (d : Desk) (o : Outcome) (c e : Client) (told : Result Reply Fault) → IsAnswered o c e h.desk d told → IsHeld d e → AreHeld h.desk h.clients
      → AreHeld d (slice_set h.clients (n - 1) e)
  held_after d o c e (Ok r) done k held = all_set (IsHeld d) h.clients (n - 1) e k (all_held_moved h.desk d (session_at c) o h.clients done.desk held)
  held_after d o c e (Err f) undone k held = all_set (IsHeld d) h.clients (n - 1) e k (subst (λ (z : Desk). AreHeld z h.clients) (sym undone.desk) held)

  pub asked_in : (g : Hall) (line : List ℕ) (c e : Client) (told : Result Reply Fault) → c ≡ client_in h n
      → IsAnswered (answered h.desk c (read_line line)) c e h.desk g.desk told → IsStill c e h.desk g.desk told → g.clients ≡ slice_set h.clients (n - 1) e
      → IsAskedIn n line h g told
  asked_in g line c e (Ok r) i done still k = asked_open h g n line c e r is_open i done still k
  asked_in g line c e (Err f) i undone still k = record {
    cause = subst (λ (o : Outcome). IsRefusal o (session_at (client_in h n)) f) (sym (outcome_open h n line is_open))
        (subst (λ (z : Client). IsRefusal (answered h.desk z (read_line line)) (session_at z) f) i undone.cause);
    hall = let clients = k ∙ put_back h n c e is_open i undone.client in λ j. record { desk = undone.desk j; clients = clients j };
  }

  -- it left
  pub held_left : (d : Desk) (c e : Client) → d ≡ moved (session_at c) (bye (session_at c)) h.desk → IsHeld d e → AreHeld h.desk h.clients → AreHeld d (slice_set h.clients (n - 1) e)
  held_left d c e m k held = all_set (IsHeld d) h.clients (n - 1) e k (all_held_moved h.desk d (session_at c) (bye (session_at c)) h.clients m held)

  pub left_by : (g : Hall) (c e : Client) → c ≡ client_in h n → e ≡ left_client c → g.desk ≡ moved (session_at c) (bye (session_at c)) h.desk
      → g.clients ≡ slice_set h.clients (n - 1) e → IsLeftBy n h g
  left_by g c e i l m k = record {
    desk = m ∙ ap (λ (z : Client). moved (session_at z) (bye (session_at z)) h.desk) i;
    clients = k ∙ ap (slice_set h.clients (n - 1)) (l ∙ ap left_client i);
  }
