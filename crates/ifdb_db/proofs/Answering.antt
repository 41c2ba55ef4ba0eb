-- What a client is answered, by what its request came to.
use Rattle.std.proofs.Common.{◌≡◌, ℕ, Bool, true, false, cond, List, ◌∙◌, refl, sym, ap, subst, Option, Some, None, inl, inr}
use Rattle.std.specs.Prelude.{◌⊎◌, Result, Ok, Err}
use Rattle.ifdb_syntax.specs.declared.request.Request.{Request}
use Rattle.ifdb_wire.specs.declared.fault.Fault.{Fault}
use Rattle.ifdb_wire.specs.declared.fault.Fault.TheVariants as fault
use Rattle.ifdb_wire.specs.declared.reply.Reply.{Reply}
use Rattle.ifdb_wire.specs.declared.reply.Reply.TheVariants as reply
use Rattle.ifdb_model.specs.Log.{Entry, changes, commits}
use Rattle.ifdb_model.specs.Session.{Session, Seen, Txn, in_txn}
use Rattle.ifdb_bound.specs.Query.{label_names}
use Rattle.ifdb_bound.specs.declared.request.Bound.{Bound}
use Rattle.ifdb_bound.specs.declared.request.Bound.TheVariants as bound
use Rattle.ifdb_bound.specs.declared.request.Change.{Change}
use Rattle.ifdb_catalog.specs.Public.{Public, refusal, tag_names, clearance_of}
use Rattle.ifdb_model.specs.Step.{Form, greets, publishes, form_of, Outcome, tells, refuses, welcomed, hello, show_label, bye, answered_as, answered_new, is_empty, publish, publish_bound, publish_it}
use Rattle.ifdb_db.specs.Client.{Open, Client, Standing, standing, at_label, client_of, session_at, txn_at, seen_by, IsBased}
use Rattle.ifdb_db.specs.Desk.{Desk, with_entry, settled, moved, begins_after}
use Rattle.ifdb_db.specs.Answer.{answered_by, fault_of, IsDone, IsUndone, IsAnswered, IsStill}
use Rattle.ifdb_db.specs.Inside.{session_of, Says, Denies, IsSaid, IsSaidAlike, Inside, IsReplied, IsDenied}
use Rattle.ifdb_db.specs.Outside.{outside, IsAdded, IsNotAdded, IsPublished}
use Rattle.ifdb_db.specs.Kept.{IsSound, IsKept, IsHeld}
use Rattle.ifdb_db.proofs.BeginLaws.{is_settled}
use Rattle.ifdb_db.proofs.Keeping.{held_by, label_kept_by, not_begun}
use Rattle.ifdb_db.proofs.Saying.{said_under}

-- the parts of a client
pub client_is : (asker : ℕ) (t : Option Open) (c : Client) → c.is_open ≡ true → c.principal ≡ Some asker → c.txn ≡ t → c ≡ client_of (standing asker c.ceiling c.label) t
client_is asker t c o p e = λ i. record { is_open = o i; principal = p i; ceiling = c.ceiling; label = c.label; txn = e i }

-- ---- sessions that keep their transaction

based_same : (now : Seen) (t : Option Open) → IsBased now t t
based_same now None = tt
based_same now (Some x) = refl

same_txn : (t : Option Txn) (begins : List ℕ) → begins_after t t begins ≡ begins
same_txn None begins = refl
same_txn (Some x) begins = refl

-- ---- how a desk moves

same_begins : (d : Desk) (a : Option Entry) → record (with_entry d a) { begins = d.begins } ≡ with_entry d a
same_begins d None = refl
same_begins d (Some (changes c)) = refl
same_begins d (Some (commits ws)) = refl

-- where nothing is added, and the transaction goes on or none is open, the desk stays
pub unmoved : (d : Desk) (s t : Session) (r : Reply) → IsSound d → begins_after s.txn t.txn d.begins ≡ d.begins → moved s (tells t r) d ≡ d
unmoved d s t r k b = ap (λ bs. settled (record d { begins = bs })) b ∙ is_settled d k

-- ---- before HELLO

pub greets_so : (x : Desk) (c e : Client) (name key : List ℕ) (n : ℕ) (ceiling : Option (List ℕ)) → IsSound x
    → e ≡ record c { principal = Some n; ceiling = ceiling } → ceiling ≡ clearance_of x.seen.public n
    → ((s : Session) → hello x.seen.public s name key ≡ tells (welcomed x.seen.public s n) reply.Done) → IsDone (hello x.seen.public (session_at c) name key) c e x x reply.Done
greets_so x c e name key n ceiling k is of h =
    let now : Client = record c { principal = Some n; ceiling = clearance_of x.seen.public n } in
    let there : e ≡ now = is ∙ ap (λ o. record c { principal = Some n; ceiling = o }) of in
    subst (λ (z : Client). IsDone (hello x.seen.public (session_at c) name key) c z x x reply.Done) (sym there)
    (subst (λ (o : Outcome). IsDone o c now x x reply.Done) (sym (h (session_at c))) (record {
      told = refl;
      session = refl;
      based = based_same x.seen c.txn;
      desk = sym (unmoved x (session_at c) (session_at now) reply.Done k (same_txn (txn_at c.txn) x.begins));
    }))

-- its ceiling had no memory
pub not_welcomed : (x : Desk) (c : Client) (o : Outcome) → IsUndone o c c x x fault.OutOfMemory
not_welcomed x c o = record { cause = inl refl; client = refl; desk = refl }

pub not_greeted : (x : Desk) (c : Client) (name key : List ℕ) (g : Fault) → ((s : Session) → hello x.seen.public s name key ≡ refuses s g)
    → IsUndone (hello x.seen.public (session_at c) name key) c c x x g
not_greeted x c name key g h = record { cause = inr (h (session_at c)); client = refl; desk = refl }

pub not_hello : (x : Desk) (c : Client) (f : Form) → answered_new x.seen.public (session_at c) f ≡ refuses (session_at c) fault.NotHello
    → IsUndone (answered_new x.seen.public (session_at c) f) c c x x fault.NotHello
not_hello x c f h = record { cause = inr h; client = refl; desk = refl }

-- ---- outside a transaction

-- SHOW LABEL
pub label_told : (x : Desk) (c : Client) (told : Reply) → IsSound x → c.txn ≡ None → told ≡ reply.Label (label_names (tag_names x.seen.public) c.label)
    → IsDone (show_label (seen_by x.seen c.txn).public (session_at c)) c c x x told
label_told x c told k n h = record {
  told = h ∙ sym (ap (λ t. reply.Label (label_names (tag_names (seen_by x.seen t).public) c.label)) n);
  session = refl;
  based = based_same x.seen c.txn;
  desk = sym (unmoved x (session_at c) (session_at c) told k (same_txn (txn_at c.txn) x.begins));
}

-- requests that have no place there
module _ (x : Desk) (c : Client) (asker : ℕ) (r : Request) where
  by_form : (f : Form) → form_of r ≡ f → answered_by x c (Some asker) r ≡ answered_as x.count (seen_by x.seen c.txn) (fault_of x c.label c.txn) (session_at c) asker r f
  by_form f e = ap (answered_as x.count (seen_by x.seen c.txn) (fault_of x c.label c.txn) (session_at c) asker r) e

  pub hello_twice : (name key : List ℕ) → form_of r ≡ greets name key → IsUndone (answered_by x c (Some asker) r) c c x x fault.HelloTwice
  hello_twice name key e = record { cause = inr (by_form (greets name key) e); client = refl; desk = refl }

module _ (who : Standing) (r : Request) (x : Desk) where
  abbrev free : Client
  free = client_of who None

  added_answers : (y : Desk) (told : Reply) → IsAdded who.principal who.label r x y told → IsDone (answered_by x free (Some who.principal) r) free free x y told
  added_answers y told a = subst (λ (o : Outcome). IsDone o free free x y told) (sym (a.outcome who.ceiling)) (record {
    told = refl;
    session = refl;
    based = tt;
    desk = a.desk ∙ ap settled (sym (same_begins x a.added));
  })

  not_added : (y : Desk) (g : Fault) → IsNotAdded who.principal who.label r x y g → IsUndone (answered_by x free (Some who.principal) r) free free x y g
  not_added y g a = record { cause = by a.cause; client = refl; desk = a.desk } where
    by : (g ≡ fault.OutOfMemory) ⊎ ((c : Option (List ℕ)) → outside x (standing who.principal c who.label) r ≡ refuses (session_of (standing who.principal c who.label) None) g)
        → (g ≡ fault.OutOfMemory) ⊎ (answered_by x free (Some who.principal) r ≡ refuses (session_at free) g)
    by (inl m) = inl m
    by (inr h) = inr (h who.ceiling)

  said_answers : (m : List ℕ) (told : Reply) → IsSound x → Says x.seen who m r told → IsDone (answered_by x free (Some who.principal) r) free (client_of (at_label who m) None) x x told
  said_answers m told k h = subst (λ (o : Outcome). IsDone o free (client_of (at_label who m) None) x x told) (sym (h x.count None None)) (record {
    told = refl;
    session = refl;
    based = tt;
    desk = sym (is_settled x k);
  })

  denied_answers : (g : Fault) → Denies x.seen who r g → IsUndone (answered_by x free (Some who.principal) r) free free x x g
  denied_answers g d = record { cause = by d; client = refl; desk = refl } where
    by : Denies x.seen who r g → (g ≡ fault.OutOfMemory) ⊎ (answered_by x free (Some who.principal) r ≡ refuses (session_at free) g)
    by (inl m) = inl m
    by (inr h) = inr (h x.count None None)

  module _ (c : Client) (is : c ≡ client_of who None) where
    pub answer_added : (e : Client) (y : Desk) (told : Reply) → e ≡ c → IsAdded who.principal who.label r x y told → IsDone (answered_by x c (Some who.principal) r) c e x y told
    answer_added e y told k a =
        subst (λ (d : Client). IsDone (answered_by x c (Some who.principal) r) c d x y told) (sym k)
        (subst (λ (d : Client). IsDone (answered_by x d (Some who.principal) r) d d x y told) (sym is) (added_answers y told a))

    pub answer_not_added : (e : Client) (y : Desk) (g : Fault) → e ≡ c → IsNotAdded who.principal who.label r x y g → IsUndone (answered_by x c (Some who.principal) r) c e x y g
    answer_not_added e y g k a =
        subst (λ (d : Client). IsUndone (answered_by x c (Some who.principal) r) c d x y g) (sym k)
        (subst (λ (d : Client). IsUndone (answered_by x d (Some who.principal) r) d d x y g) (sym is) (not_added y g a))

    pub answer_said : (e : Client) (m : List ℕ) (told : Reply) → IsSound x → e ≡ record c { label = m } → Says x.seen who m r told → IsDone (answered_by x c (Some who.principal) r) c e x x told
    answer_said e m told s k h =
        subst (λ (d : Client). IsDone (answered_by x c (Some who.principal) r) c d x x told) (sym k)
        (subst (λ (d : Client). IsDone (answered_by x d (Some who.principal) r) d (record d { label = m }) x x told) (sym is) (said_answers m told s h))

    pub answer_denied : (e : Client) (g : Fault) → e ≡ c → Denies x.seen who r g → IsUndone (answered_by x c (Some who.principal) r) c e x x g
    answer_denied e g k d =
        subst (λ (d : Client). IsUndone (answered_by x c (Some who.principal) r) c d x x g) (sym k)
        (subst (λ (d : Client). IsUndone (answered_by x d (Some who.principal) r) d d x x g) (sym is) (denied_answers g d))

-- what was published, or written
module _ (asker : ℕ) (r : Request) (x y : Desk) (c : Client) where
  pub published_answers : (told : Result Reply Fault) → c.is_open ≡ true → c.principal ≡ Some asker → c.txn ≡ None → IsPublished asker c.label r x y told
      → IsAnswered (answered_by x c (Some asker) r) c c x y told
  published_answers (Ok told) o p t a = answer_added (standing asker c.ceiling c.label) r x c (client_is asker None c o p t) c y told refl a
  published_answers (Err g) o p t a = answer_not_added (standing asker c.ceiling c.label) r x c (client_is asker None c o p t) c y g refl a

  pub published_keeps : (told : Result Reply Fault) → IsPublished asker c.label r x y told → IsKept x.seen.public c → IsKept y.seen.public c
  published_keeps (Ok told) a k = subst (λ (z : Desk). IsKept z.seen.public c) (sym a.desk) (label_kept_by x a.added c.label c.txn k)
  published_keeps (Err g) a k = subst (λ (z : Desk). IsKept z.seen.public c) (sym a.desk) k

  pub published_holds : (told : Result Reply Fault) → IsPublished asker c.label r x y told → IsHeld x c → IsHeld y c
  published_holds (Ok told) a k = subst (λ (z : Desk). IsHeld z c) (sym a.desk) (held_by x a.added c.label c.txn k)
  published_holds (Err g) a k = subst (λ (z : Desk). IsHeld z c) (sym a.desk) k

  pub published_is_still : (told : Result Reply Fault) → IsPublished asker c.label r x y told → IsStill c c x y told
  published_is_still (Ok told) a = λ u. absurd (a.bounded u)
  published_is_still (Err g) a = tt

-- a public change leaves a session without a transaction
module _ (p : Public) (s : Session) where
  made_stays : (c : Change) (o : Option Fault) → (publish_it s c o).session ≡ s
  made_stays c None = refl
  made_stays c (Some f) = refl

  bound_stays : (found : Result Bound Fault) → (publish_bound p s found).session ≡ s
  bound_stays (Err f) = refl
  bound_stays (Ok (bound.Change c)) = made_stays c (refusal p c)
  bound_stays (Ok (bound.SetLabel label)) = refl
  bound_stays (Ok (bound.Select q)) = refl
  bound_stays (Ok (bound.Insert table rows given)) = refl
  bound_stays (Ok (bound.Update table assignments cond given)) = refl
  bound_stays (Ok (bound.Delete table cond)) = refl
  bound_stays (Ok bound.Other) = refl

  publish_stays : (found : Result Bound Fault) → (publish p s found).session ≡ s
  publish_stays found = by (in_txn s.txn) (is_empty s.label) where
    by : (t e : Bool) → (cond t (refuses s fault.InTransaction) (cond e (publish_bound p s found) (refuses s fault.LabelNotEmpty))).session ≡ s
    by true e = refl
    by false true = bound_stays found
    by false false = refl

none_left : (t : Option Open) → txn_at t ≡ None → t ≡ None
none_left None e = refl
none_left (Some x) e = cc

pub publish_holds : (x y : Desk) (c e : Client) (asker : ℕ) (r : Request) (told : Result Reply Fault) → c.txn ≡ None → form_of r ≡ publishes
    → IsAnswered (answered_by x c (Some asker) r) c e x y told → IsKept y.seen.public e → IsHeld y e
publish_holds x y c e asker r (Ok told) n f a k =
    let stays = ap (λ (o : Outcome). o.session) (by_form x c asker r publishes f) ∙ publish_stays (seen_by x.seen c.txn).public (session_at c) _ in
    let none : txn_at e.txn ≡ None = ap (λ (s : Session). s.txn) (a.session ∙ stays) ∙ ap txn_at n in
    (k, not_begun y.seen y.count e.txn (none_left e.txn none))
publish_holds x y c e asker r (Err g) n f a k = (k, not_begun y.seen y.count e.txn (ap (λ (z : Client). z.txn) a.client ∙ n))

-- what was said over what all see
module _ (asker : ℕ) (r : Request) (x : Desk) (c e : Client) where
  pub said_so : (told : Result Reply Fault) (m : List ℕ) (ceiling : Option (List ℕ)) → IsSound x → c.is_open ≡ true → c.principal ≡ Some asker → c.txn ≡ None → e ≡ record c { label = m }
      → ceiling ≡ c.ceiling → IsSaid x.seen (standing asker ceiling c.label) m r told → IsAnswered (answered_by x c (Some asker) r) c e x x told
  said_so told m ceiling k o p t i same s = by told (subst (λ z. IsSaid x.seen (standing asker z c.label) m r told) same s) where
    by : (told : Result Reply Fault) → IsSaid x.seen (standing asker c.ceiling c.label) m r told → IsAnswered (answered_by x c (Some asker) r) c e x x told
    by (Ok told) s = answer_said (standing asker c.ceiling c.label) r x c (client_is asker None c o p t) e m told k i s.0
    by (Err g) s = answer_denied (standing asker c.ceiling c.label) r x c (client_is asker None c o p t) e g (i ∙ ap (λ l. record c { label = l }) s.1) s.0

  pub said_is_still : (told : Result Reply Fault) (m : List ℕ) (ceiling : Option (List ℕ)) → e ≡ record c { label = m } → IsSaid x.seen (standing asker ceiling c.label) m r told → IsStill c e x x told
  said_is_still (Ok told) m ceiling i s = λ u. (refl, i ∙ ap (λ l. record c { label = l }) (s.1 u))
  said_is_still (Err g) m ceiling i s = tt

-- the same of what no ceiling matters to
module _ (asker : ℕ) (r : Request) (x : Desk) (c : Client) where
  pub alike_so : (told : Result Reply Fault) → IsSound x → c.is_open ≡ true → c.principal ≡ Some asker → c.txn ≡ None
      → IsSaidAlike x.seen asker c.label r told → IsAnswered (answered_by x c (Some asker) r) c c x x told
  alike_so told k o p t s = said_so asker r x c c told c.label c.ceiling k o p t refl refl (said_under x.seen asker c.label r c.ceiling told s)

  pub alike_is_still : (told : Result Reply Fault) → IsSaidAlike x.seen asker c.label r told → IsStill c c x x told
  alike_is_still (Ok told) s = λ u. (refl, refl)
  alike_is_still (Err g) s = tt

-- BYE
pub says_bye : (x y : Desk) (c e : Client) → e ≡ record c { is_open = false; txn = None } → y ≡ moved (session_at c) (bye (session_at c)) x → IsDone (bye (session_at c)) c e x y reply.Done
says_bye x y c e k m = subst (λ (d : Client). IsDone (bye (session_at c)) c d x y reply.Done) (sym k) (record { told = refl; session = refl; based = tt; desk = m })

-- ---- inside a transaction

module _ (who : Standing) (r : Request) (x : Desk) (t : Open) where
  abbrev busy : Client
  busy = client_of who (Some t)

  replied_answers : (m : List ℕ) (u : Open) (told : Reply) → IsSound x → IsReplied who m t u r told
      → IsDone (answered_by x busy (Some who.principal) r) busy (client_of (at_label who m) (Some u)) x x told
  replied_answers m u told k h = subst (λ (o : Outcome). IsDone o busy (client_of (at_label who m) (Some u)) x x told) (sym (h.told x.count (fault_of x who.label (Some t)))) (record {
    told = refl;
    session = refl;
    based = h.base;
    desk = sym (is_settled x k);
  })

  denied_inside : (g : Fault) → IsDenied who who.label t t r g → IsUndone (answered_by x busy (Some who.principal) r) busy busy x x g
  denied_inside g d = record { cause = by d.cause; client = refl; desk = refl } where
    by : (g ≡ fault.OutOfMemory) ⊎ Inside who t r (refuses (session_of who (txn_at (Some t))) g) → (g ≡ fault.OutOfMemory) ⊎ (answered_by x busy (Some who.principal) r ≡ refuses (session_at busy) g)
    by (inl m) = inl m
    by (inr h) = inr (h x.count (fault_of x who.label (Some t)))

  module _ (c : Client) (is : c ≡ client_of who (Some t)) where
    pub answer_replied : (e : Client) (m : List ℕ) (u : Open) (told : Reply) → IsSound x → e ≡ record c { label = m; txn = Some u } → IsReplied who m t u r told
        → IsDone (answered_by x c (Some who.principal) r) c e x x told
    answer_replied e m u told k w h =
        subst (λ (d : Client). IsDone (answered_by x c (Some who.principal) r) c d x x told) (sym w)
        (subst (λ (d : Client). IsDone (answered_by x d (Some who.principal) r) d (record d { label = m; txn = Some u }) x x told) (sym is) (replied_answers m u told k h))

    pub answer_denied_inside : (e : Client) (m : List ℕ) (u : Open) (g : Fault) → e ≡ record c { label = m; txn = Some u } → IsDenied who m t u r g → IsUndone (answered_by x c (Some who.principal) r) c e x x g
    answer_denied_inside e m u g w d =
        let same : e ≡ c = w ∙ (λ i. record { is_open = c.is_open; principal = c.principal; ceiling = c.ceiling; label = d.label i; txn = Some (d.txn i) }) ∙ put in
        subst (λ (z : Client). IsUndone (answered_by x c (Some who.principal) r) c z x x g) (sym same)
        (subst (λ (z : Client). IsUndone (answered_by x z (Some who.principal) r) z z x x g) (sym is) (denied_inside g (record { goes_on = d.goes_on; cause = d.cause; label = refl; txn = refl }))) where
          put : record c { label = who.label; txn = Some t } ≡ c
          put = λ i. record { is_open = c.is_open; principal = c.principal; ceiling = c.ceiling; label = (ap (λ (z : Client). z.label) (sym is)) i; txn = (ap (λ (z : Client). z.txn) (sym is)) i }
