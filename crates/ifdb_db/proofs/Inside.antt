-- Requests in a transaction.
use Rattle.std.proofs.Common.{◌≡◌, ℕ, true, false, List, ◌∙◌, length, refl, sym, ap, subst, Option, Some, inl, inr}
use Rattle.std.specs.Prelude.{◌⊎◌, Result, Ok, Err}
use Rattle.ifdb_label.specs.Tags.{AreMade}
use Rattle.ifdb_row.specs.Writes.{merged}
use Rattle.ifdb_bound.specs.declared.request.Bound.{Bound}
use Rattle.ifdb_syntax.specs.declared.request.Request.{Request}
use Rattle.ifdb_wire.specs.declared.fault.Fault.{Fault}
use Rattle.ifdb_wire.specs.declared.fault.Fault.TheVariants as fault
use Rattle.ifdb_wire.specs.declared.reply.Reply.{Reply}
use Rattle.ifdb_wire.specs.declared.reply.Reply.TheVariants as reply
use Rattle.ifdb_catalog.specs.Binding.{bound}
use Rattle.ifdb_model.specs.Session.{Session, Seen}
use Rattle.ifdb_model.specs.Writes.{Written, is_delete, writes_of}
use Rattle.ifdb_model.specs.Step.{Form, greets, publishes, relabels, shows_label, begins, ends, rolls_back, leaves_us, looks, writes, form_of, refuses, land, write_bound, answered_as}
use Rattle.ifdb_txn.specs.Answers.{Gives}
use Rattle.ifdb_db.specs.Client.{Open, Standing, standing, txn_at}
use Rattle.ifdb_db.specs.declared.told.Told.{Told}
use Rattle.ifdb_db.specs.declared.told.Told.TheVariants.{Replies, Commits, RollsBack, Leaves}
use Rattle.ifdb_db.specs.Inside.{session_of, seen_of, is_end, is_outer, Denies, IsSaid, Inside, Finds, IsReplied, IsLeft, IsDenied, IsTold}
use Rattle.ifdb_db.proofs.Saying.{by_form}

module _ (who : Standing) (x : Open) (r : Request) where
  -- what is said over what the transaction sees is said in it
  pub replied : (f : Form) (m : List ℕ) (told : Reply) → form_of r ≡ f → is_end f ≡ false → IsSaid (seen_of x) who m r (Ok told) → IsReplied who m x x r told
  replied f m told e g s = record { goes_on = ap is_end e ∙ g; told = λ n v. s.0 n v (txn_at (Some x)); begin = refl; base = refl; still = λ i. (s.1 i, refl) }

  pub denied : (f : Form) (m : List ℕ) (g : Fault) → form_of r ≡ f → is_end f ≡ false → IsSaid (seen_of x) who m r (Err g) → IsDenied who m x x r g
  denied f m g e h s = record { goes_on = ap is_end e ∙ h; cause = by s.0; label = s.1; txn = refl } where
    by : Denies (seen_of x) who r g → (g ≡ fault.OutOfMemory) ⊎ Inside who x r (refuses (session_of who (txn_at (Some x))) g)
    by (inl m) = inl m
    by (inr h) = inr (λ n v. h n v (txn_at (Some x)))

  -- requests that are refused in each transaction
  pub refused_inside : (f : Form) → form_of r ≡ f → is_outer f ≡ true → IsDenied who who.label x x r fault.InTransaction
  refused_inside (greets name key) e h = cc
  refused_inside publishes e h =
      record { goes_on = ap is_end e; cause = inr (λ n v. by_form (seen_of x) who.principal r publishes e n v (session_of who (txn_at (Some x)))); label = refl; txn = refl }
  refused_inside relabels e h = cc
  refused_inside shows_label e h = cc
  refused_inside begins e h =
      record { goes_on = ap is_end e; cause = inr (λ n v. by_form (seen_of x) who.principal r begins e n v (session_of who (txn_at (Some x)))); label = refl; txn = refl }
  refused_inside ends e h = cc
  refused_inside rolls_back e h = cc
  refused_inside leaves_us e h = cc
  refused_inside looks e h = cc
  refused_inside writes e h = cc

  pub hello_inside : (name key : List ℕ) → form_of r ≡ greets name key → IsDenied who who.label x x r fault.HelloTwice
  hello_inside name key e = record {
    goes_on = ap is_end e;
    cause = inr (λ n v. by_form (seen_of x) who.principal r (greets name key) e n v (session_of who (txn_at (Some x))));
    label = refl;
    txn = refl;
  }

module _ (l : List ℕ) (x : Open) (r : Request) where
  pub left : (end : Form) → form_of r ≡ end → IsLeft end l l x x r
  left end e = record { form = e; label = refl; txn = refl }

-- ---- what the transaction began with

-- it stays, whatever a request is told
module _ (who : Standing) (m : List ℕ) (x y : Open) (r : Request) where
  base_stays : (o : Result Told Fault) → IsTold who m x y r o → y.base ≡ x.base
  base_stays (Ok (Replies reply)) t = t.base
  base_stays (Ok Commits) t = ap (λ (z : Open). z.base) t.txn
  base_stays (Ok RollsBack) t = ap (λ (z : Open). z.base) t.txn
  base_stays (Ok Leaves) t = ap (λ (z : Open). z.base) t.txn
  base_stays (Err f) t = ap (λ (z : Open). z.base) t.txn

  -- so a label over its tags is over them still
  pub made_still : (o : Result Told Fault) → IsTold who m x y r o → AreMade (length x.base.public.tags) m → AreMade (length y.base.public.tags) m
  made_still o t made = subst (λ (b : Seen). AreMade (length b.public.tags) m) (sym (base_stays o t)) made

-- ---- INSERT, UPDATE and DELETE, whatever the ceiling is

module _ (asker : ℕ) (l : List ℕ) (x : Open) (r : Request) (f : form_of r ≡ writes) where
  goes_on : is_end (form_of r) ≡ false
  goes_on = ap is_end f

  abbrev there : Option (List ℕ) → Session
  there c = session_of (standing asker c l) (txn_at (Some x))

  found_writes : (c : Option (List ℕ)) (b : Bound) → bound x.base.public asker r ≡ Ok b → (n : ℕ) (v : Option Fault)
      → answered_as n (seen_of x) v (there c) asker r (form_of r) ≡ land (there c) (seen_of x).rows (is_delete b) (writes_of x.base.public asker (seen_of x).rows l b)
  found_writes c b e n v = by_form (seen_of x) asker r writes f n v (there c) ∙ ap (write_bound x.base.public (seen_of x).rows asker (there c)) e

  pub found_written : (b : Bound) (o : Result Written Fault) → bound x.base.public asker r ≡ Ok b → Gives (writes_of x.base.public asker (seen_of x).rows l b) o → Finds asker l x r o
  found_written b (Ok w) e h = λ c n v. found_writes c b e n v ∙ ap (land (there c) (seen_of x).rows (is_delete b)) h
  found_written b (Err g) e h = by h where
    by : (g ≡ fault.OutOfMemory) ⊎ (writes_of x.base.public asker (seen_of x).rows l b ≡ Err g) → Finds asker l x r (Err g)
    by (inl m) = inl m
    by (inr k) = inr (λ c n v. found_writes c b e n v ∙ ap (land (there c) (seen_of x).rows (is_delete b)) k)

  pub found_unbound : (g : Fault) → (g ≡ fault.OutOfMemory) ⊎ (bound x.base.public asker r ≡ Err g) → Finds asker l x r (Err g)
  found_unbound g (inl m) = inl m
  found_unbound g (inr e) = inr (λ c n v. by_form (seen_of x) asker r writes f n v (there c) ∙ ap (write_bound x.base.public (seen_of x).rows asker (there c)) e)

  pub rows_changed : (w : Written) (y : Open) (c : Option (List ℕ)) → Finds asker l x r (Ok w) → y ≡ record x { own = merged x.own w.writes } → IsReplied (standing asker c l) l x y r (reply.Count w.count)
  rows_changed w y c h k =
      subst (λ z. IsReplied (standing asker c l) l x z r (reply.Count w.count)) (sym k) (record { goes_on = goes_on; told = h c; begin = refl; base = refl; still = λ i. absurd i })

  pub rows_denied : (g : Fault) (c : Option (List ℕ)) → Finds asker l x r (Err g) → IsDenied (standing asker c l) l x x r g
  rows_denied g c h = record { goes_on = goes_on; cause = by h; label = refl; txn = refl } where
    by : Finds asker l x r (Err g) → (g ≡ fault.OutOfMemory) ⊎ Inside (standing asker c l) x r (refuses (there c) g)
    by (inl m) = inl m
    by (inr k) = inr (k c)
