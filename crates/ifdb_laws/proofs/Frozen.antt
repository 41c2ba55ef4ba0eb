-- In a transaction each line but COMMIT is answered by what was before its BEGIN.
use Rattle.std.proofs.Common.{◌≡◌, ℕ, false, List, [], length, take, refl, sym, ap, ◌∙◌, cond, Some, Ok, Err, Result}
use Rattle.std.proofs.lemmas.Bool.{false≢true}
use Rattle.ifdb_row.specs.Content.{after}
use Rattle.ifdb_syntax.specs.declared.request.Request.{Request}
use Rattle.ifdb_wire.specs.declared.fault.Fault.{Fault}
use Rattle.ifdb_wire.specs.declared.fault.Fault.TheVariants as fault
use Rattle.ifdb_wire.specs.declared.reply.Reply.TheVariants as reply
use Rattle.ifdb_model.specs.Log.{Entry, public_of, content_of}
use Rattle.ifdb_model.specs.Session.{Txn, Session, in_txn, Seen, seen_in, seen}
use Rattle.ifdb_model.specs.Step.{tells, refuses, begin, Form, greets, publishes, relabels, shows_label, begins, ends, rolls_back, leaves_us, looks, writes, form_of, ask_as, ask_by, ask_read}
use Rattle.ifdb_laws.specs.StepLaws.{is_ending, is_commit, TransactionsAreFrozen}

-- what is seen in a transaction
seen_same : (log other : List Entry) (s : Session) (x : Txn) → s.txn ≡ Some x → take x.begin log ≡ take x.begin other → seen log s ≡ seen other s
seen_same log other s x t e =
    ap (seen_in log) t ∙ (λ i. record { public = public_of (e i); rows = after (content_of (e i)) x.own }) ∙ ap (seen_in other) (sym t)

begin_same : (n m : ℕ) (s : Session) (x : Txn) → s.txn ≡ Some x → begin n s ≡ begin m s
begin_same n m s x t = at n ∙ sym (at m) where
  at : (n : ℕ) → begin n s ≡ refuses s fault.InTransaction
  at n = ap (λ o. cond (in_txn o) (refuses s fault.InTransaction) (tells (record s { txn = Some (record { begin = n; own = [] }) }) reply.Done)) t

module _ (log other : List Entry) (s : Session) (x : Txn) (t : s.txn ≡ Some x) (e : take x.begin log ≡ take x.begin other) where
  as_same : (v : Seen) (asker : ℕ) (r : Request) (f : Form) → is_ending f ≡ false → ask_as log s v asker r f ≡ ask_as other s v asker r f
  as_same v asker r (greets name key) h = refl
  as_same v asker r publishes h = refl
  as_same v asker r relabels h = refl
  as_same v asker r shows_label h = refl
  as_same v asker r begins h = begin_same (length log) (length other) s x t
  as_same v asker r ends h = absurd (false≢true (sym h))
  as_same v asker r rolls_back h = refl
  as_same v asker r leaves_us h = refl
  as_same v asker r looks h = refl
  as_same v asker r writes h = refl

  read_same : (asker : ℕ) (q : Result Request Fault) → s.principal ≡ Some asker → is_commit q ≡ false → ask_read log s q ≡ ask_read other s q
  read_same asker (Err f) p h = refl
  read_same asker (Ok r) p h =
      ap (λ o. ask_by log s o r) p ∙ as_same (seen log s) asker r (form_of r) h ∙ ap (λ v. ask_as other s v asker r (form_of r)) (seen_same log other s x t e) ∙ ap (λ o. ask_by other s o r) (sym p)

pub frozen_lem : TransactionsAreFrozen
frozen_lem read log other s asker x line p t e h = read_same log other s x t e asker (read line) p h
