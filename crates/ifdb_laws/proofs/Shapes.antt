-- What a line of a session can come to: one lemma in place of a walk through all requests for each property.
use Rattle.std.proofs.Common.{◌≡◌, ◌⊎◌, inl, inr, ℕ, ◌<◌, Bool, true, false, List, [], length, refl, sym, ap, ◌∙◌, cond, ◌&&◌, Some, None, Ok, Err, Option, Result}
use Rattle.std.specs.Prelude.{bytes_eq}
use Rattle.std.proofs.lemmas.List.Quantifiers.{position-Some}
use Rattle.std.proofs.lemmas.Bool.{false≢true}
use Rattle.ifdb_label.specs.Label.{strip}
use Rattle.ifdb_row.specs.Writes.{merged}
use Rattle.ifdb_row.specs.Content.{after}
use Rattle.ifdb_row.specs.Verdict.{Verdict, commit_label, conflict, broken_reference, still_referenced, go, leaves}
use Rattle.ifdb_bound.specs.declared.request.Bound.{Bound}
use Rattle.ifdb_bound.specs.declared.request.Bound.TheVariants as bound
use Rattle.ifdb_bound.specs.declared.request.Change.{Change}
use Rattle.ifdb_syntax.specs.declared.request.Request.{Request}
use Rattle.ifdb_syntax.specs.declared.request.Request.TheVariants as request
use Rattle.ifdb_wire.specs.declared.fault.Fault.{Fault}
use Rattle.ifdb_wire.specs.declared.fault.Fault.TheVariants as fault
use Rattle.ifdb_wire.specs.declared.reply.Reply.{Reply}
use Rattle.ifdb_wire.specs.declared.reply.Reply.TheVariants as reply
use Rattle.ifdb_bound.specs.Query.{label_names}
use Rattle.ifdb_catalog.specs.Public.{Public, KnownPrincipal, no_principal, tags_of, tag_names, has_tags, principal_named, is_key, refusal}
use Rattle.ifdb_catalog.specs.Binding.{bound as bound_request}
use Rattle.ifdb_model.specs.Log.{Entry, changes, commits, public_of}
use Rattle.ifdb_model.specs.Session.{Txn, Session, in_txn, seen}
use Rattle.ifdb_model.specs.Writes.{Written, writes_of, is_delete}
use Rattle.ifdb_model.specs.Step.{Reader, Outcome, tells, refuses, adds, greeted, relabelled, set_label, publish_it, publish_bound, is_empty, publish, look_reply, land_in, land, write_bound, verdict_fault, committed, judged, commit, Form, greets, publishes, relabels, shows_label, begins, ends, rolls_back, leaves_us, looks, writes, form_of, ask_as, ask_new, ask_by, ask_read, ask, welcomed, label_refusal, relabelled_as}
use Rattle.ifdb_laws.specs.StepLaws.{ByeAloneCloses}

-- the line asks for a write, and this is what its names stand for
pub record IsWrite (log : List Entry) (s : Session) (line : Result Request Fault) (asker : ℕ) (r : Request) (b : Bound) : Type 0 where
  pub principal : s.principal ≡ Some asker
  pub request : line ≡ Ok r
  pub form : form_of r ≡ writes
  pub found : bound_request (seen log s).public asker r ≡ Ok b

pub data Shape (log : List Entry) (s : Session) (line : Result Request Fault) : Outcome → Type 0 where
  -- told or refused, with nothing changed
  stayed : (r : Reply) → Shape log s line (tells s r)
  -- HELLO
  greeted_as : (n : ℕ) → s.principal ≡ None → n < length (public_of log).principals → Shape log s line (tells (welcomed (public_of log) s n) reply.Done)
  -- SET LABEL
  relabelled_to : (asker : ℕ) (r : Request) (label : List ℕ) → s.principal ≡ Some asker → bound_request (seen log s).public asker r ≡ Ok (bound.SetLabel label)
      → label_refusal (seen log s).public asker s label ≡ None
      → Shape log s line (tells (record s { label = label }) reply.Done)
  -- BEGIN
  begun : s.txn ≡ None → Shape log s line (tells (record s { txn = Some (record { begin = length log; own = [] }) }) reply.Done)
  -- ROLLBACK, BYE, a refused COMMIT: BYE alone closes the session
  ended : (is_open : Bool) (r : Reply) → (is_open ≡ s.is_open) ⊎ (line ≡ Ok request.Bye) → Shape log s line (tells (record s { is_open = is_open; txn = None }) r)
  -- a public change
  published : (asker : ℕ) (r : Request) (c : Change) → line ≡ Ok r → s.txn ≡ None → is_empty s.label ≡ true → bound_request (seen log s).public asker r ≡ Ok (bound.Change c)
      → refusal (seen log s).public c ≡ None → Shape log s line (adds s (changes c) reply.Done)
  -- a write inside a transaction, and outside
  joined : (asker : ℕ) (r : Request) (b : Bound) (x : Txn) (w : Written) → IsWrite log s line asker r b → s.txn ≡ Some x → writes_of (seen log s).public asker (seen log s).rows s.label b ≡ Ok w
      → Shape log s line (tells (record s { txn = Some (record { begin = x.begin; own = merged x.own w.writes }) }) (reply.Count w.count))
  wrote : (asker : ℕ) (r : Request) (b : Bound) (w : Written) → IsWrite log s line asker r b → s.txn ≡ None → writes_of (seen log s).public asker (seen log s).rows s.label b ≡ Ok w
      → is_delete b && leaves (after (seen log s).rows w.writes) w.writes ≡ false → Shape log s line (adds s (commits w.writes) (reply.Count w.count))
  -- COMMIT
  done : (x : Txn) → s.txn ≡ Some x → judged log s x ≡ go → Shape log s line (adds (record s { txn = None }) (commits x.own) reply.Done)

pub go_only : (v : Verdict) → verdict_fault v ≡ None → v ≡ go
go_only commit_label e = cc
go_only conflict e = cc
go_only broken_reference e = cc
go_only still_referenced e = cc
go_only go e = refl

bye_only : (r : Request) → form_of r ≡ leaves_us → r ≡ request.Bye
bye_only (request.Hello name key) e = cc
bye_only (request.CreatePrincipal name key clearance) e = cc
bye_only (request.CreateTag name compound parents) e = cc
bye_only (request.CreateTable name columns key foreign) e = cc
bye_only (request.CreateView name select tags) e = cc
bye_only (request.Grant tag to) e = cc
bye_only (request.Revoke tag from) e = cc
bye_only (request.SetLabel tags) e = cc
bye_only request.ShowLabel e = cc
bye_only request.Begin e = cc
bye_only request.Commit e = cc
bye_only request.Rollback e = cc
bye_only request.Bye e = refl
bye_only (request.Select select) e = cc
bye_only (request.Insert table columns rows tags) e = cc
bye_only (request.Update table assignments cond tags) e = cc
bye_only (request.Delete table cond) e = cc

module _ (log : List Entry) (s : Session) (line : Result Request Fault) where
  relabelled_shape : (asker : ℕ) (r : Request) (label : List ℕ) → s.principal ≡ Some asker → bound_request (seen log s).public asker r ≡ Ok (bound.SetLabel label) → Shape log s line (relabelled (seen log s).public asker s label)
  relabelled_shape asker r label p e = by (label_refusal (seen log s).public asker s label) refl where
    by : (o : Option Fault) → label_refusal (seen log s).public asker s label ≡ o → Shape log s line (relabelled_as s label o)
    by None h = relabelled_to asker r label p e h
    by (Some f) h = stayed (reply.Refused f)

  set_label_shape : (asker : ℕ) (r : Request) (o : Result Bound Fault) → s.principal ≡ Some asker → bound_request (seen log s).public asker r ≡ o → Shape log s line (set_label (seen log s).public asker s o)
  set_label_shape asker r (Err f) p e = stayed (reply.Refused f)
  set_label_shape asker r (Ok (bound.SetLabel label)) p e = relabelled_shape asker r label p e
  set_label_shape asker r (Ok (bound.Change c)) p e = stayed reply.Done
  set_label_shape asker r (Ok (bound.Select q)) p e = stayed reply.Done
  set_label_shape asker r (Ok (bound.Insert t rows given)) p e = stayed reply.Done
  set_label_shape asker r (Ok (bound.Update t assignments cond given)) p e = stayed reply.Done
  set_label_shape asker r (Ok (bound.Delete t cond)) p e = stayed reply.Done
  set_label_shape asker r (Ok bound.Other) p e = stayed reply.Done

  publish_it_shape : (asker : ℕ) (r : Request) (c : Change) (o : Option Fault) → line ≡ Ok r → s.txn ≡ None → is_empty s.label ≡ true → bound_request (seen log s).public asker r ≡ Ok (bound.Change c)
      → refusal (seen log s).public c ≡ o → Shape log s line (publish_it s c o)
  publish_it_shape asker r c None l t e f p = published asker r c l t e f p
  publish_it_shape asker r c (Some x) l t e f p = stayed (reply.Refused x)

  publish_bound_shape : (asker : ℕ) (r : Request) (o : Result Bound Fault) → line ≡ Ok r → s.txn ≡ None → is_empty s.label ≡ true → bound_request (seen log s).public asker r ≡ o
      → Shape log s line (publish_bound (seen log s).public s o)
  publish_bound_shape asker r (Err f) l t e h = stayed (reply.Refused f)
  publish_bound_shape asker r (Ok (bound.Change c)) l t e h = publish_it_shape asker r c (refusal (seen log s).public c) l t e h refl
  publish_bound_shape asker r (Ok (bound.SetLabel label)) l t e h = stayed reply.Done
  publish_bound_shape asker r (Ok (bound.Select q)) l t e h = stayed reply.Done
  publish_bound_shape asker r (Ok (bound.Insert table rows given)) l t e h = stayed reply.Done
  publish_bound_shape asker r (Ok (bound.Update table assignments cond given)) l t e h = stayed reply.Done
  publish_bound_shape asker r (Ok (bound.Delete table cond)) l t e h = stayed reply.Done
  publish_bound_shape asker r (Ok bound.Other) l t e h = stayed reply.Done

  publish_shape : (asker : ℕ) (r : Request) → line ≡ Ok r → Shape log s line (publish (seen log s).public s (bound_request (seen log s).public asker r))
  publish_shape asker r l = by s.txn (is_empty s.label) refl refl where
    by : (o : Option Txn) (b : Bool) → s.txn ≡ o → is_empty s.label ≡ b
        → Shape log s line (cond (in_txn o) (refuses s fault.InTransaction) (cond b (publish_bound (seen log s).public s (bound_request (seen log s).public asker r)) (refuses s fault.LabelNotEmpty)))
    by (Some x) b t e = stayed (reply.Refused fault.InTransaction)
    by None true t e = publish_bound_shape asker r (bound_request (seen log s).public asker r) l t e refl
    by None false t e = stayed (reply.Refused fault.LabelNotEmpty)

  land_in_shape : (asker : ℕ) (r : Request) (b : Bound) → IsWrite log s line asker r b → (o : Option Txn) (w : Written) → s.txn ≡ o → writes_of (seen log s).public asker (seen log s).rows s.label b ≡ Ok w
      → Shape log s line (land_in s o (seen log s).rows (is_delete b) w)
  land_in_shape asker r b i (Some x) w t e = joined asker r b x w i t e
  land_in_shape asker r b i None w t e = by (is_delete b && leaves (after (seen log s).rows w.writes) w.writes) refl where
    by : (d : Bool) → is_delete b && leaves (after (seen log s).rows w.writes) w.writes ≡ d
        → Shape log s line (cond d (refuses s fault.StillReferenced) (adds s (commits w.writes) (reply.Count w.count)))
    by true h = stayed (reply.Refused fault.StillReferenced)
    by false h = wrote asker r b w i t e h

  land_shape : (asker : ℕ) (r : Request) (b : Bound) → IsWrite log s line asker r b → (o : Result Written Fault) → writes_of (seen log s).public asker (seen log s).rows s.label b ≡ o → Shape log s line (land s (seen log s).rows (is_delete b) o)
  land_shape asker r b i (Err f) e = stayed (reply.Refused f)
  land_shape asker r b i (Ok w) e = land_in_shape asker r b i s.txn w refl e

  write_shape : (asker : ℕ) (r : Request) → s.principal ≡ Some asker → line ≡ Ok r → form_of r ≡ writes → (o : Result Bound Fault) → bound_request (seen log s).public asker r ≡ o
      → Shape log s line (write_bound (seen log s).public (seen log s).rows asker s o)
  write_shape asker r p l f (Err x) e = stayed (reply.Refused x)
  write_shape asker r p l f (Ok b) e = land_shape asker r b (record { principal = p; request = l; form = f; found = e }) (writes_of (seen log s).public asker (seen log s).rows s.label b) refl

  begin_shape : (o : Option Txn) → s.txn ≡ o → Shape log s line (cond (in_txn o) (refuses s fault.InTransaction) (tells (record s { txn = Some (record { begin = length log; own = [] }) }) reply.Done))
  begin_shape None e = begun e
  begin_shape (Some x) e = stayed (reply.Refused fault.InTransaction)

  rollback_shape : (b : Bool) → Shape log s line (cond b (tells (record s { txn = None }) reply.Done) (refuses s fault.NoTransaction))
  rollback_shape true = ended s.is_open reply.Done (inl refl)
  rollback_shape false = stayed (reply.Refused fault.NoTransaction)

  committed_shape : (x : Txn) (v : Verdict) → s.txn ≡ Some x → judged log s x ≡ v → (o : Option Fault) → verdict_fault v ≡ o → Shape log s line (committed s x.own o)
  committed_shape x v t j None e = done x t (j ∙ go_only v e)
  committed_shape x v t j (Some f) e = ended s.is_open (reply.Refused f) (inl refl)

  commit_shape : (o : Option Txn) → s.txn ≡ o → Shape log s line (commit log s o)
  commit_shape None t = stayed (reply.Refused fault.NoTransaction)
  commit_shape (Some x) t = committed_shape x (judged log s x) t refl (verdict_fault (judged log s x)) refl

  key_shape : (n : ℕ) (b : Bool) → s.principal ≡ None → n < length (public_of log).principals
      → Shape log s line (cond b (tells (welcomed (public_of log) s n) reply.Done) (refuses s fault.BadKey))
  key_shape n true e lt = greeted_as n e lt
  key_shape n false e lt = stayed (reply.Refused fault.BadKey)

  greeted_shape : (name key : List ℕ) (o : Option ℕ) → principal_named (public_of log) name ≡ o → s.principal ≡ None → Shape log s line (greeted (public_of log) s key o)
  greeted_shape name key None f e = stayed (reply.Refused fault.BadKey)
  greeted_shape name key (Some n) f e =
      key_shape n (is_key (public_of log) n key) e (position-Some (λ (x : KnownPrincipal). bytes_eq x.name name) (public_of log).principals n no_principal f).0

  as_shape : (asker : ℕ) (r : Request) → s.principal ≡ Some asker → line ≡ Ok r → (f : Form) → form_of r ≡ f → Shape log s line (ask_as log s (seen log s) asker r f)
  as_shape asker r p l (greets name key) e = stayed (reply.Refused fault.HelloTwice)
  as_shape asker r p l publishes e = publish_shape asker r l
  as_shape asker r p l relabels e = set_label_shape asker r (bound_request (seen log s).public asker r) p refl
  as_shape asker r p l shows_label e = stayed (reply.Label (label_names (tag_names (seen log s).public) s.label))
  as_shape asker r p l begins e = begin_shape s.txn refl
  as_shape asker r p l ends e = commit_shape s.txn refl
  as_shape asker r p l rolls_back e = rollback_shape (in_txn s.txn)
  as_shape asker r p l leaves_us e = ended false reply.Done (inr (l ∙ ap Ok (bye_only r e)))
  as_shape asker r p l looks e = stayed (look_reply (seen log s).public (seen log s).rows s.label (bound_request (seen log s).public asker r))
  as_shape asker r p l writes e = write_shape asker r p l e (bound_request (seen log s).public asker r) refl

  new_shape : (r : Request) → line ≡ Ok r → s.principal ≡ None → (f : Form) → form_of r ≡ f → Shape log s line (ask_new log s f)
  new_shape r l p (greets name key) e = greeted_shape name key (principal_named (public_of log) name) refl p
  new_shape r l p publishes e = stayed (reply.Refused fault.NotHello)
  new_shape r l p relabels e = stayed (reply.Refused fault.NotHello)
  new_shape r l p shows_label e = stayed (reply.Refused fault.NotHello)
  new_shape r l p begins e = stayed (reply.Refused fault.NotHello)
  new_shape r l p ends e = stayed (reply.Refused fault.NotHello)
  new_shape r l p rolls_back e = stayed (reply.Refused fault.NotHello)
  new_shape r l p leaves_us e = ended false reply.Done (inr (l ∙ ap Ok (bye_only r e)))
  new_shape r l p looks e = stayed (reply.Refused fault.NotHello)
  new_shape r l p writes e = stayed (reply.Refused fault.NotHello)

  by_shape : (o : Option ℕ) → s.principal ≡ o → (r : Request) → line ≡ Ok r → Shape log s line (ask_by log s o r)
  by_shape None p r l = new_shape r l p (form_of r) refl
  by_shape (Some asker) p r l = as_shape asker r p l (form_of r) refl

  read_shape : (o : Result Request Fault) → line ≡ o → Shape log s line (ask_read log s o)
  read_shape (Err f) l = stayed (reply.Refused f)
  read_shape (Ok r) l = by_shape s.principal refl r l

-- each outcome of a line has a shape
pub shape : (read : Reader) (log : List Entry) (s : Session) (line : List ℕ) → Shape log s (read line) (ask read log s line)
shape read log s line = read_shape log s (read line) (read line) refl

-- a refused line adds nothing, and leaves the session as it was, but for its transaction where that ends
pub refused_adds_nothing : (log : List Entry) (s : Session) (line : Result Request Fault) (o : Outcome) (f : Fault) → Shape log s line o → o.reply ≡ reply.Refused f
    → (o.added ≡ None) × (o.session ≡ record s { is_open = o.session.is_open; txn = o.session.txn })
refused_adds_nothing log s line o f (stayed r) e = (refl, refl)
refused_adds_nothing log s line o f (greeted_as n p lt) e = cc
refused_adds_nothing log s line o f (relabelled_to asker r label v x y) e = cc
refused_adds_nothing log s line o f (begun t) e = cc
refused_adds_nothing log s line o f (ended b r why) e = (refl, refl)
refused_adds_nothing log s line o f (published asker r c line_is t i p q) e = cc
refused_adds_nothing log s line o f (joined asker r b x w i t h) e = cc
refused_adds_nothing log s line o f (wrote asker r b w i t h d) e = cc
refused_adds_nothing log s line o f (done x t j) e = cc

-- an open session that a line leaves closed was asked BYE
pub closed_by_bye : (log : List Entry) (s : Session) (line : Result Request Fault) (o : Outcome) → Shape log s line o → s.is_open ≡ true → o.session.is_open ≡ false
    → line ≡ Ok request.Bye
closed_by_bye log s line o (stayed r) was now = absurd (false≢true (sym now ∙ was))
closed_by_bye log s line o (greeted_as n g lt) was now = absurd (false≢true (sym now ∙ was))
closed_by_bye log s line o (relabelled_to asker r label p x y) was now = absurd (false≢true (sym now ∙ was))
closed_by_bye log s line o (begun t) was now = absurd (false≢true (sym now ∙ was))
closed_by_bye log s line o (ended b r (inl same)) was now = absurd (false≢true (sym now ∙ same ∙ was))
closed_by_bye log s line o (ended b r (inr bye)) was now = bye
closed_by_bye log s line o (published asker r c line_is t i p q) was now = absurd (false≢true (sym now ∙ was))
closed_by_bye log s line o (joined asker r b x w i t h) was now = absurd (false≢true (sym now ∙ was))
closed_by_bye log s line o (wrote asker r b w i t h d) was now = absurd (false≢true (sym now ∙ was))
closed_by_bye log s line o (done x t j) was now = absurd (false≢true (sym now ∙ was))

pub bye_alone_lem : ByeAloneCloses
bye_alone_lem read log s line was now = closed_by_bye log s (read line) (ask read log s line) (shape read log s line) was now
