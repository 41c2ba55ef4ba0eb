-- A session that is asked a clean request over a clean log is told a framed reply, and what it writes is clean.
use Rattle.std.proofs.Common.{◌≡◌, ℕ, Bool, true, false, List, [], ◌++◌, length, refl, ap, cond, ◌&&◌, Some, None, Ok, Err, Option, Result}
use Rattle.std.specs.Prelude.{codes, decimal, option_to_list}
use Rattle.std.specs.List.{list_all}
use Rattle.ifdb_catalog.proofs.Tests.{both_of}
use Rattle.ifdb_label.specs.Label.{strip}
use Rattle.ifdb_row.specs.declared.row.Row.{Row}
use Rattle.ifdb_row.specs.declared.write.Write.{Write}
use Rattle.ifdb_row.specs.Content.{after}
use Rattle.ifdb_row.specs.Verdict.{leaves}
use Rattle.ifdb_row.proofs.LiveLaws.{merged_all}
use Rattle.ifdb_bound.specs.declared.request.Bound.{Bound}
use Rattle.ifdb_bound.specs.declared.request.Bound.TheVariants as bound
use Rattle.ifdb_bound.specs.declared.request.Change.{Change}
use Rattle.ifdb_bound.specs.Query.{label_names}
use Rattle.ifdb_syntax.specs.declared.request.Request.{Request}
use Rattle.ifdb_wire.specs.declared.fault.Fault.{Fault}
use Rattle.ifdb_wire.specs.declared.fault.Fault.TheVariants as fault
use Rattle.ifdb_wire.specs.declared.reply.Reply.{Reply}
use Rattle.ifdb_wire.specs.declared.reply.Reply.TheVariants as reply
use Rattle.ifdb_catalog.specs.Public.{Public, tags_of, tag_names, has_tags, principal_named, is_key, refusal}
use Rattle.ifdb_catalog.specs.Binding.{bound as bound_request}
use Rattle.ifdb_model.specs.Log.{Entry, commits, public_of}
use Rattle.ifdb_model.specs.Session.{Txn, Session, closed, in_txn, seen}
use Rattle.ifdb_model.specs.Writes.{Written, writes_of, is_delete}
use Rattle.ifdb_model.specs.Step.{Reader, Outcome, tells, refuses, adds, welcomed, greeted, label_refusal, relabelled_as, set_label, publish_it, publish_bound, is_empty, publish, look_reply, land_in, land, write_bound, committed, commit_fault, ended, begin, rollback, Form, greets, publishes, relabels, shows_label, begins, ends, rolls_back, leaves_us, looks, writes, form_of, ask_as, ask_new, ask_by, ask_read, ask}
use Rattle.ifdb_laws.specs.Bytes.{is_line}
use Rattle.ifdb_laws.proofs.Sided.{written_all}
use Rattle.ifdb_laws.proofs.Logs.{txn_all}
use Rattle.ifdb_framing.proofs.Lines.{line_append, decimal_line, fault_line, names_line}
use Rattle.ifdb_framing.proofs.Clean.{is_clean_row, is_clean_write, is_clean_request, reads_clean, is_clean_change, binds_clean, is_clean_public, is_clean_entry, is_framed_reply}
use Rattle.ifdb_framing.proofs.Views.{tag_lines, select_framed}
use Rattle.ifdb_framing.proofs.Binding.{binding_clean}
use Rattle.ifdb_framing.proofs.Writes.{writes_clean}
use Rattle.ifdb_framing.proofs.States.{seen_public_clean, seen_rows_clean}

-- the transaction's own writes are clean, if there is one
abbrev pub has_clean_own : Option Txn → Bool
has_clean_own o = txn_all (list_all is_clean_write) o

-- the reply is framed; the session's own writes and what is added are clean
pub record Keeps (o : Outcome) : Type 0 where
  pub reply : is_framed_reply o.reply ≡ true
  pub own : has_clean_own o.session.txn ≡ true
  pub added : list_all is_clean_entry (option_to_list o.added) ≡ true

pub refused_framed : (f : Fault) → is_framed_reply (reply.Refused f) ≡ true
refused_framed f = both_of _ _ (fault_line f) refl

count_framed : (n : ℕ) → is_framed_reply (reply.Count n) ≡ true
count_framed n = both_of (is_line (codes "OK " ++ decimal n)) true (line_append (codes "OK ") (decimal n) refl (decimal_line n)) refl

label_framed : (names : List (List ℕ)) (label : List ℕ) → list_all is_line names ≡ true → is_framed_reply (reply.Label (label_names names label)) ≡ true
label_framed names label h =
    both_of (is_line (codes "LABEL (" ++ (label_names names label ++ codes ")"))) true
    (line_append (codes "LABEL (") (label_names names label ++ codes ")") refl (line_append (label_names names label) (codes ")") (names_line names label h) refl)) refl

pick : (b : Bool) (o u : Outcome) → Keeps o → Keeps u → Keeps (cond b o u)
pick true o u h k = h
pick false o u h k = k

-- a reply to a session without a transaction
free : (s : Session) (r : Reply) → s.txn ≡ None → is_framed_reply r ≡ true → Keeps (tells s r)
free s r e h = record { reply = h; own = ap has_clean_own e; added = refl }

module _ (s : Session) (own : has_clean_own s.txn ≡ true) where
  told : (r : Reply) → is_framed_reply r ≡ true → Keeps (tells s r)
  told r h = record { reply = h; own = own; added = refl }

  pub refused_keeps : (f : Fault) → Keeps (refuses s f)
  refused_keeps f = told (reply.Refused f) (refused_framed f)

  relabelled_keeps : (label : List ℕ) (refusal : Option Fault) → Keeps (relabelled_as s label refusal)
  relabelled_keeps label None = record { reply = refl; own = own; added = refl }
  relabelled_keeps label (Some f) = refused_keeps f

  set_label_keeps : (p : Public) (asker : ℕ) (o : Result Bound Fault) → Keeps (set_label p asker s o)
  set_label_keeps p asker (Err f) = refused_keeps f
  set_label_keeps p asker (Ok (bound.SetLabel label)) = relabelled_keeps label (label_refusal p asker s label)
  set_label_keeps p asker (Ok (bound.Change c)) = told reply.Done refl
  set_label_keeps p asker (Ok (bound.Select q)) = told reply.Done refl
  set_label_keeps p asker (Ok (bound.Insert t rows given)) = told reply.Done refl
  set_label_keeps p asker (Ok (bound.Update t a c given)) = told reply.Done refl
  set_label_keeps p asker (Ok (bound.Delete t c)) = told reply.Done refl
  set_label_keeps p asker (Ok bound.Other) = told reply.Done refl

  publish_it_keeps : (c : Change) → is_clean_change c ≡ true → (o : Option Fault) → Keeps (publish_it s c o)
  publish_it_keeps c h None = record { reply = refl; own = own; added = both_of (is_clean_change c) true h refl }
  publish_it_keeps c h (Some f) = refused_keeps f

  publish_bound_keeps : (p : Public) (o : Result Bound Fault) → binds_clean o ≡ true → Keeps (publish_bound p s o)
  publish_bound_keeps p (Err f) h = refused_keeps f
  publish_bound_keeps p (Ok (bound.Change c)) h = publish_it_keeps c h (refusal p c)
  publish_bound_keeps p (Ok (bound.SetLabel label)) h = told reply.Done refl
  publish_bound_keeps p (Ok (bound.Select q)) h = told reply.Done refl
  publish_bound_keeps p (Ok (bound.Insert t rows given)) h = told reply.Done refl
  publish_bound_keeps p (Ok (bound.Update t a c given)) h = told reply.Done refl
  publish_bound_keeps p (Ok (bound.Delete t c)) h = told reply.Done refl
  publish_bound_keeps p (Ok bound.Other) h = told reply.Done refl

  publish_keeps : (p : Public) (o : Result Bound Fault) → binds_clean o ≡ true → Keeps (publish p s o)
  publish_keeps p o h =
      pick (in_txn s.txn) (refuses s fault.InTransaction) (cond (is_empty s.label) (publish_bound p s o) (refuses s fault.LabelNotEmpty)) (refused_keeps fault.InTransaction)
      (pick (is_empty s.label) (publish_bound p s o) (refuses s fault.LabelNotEmpty) (publish_bound_keeps p o h) (refused_keeps fault.LabelNotEmpty))

  look_framed : (p : Public) (rows : List Row) (o : Result Bound Fault) → is_clean_public p ≡ true → list_all is_clean_row rows ≡ true → binds_clean o ≡ true
      → is_framed_reply (look_reply p rows s.label o) ≡ true
  look_framed p rows (Err f) h k b = refused_framed f
  look_framed p rows (Ok (bound.Select q)) h k b = select_framed p rows s.label q h k b
  look_framed p rows (Ok (bound.Change c)) h k b = refl
  look_framed p rows (Ok (bound.SetLabel label)) h k b = refl
  look_framed p rows (Ok (bound.Insert t values given)) h k b = refl
  look_framed p rows (Ok (bound.Update t a c given)) h k b = refl
  look_framed p rows (Ok (bound.Delete t c)) h k b = refl
  look_framed p rows (Ok bound.Other) h k b = refl

  land_in_keeps : (o : Option Txn) (rows : List Row) (d : Bool) (w : Written) → has_clean_own o ≡ true → list_all is_clean_write w.writes ≡ true → Keeps (land_in s o rows d w)
  land_in_keeps (Some x) rows d w k h = record { reply = count_framed w.count; own = merged_all is_clean_write x.own w.writes k h; added = refl }
  land_in_keeps None rows d w k h =
      pick (d && leaves (after rows w.writes) w.writes) (refuses s fault.StillReferenced) (adds s (commits w.writes) (reply.Count w.count)) (refused_keeps fault.StillReferenced)
      (record { reply = count_framed w.count; own = own; added = both_of (list_all is_clean_write w.writes) true h refl })

  land_keeps : (rows : List Row) (d : Bool) (o : Result Written Fault) → written_all is_clean_write o ≡ true → Keeps (land s rows d o)
  land_keeps rows d (Err f) h = refused_keeps f
  land_keeps rows d (Ok w) h = land_in_keeps s.txn rows d w own h

  write_keeps : (p : Public) (rows : List Row) (asker : ℕ) (o : Result Bound Fault) → list_all is_clean_row rows ≡ true → binds_clean o ≡ true → Keeps (write_bound p rows asker s o)
  write_keeps p rows asker (Err f) k h = refused_keeps f
  write_keeps p rows asker (Ok b) k h = land_keeps rows (is_delete b) (writes_of p asker rows s.label b) (writes_clean p asker rows s.label b k h)

  begin_keeps : (n : ℕ) → Keeps (begin n s)
  begin_keeps n =
      pick (in_txn s.txn) (refuses s fault.InTransaction) (tells (record s { txn = Some (record { begin = n; own = [] }) }) reply.Done) (refused_keeps fault.InTransaction)
      (record { reply = refl; own = refl; added = refl })

  committed_keeps : (ws : List Write) → list_all is_clean_write ws ≡ true → (o : Option Fault) → Keeps (committed s ws o)
  committed_keeps ws h None = record { reply = refl; own = refl; added = both_of (list_all is_clean_write ws) true h refl }
  committed_keeps ws h (Some f) = free (record s { txn = None }) (reply.Refused f) refl (refused_framed f)

  ended_keeps : (o : Option Txn) → has_clean_own o ≡ true → (f : Option Fault) → Keeps (ended s o f)
  ended_keeps None h f = refused_keeps fault.NoTransaction
  ended_keeps (Some x) h f = committed_keeps x.own h f

  rollback_keeps : Keeps (rollback s)
  rollback_keeps =
      pick (in_txn s.txn) (tells (record s { txn = None }) reply.Done) (refuses s fault.NoTransaction) (free (record s { txn = None }) reply.Done refl refl)
      (refused_keeps fault.NoTransaction)

  greeted_keeps : (p : Public) (key : List ℕ) (o : Option ℕ) → Keeps (greeted p s key o)
  greeted_keeps p key None = refused_keeps fault.BadKey
  greeted_keeps p key (Some n) =
      pick (is_key p n key) (tells (welcomed p s n) reply.Done) (refuses s fault.BadKey) (record { reply = refl; own = own; added = refl }) (refused_keeps fault.BadKey)

  bye_keeps : Keeps (tells (closed s) reply.Done)
  bye_keeps = free (closed s) reply.Done refl refl

  module _ (log : List Entry) (all : list_all is_clean_entry log ≡ true) where
    as_keeps : (asker : ℕ) (r : Request) → is_clean_request r ≡ true → (f : Form) → Keeps (ask_as log s (seen log s) asker r f)
    as_keeps asker r h (greets name key) = refused_keeps fault.HelloTwice
    as_keeps asker r h publishes = publish_keeps (seen log s).public (bound_request (seen log s).public asker r) (binding_clean (seen log s).public asker r h)
    as_keeps asker r h relabels = set_label_keeps (seen log s).public asker (bound_request (seen log s).public asker r)
    as_keeps asker r h shows_label =
        told (reply.Label (label_names (tag_names (seen log s).public) s.label))
        (label_framed (tag_names (seen log s).public) s.label (tag_lines (seen log s).public (seen_public_clean log s.txn all)))
    as_keeps asker r h begins = begin_keeps (length log)
    as_keeps asker r h ends = ended_keeps s.txn own (commit_fault log s s.txn)
    as_keeps asker r h rolls_back = rollback_keeps
    as_keeps asker r h leaves_us = bye_keeps
    as_keeps asker r h looks =
        told (look_reply (seen log s).public (seen log s).rows s.label (bound_request (seen log s).public asker r))
        (look_framed (seen log s).public (seen log s).rows (bound_request (seen log s).public asker r) (seen_public_clean log s.txn all) (seen_rows_clean log s.txn all own)
        (binding_clean (seen log s).public asker r h))
    as_keeps asker r h writes =
        write_keeps (seen log s).public (seen log s).rows asker (bound_request (seen log s).public asker r) (seen_rows_clean log s.txn all own)
        (binding_clean (seen log s).public asker r h)

    new_keeps : (f : Form) → Keeps (ask_new log s f)
    new_keeps (greets name key) = greeted_keeps (public_of log) key (principal_named (public_of log) name)
    new_keeps publishes = refused_keeps fault.NotHello
    new_keeps relabels = refused_keeps fault.NotHello
    new_keeps shows_label = refused_keeps fault.NotHello
    new_keeps begins = refused_keeps fault.NotHello
    new_keeps ends = refused_keeps fault.NotHello
    new_keeps rolls_back = refused_keeps fault.NotHello
    new_keeps leaves_us = bye_keeps
    new_keeps looks = refused_keeps fault.NotHello
    new_keeps writes = refused_keeps fault.NotHello

    by_keeps : (o : Option ℕ) (r : Request) → is_clean_request r ≡ true → Keeps (ask_by log s o r)
    by_keeps None r h = new_keeps (form_of r)
    by_keeps (Some asker) r h = as_keeps asker r h (form_of r)

    read_keeps : (o : Result Request Fault) → reads_clean o ≡ true → Keeps (ask_read log s o)
    read_keeps (Err f) h = refused_keeps f
    read_keeps (Ok r) h = by_keeps s.principal r h

    pub ask_keeps : (read : Reader) (line : List ℕ) → reads_clean (read line) ≡ true → Keeps (ask read log s line)
    ask_keeps read line h = read_keeps (read line) h
