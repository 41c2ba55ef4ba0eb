-- A refused call commits nothing.
use Rattle.std.proofs.Common.{◌≡◌, ℕ, ◌+◌, ◌<◌, ◌≤◌, Bool, true, false, List, [], ◌∷◌, ◌++◌, length, refl, sym, ap, subst, ◌∙◌, arith, cond, Some, None, Ok, Err, Option, Result}
use Rattle.std.specs.Prelude.{option_to_list}
use Rattle.std.specs.List.{list_all}
use Rattle.std.proofs.lemmas.Bool.{false≢true}
use Rattle.std.proofs.lemmas.Bool.Decides.{nat_tests}
use Rattle.std.proofs.lemmas.List.{append-nil, length-append}
use Rattle.ifdb_row.specs.declared.row.Row.{Row}
use Rattle.ifdb_bound.specs.declared.request.Bound.{Bound}
use Rattle.ifdb_bound.specs.declared.request.Bound.TheVariants as bound
use Rattle.ifdb_syntax.specs.declared.request.Request.{Request}
use Rattle.ifdb_syntax.specs.declared.request.Request.TheVariants as request
use Rattle.ifdb_wire.specs.declared.fault.Fault.{Fault}
use Rattle.ifdb_wire.specs.declared.fault.Fault.TheVariants as fault
use Rattle.ifdb_wire.specs.declared.reply.Reply.{Reply}
use Rattle.ifdb_wire.specs.declared.reply.Reply.TheVariants as reply
use Rattle.ifdb_catalog.specs.Public.{Public}
use Rattle.ifdb_catalog.specs.Binding.{bound as bound_request}
use Rattle.ifdb_model.specs.Log.{Entry}
use Rattle.ifdb_model.specs.Session.{Txn, Session, new_session, closed, in_txn, seen}
use Rattle.ifdb_model.specs.Writes.{Written, writes_of, is_delete}
use Rattle.ifdb_model.specs.Step.{Reader, Outcome, tells, refuses, label_refusal, relabelled_as, set_label, land_in, land, write_bound, commit_fault, ended, Form, relabels, looks, writes, form_of, ask_as, ask_new, ask_by, ask_read, ask}
use Rattle.ifdb_model.specs.Run.{State, opening, session_of, opens, asks, leaves, with_outcome, with_session, next, outcome_of, run}
use Rattle.ifdb_closure.specs.Closures.{Speech, Called, is_refusal, is_within, call_lacks, call_ends, call_goes, lacks_first, flags_behind, call_on, called_with, asked_of, begin_line, commit_line, hello_line, label_line}
use Rattle.ifdb_closure.specs.Bounds.{is_inner_form, is_inner, RefusedCallsCommitNothing}
use Rattle.ifdb_closure.proofs.Cuts.{cut_run}
use Rattle.ifdb_closure.proofs.Thinning.{one_itself, open_new}
use Rattle.ifdb_closure.proofs.Twins.{asks_count}
use Rattle.ifdb_closure.proofs.Names.{speaks_back}

-- ---- a line in a transaction

record Adds (o : Outcome) : Type 0 where
  none : o.added ≡ None
  still : in_txn o.session.txn ≡ true

inner_set : (p : Public) (asker : ℕ) (s : Session) → in_txn s.txn ≡ true → (found : Result Bound Fault) → Adds (set_label p asker s found)
inner_set p asker s h (Err f) = record { none = refl; still = h }
inner_set p asker s h (Ok (bound.SetLabel label)) = by (label_refusal p asker s label) where
  by : (refusal : Option Fault) → Adds (relabelled_as s label refusal)
  by None = record { none = refl; still = h }
  by (Some f) = record { none = refl; still = h }
inner_set p asker s h (Ok _) = record { none = refl; still = h }

inner_land : (s : Session) (rows : List Row) (deleting : Bool) (o : Option Txn) → s.txn ≡ o → in_txn o ≡ true → (w : Result Written Fault) → Adds (land s rows deleting w)
inner_land s rows deleting o e h (Err f) = record { none = refl; still = ap in_txn e ∙ h }
inner_land s rows deleting None e h (Ok w) = absurd (false≢true h)
inner_land s rows deleting (Some x) e h (Ok w) = subst (λ t. Adds (land_in s t rows deleting w)) (sym e) (record { none = refl; still = refl })

inner_write : (p : Public) (rows : List Row) (asker : ℕ) (s : Session) → in_txn s.txn ≡ true → (found : Result Bound Fault) → Adds (write_bound p rows asker s found)
inner_write p rows asker s h (Err f) = record { none = refl; still = h }
inner_write p rows asker s h (Ok b) = inner_land s rows (is_delete b) s.txn refl h (writes_of p asker rows s.label b)

inner_as : (log : List Entry) (s : Session) → in_txn s.txn ≡ true → (asker : ℕ) (r : Request) (f : Form) → is_inner_form f ≡ true → Adds (ask_as log s (seen log s) asker r f)
inner_as log s h asker r relabels i = inner_set (seen log s).public asker s h (bound_request (seen log s).public asker r)
inner_as log s h asker r looks i = record { none = refl; still = h }
inner_as log s h asker r writes i = inner_write (seen log s).public (seen log s).rows asker s h (bound_request (seen log s).public asker r)
inner_as log s h asker r _ i = absurd (false≢true i)

inner_new : (log : List Entry) (s : Session) → in_txn s.txn ≡ true → (f : Form) → is_inner_form f ≡ true → Adds (ask_new log s f)
inner_new log s h relabels i = record { none = refl; still = h }
inner_new log s h looks i = record { none = refl; still = h }
inner_new log s h writes i = record { none = refl; still = h }
inner_new log s h _ i = absurd (false≢true i)

inner_adds : (log : List Entry) (s : Session) → in_txn s.txn ≡ true → (o : Result Request Fault) → is_inner o ≡ true → Adds (ask_read log s o)
inner_adds log s h (Err f) i = record { none = refl; still = h }
inner_adds log s h (Ok r) i = by s.principal where
  by : (p : Option ℕ) → Adds (ask_by log s p r)
  by None = inner_new log s h (form_of r) i
  by (Some asker) = inner_as log s h asker r (form_of r) i

-- ---- BEGIN and COMMIT

begin_adds : (log : List Entry) (s : Session) (p : Option ℕ) → ((ask_by log s p request.Begin).added ≡ None) × (is_refusal (ask_by log s p request.Begin).reply ≡ false → in_txn (ask_by log s p request.Begin).session.txn ≡ true)
begin_adds log s None = (refl, λ h. absurd (false≢true (sym h)))
begin_adds log s (Some asker) = by (in_txn s.txn) where
  by : (b : Bool) → let o = cond b (refuses s fault.InTransaction) (tells (record s { txn = Some (record { begin = length log; own = [] }) }) reply.Done) in
      (o.added ≡ None) × (is_refusal o.reply ≡ false → in_txn o.session.txn ≡ true)
  by true = (refl, λ h. absurd (false≢true (sym h)))
  by false = (refl, λ h. refl)

commit_adds : (log : List Entry) (s : Session) (p : Option ℕ) → is_refusal (ask_by log s p request.Commit).reply ≡ true → (ask_by log s p request.Commit).added ≡ None
commit_adds log s None h = refl
commit_adds log s (Some asker) h = by s.txn (commit_fault log s s.txn) h where
  by : (x : Option Txn) (f : Option Fault) → is_refusal (ended s x f).reply ≡ true → (ended s x f).added ≡ None
  by None f i = refl
  by (Some x) (Some f) i = refl
  by (Some x) None i = absurd (false≢true i)

-- ---- the log

log_same : (read : Reader) (st : State) (h : ℕ) (line : List ℕ) → (ask read st.log (session_of st h) line).added ≡ None → (next read st (asks h line)).log ≡ st.log
log_same read st h line e = by (session_of st h).is_open where
  by : (b : Bool) → (cond b (with_outcome st h (ask read st.log (session_of st h) line)) st).log ≡ st.log
  by true = ap (λ a. st.log ++ option_to_list a) e ∙ append-nil st.log
  by false = refl

leave_same : (read : Reader) (st : State) (h : ℕ) → (next read st (leaves h)).log ≡ st.log
leave_same read st h = by (session_of st h).is_open where
  by : (b : Bool) → (cond b (with_session st h (closed (session_of st h))) st).log ≡ st.log
  by true = refl
  by false = refl

-- what holds of what the session is answered, holds of it afterwards, if it is open
session_after : (read : Reader) (st : State) (h : ℕ) (line : List ℕ) → 0 < h → h ≤ length st.sessions → (f : Session → Bool) → f (session_of st h) ≡ true
    → f (ask read st.log (session_of st h) line).session ≡ true → f (session_of (next read st (asks h line)) h) ≡ true
session_after read st h line p le f was now = by (session_of st h).is_open where
  by : (b : Bool) → f (session_of (cond b (with_outcome st h (ask read st.log (session_of st h) line)) st) h) ≡ true
  by false = was
  by true = ap f (one_itself st h (ask read st.log (session_of st h) line).session p le) ∙ now

module _ (x : Speech) (label : List ℕ) (h : ℕ) (positive : 0 < h) where
  -- a line that adds nothing, and goes on to what leaves the log, if it goes on
  goes_same : (st : State) (line : List ℕ) (r : Reply) (a : Called) (c d : Bool) → (next x.read st (asks h line)).log ≡ st.log
      → (c ≡ false → is_refusal a.told ≡ true → (run x.read (next x.read st (asks h line)) (asked_of h a.asked)).log ≡ (next x.read st (asks h line)).log)
      → is_refusal (call_goes x c d line r a).told ≡ true → (run x.read st (asked_of h (call_goes x c d line r a).asked)).log ≡ st.log
  goes_same st line r a true d e rest t = leave_same x.read (next x.read st (asks h line)) h ∙ e
  goes_same st line r a false false e rest t = leave_same x.read (next x.read st (asks h line)) h ∙ e
  goes_same st line r a false true e rest t = rest refl t ∙ e

  -- a line without memory ends it
  lacks_same : (st : State) (b : Bool) (a : Called) → (is_refusal a.told ≡ true → (run x.read st (asked_of h a.asked)).log ≡ st.log)
      → is_refusal (cond b call_lacks a).told ≡ true → (run x.read st (asked_of h (cond b call_lacks a).asked)).log ≡ st.log
  lacks_same st true a rest t = leave_same x.read st h
  lacks_same st false a rest t = rest t

  -- the statements, in the transaction
  statements_same : (st : State) → h ≤ length st.sessions → in_txn (session_of st h).txn ≡ true → (last : Reply) → is_refusal last ≡ false → (flags : List Bool) (lines : List (List ℕ))
      → x.read commit_line ≡ Ok request.Commit → list_all (λ line. is_inner (x.read line)) lines ≡ true → is_refusal (call_on x label h st last flags lines).told ≡ true
      → (run x.read st (asked_of h (call_on x label h st last flags lines).asked)).log ≡ st.log
  statements_same st le txn last good flags [] commit inner t = lacks_same st (lacks_first flags) (call_ends x h st last) asked_same t where
    refused : (r : Reply) (b : Bool) → is_refusal r ≡ b → is_refusal (cond b r last) ≡ true → is_refusal r ≡ true
    refused r true e i = e
    refused r false e i = absurd (false≢true (sym good ∙ i))

    committed_same : is_refusal (outcome_of x.read st h commit_line).reply ≡ true → (next x.read st (asks h commit_line)).log ≡ st.log
    committed_same reply_is = by (session_of st h).is_open refl where
      by : (b : Bool) → (session_of st h).is_open ≡ b → (cond b (with_outcome st h (ask x.read st.log (session_of st h) commit_line)) st).log ≡ st.log
      by false e = refl
      by true e =
          let yes : is_refusal (ask x.read st.log (session_of st h) commit_line).reply ≡ true = rw e at reply_is in
          let s = session_of st h in
          let none = ap (λ q. (ask_read st.log s q).added) commit ∙ commit_adds st.log s s.principal (ap (λ q. is_refusal (ask_read st.log s q).reply) (sym commit) ∙ yes) in
          ap (λ a. st.log ++ option_to_list a) none ∙ append-nil st.log

    asked_same : is_refusal (call_ends x h st last).told ≡ true → (run x.read st (asked_of h (call_ends x h st last).asked)).log ≡ st.log
    asked_same told =
        leave_same x.read (next x.read st (asks h commit_line)) h
        ∙ committed_same (refused (outcome_of x.read st h commit_line).reply (is_refusal (outcome_of x.read st h commit_line).reply) refl told)
  statements_same st le txn last good flags (line ∷ lines) commit inner t =
      let parts : (is_inner (x.read line) ≡ true) × (list_all (λ l. is_inner (x.read l)) lines ≡ true) = grind (arith, nat_tests) in
      let more = next x.read st (asks h line) in
      let r = (outcome_of x.read st h line).reply in
      let a = inner_adds st.log (session_of st h) txn (x.read line) parts.0 in
      let size : h ≤ length more.sessions = omega (arith, le, asks_count x.read st h line) in
      let rest = call_on x label h more r (flags_behind flags) lines in
      lacks_same st (lacks_first flags) (call_goes x (is_refusal r) (is_within label h more) line r rest)
      (λ goes. goes_same st line r rest (is_refusal r) (is_within label h more) (log_same x.read st h line a.none)
      (λ no told. statements_same more size (session_after x.read st h line positive le (λ (s : Session). in_txn s.txn) txn a.still) r no (flags_behind flags) lines commit parts.1 told) goes) t

-- ---- the whole call

none_from : (o : Option Txn) → Rattle.std.specs.Prelude.not (in_txn o) ≡ true → o ≡ None
none_from None h = refl
none_from (Some t) h = absurd (false≢true h)

begin_same : (read : Reader) (st : State) (h : ℕ) → read begin_line ≡ Ok request.Begin → (next read st (asks h begin_line)).log ≡ st.log
begin_same read st h e =
    log_same read st h begin_line (ap (λ q. (ask_read st.log (session_of st h) q).added) e ∙ (begin_adds st.log (session_of st h) (session_of st h).principal).0)

begin_txn : (read : Reader) (st : State) (h : ℕ) → 0 < h → h ≤ length st.sessions → read begin_line ≡ Ok request.Begin
    → is_refusal (outcome_of read st h begin_line).reply ≡ false → in_txn (session_of (next read st (asks h begin_line)) h).txn ≡ true
begin_txn read st h p le e good = by (session_of st h).is_open refl where
  by : (b : Bool) → (session_of st h).is_open ≡ b → in_txn (session_of (cond b (with_outcome st h (ask read st.log (session_of st h) begin_line)) st) h).txn ≡ true
  by false o = let no : true ≡ false = rw o at good in absurd (false≢true (sym no))
  by true o =
      let s = session_of st h in
      let yes : is_refusal (ask read st.log s begin_line).reply ≡ false = rw o at good in
      ap (λ (u : Session). in_txn u.txn) (one_itself st h (ask read st.log s begin_line).session p le)
      ∙ ap (λ q. in_txn (ask_read st.log s q).session.txn) e
      ∙ (begin_adds st.log s s.principal).1 (ap (λ q. is_refusal (ask_read st.log s q).reply) (sym e) ∙ yes)

pub refused_calls_commit_nothing : RefusedCallsCommitNothing
refused_calls_commit_nothing x back steps label c flags k made told =
    let speaks = speaks_back x.read back in
    let st = run x.read opening steps in
    let h = length st.sessions + 1 in
    let p : 0 < h = omega arith in
    let one = hello_line c.owner in
    let two = label_line st.log label in
    let s1 = next x.read st opens in
    let s2 = next x.read s1 (asks h one) in
    let s3 = next x.read s2 (asks h two) in
    let s4 = next x.read s3 (asks h begin_line) in
    let r1 = (outcome_of x.read s1 h one).reply in
    let r2 = (outcome_of x.read s2 h two).reply in
    let r3 = (outcome_of x.read s3 h begin_line).reply in
    let f1 = flags_behind flags in
    let f2 = flags_behind f1 in
    let f3 = flags_behind f2 in
    let rest = call_on x label h s4 r3 f3 c.statements in
    let third = call_goes x (is_refusal r3) (is_within label h s4) begin_line r3 rest in
    let more = cond (lacks_first f2) call_lacks third in
    let second = call_goes x (is_refusal r2) (is_within label h s3) two r2 more in
    let most = cond (lacks_first f1) call_lacks second in
    let first = call_goes x (is_refusal r1) (is_within label h s2) one r1 most in
    let cut = called_with x st label c flags in
    let z1 : h ≤ length s1.sessions = omega (arith, length-append st.sessions (new_session ∷ [])) in
    let z2 : h ≤ length s2.sessions = omega (arith, z1, asks_count x.read s1 h one) in
    let z3 : h ≤ length s3.sessions = omega (arith, z2, asks_count x.read s2 h two) in
    let z4 : h ≤ length s4.sessions = omega (arith, z3, asks_count x.read s3 h begin_line) in
    let greets = speaks.greets s1.log (session_of s1 h) c.owner k.owner in
    let e1 = log_same x.read s1 h one greets.adds in
    let f : Session → Bool = λ s. Rattle.std.specs.Prelude.not (in_txn s.txn) in
    let before : f (session_of s1 h) ≡ true = ap f (open_new st) in
    let free = none_from (session_of s2 h).txn (session_after x.read s1 h one p z1 f before (ap (λ o. Rattle.std.specs.Prelude.not (in_txn o)) greets.txn ∙ before)) in
    let gives = speaks.relabels steps (session_of s2 h) label free made in
    let e2 = log_same x.read s2 h two (ap (λ l. (ask x.read l (session_of s2 h) two).added) e1 ∙ gives.adds) in
    ap (λ (u : State). u.log) (cut_run x.read h s1 cut.asked cut.lacked)
    ∙ lacks_same x label h p s1 (lacks_first flags) first
    (λ goes1. goes_same x label h p s1 one r1 most (is_refusal r1) (is_within label h s2) e1
    (λ no1 told1. lacks_same x label h p s2 (lacks_first f1) second
    (λ goes2. goes_same x label h p s2 two r2 more (is_refusal r2) (is_within label h s3) e2
    (λ no2 told2. lacks_same x label h p s3 (lacks_first f2) third
    (λ goes3. goes_same x label h p s3 begin_line r3 rest (is_refusal r3) (is_within label h s4) (begin_same x.read s3 h k.begin)
    (λ no3 told3. statements_same x label h p s4 z4 (begin_txn x.read s3 h p z3 k.begin no3) r3 no3 f3 c.statements k.commit k.statements told3) goes3) told2) goes2) told1) goes1) told
