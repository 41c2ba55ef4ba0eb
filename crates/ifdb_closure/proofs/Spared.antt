-- Error 20 comes of refused memory alone: a line whose step has its memory is told no want of it.
use Rattle.std.proofs.Common.{◌≡◌, ℕ, ◌+◌, Bool, true, false, List, [], ◌∷◌, length, refl, ap, cond, ◌&&◌, Some, None, Option}
use Rattle.std.specs.Prelude.{is_some, not}
use Rattle.ifdb_wire.specs.declared.fault.Fault.{Fault}
use Rattle.ifdb_wire.specs.declared.fault.Fault.TheVariants as fault
use Rattle.ifdb_wire.specs.declared.reply.Reply.{Reply}
use Rattle.ifdb_wire.specs.declared.reply.Reply.TheVariants as reply
use Rattle.ifdb_model.specs.Session.{in_txn}
use Rattle.ifdb_model.specs.Step.{ask, is_empty, refuses}
use Rattle.ifdb_model.specs.Run.{State, session_of, opens, asks, next, outcome_of, tell}
use Rattle.ifdb_model.specs.Output.{is_memory, reads_memory}
use Rattle.ifdb_laws.specs.Scripts.{none_reads_memory}
use Rattle.ifdb_laws.specs.StepLaws.{MemoryIsNeverTold}
use Rattle.ifdb_db.specs.Reading.{read_line}
use Rattle.ifdb_db.proofs.Spares.{read_spares}
use Rattle.ifdb_closure.specs.Closures.{Closure, ClosureLine, commit_line, plain, faulty, creates, calls, is_refusal, is_within, call_ends, call_goes, call_on, call_lines, Called, World, seated, greeting_in, asker_fault, create_fault, call_fault, session_fault, creates_by, calls_by, closure_named, or_none, asks_form, turn}
use Rattle.ifdb_closure.specs.Forms.{closure_form}
use Rattle.ifdb_closure.specs.Speaking.{speech}
use Rattle.ifdb_closure.specs.Ran.{MemoryIsRefusedAlone}
use Rattle.ifdb_closure.proofs.FormParts.{OfForm, line_parts}
use Rattle.ifdb_closure.specs.Numbers.{number_at}

one_spared : (n : ℕ) (r : Reply) → reads_memory r ≡ false → none_reads_memory (tell n r) ≡ true
one_spared n r h = ap (λ b. not b && true) h

module _ (never : MemoryIsNeverTold) where
  line_spared : (st : State) (n : ℕ) (line : List ℕ) → reads_memory (outcome_of read_line st n line).reply ≡ false
  line_spared st n line = by (session_of st n).is_open where
    by : (b : Bool) → reads_memory (cond b (ask read_line st.log (session_of st n) line) (refuses (session_of st n) fault.NoSession)).reply ≡ false
    by true = never read_line read_spares st.log (session_of st n) line
    by false = refl

  -- ---- a call

  ends_spared : (h : ℕ) (st : State) (last : Reply) → reads_memory last ≡ false → reads_memory (call_ends speech h st last).told ≡ false
  ends_spared h st last good = by (is_refusal (outcome_of read_line st h commit_line).reply) where
    by : (b : Bool) → reads_memory (cond b (outcome_of read_line st h commit_line).reply last) ≡ false
    by true = line_spared st h commit_line
    by false = good

  goes_spared : (c d : Bool) (line : List ℕ) (r : Reply) (rest : Called) → reads_memory r ≡ false → reads_memory rest.told ≡ false → reads_memory (call_goes speech c d line r rest).told ≡ false
  goes_spared true d line r rest h k = h
  goes_spared false false line r rest h k = refl
  goes_spared false true line r rest h k = k

  call_spared : (label : List ℕ) (h : ℕ) (st : State) (last : Reply) → reads_memory last ≡ false → (lines : List (List ℕ)) → reads_memory (call_on speech label h st last [] lines).told ≡ false
  call_spared label h st last good [] = ends_spared h st last good
  call_spared label h st last good (line ∷ lines) =
      let more = next read_line st (asks h line) in
      let r = (outcome_of read_line st h line).reply in
      goes_spared (is_refusal r) (is_within label h more) line r (call_on speech label h more r [] lines) (line_spared st h line) (call_spared label h more r (line_spared st h line) lines)

-- ---- refusals of the two forms

-- it is no want of memory
abbrev IsOther : Option Fault → Type 0
IsOther None = Unit {0}
IsOther (Some f) = is_memory f ≡ false

asker_other : (there greeted busy : Bool) → IsOther (asker_fault there greeted busy)
asker_other false greeted busy = refl
asker_other true false busy = refl
asker_other true true true = refl
asker_other true true false = tt

create_other : (empty known : Bool) (o : Option Fault) → IsOther o → IsOther (create_fault empty known o)
create_other empty known (Some f) h = h
create_other false known None h = refl
create_other true true None h = refl
create_other true false None h = tt

call_other : (known : Bool) (o : Option Fault) → IsOther o → IsOther (call_fault known o)
call_other known (Some f) h = h
call_other false None h = refl
call_other true None h = tt

module _ (never : MemoryIsNeverTold) (w : World) (n : ℕ) (line : List ℕ) where
  session_other : IsOther (session_fault (seated w n))
  session_other = asker_other (seated w n).is_open (is_some (seated w n).principal) (in_txn (seated w n).txn)

  creates_spared : (c : Closure) (o : Option Fault) → IsOther o → none_reads_memory (creates_by w n c o).told ≡ true
  creates_spared c None h = refl
  creates_spared c (Some f) h = one_spared n (reply.Refused f) h

  calls_spared : (label : List ℕ) (c : Closure) (o : Option Fault) → IsOther o → none_reads_memory (calls_by speech w n label c o).told ≡ true
  calls_spared label c None h =
      let k = length w.state.sessions + 1 in
      let st = next read_line w.state opens in
      one_spared n (call_on speech label k st reply.Opened [] (call_lines w.state.log label c)).told (call_spared never label k st reply.Opened refl (call_lines w.state.log label c))
  calls_spared label c (Some f) h = one_spared n (reply.Refused f) h

  form_spared : (f : ClosureLine) → OfForm (λ statements. Unit {0}) (λ g. is_memory g ≡ false) f → none_reads_memory (asks_form speech w n line f).told ≡ true
  form_spared plain h = one_spared n (outcome_of read_line w.state (number_at w.seats n) line).reply (line_spared never w.state (number_at w.seats n) line)
  form_spared (faulty f) h = by (seated w n).is_open where
    by : (b : Bool) → none_reads_memory (tell n (reply.Refused (cond b f fault.NoSession))) ≡ true
    by true = one_spared n (reply.Refused f) h
    by false = refl
  form_spared (creates name statements) h =
      creates_spared (record { name = name; owner = greeting_in w.greetings n; statements = statements })
      (create_fault (is_empty (seated w n).label) (is_some (closure_named w.closures name)) (session_fault (seated w n)))
      (create_other (is_empty (seated w n).label) (is_some (closure_named w.closures name)) (session_fault (seated w n)) session_other)
  form_spared (calls name) h =
      calls_spared (seated w n).label (or_none (closure_named w.closures name)) (call_fault (is_some (closure_named w.closures name)) (session_fault (seated w n)))
      (call_other (is_some (closure_named w.closures name)) (session_fault (seated w n)) session_other)

  pub turn_spared : none_reads_memory (turn speech w (asks n line)).told ≡ true
  turn_spared = form_spared (closure_form line) (line_parts (λ statements. Unit {0}) (λ g. is_memory g ≡ false) refl refl line (λ at tokens e. tt))

pub memory_is_refused_alone : MemoryIsNeverTold → MemoryIsRefusedAlone
memory_is_refused_alone never w n line = turn_spared never w n line
