-- What stands for a world goes on with it, turn by turn, by what the code found.
use Rattle.std.proofs.Common.{◌≡◌, ℕ, zero, suc, ◌+◌, ◌-◌, ◌<◌, Bool, true, false, List, [], ◌∷◌, ◌++◌, length, take, get_or, set, refl, sym, ap, subst, ◌∙◌, arith, cond, Some, None, Option, inl, inr, Ok, Err, Result}
use Rattle.std.specs.Prelude.{is_some, is_ok, is_err, option_map}
use Rattle.std.proofs.Math.Seq.{take-append_seam}
use Rattle.std.proofs.lemmas.Bool.{false≢true, ltb-true, lt-ltb}
use Rattle.std.proofs.lemmas.List.{length-append}
use Rattle.ifdb_syntax.specs.declared.request.Request.TheVariants as request
use Rattle.ifdb_syntax.specs.canonical.Text.{canonical_text}
use Rattle.ifdb_wire.specs.declared.fault.Fault.{Fault}
use Rattle.ifdb_wire.specs.declared.fault.Fault.TheVariants as fault
use Rattle.ifdb_wire.specs.declared.reply.Reply.TheVariants as reply
use Rattle.ifdb_wire.specs.Text.{reply_text}
use Rattle.ifdb_model.specs.Session.{Session, in_txn}
use Rattle.ifdb_model.specs.Step.{is_empty}
use Rattle.ifdb_model.specs.Run.{opens, asks, outcome_of}
use Rattle.ifdb_model.specs.Output.{texts}
use Rattle.ifdb_laws.specs.Scripts.{none_reads_memory}
use Rattle.ifdb_db.specs.Reading.{read_line}
use Rattle.ifdb_db.specs.Room.{Hall, was_opened, client_in}
use Rattle.ifdb_db.specs.RoomSteps.{GoesBy, IsReplyText}
use Rattle.ifdb_db.proofs.RoomLaws.{at_open}
use Rattle.ifdb_closure.specs.declared.stage.Seat.{Seat}
use Rattle.ifdb_closure.specs.declared.stage.Stage.{Stage}
use Rattle.ifdb_closure.specs.Numbers.{number_at}
use Rattle.ifdb_closure.specs.Closures.{Greeting, Closure, ClosureLine, plain, faulty, creates, calls, hello_line, names_of, label_line, begin_line, call_lines, World, seated, Turn, refuses_only, hello_of, asks_plain, asker_fault, create_fault, call_fault, session_fault, creates_by, calls_by, closure_named, or_none, asks_form, turn, after_turn, memory_fault}
use Rattle.ifdb_closure.specs.Lacking.{enough, lacks, lacking_line}
use Rattle.ifdb_closure.specs.Forms.{closure_form}
use Rattle.ifdb_closure.specs.Speaking.{speech}
use Rattle.ifdb_closure.specs.Standing.{no_seat, seat_at, IsGreeted, Stands, IsFor, Turned, Does}
use Rattle.ifdb_closure.specs.Asking.{CallRan, label_of}
use Rattle.ifdb_closure.specs.Turning.{closure_by, create_refusal, IsEntered, text_with}
use Rattle.ifdb_closure.proofs.Asking.{is_opened}
use Rattle.ifdb_closure.proofs.Seats.{one_text, number_is, session_is, public_is, seats_count, known_stands, stranger_stands, greeted_stands, greeted_place, opened_stands}
use Rattle.ifdb_closure.proofs.CallTurns.{call_turned}

-- ---- turns that only tell

-- a refusal of the form
pub form_turned : (old : Stage) (w : World) (n : ℕ) (line : List ℕ) (f : Fault) → IsFor old w → asks_form speech w n line (closure_form line) ≡ refuses_only w n f
    → Turned old w (asks n line) (reply_text (Some n) (reply.Refused f))
form_turned old w n line f s e = record {
  memory = enough;
  stands = subst (λ t. IsFor old (after_turn speech w t)) (sym e) s;
  told = one_text n (reply.Refused f) ∙ ap (λ (t : Turn). texts t.told) (sym e);
  exact = tt;
}

-- no memory
pub lacking_turned : (old : Stage) (w : World) (n : ℕ) (line : List ℕ) → IsFor old w → Turned old w (asks n line) (reply_text (Some n) (reply.Refused fault.OutOfMemory))
lacking_turned old w n line s = by (closure_form line) refl where
  by : (f : ClosureLine) → closure_form line ≡ f → Turned old w (asks n line) (reply_text (Some n) (reply.Refused fault.OutOfMemory))
  by plain e = record { memory = lacks; stands = subst (λ f. IsFor old (after_turn speech w (lacking_line w n f))) (sym e) s; told = one_text n memory_fault ∙ ap (λ f. texts (lacking_line w n f).told) (sym e); exact = ap (λ f. none_reads_memory (lacking_line w n f).told) e }
  by (faulty g) e = record { memory = lacks; stands = subst (λ f. IsFor old (after_turn speech w (lacking_line w n f))) (sym e) s; told = one_text n memory_fault ∙ ap (λ f. texts (lacking_line w n f).told) (sym e); exact = ap (λ f. none_reads_memory (lacking_line w n f).told) e }
  by (creates name statements) e = record { memory = lacks; stands = subst (λ f. IsFor old (after_turn speech w (lacking_line w n f))) (sym e) s; told = one_text n memory_fault ∙ ap (λ f. texts (lacking_line w n f).told) (sym e); exact = ap (λ f. none_reads_memory (lacking_line w n f).told) e }
  by (calls name) e = record { memory = lacks; stands = subst (λ f. IsFor old (after_turn speech w (lacking_line w n f))) (sym e) s; told = one_text n memory_fault ∙ ap (λ f. texts (lacking_line w n f).told) (sym e); exact = ap (λ f. none_reads_memory (lacking_line w n f).told) e }

-- ---- a line of the server's own, by what the room did

plain_turned : (new : Stage) (w : World) (n : ℕ) (line text : List ℕ) → closure_form line ≡ plain → IsFor new (after_turn speech w (asks_plain speech w n line))
    → text ≡ reply_text (Some n) (outcome_of read_line w.state (number_at w.seats n) line).reply → Turned new w (asks n line) text
plain_turned new w n line text form s told = record {
  memory = enough;
  stands = subst (λ f. IsFor new (after_turn speech w (asks_form speech w n line f))) (sym form) s;
  told = told ∙ one_text n (outcome_of read_line w.state (number_at w.seats n) line).reply ∙ ap (λ f. texts (asks_form speech w n line f).told) (sym form);
  exact = tt;
}

-- what the room told
told_by_room : (old : Stage) (w : World) (s : IsFor old w) (n : ℕ) (line text : List ℕ) → IsReplyText old.room (seat_at old.seats.items n).session line (Some n) text
    → text ≡ reply_text (Some n) (outcome_of read_line w.state (number_at w.seats n) line).reply
told_by_room old w s n line text told =
    told w.state s.room
    ∙ ap (λ k. reply_text (Some n) (outcome_of read_line w.state k line).reply) (sym (number_is old.room old.seats.items old.closures w s n))

-- a room that had no memory
unasked : (old new : Stage) (w : World) (n : ℕ) (line text : List ℕ) → IsFor old w → new.room ≡ old.room → new.seats.items ≡ old.seats.items → new.closures ≡ old.closures
    → text ≡ reply_text (Some n) (reply.Refused fault.OutOfMemory) → Turned new w (asks n line) text
unasked old new w n line text s room seats closures told =
    let here : IsFor new w = subst (λ cs. Stands new.room new.seats.items cs w) (sym closures)
    (subst (λ xs. Stands new.room xs old.closures w) (sym seats) (subst (λ h. Stands h old.seats.items old.closures w) (sym room) s)) in
    subst (Turned new w (asks n line)) (sym told) (lacking_turned new w n line here)

module _ (old new : Stage) (n : ℕ) (line text : List ℕ) (form : closure_form line ≡ plain) (closures : new.closures ≡ old.closures)
    (goes : GoesBy old.room new.room (asks (seat_at old.seats.items n).session line)) (told : IsReplyText old.room (seat_at old.seats.items n).session line (Some n) text) where
  asked_turned : (w : World) → IsFor old w → Stands new.room new.seats.items old.closures (after_turn speech w (asks_plain speech w n line)) → Turned new w (asks n line) text
  asked_turned w s here =
      plain_turned new w n line text form (subst (λ cs. Stands new.room new.seats.items cs (after_turn speech w (asks_plain speech w n line))) (sym closures) here)
      (told_by_room old w s n line text told)

  -- of a session that has a principal
  pub known_turned : (g : Greeting) → (seat_at old.seats.items n).greeting ≡ Some g → new.seats.items ≡ old.seats.items → Does old new (asks n line) text
  known_turned g e seats w s =
      asked_turned w s (subst (λ xs. Stands new.room xs old.closures (after_turn speech w (asks_plain speech w n line))) (sym seats)
      (known_stands old.room new.room old.seats.items old.closures w s n line goes g e))

  -- of one that has none, and had none before
  pub stranger_turned : (seat_at old.seats.items n).greeting ≡ None → is_some (client_in new.room (seat_at old.seats.items n).session).principal ≡ false
      → new.seats.items ≡ old.seats.items → Does old new (asks n line) text
  stranger_turned e p seats w s =
      asked_turned w s (subst (λ xs. Stands new.room xs old.closures (after_turn speech w (asks_plain speech w n line))) (sym seats)
      (stranger_stands old.room new.room old.seats.items old.closures w s n line goes e p))

  -- of one that was greeted
  pub greeted_turned : (seat_at old.seats.items n).greeting ≡ None → is_some (client_in new.room (seat_at old.seats.items n).session).principal ≡ true
      → new.seats.items ≡ set old.seats.items (n - 1) (record { session = (seat_at old.seats.items n).session; greeting = hello_of (read_line line) })
      → Does old new (asks n line) text
  greeted_turned e p seats w s =
      asked_turned w s (subst (λ xs. Stands new.room xs old.closures (after_turn speech w (asks_plain speech w n line))) (sym seats)
      (greeted_stands old.room new.room old.seats.items old.closures w s n line goes e p))

-- where the room had no memory
pub unasked_turned : (old new : Stage) (n : ℕ) (line text : List ℕ) → new.room ≡ old.room → new.seats.items ≡ old.seats.items → new.closures ≡ old.closures
    → text ≡ reply_text (Some n) (reply.Refused fault.OutOfMemory) → Does old new (asks n line) text
unasked_turned old new n line text room seats closures told w s = unasked old new w n line text s room seats closures told

-- there a stranger is one still
pub still_stranger : (old : Stage) (w : World) → IsFor old w → (n : ℕ) → (seat_at old.seats.items n).greeting ≡ None
    → is_some (client_in old.room (seat_at old.seats.items n).session).principal ≡ false
still_stranger old w s n e =
    ap (λ (x : Session). is_some x.principal) (sym (session_is old.room old.seats.items old.closures w s n)) ∙ subst (IsGreeted w n) e (s.greeted n)

-- ---- OPEN, by what the room did

pub opened_turned : (old new : Stage) (number : ℕ) (text : List ℕ) → new.closures ≡ old.closures
    → new.seats.items ≡ old.seats.items ++ record { session = number; greeting = None } ∷ [] → number ≡ length old.room.clients + 1
    → GoesBy old.room new.room opens → text ≡ reply_text (Some (length new.seats.items)) reply.Opened → Does old new opens text
opened_turned old new number text closures seats number_is goes told w s = record {
  memory = enough;
  stands = subst (λ cs. Stands new.room new.seats.items cs (after_turn speech w (turn speech w opens))) (sym closures)
      (subst (λ xs. Stands new.room xs old.closures (after_turn speech w (turn speech w opens))) (sym seats)
      (subst (λ k. Stands new.room (old.seats.items ++ record { session = k; greeting = None } ∷ []) old.closures (after_turn speech w (turn speech w opens))) (sym number_is)
      (opened_stands old.room new.room old.seats.items old.closures w s goes)));
  told =
      let many : length new.seats.items ≡ length w.seats + 1 =
      ap length seats ∙ length-append old.seats.items (record { session = number; greeting = None } ∷ [])
      ∙ ap (λ k. k + 1) (sym (seats_count old.room old.seats.items old.closures w s)) in
      told ∙ ap (λ k. reply_text (Some k) reply.Opened) many ∙ one_text (length w.seats + 1) reply.Opened;
  exact = tt;
}

pub unopened_turned : (old new : Stage) (text : List ℕ) → new.closures ≡ old.closures → new.seats.items ≡ old.seats.items → new.room ≡ old.room
    → text ≡ reply_text (Some 0) (reply.Refused fault.OutOfMemory) → Does old new opens text
unopened_turned old new text closures seats room told w s = record {
  memory = lacks;
  stands = subst (λ cs. Stands new.room new.seats.items cs w) (sym closures)
      (subst (λ xs. Stands new.room xs old.closures w) (sym seats) (subst (λ h. Stands h old.seats.items old.closures w) (sym room) s));
  told = told ∙ one_text 0 memory_fault;
  exact = refl;
}

-- ---- CREATE CLOSURE, by what was entered

pub entered_turned : (old new : Stage) (n : ℕ) (line name text : List ℕ) (statements : List (List ℕ)) → closure_form line ≡ creates name statements
    → text ≡ reply_text (Some n) reply.Done → (w : World) → IsEntered {T = Unit {0}} new w n name statements (Ok tt) → Turned new w (asks n line) text
entered_turned old new n line name text statements form told w entered =
    let turn_is : asks_form speech w n line (closure_form line) ≡ creates_by w n (closure_by w n name statements) None =
    ap (asks_form speech w n line) form ∙ ap (creates_by w n (closure_by w n name statements)) entered.0 in
    record {
      memory = enough;
      stands = subst (λ t. IsFor new (after_turn speech w t)) (sym turn_is) entered.1;
      told = told ∙ one_text n reply.Done ∙ ap (λ (t : Turn). texts t.told) (sym turn_is);
      exact = tt;
    }

pub unentered_turned : (old new : Stage) (n : ℕ) (line name : List ℕ) (statements : List (List ℕ)) (f : Fault) → closure_form line ≡ creates name statements
    → (w : World) → IsEntered {T = Unit {0}} new w n name statements (Err f) → Turned new w (asks n line) (reply_text (Some n) (reply.Refused f))
unentered_turned old new n line name statements f form w (s, inl why) =
    form_turned new w n line f s (ap (asks_form speech w n line) form ∙ ap (creates_by w n (closure_by w n name statements)) why)
unentered_turned old new n line name statements f form w (s, inr memory) =
    subst (λ g. Turned new w (asks n line) (reply_text (Some n) (reply.Refused g))) (sym memory) (lacking_turned new w n line s)

-- a closure was entered
pub entered_stands : (old new : Stage) (w : World) (c : Closure) → IsFor old w → new.room ≡ old.room → new.seats.items ≡ old.seats.items → new.closures ≡ old.closures ++ c ∷ []
    → (n : ℕ) → IsFor new (after_turn speech w (creates_by w n c None))
entered_stands old new w c s room seats closures n =
    let later = after_turn speech w (creates_by w n c None) in
    subst (λ cs. Stands new.room new.seats.items cs later) (sym closures) (subst (λ xs. Stands new.room xs (old.closures ++ c ∷ []) later) (sym seats)
    (subst (λ h. Stands h old.seats.items (old.closures ++ c ∷ []) later) (sym room) (record {
      room = s.room;
      seats_are = s.seats_are;
      rise = s.rise;
      greeted = s.greeted;
      closures_are = ap (λ cs. cs ++ c ∷ []) s.closures_are;
      past = s.past;
      ran = s.ran;
    })))

-- ---- by what the code found

-- no memory, whatever the line is
pub lacking_does : (old : Stage) (n : ℕ) (line text : List ℕ) → text ≡ reply_text (Some n) (reply.Refused fault.OutOfMemory) → Does old old (asks n line) text
lacking_does old n line text told w s = subst (Turned old w (asks n line)) (sym told) (lacking_turned old w n line s)

-- a form with a fault, by whether the session is open
pub faulty_does : (old : Stage) (n : ℕ) (line text : List ℕ) (f : Fault) (b : Bool) → closure_form line ≡ faulty f
    → b ≡ (client_in old.room (seat_at old.seats.items n).session).is_open → text ≡ reply_text (Some n) (reply.Refused (cond b f fault.NoSession)) → Does old old (asks n line) text
faulty_does old n line text f b form is_open told w s =
    let there = is_open ∙ ap (λ (x : Session). x.is_open) (sym (session_is old.room old.seats.items old.closures w s n)) in
    subst (Turned old w (asks n line)) (sym told)
    (form_turned old w n line (cond b f fault.NoSession) s (ap (asks_form speech w n line) form ∙ (λ i. refuses_only w n (cond (sym there i) f fault.NoSession))))

-- a line of a session that has a principal
pub known_does : (old new : Stage) (n : ℕ) (line text : List ℕ) (b : Bool) → closure_form line ≡ plain → new.closures ≡ old.closures → new.seats.items ≡ old.seats.items
    → (b ≡ true → GoesBy old.room new.room (asks (seat_at old.seats.items n).session line))
    → (b ≡ true → IsReplyText old.room (seat_at old.seats.items n).session line (Some n) text)
    → (b ≡ false → new.room ≡ old.room) → (b ≡ false → text ≡ reply_text (Some n) (reply.Refused fault.OutOfMemory))
    → (o : Option Greeting) → o ≡ (seat_at old.seats.items n).greeting → is_some o ≡ true → Does old new (asks n line) text
known_does old new n line text true form closures seats goes told kept lack None e h = absurd (false≢true h)
known_does old new n line text true form closures seats goes told kept lack (Some g) e h = known_turned old new n line text form closures (goes refl) (told refl) g (sym e) seats
known_does old new n line text false form closures seats goes told kept lack o e h = unasked_turned old new n line text (kept refl) seats closures (lack refl)

-- one of a session that has none, and has none still
pub stranger_does : (old new : Stage) (n : ℕ) (line text : List ℕ) (b : Bool) → closure_form line ≡ plain → new.closures ≡ old.closures → new.seats.items ≡ old.seats.items
    → (b ≡ true → GoesBy old.room new.room (asks (seat_at old.seats.items n).session line))
    → (b ≡ true → IsReplyText old.room (seat_at old.seats.items n).session line (Some n) text)
    → (b ≡ false → new.room ≡ old.room) → (b ≡ false → text ≡ reply_text (Some n) (reply.Refused fault.OutOfMemory))
    → (seat_at old.seats.items n).greeting ≡ None → is_some (client_in new.room (seat_at old.seats.items n).session).principal ≡ false → Does old new (asks n line) text
stranger_does old new n line text true form closures seats goes told kept lack e h = stranger_turned old new n line text form closures (goes refl) (told refl) e h seats
stranger_does old new n line text false form closures seats goes told kept lack e h = unasked_turned old new n line text (kept refl) seats closures (lack refl)

-- one of a session that was greeted now; so the room had memory, and the session has a seat
module _ (old : Stage) (room : Hall) (n : ℕ) (line text : List ℕ) (b : Bool)
    (goes : b ≡ true → GoesBy old.room room (asks (seat_at old.seats.items n).session line)) (refused : b ≡ false → room ≡ old.room)
    (e : (seat_at old.seats.items n).greeting ≡ None) (h : is_some (client_in room (seat_at old.seats.items n).session).principal ≡ true) where
  had_memory : (w : World) → IsFor old w → b ≡ true
  had_memory w s = by b refl where
    by : (d : Bool) → b ≡ d → d ≡ true
    by true q = refl
    by false q =
        absurd (false≢true (sym (still_stranger old w s n e)
        ∙ ap (λ (x : Hall). is_some (client_in x (seat_at old.seats.items n).session).principal) (sym (refused q)) ∙ h))

  pub new_place : (w : World) → IsFor old w → (0 < n) × (n - 1 < length old.seats.items)
  new_place w s = greeted_place old.room room old.seats.items old.closures w s n line (goes (had_memory w s)) e h

  pub greeted_does : (new : Stage) → new.room ≡ room → closure_form line ≡ plain → new.closures ≡ old.closures
      → new.seats.items ≡ set old.seats.items (n - 1) (record { session = (seat_at old.seats.items n).session; greeting = hello_of (read_line line) })
      → (b ≡ true → IsReplyText old.room (seat_at old.seats.items n).session line (Some n) text) → Does old new (asks n line) text
  greeted_does new there form closures seats told w s =
      let yes = had_memory w s in
      greeted_turned old new n line text form closures (subst (λ (x : Hall). GoesBy old.room x (asks (seat_at old.seats.items n).session line)) (sym there) (goes yes)) (told yes) e
      (ap (λ (x : Hall). is_some (client_in x (seat_at old.seats.items n).session).principal) there ∙ h) seats w s

-- ---- CREATE CLOSURE

known_is : (old : Stage) (w : World) → IsFor old w → (name : List ℕ) → is_some (closure_named w.closures name) ≡ is_some (closure_named old.closures name)
known_is old w s name = ap (λ cs. is_some (closure_named cs name)) (sym s.closures_are)

pub refusal_is : (old : Stage) (w : World) (s : IsFor old w) (n : ℕ) (name : List ℕ) (empty known : Bool)
    → empty ≡ is_empty (client_in old.room (seat_at old.seats.items n).session).label → known ≡ is_some (closure_named old.closures name)
    → session_fault (seated w n) ≡ None → create_refusal w n name ≡ create_fault empty known None
refusal_is old w s n name empty known e k may =
    (λ i. create_fault (is_empty (session_is old.room old.seats.items old.closures w s n i).label) (known_is old w s name i) (may i))
    ∙ (λ i. create_fault (sym e i) (sym k i) None)

pub refusal_first : (w : World) (n : ℕ) (name : List ℕ) (f : Fault) → session_fault (seated w n) ≡ Some f → create_refusal w n name ≡ Some f
refusal_first w n name f why = ap (create_fault (is_empty (seated w n).label) (is_some (closure_named w.closures name))) why

-- ---- CALL

-- one who may ask is open
pub asker_open : (s : Session) → session_fault s ≡ None → s.is_open ≡ true
asker_open s e = by s.is_open e where
  by : (b : Bool) → asker_fault b (is_some s.principal) (in_txn s.txn) ≡ None → b ≡ true
  by true h = refl
  by false h = cc

pub caller_there : (old : Stage) (w : World) → IsFor old w → (n : ℕ) → session_fault (seated w n) ≡ None → was_opened old.room (seat_at old.seats.items n).session ≡ true
caller_there old w s n may =
    let k = (seat_at old.seats.items n).session in
    let there = at_open old.room k (ap (λ (x : Session). x.is_open) (sym (session_is old.room old.seats.items old.closures w s n)) ∙ asker_open (seated w n) may) in
    let p = ltb-true 0 k there.from_1 in
    is_opened old.room k p (omega (arith, p, there.there))

pub call_refused : (old : Stage) (n : ℕ) (line name : List ℕ) (f : Fault) → closure_form line ≡ calls name → (w : World) → IsFor old w
    → call_fault (is_some (closure_named w.closures name)) (session_fault (seated w n)) ≡ Some f → Turned old w (asks n line) (reply_text (Some n) (reply.Refused f))
call_refused old n line name f form w s why =
    form_turned old w n line f s (ap (asks_form speech w n line) form ∙ ap (calls_by speech w n (seated w n).label (or_none (closure_named w.closures name))) why)

pub call_unknown : (old : Stage) (n : ℕ) (line name : List ℕ) → closure_form line ≡ calls name → (w : World) → IsFor old w
    → session_fault (seated w n) ≡ None → closure_named old.closures name ≡ None → Turned old w (asks n line) (reply_text (Some n) (reply.Refused fault.UnknownName))
call_unknown old n line name form w s may none =
    call_refused old n line name fault.UnknownName form w s
    ((λ i. call_fault (known_is old w s name i) (may i)) ∙ ap (λ o. call_fault (is_some o) None) none)

pub call_made : {T : Type 0} (old new : Stage) (n : ℕ) (line name first second : List ℕ) (lines : List (List ℕ)) (text : List ℕ) (end : Result T Fault) (c : Closure)
    → new.seats.items ≡ old.seats.items → new.closures ≡ old.closures → closure_form line ≡ calls name → (w : World) → IsFor old w → session_fault (seated w n) ≡ None
    → closure_named old.closures name ≡ Some c → first ≡ hello_line c.owner
    → second ≡ canonical_text (request.SetLabel (names_of old.room.desk.seen.public (client_in old.room (seat_at old.seats.items n).session).label))
    → lines ≡ first ∷ second ∷ begin_line ∷ c.statements
    → CallRan new.room (label_of w.state (seat_at old.seats.items n).session) w.state lines n text end → Turned new w (asks n line) (text_with n text end)
call_made old new n line name first second lines text end c seats closures form w s may found hello_is label_is lines_are ran =
    let here = session_is old.room old.seats.items old.closures w s n in
    let named : closure_named w.closures name ≡ Some c = ap (λ cs. closure_named cs name) (sym s.closures_are) ∙ found in
    let label_line_is : second ≡ label_line w.state.log (seated w n).label =
    label_is ∙ (λ i. canonical_text (request.SetLabel (names_of (public_is old.room old.seats.items old.closures w s i) (sym here i).label))) in
    let all : lines ≡ call_lines w.state.log (seated w n).label (or_none (closure_named w.closures name)) =
    lines_are ∙ (λ i. hello_is i ∷ label_line_is i ∷ begin_line ∷ c.statements)
    ∙ ap (λ o. call_lines w.state.log (seated w n).label (or_none o)) (sym named) in
    call_turned old new n line name lines text end seats closures form w s ((λ i. call_fault (is_some (named i)) (may i))) all
    (subst (λ k. CallRan new.room (label_of w.state k) w.state lines n text end) (sym (number_is old.room old.seats.items old.closures w s n)) ran)

-- ---- an item more at the end of a list, and taken off again

pub pushed : {X E : Type 0} (xs ys : List X) (x : X) (r : Result (Unit {0}) E) → ys ≡ cond (is_ok r) (xs ++ x ∷ []) xs → false ≡ is_err r → ys ≡ xs ++ x ∷ []
pushed xs ys x (Ok u) items e = items
pushed xs ys x (Err y) items e = absurd (false≢true e)

pub popped : {X : Type 0} (xs ys zs : List X) (x : X) → ys ≡ xs ++ x ∷ [] → zs ≡ take (length ys - 1) ys → zs ≡ xs
popped xs ys zs x more taken =
    let count : length ys - 1 ≡ length xs = omega (arith, ap length more, length-append xs (x ∷ [])) in
    taken ∙ (λ i. take (count i) (more i)) ∙ take-append_seam xs (x ∷ [])

pub some_map : {X Y : Type 0} (f : X → Y) (o : Option X) → is_some (option_map f o) ≡ is_some o
some_map f None = refl
some_map f (Some x) = refl

-- a seat that is there, whatever would stand in its place
any_default : (xs : List Seat) (i : ℕ) (d e : Seat) → i < length xs → get_or xs i d ≡ get_or xs i e
any_default [] i d e lt = absurd (omega (arith, lt))
any_default (x ∷ xs) zero d e lt = refl
any_default (x ∷ xs) (suc i) d e lt = any_default xs i d e (omega (arith, lt))

pub seat_there : (seats : List Seat) (n : ℕ) (x : Seat) → (0 < n) × (n - 1 < length seats) → x ≡ get_or seats (n - 1) x → x ≡ seat_at seats n
seat_there seats n x place e =
    e ∙ any_default seats (n - 1) x no_seat place.1 ∙ ap (λ b. cond b (get_or seats (n - 1) no_seat) no_seat) (sym (lt-ltb 0 n place.0))
