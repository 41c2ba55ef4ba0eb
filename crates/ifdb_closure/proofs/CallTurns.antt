-- What stands for a world goes on with it by a CALL.
use Rattle.std.proofs.Common.{◌≡◌, ℕ, zero, suc, ◌+◌, true, false, List, [], ◌∷◌, ◌++◌, length, map, refl, sym, ap, subst, ◌∙◌, arith, cond, Some, None, Ok, Err, Result}
use Rattle.std.specs.Prelude.{is_some}
use Rattle.std.proofs.lemmas.List.{length-append}
use Rattle.ifdb_wire.specs.declared.fault.Fault.{Fault}
use Rattle.ifdb_wire.specs.declared.reply.Reply.{Reply}
use Rattle.ifdb_wire.specs.Text.{reply_text}
use Rattle.ifdb_model.specs.Session.{Session, new_session}
use Rattle.ifdb_model.specs.Run.{State, opening, session_of, opens, asks, next, run, Told, tell}
use Rattle.ifdb_model.specs.Output.{texts}
use Rattle.ifdb_model.proofs.Runs.{run-append}
use Rattle.ifdb_laws.specs.Scripts.{none_reads_memory}
use Rattle.ifdb_db.specs.Reading.{read_line}
use Rattle.ifdb_db.specs.Room.{Hall, StandsFor}
use Rattle.ifdb_closure.specs.declared.stage.Seat.{Seat}
use Rattle.ifdb_closure.specs.declared.stage.Stage.{Stage}
use Rattle.ifdb_closure.specs.Numbers.{are_numbers, number_at}
use Rattle.ifdb_closure.specs.Closures.{Closure, calls, call_lines, asked_of, World, seated, Turn, call_fault, session_fault, calls_by, closure_named, or_none, asks_form, turn, after_turn}
use Rattle.ifdb_closure.specs.Lacking.{Memory, enough, lacks, lacks_at, call_cut, lacking_at, lacking_line, turn_with}
use Rattle.ifdb_closure.specs.Forms.{closure_form}
use Rattle.ifdb_closure.specs.Speaking.{speech}
use Rattle.ifdb_closure.specs.Standing.{seat_at, Stands, IsFor, IsToldAt, Turned}
use Rattle.ifdb_closure.specs.Asking.{called_on, steps_with, told_with_memory, CallRan, IsMemoryTold, Says}
use Rattle.ifdb_closure.specs.Turning.{text_with}
use Rattle.ifdb_closure.proofs.Thinning.{thin_session, numbers_more}
use Rattle.ifdb_closure.proofs.Twins.{asks_count, leaves_count}
use Rattle.ifdb_closure.proofs.Worlds.{opened_grown, grown_call}
use Rattle.ifdb_closure.proofs.Asking.{left}
use Rattle.ifdb_closure.proofs.Seats.{one_text, greeted_same}

-- ---- CALL

calls_same : (w : World) (n : ℕ) (line name : List ℕ) (lines : List (List ℕ)) → closure_form line ≡ calls name
    → call_fault (is_some (closure_named w.closures name)) (session_fault (seated w n)) ≡ None
    → lines ≡ call_lines w.state.log (seated w n).label (or_none (closure_named w.closures name)) → (memory : Memory)
    → turn_with speech w memory (asks n line) ≡ record {
      steps = steps_with (seated w n).label w.state lines memory;
      told = tell n (told_with_memory (seated w n).label w.state lines memory);
      seats = w.seats;
      greetings = w.greetings;
      closures = w.closures;
    }
calls_same w n line name lines form may are memory = subst goal (sym are) (by memory) where
  c : Closure
  c = or_none (closure_named w.closures name)

  turn_for : List (List ℕ) → Memory → Turn
  turn_for ls m = record {
    steps = steps_with (seated w n).label w.state ls m;
    told = tell n (told_with_memory (seated w n).label w.state ls m);
    seats = w.seats;
    greetings = w.greetings;
    closures = w.closures;
  }

  goal : List (List ℕ) → Type 0
  goal ls = turn_with speech w memory (asks n line) ≡ turn_for ls memory

  by : (m : Memory) → turn_with speech w m (asks n line) ≡ turn_for (call_lines w.state.log (seated w n).label c) m
  by enough = ap (asks_form speech w n line) form ∙ ap (calls_by speech w n (seated w n).label c) may
  by lacks = ap (lacking_line w n) form
  by (lacks_at i) =
      ap (lacking_at speech w i n line) form
      ∙ ap (λ f. cond (is_some f) (turn speech w (asks n line)) (call_cut speech w n (seated w n).label c i)) may ∙ cut i where
        cut : (i : ℕ) → call_cut speech w n (seated w n).label c i ≡ turn_for (call_lines w.state.log (seated w n).label c) (lacks_at i)
        cut zero = refl
        cut (suc i) = refl

-- the sessions that were there are as they were behind a call
pub record StillSeated (w : World) (st : State) : Type 0 where
  pub rise : are_numbers 0 (length st.sessions) w.seats ≡ true
  pub same : map (session_of st) w.seats ≡ map (session_of w.state) w.seats

asks_number : (h : ℕ) (st : State) (asked : List (List ℕ)) → length (run read_line st (asked_of h asked)).sessions ≡ length st.sessions
asks_number h st [] = leaves_count read_line st h
asks_number h st (x ∷ asked) = asks_number h (next read_line st (asks h x)) asked ∙ asks_count read_line st h x

pub called_seats : (w : World) → are_numbers 0 (length w.state.sessions) w.seats ≡ true → (asked : List (List ℕ))
    → StillSeated w (run read_line (next read_line w.state opens) (asked_of (length w.state.sessions + 1) asked))
called_seats w rise asked =
    let count = length w.state.sessions in
    let later = next read_line w.state opens in
    let more = asks_number (count + 1) later asked in
    let one = length-append w.state.sessions (new_session ∷ []) in
    record {
      rise = numbers_more 0 count (length (run read_line later (asked_of (count + 1) asked)).sessions) w.seats rise (omega (arith, more, one));
      same = (grown_call read_line w.state w.seats count (count + 1) rise (omega arith) later asked (opened_grown read_line w.state w.seats rise)).seats;
    }

call_seats : (w : World) → are_numbers 0 (length w.state.sessions) w.seats ≡ true → (label : List ℕ) (lines : List (List ℕ)) (memory : Memory)
    → StillSeated w (run read_line w.state (steps_with label w.state lines memory))
call_seats w rise label lines memory = by memory where
  count : ℕ
  count = length w.state.sessions

  later : State
  later = next read_line w.state opens

  as_before : StillSeated w w.state
  as_before = record { rise = rise; same = refl }

  by : (m : Memory) → StillSeated w (run read_line w.state (steps_with label w.state lines m))
  by enough = called_seats w rise (called_on label (count + 1) later lines None).asked
  by lacks = as_before
  by (lacks_at zero) = as_before
  by (lacks_at (suc i)) =
      let c = called_on label (count + 1) later lines (Some i) in
      subst (StillSeated w) (left (count + 1) later c.asked false ∙ sym (left (count + 1) later c.asked c.lacked)) (called_seats w rise c.asked)

call_stands : (old new : Hall) (seats : List Seat) (closures : List Closure) (w : World) (s : Stands old seats closures w) (label : List ℕ) (lines : List (List ℕ)) (memory : Memory) (n : ℕ) (told : List Told)
    → StandsFor new (run read_line w.state (steps_with label w.state lines memory))
    → Stands new seats closures (after_turn speech w (record { steps = steps_with label w.state lines memory; told = told; seats = w.seats; greetings = w.greetings; closures = w.closures }))
call_stands old new seats closures w s label lines memory n told room =
    let steps = steps_with label w.state lines memory in
    let still = call_seats w s.rise label lines memory in
    let later : State = run read_line w.state steps in
    let same : (m : ℕ) → session_of later (number_at w.seats m) ≡ session_of w.state (number_at w.seats m) = λ m.
    sym (thin_session later w.seats m) ∙ (λ i. session_of (record { log = later.log; sessions = still.same i }) m) ∙ thin_session w.state w.seats m in
    record {
      room = room;
      seats_are = s.seats_are;
      rise = still.rise;
      greeted = λ m. greeted_same w (record w { state = later }) m (seat_at seats m).greeting (ap (λ (x : Session). x.principal) (same m)) refl (s.greeted m);
      closures_are = s.closures_are;
      past = s.past ++ steps;
      ran = ap (λ st. run read_line st steps) s.ran ∙ sym (run-append read_line opening s.past steps);
    }

-- the text of an end that says this
says_text : {T : Type 0} (n : ℕ) (text : List ℕ) (end : Result T Fault) (r : Reply) → Says n text end r → text_with n text end ≡ texts (tell n r)
says_text n text (Ok x) r h = h ∙ one_text n r
says_text n text (Err f) r h = ap (reply_text (Some n)) (sym h) ∙ one_text n r

-- want of memory is told at the step
told_exactly : (n : ℕ) (memory : Memory) (r : Reply) → IsMemoryTold memory r → IsToldAt memory (tell n r)
told_exactly n enough r h = tt
told_exactly n lacks r h = ap (λ q. none_reads_memory (tell n q)) h
told_exactly n (lacks_at i) r h = ap (λ q. none_reads_memory (tell n q)) h

pub call_turned : {T : Type 0} (old new : Stage) (n : ℕ) (line name : List ℕ) (lines : List (List ℕ)) (text : List ℕ) (end : Result T Fault)
    → new.seats.items ≡ old.seats.items → new.closures ≡ old.closures
    → closure_form line ≡ calls name → (w : World) → IsFor old w → call_fault (is_some (closure_named w.closures name)) (session_fault (seated w n)) ≡ None
    → lines ≡ call_lines w.state.log (seated w n).label (or_none (closure_named w.closures name))
    → CallRan new.room (seated w n).label w.state lines n text end → Turned new w (asks n line) (text_with n text end)
call_turned old new n line name lines text end seats closures form w s may are ran =
    let turn_is = calls_same w n line name lines form may are ran.memory in
    let told = tell n (told_with_memory (seated w n).label w.state lines ran.memory) in
    let later : World = after_turn speech w (record {
      steps = steps_with (seated w n).label w.state lines ran.memory;
      told = told;
      seats = w.seats;
      greetings = w.greetings;
      closures = w.closures;
    }) in
    let there = call_stands old.room new.room old.seats.items old.closures w s (seated w n).label lines ran.memory n told ran.stands in
    record {
      memory = ran.memory;
      stands = subst (λ t. IsFor new (after_turn speech w t)) (sym turn_is)
          (subst (λ cs. Stands new.room new.seats.items cs later) (sym closures) (subst (λ xs. Stands new.room xs old.closures later) (sym seats) there));
      told = says_text n text end (told_with_memory (seated w n).label w.state lines ran.memory) ran.says ∙ ap (λ (t : Turn). texts t.told) (sym turn_is);
      exact = subst (λ (t : Turn). IsToldAt ran.memory t.told) (sym turn_is)
          (told_exactly n ran.memory (told_with_memory (seated w n).label w.state lines ran.memory) ran.exact);
    }
