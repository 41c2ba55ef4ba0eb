-- Worlds whose own sessions are alike are told the same at a step, and come to such worlds again.
use Rattle.std.proofs.Common.{◌≡◌, ℕ, ◌+◌, ◌<◌, ◌≤◌, Bool, true, false, List, [], ◌∷◌, ◌++◌, length, map, refl, sym, ap, subst, ◌∙◌, arith, cond, Some, None, Option}
use Rattle.std.specs.Prelude.{is_some, option_to_list}
use Rattle.std.proofs.lemmas.List.{length-append, length-map}
use Rattle.ifdb_label.specs.Label.{flows}
use Rattle.ifdb_wire.specs.declared.fault.Fault.{Fault}
use Rattle.ifdb_wire.specs.declared.fault.Fault.TheVariants as fault
use Rattle.ifdb_wire.specs.declared.reply.Reply.{Reply}
use Rattle.ifdb_wire.specs.declared.reply.Reply.TheVariants as reply
use Rattle.ifdb_model.specs.Log.{Entry, all_tags}
use Rattle.ifdb_model.specs.Session.{Session, closed, new_session}
use Rattle.ifdb_model.specs.Step.{ask, is_empty, refuses}
use Rattle.ifdb_model.specs.Run.{State, session_of, Step, opens, asks, refused, long, stray, leaves, with_outcome, with_session, outcome_of, next, run, tell}
use Rattle.ifdb_db.specs.Reading.{read_line}
use Rattle.ifdb_closure.specs.Numbers.{are_numbers, number_at, thin}
use Rattle.ifdb_closure.specs.Closures.{Closure, ClosureLine, plain, faulty, creates, calls, commit_line, call_lines, is_refusal, is_within, Called, call_goes, call_on, called, call_steps, asked_of, closure_named, or_none, World, seated, greeting_in, greeted, hello_of, is_done, Turn, refuses_only, asks_plain, create_fault, call_fault, session_fault, creates_by, calls_by, asks_form, turn, after_turn}
use Rattle.ifdb_closure.specs.Forms.{closure_form}
use Rattle.ifdb_closure.specs.Speaking.{speech}
use Rattle.ifdb_closure.proofs.CallTurns.{StillSeated, called_seats}
use Rattle.ifdb_closure.proofs.Thinning.{thin_session, one_itself, open_new, open_same, numbers_push, others_are_not_seen}
use Rattle.ifdb_closure.proofs.Twins.{asks_count}

-- ---- a call, of two sessions that are alike over one log

-- what a line leaves of the log and of its session
abbrev log_after : List Entry → Session → List ℕ → List Entry
log_after log s line = cond s.is_open (log ++ option_to_list (ask read_line log s line).added) log

abbrev session_after : List Entry → Session → List ℕ → Session
session_after log s line = cond s.is_open (ask read_line log s line).session s

next_log : (st : State) (h : ℕ) (line : List ℕ) → (next read_line st (asks h line)).log ≡ log_after st.log (session_of st h) line
next_log st h line = by (session_of st h).is_open where
  by : (b : Bool) → (cond b (with_outcome st h (ask read_line st.log (session_of st h) line)) st).log
      ≡ cond b (st.log ++ option_to_list (ask read_line st.log (session_of st h) line).added) st.log
  by true = refl
  by false = refl

next_session : (st : State) (h : ℕ) (line : List ℕ) → 0 < h → h ≤ length st.sessions → session_of (next read_line st (asks h line)) h ≡ session_after st.log (session_of st h) line
next_session st h line p le = by (session_of st h).is_open where
  by : (b : Bool) → session_of (cond b (with_outcome st h (ask read_line st.log (session_of st h) line)) st) h
      ≡ cond b (ask read_line st.log (session_of st h) line).session (session_of st h)
  by true = one_itself st h (ask read_line st.log (session_of st h) line).session p le
  by false = refl

leave_log : (st : State) (h : ℕ) → (next read_line st (leaves h)).log ≡ st.log
leave_log st h = by (session_of st h).is_open where
  by : (b : Bool) → (cond b (with_session st h (closed (session_of st h))) st).log ≡ st.log
  by true = refl
  by false = refl

module _ (label : List ℕ) (h j : ℕ) (p : 0 < h) (q : 0 < j) where
  record SameCall (s t : State) (a b : Called) : Type 0 where
    told : a.told ≡ b.told
    log : (run read_line s (asked_of h a.asked)).log ≡ (run read_line t (asked_of j b.asked)).log

  -- a line of both
  record SameLine (s t : State) (line : List ℕ) : Type 0 where
    reply_is : (outcome_of read_line s h line).reply ≡ (outcome_of read_line t j line).reply
    log : (next read_line s (asks h line)).log ≡ (next read_line t (asks j line)).log
    session : session_of (next read_line s (asks h line)) h ≡ session_of (next read_line t (asks j line)) j

  same_line : (s t : State) → s.log ≡ t.log → session_of s h ≡ session_of t j → h ≤ length s.sessions → j ≤ length t.sessions → (line : List ℕ) → SameLine s t line
  same_line s t l e le lf line = record {
    reply_is = λ i. (cond (e i).is_open (ask read_line (l i) (e i) line) (refuses (e i) fault.NoSession)).reply;
    log = next_log s h line ∙ (λ i. log_after (l i) (e i) line) ∙ sym (next_log t j line);
    session = next_session s h line p le ∙ (λ i. session_after (l i) (e i) line) ∙ sym (next_session t j line q lf);
  }

  same_goes : (s t : State) (line : List ℕ) (r o : Reply) → r ≡ o → (next read_line s (asks h line)).log ≡ (next read_line t (asks j line)).log → (a b : Called) (c d : Bool)
      → SameCall (next read_line s (asks h line)) (next read_line t (asks j line)) a b → SameCall s t (call_goes speech c d line r a) (call_goes speech c d line o b)
  same_goes s t line r o e l a b true d rest =
      record { told = e; log = leave_log (next read_line s (asks h line)) h ∙ l ∙ sym (leave_log (next read_line t (asks j line)) j) }
  same_goes s t line r o e l a b false false rest =
      record { told = refl; log = leave_log (next read_line s (asks h line)) h ∙ l ∙ sym (leave_log (next read_line t (asks j line)) j) }
  same_goes s t line r o e l a b false true rest = record { told = rest.told; log = rest.log }

  same_call : (s t : State) → s.log ≡ t.log → session_of s h ≡ session_of t j → h ≤ length s.sessions → j ≤ length t.sessions → (last other : Reply) → last ≡ other
      → (lines : List (List ℕ)) → SameCall s t (call_on speech label h s last [] lines) (call_on speech label j t other [] lines)
  same_call s t l e le lf last other o [] =
      let one = same_line s t l e le lf commit_line in
      record {
        told = λ i. cond (is_refusal (one.reply_is i)) (one.reply_is i) (o i);
        log = leave_log (next read_line s (asks h commit_line)) h ∙ one.log ∙ sym (leave_log (next read_line t (asks j commit_line)) j);
      }
  same_call s t l e le lf last other o (line ∷ lines) =
      let one = same_line s t l e le lf line in
      let s1 = next read_line s (asks h line) in
      let t1 = next read_line t (asks j line) in
      let r = (outcome_of read_line s h line).reply in
      let u = (outcome_of read_line t j line).reply in
      let a = call_on speech label h s1 r [] lines in
      let b = call_on speech label j t1 u [] lines in
      let size : h ≤ length s1.sessions = omega (arith, le, asks_count read_line s h line) in
      let other_size : j ≤ length t1.sessions = omega (arith, lf, asks_count read_line t j line) in
      let rest = same_call s1 t1 one.log one.session size other_size r u one.reply_is lines in
      let within : is_within label h s1 ≡ is_within label j t1 = λ i. flows (all_tags (one.log i)) (one.session i).label label in
      subst (SameCall s t (call_goes speech (is_refusal r) (is_within label h s1) line r a))
      (λ i. call_goes speech (is_refusal (one.reply_is i)) (within i) line u b)
      (same_goes s t line r u one.reply_is one.log a b (is_refusal r) (is_within label h s1) rest)

-- ---- worlds whose own sessions are alike

abbrev pub Rises : World → Type 0
Rises w = are_numbers 0 (length w.state.sessions) w.seats ≡ true

pub record Near (v w : World) : Type 0 where
  pub thins : thin v.state v.seats ≡ thin w.state w.seats
  pub left : Rises v
  pub right : Rises w
  pub greetings : v.greetings ≡ w.greetings
  pub closures : v.closures ≡ w.closures

pub near_itself : (w : World) → Rises w → Near w w
near_itself w r = record { thins = refl; left = r; right = r; greetings = refl; closures = refl }

pub near_back : (v w : World) → Near v w → Near w v
near_back v w n = record { thins = sym n.thins; left = n.right; right = n.left; greetings = sym n.greetings; closures = sym n.closures }

pub near_on : (u v w : World) → Near u v → Near v w → Near u w
near_on u v w m n = record { thins = m.thins ∙ n.thins; left = m.left; right = n.right; greetings = m.greetings ∙ n.greetings; closures = m.closures ∙ n.closures }

-- two turns that tell the same, and lead to such worlds
pub record Same (v w : World) (a b : Turn) : Type 0 where
  pub told : a.told ≡ b.told
  pub near : Near (after_turn speech v a) (after_turn speech w b)

pick_same : (v w : World) (b : Bool) (x y x' y' : Turn) → Same v w x x' → Same v w y y' → Same v w (cond b x y) (cond b x' y')
pick_same v w true x y x' y' h k = h
pick_same v w false x y x' y' h k = k

-- ---- a step, with its memory

module _ (v w : World) (n : Near v w) where
  logs : v.state.log ≡ w.state.log
  logs = ap (λ (st : State). st.log) n.thins

  seats : (k : ℕ) → seated v k ≡ seated w k
  seats k = sym (thin_session v.state v.seats k) ∙ ap (λ st. session_of st k) n.thins ∙ thin_session w.state w.seats k

  counts : length v.seats ≡ length w.seats
  counts = sym (length-map v.seats (session_of v.state)) ∙ ap (λ (st : State). length st.sessions) n.thins ∙ length-map w.seats (session_of w.state)

  same_refusal : (k : ℕ) (f : Fault) → Same v w (refuses_only v k f) (refuses_only w k f)
  same_refusal k f = record { told = refl; near = n }

  plain_same : (k : ℕ) (line : List ℕ) → Same v w (asks_plain speech v k line) (asks_plain speech w k line)
  plain_same k line =
      let a = others_are_not_seen read_line v.state v.seats n.left k line in
      let b = others_are_not_seen read_line w.state w.seats n.right k line in
      let told = a.told ∙ ap (λ st. (outcome_of read_line st k line).reply) n.thins ∙ sym b.told in
      record {
        told = ap (tell k) told;
        near = record {
          thins = a.goes ∙ ap (λ st. next read_line st (asks k line)) n.thins ∙ sym b.goes;
          left = ap (λ m. are_numbers 0 m v.seats) (asks_count read_line v.state (number_at v.seats k) line) ∙ n.left;
          right = ap (λ m. are_numbers 0 m w.seats) (asks_count read_line w.state (number_at w.seats k) line) ∙ n.right;
          greetings = λ i. greeted k (hello_of (read_line line)) (is_done (told i)) ++ n.greetings i;
          closures = n.closures;
        };
      }

  create_same : (k : ℕ) (c d : Closure) → c ≡ d → (o : Option Fault) → Same v w (creates_by v k c o) (creates_by w k d o)
  create_same k c d e None =
      record { told = refl; near = record { thins = n.thins; left = n.left; right = n.right; greetings = n.greetings; closures = λ i. n.closures i ++ e i ∷ [] } }
  create_same k c d e (Some f) = same_refusal k f

  calls_same : (k : ℕ) (label : List ℕ) (c : Closure) (o : Option Fault) → Same v w (calls_by speech v k label c o) (calls_by speech w k label c o)
  calls_same k label c (Some f) = same_refusal k f
  calls_same k label c None = record {
    told = ap (tell k) call.told;
    near = record {
      thins = λ i. record { log = call.log i; sessions = sessions i };
      left = one.rise;
      right = two.rise;
      greetings = n.greetings;
      closures = n.closures;
    };
  } where
    h : ℕ
    h = length v.state.sessions + 1

    j : ℕ
    j = length w.state.sessions + 1

    s : State
    s = next read_line v.state opens

    t : State
    t = next read_line w.state opens

    lines : List (List ℕ)
    lines = call_lines v.state.log label c

    p : 0 < h
    p = omega arith

    q : 0 < j
    q = omega arith

    call : SameCall label h j p q s t (called speech v.state label c) (called speech w.state label c)
    call = subst (λ ls. SameCall label h j p q s t (called speech v.state label c) (call_on speech label j t reply.Opened [] ls)) (ap (λ log. call_lines log label c) logs)
        (same_call label h j p q s t logs (open_new v.state ∙ sym (open_new w.state)) (omega (arith, length-append v.state.sessions (new_session ∷ [])))
        (omega (arith, length-append w.state.sessions (new_session ∷ []))) reply.Opened reply.Opened refl lines)

    one : StillSeated v (run read_line s (asked_of h (called speech v.state label c).asked))
    one = called_seats v n.left (called speech v.state label c).asked

    two : StillSeated w (run read_line t (asked_of j (called speech w.state label c).asked))
    two = called_seats w n.right (called speech w.state label c).asked

    sessions : map (session_of (run read_line v.state (call_steps speech v.state label c))) v.seats ≡ map (session_of (run read_line w.state (call_steps speech w.state label c))) w.seats
    sessions = one.same ∙ ap (λ (st : State). st.sessions) n.thins ∙ sym two.same

  form_same : (k : ℕ) (line : List ℕ) (f : ClosureLine) → Same v w (asks_form speech v k line f) (asks_form speech w k line f)
  form_same k line plain = plain_same k line
  form_same k line (faulty f) =
      let there = ap (λ (s : Session). s.is_open) (seats k) in
      record { told = λ i. tell k (reply.Refused (cond (there i) f fault.NoSession)); near = n }
  form_same k line (creates name statements) =
      let c : Closure = record { name = name; owner = greeting_in v.greetings k; statements = statements } in
      let d : Closure = record { name = name; owner = greeting_in w.greetings k; statements = statements } in
      let e : c ≡ d = λ i. record { name = name; owner = greeting_in (n.greetings i) k; statements = statements } in
      let why = create_fault (is_empty (seated v k).label) (is_some (closure_named v.closures name)) (session_fault (seated v k)) in
      let why_is : why ≡ create_fault (is_empty (seated w k).label) (is_some (closure_named w.closures name)) (session_fault (seated w k)) =
      λ i. create_fault (is_empty (seats k i).label) (is_some (closure_named (n.closures i) name)) (session_fault (seats k i)) in
      subst (λ o. Same v w (creates_by v k c why) (creates_by w k d o)) why_is (create_same k c d e why)
  form_same k line (calls name) =
      let label = (seated v k).label in
      let c = or_none (closure_named v.closures name) in
      let why = call_fault (is_some (closure_named v.closures name)) (session_fault (seated v k)) in
      let turn_is : calls_by speech w k label c why
      ≡ calls_by speech w k (seated w k).label (or_none (closure_named w.closures name)) (call_fault (is_some (closure_named w.closures name)) (session_fault (seated w k))) =
      λ i. calls_by speech w k (seats k i).label (or_none (closure_named (n.closures i) name)) (call_fault (is_some (closure_named (n.closures i) name)) (session_fault (seats k i))) in
      subst (Same v w (calls_by speech v k label c why)) turn_is (calls_same k label c why)

  pub turn_same : (step : Step) → Same v w (turn speech v step) (turn speech w step)
  turn_same opens = record {
    told = ap (λ m. tell (m + 1) reply.Opened) counts;
    near = record {
      thins = open_same read_line v.state v.seats n.left ∙ ap (λ st. next read_line st opens) n.thins ∙ sym (open_same read_line w.state w.seats n.right);
      left = opened_rise v n.left;
      right = opened_rise w n.right;
      greetings = n.greetings;
      closures = n.closures;
    };
  } where
    opened_rise : (u : World) → Rises u → are_numbers 0 (length (next read_line u.state opens).sessions) (u.seats ++ (length u.state.sessions + 1) ∷ []) ≡ true
    opened_rise u r =
        ap (λ m. are_numbers 0 m (u.seats ++ (length u.state.sessions + 1) ∷ [])) (length-append u.state.sessions (new_session ∷ []))
        ∙ numbers_push 0 (length u.state.sessions) (length u.state.sessions + 1) u.seats r (omega arith)
  turn_same (asks k line) = form_same k line (closure_form line)
  turn_same (refused k) = same_refusal k fault.OutOfMemory
  turn_same long = same_refusal 0 fault.TooLong
  turn_same stray = same_refusal 0 (fault.Syntax 0)
  turn_same (leaves k) = record { told = refl; near = n }
