-- What a script with closures is told is framed: no line of a reply holds a newline.
use Rattle.std.proofs.Common.{◌≡◌, ℕ, zero, suc, ◌+◌, ◌-◌, Bool, true, false, List, [], ◌∷◌, ◌++◌, length, take, drop, refl, sym, ap, subst, ◌∙◌, cond, ◌&&◌, Some, None, Ok, Err, Option, Result}
use Rattle.std.specs.Prelude.{All, is_some, bytes_eq, slice_range}
use Rattle.std.specs.List.{list_all}
use Rattle.std.proofs.lemmas.Bool.{and_parts}
use Rattle.std.proofs.lemmas.List.Elements.{All-nil, All-head, All-tail, All-push}
use Rattle.ifdb_label.specs.Tags.{are_made}
use Rattle.ifdb_lex.specs.declared.token.Token.{Token}
use Rattle.ifdb_lex.specs.Line.{is_blank, without_return}
use Rattle.ifdb_syntax.specs.declared.request.Request.{Request}
use Rattle.ifdb_wire.specs.declared.fault.Fault.{Fault}
use Rattle.ifdb_wire.specs.declared.fault.Fault.TheVariants as fault
use Rattle.ifdb_wire.specs.declared.reply.Reply.{Reply}
use Rattle.ifdb_wire.specs.declared.reply.Reply.TheVariants as reply
use Rattle.ifdb_catalog.proofs.Tests.{both_of}
use Rattle.ifdb_model.specs.Log.{Entry, all_tags}
use Rattle.ifdb_model.specs.Step.{is_empty}
use Rattle.ifdb_model.specs.Run.{State, opening, session_of, Step, opens, asks, refused, long, stray, leaves, outcome_of, next, run, Told, tell}
use Rattle.ifdb_model.specs.Script.{steps_of}
use Rattle.ifdb_laws.specs.Bytes.{is_line}
use Rattle.ifdb_laws.proofs.two_worlds.Sound.{opening_sound, run_sound, session_sound}
use Rattle.ifdb_db.specs.Reading.{read_line}
use Rattle.ifdb_framing.specs.Framing.{is_framed, is_of_line}
use Rattle.ifdb_framing.proofs.Lists.{pick, all_append, all_take, all_drop}
use Rattle.ifdb_framing.proofs.Lines.{is_no_newline}
use Rattle.ifdb_framing.proofs.Clean.{reads_clean, is_clean_request, is_framed_reply}
use Rattle.ifdb_framing.proofs.Outcomes.{refused_framed}
use Rattle.ifdb_framing.proofs.Lexed.{line_clean, return_line}
use Rattle.ifdb_framing.proofs.Runs.{IsClean, opening_clean, open_clean, leave_clean, asked_on, outcome_framed, steps_are_of_lines}
use Rattle.ifdb_closure.specs.Numbers.{number_at}
use Rattle.ifdb_closure.specs.Closures.{Greeting, Closure, ClosureLine, plain, faulty, creates, calls, hello_line, label_line, begin_line, commit_line, call_lines, is_refusal, is_within, Called, call_lacks, call_ends, call_goes, lacks_first, flags_behind, call_on, called_with, called, closure_named, or_none, World, start, seated, greeting_in, Turn, refuses_only, asks_plain, create_fault, call_fault, session_fault, creates_by, calls_by, asks_form, asked_of, turn, after_turn}
use Rattle.ifdb_closure.specs.Lacking.{Memory, enough, lacks, lacks_at, lacks_only, call_cut, lacking_line, lacking_at, turn_with, told_with}
use Rattle.ifdb_closure.specs.Laws.{IsHeard}
use Rattle.ifdb_closure.specs.Forms.{is_semicolon, last_statement, statements_from, closure_form}
use Rattle.ifdb_closure.specs.Speaking.{speech}
use Rattle.ifdb_closure.proofs.Cuts.{cut_run}
use Rattle.ifdb_closure.proofs.FormParts.{OfForm, line_parts}
use Rattle.ifdb_closure.proofs.ReadingBack.{lines_read_back, hellos_read_back}
use Rattle.ifdb_closure.proofs.ScriptBounds.{Fit, start_fit, turn_fit, with_fit, after_fit}
use Rattle.ifdb_closure.proofs.Worlds.{named_heard}

-- ---- the lines of a call

hello_clean : (g : Greeting) → IsHeard read_line g → reads_clean (read_line (hello_line g)) ≡ true
hello_clean g heard = by (read_line (hello_line g)) refl where
  by : (o : Result Request Fault) → read_line (hello_line g) ≡ o → reads_clean o ≡ true
  by (Err f) e = refl
  by (Ok r) e = ap is_clean_request (hellos_read_back g heard r e)

label_clean : (steps : List Step) (label : List ℕ) → let log = (run read_line opening steps).log in are_made (length (all_tags log)) label ≡ true
    → reads_clean (read_line (label_line log label)) ≡ true
label_clean steps label made = by (read_line (label_line log label)) refl where
  log : List Entry
  log = (run read_line opening steps).log

  by : (o : Result Request Fault) → read_line (label_line log label) ≡ o → reads_clean o ≡ true
  by (Err f) e = refl
  by (Ok r) e = ap is_clean_request (lines_read_back.label steps label made r e)

-- each of these lines is read as something clean
abbrev AllRead : List (List ℕ) → Type 0
AllRead lines = list_all (λ l. reads_clean (read_line l)) lines ≡ true

lines_read : (lines : List (List ℕ)) → list_all is_line lines ≡ true → AllRead lines
lines_read [] h = refl
lines_read (line ∷ lines) h =
    let parts = and_parts (is_line line) (list_all is_line lines) h in
    both_of (reads_clean (read_line line)) (list_all (λ l. reads_clean (read_line l)) lines) (line_clean line parts.0) (lines_read lines parts.1)

module _ (label : List ℕ) (h : ℕ) where
  record FramedCall (st : State) (c : Called) : Type 0 where
    told : is_framed_reply c.told ≡ true
    state : IsClean (run read_line st (asked_of h c.asked))

  lacks_framed : (st : State) → IsClean st → (b : Bool) (c : Called) → FramedCall st c → FramedCall st (cond b call_lacks c)
  lacks_framed st v true c f = record { told = refused_framed fault.OutOfMemory; state = leave_clean read_line st h v }
  lacks_framed st v false c f = f

  ends_framed : (st : State) → IsClean st → (last : Reply) → is_framed_reply last ≡ true → FramedCall st (call_ends speech h st last)
  ends_framed st v last good =
      let reads = line_clean commit_line refl in
      let r = (outcome_of read_line st h commit_line).reply in
      record {
        told = pick is_framed_reply (is_refusal r) r last (outcome_framed read_line st v h commit_line reads) good;
        state = leave_clean read_line (next read_line st (asks h commit_line)) h (asked_on read_line st v h commit_line reads);
      }

  goes_framed : (st : State) (line : List ℕ) (r : Reply) (rest : Called) (c d : Bool) → is_framed_reply r ≡ true → IsClean (next read_line st (asks h line))
      → FramedCall (next read_line st (asks h line)) rest → FramedCall st (call_goes speech c d line r rest)
  goes_framed st line r rest true d good v f = record { told = good; state = leave_clean read_line (next read_line st (asks h line)) h v }
  goes_framed st line r rest false false good v f =
      record { told = refused_framed fault.ClosureLabel; state = leave_clean read_line (next read_line st (asks h line)) h v }
  goes_framed st line r rest false true good v f = record { told = f.told; state = f.state }

  call_framed : (st : State) → IsClean st → (last : Reply) → is_framed_reply last ≡ true → (flags : List Bool) (lines : List (List ℕ)) → AllRead lines
      → FramedCall st (call_on speech label h st last flags lines)
  call_framed st v last good flags [] all = lacks_framed st v (lacks_first flags) (call_ends speech h st last) (ends_framed st v last good)
  call_framed st v last good flags (line ∷ lines) all =
      let parts = and_parts (reads_clean (read_line line)) (list_all (λ l. reads_clean (read_line l)) lines) all in
      let more = next read_line st (asks h line) in
      let r = (outcome_of read_line st h line).reply in
      let rest = call_on speech label h more r (flags_behind flags) lines in
      let framed = outcome_framed read_line st v h line parts.0 in
      let later = asked_on read_line st v h line parts.0 in
      lacks_framed st v (lacks_first flags) (call_goes speech (is_refusal r) (is_within label h more) line r rest)
      (goes_framed st line r rest (is_refusal r) (is_within label h more) framed later (call_framed more later r framed (flags_behind flags) lines parts.1))

-- ---- statements

range_line : (line : List ℕ) (start end : ℕ) → is_line line ≡ true → is_line (slice_range line start end) ≡ true
range_line line start end h = all_take is_no_newline (end - start) (drop start line) (all_drop is_no_newline start line h)

none_lines : (b : Bool) (text : List ℕ) → is_line text ≡ true → list_all is_line (cond b [] (text ∷ [])) ≡ true
none_lines true text h = refl
none_lines false text h = both_of (is_line text) true h refl

statements_lines : (line : List ℕ) → is_line line ≡ true → (behind : Bool) (at : ℕ) (tokens : List Token) → list_all is_line (statements_from line behind at tokens) ≡ true
statements_lines line h behind at [] = none_lines (behind && list_all is_blank (drop at line)) (drop at line) (all_drop is_no_newline at line h)
statements_lines line h behind at (token ∷ tokens) =
    pick (list_all is_line) (is_semicolon token.kind) (slice_range line at token.start ∷ statements_from line true token.end tokens) (statements_from line behind at tokens)
    (both_of (is_line (slice_range line at token.start)) (list_all is_line (statements_from line true token.end tokens)) (range_line line at token.start h) (statements_lines line h true token.end tokens))
    (statements_lines line h behind at tokens)

-- ---- a script's steps

abbrev AreLines : Closure → Type 0
AreLines c = list_all is_line c.statements ≡ true

record CleanWorld (w : World) : Type 0 where
  fit : Fit w
  state : IsClean w.state
  statements : All AreLines w.closures

record CleanTurn (w : World) (t : Turn) : Type 0 where
  told : list_all is_framed t.told ≡ true
  state : IsClean (run read_line w.state t.steps)
  statements : All AreLines t.closures

named_lines : (closures : List Closure) (name : List ℕ) → All AreLines closures → AreLines (or_none (closure_named closures name))
named_lines [] name h = refl
named_lines (c ∷ closures) name h = by (bytes_eq c.name name) (named_lines closures name (All-tail AreLines c closures h)) where
  by : (b : Bool) → AreLines (or_none (closure_named closures name)) → AreLines (or_none (cond b (Some c) (closure_named closures name)))
  by true rest = All-head AreLines c closures h
  by false rest = rest

module _ (w : World) (v : CleanWorld w) where
  refusing : (n : ℕ) (f : Fault) → CleanTurn w (refuses_only w n f)
  refusing n f = record { told = both_of (is_framed_reply (reply.Refused f)) true (refused_framed f) refl; state = v.state; statements = v.statements }

  plain_turn : (n : ℕ) (line : List ℕ) → is_line line ≡ true → CleanTurn w (asks_plain speech w n line)
  plain_turn n line h =
      let k = number_at w.seats n in
      let reads = line_clean line h in
      record {
        told = both_of (is_framed_reply (outcome_of read_line w.state k line).reply) true (outcome_framed read_line w.state v.state k line reads) refl;
        state = asked_on read_line w.state v.state k line reads;
        statements = v.statements;
      }

  create_turn : (n : ℕ) (c : Closure) → AreLines c → (o : Option Fault) → CleanTurn w (creates_by w n c o)
  create_turn n c h None = record { told = refl; state = v.state; statements = All-push AreLines w.closures c v.statements h }
  create_turn n c h (Some f) = refusing n f

  module _ (n : ℕ) (c : Closure) (lines : AreLines c) (heard : IsHeard read_line c.owner) where
    abbrev label : List ℕ
    label = (seated w n).label

    abbrev h : ℕ
    h = length w.state.sessions + 1

    abbrev opened : State
    opened = next read_line w.state opens

    all_read : AllRead (call_lines w.state.log label c)
    all_read =
        let st = run read_line opening v.fit.past in
        let sound = run_sound read_line opening v.fit.past opening_sound in
        let made : are_made (length (all_tags st.log)) label ≡ true =
        (λ i. are_made (length (all_tags st.log)) (session_of (v.fit.ran i) (number_at w.seats n)).label) ∙ (session_sound st sound (number_at w.seats n)).label_made in
        let two : reads_clean (read_line (label_line w.state.log label)) ≡ true =
        (λ i. reads_clean (read_line (label_line (v.fit.ran i).log label))) ∙ label_clean v.fit.past label made in
        let rest = both_of (reads_clean (read_line begin_line)) (list_all (λ l. reads_clean (read_line l)) c.statements) (line_clean begin_line refl) (lines_read c.statements lines) in
        both_of (reads_clean (read_line (hello_line c.owner))) _ (hello_clean c.owner heard)
        (both_of (reads_clean (read_line (label_line w.state.log label))) _ two rest)

    with_flags : (flags : List Bool) → FramedCall label h opened (called_with speech w.state label c flags)
    with_flags flags = call_framed label h opened (open_clean read_line w.state v.state) reply.Opened refl flags (call_lines w.state.log label c) all_read

    calls_turn : (o : Option Fault) → CleanTurn w (calls_by speech w n label c o)
    calls_turn None =
        let f = with_flags [] in
        record { told = both_of (is_framed_reply (called speech w.state label c).told) true f.told refl; state = f.state; statements = v.statements }
    calls_turn (Some f) = refusing n f

    cut_turn : (i : ℕ) → CleanTurn w (call_cut speech w n label c i)
    cut_turn zero = record { told = both_of (is_framed_reply (reply.Refused fault.OutOfMemory)) true (refused_framed fault.OutOfMemory) refl; state = v.state; statements = v.statements }
    cut_turn (suc i) =
        let cut = called_with speech w.state label c (lacks_only i) in
        let f = with_flags (lacks_only i) in
        record {
          told = both_of (is_framed_reply cut.told) true f.told refl;
          state = subst IsClean (sym (cut_run read_line h opened cut.asked cut.lacked)) f.state;
          statements = v.statements;
        }

  abbrev OfLines : ClosureLine → Type 0
  OfLines f = OfForm (λ statements. list_all is_line statements ≡ true) (λ f. Unit {0}) f

  owner_heard : (name : List ℕ) → IsHeard read_line (or_none (closure_named w.closures name)).owner
  owner_heard name = named_heard read_line w.closures name (λ k d lt. (v.fit.readable k d lt).owner)

  form_turn : (n : ℕ) (line : List ℕ) → is_line line ≡ true → (f : ClosureLine) → OfLines f → CleanTurn w (asks_form speech w n line f)
  form_turn n line h plain k = plain_turn n line h
  form_turn n line h (faulty f) k = refusing n (cond (seated w n).is_open f fault.NoSession)
  form_turn n line h (creates name statements) k =
      create_turn n (record { name = name; owner = greeting_in w.greetings n; statements = statements }) k
      (create_fault (is_empty (seated w n).label) (is_some (closure_named w.closures name)) (session_fault (seated w n)))
  form_turn n line h (calls name) k =
      calls_turn n (or_none (closure_named w.closures name)) (named_lines w.closures name v.statements) (owner_heard name)
      (call_fault (is_some (closure_named w.closures name)) (session_fault (seated w n)))

  line_form : (line : List ℕ) → is_line line ≡ true → OfLines (closure_form line)
  line_form line h =
      line_parts (λ statements. list_all is_line statements ≡ true) (λ f. Unit {0}) tt tt line
      (λ at tokens e. statements_lines (without_return line) (return_line line h) false at tokens)

  asks_turn : (n : ℕ) (line : List ℕ) → is_line line ≡ true → CleanTurn w (turn speech w (asks n line))
  asks_turn n line h = form_turn n line h (closure_form line) (line_form line h)

  same_turn : (told : List Told) → list_all is_framed told ≡ true → CleanTurn w (record { steps = []; told = told; seats = w.seats; greetings = w.greetings; closures = w.closures })
  same_turn told h = record { told = h; state = v.state; statements = v.statements }

  step_turn : (step : Step) → is_of_line step ≡ true → CleanTurn w (turn speech w step)
  step_turn opens h = record { told = refl; state = open_clean read_line w.state v.state; statements = v.statements }
  step_turn (asks n line) h = asks_turn n line h
  step_turn (refused n) h = refusing n fault.OutOfMemory
  step_turn long h = refusing 0 fault.TooLong
  step_turn stray h = refusing 0 (fault.Syntax 0)
  step_turn (leaves n) h = same_turn [] refl

  lacking_turn : (n : ℕ) (f : ClosureLine) → CleanTurn w (lacking_line w n f)
  lacking_turn n plain = record { told = both_of (is_framed_reply (reply.Refused fault.OutOfMemory)) true (refused_framed fault.OutOfMemory) refl; state = v.state; statements = v.statements }
  lacking_turn n (faulty f) = refusing n fault.OutOfMemory
  lacking_turn n (creates name statements) = refusing n fault.OutOfMemory
  lacking_turn n (calls name) = refusing n fault.OutOfMemory

  lacking_at_turn : (i n : ℕ) (line : List ℕ) → is_line line ≡ true → (f : ClosureLine) → CleanTurn w (lacking_at speech w i n line f)
  lacking_at_turn i n line h plain = asks_turn n line h
  lacking_at_turn i n line h (faulty f) = asks_turn n line h
  lacking_at_turn i n line h (creates name statements) = asks_turn n line h
  lacking_at_turn i n line h (calls name) = by (is_some (call_fault (is_some (closure_named w.closures name)) (session_fault (seated w n)))) where
    c : Closure
    c = or_none (closure_named w.closures name)

    by : (b : Bool) → CleanTurn w (cond b (turn speech w (asks n line)) (call_cut speech w n (seated w n).label c i))
    by true = asks_turn n line h
    by false = cut_turn n c (named_lines w.closures name v.statements) (owner_heard name) i

  memory_turn : (m : Memory) (step : Step) → is_of_line step ≡ true → CleanTurn w (turn_with speech w m step)
  memory_turn enough step h = step_turn step h
  memory_turn lacks opens h = record { told = both_of (is_framed_reply (reply.Refused fault.OutOfMemory)) true (refused_framed fault.OutOfMemory) refl; state = v.state; statements = v.statements }
  memory_turn lacks (asks n line) h = lacking_turn n (closure_form line)
  memory_turn lacks (refused n) h = step_turn (refused n) h
  memory_turn lacks long h = step_turn long h
  memory_turn lacks stray h = step_turn stray h
  memory_turn lacks (leaves n) h = step_turn (leaves n) h
  memory_turn (lacks_at i) opens h = step_turn opens h
  memory_turn (lacks_at i) (asks n line) h = lacking_at_turn i n line h (closure_form line)
  memory_turn (lacks_at i) (refused n) h = step_turn (refused n) h
  memory_turn (lacks_at i) long h = step_turn long h
  memory_turn (lacks_at i) stray h = step_turn stray h
  memory_turn (lacks_at i) (leaves n) h = step_turn (leaves n) h

  after_clean : (t : Turn) → Fit (after_turn speech w t) → CleanTurn w t → CleanWorld (after_turn speech w t)
  after_clean t fit c = record { fit = fit; state = c.state; statements = c.statements }

told_framed : (w : World) → CleanWorld w → (memory : List Memory) (steps : List Step) → list_all is_of_line steps ≡ true → list_all is_framed (told_with speech w memory steps) ≡ true
told_framed w v memory [] h = refl
told_framed w v [] (step ∷ steps) h =
    let parts = and_parts (is_of_line step) (list_all is_of_line steps) h in
    let t = turn speech w step in
    let c = step_turn w v step parts.0 in
    all_append is_framed t.told (told_with speech (after_turn speech w t) [] steps) c.told
    (told_framed (after_turn speech w t) (after_clean w v t (after_fit w v.fit t (turn_fit w v.fit step)) c) [] steps parts.1)
told_framed w v (m ∷ memory) (step ∷ steps) h =
    let parts = and_parts (is_of_line step) (list_all is_of_line steps) h in
    let t = turn_with speech w m step in
    let c = memory_turn w v m step parts.0 in
    all_append is_framed t.told (told_with speech (after_turn speech w t) memory steps) c.told
    (told_framed (after_turn speech w t) (after_clean w v t (after_fit w v.fit t (with_fit w v.fit m step)) c) memory steps parts.1)

start_clean : CleanWorld start
start_clean = record { fit = start_fit; state = opening_clean; statements = All-nil AreLines }

-- whatever bytes a script has, and at whichever of its steps memory is refused
pub script_framed : (input : List ℕ) (memory : List Memory) → list_all is_framed (told_with speech start memory (steps_of input)) ≡ true
script_framed input memory = told_framed start start_clean memory (steps_of input) (steps_are_of_lines input)
