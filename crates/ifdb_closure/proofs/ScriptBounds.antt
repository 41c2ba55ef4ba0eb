-- The closures of a script are such as its calls need: read as statements, and their owners' HELLOs as HELLOs.
use Rattle.std.proofs.Common.{◌≡◌, ℕ, zero, suc, ◌+◌, Bool, true, false, List, [], ◌∷◌, ◌++◌, length, refl, sym, ap, subst, ◌∙◌, cond, ◌&&◌, ◌||◌, Some, None, Ok, Err, Option, Result, inr}
use Rattle.std.specs.Prelude.{All, is_some, not, nat_lt, bytes_eq}
use Rattle.std.specs.List.{list_all, list_any}
use Rattle.std.specs.Str.{chars, is_utf8}
use Rattle.std.specs.Str.Lossy.{utf8_valid_len}
use lib.Utf8.{encode}
use Rattle.std.proofs.lemmas.Bool.{false≢true}
use Rattle.std.proofs.lemmas.List.Elements.{All-nil, All-head, All-tail, All-push}
use Rattle.ifdb_label.specs.Tags.{are_made}
use Rattle.ifdb_lex.specs.Line.{without_return}
use Rattle.ifdb_syntax.specs.declared.request.Request.{Request}
use Rattle.ifdb_syntax.specs.declared.request.Request.TheVariants as request
use Rattle.ifdb_parse.specs.declared.fault.ParseFault.{ParseFault}
use Rattle.ifdb_parse.specs.declared.fault.ParseFault.TheVariants as unread
use Rattle.ifdb_parse.specs.Lexemes.{reserved}
use Rattle.ifdb_parse.specs.Parsed.{parsed}
use Rattle.ifdb_parse.specs.rules.Shared.{token as token_parser}
use Rattle.ifdb_parse.specs.rules.Requests.{word as word_parser, session as session_parser, request as request_parser, line as line_parser, whole}
use Rattle.ifdb_wire.specs.declared.fault.Fault.{Fault}
use Rattle.ifdb_wire.specs.declared.reply.Reply.{Reply}
use Rattle.ifdb_model.specs.Log.{all_tags}
use Rattle.ifdb_model.specs.Step.{is_empty, form_of}
use Rattle.ifdb_model.specs.Run.{State, opening, session_of, Step, opens, asks, refused, long, stray, leaves, outcome_of, next, run, tell}
use Rattle.ifdb_model.proofs.Runs.{run-append}
use Rattle.ifdb_laws.proofs.two_worlds.Sound.{opening_sound, run_sound, session_sound}
use Rattle.ifdb_db.specs.Reading.{read_line, request_or_fault}
use Rattle.ifdb_closure.specs.Numbers.{number_at}
use Rattle.ifdb_closure.specs.Closures.{Closure, ClosureLine, plain, faulty, creates, calls, begin_line, commit_line, closure_named, or_none, is_refusal, called_with, called, World, start, seated, greeting_in, Turn, is_done, create_fault, call_fault, session_fault, creates_by, calls_by, asks_form, turn, after_turn}
use Rattle.ifdb_closure.specs.Lacking.{Memory, enough, lacks, lacks_at, lacks_only, call_steps_with, call_cut, lacking_at, lacking_line, turn_with}
use Rattle.ifdb_closure.specs.Laws.{IsHeard}
use Rattle.ifdb_closure.specs.Bounds.{is_inner_form, is_inner, IsReadable}
use Rattle.ifdb_closure.specs.Forms.{is_misread, is_beyond, statements_from, statements_fault, closure_form}
use Rattle.ifdb_closure.specs.Speaking.{speech}
use Rattle.ifdb_closure.specs.ScriptBounds.{world_with, are_refused, ScriptCallsCommitNothing, ScriptCallsAreTheOwners}
use Rattle.ifdb_closure.proofs.Cuts.{cut_run}
use Rattle.ifdb_closure.proofs.FormParts.{OfForm, line_parts}
use Rattle.ifdb_closure.proofs.Owners.{calls_are_the_owners}
use Rattle.ifdb_closure.proofs.ReadingBack.{lines_read_back, hellos_read_back}
use Rattle.ifdb_closure.proofs.Refused.{refused_calls_commit_nothing}
use Rattle.ifdb_closure.proofs.Worlds.{read_heard}

-- ---- BEGIN and COMMIT

begin_read : read_line begin_line ≡ Ok request.Begin
unfolding parsed reserved token_parser word_parser session_parser request_parser line_parser whole utf8_valid_len is_utf8 chars encode
begin_read = refl

commit_read : read_line commit_line ≡ Ok request.Commit
unfolding parsed reserved token_parser word_parser session_parser request_parser line_parser whole utf8_valid_len is_utf8 chars encode
commit_read = refl

-- ---- statements

inner_of : (p : Result Request ParseFault) → is_misread p ≡ false → is_beyond p ≡ false → is_inner (request_or_fault p) ≡ true
inner_of (Ok r) m b = by (is_inner_form (form_of r)) m where
  by : (c : Bool) → not c ≡ false → c ≡ true
  by true e = refl
  by false e = absurd (false≢true (sym e))
inner_of (Err (unread.Syntax at)) m b = absurd (false≢true (sym m))
inner_of (Err unread.Limit) m b = absurd (false≢true (sym b))
inner_of (Err unread.OutOfMemory) m b = refl

none_of : (c d : Bool) → (c || d) ≡ false → (c ≡ false) × (d ≡ false)
none_of true d e = absurd (false≢true (sym e))
none_of false d e = (refl, e)

all_inner : (statements : List (List ℕ)) → list_any (λ s. is_misread (parsed s)) statements ≡ false → list_any (λ s. is_beyond (parsed s)) statements ≡ false
    → list_all (λ s. is_inner (read_line s)) statements ≡ true
all_inner [] m b = refl
all_inner (s ∷ statements) m b =
    let ms = none_of (is_misread (parsed s)) (list_any (λ x. is_misread (parsed x)) statements) m in
    let bs = none_of (is_beyond (parsed s)) (list_any (λ x. is_beyond (parsed x)) statements) b in
    (λ i. inner_of (parsed s) ms.0 bs.0 i && list_all (λ x. is_inner (read_line x)) statements) ∙ all_inner statements ms.1 bs.1

faultless : (statements : List (List ℕ)) → statements_fault statements ≡ None → list_all (λ s. is_inner (read_line s)) statements ≡ true
faultless statements e =
    by (list_any (λ s. is_misread (parsed s)) statements) refl (nat_lt 64 (length statements) || list_any (λ s. is_beyond (parsed s)) statements) refl e where
      by : (m : Bool) → list_any (λ s. is_misread (parsed s)) statements ≡ m → (b : Bool) → (nat_lt 64 (length statements) || list_any (λ s. is_beyond (parsed s)) statements) ≡ b
          → cond m (Some (Rattle.ifdb_wire.specs.declared.fault.Fault.TheVariants.Syntax 0)) (cond b (Some Rattle.ifdb_wire.specs.declared.fault.Fault.TheVariants.Limit) None) ≡ None
          → list_all (λ s. is_inner (read_line s)) statements ≡ true
      by true me b be h = cc
      by false me true be h = cc
      by false me false be h = all_inner statements me (none_of (nat_lt 64 (length statements)) (list_any (λ s. is_beyond (parsed s)) statements) be).1

-- what a line that is CREATE CLOSURE enters
line_fit : (line : List ℕ) → OfForm (λ statements. list_all (λ s. is_inner (read_line s)) statements ≡ true) (λ f. Unit {0}) (closure_form line)
line_fit line =
    line_parts (λ statements. list_all (λ s. is_inner (read_line s)) statements ≡ true) (λ f. Unit {0}) tt tt line
    (λ at tokens e. faultless (statements_from (without_return line) false at tokens) e)

-- ---- in each world of a script

pub record Fit (w : World) : Type 0 where
  pub heard : (m : ℕ) → IsHeard read_line (greeting_in w.greetings m)
  pub readable : All (IsReadable read_line) w.closures
  pub past : List Step
  pub ran : w.state ≡ run read_line opening past

-- what stands beside the room is fit behind a turn
pub record StillFit (t : Turn) : Type 0 where
  pub heard : (m : ℕ) → IsHeard read_line (greeting_in t.greetings m)
  pub readable : All (IsReadable read_line) t.closures

module _ (w : World) (g : Fit w) where
  form_fit : (n : ℕ) (line : List ℕ) (f : ClosureLine) → OfForm (λ statements. list_all (λ s. is_inner (read_line s)) statements ≡ true) (λ f. Unit {0}) f → StillFit (asks_form speech w n line f)
  form_fit n line plain h = record {
    heard = λ m. read_heard read_line line n m (is_done (outcome_of read_line w.state (number_at w.seats n) line).reply) w.greetings (g.heard m) (read_line line) refl;
    readable = g.readable;
  }
  form_fit n line (faulty f) h = record { heard = g.heard; readable = g.readable }
  form_fit n line (creates name statements) h =
      by (create_fault (is_empty (seated w n).label) (is_some (closure_named w.closures name)) (session_fault (seated w n))) where
        c : Closure
        c = record { name = name; owner = greeting_in w.greetings n; statements = statements }

        by : (o : Option Fault) → StillFit (creates_by w n c o)
        by None = record {
          heard = g.heard;
          readable = All-push (IsReadable read_line) w.closures c g.readable (record { begin = begin_read; commit = commit_read; statements = h; owner = g.heard n });
        }
        by (Some f) = record { heard = g.heard; readable = g.readable }
  form_fit n line (calls name) h = by (call_fault (is_some (closure_named w.closures name)) (session_fault (seated w n))) where
    by : (o : Option Fault) → StillFit (calls_by speech w n (seated w n).label (or_none (closure_named w.closures name)) o)
    by None = record { heard = g.heard; readable = g.readable }
    by (Some f) = record { heard = g.heard; readable = g.readable }

  pub turn_fit : (step : Step) → StillFit (turn speech w step)
  turn_fit opens = record { heard = g.heard; readable = g.readable }
  turn_fit (asks n line) = form_fit n line (closure_form line) (line_fit line)
  turn_fit (refused n) = record { heard = g.heard; readable = g.readable }
  turn_fit long = record { heard = g.heard; readable = g.readable }
  turn_fit stray = record { heard = g.heard; readable = g.readable }
  turn_fit (leaves n) = record { heard = g.heard; readable = g.readable }

  lack_fit : (n i : ℕ) (line : List ℕ) (f : ClosureLine) → StillFit (lacking_line w n f) × StillFit (lacking_at speech w i n line f)
  lack_fit n i line plain = (record { heard = g.heard; readable = g.readable }, turn_fit (asks n line))
  lack_fit n i line (faulty f) = (record { heard = g.heard; readable = g.readable }, turn_fit (asks n line))
  lack_fit n i line (creates name statements) = (record { heard = g.heard; readable = g.readable }, turn_fit (asks n line))
  lack_fit n i line (calls name) =
      (record { heard = g.heard; readable = g.readable }, by (is_some (call_fault (is_some (closure_named w.closures name)) (session_fault (seated w n))))) where
        cut : (i : ℕ) → StillFit (call_cut speech w n (seated w n).label (or_none (closure_named w.closures name)) i)
        cut zero = record { heard = g.heard; readable = g.readable }
        cut (suc i) = record { heard = g.heard; readable = g.readable }

        by : (b : Bool) → StillFit (cond b (turn speech w (asks n line)) (call_cut speech w n (seated w n).label (or_none (closure_named w.closures name)) i))
        by true = turn_fit (asks n line)
        by false = cut i

  pub with_fit : (m : Memory) (step : Step) → StillFit (turn_with speech w m step)
  with_fit enough step = turn_fit step
  with_fit lacks opens = record { heard = g.heard; readable = g.readable }
  with_fit lacks (asks n line) = (lack_fit n 0 line (closure_form line)).0
  with_fit lacks (refused n) = turn_fit (refused n)
  with_fit lacks long = turn_fit long
  with_fit lacks stray = turn_fit stray
  with_fit lacks (leaves n) = turn_fit (leaves n)
  with_fit (lacks_at i) opens = turn_fit opens
  with_fit (lacks_at i) (asks n line) = (lack_fit n i line (closure_form line)).1
  with_fit (lacks_at i) (refused n) = turn_fit (refused n)
  with_fit (lacks_at i) long = turn_fit long
  with_fit (lacks_at i) stray = turn_fit stray
  with_fit (lacks_at i) (leaves n) = turn_fit (leaves n)

  pub after_fit : (t : Turn) → StillFit t → Fit (after_turn speech w t)
  after_fit t s = record {
    heard = s.heard;
    readable = s.readable;
    past = g.past ++ t.steps;
    ran = ap (λ st. run read_line st t.steps) g.ran ∙ sym (run-append read_line opening g.past t.steps);
  }

world_fit : (w : World) → Fit w → (memory : List Memory) (steps : List Step) → Fit (world_with w memory steps)
world_fit w g memory [] = g
world_fit w g [] (step ∷ steps) = world_fit (after_turn speech w (turn speech w step)) (after_fit w g (turn speech w step) (turn_fit w g step)) [] steps
world_fit w g (m ∷ memory) (step ∷ steps) =
    world_fit (after_turn speech w (turn_with speech w m step)) (after_fit w g (turn_with speech w m step) (with_fit w g m step)) memory steps

pub start_fit : Fit start
start_fit = record { heard = λ m. inr refl; readable = All-nil (IsReadable read_line); past = []; ran = refl }

pub named_fit : (closures : List Closure) (name : List ℕ) → All (IsReadable read_line) closures → is_some (closure_named closures name) ≡ true
    → IsReadable read_line (or_none (closure_named closures name))
named_fit [] name h e = absurd (false≢true e)
named_fit (c ∷ closures) name h e = by (bytes_eq c.name name) e (named_fit closures name (All-tail (IsReadable read_line) c closures h)) where
  by : (b : Bool) → is_some (cond b (Some c) (closure_named closures name)) ≡ true
      → (is_some (closure_named closures name) ≡ true → IsReadable read_line (or_none (closure_named closures name)))
      → IsReadable read_line (or_none (cond b (Some c) (closure_named closures name)))
  by true k rest = All-head (IsReadable read_line) c closures h
  by false k rest = rest k

-- ---- calls

pub known_so : (known : Bool) (o : Option Fault) → is_some (call_fault known o) ≡ false → known ≡ true
known_so known (Some f) e = absurd (false≢true (sym e))
known_so false None e = absurd (false≢true (sym e))
known_so true None e = refl

one_refused : (n : ℕ) (r : Reply) → are_refused (tell n r) ≡ true → is_refusal r ≡ true
one_refused n r = by (is_refusal r) where
  by : (b : Bool) → (b || false) ≡ true → b ≡ true
  by true e = refl
  by false e = e

-- a turn that is told a refusal leaves the log
abbrev Leaves : World → Turn → Type 0
Leaves w t = are_refused t.told ≡ true → (run read_line w.state t.steps).log ≡ w.state.log

module _ (w : World) (g : Fit w) (n : ℕ) (name : List ℕ) where
  abbrev c : Closure
  c = or_none (closure_named w.closures name)

  abbrev label : List ℕ
  label = (seated w n).label

  abbrev refusal : Option Fault
  refusal = call_fault (is_some (closure_named w.closures name)) (session_fault (seated w n))

  pub call_leaves : is_some (closure_named w.closures name) ≡ true → (flags : List Bool) → is_refusal (called_with speech w.state label c flags).told ≡ true
      → (run read_line w.state (call_steps_with speech w.state label c flags)).log ≡ w.state.log
  call_leaves known flags told =
      let st = run read_line opening g.past in
      let sound = run_sound read_line opening g.past opening_sound in
      let made : are_made (length (all_tags st.log)) label ≡ true =
      (λ i. are_made (length (all_tags st.log)) (session_of (g.ran i) (number_at w.seats n)).label) ∙ (session_sound st sound (number_at w.seats n)).label_made in
      (λ i. (run read_line (g.ran i) (call_steps_with speech (g.ran i) label c flags)).log)
      ∙ refused_calls_commit_nothing speech lines_read_back g.past label c flags (named_fit w.closures name g.readable known) made
      (ap (λ u. is_refusal (called_with speech u label c flags).told) (sym g.ran) ∙ told)
      ∙ ap (λ (u : State). u.log) (sym g.ran)

  by_leaves : (o : Option Fault) → refusal ≡ o → Leaves w (calls_by speech w n label c o)
  by_leaves (Some f) e told = refl
  by_leaves None e told =
      let all = called speech w.state label c in
      ap (λ (u : State). u.log) (sym (cut_run read_line (length w.state.sessions + 1) (next read_line w.state opens) all.asked all.lacked))
      ∙ call_leaves (known_so (is_some (closure_named w.closures name)) (session_fault (seated w n)) (ap is_some e)) [] (one_refused n all.told told)

  cut_leaves : is_some refusal ≡ false → (i : ℕ) → Leaves w (call_cut speech w n label c i)
  cut_leaves e zero told = refl
  cut_leaves e (suc i) told =
      call_leaves (known_so (is_some (closure_named w.closures name)) (session_fault (seated w n)) e) (lacks_only i)
      (one_refused n (called_with speech w.state label c (lacks_only i)).told told)

  -- a line that is a CALL
  all_leaves : (line : List ℕ) → closure_form line ≡ calls name → Leaves w (turn speech w (asks n line))
  all_leaves line form = subst (λ f. Leaves w (asks_form speech w n line f)) (sym form) (by_leaves refusal refl)

  turn_leaves : (line : List ℕ) → closure_form line ≡ calls name → (m : Memory) → Leaves w (turn_with speech w m (asks n line))
  turn_leaves line form enough = all_leaves line form
  turn_leaves line form lacks = subst (λ f. Leaves w (lacking_line w n f)) (sym form) (λ told. refl)
  turn_leaves line form (lacks_at i) = subst (λ f. Leaves w (lacking_at speech w i n line f)) (sym form) (by (is_some refusal) refl) where
    by : (b : Bool) → is_some refusal ≡ b → Leaves w (cond b (turn speech w (asks n line)) (call_cut speech w n label c i))
    by true e = all_leaves line form
    by false e = cut_leaves e i

pub script_calls_commit_nothing : ScriptCallsCommitNothing
script_calls_commit_nothing memory steps m n line name form =
    turn_leaves (world_with start memory steps) (world_fit start start_fit memory steps) n name line form m

pub script_calls_are_the_owners : ScriptCallsAreTheOwners
script_calls_are_the_owners memory steps n name flags known =
    let w = world_with start memory steps in
    let g = world_fit start start_fit memory steps in
    let c = or_none (closure_named w.closures name) in
    calls_are_the_owners speech hellos_read_back w.state (seated w n).label c flags (named_fit w.closures name g.readable known).owner
