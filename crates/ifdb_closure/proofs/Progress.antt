-- How a run with closures goes on by one line, and how it ends.
use Rattle.std.proofs.Common.{◌≡◌, ℕ, zero, suc, ◌<◌, ◌≤◌, List, [], ◌∷◌, ◌++◌, length, take, Bool, true, false, sym, ap, subst, ◌∙◌, arith, refl, cond, Some, None, Option}
use Rattle.std.specs.Prelude.{is_some}
use Rattle.std.specs.Io.KnownBytes.{Appends, Consumes, IsAtEnd}
use Rattle.std.proofs.KnownBytes.{Consumes-trans, Appends-trans, Consumes-nil, Appends-nil}
use Rattle.std.proofs.lemmas.List.{append_assoc, append-nil, length-append}
use Rattle.std.proofs.lemmas.List.Concat.{flat_map-append}
use Rattle.ifdb_io.specs.Causes.{WritesShort}
use Rattle.ifdb_io.specs.Lines.{Reading, unskipped, Gives, Ends, Exceeds, IsLine, IsLong}
use Rattle.ifdb_wire.specs.declared.fault.Fault.{Fault}
use Rattle.ifdb_model.specs.Step.{is_empty}
use Rattle.ifdb_model.specs.Run.{Step, opens, asks, refused, long, stray, leaves, Told}
use Rattle.ifdb_model.specs.Script.{line_steps, steps_of}
use Rattle.ifdb_model.specs.Output.{texts, text_of}
use Rattle.ifdb_script.specs.Run.{piece_behind}
use Rattle.ifdb_script.proofs.ScriptLines.{steps_front, steps_last, steps_long, piece-append, piece_line, piece_long}
use Rattle.ifdb_script.proofs.Flags.{IsAtMostOne}
use Rattle.ifdb_script.proofs.Progress.{EndsSo, Cut, cut_of, piece_before, settled}
use Rattle.ifdb_closure.specs.declared.stage.Stage.{Stage}
use Rattle.ifdb_closure.specs.Closures.{ClosureLine, plain, faulty, creates, calls, closure_named, or_none, World, start, seated, greeting_in, session_fault, create_fault, call_fault, creates_by, calls_by, asks_form, turn, after_turn}
use Rattle.ifdb_closure.specs.Lacking.{Memory, enough, lacks, lacks_at, call_cut, lacking_at, lacking_line, turn_with, told_with}
use Rattle.ifdb_closure.specs.Speaking.{speech}
use Rattle.ifdb_closure.specs.Standing.{IsFor, IsToldAt, Does, Plays}
use Rattle.ifdb_closure.specs.Ran.{AreTold, IsTold, IsToldFirst, IsToldOfLines, RanWhole, RanFront, RanPast, RanCut}

-- ---- what steps were told

-- these steps led to a world and were told this, whatever follows them
pub record Heard (done : List Step) (w : World) (told : List Told) : Type 0 where
  pub memory : List Memory
  pub each : length memory ≡ length done
  pub on : (more : List Memory) (steps : List Step) → told_with speech start (memory ++ more) (done ++ steps) ≡ told ++ told_with speech w more steps
  pub exact : (more : List Memory) (steps : List Step) → AreTold w more steps → AreTold start (memory ++ more) (done ++ steps)

heard_none : Heard [] start []
heard_none = record { memory = []; each = refl; on = λ more steps. refl; exact = λ more steps h. h }

heard_on : (done : List Step) (w : World) (told : List Told) → Heard done w told → (m : Memory) (step : Step) → IsToldAt m (turn_with speech w m step).told
    → let t = turn_with speech w m step in Heard (done ++ step ∷ []) (after_turn speech w t) (told ++ t.told)
heard_on done w told h m step at =
    let t = turn_with speech w m step in
    record {
      memory = h.memory ++ m ∷ [];
      each = omega (arith, h.each, length-append h.memory (m ∷ []), length-append done (step ∷ []));
      on = λ more steps.
          (λ i. told_with speech start (append_assoc h.memory (m ∷ []) more i) (append_assoc done (step ∷ []) steps i))
          ∙ h.on (m ∷ more) (step ∷ steps)
          ∙ sym (append_assoc told t.told (told_with speech (after_turn speech w t) more steps));
      exact = λ more steps rest.
          subst (λ ms. AreTold start ms ((done ++ step ∷ []) ++ steps)) (sym (append_assoc h.memory (m ∷ []) more))
          (subst (AreTold start (h.memory ++ m ∷ more)) (sym (append_assoc done (step ∷ []) steps)) (h.exact (m ∷ more) (step ∷ steps) (at, rest)));
    }

heard_all : (done : List Step) (w : World) (told : List Told) → (h : Heard done w told) → told ≡ told_with speech start (h.memory ++ []) done
heard_all done w told h = sym (append-nil told) ∙ sym (h.on [] []) ∙ ap (told_with speech start (h.memory ++ [])) (append-nil done)

-- at most one reply is told at a step
form_one : (w : World) (n : ℕ) (line : List ℕ) (f : ClosureLine) → IsAtMostOne (asks_form speech w n line f).told
form_one w n line plain = tt
form_one w n line (faulty f) = tt
form_one w n line (creates name statements) = by (create_fault (is_empty (seated w n).label) (is_some (closure_named w.closures name)) (session_fault (seated w n))) where
  by : (o : Option Fault) → IsAtMostOne (creates_by w n (record { name = name; owner = greeting_in w.greetings n; statements = statements }) o).told
  by None = tt
  by (Some f) = tt
form_one w n line (calls name) = by (call_fault (is_some (closure_named w.closures name)) (session_fault (seated w n))) where
  by : (o : Option Fault) → IsAtMostOne (calls_by speech w n (seated w n).label (or_none (closure_named w.closures name)) o).told
  by None = tt
  by (Some f) = tt

turn_one : (w : World) (step : Step) → IsAtMostOne (turn speech w step).told
turn_one w opens = tt
turn_one w (asks n line) = form_one w n line (speech.form line)
turn_one w (refused n) = tt
turn_one w long = tt
turn_one w stray = tt
turn_one w (leaves n) = tt

lack_one : (w : World) (n : ℕ) (line : List ℕ) (i : ℕ) (f : ClosureLine) → IsAtMostOne (lacking_line w n f).told × IsAtMostOne (lacking_at speech w i n line f).told
lack_one w n line i plain = (tt, turn_one w (asks n line))
lack_one w n line i (faulty f) = (tt, turn_one w (asks n line))
lack_one w n line i (creates name statements) = (tt, turn_one w (asks n line))
lack_one w n line i (calls name) = (tt, by (is_some (call_fault (is_some (closure_named w.closures name)) (session_fault (seated w n))))) where
  cut : (i : ℕ) → IsAtMostOne (call_cut speech w n (seated w n).label (or_none (closure_named w.closures name)) i).told
  cut zero = tt
  cut (suc i) = tt

  by : (b : Bool) → IsAtMostOne (cond b (turn speech w (asks n line)) (call_cut speech w n (seated w n).label (or_none (closure_named w.closures name)) i)).told
  by true = turn_one w (asks n line)
  by false = cut i

told_one : (w : World) (m : Memory) (step : Step) → IsAtMostOne (turn_with speech w m step).told
told_one w enough step = turn_one w step
told_one w lacks opens = tt
told_one w lacks (asks n line) = (lack_one w n line 0 (speech.form line)).0
told_one w lacks (refused n) = tt
told_one w lacks long = tt
told_one w lacks stray = tt
told_one w lacks (leaves n) = tt
told_one w (lacks_at i) opens = tt
told_one w (lacks_at i) (asks n line) = (lack_one w n line i (speech.form line)).1
told_one w (lacks_at i) (refused n) = tt
told_one w (lacks_at i) long = tt
told_one w (lacks_at i) stray = tt
told_one w (lacks_at i) (leaves n) = tt

-- ---- what a line comes to

-- the stage stands for the world that a line's step leads to, and the text is what it is told
pub record Goes (done first : List Step) (new : Stage) (told : List Told) (text : List ℕ) : Type 0 where
  pub world : World
  pub stands : IsFor new world
  pub all : List Told
  pub single : IsAtMostOne all
  pub text_is : text ≡ texts all
  pub heard : Heard (done ++ first) world (told ++ all)

step_goes : (old new : Stage) (step : Step) (text : List ℕ) (done : List Step) (w : World) (told : List Told) → IsFor old w → Heard done w told → Does old new step text
    → Goes done (step ∷ []) new told text
step_goes old new step text done w told s h does =
    let t = does w s in
    record {
      world = after_turn speech w (turn_with speech w t.memory step);
      stands = t.stands;
      all = (turn_with speech w t.memory step).told;
      single = told_one w t.memory step;
      text_is = t.told;
      heard = heard_on done w told h t.memory step t.exact;
    }

pub line_goes : (old new : Stage) (first : List Step) (text : List ℕ) (done : List Step) (w : World) (told : List Told) → IsFor old w → Heard done w told → Plays old new first text
    → Goes done first new told text
line_goes old new [] text done w told s h p = record {
  world = w;
  stands = subst (λ (stage : Stage). IsFor stage w) (sym p.0) s;
  all = [];
  single = tt;
  text_is = p.1;
  heard = subst (λ d. Heard d w (told ++ [])) (sym (append-nil done)) (subst (Heard done w) (sym (append-nil told)) h);
}
line_goes old new (step ∷ []) text done w told s h p = step_goes old new step text done w told s h p
line_goes old new (step ∷ other ∷ steps) text done w told s h p = absurd p

-- ---- what was read

-- the lines that were done have these steps, whatever follows them
pub record Read (left_old left_new : Option (List ℕ)) (reading : Reading) (done : List Step) : Type 0 where
  pub lines : List ℕ
  pub read : Consumes left_old left_new (lines ++ reading.held)
  pub count : reading.taken ≡ length (lines ++ reading.held)
  pub ends : EndsSo reading.skipping lines
  pub on : (rest : List ℕ) → steps_of (lines ++ rest) ≡ done ++ steps_of (unskipped reading.skipping rest)

-- one line more
read_on : (l0 l1 l2 : Option (List ℕ)) (mid last : Reading) (done first : List Step) (line : List ℕ)
    → (p : Read l0 l1 mid done) → (g : Gives mid last l1 l2 line) → 0 < length line
    → ((rest : List ℕ) → steps_of (line ++ rest) ≡ first ++ steps_of (unskipped last.skipping rest))
    → ((lines : List ℕ) → piece_behind [] lines ≡ piece_behind [] line → EndsSo last.skipping lines)
    → Read l0 l2 last (done ++ first)
read_on l0 l1 l2 mid last done first line p g some same ends = record {
  lines = p.lines ++ k.front;
  read = subst (Consumes l0 l2) bytes (Consumes-trans _ _ _ _ _ p.read g.consumed);
  count =
      let sum = ap length bytes in
      let all = length-append (p.lines ++ mid.held) g.got in
      let before = p.count in
      let now = g.count in
      omega (arith, sum, all, before, now);
  ends = ends (p.lines ++ k.front) (piece-append [] p.lines k.front ∙ k.piece (piece_behind [] p.lines) (piece_before mid.skipping p.lines p.ends));
  on = λ rest.
      ap steps_of (append_assoc p.lines k.front rest) ∙ p.on (k.front ++ rest)
      ∙ ap (λ ss. done ++ ss) (ap steps_of (k.on rest) ∙ same rest)
      ∙ sym (append_assoc done first (steps_of (unskipped last.skipping rest)));
} where
  k : Cut mid.skipping (mid.held ++ g.got) line last.held
  k = cut_of mid last l1 l2 line g some

  bytes : (p.lines ++ mid.held) ++ g.got ≡ (p.lines ++ k.front) ++ last.held
  bytes = append_assoc p.lines mid.held g.got ∙ ap (λ l. p.lines ++ l) k.all ∙ sym (append_assoc p.lines k.front last.held)

-- a line and its newline
read_line_on : (l0 l1 l2 : Option (List ℕ)) (mid last : Reading) (done : List Step) (text : List ℕ)
    → Read l0 l1 mid done → Gives mid last l1 l2 (text ++ 10 ∷ []) → IsLine text → last.skipping ≡ false → Read l0 l2 last (done ++ line_steps text)
read_line_on l0 l1 l2 mid last done text p g line kept =
    let size = length-append text (10 ∷ []) in
    read_on l0 l1 l2 mid last done (line_steps text) (text ++ 10 ∷ []) p g (omega (arith, size))
    (λ rest.
    ap steps_of (append_assoc text (10 ∷ []) rest) ∙ steps_front text rest line
    ∙ ap (λ skips. line_steps text ++ steps_of (unskipped skips rest)) (sym kept))
    (λ lines e. subst (λ skips. EndsSo skips lines) (sym kept) (e ∙ piece_line text line))

-- the front of a line that is too long
read_long_on : (l0 l1 l2 : Option (List ℕ)) (mid last : Reading) (done : List Step) (text : List ℕ)
    → Read l0 l1 mid done → Gives mid last l1 l2 text → IsLong text → last.skipping ≡ true → Read l0 l2 last (done ++ long ∷ [])
read_long_on l0 l1 l2 mid last done text p g long_text skips =
    let size = long_text.long in
    read_on l0 l1 l2 mid last done (long ∷ []) text p g (omega (arith, size))
    (λ rest. steps_long text rest long_text ∙ ap (λ skipping. long ∷ steps_of (unskipped skipping rest)) (sym skips))
    (λ lines e. subst (λ skipping. EndsSo skipping lines) (sym skips) (subst (λ l. 65535 < length l) (sym e) (piece_long text long_text)))

-- ---- a run, in the middle

-- the steps of the lines so far led to the world that the stage stands for, and what they were told was written
pub record Reached (left_old left_new written_old written_new : Option (List ℕ)) (reading : Reading) (stage : Stage) : Type 0 where
  pub done : List Step
  pub world : World
  pub told : List Told
  pub stands : IsFor stage world
  pub heard : Heard done world told
  pub read : Read left_old left_new reading done
  pub wrote : Appends written_old written_new (texts told)

-- nothing was read yet
pub reached_none : (l w : Option (List ℕ)) (limit : ℕ) (over : Bool) (stage : Stage) → IsFor stage start
    → Reached l l w w (record { text = []; held = []; skipping = false; taken = 0; limit = limit; over = over }) stage
reached_none l w limit over stage stands = record {
  done = [];
  world = start;
  told = [];
  stands = stands;
  heard = heard_none;
  read = record { lines = []; read = Consumes-nil l; count = refl; ends = refl; on = λ rest. refl };
  wrote = Appends-nil w;
}

wrote_on : (w0 w1 w2 : Option (List ℕ)) (told all : List Told) (text : List ℕ) → Appends w0 w1 (texts told) → text ≡ texts all → Appends w1 w2 text → Appends w0 w2 (texts (told ++ all))
wrote_on w0 w1 w2 told all text wrote e more =
    subst (Appends w0 w2) (ap (λ b. texts told ++ b) e ∙ sym (flat_map-append text_of told all)) (Appends-trans _ _ _ _ _ wrote more)

-- a line's reply was written
pub reached_line : (l0 l1 l2 w0 w1 w2 : Option (List ℕ)) (mid last : Reading) (old new : Stage) (text : List ℕ)
    → (r : Reached l0 l1 w0 w1 mid old) → Gives mid last l1 l2 (last.text ++ 10 ∷ []) → IsLine last.text → last.skipping ≡ false
    → Plays old new (line_steps last.text) text → Appends w1 w2 text → Reached l0 l2 w0 w2 last new
reached_line l0 l1 l2 w0 w1 w2 mid last old new text r g line kept plays wrote =
    let t = line_goes old new (line_steps last.text) text r.done r.world r.told r.stands r.heard plays in
    record {
      done = r.done ++ line_steps last.text;
      world = t.world;
      told = r.told ++ t.all;
      stands = t.stands;
      heard = t.heard;
      read = read_line_on l0 l1 l2 mid last r.done last.text r.read g line kept;
      wrote = wrote_on w0 w1 w2 r.told t.all text r.wrote t.text_is wrote;
    }

-- the reply to a line that is too long was written
pub reached_long : (l0 l1 l2 w0 w1 w2 : Option (List ℕ)) (mid last : Reading) (old new : Stage) (text : List ℕ)
    → (r : Reached l0 l1 w0 w1 mid old) → Gives mid last l1 l2 last.text → IsLong last.text → last.skipping ≡ true
    → Does old new long text → Appends w1 w2 text → Reached l0 l2 w0 w2 last new
reached_long l0 l1 l2 w0 w1 w2 mid last old new text r g long_text skips does wrote =
    let t = step_goes old new long text r.done r.world r.told r.stands r.heard does in
    record {
      done = r.done ++ long ∷ [];
      world = t.world;
      told = r.told ++ t.all;
      stands = t.stands;
      heard = t.heard;
      read = read_long_on l0 l1 l2 mid last r.done last.text r.read g long_text skips;
      wrote = wrote_on w0 w1 w2 r.told t.all text r.wrote t.text_is wrote;
    }

-- ---- ends

-- all steps of these bytes were done
told_all : (input : List ℕ) (done : List Step) (w : World) (told : List Told) → Heard done w told → steps_of input ≡ done → IsTold input told
told_all input done w told h e = record {
  memory = h.memory ++ [];
  each = ap length (append-nil h.memory) ∙ h.each ∙ ap length (sym e);
  all = heard_all done w told h ∙ ap (told_with speech start (h.memory ++ [])) (sym e);
  exact = subst (AreTold start (h.memory ++ [])) (append-nil done ∙ sym e) (h.exact [] [] tt);
}

-- the first of them were
told_some : (input : List ℕ) (done more : List Step) (w : World) (told : List Told) → Heard done w told → steps_of input ≡ done ++ more → IsToldFirst input told
told_some input done more w told h e = record {
  memory = h.memory ++ [];
  rest = told_with speech w [] more;
  all = sym (h.on [] more) ∙ ap (told_with speech start (h.memory ++ [])) (sym e);
  exact = subst (AreTold start (h.memory ++ [])) (sym e) (h.exact [] more tt);
}

told_of_lines : (l0 l1 : Option (List ℕ)) (mid : Reading) (done : List Step) (w : World) (told : List Told) (got text : List ℕ)
    → (p : Read l0 l1 mid done) → Heard done w told → unskipped mid.skipping (mid.held ++ got) ≡ text → IsLine text → IsToldOfLines ((p.lines ++ mid.held) ++ got) told
told_of_lines l0 l1 mid done w told got text p h e line =
    let s = settled mid.skipping p.lines (mid.held ++ got) text p.ends e in
    record {
      lines = p.lines ++ s.front;
      piece = text;
      all = append_assoc p.lines mid.held got ∙ ap (λ l. p.lines ++ l) s.all ∙ sym (append_assoc p.lines s.front text);
      whole = s.whole;
      left_off = line;
      played = told_all (p.lines ++ s.front) done w told h (p.on s.front ∙ ap (λ ls. done ++ steps_of ls) s.none ∙ append-nil done);
    }

-- what was read in the end has the steps that were done, and these
read_last : (l0 l1 : Option (List ℕ)) (mid : Reading) (done first : List Step) (got : List ℕ) (p : Read l0 l1 mid done)
    → steps_of (unskipped mid.skipping (mid.held ++ got)) ≡ first → steps_of ((p.lines ++ mid.held) ++ got) ≡ done ++ first
read_last l0 l1 mid done first got p e = ap steps_of (append_assoc p.lines mid.held got) ∙ p.on (mid.held ++ got) ∙ ap (λ ss. done ++ ss) e

-- the input has ended, and nothing came any more
pub ran_end : (l0 l1 l2 w0 w1 : Option (List ℕ)) (mid last : Reading) (stage : Stage) (limit : ℕ)
    → Reached l0 l1 w0 w1 mid stage → Ends mid last l1 l2 → last.text ≡ [] → IsAtEnd l2 → last.taken ≤ limit → RanWhole limit l0 l2 w0 w1
ran_end l0 l1 l2 w0 w1 mid last stage limit r e none end within =
    let p = r.read in
    record {
      input = (p.lines ++ mid.held) ++ e.got;
      told = r.told;
      read = Consumes-trans _ _ _ _ _ p.read e.consumed;
      ended = end;
      within = omega (arith, e.count, p.count, length-append (p.lines ++ mid.held) e.got, within);
      played = told_all ((p.lines ++ mid.held) ++ e.got) r.done r.world r.told r.heard (read_last l0 l1 mid r.done [] e.got p (ap steps_of (e.all ∙ none)) ∙ append-nil r.done);
      wrote = r.wrote;
    }

-- a last line without a newline came
pub ran_rest : (l0 l1 l2 w0 w1 w2 : Option (List ℕ)) (mid last : Reading) (old new : Stage) (text : List ℕ) (limit : ℕ)
    → (r : Reached l0 l1 w0 w1 mid old) → (e : Ends mid last l1 l2) → 0 < length last.text → IsAtEnd l2 → last.taken ≤ limit
    → Plays old new (line_steps last.text) text → Appends w1 w2 text → RanWhole limit l0 l2 w0 w2
ran_rest l0 l1 l2 w0 w1 w2 mid last old new text limit r e some end within plays wrote =
    let p = r.read in
    let t = line_goes old new (line_steps last.text) text r.done r.world r.told r.stands r.heard plays in
    let same = read_last l0 l1 mid r.done (line_steps last.text) e.got p (ap steps_of e.all ∙ steps_last last.text e.line some) in
    record {
      input = (p.lines ++ mid.held) ++ e.got;
      told = r.told ++ t.all;
      read = Consumes-trans _ _ _ _ _ p.read e.consumed;
      ended = end;
      within = omega (arith, e.count, p.count, length-append (p.lines ++ mid.held) e.got, within);
      played = told_all ((p.lines ++ mid.held) ++ e.got) (r.done ++ line_steps last.text) t.world (r.told ++ t.all) t.heard same;
      wrote = wrote_on w0 w1 w2 r.told t.all text r.wrote t.text_is wrote;
    }

-- the source failed
pub ran_read : (l0 l1 l2 w0 w1 : Option (List ℕ)) (mid last : Reading) (stage : Stage) (limit : ℕ)
    → Reached l0 l1 w0 w1 mid stage → Ends mid last l1 l2 → last.taken ≤ limit → RanFront limit l0 l2 w0 w1
ran_read l0 l1 l2 w0 w1 mid last stage limit r e within =
    let p = r.read in
    record {
      taken = (p.lines ++ mid.held) ++ e.got;
      told = r.told;
      read = Consumes-trans _ _ _ _ _ p.read e.consumed;
      within = omega (arith, e.count, p.count, length-append (p.lines ++ mid.held) e.got, within);
      played = told_of_lines l0 l1 mid r.done r.world r.told e.got last.text p r.heard e.all e.line;
      wrote = r.wrote;
    }

-- a byte more than the limit came
pub ran_over : (l0 l1 l2 w0 w1 : Option (List ℕ)) (mid last : Reading) (stage : Stage) (limit : ℕ)
    → Reached l0 l1 w0 w1 mid stage → Exceeds mid last l1 l2 → last.limit ≡ limit → RanPast limit l0 l2 w0 w1
ran_over l0 l1 l2 w0 w1 mid last stage limit r e same =
    let p = r.read in
    record {
      taken = (p.lines ++ mid.held) ++ e.got;
      past = e.last;
      told = r.told;
      read = subst (Consumes l0 l2) (sym (append_assoc (p.lines ++ mid.held) e.got (e.last ∷ []))) (Consumes-trans _ _ _ _ _ p.read e.consumed);
      full = omega (arith, e.count, e.past, p.count, same, length-append (p.lines ++ mid.held) e.got);
      played = told_of_lines l0 l1 mid r.done r.world r.told e.got last.text p r.heard e.all e.line;
      wrote = r.wrote;
    }

-- ---- a reply was cut

ran_cut : (limit : ℕ) (l0 l2 w0 w1 w2 : Option (List ℕ)) (input text : List ℕ) (told all : List Told) → IsAtMostOne all → text ≡ texts all
    → IsToldFirst input (told ++ all) → Consumes l0 l2 input → length input ≤ limit → Appends w0 w1 (texts told) → WritesShort w1 w2 text → RanCut limit l0 l2 w0 w2
ran_cut limit l0 l2 w0 w1 w2 input text told [] one e played read within wrote short = absurd (omega (arith, short.short, ap length e))
ran_cut limit l0 l2 w0 w1 w2 input text told (last ∷ []) one e played read within wrote short =
    let same : text ≡ text_of last = e ∙ append-nil (text_of last) in
    record {
      input = input;
      told = told;
      last = last;
      n = short.n;
      read = read;
      within = within;
      played = played;
      short = omega (arith, short.short, ap length same);
      wrote = subst (λ b. Appends w0 w2 (texts told ++ take short.n b)) same (Appends-trans _ _ _ _ _ wrote short.written);
    }
ran_cut limit l0 l2 w0 w1 w2 input text told (last ∷ other ∷ more) one e played read within wrote short = absurd one

-- one in the middle
cut_on : (limit : ℕ) (l0 l2 w0 w1 w2 : Option (List ℕ)) (last : Reading) (new : Stage) (done first : List Step) (told : List Told) (text : List ℕ)
    → (t : Goes done first new told text) → Read l0 l2 last (done ++ first) → last.taken ≤ limit → Appends w0 w1 (texts told) → WritesShort w1 w2 text
    → RanCut limit l0 l2 w0 w2
cut_on limit l0 l2 w0 w1 w2 last new done first told text t p within wrote short =
    ran_cut limit l0 l2 w0 w1 w2 (p.lines ++ last.held) text told t.all t.single t.text_is
    (told_some (p.lines ++ last.held) (done ++ first) (steps_of (unskipped last.skipping last.held)) t.world (told ++ t.all) t.heard (p.on last.held))
    p.read (omega (arith, p.count, within)) wrote short

-- that to a line with a newline
pub ran_cut_line : (limit : ℕ) (l0 l1 l2 w0 w1 w2 : Option (List ℕ)) (mid last : Reading) (old new : Stage) (text : List ℕ)
    → (r : Reached l0 l1 w0 w1 mid old) → Gives mid last l1 l2 (last.text ++ 10 ∷ []) → IsLine last.text → last.skipping ≡ false
    → Plays old new (line_steps last.text) text → last.taken ≤ limit → WritesShort w1 w2 text → RanCut limit l0 l2 w0 w2
ran_cut_line limit l0 l1 l2 w0 w1 w2 mid last old new text r g line kept plays within short =
    let t = line_goes old new (line_steps last.text) text r.done r.world r.told r.stands r.heard plays in
    cut_on limit l0 l2 w0 w1 w2 last new r.done (line_steps last.text) r.told text t (read_line_on l0 l1 l2 mid last r.done last.text r.read g line kept) within r.wrote short

-- that to a line that is too long
pub ran_cut_long : (limit : ℕ) (l0 l1 l2 w0 w1 w2 : Option (List ℕ)) (mid last : Reading) (old new : Stage) (text : List ℕ)
    → (r : Reached l0 l1 w0 w1 mid old) → Gives mid last l1 l2 last.text → IsLong last.text → last.skipping ≡ true
    → Does old new long text → last.taken ≤ limit → WritesShort w1 w2 text → RanCut limit l0 l2 w0 w2
ran_cut_long limit l0 l1 l2 w0 w1 w2 mid last old new text r g long_text skips does within short =
    let t = step_goes old new long text r.done r.world r.told r.stands r.heard does in
    cut_on limit l0 l2 w0 w1 w2 last new r.done (long ∷ []) r.told text t (read_long_on l0 l1 l2 mid last r.done last.text r.read g long_text skips) within r.wrote short

-- that to the last line
pub ran_cut_rest : (limit : ℕ) (l0 l1 l2 w0 w1 w2 : Option (List ℕ)) (mid last : Reading) (old new : Stage) (text : List ℕ)
    → (r : Reached l0 l1 w0 w1 mid old) → (e : Ends mid last l1 l2) → 0 < length last.text → last.taken ≤ limit
    → Plays old new (line_steps last.text) text → WritesShort w1 w2 text → RanCut limit l0 l2 w0 w2
ran_cut_rest limit l0 l1 l2 w0 w1 w2 mid last old new text r e some within plays short =
    let p = r.read in
    let t = line_goes old new (line_steps last.text) text r.done r.world r.told r.stands r.heard plays in
    let same = read_last l0 l1 mid r.done (line_steps last.text) e.got p (ap steps_of e.all ∙ steps_last last.text e.line some) in
    let input = (p.lines ++ mid.held) ++ e.got in
    ran_cut limit l0 l2 w0 w1 w2 input text r.told t.all t.single t.text_is
    (told_some input (r.done ++ line_steps last.text) [] t.world (r.told ++ t.all) t.heard (same ∙ sym (append-nil (r.done ++ line_steps last.text))))
    (Consumes-trans _ _ _ _ _ p.read e.consumed) (omega (arith, e.count, p.count, length-append (p.lines ++ mid.held) e.got, within)) r.wrote short
