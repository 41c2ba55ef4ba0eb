-- Each reply of a run is framed, where no line that is asked holds a newline; and no line of a script does.
use Rattle.std.proofs.Common.{◌≡◌, ℕ, ◌+◌, ◌-◌, Bool, true, false, List, [], ◌∷◌, length, refl, ap, cond, eqb, Some, None, Option}
use Rattle.std.specs.Prelude.{take, drop, not, option_to_list, All, codes, bytes_eq, slice_index, nat_lt, position}
use Rattle.std.specs.List.{list_all}
use Rattle.std.proofs.lemmas.Bool.{and_parts}
use Rattle.std.proofs.lemmas.List.Elements.{All-nil, All-set, All-push}
use Rattle.ifdb_catalog.proofs.Tests.{both_of}
use Rattle.ifdb_io.specs.declared.lines.TheConstants.{LONGEST_LINE}
use Rattle.ifdb_wire.specs.declared.fault.Fault.TheVariants as fault
use Rattle.ifdb_wire.specs.declared.reply.Reply.TheVariants as reply
use Rattle.ifdb_wire.specs.Script as script
use Rattle.ifdb_wire.specs.Script.{ScriptLine, script_line, without_return, session_number, asks_of, split_at, short_line}
use Rattle.ifdb_model.specs.Session.{Session, new_session, closed}
use Rattle.ifdb_model.specs.Script.{on_first, lines_of, line_step, line_steps, steps_of}
use Rattle.ifdb_model.specs.Step.{Reader, Outcome, refuses, ask}
use Rattle.ifdb_model.specs.Run.{State, opening, session_of, Step, opens, asks, refused, long, stray, leaves as leaves_room, outcome_of, with_outcome, with_session, next, told, replies}
use Rattle.ifdb_model.specs.Output.{refused_at}
use Rattle.ifdb_laws.specs.Bytes.{is_line}
use Rattle.ifdb_laws.proofs.rows.Runs.{session_has}
use Rattle.ifdb_db.specs.Reading.{read_line}
use Rattle.ifdb_framing.specs.Framing.{is_framed, is_of_line, StepsAreFramed, RepliesAreFramed}
use Rattle.ifdb_framing.proofs.Lines.{is_no_newline}
use Rattle.ifdb_framing.proofs.Lists.{pick, all_append, all_flat_map, all_take, all_drop}
use Rattle.ifdb_framing.proofs.Clean.{reads_clean, is_clean_entry, is_framed_reply}
use Rattle.ifdb_framing.proofs.Outcomes.{has_clean_own, Keeps, refused_framed, ask_keeps}
use Rattle.ifdb_framing.proofs.Lexed.{line_clean}

-- ---- runs

abbrev pub Clean : Session → Type 0
Clean s = has_clean_own s.txn ≡ true

pub record IsClean (st : State) : Type 0 where
  pub log : list_all is_clean_entry st.log ≡ true
  pub sessions : All Clean st.sessions

-- what a line without a newline is read as is clean
abbrev pub ReadsClean : Reader → Type 0
ReadsClean read = (line : List ℕ) → is_line line ≡ true → reads_clean (read line) ≡ true

pub opening_clean : IsClean opening
opening_clean = record { log = refl; sessions = All-nil Clean }

-- a line of a session, where what it is read as is clean
module _ (read : Reader) where
  owned : (st : State) → IsClean st → (n : ℕ) → Clean (session_of st n)
  owned st v n = session_has Clean st v.sessions refl n

  asked : (st : State) → IsClean st → (n : ℕ) (line : List ℕ) → reads_clean (read line) ≡ true → Keeps (ask read st.log (session_of st n) line)
  asked st v n line h = ask_keeps (session_of st n) (owned st v n) st.log v.log read line h

  asked_clean : (st : State) → IsClean st → (n : ℕ) (line : List ℕ) → reads_clean (read line) ≡ true → IsClean (with_outcome st n (ask read st.log (session_of st n) line))
  asked_clean st v n line h =
      let o = ask read st.log (session_of st n) line in
      let k = asked st v n line h in
      record {
        log = all_append is_clean_entry st.log (option_to_list o.added) v.log k.added;
        sessions = All-set Clean st.sessions (n - 1) o.session k.own v.sessions;
      }

  either : (b : Bool) (st u : State) → IsClean st → IsClean u → IsClean (cond b st u)
  either true st u h k = h
  either false st u h k = k

  pub open_clean : (st : State) → IsClean st → IsClean (next read st opens)
  open_clean st v = record { log = v.log; sessions = All-push Clean st.sessions new_session v.sessions refl }

  pub asked_on : (st : State) → IsClean st → (n : ℕ) (line : List ℕ) → reads_clean (read line) ≡ true → IsClean (next read st (asks n line))
  asked_on st v n line h = either (session_of st n).is_open (with_outcome st n (ask read st.log (session_of st n) line)) st (asked_clean st v n line h) v

  pub leave_clean : (st : State) (n : ℕ) → IsClean st → IsClean (next read st (leaves_room n))
  leave_clean st n v = either (session_of st n).is_open (with_session st n (closed (session_of st n))) st
      (record { log = v.log; sessions = All-set Clean st.sessions (n - 1) (closed (session_of st n)) refl v.sessions }) v

  pub outcome_framed : (st : State) → IsClean st → (n : ℕ) (line : List ℕ) → reads_clean (read line) ≡ true → is_framed_reply (outcome_of read st n line).reply ≡ true
  outcome_framed st v n line h =
      pick (λ (o : Outcome). is_framed_reply o.reply) (session_of st n).is_open (ask read st.log (session_of st n) line) (refuses (session_of st n) fault.NoSession) (asked st v n line h).reply (refused_framed fault.NoSession)

module _ (read : Reader) (reads : ReadsClean read) where
  next_clean : (st : State) (x : Step) → IsClean st → is_of_line x ≡ true → IsClean (next read st x)
  next_clean st opens v h = open_clean read st v
  next_clean st (asks n line) v h = asked_on read st v n line (reads line h)
  next_clean st (refused n) v h = v
  next_clean st long v h = v
  next_clean st stray v h = v
  next_clean st (leaves_room n) v h = leave_clean read st n v

  told_framed : (st : State) (x : Step) → IsClean st → is_of_line x ≡ true → list_all is_framed (told read st x) ≡ true
  told_framed st opens v h = refl
  told_framed st (asks n line) v h = both_of (is_framed_reply (outcome_of read st n line).reply) true (outcome_framed read st v n line (reads line h)) refl
  told_framed st (refused n) v h = both_of (is_framed_reply (reply.Refused fault.OutOfMemory)) true (refused_framed fault.OutOfMemory) refl
  told_framed st long v h = both_of (is_framed_reply (reply.Refused fault.TooLong)) true (refused_framed fault.TooLong) refl
  told_framed st stray v h = both_of (is_framed_reply (reply.Refused (fault.Syntax 0))) true (refused_framed (fault.Syntax 0)) refl
  told_framed st (leaves_room n) v h = refl

  pub replies_framed : (steps : List Step) (st : State) → IsClean st → list_all is_of_line steps ≡ true → list_all is_framed (replies read st steps) ≡ true
  replies_framed [] st v h = refl
  replies_framed (x ∷ steps) st v h =
      let parts = and_parts (is_of_line x) (list_all is_of_line steps) h in
      all_append is_framed (told read st x) (replies read (next read st x) steps) (told_framed st x v parts.0) (replies_framed steps (next read st x) (next_clean st x v parts.0) parts.1)

  pub run_framed : (steps : List Step) → list_all is_of_line steps ≡ true → list_all is_framed (replies read opening steps) ≡ true
  run_framed steps h = replies_framed steps opening opening_clean h

-- ---- scripts

on_first_lines : (b : ℕ) (lines : List (List ℕ)) → is_no_newline b ≡ true → list_all is_line lines ≡ true → list_all is_line (on_first b lines) ≡ true
on_first_lines b [] h k = both_of (is_line (b ∷ [])) true (both_of (is_no_newline b) true h refl) refl
on_first_lines b (line ∷ lines) h k =
    let parts = and_parts (is_line line) (list_all is_line lines) k in
    both_of (is_line (b ∷ line)) (list_all is_line lines) (both_of (is_no_newline b) (is_line line) h parts.0) parts.1

next_lines : (b : ℕ) (lines : List (List ℕ)) (newline : Bool) → eqb b 10 ≡ newline → list_all is_line lines ≡ true → list_all is_line (cond newline ([] ∷ lines) (on_first b lines)) ≡ true
next_lines b lines true e h = h
next_lines b lines false e h = on_first_lines b lines (ap not e) h

lines_are_lines : (bytes : List ℕ) → list_all is_line (lines_of bytes) ≡ true
lines_are_lines [] = refl
lines_are_lines (b ∷ bytes) = next_lines b (lines_of bytes) (eqb b 10) refl (lines_are_lines bytes)

-- the request of a script's line, if it has one, holds no newline
abbrev is_of_script : ScriptLine → Bool
is_of_script (script.asks n request) = is_line request
is_of_script _ = true

asks_line : (session : Option ℕ) (request : List ℕ) → is_line request ≡ true → is_of_script (asks_of session request) ≡ true
asks_line None request h = refl
asks_line (Some n) request h = h

split_line : (line : List ℕ) (at : Option ℕ) → is_line line ≡ true → is_of_script (split_at line at) ≡ true
split_line line None h = asks_line (session_number line) [] refl
split_line line (Some at) h = asks_line (session_number (take at line)) (drop (at + 1) line) (all_drop is_no_newline (at + 1) line h)

short_is_line : (line : List ℕ) → is_line line ≡ true → is_of_script (short_line line) ≡ true
short_is_line line h =
    pick is_of_script (eqb (length line) 0) script.skips _ refl (pick is_of_script (eqb (slice_index line 0) 35) script.skips _ refl
    (pick is_of_script (bytes_eq line (codes "OPEN")) script.opens (split_at line (position (λ b. eqb b 32) line)) refl (split_line line (position (λ b. eqb b 32) line) h)))

return_line : (line : List ℕ) → is_line line ≡ true → is_line (without_return line) ≡ true
return_line line h =
    pick is_line (bytes_eq (drop (length line - 1) line) (codes "\r")) (take (length line - 1) line) line (all_take is_no_newline (length line - 1) line h) h

script_is_line : (line : List ℕ) → is_line line ≡ true → is_of_script (script_line line) ≡ true
script_is_line line h =
    pick is_of_script (nat_lt LONGEST_LINE (length line)) script.overlong (short_line (without_return line)) refl (short_is_line (without_return line) (return_line line h))

step_is_of_line : (x : ScriptLine) → is_of_script x ≡ true → list_all is_of_line (line_step x) ≡ true
step_is_of_line script.skips h = refl
step_is_of_line script.opens h = refl
step_is_of_line (script.asks n request) h = both_of (is_line request) true h refl
step_is_of_line script.strays h = refl
step_is_of_line script.overlong h = refl

pub steps_are_of_lines : (bytes : List ℕ) → list_all is_of_line (steps_of bytes) ≡ true
steps_are_of_lines bytes = all_flat_map is_line is_of_line line_steps (lines_of bytes) (λ line h. step_is_of_line (script_line line) (script_is_line line h)) (lines_are_lines bytes)

-- refused steps have no line
refused_are_of_lines : (flags : List Bool) (steps : List Step) → list_all is_of_line steps ≡ true → list_all is_of_line (refused_at flags steps) ≡ true
refused_are_of_lines flags [] h = h
refused_are_of_lines [] (x ∷ steps) h = h
refused_are_of_lines (false ∷ flags) (opens ∷ steps) h = refused_are_of_lines flags steps h
refused_are_of_lines (true ∷ flags) (opens ∷ steps) h = refused_are_of_lines flags steps h
refused_are_of_lines (false ∷ flags) (asks n line ∷ steps) h =
    let parts = and_parts (is_line line) (list_all is_of_line steps) h in
    both_of (is_line line) (list_all is_of_line (refused_at flags steps)) parts.0 (refused_are_of_lines flags steps parts.1)
refused_are_of_lines (true ∷ flags) (asks n line ∷ steps) h = refused_are_of_lines flags steps (and_parts (is_line line) (list_all is_of_line steps) h).1
refused_are_of_lines (flag ∷ flags) (refused n ∷ steps) h = refused_are_of_lines (flag ∷ flags) steps h
refused_are_of_lines (flag ∷ flags) (long ∷ steps) h = refused_are_of_lines (flag ∷ flags) steps h
refused_are_of_lines (flag ∷ flags) (stray ∷ steps) h = refused_are_of_lines (flag ∷ flags) steps h
refused_are_of_lines (flag ∷ flags) (leaves_room n ∷ steps) h = refused_are_of_lines (flag ∷ flags) steps h

-- ---- the server's reading of lines

pub steps_are_framed : StepsAreFramed
steps_are_framed steps h = run_framed read_line line_clean steps h

pub replies_are_framed : RepliesAreFramed
replies_are_framed input flags = run_framed read_line line_clean (refused_at flags (steps_of input)) (refused_are_of_lines flags (steps_of input) (steps_are_of_lines input))
