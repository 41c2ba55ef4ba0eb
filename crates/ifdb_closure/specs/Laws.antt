-- What the laws of closures say. A level is any list of tags.
use Rattle.std.specs.Prelude.{◌≡◌, ◌⊎◌, ℕ, ◌+◌, ◌<◌, Bool, true, false, List, None, Ok, length}
use Rattle.ifdb_syntax.specs.declared.request.Request.{Request}
use Rattle.ifdb_syntax.specs.declared.request.Request.TheVariants as request
use Rattle.ifdb_label.specs.Tags.{are_made}
use Rattle.ifdb_label.specs.Label.{flows}
use Rattle.ifdb_model.specs.Log.{Entry, all_tags, public_of}
use Rattle.ifdb_model.specs.Session.{Session}
use Rattle.ifdb_model.specs.Step.{Reader, Outcome, ask}
use Rattle.ifdb_model.specs.Run.{State, opening, session_of, Step, opens, asks, leaves, outcome_of, next, run}
use Rattle.ifdb_model.specs.Output.{texts}
use Rattle.ifdb_db.specs.Reading.{read_line}
use Rattle.ifdb_closure.specs.Closures.{ClosureLine, Speech, Greeting, nobody, hello_line, names_of, label_line, is_refusal, start, closure_replies}
use Rattle.ifdb_closure.specs.Levels.{closure_low, closure_heard, closure_quiet}
use Rattle.ifdb_closure.specs.Numbers.{are_numbers, number_at, thin}

-- ---- sessions that write nothing

-- Sessions under numbers of their own. What one of them asks does the same without the others, and is told the same.
pub record IsSame (read : Reader) (st : State) (ks : List ℕ) (n : ℕ) (line : List ℕ) : Type 0 where
  pub told : (outcome_of read st (number_at ks n) line).reply ≡ (outcome_of read (thin st ks) n line).reply
  pub goes : thin (next read st (asks (number_at ks n) line)) ks ≡ next read (thin st ks) (asks n line)
  pub leaves : thin (next read st (leaves (number_at ks n))) ks ≡ next read (thin st ks) (leaves n)

abbrev pub OthersAreNotSeen : Type 0
OthersAreNotSeen = (read : Reader) (st : State) (ks : List ℕ) → are_numbers 0 (length st.sessions) ks ≡ true → (n : ℕ) (line : List ℕ) → IsSame read st ks n line

-- A session that isn't among them, above all of them, changes nothing for them by a line that adds nothing to the log, and by leaving.
pub record IsIdle (read : Reader) (st : State) (ks : List ℕ) (h : ℕ) (line : List ℕ) : Type 0 where
  pub opens : thin (next read st opens) ks ≡ thin st ks
  pub asks : (ask read st.log (session_of st h) line).added ≡ None → thin (next read st (asks h line)) ks ≡ thin st ks
  pub leaves : thin (next read st (leaves h)) ks ≡ thin st ks

abbrev pub IdleSessionsAreNotSeen : Type 0
IdleSessionsAreNotSeen = (read : Reader) (st : State) (ks : List ℕ) (top h : ℕ) → are_numbers 0 top ks ≡ true → top < length st.sessions + 1 → top < h
    → (line : List ℕ) → IsIdle read st ks h line

-- ---- two worlds

-- HELLO adds nothing to the log, and leaves the transaction as it was
pub record Greets (o : Outcome) (s : Session) : Type 0 where
  pub adds : o.added ≡ None
  pub txn : o.session.txn ≡ s.txn

-- SET LABEL to a label adds nothing either, and gives the session that label, as far as any level can tell, or is refused
pub record Relabels (read : Reader) (log : List Entry) (s : Session) (label : List ℕ) : Type 0 where
  pub adds : (ask read log s (label_line log label)).added ≡ None
  pub gives : is_refusal (ask read log s (label_line log label)).reply ≡ false
      → (level : List ℕ) → flows (all_tags log) (ask read log s (label_line log label)).session.label level ≡ flows (all_tags log) label level

-- a greeting is one that a line was read as; or nobody's
abbrev pub IsHeard : Reader → Greeting → Type 0
IsHeard read g = ((line : List ℕ) × (read line ≡ Ok (request.Hello g.name g.key))) ⊎ (g ≡ nobody)

-- the first two lines of a call do what they say
pub record Speaks (read : Reader) : Type 0 where
  pub greets : (log : List Entry) (s : Session) (g : Greeting) → IsHeard read g → Greets (ask read log s (hello_line g)) s
  pub relabels : (steps : List Step) (s : Session) (label : List ℕ) → s.txn ≡ None → let log = (run read opening steps).log in
      are_made (length (all_tags log)) label ≡ true → Relabels read log s label

-- the request is a HELLO
abbrev pub is_hello : Request → Bool
is_hello (request.Hello name key) = true
is_hello _ = false

-- they do so if they are read as what they are, where they are read as anything
pub record ReadsBack (read : Reader) : Type 0 where
  pub hello : (g : Greeting) → IsHeard read g → (r : Request) → read (hello_line g) ≡ Ok r → is_hello r ≡ true
  pub label : (steps : List Step) (label : List ℕ) → let log = (run read opening steps).log in are_made (length (all_tags log)) label ≡ true
      → (r : Request) → read (label_line log label) ≡ Ok r → r ≡ request.SetLabel (names_of (public_of log) label)

abbrev pub SpeaksBack : Type 0
SpeaksBack = (read : Reader) → ReadsBack read → Speaks read

-- run alone, the script's steps that are asked inside are told what they are told among the others
abbrev pub ClosuresAlone : Type 0
ClosuresAlone = (x : Speech) → ReadsBack x.read → (level : List ℕ) (steps : List Step) → closure_quiet x level start steps ≡ true
    → closure_replies x start (closure_low x level start steps) ≡ closure_heard x level start steps

-- two scripts that agree below the level, neither of which crosses it, are heard alike there
abbrev pub ClosuresTwoWorlds : Type 0
ClosuresTwoWorlds = (x : Speech) → ReadsBack x.read → (level : List ℕ) (xs ys : List Step)
    → closure_quiet x level start xs ≡ true → closure_quiet x level start ys ≡ true → closure_low x level start xs ≡ closure_low x level start ys
    → texts (closure_heard x level start xs) ≡ texts (closure_heard x level start ys)

-- so it is for the program's reading of lines, whatever lines are closures' own
abbrev pub ReadClosuresTwoWorlds : Type 0
ReadClosuresTwoWorlds = (form : List ℕ → ClosureLine) (level : List ℕ) (xs ys : List Step) → let x : Speech = record { read = read_line; form = form } in
    closure_quiet x level start xs ≡ true → closure_quiet x level start ys ≡ true → closure_low x level start xs ≡ closure_low x level start ys
    → texts (closure_heard x level start xs) ≡ texts (closure_heard x level start ys)
