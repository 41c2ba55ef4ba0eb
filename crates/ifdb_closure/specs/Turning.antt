-- What CREATE CLOSURE and CALL come to.
use Rattle.std.specs.Prelude.{◌≡◌, ◌⊎◌, ℕ, List, Option, Some, None, Result, Ok, Err, is_some}
use Rattle.ifdb_wire.specs.declared.fault.Fault.{Fault}
use Rattle.ifdb_wire.specs.declared.fault.Fault.TheVariants as fault
use Rattle.ifdb_wire.specs.declared.reply.Reply.TheVariants as reply
use Rattle.ifdb_wire.specs.Text.{reply_text}
use Rattle.ifdb_model.specs.Run.{asks}
use Rattle.ifdb_model.specs.Step.{is_empty}
use Rattle.ifdb_closure.specs.declared.stage.Stage.{Stage}
use Rattle.ifdb_closure.specs.Closures.{Closure, World, calls, closure_named, create_fault, creates_by, after_turn, greeting_in, seated, session_fault}
use Rattle.ifdb_closure.specs.Forms.{closure_form}
use Rattle.ifdb_closure.specs.Speaking.{speech}
use Rattle.ifdb_closure.specs.Standing.{IsFor, Turned}

-- the closure that session n defines
abbrev pub closure_by : World → ℕ → List ℕ → List (List ℕ) → Closure
closure_by w n name statements = record { name = name; owner = greeting_in w.greetings n; statements = statements }

abbrev pub create_refusal : World → ℕ → List ℕ → Option Fault
create_refusal w n name = create_fault (is_empty (seated w n).label) (is_some (closure_named w.closures name)) (session_fault (seated w n))

-- it was entered; or refused, or there was no memory for it, and the world is as before
abbrev pub IsEntered : {T : Type 0} → Stage → World → ℕ → List ℕ → List (List ℕ) → Result T Fault → Type 0
IsEntered new w n name statements (Ok x) =
    (create_refusal w n name ≡ None) × IsFor new (after_turn speech w (creates_by w n (closure_by w n name statements) None))
IsEntered new w n name statements (Err f) = IsFor new w × ((create_refusal w n name ≡ Some f) ⊎ (f ≡ fault.OutOfMemory))

abbrev pub CreateTurned : {T : Type 0} → Stage → Stage → ℕ → List ℕ → List (List ℕ) → Result T Fault → Type 0
CreateTurned old new n name statements end = (w : World) → IsFor old w → IsEntered new w n name statements end

-- the text that an end comes to, once its refusal is put
abbrev pub text_with : {T : Type 0} → ℕ → List ℕ → Result T Fault → List ℕ
text_with n text (Ok x) = text
text_with n text (Err f) = reply_text (Some n) (reply.Refused f)

-- a closure of this name was called, or the call refused, or there was no memory for it
abbrev pub CallTurned : {T : Type 0} → Stage → Stage → ℕ → List ℕ → List ℕ → Result T Fault → Type 0
CallTurned old new n name text end =
    (line : List ℕ) → closure_form line ≡ calls name → (w : World) → IsFor old w → Turned new w (asks n line) (text_with n text end)
