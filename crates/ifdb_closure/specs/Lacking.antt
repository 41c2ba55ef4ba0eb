-- decides: closures
-- What a script with closures is told, where memory is refused at some of its steps.
use Rattle.std.specs.Prelude.{◌≡◌, ℕ, zero, suc, ◌+◌, Bool, true, false, List, [], ◌∷◌, ◌++◌, length, map, is_some, if◌then◌else◌}
use Rattle.ifdb_wire.specs.declared.fault.Fault.TheVariants as fault
use Rattle.ifdb_model.specs.Run.{State, Step, opens, asks, refused, leaves, Told, tell}
use Rattle.ifdb_model.specs.Output.{texts}
use Rattle.ifdb_model.specs.Script.{steps_of}
use Rattle.ifdb_closure.specs.Closures.{Speech, Closure, ClosureLine, plain, calls, memory_fault, Called, called_with, closure_named, or_none, call_fault, session_fault, World, start, seated, Turn, refuses_only, turn, after_turn, closure_replies}
use Rattle.ifdb_closure.specs.Numbers.{number_at}

-- a step had its memory; it had none; or, of a CALL, a step of its own had none, by its place: 0 opens the session, 1 says HELLO, and so on
pub data Memory : Type 0 where
  enough : Memory
  lacks : Memory
  lacks_at : ℕ → Memory

-- the flags of lines of which the one at this place has no memory
abbrev pub lacks_only : ℕ → List Bool
lacks_only zero = true ∷ []
lacks_only (suc i) = false ∷ lacks_only i

-- the steps of session h: those asked, the refused one, and that it leaves
abbrev pub cut_steps : ℕ → Called → List Step
cut_steps h c = map (asks h) c.asked ++ ((if c.lacked then refused h ∷ [] else []) ++ leaves h ∷ [])

-- the steps that a call with these flags stands for
abbrev pub call_steps_with : Speech → State → List ℕ → Closure → List Bool → List Step
call_steps_with x st label c flags = opens ∷ cut_steps (length st.sessions + 1) (called_with x st label c flags)

-- A CALL one of whose own steps has no memory. The session that wasn't opened doesn't leave; the last place is that of the COMMIT.
abbrev pub call_cut : Speech → World → ℕ → List ℕ → Closure → ℕ → Turn
call_cut x w n label c zero = record { steps = refused 0 ∷ []; told = tell n memory_fault; seats = w.seats; greetings = w.greetings; closures = w.closures }
call_cut x w n label c (suc i) = record {
  steps = call_steps_with x w.state label c (lacks_only i);
  told = tell n (called_with x w.state label c (lacks_only i)).told;
  seats = w.seats;
  greetings = w.greetings;
  closures = w.closures;
}

-- a line without memory: one of the server's own is the machine's refusal, and CREATE CLOSURE and CALL are no step of it
abbrev pub lacking_line : World → ℕ → ClosureLine → Turn
lacking_line w n plain =
    record { steps = refused (number_at w.seats n) ∷ []; told = tell n memory_fault; seats = w.seats; greetings = w.greetings; closures = w.closures }
lacking_line w n _ = refuses_only w n fault.OutOfMemory

-- only a CALL that isn't refused at once has steps of its own
abbrev pub lacking_at : Speech → World → ℕ → ℕ → List ℕ → ClosureLine → Turn
lacking_at x w i n line (calls name) = if is_some (call_fault (is_some (closure_named w.closures name)) (session_fault (seated w n))) then turn x w (asks n line) else call_cut x w n (seated w n).label (or_none (closure_named w.closures name)) i
lacking_at x w i n line _ = turn x w (asks n line)

abbrev pub turn_with : Speech → World → Memory → Step → Turn
turn_with x w enough step = turn x w step
turn_with x w lacks opens = record { steps = refused 0 ∷ []; told = tell 0 memory_fault; seats = w.seats; greetings = w.greetings; closures = w.closures }
turn_with x w lacks (asks n line) = lacking_line w n (x.form line)
turn_with x w lacks step = turn x w step
turn_with x w (lacks_at i) (asks n line) = lacking_at x w i n line (x.form line)
turn_with x w (lacks_at i) step = turn x w step

-- what a script's steps are told, with the memory that each has
abbrev pub told_with : Speech → World → List Memory → List Step → List Told
told_with x w memory [] = []
told_with x w [] (step ∷ steps) = (turn x w step).told ++ told_with x (after_turn x w (turn x w step)) [] steps
told_with x w (m ∷ memory) (step ∷ steps) = (turn_with x w m step).told ++ told_with x (after_turn x w (turn_with x w m step)) memory steps

-- what a script writes
abbrev pub closure_output : Speech → List ℕ → List Memory → List ℕ
closure_output x bytes memory = texts (told_with x start memory (steps_of bytes))

-- with enough memory everywhere a script is told what it is told
abbrev pub MemoryServes : Type 0
MemoryServes = (x : Speech) (w : World) (steps : List Step) → told_with x w [] steps ≡ closure_replies x w steps
