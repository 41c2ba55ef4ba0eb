-- decides: replies as text
-- What a script's run writes, where memory was refused at some of its steps.
use Rattle.std.specs.Prelude.{ℕ, Bool, true, false, List, [], ◌∷◌, ◌==◌, flat_map, Some, if◌then◌else◌}
use Rattle.ifdb_wire.specs.declared.fault.Fault.{Fault}
use Rattle.ifdb_wire.specs.declared.fault.Fault.TheVariants as fault
use Rattle.ifdb_wire.specs.declared.reply.Reply.{Reply}
use Rattle.ifdb_wire.specs.declared.reply.Reply.TheVariants as reply
use Rattle.ifdb_wire.specs.Text.{reply_text}
use Rattle.ifdb_model.specs.Step.{Reader}
use Rattle.ifdb_model.specs.Run.{Step, opens, asks, refused, long, stray, leaves, Told, opening, replies}
use Rattle.ifdb_model.specs.Script.{steps_of}

-- the fault is want of memory
abbrev pub is_memory : Fault → Bool
is_memory fault.OutOfMemory = true
is_memory _ = false

-- a reply reads error 20
abbrev pub reads_memory : Reply → Bool
reads_memory (reply.Refused f) = is_memory f
reads_memory _ = false

-- A step that takes memory, which is OPEN or a request, has a flag: it was refused. A reply of session 0 that doesn't
-- read error 20 is of a line that takes none, and has no flag.
abbrev pub flag_of : Told → List Bool
flag_of t = if reads_memory t.reply then true ∷ [] else (if t.number == 0 then [] else false ∷ [])

-- the steps that were refused for memory, by what was told
abbrev pub refusals : List Told → List Bool
refusals all = flat_map flag_of all

-- the steps, where those with a true flag are refused
abbrev pub refused_at : List Bool → List Step → List Step
refused_at flags [] = []
refused_at [] (x ∷ steps) = x ∷ steps
refused_at (false ∷ flags) (opens ∷ steps) = opens ∷ refused_at flags steps
refused_at (true ∷ flags) (opens ∷ steps) = refused 0 ∷ refused_at flags steps
refused_at (false ∷ flags) (asks n line ∷ steps) = asks n line ∷ refused_at flags steps
refused_at (true ∷ flags) (asks n line ∷ steps) = refused n ∷ refused_at flags steps
refused_at (flag ∷ flags) (refused n ∷ steps) = refused n ∷ refused_at (flag ∷ flags) steps
refused_at (flag ∷ flags) (long ∷ steps) = long ∷ refused_at (flag ∷ flags) steps
refused_at (flag ∷ flags) (stray ∷ steps) = stray ∷ refused_at (flag ∷ flags) steps
refused_at (flag ∷ flags) (leaves n ∷ steps) = leaves n ∷ refused_at (flag ∷ flags) steps

-- what a script is told, with these steps refused
abbrev pub told_of : Reader → List ℕ → List Bool → List Told
told_of read bytes flags = replies read opening (refused_at flags (steps_of bytes))

-- the text of what is told
abbrev pub text_of : Told → List ℕ
text_of t = reply_text (Some t.number) t.reply

-- the texts of all that is told, one behind the other
abbrev pub texts : List Told → List ℕ
texts all = flat_map text_of all

-- what a script's run writes, with these steps refused
abbrev pub output : Reader → List ℕ → List Bool → List ℕ
output read bytes flags = texts (told_of read bytes flags)
