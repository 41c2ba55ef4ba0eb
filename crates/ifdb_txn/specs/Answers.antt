-- Answers that are the definition's, or want of memory.
use Rattle.std.specs.Prelude.{◌≡◌, ◌⊎◌, List, Option, Some, None, Result, Ok, Err}
use Rattle.ifdb_row.specs.declared.write.Write.{Write}
use Rattle.ifdb_wire.specs.declared.fault.Fault.{Fault}
use Rattle.ifdb_wire.specs.declared.fault.Fault.TheVariants.{OutOfMemory, OutOfRange}

-- the very answer; want of memory may come instead
abbrev pub Gives : {T : Type 0} → Result T Fault → Result T Fault → Type 0
Gives o (Ok x) = o ≡ Ok x
Gives o (Err f) = (f ≡ OutOfMemory) ⊎ (o ≡ Err f)

-- the list that is filled is the answer, or the refusal is; want of memory may come instead
abbrev pub Fills : {T : Type 0} → Result (List Write) Fault → Result T Fault → List Write → Type 0
Fills o (Ok x) ws = o ≡ Ok ws
Fills o (Err f) ws = (f ≡ OutOfMemory) ⊎ (o ≡ Err f)

-- what is there is given; where nothing is, that is refused as OutOfRange; want of memory may come instead
abbrev pub IsComputed : {T : Type 0} → Option T → Result T Fault → Type 0
IsComputed o (Ok x) = o ≡ Some x
IsComputed o (Err f) = (f ≡ OutOfMemory) ⊎ ((f ≡ OutOfRange) × (o ≡ None))
