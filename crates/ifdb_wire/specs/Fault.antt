-- decides: replies as text
-- The numbers and texts of refusals.
use Rattle.std.specs.Prelude.{ℕ, List, [], ◌++◌, codes, decimal}
use Rattle.ifdb_wire.specs.declared.fault.Fault.{Fault}
use Rattle.ifdb_wire.specs.declared.fault.Fault.TheVariants as fault

-- the number and the name of each fault: the one table of them
abbrev pub entry_of : Fault → ℕ × List ℕ
entry_of (fault.Syntax at) = (1, codes "Syntax")
entry_of fault.NotHello = (2, codes "NotHello")
entry_of fault.HelloTwice = (3, codes "HelloTwice")
entry_of fault.BadKey = (4, codes "BadKey")
entry_of fault.Taken = (5, codes "Taken")
entry_of fault.UnknownName = (6, codes "UnknownName")
entry_of fault.LabelNotEmpty = (7, codes "LabelNotEmpty")
entry_of fault.NoAuthority = (8, codes "NoAuthority")
entry_of fault.InTransaction = (9, codes "InTransaction")
entry_of fault.NoTransaction = (10, codes "NoTransaction")
entry_of fault.TypeMismatch = (11, codes "TypeMismatch")
entry_of fault.WriteLabel = (12, codes "WriteLabel")
entry_of fault.DuplicateKey = (13, codes "DuplicateKey")
entry_of fault.NoReference = (14, codes "NoReference")
entry_of fault.OutOfRange = (15, codes "OutOfRange")
entry_of fault.CommitLabel = (16, codes "CommitLabel")
entry_of fault.Conflict = (17, codes "Conflict")
entry_of fault.BrokenReference = (18, codes "BrokenReference")
entry_of fault.StillReferenced = (19, codes "StillReferenced")
entry_of fault.OutOfMemory = (20, codes "OutOfMemory")
entry_of fault.TooLong = (21, codes "TooLong")
entry_of fault.Limit = (22, codes "Limit")
entry_of fault.NotGranted = (23, codes "NotGranted")
entry_of fault.KeyColumn = (24, codes "KeyColumn")
entry_of fault.NotCompound = (25, codes "NotCompound")
entry_of fault.NotATable = (26, codes "NotATable")
entry_of fault.ViewAuthority = (27, codes "ViewAuthority")
entry_of fault.NoSession = (28, codes "NoSession")
entry_of fault.OverClearance = (29, codes "OverClearance")
entry_of fault.ClosureLabel = (30, codes "ClosureLabel")

-- the number of a fault
abbrev pub number_of : Fault → ℕ
number_of f = (entry_of f).0

-- its name
abbrev pub name_of : Fault → List ℕ
name_of f = (entry_of f).1

-- what stands behind a fault's name: the place of Syntax, and of every other fault nothing
abbrev pub place_text : Fault → List ℕ
place_text (fault.Syntax at) = codes " " ++ decimal at
place_text other = []

-- the text of a fault: its number, its name and its place
abbrev pub fault_text : Fault → List ℕ
fault_text f = codes "ERR " ++ decimal (number_of f) ++ codes " " ++ name_of f ++ place_text f
