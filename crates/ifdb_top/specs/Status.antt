-- decides: the program
-- How the program may end.
use Rattle.ifdb_top.specs.declared.base.Status.{Status}
use Rattle.ifdb_top.specs.declared.base.Status.TheVariants.{Done, Usage, WriteFault, OutOfMemory, SiteFault}

-- where nothing had a fault, and a script keeps to its limit, the program ends in one of these two ways
abbrev pub EndsWell : Status → Type 0
EndsWell Done = Unit {0}
EndsWell OutOfMemory = Unit {0}
EndsWell _ = ⊥

-- the usage line was to be written, or there was no memory to read the words
abbrev pub IsUsage : Status → Type 0
IsUsage Usage = Unit {0}
IsUsage WriteFault = Unit {0}
IsUsage OutOfMemory = Unit {0}
IsUsage _ = ⊥

-- a text was made and written, or there was no memory to make it, or the output failed
abbrev pub IsMade : Status → Type 0
IsMade Done = Unit {0}
IsMade WriteFault = Unit {0}
IsMade OutOfMemory = Unit {0}
IsMade _ = ⊥

-- a script was run, or there was no memory to begin
abbrev pub IsRunEnd : Status → Type 0
IsRunEnd Usage = ⊥
IsRunEnd SiteFault = ⊥
IsRunEnd _ = Unit {0}

-- connections were served, or there was no memory to begin, or the output or the site failed
abbrev pub IsServeEnd : Status → Type 0
IsServeEnd Done = Unit {0}
IsServeEnd WriteFault = Unit {0}
IsServeEnd OutOfMemory = Unit {0}
IsServeEnd SiteFault = Unit {0}
IsServeEnd _ = ⊥
