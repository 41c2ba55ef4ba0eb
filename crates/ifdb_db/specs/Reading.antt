-- decides: the grammar
-- How a line is read.
use Rattle.std.specs.Prelude.{◌≡◌, ◌⊎◌, List, ℕ, IsTrue, Result, Ok, Err}
use Rattle.ifdb_syntax.specs.declared.request.Request.{Request}
use Rattle.ifdb_parse.specs.declared.fault.ParseFault.{ParseFault}
use Rattle.ifdb_parse.specs.declared.fault.ParseFault.TheVariants as read
use Rattle.ifdb_parse.specs.Parsed.{parsed}
use Rattle.ifdb_wire.specs.declared.fault.Fault.{Fault}
use Rattle.ifdb_wire.specs.declared.fault.Fault.TheVariants as fault
use Rattle.ifdb_model.specs.Step.{Reader, form_of, looks}
use Rattle.ifdb_snapshot.specs.Narrow.{is_narrow}

-- the refusal of a line with a fault
abbrev pub line_fault : ParseFault → Fault
line_fault (read.Syntax at) = fault.Syntax at
line_fault read.Limit = fault.Limit
line_fault read.OutOfMemory = fault.OutOfMemory

-- a line's request, or the refusal of its fault
abbrev pub request_or_fault : Result Request ParseFault → Result Request Fault
request_or_fault (Ok r) = Ok r
request_or_fault (Err f) = Err (line_fault f)

-- by the grammar, with the faults of a line in their order
abbrev pub read_line : Reader
read_line line = request_or_fault (parsed line)

-- a line was read so: its request, whose tables are narrow, or the refusal of its fault; or there was no memory
abbrev pub IsRead : List ℕ → Result Request Fault → Type 0
IsRead line (Ok r) = (read_line line ≡ Ok r) × IsTrue (is_narrow r)
IsRead line (Err f) = (f ≡ fault.OutOfMemory) ⊎ (read_line line ≡ Err f)

-- a line was read as this request, which is a SELECT
abbrev pub IsReadAsSelect : List ℕ → Request → Type 0
IsReadAsSelect line r = (read_line line ≡ Ok r) × IsTrue (is_narrow r) × (form_of r ≡ looks)
