-- How some bytes begin.
use Rattle.std.specs.Prelude.{ℕ, ◌≤◌, List}
use Rattle.ifdb_io.specs.Lines.{IsLine}
use Rattle.ifdb_io.specs.Reader.{BreaksAt}
use Rattle.ifdb_io.specs.declared.lines.TheConstants.{LONGEST_LINE}
use Rattle.ifdb_loop.specs.Exchange.{IsTooLong}
use Rattle.ifdb_loop.specs.declared.chunk.Front.{Front}
use Rattle.ifdb_loop.specs.declared.chunk.Front.TheVariants as front

-- with a line whose newline stands at n, with too long a line, or they are a part of a line
abbrev pub BeginsAs : Front → List ℕ → Type 0
BeginsAs (front.Line n) bytes = BreaksAt bytes n × (n ≤ LONGEST_LINE)
BeginsAs front.TooLong bytes = IsTooLong bytes
BeginsAs front.Part bytes = IsLine bytes
