-- decides: the journal
-- The kinds of records.
use Rattle.std.specs.Prelude.{ℕ, Bool, ◌&&◌, ◌||◌, ◌==◌, nat_le, if◌then◌else◌}
use Rattle.ifdb_journal.specs.declared.record.RecordKind.{RecordKind}
use Rattle.ifdb_journal.specs.declared.record.RecordKind.TheVariants as kind

abbrev pub kind_byte : RecordKind → ℕ
kind_byte kind.Open = 1
kind_byte kind.Ask = 2
kind_byte kind.Restart = 3

abbrev pub kind_of : ℕ → RecordKind
kind_of b = if b == 1 then kind.Open else (if b == 2 then kind.Ask else kind.Restart)

-- what may stand with a kind: a line of an Ask has at most 65,535 bytes, and the others have session 0 and no line
abbrev pub is_fine : ℕ → ℕ → ℕ → Bool
is_fine k session size = if k == 2 then nat_le size 65535 else ((k == 1 || k == 3) && session == 0 && size == 0)
