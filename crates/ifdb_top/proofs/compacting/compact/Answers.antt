use Rattle.std.proofs.Common.{◌∙◌, sym}
use Rattle.ifdb_top.proofs.Compactions.{does_compact}
use Rattle.ifdb_top.proofs.compacting.compact.Goals as goal

pub returns-in-Ok-Some-clause-done : goal.returns-in-Ok-Some-clause-done
returns-in-Ok-Some-clause-done g c =
    does_compact c.in-Ok-Some.file (sym c.in-Ok-Some.ensures.file ∙ c.in-Ok-Some.field-0-is) c.compact_file.ensures.compacted
