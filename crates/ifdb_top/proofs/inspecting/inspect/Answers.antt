use Rattle.std.proofs.Common.{◌∙◌, sym}
use Rattle.ifdb_top.proofs.Inspections.{does_inspect}
use Rattle.ifdb_top.proofs.inspecting.inspect.Goals as goal

pub returns-in-Ok-Some-clause-done : goal.returns-in-Ok-Some-clause-done
returns-in-Ok-Some-clause-done g c =
    does_inspect c.in-Ok-Some.file (sym c.in-Ok-Some.ensures.file ∙ c.in-Ok-Some.field-0-is) c.inspect_file.ensures.inspected
