use Rattle.std.proofs.Common.{◌∙◌, sym}
use Rattle.ifdb_top.proofs.Serving.{does_host}
use Rattle.ifdb_top.proofs.hosting.host.Goals as goal

pub returns-in-Ok-Some-clause-done : goal.returns-in-Ok-Some-clause-done
returns-in-Ok-Some-clause-done g c =
    does_host c.in-Ok-Some.hosting (sym c.in-Ok-Some.ensures.host ∙ c.in-Ok-Some.field-0-is) c.host_in_file.ensures.hosted
