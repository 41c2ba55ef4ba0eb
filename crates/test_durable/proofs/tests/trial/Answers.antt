use Rattle.std.proofs.Common.{[], Ok, ap, ◌∙◌}
use Rattle.test_durable.proofs.tests.trial.Goals as goal

pub run_named-requires-clause-holds : goal.run_named-requires-clause-holds
run_named-requires-clause-holds g c κs within = (c.next.ensures.end (c.in-Ok-None.is ∙ ap Ok c.in-Ok-None.field-0-is) [] c.in-Ok.ensures.begun).0
