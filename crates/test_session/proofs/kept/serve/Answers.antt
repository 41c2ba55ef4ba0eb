use Rattle.std.proofs.Common.{[], Ok, ap, ◌∙◌}
use Rattle.test_session.proofs.kept.serve.Goals as goal

pub serve_named-requires-clause-holds : goal.serve_named-requires-clause-holds
serve_named-requires-clause-holds g c = (c.next.ensures.end (c.in-Ok-None.is ∙ ap Ok c.in-Ok-None.field-0-is) [] c.in-Ok.ensures.begun).0
