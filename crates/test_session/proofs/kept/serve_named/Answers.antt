use Rattle.std.proofs.Common.{rules}
use Rattle.test_session.proofs.kept.serve_named.Goals as goal

pub close-writer-requires-clause-shares : goal.close-writer-requires-clause-shares
close-writer-requires-clause-shares g c = c.serve_link-ending.ensures.keeper.2 4294967296 (search rules)
