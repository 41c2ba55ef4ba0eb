use Rattle.std.proofs.Common.{rules}
use Rattle.ifdb_turn.proofs.HandOn.{hands}
use Rattle.ifdb_turn.proofs.turnstile.Turnstile.hand_on.Goals as goal

pub fetch_add-requires : goal.fetch_add-requires
fetch_add-requires g c = (search rules, search rules, hands _ _ _ _ _ _ c.requires.turn.2.0 c.requires.turn.2.1 c.args.kept (search rules) (search rules) (search rules) (search rules))
