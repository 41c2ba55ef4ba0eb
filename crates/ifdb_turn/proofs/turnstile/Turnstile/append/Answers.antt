use Rattle.std.proofs.Common.{rules}
use Rattle.ifdb_turn.proofs.Append.{appends}
use Rattle.ifdb_turn.proofs.turnstile.Turnstile.append.Goals as goal

pub fetch_add-requires : goal.fetch_add-requires
fetch_add-requires g c = (search rules, search rules, appends _ _ _ _ c.requires.entry.0 _ _ _ c.requires.turn.2.0 c.requires.turn.1 c.requires.turn.2.1 c.requires.entry.1 c.requires.entry.2.0 c.requires.entry.2.1)
