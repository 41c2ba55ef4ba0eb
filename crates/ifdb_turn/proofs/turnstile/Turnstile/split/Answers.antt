use Rattle.std.proofs.Common.{rules, inl}
use Rattle.ifdb_turn.proofs.SplitPass.{splits}
use Rattle.ifdb_turn.proofs.turnstile.Turnstile.split.Goals as goal

pub split_seat-seat-requires : goal.split_seat-seat-requires
split_seat-seat-requires g c = (search rules, search rules, splits _ _ _ _ 1 _ (inl (search rules, c.requires.two_shares, search rules)))
