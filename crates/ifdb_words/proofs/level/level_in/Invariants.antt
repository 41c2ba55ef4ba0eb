use Rattle.std.proofs.Common.{◌≡◌, ◌++◌, drop, map}
use Rattle.std.specs.List.{list_all}
use Rattle.std.specs.Str.Parse.{digits_value}
use Rattle.ifdb_words.specs.Numbers.{is_number}
use Rattle.ifdb_words.proofs.level.level_in.Given as goal

abbrev pub invariant-loop-piece : goal.invariant-loop-piece
invariant-loop-piece l = record {
  passed : list_all (is_number 18) (map (λ p. p.now) (drop l.piece-index l.pieces)) ≡ list_all (is_number 18) (map (λ p. p.now) l.pieces);
  tags_are : l.tags.items ++ map (digits_value 10) (map (λ p. p.now) (drop l.piece-index l.pieces)) ≡ map (digits_value 10) (map (λ p. p.now) l.pieces);
}
