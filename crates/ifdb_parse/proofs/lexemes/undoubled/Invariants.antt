use Rattle.std.proofs.Common.{◌≡◌, ◌++◌, length, string_bytes}
use denote.Text.{Utf8}
use denote.Shadow.{shadow}
use Rattle.ifdb_parse.specs.Lexemes.{undoubled}
use Rattle.ifdb_parse.proofs.lexemes.undoubled.Given as goal

abbrev pub invariant-loop-at : goal.invariant-loop-at
invariant-loop-at l = shadow (Utf8 l.rest) × (string_bytes l.kept ++ undoubled l.rest ≡ undoubled l.text)

abbrev pub decreases-loop-at : goal.decreases-loop-at
decreases-loop-at l = length l.rest
