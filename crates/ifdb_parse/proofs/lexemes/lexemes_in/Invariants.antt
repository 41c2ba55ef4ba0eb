use Rattle.std.proofs.Common.{◌≡◌, take}
use Rattle.ifdb_parse.specs.Lexemes.{lexemes_of}
use Rattle.ifdb_parse.proofs.lexemes.lexemes_in.Given as goal

abbrev pub invariant-loop-token : goal.invariant-loop-token
invariant-loop-token l = l.lexemes ≡ lexemes_of l.line (take l.token-index l.tokens)
