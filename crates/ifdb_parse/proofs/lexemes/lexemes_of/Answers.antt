use Rattle.std.proofs.Common.{◌∙◌, sym, subst, ℕ, List}
use Rattle.ifdb_parse.specs.Readable.{AreReadable}
use Rattle.ifdb_parse.proofs.Readable.{tokens_readable}
use Rattle.ifdb_parse.proofs.lexemes.lexemes_of.Goals as goal

pub lexemes_in-requires : goal.lexemes_in-requires
lexemes_in-requires c =
    let R : List ℕ → Type 0 = λ line. AreReadable line c.args.tokens.now in
    subst R (sym (c.in-Ok.ensures.cases.0 ∙ c.without_return.ensures)) (tokens_readable c.args.line.now c.args.tokens.now c.requires.tokens c.requires.layout)
