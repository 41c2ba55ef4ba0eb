use Rattle.std.proofs.Common.{◌≡◌, ◌≤◌, true, false, length, arith, sym}
use Rattle.std.specs.Str.Lossy.{utf8_valid_len}
use Rattle.ifdb_lex.specs.Limits.{exceeds}
use Rattle.ifdb_lex.proofs.LineLaws.{tokens_within, tokens_laid_out}
use Rattle.ifdb_lex.proofs.LexLaws.{lexed_tokens, lexed_limit}
use Rattle.ifdb_lex.proofs.lexer.lex.Goals as goal

pub exceeds-requires : goal.exceeds-requires
exceeds-requires c = rw c.items.ensures (tokens_within c.without_return-line.result.now c.in-Ok.tokens c.in-Ok.ensures)

pub returns-then-exceeds-clause-limit : goal.returns-then-exceeds-clause-limit
returns-then-exceeds-clause-limit c = λ e.
    let z = c.without_return-line.result.now in
    let valid : length z ≤ utf8_valid_len z = omega (arith, c.valid_len-valid.ensures) in
    let past : exceeds z c.in-Ok.tokens ≡ true = rw (← c.items.ensures) (sym c.if-exceeds.ensures) in
    lexed_limit c.args.line.now z c.in-Ok.tokens c.without_return-line.ensures c.in-Ok.ensures valid past

pub returns-clause-tokens : goal.returns-clause-tokens
returns-clause-tokens c =
    let z = c.without_return-line.result.now in
    let valid : length z ≤ utf8_valid_len z = omega (arith, c.valid_len-valid.ensures) in
    let within : exceeds z c.in-Ok.tokens ≡ false = rw (← c.items.ensures) (sym c.if-exceeds.ensures) in
    lexed_tokens c.args.line.now z c.in-Ok.tokens c.without_return-line.ensures c.in-Ok.ensures valid within

pub returns-clause-layout : goal.returns-clause-layout
returns-clause-layout c = rw (← c.without_return-line.ensures) (tokens_laid_out c.without_return-line.result.now c.in-Ok.tokens c.in-Ok.ensures)
