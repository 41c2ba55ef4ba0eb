use Rattle.std.proofs.Common.{◌≡◌, ◌∙◌, true, false, length, nat_le, rules, sym, ap}
use Rattle.std.specs.Str.Lossy.{utf8_valid_len}
use Rattle.ifdb_lex.specs.Line.{without_return}
use Rattle.ifdb_keyed.proofs.KeyFiles.{key_front, key_if, key_made, no_text}
use Rattle.ifdb_keyed.proofs.key_file.key_in.Goals as goal

pub returns-then-not-is_text : goal.returns-then-not-is_text
returns-then-not-is_text c = λ bytes front.
    let line = c.without_return-line.result.now in
    let other : nat_le (length line) (utf8_valid_len line) ≡ false = search rules in
    let is = c.without_return-line.ensures ∙ ap without_return c.first_line.ensures in
    sym (no_text line other) ∙ (ap key_if is ∙ key_front bytes c.args.front.now front)

pub returns : goal.returns
returns c = λ bytes front.
    let line = c.without_return-line.result.now in
    let valid : nat_le (length line) (utf8_valid_len line) ≡ true = search rules in
    let is = c.without_return-line.ensures ∙ ap without_return c.first_line.ensures in
    let e = c.new.ensures in
    key_made line c.new.result valid e.bytes e.none e.some ∙ (ap key_if is ∙ key_front bytes c.args.front.now front)
