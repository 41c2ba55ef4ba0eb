use Rattle.std.proofs.Common.{◌≡◌, ◌+◌, ◌-◌, ◌++◌, ◌∙◌, sym, ap, arith, rules, take, drop, get_or}
use Rattle.ifdb_wire.specs.Text.{escaped, escaped_byte}
use Rattle.std.proofs.lemmas.List.{take_rest}
use Rattle.ifdb_wire.proofs.Escapes.{is_escaped-ahead, escaped-ahead, escaped-rest, joined}
use Rattle.ifdb_wire.proofs.rows.try_escaped.Goals as goal

pub escape-requires : goal.escape-requires
escape-requires c = is_escaped-ahead c.args.text.now c.loop-ahead.from c.in-Some.ahead (sym c.first_escaped.ensures.place ∙ c.in-Some.is)

pub loop-ahead-preserved : goal.loop-ahead-preserved
loop-ahead-preserved c =
    let text = c.args.text.now in
    let from = c.loop-ahead.from in
    let ahead = c.in-Some.ahead in
    let step = escaped-ahead text from ahead (sym c.first_escaped.ensures.place ∙ c.in-Some.is) in
    let run : from + ahead - from ≡ ahead = omega arith in
    record {
      text = rw (c.in_ok-try_add-2.ensures.text, c.in_ok-try_add.ensures.text, c.escape.ensures, run)
          (joined c.loop-ahead.out.text (take ahead (drop from text)) (escaped_byte (get_or text (from + ahead) 0)) (escaped (drop (from + ahead + 1) text))
          ∙ ap (λ rest. c.loop-ahead.out.text ++ rest) (sym step) ∙ c.loop-ahead.invariant.text);
      session = search rules;
      within = search rules;
    }

pub returns-clause-text : goal.returns-clause-text
returns-clause-text c =
    let text = c.args.text.now in
    let from = c.loop-ahead.from in
    let plain = escaped-rest text from (sym c.first_escaped.ensures.place ∙ c.in_default.is) in
    rw (take_rest text from, sym plain, c.loop-ahead.invariant.text) at c.try_add-2.ensures.text
