use Rattle.std.proofs.Common.{◌∙◌, ap, false, codes}
use Rattle.clap.specs.Words.{app_of, with_rule}
use Rattle.ifdb_words.specs.Clap.{option_of}
use Rattle.ifdb_words.proofs.Adding.{option_added}
use Rattle.ifdb_words.proofs.loops.with_bounds.Goals as goal

pub returns : goal.returns
returns c =
    let before = app_of c.args.command in
    let first = c.in_ok-with_connections.ensures.shape c.option.ensures.local ∙ ap (with_rule before) c.option.ensures.rule in
    option_added c.arg-2.result c.in_ok-with_connections.with_connections c.option-2.result (with_rule before (option_of (codes "connections") false))
    (option_of (codes "limit") false) c.option-2.ensures.local c.option-2.ensures.rule first c.arg-2.ensures
