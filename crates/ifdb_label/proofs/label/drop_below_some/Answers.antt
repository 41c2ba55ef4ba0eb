use Rattle.std.proofs.Common.{rules}
use Rattle.std.specs.Prelude.{not}
use Rattle.std.proofs.lemmas.Fn.{filter_same}
use Rattle.ifdb_label.specs.Label.{is_below_some}
use Rattle.ifdb_label.proofs.label.drop_below_some.Goals as goal

pub returns : goal.returns
returns c = filter_same _ (λ t. not (is_below_some c.args.tags.now t c.args.list.now)) _ (λ t b f r. search rules) _ _ c.retain.ensures.filtered
