use Rattle.std.proofs.Common.{◌∙◌, ap, map, List, ◌++◌, ◌∷◌, []}
use Rattle.ifdb_value.specs.declared.value.Value.{Value}
use Rattle.ifdb_expr.specs.ByReference.{owned}
use Rattle.ifdb_group.specs.Tallies.{Totals}
use Rattle.ifdb_group.proofs.Tallying.{first_total}
use Rattle.ifdb_group.proofs.table.Table.add_key.Goals as goal

pub returns : goal.returns
returns c = (
  c.in_ok-push-2.ensures.ok ∙ ap (λ (l : List Value). c.args.self.now.keys ++ l ∷ []) (ap (map owned) c.in_ok-key.ensures.items),
  c.in_ok-push.ensures.items ∙ ap (λ (t : Totals). c.args.self.now.totals.items ++ t ∷ []) (first_total c.args.items.now c.args.frame.now c.in_ok-total.total c.add.new.self c.in_ok-total.ensures c.in_ok-add.ensures),
)
