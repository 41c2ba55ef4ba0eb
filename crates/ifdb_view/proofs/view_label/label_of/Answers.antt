use Rattle.std.proofs.Common.{◌∙◌, length, ◌++◌}
use Rattle.std.specs.Prelude.{flat_map}
use Rattle.ifdb_bound.specs.Query.{SourceRow}
use Rattle.ifdb_view.proofs.Making.{labels_made}
use Rattle.ifdb_view.proofs.view_label.label_of.Goals as goal

pub reduce-requires : goal.reduce-requires
reduce-requires c =
    labels_made (length c.args.tags.now) c.args.frame.now c.deref.result.now c.requires.made
    (c.deref.ensures.value ∙ c.in_ok-push_labels.ensures
    ∙ (λ i. c.new-all.ensures.items i ++ flat_map (λ (r : SourceRow). r.label) (c.rows.ensures i)))
