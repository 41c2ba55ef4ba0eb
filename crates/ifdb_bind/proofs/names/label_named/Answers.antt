use Rattle.std.proofs.Common.{◌∙◌}
use Rattle.ifdb_bind.proofs.NamedTags.{named_are_made}
use Rattle.ifdb_bind.proofs.names.label_named.Goals as goal

pub reduce-requires : goal.reduce-requires
reduce-requires c =
    named_are_made c.args.catalog.now c.args.names.now _ _ c.in_ok-tags.ensures.known c.tags.ensures (c.items.ensures ∙ c.in_ok-tags.ensures.tags)
