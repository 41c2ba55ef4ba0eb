use Rattle.std.proofs.Common.{◌≡◌, take, true}
use Rattle.ifdb_catalog.specs.Statements.{are_tags, tags_named}
use Rattle.ifdb_bind.proofs.names.tags_named.Given as goal

abbrev pub invariant-loop-name : goal.invariant-loop-name
invariant-loop-name l = record {
  known : are_tags l.catalog (take l.name-index l.names) ≡ true;
  tags : l.tags ≡ tags_named l.catalog (take l.name-index l.names);
}
