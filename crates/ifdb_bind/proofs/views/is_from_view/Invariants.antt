use Rattle.std.proofs.Common.{◌≡◌, take, false}
use Rattle.std.specs.List.{list_any}
use Rattle.ifdb_syntax.specs.declared.select.Source.{Source}
use Rattle.ifdb_catalog.specs.Queries.{is_view}
use Rattle.ifdb_bind.proofs.views.is_from_view.Given as goal

-- none of the sources so far is a view
abbrev pub invariant-loop-source : goal.invariant-loop-source
invariant-loop-source l = list_any (λ (x : Source). is_view l.catalog x.name) (take l.source-index l.sources) ≡ false
