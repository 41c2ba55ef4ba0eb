use Rattle.std.proofs.Common.{◌≡◌, ℕ, List, drop}
use Rattle.std.specs.List.{list_all}
use Rattle.ifdb_label.specs.Tags.{MadeTag}
use Rattle.ifdb_bound.specs.declared.select.BoundSource.{BoundSource}
use Rattle.ifdb_expr.specs.Query.{is_allowed}
use Rattle.ifdb_view.specs.Made.{setting}
use Rattle.ifdb_view.proofs.sources.all_allowed.Given as goal

-- the rest decides
abbrev pub invariant-loop-source : goal.invariant-loop-source
invariant-loop-source g l =
    (tags : List MadeTag) (names : List (List ℕ))
    → list_all (λ (x : BoundSource). is_allowed (setting tags names (g.V.Views.views l.views) (g.V.Views.allows l.views)) x.relation) (drop l.source-index l.sources)
    ≡ list_all (λ (x : BoundSource). is_allowed (setting tags names (g.V.Views.views l.views) (g.V.Views.allows l.views)) x.relation) l.sources
