-- A view of its body, its name and its owner.
use Rattle.std.specs.Prelude.{ℕ, List}
use Rattle.ifdb_bound.specs.declared.request.Bound.{Bound}
use Rattle.ifdb_bound.specs.declared.request.Bound.TheVariants as b
use Rattle.ifdb_bound.specs.declared.request.Change.TheVariants as change
use Rattle.ifdb_bind.specs.declared.views.ViewBody.{ViewBody}

-- the change that makes the view
abbrev pub view_of : ℕ → List ℕ → ViewBody → Bound
view_of owner name body = b.Change (change.View (record {
  name = name;
  owner = owner;
  select = body.select;
  names = body.names;
  declassifying = body.declassifying;
}))
