use Rattle.std.proofs.Common.{◌≡◌, ◌++◌, take, map, Some}
use Rattle.ifdb_select.proofs.outputs.add_named.Given as goal

-- the names of the things so far stand behind those from before
abbrev pub invariant-loop-thing : goal.invariant-loop-thing
invariant-loop-thing g l = l.names ≡ l.initial.names ++ map Some (map g.T.Named.called (take l.thing-index l.things))
