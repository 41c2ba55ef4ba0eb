use Rattle.std.proofs.Common.{◌≡◌, ◌∷◌, ◌++◌, take}
use Rattle.std.specs.Prelude.{flat_map}
use Rattle.ifdb_wire.specs.Text.{value_text}
use Rattle.ifdb_wire.proofs.rows.try_more.Given as goal

-- the values so far
abbrev pub invariant-loop-value : goal.invariant-loop-value
invariant-loop-value l = record {
  text : l.out.text ≡ l.fn.out.text ++ flat_map (λ value. 9 ∷ value_text value) (take l.value-index l.fn.more);
  session : l.out.session ≡ l.fn.out.session;
}
