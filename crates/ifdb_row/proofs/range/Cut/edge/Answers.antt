use Rattle.std.proofs.Common.{◌∙◌, sym, ap}
use Rattle.std.specs.Prelude.{nat_lt, ◌==◌, if◌then◌else◌}
use Rattle.std.specs.Ordering.{is_lt}
use Rattle.ifdb_row.specs.Slots.{key_cmp}
use Rattle.ifdb_row.specs.Fronts.{front_cmp}
use Rattle.ifdb_row.specs.Ranges.{is_before}
use Rattle.ifdb_row.proofs.Fronts.{front_lt}
use Rattle.ifdb_row.proofs.range.Cut.edge.Goals as goal

pub returns-in-Before : goal.returns-in-Before
returns-in-Before c s =
    let t = c.args.table in
    let v = c.args.self.now.values in
    ap (λ b. if s.table == t then b else nat_lt s.table t)
    (ap (λ k. is_lt (key_cmp s.key k)) c.items.ensures ∙ front_lt s.key v ∙ ap (λ d. is_before d (front_cmp s.key v)) (sym c.in-Before.is))
