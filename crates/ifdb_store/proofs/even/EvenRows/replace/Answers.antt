use Rattle.std.proofs.Common.{◌≡◌, ◌≤◌, ◌<◌, ◌*◌, ◌∙◌, ap, arith, length, rules, set, true}
use Rattle.std.proofs.lemmas.Bool.Decides.{nat_tests}
use Rattle.ifdb_row.specs.ByReference.{row_of}
use Rattle.ifdb_row.specs.Runs.{even_rows}
use Rattle.ifdb_row.proofs.EvenRows.{even_length, front_within}
use Rattle.ifdb_store.specs.Shapes.{cells_in, has_shape, head_in, is_unbound}
use Rattle.ifdb_store.specs.declared.even.Shape.{Shape}
use Rattle.ifdb_store.proofs.InPlace.{cells_wide, even_set, one_row, set_long, set_within}
use Rattle.ifdb_store.proofs.Splicing.{empty}
use Rattle.ifdb_store.proofs.even.EvenRows.replace.Goals as goal

pub set-requires : goal.set-requires
set-requires c =
    let e = c.self.inside in
    let all = ap length c.self.view_is in
    omega (arith, even_length e.key e.width e.heads e.refs e.cells, all, c.requires)

pub overflow_mul-place : goal.overflow_mul-place
overflow_mul-place c =
    let e = c.self.inside in
    let all = ap length c.self.view_is in
    let lt : c.args.place ≤ length e.heads = omega (arith, even_length e.key e.width e.heads e.refs e.cells, all, c.requires) in
    let within = front_within c.args.place (length e.heads) e.width (length e.cells) lt c.self.invariant.1 in
    omega arith

pub swap-requires : goal.swap-requires
swap-requires c =
    let e = c.self.inside in
    let s : Shape = record { key = e.key; width = e.width } in
    let x = row_of c.args.row in
    let all = ap length c.self.view_is in
    let lt : c.args.place < length e.heads = omega (arith, even_length e.key e.width e.heads e.refs e.cells, all, c.requires) in
    let shaped : has_shape s x ≡ true = search rules in
    let cells : c.deref_mut.result.now ≡ cells_in x = c.deref_mut.ensures.value ∙ c.in-Ok-Ok.ensures' in
    let wide : length c.deref_mut.result.now ≡ e.width = ap length cells ∙ cells_wide s c.self.invariant.0 x shaped in
    set_within e.key e.width c.self.invariant.0 e.heads e.refs e.cells c.self.invariant.1 c.args.place lt c.deref_mut.result.now wide

pub returns : goal.returns
returns c =
    let e = c.self.inside in
    let s : Shape = record { key = e.key; width = e.width } in
    let x = row_of c.args.row in
    let all = ap length c.self.view_is in
    let lt : c.args.place < length e.heads = omega (arith, even_length e.key e.width e.heads e.refs e.cells, all, c.requires) in
    let shaped : has_shape s x ≡ true = search rules in
    let cells : c.deref_mut.result.now ≡ cells_in x = c.deref_mut.ensures.value ∙ c.in-Ok-Ok.ensures' in
    let wide : length c.deref_mut.result.now ≡ e.width = ap length cells ∙ cells_wide s c.self.invariant.0 x shaped in
    let none : length e.refs ≡ 0 = search rules in
    let free : length c.parents.result.now ≡ 0 = search rules in
    let refs : length c.parents.result.now ≡ length x.refs = ap length c.parents.ensures in
    let unbound : is_unbound x ≡ true = grind (arith, nat_tests, free, refs) in
    let head : c.in-Ok-Ok.head ≡ head_in x = λ i. record { table = c.in-Ok-Ok.ensures.table i; label = c.in-Ok-Ok.ensures.label i } in
    let one = one_row s c.self.invariant.0 x c.in-Ok-Ok.head c.deref_mut.result.now shaped unbound head cells in
    ap (λ hs. even_rows e.key e.width hs e.refs c.swap.new.self) c.set.ensures
    ∙ (ap (even_rows e.key e.width (set e.heads c.args.place c.in-Ok-Ok.head) e.refs) c.swap.ensures
    ∙ (even_set e.key e.width c.self.invariant.0 e.heads e.refs e.cells c.self.invariant.1 c.args.place lt c.deref_mut.result.now wide c.in-Ok-Ok.head x (empty e.refs none) one
    ∙ ap (λ rows. set rows c.args.place x) c.self.view_is))

pub invariant_of-self : goal.invariant_of-self
invariant_of-self c =
    let e = c.self.inside in
    let s : Shape = record { key = e.key; width = e.width } in
    let x = row_of c.args.row in
    let all = ap length c.self.view_is in
    let lt : c.args.place < length e.heads = omega (arith, even_length e.key e.width e.heads e.refs e.cells, all, c.requires) in
    let shaped : has_shape s x ≡ true = search rules in
    let cells : c.deref_mut.result.now ≡ cells_in x = c.deref_mut.ensures.value ∙ c.in-Ok-Ok.ensures' in
    let wide : length c.deref_mut.result.now ≡ e.width = ap length cells ∙ cells_wide s c.self.invariant.0 x shaped in
    let heads : length c.set.new.self * e.width ≡ length (set e.heads c.args.place c.in-Ok-Ok.head) * e.width = ap (λ l. length l * e.width) c.set.ensures in
    let values = ap length c.swap.ensures in
    let long = set_long e.key e.width c.self.invariant.0 e.heads e.refs e.cells c.self.invariant.1 c.args.place lt c.deref_mut.result.now wide c.in-Ok-Ok.head in
    (c.self.invariant.0, omega (arith, heads, values, long))
