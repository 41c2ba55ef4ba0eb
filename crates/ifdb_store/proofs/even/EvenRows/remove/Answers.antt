use Rattle.std.proofs.Common.{◌≡◌, ◌<◌, ◌+◌, ◌*◌, ◌++◌, ◌∙◌, ap, arith, drop, length, rules, take}
use Rattle.ifdb_row.specs.Runs.{even_rows}
use Rattle.ifdb_row.proofs.EvenRows.{even_length, front_within, row_within}
use Rattle.ifdb_store.proofs.InPlace.{even_remove, remove_long}
use Rattle.ifdb_store.proofs.Splicing.{empty}
use Rattle.ifdb_store.proofs.even.EvenRows.remove.Goals as goal

pub remove-requires : goal.remove-requires
remove-requires c =
    let e = c.self.inside in
    let i = c.args.place in
    let all = ap length c.self.view_is in
    let lt : i < length e.heads = omega (arith, even_length e.key e.width e.heads e.refs e.cells, all, c.requires) in
    lt

pub overflow_mul-place : goal.overflow_mul-place
overflow_mul-place c =
    let e = c.self.inside in
    let i = c.args.place in
    let all = ap length c.self.view_is in
    let lt : i < length e.heads = omega (arith, even_length e.key e.width e.heads e.refs e.cells, all, c.requires) in
    let within = front_within i (length e.heads) e.width (length e.cells) (omega (arith, lt)) c.self.invariant.1 in
    omega arith

pub remove_all-requires : goal.remove_all-requires
remove_all-requires c =
    let e = c.self.inside in
    let i = c.args.place in
    let all = ap length c.self.view_is in
    let lt : i < length e.heads = omega (arith, even_length e.key e.width e.heads e.refs e.cells, all, c.requires) in
    row_within i (length e.heads) e.width (length e.cells) lt c.self.invariant.1

pub invariant_of-self : goal.invariant_of-self
invariant_of-self c =
    let e = c.self.inside in
    let i = c.args.place in
    let all = ap length c.self.view_is in
    let lt : i < length e.heads = omega (arith, even_length e.key e.width e.heads e.refs e.cells, all, c.requires) in
    let none : length e.refs ≡ 0 = search rules in
    let many : length c.remove.new.self * e.width ≡ length (take i e.heads ++ drop (i + 1) e.heads) * e.width = ap (λ hs. length hs * e.width) c.remove.ensures in
    let long = remove_long e.key e.width c.self.invariant.0 e.heads e.refs e.cells c.self.invariant.1 i (empty e.refs none) lt in
    (c.self.invariant.0, omega (arith, many, ap length c.remove_all.ensures, long))

pub returns : goal.returns
returns c =
    let e = c.self.inside in
    let i = c.args.place in
    let all = ap length c.self.view_is in
    let lt : i < length e.heads = omega (arith, even_length e.key e.width e.heads e.refs e.cells, all, c.requires) in
    let none : length e.refs ≡ 0 = search rules in
    ap (λ hs. even_rows e.key e.width hs e.refs c.remove_all.new.self) c.remove.ensures
    ∙ (ap (even_rows e.key e.width (take i e.heads ++ drop (i + 1) e.heads) e.refs) c.remove_all.ensures
    ∙ (even_remove e.key e.width c.self.invariant.0 e.heads e.refs e.cells c.self.invariant.1 i (empty e.refs none) lt
    ∙ ap (λ rows. take i rows ++ drop (i + 1) rows) c.self.view_is))
