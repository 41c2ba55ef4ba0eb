use Rattle.std.proofs.Common.{◌≡◌, ◌≤◌, ◌+◌, ◌*◌, ◌++◌, ◌∷◌, ◌∙◌, ap, arith, drop, length, rules, take, true}
use Rattle.std.proofs.lemmas.Bool.Decides.{nat_tests}
use Rattle.std.proofs.lemmas.List.{length-append, length-take-le}
use Rattle.ifdb_row.specs.ByReference.{row_of}
use Rattle.ifdb_row.specs.Runs.{even_rows}
use Rattle.ifdb_row.proofs.EvenRows.{even_length, front_within}
use Rattle.ifdb_store.specs.Shapes.{cells_in, has_shape, head_in, is_unbound}
use Rattle.ifdb_store.specs.declared.even.Shape.{Shape}
use Rattle.ifdb_store.proofs.InPlace.{cells_wide, even_insert, insert_long, one_row, undone}
use Rattle.ifdb_store.proofs.Splicing.{empty}
use Rattle.ifdb_store.proofs.even.EvenRows.insert.Goals as goal

pub insert-requires : goal.insert-requires
insert-requires c =
    let e = c.self.inside in
    let i = c.args.place in
    let all = ap length c.self.view_is in
    let le : i ≤ length e.heads = omega (arith, even_length e.key e.width e.heads e.refs e.cells, all, c.requires) in
    le

pub overflow_mul-place : goal.overflow_mul-place
overflow_mul-place c =
    let e = c.self.inside in
    let i = c.args.place in
    let all = ap length c.self.view_is in
    let le : i ≤ length e.heads = omega (arith, even_length e.key e.width e.heads e.refs e.cells, all, c.requires) in
    let within = front_within i (length e.heads) e.width (length e.cells) le c.self.invariant.1 in
    omega arith

pub insert_all-requires : goal.insert_all-requires
insert_all-requires c =
    let e = c.self.inside in
    let i = c.args.place in
    let all = ap length c.self.view_is in
    let le : i ≤ length e.heads = omega (arith, even_length e.key e.width e.heads e.refs e.cells, all, c.requires) in
    front_within i (length e.heads) e.width (length e.cells) le c.self.invariant.1

pub remove-requires : goal.remove-requires
remove-requires c =
    let e = c.self.inside in
    let i = c.args.place in
    let all = ap length c.self.view_is in
    let le : i ≤ length e.heads = omega (arith, even_length e.key e.width e.heads e.refs e.cells, all, c.requires) in
    let heads : c.insert.new.list ≡ take i e.heads ++ (c.in-Ok-Ok.head ∷ drop i e.heads) = search rules in
    let many = ap length heads in
    omega (arith, many, length-append (take i e.heads) (c.in-Ok-Ok.head ∷ drop i e.heads), length-take-le i e.heads le)

pub invariant_of-self-then-is_err-2 : goal.invariant_of-self-then-is_err-2
invariant_of-self-then-is_err-2 c =
    let e = c.self.inside in
    let i = c.args.place in
    let all = ap length c.self.view_is in
    let le : i ≤ length e.heads = omega (arith, even_length e.key e.width e.heads e.refs e.cells, all, c.requires) in
    let heads : c.insert.new.list ≡ take i e.heads ++ (c.in-Ok-Ok.head ∷ drop i e.heads) = search rules in
    let back : c.remove.new.self ≡ e.heads = c.remove.ensures ∙ (ap (λ hs. take i hs ++ drop (i + 1) hs) heads ∙ undone e.heads i c.in-Ok-Ok.head le) in
    let kept : c.insert_all.new.list ≡ e.cells = search rules in
    let many : length c.remove.new.self * e.width ≡ length e.heads * e.width = ap (λ hs. length hs * e.width) back in
    (c.self.invariant.0, omega (arith, many, ap length kept, c.self.invariant.1))

pub returns-then-is_err-2 : goal.returns-then-is_err-2
returns-then-is_err-2 c =
    let e = c.self.inside in
    let i = c.args.place in
    let all = ap length c.self.view_is in
    let le : i ≤ length e.heads = omega (arith, even_length e.key e.width e.heads e.refs e.cells, all, c.requires) in
    let heads : c.insert.new.list ≡ take i e.heads ++ (c.in-Ok-Ok.head ∷ drop i e.heads) = search rules in
    let back : c.remove.new.self ≡ e.heads = c.remove.ensures ∙ (ap (λ hs. take i hs ++ drop (i + 1) hs) heads ∙ undone e.heads i c.in-Ok-Ok.head le) in
    let kept : c.insert_all.new.list ≡ e.cells = search rules in
    ap (λ hs. even_rows e.key e.width hs e.refs c.insert_all.new.list) back ∙ (ap (even_rows e.key e.width e.heads e.refs) kept ∙ c.self.view_is)

pub invariant_of-self-else-is_err-2 : goal.invariant_of-self-else-is_err-2
invariant_of-self-else-is_err-2 c =
    let e = c.self.inside in
    let i = c.args.place in
    let all = ap length c.self.view_is in
    let le : i ≤ length e.heads = omega (arith, even_length e.key e.width e.heads e.refs e.cells, all, c.requires) in
    let s : Shape = record { key = e.key; width = e.width } in
    let x = row_of c.args.row in
    let shaped : has_shape s x ≡ true = search rules in
    let cells : c.in-Ok-Ok.cells.items ≡ cells_in x = c.in-Ok-Ok.ensures' in
    let wide : length c.in-Ok-Ok.cells.items ≡ e.width = ap length cells ∙ cells_wide s c.self.invariant.0 x shaped in
    let heads : c.insert.new.list ≡ take i e.heads ++ (c.in-Ok-Ok.head ∷ drop i e.heads) = search rules in
    let values : c.insert_all.new.list ≡ take (i * e.width) e.cells ++ (c.in-Ok-Ok.cells.items ++ drop (i * e.width) e.cells) = search rules in
    let none : length e.refs ≡ 0 = search rules in
    let many : length c.insert.new.list * e.width ≡ length (take i e.heads ++ (c.in-Ok-Ok.head ∷ drop i e.heads)) * e.width = ap (λ hs. length hs * e.width) heads in
    let long = insert_long e.key e.width c.self.invariant.0 e.heads e.refs e.cells c.self.invariant.1 i (empty e.refs none) c.in-Ok-Ok.cells.items wide c.in-Ok-Ok.head le in
    (c.self.invariant.0, omega (arith, many, ap length values, long))

pub returns : goal.returns
returns c =
    let e = c.self.inside in
    let i = c.args.place in
    let all = ap length c.self.view_is in
    let le : i ≤ length e.heads = omega (arith, even_length e.key e.width e.heads e.refs e.cells, all, c.requires) in
    let s : Shape = record { key = e.key; width = e.width } in
    let x = row_of c.args.row in
    let shaped : has_shape s x ≡ true = search rules in
    let cells : c.in-Ok-Ok.cells.items ≡ cells_in x = c.in-Ok-Ok.ensures' in
    let wide : length c.in-Ok-Ok.cells.items ≡ e.width = ap length cells ∙ cells_wide s c.self.invariant.0 x shaped in
    let heads : c.insert.new.list ≡ take i e.heads ++ (c.in-Ok-Ok.head ∷ drop i e.heads) = search rules in
    let values : c.insert_all.new.list ≡ take (i * e.width) e.cells ++ (c.in-Ok-Ok.cells.items ++ drop (i * e.width) e.cells) = search rules in
    let none : length e.refs ≡ 0 = search rules in
    let free : length c.parents.result.now ≡ 0 = search rules in
    let refs : length c.parents.result.now ≡ length x.refs = ap length c.parents.ensures in
    let unbound : is_unbound x ≡ true = grind (arith, nat_tests, free, refs) in
    let head : c.in-Ok-Ok.head ≡ head_in x = λ j. record { table = c.in-Ok-Ok.ensures.table j; label = c.in-Ok-Ok.ensures.label j } in
    let one = one_row s c.self.invariant.0 x c.in-Ok-Ok.head c.in-Ok-Ok.cells.items shaped unbound head cells in
    ap (λ hs. even_rows e.key e.width hs e.refs c.insert_all.new.list) heads
    ∙ (ap (even_rows e.key e.width (take i e.heads ++ (c.in-Ok-Ok.head ∷ drop i e.heads)) e.refs) values
    ∙ (even_insert e.key e.width c.self.invariant.0 e.heads e.refs e.cells c.self.invariant.1 i (empty e.refs none) c.in-Ok-Ok.cells.items wide c.in-Ok-Ok.head x le one
    ∙ ap (λ rows. take i rows ++ (x ∷ drop i rows)) c.self.view_is))
