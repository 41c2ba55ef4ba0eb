use Rattle.std.proofs.Common.{◌≡◌, ◌*◌, ◌<◌, ◌∙◌, Some, ap, arith, drop, get_or, length, sym}
use Rattle.std.specs.Prelude.{slice_get}
use Rattle.std.specs.Option.{option_copied}
use Rattle.std.proofs.lemmas.Option.{get_or_from_slice_get}
use Rattle.ifdb_value.specs.Lists.{listed}
use Rattle.ifdb_row.specs.Runs.{even_row}
use Rattle.ifdb_row.proofs.EvenRows.{even_at, even_length, row_is, row_within}
use Rattle.ifdb_row.proofs.even_run.EvenRun.row.Goals as goal

pub overflow_mul-place : goal.overflow_mul-place
overflow_mul-place c =
    let r = c.args.self in
    let many = even_length r.key r.width r.heads.now r.refs.now r.cells.now in
    let lt : c.args.place < length r.heads.now = omega (arith, many, c.requires) in
    let within = row_within c.args.place (length r.heads.now) r.width (length r.cells.now) lt r.long in
    omega arith

pub split_at-requires : goal.split_at-requires
split_at-requires c =
    let r = c.args.self in
    let many = even_length r.key r.width r.heads.now r.refs.now r.cells.now in
    let lt : c.args.place < length r.heads.now = omega (arith, many, c.requires) in
    let within = row_within c.args.place (length r.heads.now) r.width (length r.cells.now) lt r.long in
    omega arith

pub split_at-requires-2 : goal.split_at-requires-2
split_at-requires-2 c =
    let r = c.args.self in
    let many = even_length r.key r.width r.heads.now r.refs.now r.cells.now in
    let lt : c.args.place < length r.heads.now = omega (arith, many, c.requires) in
    let within = row_within c.args.place (length r.heads.now) r.width (length r.cells.now) lt r.long in
    omega (arith, c.split_at.ensures.back_len, r.keyed)

pub split_at-requires-3 : goal.split_at-requires-3
split_at-requires-3 c =
    let r = c.args.self in
    let many = even_length r.key r.width r.heads.now r.refs.now r.cells.now in
    let lt : c.args.place < length r.heads.now = omega (arith, many, c.requires) in
    let within = row_within c.args.place (length r.heads.now) r.width (length r.cells.now) lt r.long in
    omega (arith, c.split_at.ensures.back_len, c.split_at-2.ensures.back_len, r.keyed)

pub head_at-head-requires : goal.head_at-head-requires
head_at-head-requires c =
    let r = c.args.self in
    let many = even_length r.key r.width r.heads.now r.refs.now r.cells.now in
    omega (arith, many, c.requires)

pub returns : goal.returns
returns c =
    let r = c.args.self in
    let i = c.args.place in
    let many = even_length r.key r.width r.heads.now r.refs.now r.cells.now in
    let lt : i < length r.heads.now = omega (arith, many, c.requires) in
    let h = c.head_at-head.result.now in
    let is : h ≡ get_or r.heads.now i h = sym (get_or_from_slice_get r.heads.now i h h c.head_at-head.ensures) in
    let refs : listed (slice_get r.refs.now i) ≡ listed (option_copied c.refs_at.result) = ap listed (sym c.refs_at.ensures) in
    even_at r.key r.width i r.heads.now r.refs.now r.cells.now h lt is
    ∙ (ap (λ ps. Some (even_row r.key r.width h ps (drop (i * r.width) r.cells.now))) refs
    ∙ ap Some (row_is r.key r.width h (listed (option_copied c.refs_at.result)) (drop (i * r.width) r.cells.now) _ _ _ _ c.split_at.ensures.back c.split_at-2.ensures.front c.split_at-2.ensures.back c.split_at-3.ensures.front))
