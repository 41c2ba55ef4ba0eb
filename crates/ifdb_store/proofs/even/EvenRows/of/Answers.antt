use Rattle.std.proofs.Common.{◌≡◌, ◌≤◌, ◌*◌, ◌∙◌, ap, arith, length, map, sym, true}
use Rattle.std.specs.List.{list_all}
use Rattle.std.proofs.lemmas.List.{length-map}
use Rattle.ifdb_row.specs.ByReference.{row_of}
use Rattle.ifdb_row.specs.Runs.{even_rows}
use Rattle.ifdb_row.proofs.TableWalks.{is_true}
use Rattle.ifdb_store.specs.Shapes.{has_shape, head_in, refs_in}
use Rattle.ifdb_store.proofs.Maps.{all_map}
use Rattle.ifdb_store.proofs.Shaping.{cells_many, shaped_back}
use Rattle.ifdb_store.proofs.even.EvenRows.of.Goals as goal

pub invariant_of-result : goal.invariant_of-result
invariant_of-result c =
    let s = c.args.shape in
    let rows = map row_of c.args.rows.now in
    let all : list_all (has_shape s) rows ≡ true = sym (all_map row_of (has_shape s) c.args.rows.now) ∙ is_true _ c.requires.shaped in
    let heads : length c.in_ok-heads_of.field-0 ≡ length rows = ap length c.in_ok-heads_of.ensures ∙ length-map rows head_in in
    let cells : length c.in_ok-cells_of.field-0 ≡ length rows * s.width = ap length c.in_ok-cells_of.ensures ∙ cells_many s c.requires.keyed rows all in
    let many : length c.in_ok-heads_of.field-0 * s.width ≡ length rows * s.width = ap (λ n. n * s.width) heads in
    let long : length c.in_ok-heads_of.field-0 * s.width ≤ length c.in_ok-cells_of.field-0 = omega (arith, many, cells) in
    (c.requires.keyed, long)

pub returns : goal.returns
returns c =
    let s = c.args.shape in
    let rows = map row_of c.args.rows.now in
    let all : list_all (has_shape s) rows ≡ true = sym (all_map row_of (has_shape s) c.args.rows.now) ∙ is_true _ c.requires.shaped in
    ap (λ heads. even_rows s.key s.width heads c.in_ok-refs_of.field-0 c.in_ok-cells_of.field-0) c.in_ok-heads_of.ensures
    ∙ (ap (λ refs. even_rows s.key s.width (map head_in rows) refs c.in_ok-cells_of.field-0) c.in_ok-refs_of.ensures
    ∙ (ap (λ cells. even_rows s.key s.width (map head_in rows) (refs_in rows) cells) c.in_ok-cells_of.ensures
    ∙ shaped_back s c.requires.keyed rows all))
