use Rattle.std.proofs.Common.{◌≡◌, ◌∙◌, ◌*◌, ◌≤◌, ◌++◌, ap, arith, length, take, drop, sym, true, rules}
use Rattle.std.specs.List.{list_all}
use Rattle.ifdb_row.specs.Runs.{even_rows}
use Rattle.ifdb_row.proofs.EvenRows.{even_length, front_within}
use Rattle.ifdb_store.specs.Splices.{cells_put}
use Rattle.ifdb_store.proofs.Splicing.{empty, four_parts, nothing, spliced_free, spliced_long, spliced_rows, three_parts}
use Rattle.ifdb_store.proofs.even.spliced.Goals as goal
use Rattle.ifdb_store.proofs.even.spliced.Goals.{then-is_empty+then-are_empty, else-is_empty+then-rows+in_ok-joined}

pub around-requires-clause-within : goal.around-requires-clause-within
around-requires-clause-within c =
    let r = c.args.rows in
    let many = even_length r.key r.width r.heads.now r.refs.now r.cells.now in
    let said : length r.refs.now ≡ length r.heads.now = search rules in
    omega (arith, many, said, c.requires.within)

pub around-requires-2-clause-within : goal.around-requires-2-clause-within
around-requires-2-clause-within c =
    let r = c.args.rows in
    omega (arith, even_length r.key r.width r.heads.now r.refs.now r.cells.now, c.requires.within)

pub overflow_mul-gap : goal.overflow_mul-gap
overflow_mul-gap c =
    let r = c.args.rows in
    let many = even_length r.key r.width r.heads.now r.refs.now r.cells.now in
    let within = front_within c.args.gap.from (length r.heads.now) r.width (length r.cells.now) (omega (arith, many, c.requires.within, c.args.gap.order)) r.long in
    omega arith

pub overflow_mul-gap-2 : goal.overflow_mul-gap-2
overflow_mul-gap-2 c =
    let r = c.args.rows in
    let many = even_length r.key r.width r.heads.now r.refs.now r.cells.now in
    let within = front_within c.args.gap.to (length r.heads.now) r.width (length r.cells.now) (omega (arith, many, c.requires.within)) r.long in
    omega arith

pub around-requires-3-clause-within : goal.around-requires-3-clause-within
around-requires-3-clause-within c =
    let r = c.args.rows in
    let many = even_length r.key r.width r.heads.now r.refs.now r.cells.now in
    front_within c.args.gap.to (length r.heads.now) r.width (length r.cells.now) (omega (arith, many, c.requires.within)) r.long

pub returns : goal.returns
returns c =
    let r = c.args.rows in
    let i = c.args.inset in
    let g = c.args.gap in
    let k = r.key in
    let w = r.width in
    let hs = r.heads.now in
    let rs = r.refs.now in
    let cs = r.cells.now in
    let from : g.from ≤ length hs = omega (arith, even_length k w hs rs cs, c.requires.within, g.order) in
    let heads : c.from_vec-2.result ≡ take g.from hs ++ (i.heads.now ++ drop g.to hs) =
    c.from_vec-2.ensures ∙ (c.in_ok-heads.ensures ∙ three_parts hs i.heads.now c.around-2.result.0.now c.around-2.result.1.now g.from g.to c.around-2.ensures.before c.around-2.ensures.behind) in
    let cells : c.from_vec-3.result ≡ take (g.from * w) cs ++ (cells_put i ++ drop (g.to * w) cs) =
    c.from_vec-3.ensures ∙ (c.in_ok-cells.ensures ∙ four_parts cs i.key.now i.values.now c.around-3.result.0.now c.around-3.result.1.now (g.from * w) (g.to * w) c.around-3.ensures.before c.around-3.ensures.behind) in
    let all = take g.from hs ++ (i.heads.now ++ drop g.to hs) in
    let values = take (g.from * w) cs ++ (cells_put i ++ drop (g.to * w) cs) in
    ap (λ l. even_rows k w l c.if-is_empty.refs c.from_vec-3.result) heads
    ∙ (ap (λ l. even_rows k w all c.if-is_empty.refs l) cells
    ∙ (elim c.if-is_empty.branch [
      | then-is_empty+then-are_empty b ↦
          (let none : length rs ≡ 0 = search rules in
          let free : list_all nothing i.refs.now ≡ true = sym b.are_empty.ensures ∙ b.if-are_empty.true in
          ap (λ l. even_rows k w all l values) (b.refs-is ∙ b.new-refs.ensures)
          ∙ spliced_free k w r.keyed hs rs cs r.long i.heads.now i.refs.now (cells_put i) c.requires.long g.from g.to from free (empty rs none))
      | else-is_empty+then-rows+in_ok-joined b ↦
          (let said : length rs ≡ length hs = search rules in
          let refs : c.if-is_empty.refs ≡ take g.from rs ++ (i.refs.now ++ drop g.to rs) =
          b.refs-is ∙ (b.from_vec.ensures ∙ (b.in_ok-joined.ensures ∙ three_parts rs i.refs.now b.around.result.0.now b.around.result.1.now g.from g.to b.around.ensures.before b.around.ensures.behind)) in
          ap (λ l. even_rows k w all l values) refs
          ∙ spliced_rows k w r.keyed hs rs cs r.long i.heads.now i.refs.now (cells_put i) c.requires.long g.from g.to from c.requires.said said)
    ]))

pub invariant_of-result : goal.invariant_of-result
invariant_of-result c =
    let r = c.args.rows in
    let i = c.args.inset in
    let g = c.args.gap in
    let w = r.width in
    let hs = r.heads.now in
    let cs = r.cells.now in
    let to : g.to ≤ length hs = omega (arith, even_length r.key w hs r.refs.now cs, c.requires.within) in
    let from : g.from ≤ length hs = omega (arith, to, g.order) in
    let heads : c.from_vec-2.result ≡ take g.from hs ++ (i.heads.now ++ drop g.to hs) =
    c.from_vec-2.ensures ∙ (c.in_ok-heads.ensures ∙ three_parts hs i.heads.now c.around-2.result.0.now c.around-2.result.1.now g.from g.to c.around-2.ensures.before c.around-2.ensures.behind) in
    let cells : c.from_vec-3.result ≡ take (g.from * w) cs ++ (cells_put i ++ drop (g.to * w) cs) =
    c.from_vec-3.ensures ∙ (c.in_ok-cells.ensures ∙ four_parts cs i.key.now i.values.now c.around-3.result.0.now c.around-3.result.1.now (g.from * w) (g.to * w) c.around-3.ensures.before c.around-3.ensures.behind) in
    let long = spliced_long r.key w r.keyed hs r.refs.now cs r.long i.heads.now i.refs.now (cells_put i) c.requires.long g.from g.to from g.order to in
    let width : length c.from_vec-2.result * w ≡ length (take g.from hs ++ (i.heads.now ++ drop g.to hs)) * w = ap (λ l. length l * w) heads in
    (r.keyed, omega (arith, width, long, ap length cells))
