use Rattle.std.proofs.Common.{◌≡◌, ◌∙◌, [], ap, false, map, sym, true}
use Rattle.std.specs.Prelude.{if◌then◌else◌}
use Rattle.std.specs.List.{list_all}
use Rattle.std.proofs.lemmas.List.{take_all}
use Rattle.ifdb_row.specs.declared.row.Row.{Row}
use Rattle.ifdb_row.specs.ByReference.{row_of}
use Rattle.ifdb_store.specs.Shapes.{is_unbound}
use Rattle.ifdb_store.proofs.Maps.{all_map}
use Rattle.ifdb_store.proofs.even.refs_of.Goals as goal

pub returns-then-are_unbound : goal.returns-then-are_unbound
returns-then-are_unbound c =
    let rows = map row_of c.args.rows.now in
    let free : list_all is_unbound rows ≡ true = sym (all_map row_of is_unbound c.args.rows.now) ∙ (sym c.are_unbound.ensures ∙ c.if-are_unbound.true) in
    c.new.ensures ∙ sym (ap (λ b. if b then [] else map (λ (r : Row). r.refs) rows) free)

pub returns : goal.returns
returns c =
    let rows = map row_of c.args.rows.now in
    let bound : list_all is_unbound rows ≡ false = sym (all_map row_of is_unbound c.args.rows.now) ∙ (sym c.are_unbound.ensures ∙ c.if-are_unbound.false) in
    let whole = take_all c.loop-row.row-index c.args.rows.now c.loop-row-test.false in
    c.loop-row.invariant
    ∙ (ap (λ xs. map (λ (r : Row). r.refs) (map row_of xs)) whole ∙ sym (ap (λ b. if b then [] else map (λ (r : Row). r.refs) rows) bound))
