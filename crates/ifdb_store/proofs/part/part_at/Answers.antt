use Rattle.std.proofs.Common.{◌≡◌, ◌∙◌, ap, sym, subst, true}
use Rattle.ifdb_row.specs.Edges.{lies_before}
use Rattle.ifdb_row.specs.Reach.{reach, is_parted}
use Rattle.ifdb_row.proofs.Edges.{edge_falls}
use Rattle.ifdb_store.proofs.FindLemmas.{parted_others}
use Rattle.ifdb_store.proofs.part.part_at.Goals as goal

pub reach-requires : goal.reach-requires
reach-requires g c =
    subst (λ xs. is_parted (λ x. lies_before c.args.edge.now (g.P.Placed.place x)) xs ≡ true) (sym c.split_at.ensures.back)
    (parted_others (lies_before c.args.edge.now) (edge_falls c.args.edge.now) g.P.Placed.rows g.P.Placed.place g.P.Part.is_part g.met.P.Part.begins c.args.parts.now c.requires.parts c.requires.in_order)

pub returns-clause-place : goal.returns-clause-place
returns-clause-place g c =
    let at : c.reach.result ≡ reach (λ x. lies_before c.args.edge.now (g.P.Placed.place x)) c.split_at.result.1.now = c.reach.ensures.reach in
    at ∙ ap (reach (λ x. lies_before c.args.edge.now (g.P.Placed.place x))) c.split_at.ensures.back
