use Rattle.std.proofs.Common.{◌≡◌, ◌<◌, ◌+◌, ◌∙◌, ap, arith, drop, length, rules, take, true}
use Rattle.std.specs.Prelude.{not}
use Rattle.std.specs.List.{list_all}
use Rattle.std.proofs.lemmas.List.{drop_all, take_all}
use Rattle.ifdb_row.specs.declared.write.Write.{Write}
use Rattle.ifdb_row.specs.Slots.{slot_lt}
use Rattle.ifdb_row.proofs.TableWalks.{is_true}
use Rattle.ifdb_store.specs.Pages.{are_before}
use Rattle.ifdb_store.proofs.PartLemmas.{divides}
use Rattle.ifdb_store.proofs.part.are_within.Goals as goal

pub returns-in-Some : goal.returns-in-Some
returns-in-Some g c = λ yes.
    let ws = c.args.writes.now in
    let n = length ws in
    let q = c.in-Some.next.now in
    let s = g.P.Placed.place q in
    let lt : c.args.at + 1 < length c.args.parts.now = search rules in
    let low : list_all (λ (w : Write). slot_lt w.slot s) (take n ws) ≡ true = ap (list_all (λ (w : Write). slot_lt w.slot s)) (take_all n ws (omega arith)) ∙ is_true (are_before s ws) (c.is_behind.ensures yes) in
    let high : list_all (λ (w : Write). not (slot_lt w.slot s)) (drop n ws) ≡ true = ap (list_all (λ (w : Write). not (slot_lt w.slot s))) (drop_all n ws (omega arith)) in
    divides g.P.Placed.rows g.P.Placed.place g.P.Part.is_part g.met.P.Part.begins c.args.parts.now c.args.at n ws q lt (search rules)
    c.requires.parts c.requires.in_order c.requires.fitting low high
