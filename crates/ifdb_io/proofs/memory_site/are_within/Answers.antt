use Rattle.std.proofs.Common.{◌≡◌, ◌≤◌, All, arith, rules, subst}
use Rattle.std.specs.Vec.Iter.{into_iter_len}
use Rattle.std.proofs.lemmas.List.{take_all}
use Rattle.std.proofs.lemmas.List.Elements.{All-more}
use Rattle.ifdb_io.proofs.memory_site.are_within.Goals as goal

pub loop-door-preserved : goal.loop-door-preserved
loop-door-preserved g c = record {
  most = All-more (λ door. into_iter_len door.coming ≤ c.args.links) c.args.doors.now c.loop-door.door-index c.door-item.result (search rules) c.loop-door.invariant.most (search rules);
  none_out = All-more (λ door. door.out ≡ 0) c.args.doors.now c.loop-door.door-index c.door-item.result (search rules) c.loop-door.invariant.none_out (search rules);
}

pub returns-clause-most : goal.returns-clause-most
returns-clause-most g c = λ _. subst (All (λ door. into_iter_len door.coming ≤ c.args.links)) (take_all c.loop-door.door-index c.args.doors.now (omega (arith, c.loop-door-test.false, c.loop-door.auto.door-index-end))) c.loop-door.invariant.most

pub returns-clause-none_out : goal.returns-clause-none_out
returns-clause-none_out g c = λ _. subst (All (λ door. door.out ≡ 0)) (take_all c.loop-door.door-index c.args.doors.now (omega (arith, c.loop-door-test.false, c.loop-door.auto.door-index-end))) c.loop-door.invariant.none_out
