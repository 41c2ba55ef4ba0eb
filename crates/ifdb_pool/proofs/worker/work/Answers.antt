use Rattle.std.proofs.Common.{rules, ◌≡◌, ◌∙◌, ◌+◌, ◌∷◌, [], ◌++◌, sym, arith, inr, true, false, true≢false}
use Rattle.ifdb_pool.proofs.VisitLemmas.{served_one, served-append, becomes-nil}
use Rattle.ifdb_io.specs.declared.outside.Failed.{Failed}
use Rattle.ifdb_pool.specs.Visits.{Visit}
use Rattle.ifdb_pool.proofs.worker.work.Goals as goal

pub loop-link-preserved : goal.loop-link-preserved
loop-link-preserved g c =
    let given = c.in-Ok-Some.ensures in
    let taken = c.serve_and_hand_back-goes_on.ensures in
    let before = c.loop-link.invariant.1 in
    let visit : Visit g.row.D-Link.Denot = record { came = c.in-Ok-Some.link; went = taken.visit.0 } in (
      search rules,
      (
        before.0 ++ visit ∷ [],
        served-append g.D.Door g.H.Host _ _ _ _ _ before.1 (served_one g.D.Door g.H.Host _ _ c.next.new.self visit.came visit.went taken.visit.1 taken.ready (search rules) taken.coming
            given.back taken.visit.2 (grind (arith, given.out, taken.out)) (grind (arith, given.fewer (search rules), taken.most)) (search rules) (grind (arith, given.cause.later, taken.faults))),
      ),
    )

pub returns-in-Ok-None : goal.returns-in-Ok-None
returns-in-Ok-None g c =
    let none = c.in-Ok-None.ensures in
    let before = c.loop-link.invariant.1 in
    record {
      visits = before.0;
      served = search rules;
      failed = search rules;
      cause = search rules;
      all = λ _. becomes-nil Failed _ _ _ _ _ before.1.coming c.in-Ok-None.field-0-is none.coming;
    }

pub returns-then-not-goes_on : goal.returns-then-not-goes_on
returns-then-not-goes_on g c =
    let given = c.in-Ok-Some.ensures in
    let taken = c.serve_and_hand_back-goes_on.ensures in
    let before = c.loop-link.invariant.1 in
    let visit : Visit g.row.D-Link.Denot = record { came = c.in-Ok-Some.link; went = taken.visit.0 } in
    let all = served-append g.D.Door g.H.Host _ _ (record {
      door = c.serve_and_hand_back-goes_on.new.door;
      host = c.serve_and_hand_back-goes_on.new.host;
      links = c.loop-link.worker.links + 1;
      failed = true;
    }) _ _ before.1 (served_one g.D.Door g.H.Host _ _ c.next.new.self visit.came visit.went taken.visit.1 taken.ready (search rules) taken.coming
    given.back taken.visit.2 (grind (arith, given.out, taken.out)) (grind (arith, given.fewer (search rules), taken.most)) (search rules) (grind (arith, given.cause.later, taken.faults))) in
    let unended : g.D.Door.ended c.serve_and_hand_back-goes_on.new.door ≡ false = search rules in
    record {
      visits = before.0 ++ visit ∷ [];
      served = record {
        host = all.host;
        ready = all.ready;
        coming = all.coming;
        back = all.back;
        out = all.out;
        most = all.most;
        links = all.links;
        later = all.later;
      };
      failed = search rules;
      cause = λ _. inr (taken.over (search rules));
      all = λ ended. absurd (true≢false (sym ended ∙ unended));
    }
