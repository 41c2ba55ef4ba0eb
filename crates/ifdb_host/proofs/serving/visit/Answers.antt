use Rattle.std.proofs.Common.{◌≡◌, true, [], ◌∙◌, ap, subst}
use Rattle.std.proofs.lemmas.Result.{IfErr-weaker, IfOk-weaker}
use Rattle.ifdb_turn.specs.Passes.{history}
use Rattle.ifdb_durable.specs.Told.{Begins}
use Rattle.ifdb_keyed.specs.Keys.{key_bytes}
use Rattle.ifdb_session.specs.Durable.{count_of}
use Rattle.ifdb_host.specs.Fronts.{opening_of, HasFrontOf, KnowsOf, LeavesFrom}
use Rattle.ifdb_host.specs.Serving.{span_of, IsKeptBehind}
use Rattle.ifdb_host.proofs.AtGates.{one_each}
use Rattle.ifdb_host.proofs.Visits.{all_wider}
use Rattle.ifdb_host.proofs.serving.visit.Goals as goal

pub returns-clause-ended : goal.returns-clause-ended
returns-clause-ended g c = λ opening is.
    let e = c.keep_serving-ended.ensures in
    let k = c.close.ensures in
    let pass = c.keep_serving-ended.new.pass in
    let receipt = c.keep_serving-ended.result.1.receipt in
    let d = span_of g.D.Disk.tells g.D.Disk.faults opening.disk c.close.result.disk in
    let begins : Begins (opening_of opening) receipt = subst (λ r. Begins r receipt) is e.told in
    IfOk-weaker c.keep_serving-ended.result.0 _ _ (λ back all. record {
      log = history pass;
      order = k.order;
      runs = all.runs;
      before = all.before;
      after = all.after;
      served = all_wider g.G.Port.Port (key_bytes c.args.plan.key) c.args.plan.limit g.N.Begins.first (λ texts. KnowsOf receipt (count_of texts)) (IsKeptBehind g.N.Begins.first opening.size d) (receipt.has_failed ≡ true)
          (c.close.result.has_failed ≡ true) g.G.Gate (history pass) all.runs (λ texts front knows before sized shows. k.kept_since opening before texts begins sized shows front knows) (λ failed. k.known failed) e.sees.orderly.0
          all.served;
      each = one_each g.G.Port.Port (key_bytes c.args.plan.key) c.args.plan.limit g.N.Begins.first (λ texts. KnowsOf receipt (count_of texts)) (receipt.has_failed ≡ true) g.G.Gate pass c.args.gates.items back.items all k.own
          e.sees.orderly.1;
      counted = k.counts;
      fronts = λ texts sized shows. k.fronts opening texts begins sized shows;
    }) e.ended

pub returns-clause-idle : goal.returns-clause-idle
returns-clause-idle g c = λ opening is.
    let e = c.keep_serving-ended.ensures in
    let receipt = c.keep_serving-ended.result.1.receipt in
    let begins : Begins (opening_of opening) receipt = subst (λ r. Begins r receipt) is e.told in
    IfErr-weaker c.keep_serving-ended.result.0 _ _ (λ x kept texts sized shows.
    let none : history c.keep_serving-ended.new.pass ≡ [] = ap history kept.1 ∙ c.requires.pass.nothing in
    subst (λ h. LeavesFrom (g.D.Disk.tells opening.disk) (g.D.Disk.tells c.close.result.disk) (HasFrontOf texts g.N.Begins.first h 0)) none
    (c.close.ensures.fronts opening texts begins sized shows)) e.unserved
