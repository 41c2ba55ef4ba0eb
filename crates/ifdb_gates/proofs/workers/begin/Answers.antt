use Rattle.std.proofs.Common.{◌∙◌, sym, ap, subst}
use Rattle.ifdb_turn.specs.Passes.{places, shares}
use Rattle.ifdb_desk.specs.declared.desk.Desk.{Desk}
use Rattle.ifdb_desk.specs.Desks.{IsReady}
use Rattle.ifdb_gates.proofs.workers.begin.Goals as goal

pub returns-clause-fresh : goal.returns-clause-fresh
returns-clause-fresh g c = λ first goes.
    let same = c.new-service.ensures.service in
    let d = c.new-desk.ensures in
    record {
      at = ap (λ (z : Desk _ _ _). z.hall.now) same ∙ d.hall;
      key_is = c.new-service.ensures.key;
      limit_is = ap (λ (z : Desk _ _ _). z.limit) same ∙ d.limit;
      ready = record {
        desk = subst (IsReady g.Q.Records g.S.Settles) (sym same) d.ready;
        none = ap (λ (z : Desk _ _ _). places z.pass) same ∙ ap places d.pass ∙ c.requires.none;
        gate = c.requires.new;
      };
      share = ap (λ (z : Desk _ _ _). shares z.pass) same ∙ ap shares d.pass ∙ c.requires.share;
      knows = subst (λ (z : Desk _ _ _). g.S.Settles.goes_on first z.keeper) (sym same) (subst (g.S.Settles.goes_on first) (sym d.keeper) goes);
      keeper_share = subst (λ (z : Desk _ _ _). g.S.Settles.has_shares z.keeper 1) (sym same) (subst (λ k. g.S.Settles.has_shares k 1) (sym d.keeper) c.requires.keeper_share);
    }
