use Rattle.std.proofs.Common.{◌≡◌, ◌∙◌, subst}
use Rattle.ifdb_model.specs.Session.{Seen}
use Rattle.ifdb_db.specs.Inside.{IsSaidAlike}
use Rattle.ifdb_db.specs.Looks.{Looking, IsShown}
use Rattle.ifdb_db.proofs.Looking.{shown_so}
use Rattle.ifdb_db.proofs.look.Look.find.Goals as goal

pub returns : goal.returns
returns c =
    let s = c.sight.inside in
    let here : Looking = record {
      sight = record { asker = s.asker; label = s.label; seen = record { public = s.public; rows = s.rows } };
      line = c.self.inside.line;
    } in
    let same : here ≡ c.args.self = (λ i. record { sight = c.sight.view_is i; line = c.self.inside.line }) ∙ c.self.view_is in
    let seen : c.new-seen.result ≡ here.sight.seen = c.new-seen.ensures ∙ (λ i. record { public = c.get.ensures i; rows = s.rows }) in
    let said = subst (λ (z : Seen). IsSaidAlike z s.asker s.label c.into_request.result c.select.result) seen c.select.ensures in
    subst (λ (z : Looking). IsShown z c.select.result) same (shown_so here c.into_request.result c.into_request.ensures c.select.result said)
