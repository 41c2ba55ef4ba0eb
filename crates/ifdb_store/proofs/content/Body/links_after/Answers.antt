use Rattle.std.proofs.Common.{◌≡◌, ◌∙◌, ap, arith, sym, true}
use Rattle.std.specs.Prelude.{IsTrue}
use Rattle.std.proofs.lemmas.Bool.Decides.{nat_tests}
use Rattle.std.proofs.lemmas.Result.{IfOk-weaker}
use Rattle.ifdb_row.specs.Content.{after, rising}
use Rattle.ifdb_row.proofs.TableWalks.{is_true}
use Rattle.ifdb_store.specs.Links.{are_links}
use Rattle.ifdb_store.proofs.content.Body.links_after.Goals as goal

pub returns : goal.returns
returns c =
    let links = c.links.result.now in
    let rows = c.args.self.now.rows in
    let linked : are_links links rows ≡ true = ap (λ ls. are_links ls rows) c.links.ensures.links ∙ is_true (are_links c.args.self.now.links rows) c.requires in
    let us = c.in_ok-following.following in
    let keep = c.in_ok-following.ensures.keep links rows (is_true (rising links) c.links.ensures.rising) (is_true (rising rows) c.linked_rows.ensures) linked in
    let all : are_links (after links us) (after rows c.args.writes.now) ≡ true = ap (λ ws. are_links (after links us) (after rows ws)) (sym c.items.ensures.items) ∙ keep in
    IfOk-weaker c.links_after.result (λ ls. ls ≡ after links us) (λ ls. IsTrue (are_links ls (after rows c.args.writes.now))) (λ ls e. good ls (ap (λ ks. are_links ks (after rows c.args.writes.now)) e ∙ all)) c.links_after.ensures where
      good : (ls : _) → are_links ls (after c.args.self.now.rows c.args.writes.now) ≡ true → IsTrue (are_links ls (after c.args.self.now.rows c.args.writes.now))
      good ls e = grind (arith, nat_tests, e)
