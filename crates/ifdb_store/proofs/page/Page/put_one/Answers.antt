use Rattle.std.proofs.Common.{◌≡◌, ◌∙◌, arith, ap, true}
use Rattle.std.proofs.lemmas.Bool.Decides.{nat_tests}
use Rattle.ifdb_row.specs.declared.write.Write.{Write}
use Rattle.ifdb_row.specs.Writes.{is_fitting}
use Rattle.ifdb_row.proofs.TableWalks.{is_true}
use Rattle.ifdb_value.proofs.Lists.{all_at}
use Rattle.ifdb_store.specs.Layouts.{rows_laid}
use Rattle.ifdb_store.proofs.InPlace.{page_put}
use Rattle.ifdb_store.proofs.page.Page.put_one.Goals as goal

pub invariant_of-self : goal.invariant_of-self
invariant_of-self c =
    let w = c.write-item.result in
    let ws = c.args.writes.now in
    let fits : is_fitting w.slot w.row ≡ true = ap (λ (x : Write). is_fitting x.slot x.row) c.write-item.is ∙ all_at (λ (x : Write). is_fitting x.slot x.row) ws 0 w (is_true _ c.requires) (omega (arith, c.in-len1.len_at_least)) in
    let page = page_put (rows_laid c.self.inside.layout) (rows_laid c.put.new.self) w c.put.result (is_true _ c.self.invariant) fits c.put.ensures in
    grind (arith, nat_tests, page)

pub returns-in-len1-clause-page : goal.returns-in-len1-clause-page
returns-in-len1-clause-page c =
    let w = c.write-item.result in
    let ws = c.args.writes.now in
    let fits : is_fitting w.slot w.row ≡ true = ap (λ (x : Write). is_fitting x.slot x.row) c.write-item.is ∙ all_at (λ (x : Write). is_fitting x.slot x.row) ws 0 w (is_true _ c.requires) (omega (arith, c.in-len1.len_at_least)) in
    let page = page_put (rows_laid c.self.inside.layout) (rows_laid c.put.new.self) w c.put.result (is_true _ c.self.invariant) fits c.put.ensures in
    grind (arith, nat_tests, page)
