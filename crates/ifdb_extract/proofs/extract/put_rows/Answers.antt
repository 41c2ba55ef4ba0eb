use Rattle.std.proofs.Common.{ℕ, List, Option, Vec, Global, IfSome, refl, ap, sym, subst, ◌∙◌}
use Rattle.ifdb_log.specs.Pieces.{pieces}
use Rattle.ifdb_row.specs.declared.row.Row.{Row}
use Rattle.ifdb_row.specs.Questions.{rows_from}
use Rattle.ifdb_extract.specs.Walks.{IsNextText}
use Rattle.ifdb_extract.specs.Writing.{Puts}
use Rattle.ifdb_extract.proofs.Walking.{IsPutSoFar, put_first, put_next}
use Rattle.ifdb_extract.proofs.Writing.{later_here, later_on}
use Rattle.ifdb_extract.proofs.extract.put_rows.Goals as goal

pub runs-init : goal.runs-init
runs-init g c =
    let t = g.D.Disk.tells c.args.disk.now in
    record { rows = c.of-texts.ensures.rows; so = put_first c.of-texts.result.rows.now c.of-texts.result.edge t c.args.writer.now (ap (rows_from c.of-texts.result.edge) c.of-texts.ensures.rows ∙ c.of-texts.ensures.all ∙ sym c.of-texts.ensures.rows); ready = c.requires.ready; later = later_here t; calm = refl }

pub runs-preserved : goal.runs-preserved
runs-preserved g c =
    let begun = g.D.Disk.tells c.args.disk.now in
    let t = g.D.Disk.tells c.runs.disk in
    let u = g.D.Disk.tells c.put.new.disk in
    let texts = c.runs.texts in
    let now = c.next.new.self in
    let text = c.in-Some.text.items in
    let next : IsNextText texts.rows.now texts.edge now.edge text =
    subst (λ (o : Option (Vec ℕ Global)). IfSome o (λ (v : Vec ℕ Global). IsNextText texts.rows.now texts.edge now.edge v.items)) c.in-Some.is c.in_ok-text.ensures.some in
    let put : Puts (pieces text) t c.runs.writer u c.put.new.self =
    subst (λ (l : List ℕ). Puts (pieces l) t c.runs.writer u c.put.new.self) c.deref.ensures.value c.in_ok-put.ensures.put in
    record {
      rows = c.next.ensures.rows ∙ c.runs.invariant.rows;
      so =
          subst (λ (rows : List Row). IsPutSoFar rows now.edge begun c.args.writer.now u c.put.new.self) (sym c.next.ensures.rows)
          (put_next texts.rows.now texts.edge now.edge begun t u c.args.writer.now c.runs.writer c.put.new.self text next put c.runs.invariant.so);
      ready = c.in_ok-put.ensures.ready;
      later = later_on begun t u c.runs.invariant.later c.put.ensures.later;
      calm = c.in_ok-put.ensures.cause ∙ c.runs.invariant.calm;
    }

pub returns-in_err-put-clause-later : goal.returns-in_err-put-clause-later
returns-in_err-put-clause-later g c =
    later_on (g.D.Disk.tells c.args.disk.now) (g.D.Disk.tells c.runs.disk) (g.D.Disk.tells c.put.new.disk) c.runs.invariant.later c.put.ensures.later
