use Rattle.std.proofs.Common.{◌≡◌, ◌+◌, ◌-◌, ◌^◌, ◌∙◌, ℕ, List, Option, Vec, Global, IfSome, ap, length, min, subst, sym}
use Rattle.ifdb_log.specs.Pieces.{size_of}
use Rattle.ifdb_row.specs.declared.row.Row.{Row}
use Rattle.ifdb_row.specs.Questions.{rows_from}
use Rattle.ifdb_extract.specs.Walks.{IsNextText}
use Rattle.ifdb_extract.proofs.Sizing.{IsSizedSoFar, sized_first, sized_next}
use Rattle.ifdb_extract.proofs.extract.size_in_journal.Goals as goal

pub runs-init : goal.runs-init
runs-init c =
    let texts = c.of-texts.result in
    record {
      rows = c.of-texts.ensures.rows;
      so = sized_first c.args.changes.now texts.rows.now texts.edge c.changes_size-size.result (ap (rows_from texts.edge) c.of-texts.ensures.rows ∙ c.of-texts.ensures.all ∙ sym c.of-texts.ensures.rows) c.changes_size-size.ensures;
    }

pub runs-preserved : goal.runs-preserved
runs-preserved c =
    let texts = c.runs.texts in
    let now = c.next.new.self in
    let text = c.in-Some.text.items in
    let next : IsNextText texts.rows.now texts.edge now.edge text =
    subst (λ (o : Option (Vec ℕ Global)). IfSome o (λ (v : Vec ℕ Global). IsNextText texts.rows.now texts.edge now.edge v.items)) c.in-Some.is c.in_ok-text.ensures.some in
    let more : c.saturating_add-size.result ≡ min (c.runs.size + size_of (length text)) (2 ^ 64 - 1) =
    c.saturating_add-size.ensures ∙ ap (λ (n : ℕ). min (c.runs.size + n) (2 ^ 64 - 1)) (c.text_size.ensures ∙ ap (λ (l : List ℕ). size_of (length l)) c.deref.ensures.value) in
    record {
      rows = c.next.ensures.rows ∙ c.runs.invariant.rows;
      so =
          subst (λ (rows : List Row). IsSizedSoFar c.args.changes.now rows now.edge c.saturating_add-size.result) (sym c.next.ensures.rows)
          (sized_next c.args.changes.now texts.rows.now texts.edge now.edge text c.runs.size c.saturating_add-size.result next more c.runs.invariant.so);
    }
