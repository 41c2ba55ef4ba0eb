use Rattle.std.proofs.Common.{◌≡◌, ◌+◌, ◌-◌, ◌^◌, ◌∙◌, ℕ, List, ap, length, min}
use Rattle.ifdb_log.specs.Pieces.{size_of}
use Rattle.ifdb_extract.proofs.Sizing.{changes_sized}
use Rattle.ifdb_extract.proofs.extract.changes_size.Goals as goal

pub loop-change-preserved : goal.loop-change-preserved
loop-change-preserved c =
    let text = c.change-item.result in
    let more : c.saturating_add-size.result ≡ min (c.loop-change.size + size_of (length text)) (2 ^ 64 - 1) =
    c.saturating_add-size.ensures ∙ ap (λ (n : ℕ). min (c.loop-change.size + n) (2 ^ 64 - 1)) (c.text_size.ensures ∙ ap (λ (l : List ℕ). size_of (length l)) c.as_slice.ensures) in
    changes_sized c.args.changes.now c.loop-change.change-index text c.loop-change.size c.saturating_add-size.result c.loop-change-test.true c.change-item.is c.loop-change.invariant more
