use Rattle.std.proofs.Common.{◌++◌, ◌∙◌, ap}
use Rattle.ifdb_generate.proofs.Joined.{one_more}
use Rattle.ifdb_generate.proofs.script.put_rounds.Goals as goal

pub loop-done-preserved : goal.loop-done-preserved
loop-done-preserved c =
    let more = one_more c.args.size c.loop-done.done c.loop-done.draw c.next-draw.result _ _ _ c.loop-done.invariant.0 c.loop-done.invariant.1.0 c.next-draw.ensures.next (c.in_ok-extend_from_slice.ensures.items ∙ ap (λ xs. c.loop-done.text.items ++ xs) (c.as_bytes.ensures.value ∙ c.as_str.ensures.value ∙ c.round.ensures)) in
    (more.0, (more.1, c.next-draw.ensures.small))
