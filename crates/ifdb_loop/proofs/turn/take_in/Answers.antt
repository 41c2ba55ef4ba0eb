use Rattle.std.proofs.Common.{◌≡◌, ◌∙◌}
use Rattle.ifdb_loop.proofs.turn.take_in.Goals as goal

pub returns-in_default-clause-exchanges : goal.returns-in_default-clause-exchanges
returns-in_default-clause-exchanges g c =
    let held : c.load.new.self ≡ c.args.client.now.wires.held = c.load.ensures ∙ c.held.ensures.value in
    λ long limit d x. rw held (rw c.requires at x)
