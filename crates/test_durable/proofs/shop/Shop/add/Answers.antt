use Rattle.std.proofs.Common.{rules}
use Rattle.ifdb_turn.specs.Passes.{history}
use Rattle.ifdb_turn.specs.Turns.{object_of, pass_of}
use Rattle.test_durable.proofs.Tallies.{stands_added}
use Rattle.test_durable.proofs.shop.Shop.add.Goals as goal

pub done_entry-requires-clause-stands : goal.done_entry-requires-clause-stands
done_entry-requires-clause-stands g c = let s = stands_added (object_of c.enter-turn.result) c.object-2.result.now (history (pass_of c.enter-turn.result)) c.args.amount c.enter-turn.ensures.stands (search rules) (search rules) in search rules

pub returns-clause-count : goal.returns-clause-count
returns-clause-count g c = let s = stands_added (object_of c.enter-turn.result) c.object-2.result.now (history (pass_of c.enter-turn.result)) c.args.amount c.enter-turn.ensures.stands (search rules) (search rules) in let o = s.records in search rules
