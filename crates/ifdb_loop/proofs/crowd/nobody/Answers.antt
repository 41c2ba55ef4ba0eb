use Rattle.std.proofs.Common.{None, ap}
use Rattle.std.specs.Prelude.{slice_index_or}
use Rattle.ifdb_loop.proofs.Crowding.{AreServed-none, numbers_none}
use Rattle.ifdb_loop.proofs.crowd.nobody.Goals as goal

pub returns-clause-served : goal.returns-clause-served
returns-clause-served g c = λ s. AreServed-none g.S.Service g.P.Port s c.new.result (λ k. ap (λ slots. slice_index_or slots k None) c.new.ensures.empty)

pub returns-clause-numbers : goal.returns-clause-numbers
returns-clause-numbers g c = numbers_none g.S.Service c.new.result (λ k. ap (λ slots. slice_index_or slots k None) c.new.ensures.empty)
