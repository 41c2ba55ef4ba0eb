use Rattle.std.proofs.Common.{subst, sym, inl, inr}
use Rattle.std.proofs.lemmas.Bool.{false≢true}
use Rattle.ifdb_trace.specs.Stages.{IsEnd}
use Rattle.ifdb_trace.proofs.Standing.{end_at_telling, end_at_opening, end_at_asking}
use Rattle.ifdb_trace.proofs.checker.Checker.may_end.Goals as goal

pub returns-in-Telling-clause-end : goal.returns-in-Telling-clause-end
returns-in-Telling-clause-end c = λ all at. subst (λ b. IsEnd b all) (sym c.is_empty.ensures) (end_at_telling c.args.self.now all at c.in-Telling.is)

pub returns-in-Opening : goal.returns-in-Opening
returns-in-Opening c = record {
  end = λ all at. elim c.in-Opening.is [
    | inl e ↦ end_at_opening c.args.self.now all at e
    | inr e ↦ end_at_asking c.args.self.now all at e.0 e.1
  ];
  telling = λ q. absurd (false≢true q);
  told = λ q. absurd (false≢true q);
}
