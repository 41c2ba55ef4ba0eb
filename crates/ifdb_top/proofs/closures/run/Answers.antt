use Rattle.std.proofs.Common.{rules, refl}
use Rattle.ifdb_top.proofs.closures.run.Goals as goal

pub returns-in-Done-clause-ran : goal.returns-in-Done-clause-ran
returns-in-Done-clause-ran g c = record {
  done = λ e. c.in-Done.ensures.done refl;
  told_by_bytes = λ e. c.in-Done.ensures.told_by_bytes refl;
  framed = λ e. c.in-Done.ensures.framed refl;
  two_worlds = λ e. c.in-Done.ensures.worlds refl;
  read = search rules;
  read_front = search rules;
  write = search rules;
  write_front = search rules;
  too_large = search rules;
  memory = search rules;
  unfailed = search rules;
  ends = search rules;
  complete = search rules;
}
