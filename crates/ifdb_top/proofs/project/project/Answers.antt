use Rattle.std.proofs.Common.{rules, [], arith}
use Rattle.std.proofs.KnownBytes.{Consumes-nil, Appends-nil}
use Rattle.ifdb_top.proofs.project.project.Goals as goal

-- there was no memory to read the words: of no bytes a front was written
pub returns-in-Err-clause-done : goal.returns-in-Err-clause-done
returns-in-Err-clause-done g c = record {
  well_formed = λ p is. record {
    done = search rules;
    read = search rules;
    read_front = search rules;
    write = search rules;
    write_front = search rules;
    too_large = search rules;
    memory_front = λ e. record { input = []; n = 0; read = Consumes-nil _; within = omega arith; wrote = Appends-nil _ };
    unfailed = search rules;
    ends = search rules;
    complete = search rules;
  };
  malformed = search rules;
}
