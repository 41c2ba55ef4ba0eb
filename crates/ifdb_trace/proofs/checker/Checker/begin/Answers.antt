use Rattle.ifdb_trace.proofs.Standing.{begun_stray}
use Rattle.ifdb_trace.proofs.checker.Checker.begin.Goals as goal

pub returns-in-Stray : goal.returns-in-Stray
returns-in-Stray c = λ st stands. rw c.in-Stray.is (begun_stray _ st stands c.requires.telling c.refuse.ensures)
