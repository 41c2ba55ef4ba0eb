use Rattle.std.proofs.Common.{[], Ok, ap}
use Rattle.test_log.proofs.tests.behind.begin.Goals as goal

pub returns-in_default : goal.returns-in_default
returns-in_default g c =
    let ends = c.in_ok-next.ensures.end (ap (λ o. Ok o) c.in_default.is) [] c.in_ok-journal.ensures.begun in
    ([], ends.0)
