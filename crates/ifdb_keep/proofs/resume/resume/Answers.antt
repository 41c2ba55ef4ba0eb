use Rattle.std.proofs.Common.{◌≡◌, Err, ap}
use Rattle.std.proofs.lemmas.Result.{err_from_is_err_and}
use Rattle.ifdb_journal.specs.declared.record.JournalFault.TheVariants as fault
use Rattle.ifdb_keep.specs.Resumed.{IsUnbegun}
use Rattle.ifdb_keep.proofs.Resuming.{fresh_on, again_on, short_on, broken_before}
use Rattle.ifdb_keep.proofs.Taking.{on_err}
use Rattle.ifdb_keep.proofs.resume.resume.Goals as goal

pub returns-in_err-any-clause-damaged : goal.returns-in_err-any-clause-damaged
returns-in_err-any-clause-damaged g c = λ at is.
    let tells = g.D.Disk.tells in
    let exit = err_from_is_err_and c.from_residual-in_err-any.result c.from_residual-in_err-any.ensures.1 in
    let found : c.in_err-any.field-0.0 ≡ fault.Damaged at = cc (exit.1, exit.2, is) in
    broken_before (tells c.args.disk.now) (tells c.start.new.disk) at c.in_ok-journal.ensures.moments c.in_ok-journal.ensures.same (c.in_err-any.ensures.damaged at (ap (λ f. Err f) found))

pub returns-then-not-any-clause-begun : goal.returns-then-not-any-clause-begun
returns-then-not-any-clause-begun g c =
    let tells = g.D.Disk.tells in
    fresh_on (tells c.args.disk.now) (tells c.start.new.disk) (tells c.read_back.new.disk) c.in_ok-journal.ensures.moments c.in_ok-journal.ensures.same c.in_ok-any.ensures.still _ _ _
    c.in_ok-any.ensures.whole c.if-not-any.true

pub returns-in_err-restart-clause-unbegun : goal.returns-in_err-restart-clause-unbegun
returns-in_err-restart-clause-unbegun g c =
    let tells = g.D.Disk.tells in
    on_err (IsUnbegun (tells c.args.disk.now) (tells c.restart.new.disk)) c.from_residual-in_err-restart.result
    (short_on (tells c.args.disk.now) (tells c.start.new.disk) (tells c.read_back.new.disk) c.in_ok-journal.ensures.moments c.in_ok-journal.ensures.same c.in_ok-any.ensures.still _ _ _
    c.in_ok-any.ensures.whole c.if-not-any.false (tells c.restart.new.disk) c.restart.ensures.moments)

pub returns-clause-begun : goal.returns-clause-begun
returns-clause-begun g c =
    let tells = g.D.Disk.tells in
    again_on (tells c.args.disk.now) (tells c.start.new.disk) (tells c.read_back.new.disk) c.in_ok-journal.ensures.moments c.in_ok-journal.ensures.same c.in_ok-any.ensures.still _ _ _
    c.in_ok-any.ensures.whole c.if-not-any.false c.replay_goes_on.ensures (tells c.restart.new.disk) c.restart.new.room c.restart.new.journal.at c.in_ok-restart.ensures.added c.in_ok-restart.ensures.moments
    c.in_ok-restart.ensures.left
