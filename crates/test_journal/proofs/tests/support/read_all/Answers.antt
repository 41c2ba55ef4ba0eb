use Rattle.std.proofs.Common.{◌++◌, ◌∷◌, [], List, Ok, ap, subst}
use Rattle.std.specs.Prelude.{IfSome}
use Rattle.ifdb_journal.specs.declared.record.Record.{Record}
use Rattle.ifdb_journal.specs.Reading.{ReadTo}
use Rattle.test_journal.proofs.tests.support.read_all.Goals as goal

pub loop-init : goal.loop-init
loop-init g c = record { read = ([], c.in_ok-journal.ensures.begun) }

pub loop-preserved : goal.loop-preserved
loop-preserved g c =
    let tells = g.D.Disk.tells in
    let more = subst (λ o. IfSome o (λ found. (rs : List Record) → ReadTo (tells c.loop.disk) rs c.loop.journal → ReadTo (tells c.next.new.disk) (rs ++ found ∷ []) c.next.new.self)) c.in-Some.is c.in_ok-record.ensures.some in
    let read = c.loop.invariant.read in
    record { read = (read.0 ++ c.in-Some.record ∷ [], more read.0 read.1) }

pub returns-in_default : goal.returns-in_default
returns-in_default g c =
    let read = c.loop.invariant.read in
    let ends = c.in_ok-record.ensures.end (ap (λ o. Ok o) c.in_default.is) read.0 read.1 in
    (read.0, ends.0)
