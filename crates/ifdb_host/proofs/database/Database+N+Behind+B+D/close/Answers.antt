use Rattle.std.proofs.Common.{◌≡◌, ◌∙◌, [], length, sym, ap, subst}
use Rattle.ifdb_io.specs.Causes.{Rose}
use Rattle.ifdb_turn.specs.Passes.{history}
use Rattle.ifdb_durable.specs.Writing.{disk_of}
use Rattle.ifdb_session.specs.Durable.{HasRecords}
use Rattle.ifdb_session.specs.Records.{records_of}
use Rattle.ifdb_host.specs.Fronts.{HasFrontOf, IsKeptSince, LeavesFrom}
use Rattle.ifdb_host.proofs.Keeping.{fronts_stay, kept_stays, kept_then, opening_first}
use Rattle.ifdb_host.proofs.database.Database+N+Behind+B+D.close.Goals as goal

pub returns-clause-fronts : goal.returns-clause-fronts
returns-clause-fronts g c = λ opening before begins sized shows.
    let tells = g.D.Disk.tells in
    let first = g.N.Begins.first in
    let h = history c.args.self.pass in
    let w = c.close-writer.result in
    let q = c.close-writer.new.queue in
    let e = c.close-writer.ensures in
    let has : HasRecords q (records_of first h) = subst (λ z. HasRecords z (records_of first h)) (sym e.queue) (c.into_records-queue.ensures h c.close-room.ensures.stands) in
    let disk : c.into_disk-2.result ≡ (disk_of w).disk = c.into_disk-2.ensures.disk ∙ ap (λ b. b.disk) c.into_disk.ensures in
    subst (λ d. LeavesFrom (tells opening.disk) (tells d) (HasFrontOf before first h 0)) (sym disk)
    (fronts_stay (λ b. b.size) (λ b. tells b.disk) (λ b. g.D.Disk.faults b.disk) g.B.Origin.begun (λ b. b.fronted) (λ b. g.D.Disk.present b.disk)
    c.fronts_are_first_texts.ensures c.first_texts_add_a_front.ensures g.N.Naming.table g.N.Naming.before first h w q c.args.self.member.receipt e.stands e.heard e.taken has e.worth opening before begins sized shows)

pub returns-clause-kept : goal.returns-clause-kept
returns-clause-kept g c = λ opening before texts begins sized shows front knows.
    let tells = g.D.Disk.tells in
    let first = g.N.Begins.first in
    let h = history c.args.self.pass in
    let w = c.close-writer.result in
    let q = c.close-writer.new.queue in
    let e = c.close-writer.ensures in
    let has : HasRecords q (records_of first h) = subst (λ z. HasRecords z (records_of first h)) (sym e.queue) (c.into_records-queue.ensures h c.close-room.ensures.stands) in
    let disk : c.into_disk-2.result ≡ (disk_of w).disk = c.into_disk-2.ensures.disk ∙ ap (λ b. b.disk) c.into_disk.ensures in
    let kept = kept_stays (λ b. b.size) (λ b. tells b.disk) (λ b. g.D.Disk.faults b.disk) g.B.Origin.begun (λ b. b.fronted) (λ b. g.D.Disk.present b.disk)
    c.fronts_are_first_texts.ensures c.first_texts_add_a_front.ensures g.N.Naming.table g.N.Naming.before first h w q c.args.self.member.receipt e.stands e.heard e.taken has e.worth opening before begins sized shows texts front knows in
    (kept.0, kept.1, subst (λ d. LeavesFrom (tells kept.0.disk.disk) (tells d) (HasFrontOf before first h (length texts))) (sym disk) kept.2)

pub returns-clause-kept_since : goal.returns-clause-kept_since
returns-clause-kept_since g c = λ opening before texts begins sized shows front knows.
    let tells = g.D.Disk.tells in
    let first = g.N.Begins.first in
    let h = history c.args.self.pass in
    let w = c.close-writer.result in
    let q = c.close-writer.new.queue in
    let e = c.close-writer.ensures in
    let has : HasRecords q (records_of first h) = subst (λ z. HasRecords z (records_of first h)) (sym e.queue) (c.into_records-queue.ensures h c.close-room.ensures.stands) in
    let disk : c.into_disk-2.result ≡ (disk_of w).disk = c.into_disk-2.ensures.disk ∙ ap (λ b. b.disk) c.into_disk.ensures in
    subst (λ d. IsKeptSince before (tells d) texts) (sym disk)
    (kept_then (λ b. b.size) (λ b. tells b.disk) (λ b. g.D.Disk.faults b.disk) g.B.Origin.begun (λ b. b.fronted) (λ b. g.D.Disk.present b.disk)
    c.fronts_are_first_texts.ensures c.first_texts_add_a_front.ensures g.N.Naming.table g.N.Naming.before first h w q c.args.self.member.receipt e.stands e.heard e.taken has e.worth opening before begins sized shows texts front knows)

pub returns-clause-cause : goal.returns-clause-cause
returns-clause-cause g c = λ opening begins failed.
    let tells = g.D.Disk.tells in
    let first = g.N.Begins.first in
    let h = history c.args.self.pass in
    let w = c.close-writer.result in
    let q = c.close-writer.new.queue in
    let e = c.close-writer.ensures in
    let has : HasRecords q (records_of first h) = subst (λ z. HasRecords z (records_of first h)) (sym e.queue) (c.into_records-queue.ensures h c.close-room.ensures.stands) in
    let disk : c.into_disk-2.result ≡ (disk_of w).disk = c.into_disk-2.ensures.disk ∙ ap (λ b. b.disk) c.into_disk.ensures in
    let is_first = opening_first (λ b. b.size) (λ b. tells b.disk) (λ b. g.D.Disk.faults b.disk) g.B.Origin.begun (λ b. b.fronted) (λ b. g.D.Disk.present b.disk)
    c.fronts_are_first_texts.ensures c.first_texts_add_a_front.ensures g.N.Naming.table g.N.Naming.before first h w q c.args.self.member.receipt e.stands e.heard e.taken has e.worth opening begins in
    subst (λ d. Rose (g.D.Disk.faults opening.disk) (g.D.Disk.faults d)) (sym disk) (e.stands.cause (sym c.has_failed.ensures ∙ failed) (record { disk = opening; kept = [] }) is_first)
