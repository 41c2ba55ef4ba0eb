use Rattle.std.proofs.Common.{◌≡◌, ◌≤◌, length, subst, arith}
use Rattle.ifdb_disk.specs.Clock.{Leaves}
use Rattle.ifdb_log.specs.Title.{IsNew, IsNewOrTitle, IsSettled}
use Rattle.ifdb_log.proofs.Titles.{settled_with, short_torn, torn_leaves}
use Rattle.ifdb_log.proofs.title.shut.Goals as goal

pub returns-in_err-write_through-clause-moments : goal.returns-in_err-write_through-clause-moments
returns-in_err-write_through-clause-moments g c =
    let t = g.D.Disk.tells c.args.disk.now in
    let v = g.D.Disk.tells c.len.new.self in
    let u = g.D.Disk.tells c.write_through.new.disk in
    let short : IsSettled (λ b. length b ≤ 1) v = settled_with t v IsNew (λ b. length b ≤ 1) (λ s. c.in_ok-len.field-0 ≡ length s.bytes) c.len.ensures.still c.requires c.in_ok-len.ensures.length (λ s new is. omega (arith, is, c.if-branch-gt1.false)) in
    subst (λ w. Leaves w u IsNewOrTitle) c.len.ensures.still (torn_leaves v u 0 1 (λ b. length b ≤ 1) IsNewOrTitle short (λ b image le torn. short_torn b image le torn) c.write_through.ensures.moments)

pub returns-clause-moments : goal.returns-clause-moments
returns-clause-moments g c =
    let t = g.D.Disk.tells c.args.disk.now in
    let v = g.D.Disk.tells c.len.new.self in
    let u = g.D.Disk.tells c.write_through.new.disk in
    let short : IsSettled (λ b. length b ≤ 1) v = settled_with t v IsNew (λ b. length b ≤ 1) (λ s. c.in_ok-len.field-0 ≡ length s.bytes) c.len.ensures.still c.requires c.in_ok-len.ensures.length (λ s new is. omega (arith, is, c.if-branch-gt1.false)) in
    subst (λ w. Leaves w u IsNewOrTitle) c.len.ensures.still (torn_leaves v u 0 1 (λ b. length b ≤ 1) IsNewOrTitle short (λ b image le torn. short_torn b image le torn) c.write_through.ensures.moments)
