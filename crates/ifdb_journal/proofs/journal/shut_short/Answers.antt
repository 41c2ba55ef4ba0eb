use Rattle.std.proofs.Common.{◌≡◌, ◌≤◌, ◌<◌, [], ◌∷◌, ℕ, List, length, ap, sym, subst, ◌∙◌, arith}
use Rattle.ifdb_disk.specs.Images.{synced}
use Rattle.ifdb_disk.specs.Clock.{Leaves, Now, Stored, Torn, goes}
use Rattle.ifdb_journal.specs.Reading.{IsOldOrShort, ReadTo, SpellsSame}
use Rattle.ifdb_journal.proofs.Append.{stored_at}
use Rattle.ifdb_journal.proofs.Start.{beginning, sync_leaves, long_begins, shut_begins, shut_spelled, same_spelled, shut_leaves, told_of}
use Rattle.ifdb_journal.proofs.journal.shut_short.Goals as goal

pub returns-in_err-size-clause-moments : goal.returns-in_err-size-clause-moments
returns-in_err-size-clause-moments g c =
    let t = g.D.Disk.tells c.args.disk.now in
    let after = c.len.ensures.still ∙ c.in_ok-sync.ensures.ok in
    subst (λ u. Leaves t u (IsOldOrShort t)) (sym after) (sync_leaves t (g.D.Disk.present c.args.disk.now))

pub returns-then-size-gt1-clause-begun : goal.returns-then-size-gt1-clause-begun
returns-then-size-gt1-clause-begun g c =
    let t = g.D.Disk.tells c.args.disk.now in
    let after = c.len.ensures.still ∙ c.in_ok-sync.ensures.ok in
    let long : Now (goes synced t) (λ s. 1 < length s.bytes) = told_of (goes synced t) _ (λ s. c.in_ok-size.size ≡ length s.bytes) (λ s. 1 < length s.bytes) c.in_ok-sync.ensures.ok c.in_ok-size.ensures.length (λ s is. omega (arith, is, c.if-size-gt1.true)) in
    subst (λ u. ReadTo u [] beginning) (sym after) (long_begins t long)

pub returns-then-size-gt1-clause-moments : goal.returns-then-size-gt1-clause-moments
returns-then-size-gt1-clause-moments g c =
    let t = g.D.Disk.tells c.args.disk.now in
    let after = c.len.ensures.still ∙ c.in_ok-sync.ensures.ok in
    subst (λ u. Leaves t u (IsOldOrShort t)) (sym after) (sync_leaves t (g.D.Disk.present c.args.disk.now))

pub returns-clause-begun : goal.returns-clause-begun
returns-clause-begun g c =
    let t = g.D.Disk.tells c.args.disk.now in
    let after = c.len.ensures.still ∙ c.in_ok-sync.ensures.ok in
    let short : Now (goes synced t) (λ s. length s.bytes ≤ 1) = told_of (goes synced t) _ (λ s. c.in_ok-size.size ≡ length s.bytes) (λ s. length s.bytes ≤ 1) c.in_ok-sync.ensures.ok c.in_ok-size.ensures.length (λ s is. omega (arith, is, c.if-size-gt1.false)) in
    let shut = c.in_ok-write_through.ensures.ok ∙ ap (λ v. stored_at 0 (0 ∷ []) v) after in
    subst (λ u. ReadTo u [] beginning) (sym shut) (shut_begins t short)

pub returns-clause-same : goal.returns-clause-same
returns-clause-same g c =
    let t = g.D.Disk.tells c.args.disk.now in
    let after = c.len.ensures.still ∙ c.in_ok-sync.ensures.ok in
    let short : Now (goes synced t) (λ s. length s.bytes ≤ 1) = told_of (goes synced t) _ (λ s. c.in_ok-size.size ≡ length s.bytes) (λ s. length s.bytes ≤ 1) c.in_ok-sync.ensures.ok c.in_ok-size.ensures.length (λ s is. omega (arith, is, c.if-size-gt1.false)) in
    let shut = c.in_ok-write_through.ensures.ok ∙ ap (λ v. stored_at 0 (0 ∷ []) v) after in
    subst (λ u. SpellsSame t u) (sym shut) (shut_spelled t short)

pub returns-then-size-gt1-clause-same : goal.returns-then-size-gt1-clause-same
returns-then-size-gt1-clause-same g c =
    let t = g.D.Disk.tells c.args.disk.now in
    let after = c.len.ensures.still ∙ c.in_ok-sync.ensures.ok in
    subst (λ u. SpellsSame t u) (sym after) (same_spelled t)

pub returns-in_err-write_through-clause-moments : goal.returns-in_err-write_through-clause-moments
returns-in_err-write_through-clause-moments g c =
    let t = g.D.Disk.tells c.args.disk.now in
    let after = c.len.ensures.still ∙ c.in_ok-sync.ensures.ok in
    let short : Now (goes synced t) (λ s. length s.bytes ≤ 1) = told_of (goes synced t) _ (λ s. c.in_ok-size.size ≡ length s.bytes) (λ s. length s.bytes ≤ 1) c.in_ok-sync.ensures.ok c.in_ok-size.ensures.length (λ s is. omega (arith, is, c.if-size-gt1.false)) in
    let moments = subst (λ v. ((old : List ℕ) → Stored v old → Leaves v (g.D.Disk.tells c.write_through.new.disk) (Torn old 0 1))) after c.write_through.ensures.moments in
    shut_leaves t _ (g.D.Disk.present c.args.disk.now) short moments

pub returns-clause-moments : goal.returns-clause-moments
returns-clause-moments g c =
    let t = g.D.Disk.tells c.args.disk.now in
    let after = c.len.ensures.still ∙ c.in_ok-sync.ensures.ok in
    let short : Now (goes synced t) (λ s. length s.bytes ≤ 1) = told_of (goes synced t) _ (λ s. c.in_ok-size.size ≡ length s.bytes) (λ s. length s.bytes ≤ 1) c.in_ok-sync.ensures.ok c.in_ok-size.ensures.length (λ s is. omega (arith, is, c.if-size-gt1.false)) in
    let moments = subst (λ v. ((old : List ℕ) → Stored v old → Leaves v (g.D.Disk.tells c.write_through.new.disk) (Torn old 0 1))) after c.write_through.ensures.moments in
    shut_leaves t _ (g.D.Disk.present c.args.disk.now) short moments
