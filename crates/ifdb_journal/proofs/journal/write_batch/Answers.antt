use Rattle.std.proofs.Common.{◌≡◌, ◌+◌, ◌-◌, ◌∷◌, [], length, ap, ◌∙◌, arith}
use Rattle.ifdb_journal.proofs.Append.{stored_at, opened_of, none_of, none_holds, none_leaves, place_within, first_leaves, both_leave, holds_after}
use Rattle.ifdb_journal.proofs.journal.write_batch.Goals as goal

pub returns-then-text-le1-clause-added : goal.returns-then-text-le1-clause-added
returns-then-text-le1-clause-added g c = λ rs held.
    none_holds (g.D.Disk.tells c.args.disk.now) c.args.batch.now.records rs c.args.at (none_of c.text-text.result.now c.args.batch.now.records c.text-text.ensures c.if-text-le1.true) held

pub returns-then-text-le1-clause-moments : goal.returns-then-text-le1-clause-moments
returns-then-text-le1-clause-moments g c = λ rs held. none_leaves (g.D.Disk.tells c.args.disk.now) c.args.batch.now.records rs

pub write_through-requires : goal.write_through-requires
write_through-requires g c = place_within (g.D.Disk.tells c.args.disk.now) c.args.at c.requires.ready

pub returns-in_err-write_through-clause-moments : goal.returns-in_err-write_through-clause-moments
returns-in_err-write_through-clause-moments g c = λ rs held.
    let has = opened_of c.text-text.result.now c.args.batch.now.records c.text-text.ensures c.if-text-le1.false in
    first_leaves c.args.batch.now.records has.rest has.is _ _ rs c.args.at _ held c.write_through.ensures.moments

pub returns-in_err-write_through-2-clause-moments : goal.returns-in_err-write_through-2-clause-moments
returns-in_err-write_through-2-clause-moments g c = λ rs held.
    let t = g.D.Disk.tells c.args.disk.now in
    let has = opened_of c.text-text.result.now c.args.batch.now.records c.text-text.ensures c.if-text-le1.false in
    let staged = c.in_ok-write_through.ensures.ok ∙ ap (λ b. stored_at (c.args.at + 1) b t) has.split in
    both_leave c.args.batch.now.records has.rest has.is t _ _ rs c.args.at _ held staged c.write_through.ensures.moments c.write_through-2.ensures.moments

pub returns-clause-moments : goal.returns-clause-moments
returns-clause-moments g c = λ rs held.
    let t = g.D.Disk.tells c.args.disk.now in
    let has = opened_of c.text-text.result.now c.args.batch.now.records c.text-text.ensures c.if-text-le1.false in
    let staged = c.in_ok-write_through.ensures.ok ∙ ap (λ b. stored_at (c.args.at + 1) b t) has.split in
    both_leave c.args.batch.now.records has.rest has.is t _ _ rs c.args.at _ held staged c.write_through.ensures.moments c.write_through-2.ensures.moments

pub returns-clause-added : goal.returns-clause-added
returns-clause-added g c = λ rs held.
    let t = g.D.Disk.tells c.args.disk.now in
    let has = opened_of c.text-text.result.now c.args.batch.now.records c.text-text.ensures c.if-text-le1.false in
    let staged = c.in_ok-write_through.ensures.ok ∙ ap (λ b. stored_at (c.args.at + 1) b t) has.split in
    let opened = c.in_ok-write_through-2.ensures.ok ∙ ap (λ v. stored_at c.args.at (1 ∷ []) v) staged in
    let place : c.args.at + (1 + length has.rest) ≡ c.args.at + (length c.text-text.result.now - 1) = omega (arith, has.size) in
    holds_after c.args.batch.now.records has.rest has.is t _ rs c.args.at _ held opened place
