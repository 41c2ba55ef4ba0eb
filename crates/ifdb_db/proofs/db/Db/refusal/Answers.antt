use Rattle.std.proofs.Common.{rules, ◌≡◌, true, ap, length, subst}
use Rattle.ifdb_row.specs.Writes.{are_fitting}
use Rattle.ifdb_db.proofs.Landing.{label_made, own_made, parents_kept}
use Rattle.ifdb_db.proofs.db.Db.refusal.Goals as goal

pub verdict-requires-clause-own_made : goal.verdict-requires-clause-own_made
verdict-requires-clause-own_made c = own_made c.args.self.now.seen.public c.args.label.now c.args.txn.now c.own.result.now (length c.tags-tags.result.now) c.requires.kept c.own.ensures.fit (ap length c.tags-tags.ensures)

pub verdict-requires-clause-label_made : goal.verdict-requires-clause-label_made
verdict-requires-clause-label_made c = label_made c.args.self.now.seen.public c.args.label.now c.args.txn.now (length c.tags-tags.result.now) c.requires.kept (ap length c.tags-tags.ensures)

pub returns-in-Go-clause-parents : goal.returns-in-Go-clause-parents
returns-in-Go-clause-parents c = λ none.
    let fitting = subst (λ ws. are_fitting ws ≡ true) c.own.ensures.own c.own.ensures.fitting in
    parents_kept c.args.self.now c.args.label.now c.args.txn.now c.is_sound.ensures fitting (search rules)
