use Rattle.std.proofs.Common.{◌≡◌, true, sym, subst}
use Rattle.ifdb_row.specs.Writes.{are_fitting, merged}
use Rattle.ifdb_snapshot.specs.Writing.{are_fit}
use Rattle.ifdb_db.specs.Client.{Open}
use Rattle.ifdb_db.specs.Kept.{IsSoundTxn}
use Rattle.ifdb_db.proofs.Transactions.{txn_written}
use Rattle.ifdb_db.proofs.txn.Txn.write.Goals as goal

pub invariant_of-self-2 : goal.invariant_of-self-2
invariant_of-self-2 c =
    let fits = subst (λ (x : Open). are_fit x.base.public c.args.writes ≡ true) (sym c.self.view_is) c.requires in
    let x : Open = record { begin = c.self.inside.begin; own = c.self.inside.own; base = record { public = c.self.inside.public; rows = c.self.inside.base } } in
    let fitting = subst (λ ws. are_fitting ws ≡ true) c.writes.view_is c.writes.invariant.1 in
    let more = txn_written x c.self.inside.rows c.args.writes c.self.invariant fitting fits in
    subst (λ ws. IsSoundTxn (record x { own = ws }) c.in_ok-rows.rows) (sym c.in_ok-merge.ensures.ok)
    (subst (λ rows. IsSoundTxn (record x { own = merged c.self.inside.own c.args.writes }) rows) (sym c.in_ok-rows.ensures) more)
