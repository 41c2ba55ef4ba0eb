-- What is true of each open transaction.
use Rattle.std.proofs.Common.{◌≡◌, true, List, ◌∙◌, sym, ap, arith}
use Rattle.std.proofs.lemmas.Bool.Decides.{nat_tests}
use Rattle.ifdb_row.specs.declared.row.Row.{Row}
use Rattle.ifdb_row.specs.declared.write.Write.{Write}
use Rattle.ifdb_row.specs.Content.{after, rising}
use Rattle.ifdb_row.specs.Writes.{merged, are_fitting}
use Rattle.ifdb_row.proofs.AfterMerged.{after_merged}
use Rattle.ifdb_row.proofs.LiveLaws.{merged_all}
use Rattle.ifdb_row.proofs.Sorted.{merged_fits, merged_rises}
use Rattle.ifdb_snapshot.specs.Writing.{is_fit, are_fit}
use Rattle.ifdb_snapshot.proofs.Sound.{sound_written}
use Rattle.ifdb_db.specs.Client.{Open}
use Rattle.ifdb_db.specs.Kept.{IsSoundTxn}

-- one with more writes
pub txn_written : (x : Open) (shown : List Row) (ws : List Write) → IsSoundTxn x shown → are_fitting ws ≡ true → are_fit x.base.public ws ≡ true
    → IsSoundTxn (record x { own = merged x.own ws }) (after shown ws)
txn_written x shown ws k g h =
    let base = k.base in
    let up : rising x.base.rows ≡ true = grind (arith, nat_tests) in
    record {
      rows = ap (λ rows. after rows ws) k.rows ∙ sym (after_merged x.base.rows x.own ws up k.rising k.fitting g);
      seen = sound_written (record { public = x.base.public; rows = shown }) ws k.seen h g;
      base = k.base;
      own = merged_all (is_fit x.base.public) x.own ws k.own h;
      rising = merged_rises x.own ws k.rising;
      fitting = merged_fits x.own ws k.fitting g;
    }
