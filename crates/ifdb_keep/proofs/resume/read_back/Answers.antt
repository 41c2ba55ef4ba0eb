use Rattle.std.proofs.Common.{◌≡◌, ◌++◌, ◌∷◌, [], List, Ok, Err, ap, subst, refl, ◌∙◌}
use Rattle.std.specs.Prelude.{IfSome}
use Rattle.std.proofs.lemmas.Result.{err_from_is_err_and}
use Rattle.ifdb_journal.specs.declared.record.Record.{Record}
use Rattle.ifdb_journal.specs.declared.record.JournalFault.TheVariants as fault
use Rattle.ifdb_journal.specs.Reading.{ReadTo, BreaksAt}
use Rattle.ifdb_keep.proofs.Resuming.{so_far_none, so_far_more, so_far_whole}
use Rattle.ifdb_keep.proofs.resume.read_back.Goals as goal

pub records-init : goal.records-init
records-init g c = record {
  back = so_far_none (g.D.Disk.tells c.args.disk.now) c.args.journal.now c.args.room.now c.requires.begun c.requires.opening;
  still = refl;
  faults = refl;
}

pub records-preserved : goal.records-preserved
records-preserved g c =
    let tells = g.D.Disk.tells in
    let more = subst (λ o. IfSome o (λ found. (rs : List Record) → ReadTo (tells c.records.disk) rs c.records.journal → ReadTo (tells c.next.new.disk) (rs ++ found ∷ []) c.next.new.self)) c.in-Some.is c.in_ok-entry.ensures.some in
    record {
      back = so_far_more c.replay_goes_on.ensures (tells c.records.disk) (tells c.next.new.disk) c.records.journal c.next.new.self c.in-Some.entry c.records.room c.redo.new.room c.records.any
          c.records.invariant.back more c.in-Ok.ensures;
      still = c.in_ok-entry.ensures.still ∙ c.records.invariant.still;
      faults = c.in_ok-entry.ensures.cause ∙ c.records.invariant.faults;
    }

pub returns-in_default-clause-whole : goal.returns-in_default-clause-whole
returns-in_default-clause-whole g c =
    let tells = g.D.Disk.tells in
    let back = c.records.invariant.back in
    let ends = c.in_ok-entry.ensures.end (ap (λ o. Ok o) c.in_default.is) back.records back.read in
    so_far_whole (tells c.records.disk) (tells c.next.new.disk) (tells c.args.disk.now) c.records.journal c.next.new.self.at c.records.room c.records.any (c.in_ok-entry.ensures.still ∙ c.records.invariant.still) back ends.0 ends.1

pub returns-in_err-entry-clause-damaged : goal.returns-in_err-entry-clause-damaged
returns-in_err-entry-clause-damaged g c = λ at is.
    let back = c.records.invariant.back in
    let exit = err_from_is_err_and c.from_residual.result c.from_residual.ensures.1 in
    let found : c.in_err-entry.field-0.0 ≡ fault.Damaged at = cc (exit.1, exit.2, is) in
    subst (λ t. BreaksAt t at) (c.in_err-entry.ensures.still ∙ c.records.invariant.still) (c.in_err-entry.ensures.damaged at (ap (λ f. Err f) found) back.records back.read)
