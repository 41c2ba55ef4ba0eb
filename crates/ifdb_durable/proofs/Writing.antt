-- What an append does to the writer.
use Rattle.std.proofs.Common.{◌≡◌, true, false, List, [], ◌++◌, length, sym, ap, subst, ◌∙◌, append_assoc, append-nil}
use Rattle.std.specs.Prelude.{Option}
use Rattle.atomic_table.specs.Seated.{TableId}
use Rattle.ifdb_disk.specs.Clock.{Clock}
use Rattle.ifdb_journal.specs.declared.record.Record.{Record}
use Rattle.ifdb_journal.specs.Reading.{Holds}
use Rattle.ifdb_durable.specs.declared.view.Told.{Told}
use Rattle.ifdb_durable.specs.declared.writer.Writer.{Writer}
use Rattle.ifdb_durable.specs.Told.{kept_by}
use Rattle.ifdb_durable.specs.Seats.{IsAt}
use Rattle.ifdb_durable.specs.Writing.{taken, told, kept, in_hand, disk_of, flush_of, HasSeat, Writes, HasWritten, HasFailed}
use Rattle.ifdb_durable.proofs.Begins.{kept_more}

module _ {B D : Type 0} (tells : D → Option Clock) (before : List Record) (id : TableId) where
  -- it was answered
  pub writes_on : (old new : Writer B D) → HasSeat id old → HasWritten old new → IsAt id new.seat → new.seat.me.0.is_writer ≡ true
      → new.count ≡ length (taken old) → new.written ≡ length (taken old) → new.has_failed ≡ false → old.has_failed ≡ false
      → Holds (tells (disk_of new)) ((before ++ kept old) ++ in_hand old) new.journal.at → Writes tells before id new
  writes_on old new seat wrote at role count written works worked holds =
      let is : kept new ≡ taken new = ap (λ (t : Told D). kept_by t) wrote.all ∙ kept_more [] (told old).flushes (flush_of new) in
      let all : (before ++ kept old) ++ in_hand old ≡ before ++ kept new = append_assoc before (kept old) (in_hand old) ∙ ap (λ (l : List Record). before ++ l) (sym seat.took ∙ sym wrote.same ∙ sym is) in record {
        seat = record {
          at = at;
          role = role;
          took = sym (append-nil (taken new)) ∙ (λ i. sym is i ++ sym wrote.none i);
          count = count ∙ ap length (sym wrote.same);
          written = written ∙ ap length (sym wrote.same ∙ sym is);
          failed = works ∙ sym worked ∙ seat.failed ∙ sym (ap (λ (t : Told D). t.has_failed) wrote.all);
        };
        works = works;
        holds = subst (λ (l : List Record). Holds (tells (disk_of new)) l new.journal.at) all holds;
      }

  -- the disk failed
  pub fails_on : (old new : Writer B D) → HasSeat id old → HasFailed old new → IsAt id new.seat → new.seat.me.0.is_writer ≡ true
      → new.count ≡ old.count → new.written ≡ old.written → HasSeat id new
  fails_on old new seat lost at role count written =
      let is : kept new ≡ kept old = ap (λ (t : Told D). kept_by t) lost.told in record {
        at = at;
        role = role;
        took = lost.same ∙ seat.took ∙ (λ i. sym is i ++ sym lost.hand i);
        count = count ∙ seat.count ∙ ap length (sym lost.same);
        written = written ∙ seat.written ∙ ap length (sym is);
        failed = lost.fails ∙ sym (ap (λ (t : Told D). t.has_failed) lost.told);
      }
