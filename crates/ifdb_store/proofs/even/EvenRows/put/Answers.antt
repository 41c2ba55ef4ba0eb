use Rattle.std.proofs.Common.{◌≡◌, ◌≤◌, ◌+◌, ◌<◌, ◌∙◌, Some, ap, arith, length, sym, true}
use Rattle.ifdb_row.specs.ByReference.{row_of, slot_of}
use Rattle.ifdb_row.specs.Runs.{rows_even}
use Rattle.ifdb_row.proofs.Sorted.{place_of, taken}
use Rattle.ifdb_row.proofs.TableWalks.{is_true}
use Rattle.ifdb_row.specs.declared.row.Row.{Row}
use Rattle.ifdb_store.specs.Stands.{stands}
use Rattle.ifdb_store.proofs.InPlace.{gap_taken, is_inserted, is_removed, is_replaced}
use Rattle.ifdb_store.proofs.even.EvenRows.put.Goals as goal

pub returns-in-Some : goal.returns-in-Some
returns-in-Some c =
    let run = c.run-rows.result in
    let old = c.args.self.now in
    let w = c.args.write.now in
    let g = c.gap_for-gap.result in
    let x = row_of c.by_ref-in-Some.result in
    let is : x ≡ c.in-Some.row = c.by_ref-in-Some.ensures ∙ c.get.ensures in
    let o : w.row ≡ Some x = c.in-Some.is ∙ ap Some (sym is) in
    let from : g.from ≡ place_of (λ (r : Row). r.slot) w.slot old = c.gap_for-gap.ensures.from ∙ (ap (λ s. place_of (λ (r : Row). r.slot) s (rows_even run)) c.by_ref.ensures ∙ ap (place_of (λ (r : Row). r.slot) w.slot) c.run-rows.ensures) in
    let there : taken (λ (r : Row). r.slot) (slot_of c.by_ref.result) (rows_even run) ≡ true = gap_taken _ g.from g.to c.gap_for-gap.ensures.to c.if-gap.true in
    let t : taken (λ (r : Row). r.slot) w.slot old ≡ true = sym (ap (λ s. taken (λ (r : Row). r.slot) s (rows_even run)) c.by_ref.ensures ∙ ap (taken (λ (r : Row). r.slot) w.slot) c.run-rows.ensures) ∙ there in
    let many : length (rows_even run) ≡ length old = ap length c.run-rows.ensures in
    let lt : g.from < length old = omega (arith, many, c.gap_for-gap.ensures.within, c.if-gap.true) in
    is_replaced old c.replace.new.self w x g.from c.replace.result c.replace.ensures (is_true _ c.requires.rising) o (is_true _ c.requires.fitting) from t lt

pub returns-in-Some-2 : goal.returns-in-Some-2
returns-in-Some-2 c =
    let run = c.run-rows.result in
    let old = c.args.self.now in
    let w = c.args.write.now in
    let g = c.gap_for-gap.result in
    let x = row_of c.by_ref-in-Some-2.result in
    let is : x ≡ c.in-Some-2.row = c.by_ref-in-Some-2.ensures ∙ c.get-in-Some-2.ensures in
    let o : w.row ≡ Some x = c.in-Some-2.is ∙ ap Some (sym is) in
    let from : g.from ≡ place_of (λ (r : Row). r.slot) w.slot old = c.gap_for-gap.ensures.from ∙ (ap (λ s. place_of (λ (r : Row). r.slot) s (rows_even run)) c.by_ref.ensures ∙ ap (place_of (λ (r : Row). r.slot) w.slot) c.run-rows.ensures) in
    let to : g.to ≡ g.from + stands w.slot old = c.gap_for-gap.ensures.to ∙ (ap (λ s. g.from + stands s (rows_even run)) c.by_ref.ensures ∙ ap (λ rows. g.from + stands w.slot rows) c.run-rows.ensures) in
    let many : length (rows_even run) ≡ length old = ap length c.run-rows.ensures in
    let within : g.from ≤ length old = omega (arith, many, c.gap_for-gap.ensures.within, g.order) in
    let few : length old < 64 = omega (arith, many, c.len-len.ensures, c.if-len-lt-PAGE_ROWS.true) in
    is_inserted old c.insert.new.self w x g.from g.to c.insert.result c.insert.ensures (is_true _ c.requires.rising) o from to (omega (arith, c.if-gap.false)) c.if-gap-gt0.true within few

pub returns-in-None : goal.returns-in-None
returns-in-None c =
    let run = c.run-rows.result in
    let old = c.args.self.now in
    let w = c.args.write.now in
    let g = c.gap_for-gap.result in
    let from : g.from ≡ place_of (λ (r : Row). r.slot) w.slot old = c.gap_for-gap.ensures.from ∙ (ap (λ s. place_of (λ (r : Row). r.slot) s (rows_even run)) c.by_ref.ensures ∙ ap (place_of (λ (r : Row). r.slot) w.slot) c.run-rows.ensures) in
    let to : g.to ≡ g.from + stands w.slot old = c.gap_for-gap.ensures.to ∙ (ap (λ s. g.from + stands s (rows_even run)) c.by_ref.ensures ∙ ap (λ rows. g.from + stands w.slot rows) c.run-rows.ensures) in
    let many : length (rows_even run) ≡ length old = ap length c.run-rows.ensures in
    let within : g.to ≤ length old = omega (arith, many, c.gap_for-gap.ensures.within) in
    is_removed old c.remove.new.self w g.from g.to c.remove.result c.remove.ensures (is_true _ c.requires.rising) c.in-None.is from to c.if-gap-2.true within c.if-gap-gt0-2.true
