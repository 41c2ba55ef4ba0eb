use Rattle.std.proofs.Common.{◌≡◌, ◌∙◌, ap, sym, ℕ, List}
use Rattle.std.specs.Prelude.{not, find, nat_lt, ◌==◌, None, Some, if◌then◌else◌}
use Rattle.std.specs.Option.{option_copied}
use Rattle.std.specs.Ordering.{is_lt}
use Rattle.ifdb_value.specs.declared.value.Value.{Value}
use Rattle.ifdb_row.specs.declared.row.Row.{Row}
use Rattle.ifdb_row.specs.ByReference.{option_row}
use Rattle.ifdb_row.specs.Slots.{slot_lt, is_of_key, key_cmp}
use Rattle.ifdb_row.specs.Edges.{slot_at}
use Rattle.ifdb_row.specs.Questions.{if_passes, is_further, row_of_key}
use Rattle.ifdb_row.proofs.Questions.{passes_first, key_same, key_down, label_same, label_down}
use Rattle.ifdb_row.proofs.rows.Rows.of_key.Goals as goal

pub returns-in-None-clause-row : goal.returns-in-None-clause-row
returns-in-None-clause-row g c =
    let t = c.args.table in
    let k : List Value = c.args.key.now in
    let rows = g.Self.Rows.rows c.args.self.now in
    let e : option_row c.first_from.result ≡ find (λ (r : Row). not (if r.slot.table == t then is_lt (key_cmp r.slot.key k) else nat_lt r.slot.table t)) rows = c.first_from.ensures.row in
    let w : option_row c.if_of_key.result ≡ if_passes (λ r. is_of_key t k r.slot) (option_row c.first_from.result) = c.if_of_key.ensures in
    w ∙ (ap (if_passes (λ r. is_of_key t k r.slot)) e
    ∙ (sym (passes_first (λ r. if r.slot.table == t then is_lt (key_cmp r.slot.key k) else nat_lt r.slot.table t) (λ r. is_of_key t k r.slot) (is_further t k None) (key_same t k) (key_down t k) rows c.first_from.ensures.rising)
    ∙ ap (λ o. row_of_key t k (option_copied o) rows) (sym c.in-None.is)))

pub returns-in-Some-clause-row : goal.returns-in-Some-clause-row
returns-in-Some-clause-row g c =
    let t = c.args.table in
    let k : List Value = c.args.key.now in
    let l : List ℕ = c.in-Some.label.now in
    let rows = g.Self.Rows.rows c.args.self.now in
    let e : option_row c.first_from-row.result ≡ find (λ (r : Row). not (not (slot_lt (slot_at t k l) r.slot))) rows = c.first_from-row.ensures.row in
    let w : option_row c.if_of_key-in-Some.result ≡ if_passes (λ r. is_of_key t k r.slot) (option_row c.first_from-row.result) = c.if_of_key-in-Some.ensures in
    w ∙ (ap (if_passes (λ r. is_of_key t k r.slot)) e
    ∙ (sym (passes_first (λ r. not (slot_lt (slot_at t k l) r.slot)) (λ r. is_of_key t k r.slot) (is_further t k (Some l)) (label_same t k l) (label_down t k l) rows c.first_from-row.ensures.rising)
    ∙ ap (λ o. row_of_key t k (option_copied o) rows) (sym c.in-Some.is)))
