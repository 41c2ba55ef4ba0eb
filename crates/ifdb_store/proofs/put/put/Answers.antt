use Rattle.std.proofs.Common.{◌≡◌, ◌∙◌, ap, arith, map, set, sym, true, false, rules}
use Rattle.std.specs.Prelude.{insert, remove}
use Rattle.std.proofs.lemmas.List.{length-map, map-set}
use Rattle.ifdb_row.specs.declared.row.Row.{Row}
use Rattle.ifdb_row.specs.ByReference.{row_of, slot_of}
use Rattle.ifdb_row.specs.Content.{place}
use Rattle.ifdb_row.proofs.Sorted.{sorted, taken, place_of, taken_within, put_there, put_new, place_put, drop_there, drop_none, rising_sorted}
use Rattle.ifdb_store.proofs.Maps.{insert_map, remove_map}
use Rattle.ifdb_store.proofs.put.put.Goals as goal

pub index_mut-requires : goal.index_mut-requires
index_mut-requires c =
    let rows = map row_of c.args.rows.now.items in
    let s = c.args.write.now.slot in
    let slot = c.by_ref-slot.ensures in
    let rises : sorted (λ (r : Row). r.slot) rows ≡ true = sym (rising_sorted rows) ∙ c.requires in
    let found : taken (λ (r : Row). r.slot) (slot_of c.by_ref-slot.result) rows ≡ true = search rules in
    let there : taken (λ (r : Row). r.slot) s rows ≡ true = ap (λ q. taken (λ (r : Row). r.slot) q rows) (sym slot) ∙ found in
    let first : c.place_of-at.result ≡ place_of (λ (r : Row). r.slot) (slot_of c.by_ref-slot.result) rows = search rules in
    let at : c.place_of-at.result ≡ place_of (λ (r : Row). r.slot) s rows = first ∙ ap (λ q. place_of (λ (r : Row). r.slot) q rows) slot in
    let within = taken_within (λ (r : Row). r.slot) s rows rises there in
    let many = length-map c.args.rows.now.items row_of in
    omega (arith, at, within, many)

pub remove-requires : goal.remove-requires
remove-requires c =
    let rows = map row_of c.args.rows.now.items in
    let s = c.args.write.now.slot in
    let slot = c.by_ref-slot.ensures in
    let rises : sorted (λ (r : Row). r.slot) rows ≡ true = sym (rising_sorted rows) ∙ c.requires in
    let found : taken (λ (r : Row). r.slot) (slot_of c.by_ref-slot.result) rows ≡ true = search rules in
    let there : taken (λ (r : Row). r.slot) s rows ≡ true = ap (λ q. taken (λ (r : Row). r.slot) q rows) (sym slot) ∙ found in
    let first : c.place_of-at.result ≡ place_of (λ (r : Row). r.slot) (slot_of c.by_ref-slot.result) rows = search rules in
    let at : c.place_of-at.result ≡ place_of (λ (r : Row). r.slot) s rows = first ∙ ap (λ q. place_of (λ (r : Row). r.slot) q rows) slot in
    let within = taken_within (λ (r : Row). r.slot) s rows rises there in
    let many = length-map c.args.rows.now.items row_of in
    omega (arith, at, within, many)

pub returns-then-there : goal.returns-then-there
returns-then-there c =
    let items = c.args.rows.now.items in
    let rows = map row_of items in
    let s = c.args.write.now.slot in
    let slot = c.by_ref-slot.ensures in
    let row = c.in-Some.row in
    let rises : sorted (λ (r : Row). r.slot) rows ≡ true = sym (rising_sorted rows) ∙ c.requires in
    let found : taken (λ (r : Row). r.slot) (slot_of c.by_ref-slot.result) rows ≡ true = search rules in
    let there : taken (λ (r : Row). r.slot) s rows ≡ true = ap (λ q. taken (λ (r : Row). r.slot) q rows) (sym slot) ∙ found in
    let first : c.place_of-at.result ≡ place_of (λ (r : Row). r.slot) (slot_of c.by_ref-slot.result) rows = search rules in
    let at : c.place_of-at.result ≡ place_of (λ (r : Row). r.slot) s rows = first ∙ ap (λ q. place_of (λ (r : Row). r.slot) q rows) slot in
    let is : row_of c.by_ref-row.result ≡ row = c.by_ref-row.ensures ∙ c.get.ensures in
    map-set row_of items c.place_of-at.result c.by_ref-row.result
    ∙ (ap (λ i. set rows i (row_of c.by_ref-row.result)) at ∙ (ap (λ r. set rows (place_of (λ (r : Row). r.slot) s rows) r) is
    ∙ (sym (put_there (λ (r : Row). r.slot) s rows row rises there) ∙ (sym (place_put s row rows) ∙ sym (ap (λ o. place s o rows) c.in-Some.is)))))

pub returns-in_ok-insert-in-Some : goal.returns-in_ok-insert-in-Some
returns-in_ok-insert-in-Some c =
    let items = c.args.rows.now.items in
    let rows = map row_of items in
    let s = c.args.write.now.slot in
    let slot = c.by_ref-slot.ensures in
    let row = c.in-Some.row in
    let found : taken (λ (r : Row). r.slot) (slot_of c.by_ref-slot.result) rows ≡ false = search rules in
    let free : taken (λ (r : Row). r.slot) s rows ≡ false = ap (λ q. taken (λ (r : Row). r.slot) q rows) (sym slot) ∙ found in
    let first : c.place_of-at.result ≡ place_of (λ (r : Row). r.slot) (slot_of c.by_ref-slot.result) rows = search rules in
    let at : c.place_of-at.result ≡ place_of (λ (r : Row). r.slot) s rows = first ∙ ap (λ q. place_of (λ (r : Row). r.slot) q rows) slot in
    let is : row_of c.by_ref-row.result ≡ row = c.by_ref-row.ensures ∙ c.get.ensures in
    let new : c.insert.new.self.items ≡ insert items c.place_of-at.result c.by_ref-row.result = search rules in
    ap (map row_of) new ∙ (insert_map row_of items c.place_of-at.result c.by_ref-row.result
    ∙ (ap (λ i. insert rows i (row_of c.by_ref-row.result)) at ∙ (ap (λ r. insert rows (place_of (λ (r : Row). r.slot) s rows) r) is
    ∙ (sym (put_new (λ (r : Row). r.slot) s rows row free) ∙ (sym (place_put s row rows) ∙ sym (ap (λ o. place s o rows) c.in-Some.is))))))

pub returns-then-there-2 : goal.returns-then-there-2
returns-then-there-2 c =
    let items = c.args.rows.now.items in
    let rows = map row_of items in
    let s = c.args.write.now.slot in
    let slot = c.by_ref-slot.ensures in
    let found : taken (λ (r : Row). r.slot) (slot_of c.by_ref-slot.result) rows ≡ true = search rules in
    let there : taken (λ (r : Row). r.slot) s rows ≡ true = ap (λ q. taken (λ (r : Row). r.slot) q rows) (sym slot) ∙ found in
    let first : c.place_of-at.result ≡ place_of (λ (r : Row). r.slot) (slot_of c.by_ref-slot.result) rows = search rules in
    let at : c.place_of-at.result ≡ place_of (λ (r : Row). r.slot) s rows = first ∙ ap (λ q. place_of (λ (r : Row). r.slot) q rows) slot in
    let new : c.remove.new.self.items ≡ remove items c.place_of-at.result = search rules in
    ap (map row_of) new ∙ (remove_map row_of items c.place_of-at.result
    ∙ (ap (remove rows) at ∙ (sym (drop_there s rows c.requires there) ∙ sym (ap (λ o. place s o rows) c.in-None.is))))

pub returns-else-there-2 : goal.returns-else-there-2
returns-else-there-2 c =
    let rows = map row_of c.args.rows.now.items in
    let s = c.args.write.now.slot in
    let slot = c.by_ref-slot.ensures in
    let found : taken (λ (r : Row). r.slot) (slot_of c.by_ref-slot.result) rows ≡ false = search rules in
    let free : taken (λ (r : Row). r.slot) s rows ≡ false = ap (λ q. taken (λ (r : Row). r.slot) q rows) (sym slot) ∙ found in
    sym (ap (λ o. place s o rows) c.in-None.is ∙ drop_none s rows free)
