use Rattle.std.proofs.Common.{◌≡◌, ◌∙◌, ap, arith, sym, true, false, set, rules}
use Rattle.std.specs.Prelude.{insert}
use Rattle.ifdb_row.specs.declared.write.Write.{Write}
use Rattle.ifdb_row.specs.ByReference.{slot_of}
use Rattle.ifdb_row.proofs.Sorted.{sorted, taken, place_of, taken_within, put_there, put_new, put_is, are_rising_sorted}
use Rattle.ifdb_row.proofs.writes.put.Goals as goal

pub index_mut-requires : goal.index_mut-requires
index_mut-requires c =
    let ws = c.args.items.now.items in
    let s = c.args.write.slot in
    let slot = c.by_ref-slot.ensures in
    let rises : sorted (λ (w : Write). w.slot) ws ≡ true = sym (are_rising_sorted ws) ∙ c.requires in
    let found : taken (λ (w : Write). w.slot) (slot_of c.by_ref-slot.result) ws ≡ true = search rules in
    let there : taken (λ (w : Write). w.slot) s ws ≡ true = ap (λ q. taken (λ (w : Write). w.slot) q ws) (sym slot) ∙ found in
    let first : c.place_of-at.result ≡ place_of (λ (w : Write). w.slot) (slot_of c.by_ref-slot.result) ws = search rules in
    let at : c.place_of-at.result ≡ place_of (λ (w : Write). w.slot) s ws = first ∙ ap (λ q. place_of (λ (w : Write). w.slot) q ws) slot in
    let within = taken_within (λ (w : Write). w.slot) s ws rises there in
    omega (arith, at, within)

pub returns-then-is_at-clause-ok : goal.returns-then-is_at-clause-ok
returns-then-is_at-clause-ok c =
    let ws = c.args.items.now.items in
    let s = c.args.write.slot in
    let slot = c.by_ref-slot.ensures in
    let rises : sorted (λ (w : Write). w.slot) ws ≡ true = sym (are_rising_sorted ws) ∙ c.requires in
    let found : taken (λ (w : Write). w.slot) (slot_of c.by_ref-slot.result) ws ≡ true = search rules in
    let there : taken (λ (w : Write). w.slot) s ws ≡ true = ap (λ q. taken (λ (w : Write). w.slot) q ws) (sym slot) ∙ found in
    let first : c.place_of-at.result ≡ place_of (λ (w : Write). w.slot) (slot_of c.by_ref-slot.result) ws = search rules in
    let at : c.place_of-at.result ≡ place_of (λ (w : Write). w.slot) s ws = first ∙ ap (λ q. place_of (λ (w : Write). w.slot) q ws) slot in
    ap (λ i. set ws i c.args.write) at ∙ (sym (put_there (λ (w : Write). w.slot) s ws c.args.write rises there) ∙ sym (put_is c.args.write ws))

pub returns-in_ok-insert-clause-ok : goal.returns-in_ok-insert-clause-ok
returns-in_ok-insert-clause-ok c =
    let ws = c.args.items.now.items in
    let s = c.args.write.slot in
    let slot = c.by_ref-slot.ensures in
    let none : taken (λ (w : Write). w.slot) (slot_of c.by_ref-slot.result) ws ≡ false = search rules in
    let free : taken (λ (w : Write). w.slot) s ws ≡ false = ap (λ q. taken (λ (w : Write). w.slot) q ws) (sym slot) ∙ none in
    let first : c.place_of-at.result ≡ place_of (λ (w : Write). w.slot) (slot_of c.by_ref-slot.result) ws = search rules in
    let at : c.place_of-at.result ≡ place_of (λ (w : Write). w.slot) s ws = first ∙ ap (λ q. place_of (λ (w : Write). w.slot) q ws) slot in
    let new : c.insert.new.self.items ≡ insert ws c.place_of-at.result c.args.write = search rules in
    new ∙ (ap (λ i. insert ws i c.args.write) at ∙ (sym (put_new (λ (w : Write). w.slot) s ws c.args.write free) ∙ sym (put_is c.args.write ws)))
