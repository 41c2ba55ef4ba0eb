use Rattle.std.proofs.Common.{◌≡◌, ◌∙◌, ap, true, slice_get, rules}
use Rattle.std.specs.Option.{option_copied}
use Rattle.ifdb_row.specs.declared.write.Write.{Write}
use Rattle.ifdb_row.specs.ByReference.{slot_of}
use Rattle.ifdb_row.specs.Slots.{slot_lt}
use Rattle.ifdb_row.specs.Writes.{are_rising, if_of}
use Rattle.ifdb_row.specs.Reach.{reach}
use Rattle.ifdb_row.proofs.Children.{write_found}
use Rattle.ifdb_row.proofs.writes.Writes.get.Goals as goal

pub returns : goal.returns
returns c =
    let ws = c.args.self.now in
    let s = c.args.slot.now in
    let up : are_rising ws ≡ true = search rules in
    let first : c.place_of-at.result ≡ reach (λ (w : Write). slot_lt w.slot (slot_of c.by_ref-slot.result)) ws = search rules in
    let place : c.place_of-at.result ≡ reach (λ (w : Write). slot_lt w.slot s) ws = first ∙ ap (λ q. reach (λ (w : Write). slot_lt w.slot q) ws) c.by_ref-slot.ensures in
    let there : option_copied c.at.result ≡ slice_get ws (reach (λ (w : Write). slot_lt w.slot s) ws) = c.at.ensures ∙ ap (slice_get ws) place in
    c.if_of.ensures ∙ (ap (λ q. if_of q (option_copied c.at.result)) c.by_ref-slot.ensures ∙ (ap (if_of s) there ∙ write_found s ws up))
