-- What a queue has recorded.
use Rattle.std.proofs.Common.{◌≡◌, ℕ, ◌<◌, ◌≤◌, List, [], ◌∷◌, ◌++◌, ◌∙◌, length, map, sym, ap, arith}
use Rattle.std.specs.Prelude.{Option, Some, None, IfSome}
use Rattle.std.specs.List.{flat_map}
use Rattle.std.specs.Option.{unwrap_or}
use Rattle.std.proofs.lemmas.List.{append_assoc, append-nil, flat_map_more, map-append}
use Rattle.ifdb_redo.specs.declared.record.RedoRecord.{RedoRecord}
use Rattle.ifdb_redo.specs.Reading.{record_of}
use Rattle.ifdb_redo.specs.Spelling.{text}
use Rattle.ifdb_log.specs.Pieces.{pieces, size_of}
use Rattle.ifdb_durable.specs.Queues.{Queued, all_of, free_of}
use Rattle.ifdb_session.specs.Durable.{HasRecords, HasRoomFor}
use Rattle.ifdb_session.specs.Texts.{texts_for, IsTextOf}

-- a record more was recorded
pub record_pushed : (q : Queued) (rs : List RedoRecord) (r : RedoRecord) (t : List ℕ) → IsTextOf t r → HasRecords q rs
    → HasRecords (record q { waiting = q.waiting ++ pieces t }) (rs ++ r ∷ [])
record_pushed q rs r t is has = record {
  all = sym (append_assoc q.taken q.waiting (pieces t)) ∙ ap (λ l. l ++ pieces t) has.all ∙ flat_map_more pieces [] (texts_for rs) t ∙ ap (flat_map pieces) (sym longer);
  again = ap (map record_of) longer ∙ map-append record_of (texts_for rs) (t ∷ []) ∙ (λ i. has.again i ++ is.1 i ∷ []) ∙ sym (map-append Some rs (r ∷ []));
} where
  longer : texts_for (rs ++ r ∷ []) ≡ texts_for rs ++ t ∷ []
  longer = map-append text rs (r ∷ []) ∙ ap (λ l. texts_for rs ++ l ∷ []) (sym is.0)

-- all that waits was taken
pub records_taken : (q : Queued) (room : ℕ) (rs : List RedoRecord) → HasRecords q rs → HasRecords (record { taken = all_of q; waiting = []; room = room }) rs
records_taken q room rs has = record { all = append-nil (all_of q) ∙ has.all; again = has.again }

-- a text that is no longer than the longest one for whose pieces there is room has room too, but an empty one
pub room_within : (q : Queued) (most : Option ℕ) → IfSome most (λ m. (n : ℕ) → n ≤ m → size_of n ≤ free_of q)
    → (text : List ℕ) → 0 < length text → length text ≤ unwrap_or most 0 → HasRoomFor q text
room_within q (Some m) fits text some le = fits (length text) le
room_within q None fits text some le = absurd (omega (arith, some, le))
