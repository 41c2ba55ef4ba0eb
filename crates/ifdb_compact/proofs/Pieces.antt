-- Rows in pieces: each piece fits behind those before it.
use Rattle.std.proofs.Common.{◌≡◌, true, false, List, [], ◌∷◌, ◌++◌, ◌∙◌, length, refl, sym, ap, arith, append_assoc}
use Rattle.std.specs.Prelude.{◌&&◌, ◌||◌}
use Rattle.std.specs.List.{list_all}
use Rattle.std.proofs.lemmas.Bool.Decides.{nat_tests}
use Rattle.std.proofs.lemmas.List.{length-map}
use Rattle.std.proofs.lemmas.List.Folds.{list_all-append, list_any-append}
use Rattle.ifdb_value.proofs.Lists.{any_none}
use Rattle.ifdb_label.specs.Tags.{are_made}
use Rattle.ifdb_row.specs.declared.slot.Slot.{Slot}
use Rattle.ifdb_row.specs.declared.row.Row.{Row}
use Rattle.ifdb_row.specs.Slots.{is_same_slot, slot_lt}
use Rattle.ifdb_row.specs.Content.{after, are_rooted, live, rising}
use Rattle.ifdb_row.proofs.SlotOrder.{slot_lt_trans}
use Rattle.ifdb_row.proofs.Rising.{lt_not_same, rising_front}
use Rattle.ifdb_catalog.specs.Public.{Public, tags_of}
use Rattle.ifdb_model.specs.Log.{Entry, content_of, public_of}
use Rattle.ifdb_laws.specs.RowLaws.{row_fits}
use Rattle.ifdb_restore.specs.Passing.{commit_fits, is_fit}
use Rattle.ifdb_restore.specs.Shorter.{writing}
use Rattle.ifdb_restore.proofs.Shortened.{after_writing}
use Rattle.ifdb_compact.proofs.Older.{is_behind_parents}

-- ---- parents stand in front

-- a slot before one that stands before all of the rest isn't of the rest
refs_in_front : (front rest : List Row) (at : Slot) (refs : List Slot) → list_all (λ (x : Row). slot_lt at x.slot) rest ≡ true → list_all (λ (s : Slot). slot_lt s at) refs ≡ true
    → list_all (live (front ++ rest)) refs ≡ true → list_all (live front) refs ≡ true
refs_in_front front rest at [] up down all = refl
refs_in_front front rest at (s ∷ refs) up down all =
    let one : (slot_lt s at ≡ true) × (list_all (λ (t : Slot). slot_lt t at) refs ≡ true) = grind (arith, nat_tests) in
    let parts : (live (front ++ rest) s ≡ true) × (list_all (live (front ++ rest)) refs ≡ true) = grind (arith, nat_tests) in
    let none : live rest s ≡ false = any_none (λ (x : Row). slot_lt at x.slot) (λ (x : Row). is_same_slot x.slot s) rest up (λ x h. lt_not_same s x.slot (slot_lt_trans s at x.slot one.0 h)) in
    let both : live (front ++ rest) s ≡ live front s || live rest s = list_any-append (λ (x : Row). is_same_slot x.slot s) front rest in
    let more = refs_in_front front rest at refs up one.1 parts.1 in
    grind (arith, nat_tests)

some_in_front : (front rest some : List Row) → list_all (λ (r : Row). list_all (λ (x : Row). slot_lt r.slot x.slot) rest) some ≡ true → list_all is_behind_parents some ≡ true
    → are_rooted (front ++ rest) some ≡ true → are_rooted front some ≡ true
some_in_front front rest [] up behind rooted = refl
some_in_front front rest (r ∷ some) up behind rooted =
    let one : (list_all (λ (x : Row). slot_lt r.slot x.slot) rest ≡ true) × (list_all (λ (y : Row). list_all (λ (x : Row). slot_lt y.slot x.slot) rest) some ≡ true) = grind (arith, nat_tests) in
    let two : (is_behind_parents r ≡ true) × (list_all is_behind_parents some ≡ true) = grind (arith, nat_tests) in
    let three : (list_all (live (front ++ rest)) r.refs ≡ true) × (are_rooted (front ++ rest) some ≡ true) = grind (arith, nat_tests) in
    let here = refs_in_front front rest r.slot r.refs one.0 two.0 three.0 in
    let more = some_in_front front rest some one.1 two.1 three.1 in
    grind (arith, nat_tests)

all_above : (front rest : List Row) → rising (front ++ rest) ≡ true → list_all (λ (r : Row). list_all (λ (x : Row). slot_lt r.slot x.slot) rest) front ≡ true
all_above [] rest up = refl
all_above (r ∷ front) rest up =
    let parts : (list_all (λ (x : Row). slot_lt r.slot x.slot) (front ++ rest) ≡ true) × (rising (front ++ rest) ≡ true) = grind (arith, nat_tests) in
    let both = list_all-append (λ (x : Row). slot_lt r.slot x.slot) front rest in
    let more = all_above front rest parts.1 in
    grind (arith, nat_tests)

pub rooted_front : (front rest : List Row) → rising (front ++ rest) ≡ true → list_all is_behind_parents (front ++ rest) ≡ true → are_rooted (front ++ rest) (front ++ rest) ≡ true → are_rooted front front ≡ true
rooted_front front rest up behind rooted =
    let split : list_all is_behind_parents (front ++ rest) ≡ list_all is_behind_parents front && list_all is_behind_parents rest = list_all-append is_behind_parents front rest in
    let first : list_all is_behind_parents front ≡ true = grind (arith, nat_tests) in
    let parents : are_rooted (front ++ rest) (front ++ rest) ≡ are_rooted (front ++ rest) front && are_rooted (front ++ rest) rest = list_all-append (λ (r : Row). list_all (live (front ++ rest)) r.refs) front rest in
    let here : are_rooted (front ++ rest) front ≡ true = grind (arith, nat_tests) in
    some_in_front front rest front (all_above front rest up) first here

-- ---- a piece passes the test for commits

pub writing_fit : (p : Public) (rows : List Row) → list_all (row_fits p) rows ≡ true → list_all (is_fit p) (writing rows) ≡ true
writing_fit p [] h = refl
writing_fit p (r ∷ rows) h =
    let parts : (row_fits p r ≡ true) × (list_all (row_fits p) rows ≡ true) = grind (arith, nat_tests) in
    let label : are_made (length (tags_of p)) r.slot.label ≡ true = made r parts.0 in
    let there : are_made (length p.tags) r.slot.label ≡ true = ap (λ n. are_made n r.slot.label) (sym (length-map p.tags _)) ∙ label in
    let rest = writing_fit p rows parts.1 in
    grind (arith, nat_tests)
  where
    made : (x : Row) → row_fits p x ≡ true → are_made (length (tags_of p)) x.slot.label ≡ true
    made x e = grind (arith, nat_tests)

-- all rows fit, and stand by their slots, behind their parents
pub record AreInOrder (p : Public) (rows : List Row) : Type 0 where
  pub rises : rising rows ≡ true
  pub fit : list_all (row_fits p) rows ≡ true
  pub rooted : are_rooted rows rows ≡ true
  pub behind : list_all is_behind_parents rows ≡ true

pub piece_passes : (p : Public) (base : List Entry) (front rows rest all : List Row) → AreInOrder p all → front ++ (rows ++ rest) ≡ all → public_of base ≡ p → content_of base ≡ front
    → commit_fits base (writing rows) ≡ true
piece_passes p base front rows rest all are is public content =
    let whole : (front ++ rows) ++ rest ≡ all = append_assoc front rows rest ∙ is in
    let up : rising ((front ++ rows) ++ rest) ≡ true = ap rising whole ∙ are.rises in
    let rises : rising (front ++ rows) ≡ true = rising_front (front ++ rows) rest up in
    let stand : after (content_of base) (writing rows) ≡ front ++ rows = ap (λ x. after x (writing rows)) content ∙ after_writing front rows rises in
    let rooted : are_rooted (front ++ rows) (front ++ rows) ≡ true =
    rooted_front (front ++ rows) rest up (ap (list_all is_behind_parents) whole ∙ are.behind) (ap (λ x. are_rooted x x) whole ∙ are.rooted) in
    let front_all : list_all (row_fits p) (front ++ (rows ++ rest)) ≡ true = ap (list_all (row_fits p)) is ∙ are.fit in
    let split : list_all (row_fits p) (front ++ (rows ++ rest)) ≡ list_all (row_fits p) front && list_all (row_fits p) (rows ++ rest) = list_all-append (row_fits p) front (rows ++ rest) in
    let again : list_all (row_fits p) (rows ++ rest) ≡ list_all (row_fits p) rows && list_all (row_fits p) rest = list_all-append (row_fits p) rows rest in
    let fit : list_all (row_fits p) rows ≡ true = grind (arith, nat_tests) in
    let one : list_all (is_fit (public_of base)) (writing rows) ≡ true = ap (λ q. list_all (is_fit q) (writing rows)) public ∙ writing_fit p rows fit in
    let two : are_rooted (after (content_of base) (writing rows)) (after (content_of base) (writing rows)) ≡ true = ap (λ x. are_rooted x x) stand ∙ rooted in
    λ i. one i && two i
