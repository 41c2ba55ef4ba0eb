-- The text of a batch.
use Rattle.std.proofs.Common.{◌≡◌, ◌≢◌, ℕ, ◌+◌, ◌-◌, List, [], ◌∷◌, ◌++◌, length, take, refl, sym, ap, ◌∙◌, arith, append_assoc, length-append}
use Rattle.std.proofs.lemmas.List.{take_at, append-nil}
use Rattle.ifdb_journal.specs.Records.{IsLawful, Spells, body, bytes_of, scan}
use Rattle.ifdb_journal.specs.declared.record.Record.{Record}
use Rattle.ifdb_journal.proofs.Scan.{front_none, front_more, body_is}

-- what a text spells is what is read of it
pub scan_spelled : (text : List ℕ) (rs : List Record) → Spells text rs → scan 0 text ≡ rs
scan_spelled text rs spells = ap (scan 0) spells.split ∙ spells.is.records 0 [] ∙ append-nil rs

bytes_more : (rs : List Record) (r : Record) → bytes_of (rs ++ r ∷ []) ≡ bytes_of rs + (14 + length r.line)
bytes_more [] r = omega arith
bytes_more (first ∷ rs) r = omega (arith, bytes_more rs r)

-- one record more, its gate in the place of the closed one
pub one_more : (old new : List ℕ) (rs : List Record) (r : Record) → Spells old rs → IsLawful r → new ≡ (take (length old - 1) old ++ 1 ∷ []) ++ (body r ++ 0 ∷ []) → Spells new (rs ++ r ∷ [])
one_more old new rs r spells lawful is =
    let front = spells.front in
    let some : 1 ≢ 0 = omega arith in
    let size : length front ≡ length old - 1 = omega (arith, ap length spells.split, length-append front (0 ∷ [])) in
    let kept : take (length old - 1) old ≡ front = ap (take (length old - 1)) spells.split ∙ take_at front (0 ∷ []) (length old - 1) size in
    let wide : length (body r) ≡ 13 + length r.line = omega arith in
    record {
      front = front ++ 1 ∷ body r;
      split = is ∙ ap (λ (l : List ℕ). (l ++ 1 ∷ []) ++ (body r ++ 0 ∷ [])) kept ∙ append_assoc front (1 ∷ []) (body r ++ 0 ∷ []) ∙ sym (append_assoc front (1 ∷ body r) (0 ∷ []));
      size = omega (arith, length-append front (1 ∷ body r), wide, spells.size, bytes_more rs r);
      is = front_more front rs 1 (body r) r spells.is some (body_is r lawful);
    }

-- no records
pub none_spelled : Spells (0 ∷ []) []
none_spelled = record { front = []; split = refl; size = refl; is = front_none }
