-- What a read gives is one of the images.
use Rattle.std.specs.Prelude.{◌≡◌, ℕ, ◌+◌, ◌-◌, ◌<◌, ◌≤◌, false, List, [], ◌∷◌, ◌++◌, length, take, drop, get_or}
use Rattle.std.proofs.Common.{inl, inr, refl, ap, ◌∙◌, arith, length-append, length-drop}
use Rattle.std.proofs.lemmas.List.{length-take, get_or_append_left, get_or-take, get_or-drop, get_or-append_right}
use Rattle.std.proofs.lemmas.Bool.{cases_lt}
use Rattle.std.proofs.lemmas.Bool.Decides.{nat_tests}
use Rattle.ifdb_disk.specs.Images.{Range, Shown, IsImage, is_loose, settled, overwritten, written}
use Rattle.ifdb_disk.specs.Clock.{Clock}
use Rattle.ifdb_disk.specs.Memory.{Call, DiskState, writes, syncs, begun, after_call, played, clock_of}

pub settled_image : (bytes : List ℕ) → IsImage (settled bytes) bytes
settled_image bytes = record { no_shorter = omega arith; no_longer = omega arith; rest = λ i lt fixed. refl }

pub length-overwritten : (b : List ℕ) (at : ℕ) (bs : List ℕ) → length (overwritten b at bs) ≡ length (take at b) + (length bs + (length b - (at + length bs)))
length-overwritten b at bs = let same : overwritten b at bs ≡ take at b ++ (bs ++ drop (at + length bs) b) = refl in omega (arith, ap length same, length-append (take at b) (bs ++ drop (at + length bs) b), length-append bs (drop (at + length bs) b), length-drop (at + length bs) b)

pub overwritten_before : (b : List ℕ) (at : ℕ) (bs : List ℕ) (i : ℕ) → i < length (take at b) → get_or (overwritten b at bs) i 0 ≡ get_or b i 0
overwritten_before b at bs i lt =
    let size = length-take at b in
    get_or_append_left (take at b) (bs ++ drop (at + length bs) b) 0 i lt ∙ get_or-take at b i 0 (omega (arith, size, lt))

pub overwritten_after : (b : List ℕ) (at : ℕ) (bs : List ℕ) (i : ℕ) → at ≤ length b → at + length bs ≤ i → get_or (overwritten b at bs) i 0 ≡ get_or b i 0
overwritten_after b at bs i within le =
    let front : length (take at b) ≡ at = omega (arith, length-take at b, within) in
    let first = get_or-append_right (take at b) (bs ++ drop (at + length bs) b) at i 0 front (omega (arith, le)) in
    let second = get_or-append_right bs (drop (at + length bs) b) (length bs) (i - at) 0 refl (omega (arith, le)) in
    let third = get_or-drop (at + length bs) b (i - at - length bs) 0 in
    let place : at + length bs + (i - at - length bs) ≡ i = omega (arith, le) in
    first ∙ second ∙ third ∙ ap (λ k. get_or b k 0) place

fixed_before : (r : Range) (rs : List Range) (i : ℕ) → is_loose (r ∷ rs) i ≡ false → is_loose rs i ≡ false
fixed_before r rs i fixed = grind (arith, nat_tests, fixed)

outside : (r : Range) (rs : List Range) (i : ℕ) → is_loose (r ∷ rs) i ≡ false → r.at ≤ i → r.at + r.len ≤ i
outside r rs i fixed le = grind (arith, nat_tests, fixed, le)

pub write_image : (s : Shown) (at : ℕ) (bs : List ℕ) → IsImage s s.bytes → IsImage (written at bs s) (written at bs s).bytes
write_image s at bs image =
    let size = length-overwritten s.bytes at bs in
    let front = length-take at s.bytes in
    record {
      no_shorter = omega (arith, size, front, image.no_shorter);
      no_longer = omega arith;
      rest = λ i lt fixed. elim (cases_lt i (length (take at s.bytes))) [
        | inl before ↦
            let range : Range = record { at = length (take at s.bytes); len = length bs } in
            overwritten_before s.bytes at bs i before ∙ image.rest i (omega (arith, front, before)) (fixed_before range s.loose i fixed)
        | inr le ↦
            let range : Range = record { at = length (take at s.bytes); len = length bs } in
            let past = outside range s.loose i fixed le in
            let within : at ≤ length s.bytes = omega (arith, past, size, front, lt) in
            overwritten_after s.bytes at bs i within (omega (arith, past, front, within)) ∙ image.rest i (omega (arith, past, size, front, lt)) (fixed_before range s.loose i fixed)
      ];
    }

call_image : (c : Clock) (call : Call) → IsImage c.now c.now.bytes → IsImage (after_call c call).now (after_call c call).now.bytes
call_image c (writes at bytes) image = write_image c.now at bytes image
call_image c syncs image = settled_image c.now.bytes

played_image : (c : Clock) (calls : List Call) → IsImage c.now c.now.bytes → IsImage (played c calls).now (played c calls).now.bytes
played_image c [] image = image
played_image c (call ∷ calls) image = played_image (after_call c call) calls (call_image c call image)

pub kept_image : (d : DiskState) → IsImage (clock_of d).now (clock_of d).now.bytes
kept_image d = played_image (begun d.first) d.calls (settled_image d.first)
