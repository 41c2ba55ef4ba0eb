-- A write and then a sync, over bytes that are all synced.
use Rattle.std.proofs.Common.{◌≡◌, inl, inr, ℕ, ◌+◌, ◌-◌, ◌<◌, ◌≤◌, max, false, List, [], ◌∷◌, length, take, drop, refl, sym, ap, subst, ◌∙◌, arith, length-drop}
use Rattle.std.specs.Prelude.{Option, Some, None}
use Rattle.std.proofs.lemmas.List.{length-take, get_or-take, get_or-drop, ext_get_or, drop-drop}
use Rattle.std.proofs.lemmas.Bool.Decides.{nat_tests}
use Rattle.ifdb_disk.specs.Images.{IsImage, is_loose, settled, overwritten, written, synced}
use Rattle.ifdb_disk.specs.Clock.{Clock, goes, MayHaveWritten, Now, Leaves, Stored, Torn}
use Rattle.ifdb_disk.specs.Present.{length-overwritten, write_image, settled_image}
use Rattle.ifdb_disk.proofs.Moments.{since_here, since_next, since_on}

pub settled_only : (b c : List ℕ) → IsImage (settled b) c → c ≡ b
settled_only b c image = ext_get_or 0 c b (omega (arith, image.no_shorter, image.no_longer)) (λ i lt. image.rest i lt refl)

low : (at n i : ℕ) → i < at → is_loose (record { at = at; len = n } ∷ []) i ≡ false
low at n i lt = grind (arith, nat_tests)

high : (at n i : ℕ) → at + n ≤ i → is_loose (record { at = at; len = n } ∷ []) i ≡ false
high at n i le = grind (arith, nat_tests)

pub torn_image : (b : List ℕ) (at : ℕ) (bs c : List ℕ) → at ≤ length b → IsImage (written at bs (settled b)) c → Torn b at (length bs) c
torn_image b at bs c within image =
    let size = length-overwritten b at bs in
    let front : length (take at b) ≡ at = omega (arith, length-take at b, within) in
    let short : length b ≤ length c = image.no_shorter in
    let long : length c ≤ max (length b) (at + length bs) = omega (arith, image.no_longer, size, front, within) in
    record {
      no_shorter = short;
      no_longer = long;
      before = ext_get_or 0 (take at c) (take at b) (omega (arith, length-take at c, length-take at b, short, within)) (λ i lt.
          let below : i < at = omega (arith, lt, length-take at c) in
          let fixed : is_loose (record { at = length (take at b); len = length bs } ∷ []) i ≡ false = low (length (take at b)) (length bs) i (omega (arith, below, front)) in
          get_or-take at c i 0 below ∙ image.rest i (omega (arith, below, within, short)) fixed ∙ sym (get_or-take at b i 0 below));
      after = ext_get_or 0 (drop (at + length bs) c) (drop (at + length bs) b) (omega (arith, length-drop (at + length bs) c, length-drop (at + length bs) b, short, long, within)) (λ i lt.
          let place : at + length bs + i < length c = omega (arith, lt, length-drop (at + length bs) c) in
          let fixed : is_loose (record { at = length (take at b); len = length bs } ∷ []) (at + length bs + i) ≡ false = high (length (take at b)) (length bs) (at + length bs + i) (omega (arith, front)) in
          get_or-drop (at + length bs) c i 0 ∙ image.rest (at + length bs + i) place fixed ∙ sym (get_or-drop (at + length bs) b i 0));
    }

pub torn_more : (b : List ℕ) (at m n : ℕ) (c : List ℕ) → m ≤ n → Torn b at m c → Torn b at n c
torn_more b at m n c le torn =
    let split : at + n ≡ at + m + (n - m) = omega (arith, le) in
    record {
      no_shorter = torn.no_shorter;
      no_longer = omega (arith, torn.no_longer, le);
      before = torn.before;
      after = ap (λ k. drop k c) split ∙ sym (drop-drop (n - m) (at + m) c) ∙ ap (drop (n - m)) torn.after ∙ drop-drop (n - m) (at + m) b ∙ sym (ap (λ k. drop k b) split);
    }

pub torn_same : (b : List ℕ) (at n : ℕ) → Torn b at n b
torn_same b at n = record { no_shorter = omega arith; no_longer = omega arith; before = refl; after = refl }

within_of : (t : Option Clock) (b : List ℕ) (at : ℕ) → Stored t b → Now t (λ s. at ≤ length s.bytes) → (c : Clock) → t ≡ Some c → (c.now ≡ settled b) × (at ≤ length b)
within_of None b at stored now c is = absurd (cc is)
within_of (Some d) b at stored now c is =
    let same : d ≡ c = some_is d c is in
    (sym (ap (λ k. k.now) same) ∙ stored, subst (λ s. at ≤ length s.bytes) stored now)
  where
    some_is : (d c : Clock) → Some d ≡ Some c → d ≡ c
    some_is d c is = cc is

pub written_leaves : (t : Option Clock) (b : List ℕ) (at n : ℕ) (any : List ℕ) → Stored t b → Now t (λ s. at ≤ length s.bytes) → length any ≤ n → Leaves t (goes (written at any) t) (Torn b at n)
written_leaves t b at n any stored now le = since_next t (written at any) (λ s. (image : List ℕ) → IsImage s image → Torn b at n image) (λ c is image left.
    let known = within_of t b at stored now c is in
    torn_more b at (length any) n image le (torn_image b at any image known.1 (subst (λ s. IsImage (written at any s) image) known.0 left)))

pub failed_leaves : (t u : Option Clock) (b : List ℕ) (at n : ℕ) → Stored t b → Now t (λ s. at ≤ length s.bytes) → MayHaveWritten at n t u → Leaves t u (Torn b at n)
failed_leaves t u b at n stored now (inl same) = subst (λ v. Leaves t v (Torn b at n)) (sym same) (since_here t (λ s. (image : List ℕ) → IsImage s image → Torn b at n image))
failed_leaves t u b at n stored now (inr some) = subst (λ v. Leaves t v (Torn b at n)) (sym some.2) (written_leaves t b at n some.0 stored now some.1)

-- the written bytes are one of the outcomes
overwritten_torn : (b : List ℕ) (at : ℕ) (bs : List ℕ) → at ≤ length b → Torn b at (length bs) (overwritten b at bs)
overwritten_torn b at bs within = torn_image b at bs (overwritten b at bs) within (write_image (settled b) at bs (settled_image b))

pub stored_leaves : (t : Option Clock) (b : List ℕ) (at : ℕ) (bs : List ℕ) → Stored t b → Now t (λ s. at ≤ length s.bytes) → Leaves t (goes synced (goes (written at bs) t)) (Torn b at (length bs))
stored_leaves None b at bs stored now = tt
stored_leaves (Some c) b at bs stored now =
    let here : c.now ≡ settled b = stored in
    let within : at ≤ length b = subst (λ s. at ≤ length s.bytes) stored now in
    let small : length bs ≤ length bs = omega arith in
    since_on (Some c) (goes (written at bs) (Some c)) (goes synced (goes (written at bs) (Some c))) (λ s. (image : List ℕ) → IsImage s image → Torn b at (length bs) image)
    (written_leaves (Some c) b at (length bs) bs stored now small)
    ((
      settled (overwritten c.now.bytes at bs) ∷ [],
      refl,
      (
        (λ image left.
            let only = settled_only (overwritten c.now.bytes at bs) image left in
            let same : overwritten c.now.bytes at bs ≡ overwritten b at bs = ap (λ s. overwritten s.bytes at bs) here in
            subst (Torn b at (length bs)) (sym (only ∙ same)) (overwritten_torn b at bs within)),
        tt,
      ),
    ))

pub stored_holds : (t : Option Clock) (b : List ℕ) (at : ℕ) (bs : List ℕ) → Stored t b → Stored (goes synced (goes (written at bs) t)) (overwritten b at bs)
stored_holds None b at bs stored = tt
stored_holds (Some c) b at bs stored = ap (λ s. settled (overwritten s.bytes at bs)) stored
