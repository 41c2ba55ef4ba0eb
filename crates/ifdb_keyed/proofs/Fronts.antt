-- Reading the first bytes of a disk.
use Rattle.std.proofs.Common.{◌≡◌, ℕ, ◌+◌, ◌-◌, ◌≤◌, List, ◌++◌, length, take, drop, sym, ap, subst, ◌∙◌, arith, length-drop}
use Rattle.std.specs.Prelude.{Option, Some, None}
use Rattle.std.proofs.Math.Seq.{take-add}
use Rattle.std.proofs.lemmas.List.{take-append-le, take_at, drop_at, length-take}
use borrow.Rule.Slice.PartMut.{put_mid, post_of}
use Rattle.ifdb_disk.specs.Images.{Reads}
use Rattle.ifdb_disk.specs.Clock.{Clock, Now}

-- bytes were read behind the first
read_on : (count more : ℕ) (buf part bytes : List ℕ) → count ≤ length buf → more ≤ length part → take count buf ≡ take count bytes → count ≤ length bytes
    → take more part ≡ take more (drop count bytes) → more ≤ length (drop count bytes)
    → (take (count + more) (put_mid count (length buf - count) buf part) ≡ take (count + more) bytes) × (count + more ≤ length bytes)
read_on count more buf part bytes within few same short read some =
    let front : length (take count buf) ≡ count = omega (arith, length-take count buf, within) in
    let rest = part ++ post_of count (length buf - count) buf in
    let first : take (count + more) (take count buf ++ rest) ≡ take count buf ++ take more rest = behind (take count buf) rest front in
    let second : take more rest ≡ take more part = take-append-le more part (post_of count (length buf - count) buf) few in
    let long : count + more ≤ length bytes = omega (arith, some, length-drop count bytes, short) in
    let whole : take (count + more) bytes ≡ take count bytes ++ take more (drop count bytes) = take-add count more bytes in
    (first ∙ ap (λ (l : List ℕ). take count buf ++ l) (second ∙ read) ∙ ap (λ (l : List ℕ). l ++ take more (drop count bytes)) same ∙ sym whole, long)
  where
    behind : (xs ys : List ℕ) → length xs ≡ count → take (count + more) (xs ++ ys) ≡ xs ++ take more ys
    behind xs ys is = take-add count more (xs ++ ys) ∙ (λ i. take_at xs ys count is i ++ take more (drop_at xs ys count is i))

pub read_more : (t u : Option Clock) (count more : ℕ) (buf part : List ℕ) → u ≡ t → count ≤ length buf → length part ≡ length buf - count → more ≤ length part
    → Now t (λ s. (take count buf ≡ take count s.bytes) × (count ≤ length s.bytes)) → Now u (Reads count more part)
    → Now t (λ s. (take (count + more) (put_mid count (length buf - count) buf part) ≡ take (count + more) s.bytes) × (count + more ≤ length s.bytes))
read_more None u count more buf part still within size few same reads = tt
read_more (Some c) u count more buf part still within size few same reads =
    let read = subst (λ v. Now v (Reads count more part)) still reads in
    read_on count more buf part c.now.bytes within few same.0 same.1 read.bytes read.within
