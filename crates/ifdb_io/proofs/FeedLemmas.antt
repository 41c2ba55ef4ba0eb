-- What a source in memory gives.
use Rattle.std.proofs.Common.{◌≡◌, ℕ, ◌+◌, ◌-◌, ◌<◌, ◌≤◌, min, List, [], ◌++◌, length, take, drop, ap, ◌∙◌, arith}
use Rattle.std.proofs.lemmas.List.{take_at, drop-drop, take-append-drop, length-take-le, length-drop, drop_all, length-append}

-- the front that is copied out, and what is left behind it
pub gives_front : (bytes copied rest : List ℕ) (at n : ℕ) → at + n ≤ length bytes → copied ≡ take (at + n - at) (drop at bytes)
    → drop at bytes ≡ take n (copied ++ rest) ++ drop (at + n) bytes
gives_front bytes copied rest at n le e =
    let same : at + n - at ≡ n = omega arith in
    let front : copied ≡ take n (drop at bytes) = e ∙ ap (λ k. take k (drop at bytes)) same in
    let size : length copied ≡ n = ap length front ∙ length-take-le n (drop at bytes) (omega (arith, length-drop at bytes)) in
    let copy = take_at copied rest n size in
    let behind = drop-drop n at bytes in
    let whole = take-append-drop n (drop at bytes) in
    cc

-- nothing is given at a buffer with room only where nothing is left
pub ends_at_end : (bytes buf copied : List ℕ) (at piece n : ℕ) → 0 < piece → n ≡ min (min (length bytes - at) piece) (length buf) → length copied ≡ n
    → n ≡ 0 → 0 < length (copied ++ drop n buf) → drop (at + n) bytes ≡ []
ends_at_end bytes buf copied at piece n some count size none room =
    let joined = length-append copied (drop n buf) in
    let shorter = length-drop n buf in
    drop_all (at + n) bytes (omega arith)
