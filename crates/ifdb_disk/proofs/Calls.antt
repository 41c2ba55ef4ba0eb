-- One call more of a disk in memory.
use Rattle.std.proofs.Common.{◌≡◌, ℕ, ◌+◌, ◌≤◌, List, [], ◌∷◌, ◌++◌, length, take, drop, get_or, refl, sym, ap, subst, ◌∙◌, arith, All}
use Rattle.std.proofs.lemmas.List.{take_all, take-append-le, drop-append-le, length-drop, length-take}
use Rattle.std.proofs.lemmas.List.Elements.{All-append}
use Rattle.ifdb_disk.specs.Images.{Range}
use Rattle.ifdb_disk.specs.Clock.{Clock}
use Rattle.ifdb_disk.specs.Memory.{Call, writes, syncs, after_call, played, calls_of, total, ranges_of, IsBelow}
use Rattle.ifdb_disk.specs.declared.track.Done.{Done}
use Rattle.ifdb_disk.specs.declared.track.Done.TheVariants as done

pub played_more : (c : Clock) (calls : List Call) (call : Call) → played c (calls ++ call ∷ []) ≡ after_call (played c calls) call
played_more c [] call = refl
played_more c (first ∷ calls) call = played_more (after_call c first) calls call

pub total_more : (all : List Done) (at n : ℕ) → total (all ++ done.Write at n ∷ []) ≡ total all + n
total_more [] at n = omega arith
total_more (done.Write a len ∷ all) at n = omega (arith, total_more all at n)
total_more (done.Sync ∷ all) at n = total_more all at n

pub total_sync : (all : List Done) → total (all ++ done.Sync ∷ []) ≡ total all
total_sync [] = refl
total_sync (done.Write a len ∷ all) = ap (λ n. len + n) (total_sync all)
total_sync (done.Sync ∷ all) = total_sync all

pub ranges_more : (all : List Done) (at n : ℕ) → ranges_of (all ++ done.Write at n ∷ []) ≡ record { at = at; len = n } ∷ ranges_of all
ranges_more [] at n = refl
ranges_more (done.Write a len ∷ all) at n = ap (λ (l : List Range). l ++ record { at = a; len = len } ∷ []) (ranges_more all at n)
ranges_more (done.Sync ∷ all) at n = ranges_more all at n

pub ranges_sync : (all : List Done) → ranges_of (all ++ done.Sync ∷ []) ≡ ranges_of all
ranges_sync [] = refl
ranges_sync (done.Write a len ∷ all) = ap (λ (l : List Range). l ++ record { at = a; len = len } ∷ []) (ranges_sync all)
ranges_sync (done.Sync ∷ all) = ranges_sync all

pub calls_write : (all : List Done) (log bytes : List ℕ) (at n : ℕ) → total all ≡ length log → n ≡ length bytes
    → calls_of (all ++ done.Write at n ∷ []) (log ++ bytes) ≡ calls_of all log ++ writes at bytes ∷ []
calls_write [] [] bytes at n is size = ap (λ (l : List ℕ). writes at l ∷ []) (take_all n bytes (omega (arith, size)))
calls_write [] (b ∷ log) bytes at n is size = absurd (omega (arith, is))
calls_write (done.Write a len ∷ all) log bytes at n is size =
    let front = take-append-le len log bytes (omega (arith, is)) in
    let rest = drop-append-le len log bytes (omega (arith, is)) in
    let more = calls_write all (drop len log) bytes at n (omega (arith, is, length-drop len log)) size in
    (λ i. writes a (front i) ∷ calls_of (all ++ done.Write at n ∷ []) (rest i)) ∙ ap (λ l. writes a (take len log) ∷ l) more
calls_write (done.Sync ∷ all) log bytes at n is size = ap (λ l. syncs ∷ l) (calls_write all log bytes at n is size)

pub calls_sync : (all : List Done) (log : List ℕ) → calls_of (all ++ done.Sync ∷ []) log ≡ calls_of all log ++ syncs ∷ []
calls_sync [] log = refl
calls_sync (done.Write a len ∷ all) log = ap (λ l. writes a (take len log) ∷ l) (calls_sync all (drop len log))
calls_sync (done.Sync ∷ all) log = ap (λ l. syncs ∷ l) (calls_sync all log)

pub clock_write : (c : Clock) (all : List Done) (log bytes : List ℕ) (at n : ℕ) → total all ≡ length log → n ≡ length bytes
    → played c (calls_of (all ++ done.Write at n ∷ []) (log ++ bytes)) ≡ after_call (played c (calls_of all log)) (writes at bytes)
clock_write c all log bytes at n is size = ap (played c) (calls_write all log bytes at n is size) ∙ played_more c (calls_of all log) (writes at bytes)

pub clock_sync : (c : Clock) (all : List Done) (log : List ℕ) → played c (calls_of (all ++ done.Sync ∷ []) log) ≡ after_call (played c (calls_of all log)) syncs
clock_sync c all log = ap (played c) (calls_sync all log) ∙ played_more c (calls_of all log) syncs

-- ---- the ranges since the last sync

-- in each list of calls that has none
pub none_below : (n : ℕ) → All (IsBelow n) []
none_below n k d lt = absurd (omega (arith, lt))

drop_behind : (k : ℕ) (all : List Done) (call : Done) → k ≤ length all → drop k (all ++ call ∷ []) ≡ drop k all ++ call ∷ []
drop_behind k all call le = drop-append-le k all (call ∷ []) le

-- the loose ranges of one write more
pub loose_more : (c : Clock) (all : List Done) (settled at : ℕ) (bytes : List ℕ) → at ≤ length c.now.bytes → settled ≤ length all → c.now.loose ≡ ranges_of (drop settled all)
    → (after_call c (writes at bytes)).now.loose ≡ ranges_of (drop settled (all ++ done.Write at (length bytes) ∷ []))
loose_more c all settled at bytes within le is =
    let front : length (take at c.now.bytes) ≡ at = omega (arith, length-take at c.now.bytes, within) in
    let range : Range = record { at = at; len = length bytes } in
    (λ i. record { at = front i; len = length bytes } ∷ is i)
    ∙ sym (ap ranges_of (drop_behind settled all (done.Write at (length bytes)) le) ∙ ranges_more (drop settled all) at (length bytes))

below_weaker : (m n : ℕ) (call : Done) → m ≤ n → IsBelow m call → IsBelow n call
below_weaker m n (done.Write at len) le is = omega (arith, le, is)
below_weaker m n done.Sync le is = tt

-- the writes of one call more lie below a greater length
pub below_more : (all : List Done) (settled at len m n : ℕ) → settled ≤ length all → m ≤ n → at + len ≤ n → All (IsBelow m) (drop settled all)
    → All (IsBelow n) (drop settled (all ++ done.Write at len ∷ []))
below_more all settled at len m n le longer within are =
    let one : All (IsBelow n) (done.Write at len ∷ []) = λ k d lt. subst (λ j. IsBelow n (get_or (done.Write at len ∷ []) j d)) (let zero_is : 0 ≡ k = omega (arith, lt) in zero_is) within in
    subst (All (IsBelow n)) (sym (drop_behind settled all (done.Write at len) le))
    (All-append (IsBelow n) (drop settled all) (done.Write at len ∷ []) (λ k d lt. below_weaker m n (get_or (drop settled all) k d) longer (are k d lt)) one)
