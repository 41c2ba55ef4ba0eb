-- How a disk gets its title, and what a journal sees in one.
use Rattle.std.proofs.Common.{◌≡◌, ◌≢◌, inl, inr, ℕ, ◌+◌, ◌-◌, ◌≤◌, ◌<◌, ◌&&◌, Bool, true, false, List, [], ◌∷◌, ◌++◌, length, take, drop, get_or, refl, sym, ap, subst, ◌∙◌, arith, length-append, length-drop}
use Rattle.std.specs.Prelude.{Option, Some, None, ◌==◌, nat_le, nat_lt, if◌then◌else◌}
use Rattle.std.proofs.lemmas.List.{take-append-drop, take-append-le, take-take, drop-take, take_at, drop_at, take_all, drop_all, length-take}
use Rattle.std.proofs.lemmas.Bool.{cases_eq}
use Rattle.std.proofs.lemmas.Bool.Decides.{nat_tests}
use borrow.Rule.Slice.PartMut.{put_mid, post_of}
use Rattle.ifdb_disk.specs.Images.{Shown, IsImage, Reads, overwritten, synced, written}
use Rattle.ifdb_disk.specs.Clock.{Clock, Leaves, Now, Stored, Torn, goes}
use Rattle.ifdb_disk.proofs.Moments.{since_here, leaves_weaker, leaves_on}
use Rattle.ifdb_disk.proofs.Store.{settled_only}
use Rattle.ifdb_journal.specs.Records.{break, damage, is_whole, record_at, records, scan, size_at}
use Rattle.ifdb_journal.specs.declared.record.Record.{Record}
use Rattle.ifdb_log.specs.Behind.{HasFront}
use Rattle.ifdb_log.specs.Title.{Entitles, IsLog, IsNew, IsNewOrTitle, IsOldOrMade, IsOther, IsSettled, IsShut, JournalIsOther, TitleIsDamage, title, title_rest}

-- ---- what a journal sees

stopped : (a b : Bool) → ((a && false) && b) ≡ false
stopped true b = refl
stopped false b = refl

title_whole : (rest : List ℕ) → is_whole (title_rest ++ rest) ≡ false
title_whole rest = stopped (nat_le 14 (length (title_rest ++ rest))) (nat_lt (13 + size_at (title_rest ++ rest)) (length (title_rest ++ rest)))

title_long : (first : ℕ) (rest : List ℕ) → nat_le (length (first ∷ (title_rest ++ rest))) 1 ≡ false
title_long first rest = let size : 1 < length (first ∷ (title_rest ++ rest)) = omega (arith, length-append title_rest rest) in grind (arith, nat_tests, size)

pub title_damage : TitleIsDamage
title_damage bytes (first, rest, nonzero, is) =
    let shut : (first == 0) ≡ false = grind (arith, nat_tests) in
    ap damage is ∙ (λ i. if title_long first rest i then None else (if shut i then None else (if title_whole rest i then break (13 + size_at (title_rest ++ rest)) 1 (title_rest ++ rest) else Some 0)))

title_records : (bytes : List ℕ) → IsLog bytes → records bytes ≡ []
title_records bytes (first, rest, nonzero, is) =
    let shut : (first == 0) ≡ false = grind (arith, nat_tests) in
    let all = title_rest ++ rest in
    ap records is ∙ (λ i. if title_long first rest i then [] else (if shut i then [] else (if title_whole rest i then record_at all ∷ scan (13 + size_at all) all else [])))

new_records : (bytes : List ℕ) → IsNew bytes → records bytes ≡ []
new_records bytes (inl le) = let short : nat_le (length bytes) 1 ≡ true = grind (arith, nat_tests) in λ i. if short i then [] else scan 0 bytes
new_records bytes (inr shut) = ap records shut.1 ∙ either_way (nat_le (length (0 ∷ shut.0)) 1) []
  where
    either_way : (b : Bool) (none : List Record) → (if b then none else none) ≡ none
    either_way true none = refl
    either_way false none = refl

none_some : (bytes : List ℕ) (r : Record) (rs : List Record) → records bytes ≡ [] → records bytes ≡ r ∷ rs → ⊥
none_some bytes r rs none some = let gone : [] ≡ r ∷ rs = sym none ∙ some in cc gone

pub journal_other : JournalIsOther
journal_other bytes r rs some = ((λ is. none_some bytes r rs (title_records bytes is) some), (λ is. none_some bytes r rs (new_records bytes is) some))

-- ---- steps of the making

-- what a write that was cut short leaves of a disk that is all synced
pub torn_leaves : (t u : Option Clock) (at n : ℕ) (P Q : List ℕ → Type 0) → IsSettled P t → ((b image : List ℕ) → P b → Torn b at n image → Q image)
    → ((old : List ℕ) → Stored t old → Leaves t u (Torn old at n)) → Leaves t u Q
torn_leaves None u at n P Q is imply moments = tt
torn_leaves (Some c) u at n P Q is imply moments = leaves_weaker (Some c) u (Torn c.now.bytes at n) Q (λ image torn. imply c.now.bytes image is.1 torn) (moments c.now.bytes is.0)

-- what a write and a sync make of it
pub stored_settled : (t u : Option Clock) (at : ℕ) (bs : List ℕ) (P Q : List ℕ → Type 0) → IsSettled P t → ((b : List ℕ) → P b → Q (overwritten b at bs)) → u ≡ goes synced (goes (written at bs) t) → IsSettled Q u
stored_settled t u at bs P Q is imply after = subst (IsSettled Q) (sym after) (by_disk t is)
  where
    by_disk : (v : Option Clock) → IsSettled P v → IsSettled Q (goes synced (goes (written at bs) v))
    by_disk None told = tt
    by_disk (Some c) told = (refl, imply c.now.bytes told.1)

pub settled_weaker : (t : Option Clock) (P Q : List ℕ → Type 0) → ((b : List ℕ) → P b → Q b) → IsSettled P t → IsSettled Q t
settled_weaker None P Q imply is = tt
settled_weaker (Some c) P Q imply is = (is.0, imply c.now.bytes is.1)

-- what is known of the bytes and of a number beside them
pub settled_with : (t u : Option Clock) (P Q : List ℕ → Type 0) (R : Shown → Type 0) → u ≡ t → IsSettled P t → Now t R → ((s : Shown) → P s.bytes → R s → Q s.bytes) → IsSettled Q u
settled_with t u P Q R same is told imply = subst (IsSettled Q) (sym same) (by_disk t is told)
  where
    by_disk : (v : Option Clock) → IsSettled P v → Now v R → IsSettled Q v
    by_disk None known told = tt
    by_disk (Some c) known told = (known.0, imply c.now known.1 told)

pub none_made : (t : Option Clock) (P : List ℕ → Type 0) → Leaves t t P
none_made t P = since_here t (λ s. (image : List ℕ) → IsImage s image → P image)

-- ---- a closed gate

pub short_torn : (b image : List ℕ) → length b ≤ 1 → Torn b 0 1 image → IsNewOrTitle image
short_torn b image short torn = let le : length image ≤ 1 = omega (arith, torn.no_longer, short) in inl (inl le)

pub short_shut : (b : List ℕ) → length b ≤ 1 → IsShut (overwritten b 0 (0 ∷ []))
short_shut b short =
    let same : overwritten b 0 (0 ∷ []) ≡ 0 ∷ [] = ap (λ (l : List ℕ). 0 ∷ l) (drop_all 1 b short) in
    let size : length (overwritten b 0 (0 ∷ [])) ≤ 16 = omega (arith, ap length same) in
    ([], same, size)

pub long_shut : (b : List ℕ) → 1 < length b → IsNew b → IsShut b
long_shut b long (inl short) = absurd (omega (arith, long, short))
long_shut b long (inr shut) = shut

-- ---- the title behind it

first_of : (b : List ℕ) (x : ℕ) (rest : List ℕ) → b ≡ x ∷ rest → take 1 b ≡ x ∷ []
first_of b x rest is = ap (take 1) is

pub shut_torn : (b image : List ℕ) → IsShut b → Torn b 1 15 image → IsShut image
shut_torn b image shut torn =
    let whole : image ≡ 0 ∷ drop 1 image = sym (take-append-drop 1 image) ∙ ap (λ (l : List ℕ). l ++ drop 1 image) (torn.before ∙ first_of b 0 shut.0 shut.1) in
    let size : length image ≤ 16 = omega (arith, torn.no_longer, shut.2) in
    (drop 1 image, whole, size)

pub shut_title : (b : List ℕ) → IsShut b → overwritten b 1 title_rest ≡ 0 ∷ title_rest
shut_title b shut =
    let size : length b ≤ 16 = shut.2 in
    (λ i. first_of b 0 shut.0 shut.1 i ++ (title_rest ++ drop_all 16 b size i))

-- ---- its first byte

pub open_torn : (b image : List ℕ) → b ≡ 0 ∷ title_rest → Torn b 0 1 image → IsNewOrTitle image
open_torn b [] is torn = absurd (omega (arith, torn.no_shorter, ap length is))
open_torn b (first ∷ rest) is torn =
    let behind : rest ≡ title_rest = torn.after ∙ ap (drop 1) is in
    let size : length (first ∷ rest) ≤ 16 = omega (arith, ap length behind) in
    elim (cases_eq first 0) [
      | inl zeroed ↦ inl (inr (rest, ap (λ k. k ∷ rest) zeroed, size))
      | inr nonzero ↦ inr (first, nonzero, ap (λ (l : List ℕ). first ∷ l) behind)
    ]

pub open_title : (b : List ℕ) → b ≡ 0 ∷ title_rest → overwritten b 0 (105 ∷ []) ≡ title
open_title b is = ap (λ (l : List ℕ). 105 ∷ drop 1 l) is

pub shut_new : (image : List ℕ) → IsShut image → IsNewOrTitle image
shut_new image shut = inl (inr shut)

pub title_log : (b : List ℕ) → b ≡ title → IsLog b
title_log b is = let nonzero : 105 ≢ 0 = omega arith in (105, [], nonzero, is)

-- ---- the whole start

-- a sync leaves one of the images
pub sync_made : (t : Option Clock) → Now t (λ s. IsImage s s.bytes) → Leaves t (goes synced t) (IsOldOrMade t)
sync_made None present = tt
sync_made (Some c) present = (synced c.now ∷ [], refl, ((λ image left. inl (subst (IsImage c.now) (sym (settled_only c.now.bytes image left)) present)), tt))

pub made_leaves : (t u v : Option Clock) → Now t (λ s. IsNew s.bytes) → Leaves t u (IsOldOrMade t) → Leaves u v IsNewOrTitle → Leaves t v (IsOldOrMade t)
made_leaves None u v new first second = tt
made_leaves (Some c) u v new first second =
    leaves_on (Some c) u v (IsOldOrMade (Some c)) first (leaves_weaker u v IsNewOrTitle (IsOldOrMade (Some c)) (λ image is. inr (new, is)) second)

-- after a sync the bytes are what they were
pub sync_settled : (t u : Option Clock) (P : List ℕ → Type 0) → u ≡ goes synced t → Now t (λ s. P s.bytes) → IsSettled P u
sync_settled t u P after told = subst (IsSettled P) (sym after) (by_disk t told)
  where
    by_disk : (v : Option Clock) → Now v (λ s. P s.bytes) → IsSettled P (goes synced v)
    by_disk None known = tt
    by_disk (Some c) known = (refl, known)

pub sync_entitles : (t u : Option Clock) → u ≡ goes synced t → Entitles t u
sync_entitles t u after = subst (Entitles t) (sym after) (by_disk t)
  where
    by_disk : (v : Option Clock) → Entitles v (goes synced v)
    by_disk None = tt
    by_disk (Some c) = inr refl

pub new_entitles : (t u : Option Clock) → Now t (λ s. IsNew s.bytes) → IsSettled (λ bytes. bytes ≡ title) u → Entitles t u
new_entitles None u new made = tt
new_entitles (Some c) None new made = tt
new_entitles (Some c) (Some d) new made = inl (new, made.1)

pub log_front : (t : Option Clock) → IsSettled IsLog t → HasFront 16 t
log_front None is = tt
log_front (Some c) is = let long : 16 ≤ length c.now.bytes = by_bytes c.now.bytes is.1 in (is.0, long)
  where
    by_bytes : (b : List ℕ) → IsLog b → 16 ≤ length b
    by_bytes b (first, rest, nonzero, whole) = omega (arith, ap length whole, length-append title_rest rest)

-- ---- what the first bytes say

module _ (bytes front : List ℕ) (size : ℕ) (is : front ≡ take 16 bytes) (sized : size ≡ length bytes) where
  pub front_short : size ≤ 1 → IsNew bytes
  front_short le = let short : length bytes ≤ 1 = omega (arith, le, sized) in inl short

  pub front_zero : (rest : List ℕ) → front ≡ 0 ∷ rest → size ≤ 16 → IsNew bytes
  front_zero rest begins le =
      let short : length bytes ≤ 16 = omega (arith, le, sized) in
      inr (rest, sym (take_all 16 bytes short) ∙ sym is ∙ begins, short)

  pub front_title : (first : ℕ) → first ≢ 0 → front ≡ first ∷ title_rest → IsLog bytes
  front_title first nonzero begins =
      (first, drop 16 bytes, nonzero, sym (take-append-drop 16 bytes) ∙ ap (λ (l : List ℕ). l ++ drop 16 bytes) (sym is ∙ begins))

  -- a log has these first bytes, and a new file none or 0
  log_first : IsLog bytes → (first : ℕ) × (first ≢ 0) × (front ≡ first ∷ title_rest)
  log_first (first, rest, nonzero, whole) = (first, nonzero, is ∙ ap (take 16) whole)

  pub front_none : 1 < size → front ≡ [] → IsOther bytes
  front_none long none = absurd (omega (arith, sym (ap length is) ∙ ap length none, length-take 16 bytes, sized, long))

  pub front_other : (first : ℕ) (rest : List ℕ) → 1 < size → front ≡ first ∷ rest → (first ≡ 0 → 16 < size) → (first ≢ 0 → rest ≡ title_rest → ⊥) → IsOther bytes
  front_other first rest long begins zero_long not_title = (
    (λ log.
        let known = log_first log in
        let same : first ∷ rest ≡ known.0 ∷ title_rest = sym begins ∙ known.2 in
        let head : first ≡ known.0 = cc same in
        let tail : rest ≡ title_rest = cc same in
        not_title (λ zeroed. known.1 (sym head ∙ zeroed)) tail),
    not_new,
  )
    where
      not_new : IsNew bytes → ⊥
      not_new (inl short) = omega (arith, short, sized, long)
      not_new (inr (others, whole, short)) =
          let same : first ∷ rest ≡ take 16 (0 ∷ others) = sym begins ∙ is ∙ ap (take 16) whole in
          let head : first ≡ 0 = ap (λ (l : List ℕ). get_or l 0 0) same in
          let late = zero_long head in
          omega (arith, late, short, sized)

-- ---- reading the first bytes

read_on : (count more : ℕ) (buf part bytes : List ℕ) → count ≤ length buf → length part ≡ length buf - count → more ≤ length part → take count buf ≡ take count bytes → count ≤ length bytes
    → take more part ≡ take more (drop count bytes) → more ≤ length (drop count bytes)
    → (take (count + more) (put_mid count (length buf - count) buf part) ≡ take (count + more) bytes) × (count + more ≤ length bytes)
read_on count more buf part bytes within size few same short read some =
    let front : length (take count buf) ≡ count = omega (arith, length-take count buf, within) in
    let rest = part ++ post_of count (length buf - count) buf in
    let first : take (count + more) (take count buf ++ rest) ≡ take count buf ++ take more rest = take-past count more (take count buf) rest front in
    let second : take more rest ≡ take more part = take-append-le more part (post_of count (length buf - count) buf) few in
    let long : count + more ≤ length bytes = omega (arith, some, length-drop count bytes, short) in
    let whole : take (count + more) bytes ≡ take count bytes ++ take more (drop count bytes) = take-split count more bytes in
    (first ∙ ap (λ (l : List ℕ). take count buf ++ l) (second ∙ read) ∙ ap (λ (l : List ℕ). l ++ take more (drop count bytes)) same ∙ sym whole, long)
  where
    take-split : (n m : ℕ) (xs : List ℕ) → take (n + m) xs ≡ take n xs ++ take m (drop n xs)
    take-split n m xs =
        let le : n ≤ n + m = omega arith in
        sym (take-append-drop n (take (n + m) xs)) ∙ (λ i. take-take n (n + m) xs le i ++ drop-take n m xs i)

    take-past : (n m : ℕ) (xs ys : List ℕ) → length xs ≡ n → take (n + m) (xs ++ ys) ≡ xs ++ take m ys
    take-past n m xs ys is = take-split n m (xs ++ ys) ∙ (λ i. take_at xs ys n is i ++ take m (drop_at xs ys n is i))

pub read_more : (t u : Option Clock) (count more : ℕ) (buf part : List ℕ) → u ≡ t → count ≤ length buf → length part ≡ length buf - count → more ≤ length part
    → Now t (λ s. (take count buf ≡ take count s.bytes) × (count ≤ length s.bytes)) → Now u (Reads count more part)
    → Now t (λ s. (take (count + more) (put_mid count (length buf - count) buf part) ≡ take (count + more) s.bytes) × (count + more ≤ length s.bytes))
read_more None u count more buf part still within size few same reads = tt
read_more (Some c) u count more buf part still within size few same reads =
    let read = subst (λ v. Now v (Reads count more part)) still reads in
    read_on count more buf part c.now.bytes within size few same.0 same.1 read.bytes read.within
