-- The start of a journal.
use Rattle.std.proofs.Common.{◌≡◌, inl, inr, ℕ, ◌<◌, ◌≤◌, true, List, [], ◌∷◌, length, refl, sym, ap, subst, ◌∙◌, arith}
use Rattle.std.specs.Prelude.{Option, Some, None, nat_le, if◌then◌else◌}
use Rattle.std.proofs.lemmas.List.{drop_all}
use Rattle.std.proofs.lemmas.Bool.Decides.{nat_tests}
use Rattle.ifdb_disk.specs.Images.{Shown, IsImage, settled, overwritten, synced}
use Rattle.ifdb_disk.specs.Clock.{Clock, goes, Now, Leaves, Stored, Torn}
use Rattle.ifdb_disk.proofs.Moments.{since_here, leaves_weaker, leaves_on}
use Rattle.ifdb_disk.proofs.Store.{settled_only}
use Rattle.ifdb_journal.specs.Records.{scan, break, records, damage}
use Rattle.ifdb_journal.specs.Reading.{Place, IsReadTo, ReadTo, IsOldOrShort, SpellsSame}
use Rattle.ifdb_journal.proofs.Scan.{front_none}
use Rattle.ifdb_journal.proofs.Append.{stored_at}

-- the place of a journal of which nothing was read
abbrev pub beginning : Place
beginning = record { at = 0; ahead = [] }

pub records_short : (b : List ℕ) → length b ≤ 1 → records b ≡ []
records_short b le = let short : nat_le (length b) 1 ≡ true = grind (arith, nat_tests) in λ i. if short i then [] else scan 0 b

pub damage_short : (b : List ℕ) → length b ≤ 1 → damage b ≡ None
damage_short b le = let short : nat_le (length b) 1 ≡ true = grind (arith, nat_tests) in λ i. if short i then None else break 0 0 b

-- a sync leaves one of the images
pub sync_leaves : (t : Option Clock) → Now t (λ s. IsImage s s.bytes) → Leaves t (goes synced t) (IsOldOrShort t)
sync_leaves None present = tt
sync_leaves (Some c) present = (synced c.now ∷ [], refl, ((λ image left. inl (subst (IsImage c.now) (sym (settled_only c.now.bytes image left)) present)), tt))

pub none_leave : (t : Option Clock) → Leaves t t (IsOldOrShort t)
none_leave t = since_here t (λ s. (image : List ℕ) → IsImage s image → IsOldOrShort t image)

-- the bytes are long enough for a record
pub long_begins : (t : Option Clock) → Now (goes synced t) (λ s. 1 < length s.bytes) → ReadTo (goes synced t) [] beginning
long_begins None long = tt
long_begins (Some c) long = (c.now.bytes, refl, by_bytes c.now.bytes long, refl)
  where
    by_bytes : (b : List ℕ) → 1 < length b → IsReadTo b [] 0
    by_bytes [] lt = absurd (omega (arith, lt))
    by_bytes (gate ∷ rest) lt = record { front = []; gate = gate; rest = rest; split = refl; size = refl; is = front_none; short = λ le. absurd (omega (arith, le, lt)) }

pub same_spelled : (t : Option Clock) → SpellsSame t (goes synced t)
same_spelled None = tt
same_spelled (Some c) = (refl, refl)

shut_bytes : (b : List ℕ) → length b ≤ 1 → overwritten b 0 (0 ∷ []) ≡ 0 ∷ []
shut_bytes b le = ap (λ (l : List ℕ). 0 ∷ l) (drop_all 1 b le)

pub shut_begins : (t : Option Clock) → Now (goes synced t) (λ s. length s.bytes ≤ 1) → ReadTo (stored_at 0 (0 ∷ []) (goes synced t)) [] beginning
shut_begins None short = tt
shut_begins (Some c) short = (0 ∷ [], ap settled (shut_bytes c.now.bytes short), record { front = []; gate = 0; rest = []; split = refl; size = refl; is = front_none; short = λ le. refl }, refl)

pub shut_spelled : (t : Option Clock) → Now (goes synced t) (λ s. length s.bytes ≤ 1) → SpellsSame t (stored_at 0 (0 ∷ []) (goes synced t))
shut_spelled None short = tt
shut_spelled (Some c) short =
    let is = shut_bytes c.now.bytes short in
    (ap records is ∙ sym (records_short c.now.bytes short), ap damage is ∙ sym (damage_short c.now.bytes short))

-- each image of the written gate has at most 1 byte
pub shut_leaves : (t u : Option Clock) → Now t (λ s. IsImage s s.bytes) → Now (goes synced t) (λ s. length s.bytes ≤ 1)
    → ((old : List ℕ) → Stored (goes synced t) old → Leaves (goes synced t) u (Torn old 0 1)) → Leaves t u (IsOldOrShort t)
shut_leaves None u present short moments = tt
shut_leaves (Some c) u present short moments =
    let old = Some c in
    leaves_on old (goes synced old) u (IsOldOrShort old) (sync_leaves old present)
    (leaves_weaker (goes synced old) u (Torn c.now.bytes 0 1) (IsOldOrShort old) (λ image torn. inr (short, omega (arith, torn.no_longer, short))) (moments c.now.bytes refl))

pub told_of : (t u : Option Clock) (P Q : Shown → Type 0) → u ≡ t → Now u P → ((s : Shown) → P s → Q s) → Now t Q
told_of None u P Q is told imply = tt
told_of (Some c) u P Q is told imply = imply c.now (subst (λ v. Now v P) is told)
