-- decides: the journal
-- How far a journal was read, what its disk holds then, and what appends do to it.
use Rattle.std.specs.Prelude.{◌≡◌, ◌⊎◌, ℕ, ◌≤◌, List, [], ◌∷◌, ◌++◌, length, take, drop, Option, Some, None, ⊤}
use Rattle.ifdb_disk.specs.Images.{IsImage, settled}
use Rattle.ifdb_disk.specs.Clock.{Clock, Leaves, Now}
use Rattle.ifdb_journal.specs.declared.record.Record.{Record}
use Rattle.ifdb_journal.specs.Records.{IsFront, ReadsAs, records, damage}

-- a journal: the place of the next gate, and the bytes from there on that were read ahead
pub record Place : Type 0 where
  pub at : ℕ
  pub ahead : List ℕ

-- some bytes are those that stand at this place
abbrev pub IsAt : List ℕ → ℕ → List ℕ → Type 0
IsAt bytes at some = some ≡ take (length some) (drop at bytes)

-- the same of a disk's bytes
abbrev pub StandsAt : Option Clock → ℕ → List ℕ → Type 0
StandsAt t at some = Now t (λ s. IsAt s.bytes at some)

-- the bytes up to a gate at `at` are these records
pub record IsReadTo (bytes : List ℕ) (rs : List Record) (at : ℕ) : Type 0 where
  pub front : List ℕ
  pub gate : ℕ
  pub rest : List ℕ
  pub split : bytes ≡ front ++ gate ∷ rest
  pub size : length front ≡ at
  pub is : IsFront front rs
  -- at most 1 byte has no records, so its gate is closed
  pub short : length bytes ≤ 1 → gate ≡ 0

-- the same, and the gate is closed
pub record IsEnd (bytes : List ℕ) (rs : List Record) (at : ℕ) : Type 0 where
  pub front : List ℕ
  pub tail : List ℕ
  pub split : bytes ≡ front ++ 0 ∷ tail
  pub size : length front ≡ at
  pub is : IsFront front rs

-- a disk holds a journal of which these records were read, all of it synced
abbrev pub ReadTo : Option Clock → List Record → Place → Type 0
ReadTo None rs p = ⊤
ReadTo (Some c) rs p = (bytes : List ℕ) × (c.now ≡ settled bytes) × IsReadTo bytes rs p.at × IsAt bytes p.at p.ahead

-- a disk holds these records and no more, all of it synced, and the closed gate stands at `at`
abbrev pub Holds : Option Clock → List Record → ℕ → Type 0
Holds None rs at = ⊤
Holds (Some c) rs at = (bytes : List ℕ) × (c.now ≡ settled bytes) × IsEnd bytes rs at

-- a disk holds a journal that was read to its end, whose closed gate stands at `at`
abbrev pub IsReady : Option Clock → ℕ → Type 0
IsReady t at = (rs : List Record) × Holds t rs at

-- an image is one of those at a start, or too short for a record where the disk was so too
abbrev pub IsOldOrShort : Option Clock → List ℕ → Type 0
IsOldOrShort old image = Now old (λ s. IsImage s image ⊎ ((length s.bytes ≤ 1) × (length image ≤ 1)))

-- a disk's bytes spell what they spelled, as far as they do
abbrev pub SpellsSame : Option Clock → Option Clock → Type 0
SpellsSame old new = Now old (λ s. Now new (λ u. (records u.bytes ≡ records s.bytes) × (damage u.bytes ≡ damage s.bytes)))

-- a disk's bytes read whole, as these records
abbrev pub SpellsWhole : Option Clock → List Record → Type 0
SpellsWhole t rs = Now t (λ s. ReadsAs rs s.bytes)

-- a disk's bytes are damaged at this place
abbrev pub BreaksAt : Option Clock → ℕ → Type 0
BreaksAt t at = Now t (λ s. damage s.bytes ≡ Some at)

-- ---- an append of some records together

-- an image reads whole, as some records, or as these and all of a batch
abbrev pub HasAllOrNone : List Record → List Record → List ℕ → Type 0
HasAllOrNone rs batch image = ReadsAs rs image ⊎ ReadsAs (rs ++ batch) image

-- a batch was added behind the records that the journal held
abbrev pub Adds : List Record → Option Clock → ℕ → Option Clock → ℕ → Type 0
Adds batch t at u next = (rs : List Record) → Holds t rs at → Holds u (rs ++ batch) next

-- a crash at any moment since then leaves a whole journal, of the records that it held, with all of the batch or none of it
abbrev pub MayAdd : List Record → Option Clock → ℕ → Option Clock → Type 0
MayAdd batch t at u = (rs : List Record) → Holds t rs at → Leaves t u (HasAllOrNone rs batch)

-- ---- many appends

-- the records of some batches
abbrev pub joined : List (List Record) → List Record
joined [] = []
joined (batch ∷ batches) = batch ++ joined batches

-- these batches were added, one append behind the other
abbrev pub AddsEach : List (List Record) → Option Clock → ℕ → Option Clock → ℕ → Type 0
AddsEach [] t at u next = (u ≡ t) × (next ≡ at)
AddsEach (batch ∷ batches) t at u next = (v : Option Clock) × (mid : ℕ) × Adds batch t at v mid × MayAdd batch t at v × AddsEach batches v mid u next

-- an image reads whole, as some records, and then the first of some batches
abbrev pub HasFirst : List Record → List (List Record) → List ℕ → Type 0
HasFirst rs batches image = (n : ℕ) × (n ≤ length batches) × ReadsAs (rs ++ joined (take n batches)) image

-- Images of a journal: from where a journal holds some records, and after appends that answered Ok, it holds theirs too, and a crash at
-- any moment since leaves a whole journal, of the records and the first of the appends, in order, none of them in part. It's so too in
-- an append that follows and may fail: each image has all that were answered, and all or none of the last.
abbrev pub JournalImages : Type 0
JournalImages = (rs : List Record) (batches : List (List Record)) (last : List Record) (t u w : Option Clock) (at next : ℕ) → Holds t rs at → AddsEach batches t at u next → MayAdd last u next w
    → Holds u (rs ++ joined batches) next × Leaves t u (HasFirst rs batches) × Leaves u w (HasAllOrNone (rs ++ joined batches) last)

-- and where a journal holds some records, each image reads whole, as these
abbrev pub HeldImages : Type 0
HeldImages = (rs : List Record) (t : Option Clock) (at : ℕ) → Holds t rs at → Now t (λ s. (image : List ℕ) → IsImage s image → ReadsAs rs image)
