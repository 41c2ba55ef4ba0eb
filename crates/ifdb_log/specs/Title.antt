-- decides: a served database
-- The title that the file of a log begins with, and which files are new, or logs.
use Rattle.std.specs.Prelude.{◌≡◌, ◌≢◌, ◌⊎◌, ℕ, ◌≤◌, List, [], ◌∷◌, ◌++◌, length, Option, Some}
use Rattle.ifdb_disk.specs.Images.{IsImage, settled}
use Rattle.ifdb_disk.specs.Clock.{Clock, Now}
use Rattle.ifdb_journal.specs.declared.record.Record.{Record}
use Rattle.ifdb_journal.specs.Records.{damage, records}
use Rattle.ifdb_log.specs.declared.title.Heading.{Heading}
use Rattle.ifdb_log.specs.declared.title.Heading.TheVariants as heading

-- the title behind its first byte: `fdb log 1`, five blanks and the end of the line
abbrev pub title_rest : List ℕ
title_rest = 102 ∷ 100 ∷ 98 ∷ 32 ∷ 108 ∷ 111 ∷ 103 ∷ 32 ∷ 49 ∷ 32 ∷ 32 ∷ 32 ∷ 32 ∷ 32 ∷ 10 ∷ []

-- the title, which begins with an `i`
abbrev pub title : List ℕ
title = 105 ∷ title_rest

-- a log: the title, where the first byte may be any but 0, and what lies behind it
abbrev pub IsLog : List ℕ → Type 0
IsLog bytes = (first : ℕ) × (rest : List ℕ) × (first ≢ 0) × (bytes ≡ first ∷ (title_rest ++ rest))

-- at most 16 bytes, of which the first is 0
abbrev pub IsShut : List ℕ → Type 0
IsShut bytes = (rest : List ℕ) × (bytes ≡ 0 ∷ rest) × (length bytes ≤ 16)

-- a new file, in which nothing was kept
abbrev pub IsNew : List ℕ → Type 0
IsNew bytes = (length bytes ≤ 1) ⊎ IsShut bytes

-- any other file
abbrev pub IsOther : List ℕ → Type 0
IsOther bytes = (IsLog bytes → ⊥) × (IsNew bytes → ⊥)

-- what a file begins as
abbrev pub BeginsAs : Heading → List ℕ → Type 0
BeginsAs heading.New bytes = IsNew bytes
BeginsAs heading.Log bytes = IsLog bytes
BeginsAs heading.Other bytes = IsOther bytes

-- ---- the title of a disk

-- a disk is all synced, and its bytes have P
abbrev pub IsSettled : (List ℕ → Type 0) → Option Clock → Type 0
IsSettled P t = Now t (λ s. (s ≡ settled s.bytes) × P s.bytes)

-- a file that a start takes as new, or a log of nothing but its title
abbrev pub IsNewOrTitle : List ℕ → Type 0
IsNewOrTitle bytes = IsNew bytes ⊎ ((first : ℕ) × (first ≢ 0) × (bytes ≡ first ∷ title_rest))

-- an image is one of those from before, or that of a file that is being made where the disk was new
abbrev pub IsOldOrMade : Option Clock → List ℕ → Type 0
IsOldOrMade old image = Now old (λ s. IsImage s image ⊎ (IsNew s.bytes × IsNewOrTitle image))

-- a new file became the title, and a log stayed as it was
abbrev pub Entitles : Option Clock → Option Clock → Type 0
Entitles old new = Now old (λ s. Now new (λ u. (IsNew s.bytes × (u.bytes ≡ title)) ⊎ (u.bytes ≡ s.bytes)))

-- ---- what `keep` sees in it, and it in files of `keep`

-- read as a journal, a log is damaged at its first byte
abbrev pub TitleIsDamage : Type 0
TitleIsDamage = (bytes : List ℕ) → IsLog bytes → damage bytes ≡ Some 0

-- a journal with a record is another file
abbrev pub JournalIsOther : Type 0
JournalIsOther = (bytes : List ℕ) (r : Record) (rs : List Record) → records bytes ≡ r ∷ rs → IsOther bytes
