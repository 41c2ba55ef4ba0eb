-- decides: a served database
-- What crashes leave of a database's file: what it began with, and a front of what a history added to it.
use Rattle.std.specs.Prelude.{◌≡◌, ℕ, ◌≤◌, false, List, [], ◌∷◌, ◌++◌, length, take, Option, Some, None, ⊤}
use Rattle.ifdb_disk.specs.Images.{IsImage}
use Rattle.ifdb_disk.specs.Clock.{Clock, Leaves, Now}
use Rattle.ifdb_durable.specs.declared.view.Flush.{Flush}
use Rattle.ifdb_durable.specs.declared.view.Told.{Told}
use Rattle.ifdb_durable.specs.Told.{Begins, kept_by}
use Rattle.ifdb_model.specs.Log.{Entry as LogEntry}
use Rattle.ifdb_history.specs.declared.entry.Entry.{Entry}
use Rattle.ifdb_history.specs.History.{added_in}
use Rattle.ifdb_session.specs.Records.{texts_of}
use Rattle.ifdb_session.specs.Starts.{start_of}
use Rattle.ifdb_reopen.specs.Files.{IsFileOf}

-- An image is the file of the texts of before and then the first ones of a history, at least so many. It restores the log that there
-- was before, and then as many of the entries that the history added to it, in their order.
pub record HasFrontOf (before : List (List ℕ)) (first : List LogEntry) (h : List Entry) (least : ℕ) (image : List ℕ) : Type 0 where
  pub n : ℕ
  pub enough : least ≤ n
  pub there : n ≤ length (added_in (start_of first) h)
  pub file : IsFileOf (before ++ take n (texts_of first h)) (first ++ take n (added_in (start_of first) h)) image

-- an image is the file of the texts of before, and then of these and any more behind them
abbrev pub HasTextsOf : List (List ℕ) → List (List ℕ) → List ℕ → Type 0
HasTextsOf before xs image = (more : List (List ℕ)) × (log : List LogEntry) × IsFileOf (before ++ (xs ++ more)) log image

-- at some moment, and at each one since, a crash leaves only what has P
abbrev pub LeavesFrom : Option Clock → Option Clock → (List ℕ → Type 0) → Type 0
LeavesFrom t u P = Now t (λ s. (image : List ℕ) → IsImage s image → P image) × Leaves t u P

-- where a disk tells what it holds, there was a moment since which a crash leaves all of these texts behind those of before
abbrev pub IsKeptSince : List (List ℕ) → Option Clock → List (List ℕ) → Type 0
IsKeptSince before None xs = ⊤
IsKeptSince before (Some c) xs = (since : Clock) × LeavesFrom (Some since) (Some c) (HasTextsOf before xs)

module _ {D : Type 0} where
  -- what is told of a disk when it is opened: an append of nothing
  abbrev pub opening_of : D → Told D
  opening_of disk = record { flushes = record { disk = disk; kept = [] } ∷ []; has_failed = false }

  -- this append was told of
  abbrev pub IsToldOf : Flush D → Told D → Type 0
  IsToldOf d told = (front rest : List (Flush D)) × (told.flushes ≡ (front ++ d ∷ []) ++ rest)

  -- an append was told of behind which so many records are on the disk, or more
  abbrev pub KnowsOf : Told D → ℕ → Type 0
  KnowsOf told n = (receipt : Told D) × Begins receipt told × (n ≤ length (kept_by receipt))
