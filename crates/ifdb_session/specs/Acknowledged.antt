-- decides: the service
-- What replies are answered from, and that it is kept before they are written.
use Rattle.std.specs.Prelude.{◌≡◌, ℕ, ◌==◌, Bool, false, List, [], ◌∷◌, ◌++◌, Option, Some, None, All, if◌then◌else◌}
use Rattle.ifdb_history.specs.declared.entry.Entry.{Entry}
use Rattle.ifdb_history.specs.declared.entry.Kind.{Kind}
use Rattle.ifdb_history.specs.declared.entry.Kind.TheVariants as kind
use Rattle.ifdb_session.specs.declared.ending.Ending.{Ending}
use Rattle.ifdb_session.specs.declared.ending.Ending.TheVariants as ends
use Rattle.ifdb_session.specs.declared.records.Records as recorder
use Rattle.ifdb_session.specs.declared.settles.Settles as settler
use Rattle.ifdb_session.specs.Records.{texts_of}
use Rattle.ifdb_model.specs.Log.{Entry as LogEntry}

-- the turn answers a line of the session
abbrev pub answers : ℕ → Kind → Bool
answers n kind.Opened = false
answers n (kind.Asked m work line) = m == n
answers n (kind.Looked m line) = m == n
answers n (kind.Refused m line) = m == n
answers n (kind.Left m work) = false

-- What each turn that answers the session has seen, in their order: the texts of all records up to it. A history goes on behind
-- another.
abbrev pub sources_from : List LogEntry → ℕ → List Entry → List Entry → List (List (List ℕ))
sources_from first n before [] = []
sources_from first n before (e ∷ h) =
    (if answers n e.kind then texts_of first (before ++ e ∷ []) ∷ [] else []) ++ sources_from first n (before ++ e ∷ []) h

-- so it is with a whole history
abbrev pub sources_of : List LogEntry → ℕ → List Entry → List (List (List ℕ))
sources_of first n h = sources_from first n [] h

-- a line is answered by a turn, which counts what was recorded up to it; or it takes no turn that answers
abbrev pub IsSourced : List LogEntry → (List (List ℕ) → ℕ) → ℕ → List Entry → List Entry → Option ℕ → Type 0
IsSourced first count_of n h k None = sources_of first n k ≡ sources_of first n h
IsSourced first count_of n h k (Some count) = (sources_of first n k ≡ sources_of first n h ++ texts_of first k ∷ []) × (count ≡ count_of (texts_of first k))

-- all but the last of these is kept
abbrev pub LacksLast : (List (List ℕ) → Type 0) → List (List (List ℕ)) → Type 0
LacksLast IsKept sources = (front : List (List (List ℕ))) × (last : List (List ℕ)) × (sources ≡ front ++ last ∷ []) × All IsKept front

-- what the written replies of a link that ended so were answered from is kept: all of them, unless the last one was held back
abbrev pub Acknowledges : Ending → (List (List ℕ) → Type 0) → List (List (List ℕ)) → Type 0
Acknowledges ends.Unkept IsKept sources = LacksLast IsKept sources
Acknowledges _ IsKept sources = All IsKept sources

module _ {Q S : Type 0} (recorders : recorder.Ghosts Q) (settlers : settler.Ghosts S Q) where
  -- the records of these texts are known to be kept
  abbrev pub KnowsKept : S → List (List ℕ) → Type 0
  KnowsKept keeper texts = settlers.is_kept keeper (recorders.count_of texts)

  -- so it is with all that the written replies to a session were answered from, where its link ended so
  abbrev pub IsAcknowledged : Ending → ℕ → List Entry → S → Type 0
  IsAcknowledged ending n h keeper = Acknowledges ending (KnowsKept keeper) (sources_of recorders.first n h)

  -- so it is with all that a session was answered from
  abbrev pub AllKept : ℕ → List Entry → S → Type 0
  AllKept n h keeper = All (KnowsKept keeper) (sources_of recorders.first n h)

  -- so it is with all but what the last reply was answered from
  abbrev pub AllButLastKept : ℕ → List Entry → S → Type 0
  AllButLastKept n h keeper = LacksLast (KnowsKept keeper) (sources_of recorders.first n h)

  -- if so many are told of, they are known to be kept
  abbrev pub IsKeptIf : S → Option ℕ → Type 0
  IsKeptIf keeper None = Unit {0}
  IsKeptIf keeper (Some count) = settlers.is_kept keeper count
