-- The entries of a session, in longer histories.
use Rattle.std.proofs.Common.{ℕ, List, [], ◌∷◌, ◌++◌, length, refl, subst}
use mathlib.Core.List.{IsPrefix}
use Rattle.atomic_table.proofs.Lists.{at_longer, at_last}
use Rattle.ifdb_history.specs.declared.entry.Entry.{Entry}
use Rattle.ifdb_history.specs.declared.entry.Kind.{Kind}
use Rattle.ifdb_history.specs.declared.entry.Kind.TheVariants as kind
use Rattle.ifdb_history.specs.History.{IsKindOf, IsEntryOf, AreEntriesOf}
use Rattle.ifdb_history.proofs.Flat.{root-append}

kind_later : (n : ℕ) (h k : List Entry) (place : ℕ) (x : Kind) → IsKindOf n h place x → IsKindOf n (h ++ k) place x
kind_later n h k place kind.Opened r = root-append h k n place r
kind_later n h k place (kind.Asked m work line) r = r
kind_later n h k place (kind.Looked m line) r = r
kind_later n h k place (kind.Refused m line) r = r
kind_later n h k place (kind.Left m work) r = r

pub entry_later : (n : ℕ) (h k : List Entry) (place : ℕ) → IsPrefix h k → IsEntryOf n h place → IsEntryOf n k place
entry_later n h k place front of = subst (λ l. IsEntryOf n l place) front.1
    (of.0, at_longer h front.0 place of.0 of.1, kind_later n h front.0 place of.0.kind of.2)

pub entries_later : (n : ℕ) (h k : List Entry) (places : List ℕ) → IsPrefix h k → AreEntriesOf n h places → AreEntriesOf n k places
entries_later n h k [] front of = tt
entries_later n h k (place ∷ places) front of = (entry_later n h k place front of.0, entries_later n h k places front of.1)

pub entries-append : (n : ℕ) (h : List Entry) (xs ys : List ℕ) → AreEntriesOf n h xs → AreEntriesOf n h ys → AreEntriesOf n h (xs ++ ys)
entries-append n h [] ys a b = b
entries-append n h (x ∷ xs) ys a b = (a.0, entries-append n h xs ys a.1 b)

-- the last entry
pub last_entry : (n : ℕ) (h : List Entry) (e : Entry) → IsKindOf n (h ++ e ∷ []) (length h) e.kind → IsEntryOf n (h ++ e ∷ []) (length h)
last_entry n h e of = (e, at_last h e (length h) refl, of)
