-- Which later commit meets a transaction's writes.
use Rattle.std.specs.Prelude.{◌≡◌, ℕ, Bool, false, List, [], ◌∷◌, find, Option, Some, None, option_map, if◌then◌else◌, ◌==◌, nat_lt}
use Rattle.std.specs.Ordering.{is_lt}
use Rattle.std.specs.List.{list_any}
use Rattle.std.specs.Option.{option_or}
use Rattle.ifdb_label.specs.Tags.{MadeTag}
use Rattle.ifdb_row.specs.declared.slot.Slot.{Slot}
use Rattle.ifdb_row.specs.declared.write.Write.{Write}
use Rattle.ifdb_row.specs.declared.commit.Commit.{Commit}
use Rattle.ifdb_row.specs.Slots.{key_cmp}
use Rattle.ifdb_row.specs.Verdict.{IsConflict, meets, written_by}
use Rattle.ifdb_store.specs.Kept.{is_later}
use Rattle.ifdb_commit.specs.declared.later.LaterWrite.{LaterWrite}

-- a slot, with the stamp of a commit that wrote it
pub record Met : Type 0 where
  pub slot : Slot
  pub stamp : ℕ

-- what code names
abbrev pub named : Option LaterWrite → Option Met
named None = None
named (Some n) = Some (record { slot = n.slot.now; stamp = n.stamp })

-- what is named is a conflict with later commits, and nothing is named where there is none
abbrev pub NamesConflict : List MadeTag → List Commit → List Write → Option Met → Type 0
NamesConflict tags later own (Some m) = IsConflict tags later own m.slot m.stamp
NamesConflict tags later own None = list_any (meets tags own) (written_by later) ≡ false

-- the write stands before all slots of the slot's table and key
abbrev pub is_behind_key : Slot → Write → Bool
is_behind_key s w = if w.slot.table == s.table then is_lt (key_cmp w.slot.key s.key) else nat_lt w.slot.table s.table

-- the first of some writes whose slot meets one's own
abbrev pub first_met : List MadeTag → List Write → List Write → Option Write
first_met tags own later = find (λ (w : Write). meets tags own w.slot) later

-- the same of a commit after the stamp
abbrev pub met_in : List MadeTag → List Write → ℕ → Commit → Option Met
met_in tags own begin c =
    if is_later begin c then option_map (λ (w : Write). record { slot = w.slot; stamp = c.stamp }) (first_met tags own c.writes) else None

-- the same of the last commit that has one
abbrev pub last_met : List MadeTag → List Write → ℕ → List Commit → Option Met
last_met tags own begin [] = None
last_met tags own begin (c ∷ commits) = option_or (last_met tags own begin commits) (met_in tags own begin c)
