-- What is true of every desk and of every client.
use Rattle.std.specs.Prelude.{◌≡◌, ◌≤◌, ℕ, Bool, true, ◌&&◌, List, [], ◌∷◌, length, nat_le, IsTrue, Option, Some, None, All}
use Rattle.std.specs.List.{list_all}
use Rattle.ifdb_label.specs.Tags.{AreMade}
use Rattle.ifdb_row.specs.declared.row.Row.{Row}
use Rattle.ifdb_row.specs.declared.write.Write.{Write}
use Rattle.ifdb_row.specs.Content.{after, are_rooted}
use Rattle.ifdb_row.specs.Writes.{are_rising, are_fitting}
use Rattle.ifdb_store.specs.Kept.{is_later}
use Rattle.ifdb_store.specs.Later.{are_commits_made}
use Rattle.ifdb_catalog.specs.Public.{Public}
use Rattle.ifdb_model.specs.Session.{Seen}
use Rattle.ifdb_snapshot.specs.Sound.{is_sound}
use Rattle.ifdb_snapshot.specs.Writing.{is_fit, are_fit}
use Rattle.ifdb_db.specs.Client.{Open, Client}
use Rattle.ifdb_db.specs.Desk.{Desk, oldest}

-- the begins stand in their order, and none is behind the end of the log
abbrev pub are_ordered : List ℕ → ℕ → Bool
are_ordered [] count = true
are_ordered (b ∷ begins) count = nat_le b count && list_all (nat_le b) begins && are_ordered begins count

-- after these writes each row's bound parents are there
abbrev pub keeps_parents : List Row → List Write → Bool
keeps_parents rows ws = are_rooted (after rows ws) (after rows ws)

-- The rows fit, and each row's bound parents are there. The commits that are kept are of made tags, and each is later than
-- the oldest open BEGIN: what no open transaction can meet was given up.
pub record IsSound (d : Desk) : Type 0 where
  pub order : IsTrue (are_ordered d.begins d.count)
  pub seen : IsTrue (is_sound d.seen)
  pub parents : IsTrue (are_rooted d.seen.rows d.seen.rows)
  pub made : IsTrue (are_commits_made (length d.seen.public.tags) d.commits)
  pub later : IsTrue (list_all (is_later (oldest d)) d.commits)

-- what fitted the first public state fits the second, which has no fewer tags
pub record Outgrows (p q : Public) : Type 0 where
  pub tags : length p.tags ≤ length q.tags
  pub writes : (w : Write) → is_fit p w ≡ true → is_fit q w ≡ true

-- the rows that a transaction sees are those of its BEGIN with its own writes, which stand by their slots; all of them fit
pub record IsSoundTxn (x : Open) (shown : List Row) : Type 0 where
  pub rows : shown ≡ after x.base.rows x.own
  pub seen : IsTrue (is_sound (record { public = x.base.public; rows = shown }))
  pub base : IsTrue (is_sound x.base)
  pub own : IsTrue (are_fit x.base.public x.own)
  pub rising : IsTrue (are_rising x.own)
  pub fitting : IsTrue (are_fitting x.own)

-- a label is of made tags; in a transaction of those of its BEGIN, which the public state of now outgrows
abbrev pub IsLabelKept : Public → List ℕ → Option Open → Type 0
IsLabelKept p label None = AreMade (length p.tags) label
IsLabelKept p label (Some x) = AreMade (length x.base.public.tags) label × Outgrows x.base.public p

-- so it is with a client's
abbrev pub IsKept : Public → Client → Type 0
IsKept p c = IsLabelKept p c.label c.txn

-- the log has no fewer entries than at a BEGIN, and where it has no more, the rows are those of then
pub record Began (begin : ℕ) (then now : Seen) (count : ℕ) : Type 0 where
  pub within : begin ≤ count
  pub rows : begin ≡ count → then.rows ≡ now.rows

-- that is so of the transaction that is open, if one is
abbrev pub IsBegun : Seen → ℕ → Option Open → Type 0
IsBegun now count None = Unit {0}
IsBegun now count (Some x) = Began x.begin x.base now count

-- a desk holds a client, and all of some
abbrev pub IsHeld : Desk → Client → Type 0
IsHeld d c = IsKept d.seen.public c × IsBegun d.seen d.count c.txn

abbrev pub AreHeld : Desk → List Client → Type 0
AreHeld d clients = All (IsHeld d) clients
