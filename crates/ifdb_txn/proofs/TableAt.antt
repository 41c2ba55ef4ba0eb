-- A table that is there.
use Rattle.std.proofs.Common.{◌≡◌, ℕ, zero, suc, ◌<◌, List, [], ◌∷◌, length, arith, Some, None, Option}
use Rattle.std.specs.Prelude.{slice_get, slice_index_or}
use Rattle.ifdb_bound.specs.declared.schema.Schema.{Schema}
use Rattle.ifdb_catalog.specs.Public.{Public, no_table}
use Rattle.ifdb_txn.specs.Tables.{IsTable}

abbrev IsAt : Schema → Option Schema → Type 0
IsAt s None = ⊥
IsAt s (Some u) = s ≡ u

at_is : (tables : List Schema) (t : ℕ) (d : Schema) (o : Option Schema) → t < length tables → o ≡ slice_get tables t → IsAt (slice_index_or tables t d) o
at_is [] t d o lt e = absurd (omega arith)
at_is (s ∷ tables) zero d None lt e = cc
at_is (s ∷ tables) zero d (Some u) lt e = cc
at_is (s ∷ tables) (suc t) d o lt e = at_is tables t d o (omega arith) e

pub table_is : (p : Public) (t : ℕ) (o : Option Schema) → t < length p.tables → o ≡ slice_get p.tables t → IsTable p t o
table_is p t None lt e = at_is p.tables t no_table None lt e
table_is p t (Some s) lt e = at_is p.tables t no_table (Some s) lt e
