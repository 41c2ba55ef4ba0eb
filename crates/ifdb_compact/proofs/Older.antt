-- Each foreign key refers to a table that was made before its own, so a row's parents stand before the row.
use Rattle.std.proofs.Common.{◌≡◌, ℕ, zero, suc, ◌+◌, Bool, true, List, [], ◌∷◌, ◌++◌, ◌∙◌, length, refl, ap, arith, Some, Ok, Err, Result}
use Rattle.std.specs.Prelude.{◌&&◌, ◌==◌, nat_lt, slice_index_or}
use Rattle.std.specs.List.{list_all}
use Rattle.std.proofs.lemmas.Bool.{false≢true}
use Rattle.std.proofs.lemmas.Bool.Decides.{nat_tests}
use Rattle.ifdb_value.specs.declared.value.Value.{Value}
use Rattle.ifdb_value.proofs.Lists.{all-filter, all_wider}
use Rattle.ifdb_row.specs.declared.slot.Slot.{Slot}
use Rattle.ifdb_row.specs.declared.row.Row.{Row}
use Rattle.ifdb_row.specs.Slots.{slot_cmp, slot_lt}
use Rattle.ifdb_bound.specs.declared.schema.Foreign.{Foreign}
use Rattle.ifdb_bound.specs.declared.schema.Schema.{Schema}
use Rattle.ifdb_bound.specs.declared.request.Bound.TheVariants as bound
use Rattle.ifdb_bound.specs.declared.request.Change.{Change}
use Rattle.ifdb_bound.specs.declared.request.Change.TheVariants as change
use Rattle.ifdb_syntax.specs.declared.request.Request.{Request}
use Rattle.ifdb_wire.specs.declared.fault.Fault.{Fault}
use Rattle.ifdb_catalog.specs.Public.{Public, changed, no_table, table_at}
use Rattle.ifdb_catalog.specs.Binding.{bound as bound_request}
use Rattle.ifdb_catalog.specs.Fits.{change_fits, foreign_key_fits}
use Rattle.ifdb_catalog.proofs.BoundRequestsFit.{bound_is_fitting}
use Rattle.ifdb_model.specs.Log.{Entry, changes, public_of}
use Rattle.ifdb_model.specs.Session.{Session, seen}
use Rattle.ifdb_model.specs.Step.{ask_read, commit_fault, form_of}
use Rattle.ifdb_model.specs.Writes.{binding_keys, binds}
use Rattle.ifdb_laws.specs.RowLaws.{refs_fit, row_fits}
use Rattle.ifdb_restore.specs.Redone.{idle}
use Rattle.ifdb_restore.proofs.Redone.{publish_is, publishes_alone}

-- ---- tables

-- the parents of a table have numbers below this one
abbrev pub is_older : ℕ → Foreign → Bool
is_older n f = nat_lt f.parent n

-- so it is with each table and its own number, where the first has this one
abbrev pub are_older : ℕ → List Schema → Bool
are_older n [] = true
are_older n (t ∷ tables) = list_all (is_older n) t.foreign && are_older (suc n) tables

older_more : (n : ℕ) (tables : List Schema) (t : Schema) → are_older n tables ≡ true → list_all (is_older (n + length tables)) t.foreign ≡ true → are_older n (tables ++ t ∷ []) ≡ true
older_more n [] t a b =
    let place : n ≡ n + 0 = omega arith in
    let one : list_all (is_older n) t.foreign ≡ true = ap (λ k. list_all (is_older k) t.foreign) place ∙ b in
    grind (arith, nat_tests)
older_more n (s ∷ tables) t a b =
    let place : suc n + length tables ≡ n + length (s ∷ tables) = omega arith in
    let one : (list_all (is_older n) s.foreign ≡ true) × (are_older (suc n) tables ≡ true) = grind (arith, nat_tests) in
    let rest = older_more (suc n) tables t one.1 (ap (λ k. list_all (is_older k) t.foreign) place ∙ b) in
    grind (arith, nat_tests)

older_at : (n : ℕ) (tables : List Schema) (k : ℕ) → are_older n tables ≡ true → list_all (is_older (n + k)) (slice_index_or tables k no_table).foreign ≡ true
older_at n [] k a = refl
older_at n (t ∷ tables) zero a =
    let one : list_all (is_older n) t.foreign ≡ true = grind (arith, nat_tests) in
    let place : n + 0 ≡ n = omega arith in
    ap (λ m. list_all (is_older m) t.foreign) place ∙ one
older_at n (t ∷ tables) (suc k) a =
    let rest : are_older (suc n) tables ≡ true = grind (arith, nat_tests) in
    let place : n + suc k ≡ suc n + k = omega arith in
    ap (λ m. list_all (is_older m) (slice_index_or tables k no_table).foreign) place ∙ older_at (suc n) tables k rest

-- ---- changes

-- a change that fits keeps it so
pub change_older : (p : Public) (c : Change) → change_fits p c ≡ true → are_older 0 p.tables ≡ true → are_older 0 (changed p c).tables ≡ true
change_older p (change.Principal asker name key clearance) fit a = a
change_older p (change.Tag asker name kind parents) fit a = a
change_older p (change.View view) fit a = a
change_older p (change.Grant asker tag to) fit a = a
change_older p (change.Revoke asker tag from) fit a = a
change_older p (change.Table asker schema) fit a =
    let keys : list_all (foreign_key_fits p schema.columns) schema.foreign ≡ true = grind (arith, nat_tests) in
    let older : list_all (is_older (length p.tables)) schema.foreign ≡ true =
    all_wider (foreign_key_fits p schema.columns) (is_older (length p.tables)) schema.foreign (λ f h. grind (arith, nat_tests)) keys in
    let place : 0 + length p.tables ≡ length p.tables = omega arith in
    older_more 0 p.tables schema a (ap (λ n. list_all (is_older n) schema.foreign) place ∙ older)

-- a change that a line makes fits
read_fits : (log : List Entry) (asker : ℕ) (o : Result Request Fault) (c : Change) → (ask_read log (idle asker) o).added ≡ Some (changes c) → change_fits (public_of log) c ≡ true
read_fits log asker (Err f) c e = absurd cc
read_fits log asker (Ok r) c e =
    let s : Session = idle asker in
    let parts = publishes_alone (length log) (seen log s) (commit_fault log s s.txn) s asker r (form_of r) c e in
    let is = publish_is (seen log s).public s (bound_request (seen log s).public asker r) c parts.1 in
    bound_is_fitting (public_of log) asker r (bound.Change c) is.found

pub added_fits : (log : List Entry) (asker : ℕ) (o : Result Request Fault) (c : Change) → (ask_read log (idle asker) o).added ≡ Some (changes c) → are_older 0 (public_of log).tables ≡ true
    → are_older 0 (changed (public_of log) c).tables ≡ true
added_fits log asker o c e a = change_older (public_of log) c (read_fits log asker o c e) a

-- ---- rows

-- a row's parents stand before the row
abbrev pub is_behind_parents : Row → Bool
is_behind_parents r = list_all (λ (s : Slot). slot_lt s r.slot) r.refs

lower_table : (p q : Slot) → nat_lt p.table q.table ≡ true → slot_lt p q ≡ true
unfolding slot_cmp
lower_table p q h = grind (arith, nat_tests)

refs_lower : (n : ℕ) (values : List Value) (foreign : List Foreign) (refs : List Slot) → list_all (is_older n) foreign ≡ true → refs_fit values foreign refs ≡ true → list_all (λ (s : Slot). nat_lt s.table n) refs ≡ true
refs_lower n values [] [] a fit = refl
refs_lower n values [] (s ∷ refs) a fit = absurd (false≢true fit)
refs_lower n values (f ∷ foreign) [] a fit = absurd (false≢true fit)
refs_lower n values (f ∷ foreign) (s ∷ refs) a fit =
    let one : (is_older n f ≡ true) × (list_all (is_older n) foreign ≡ true) = grind (arith, nat_tests) in
    let parts : ((s.table == f.parent) ≡ true) × (refs_fit values foreign refs ≡ true) = grind (arith, nat_tests) in
    let rest = refs_lower n values foreign refs one.1 parts.1 in
    grind (arith, nat_tests)

pub row_behind_parents : (p : Public) (r : Row) → are_older 0 p.tables ≡ true → row_fits p r ≡ true → is_behind_parents r ≡ true
row_behind_parents p r a fit =
    let t : Schema = table_at p r.slot.table in
    let refs : refs_fit r.values (binding_keys r.values t.foreign) r.refs ≡ true = grind (arith, nat_tests) in
    let place : r.slot.table ≡ 0 + r.slot.table = omega arith in
    let all : list_all (is_older r.slot.table) t.foreign ≡ true = ap (λ n. list_all (is_older n) t.foreign) place ∙ older_at 0 p.tables r.slot.table a in
    let older = all-filter (binds r.values) (is_older r.slot.table) t.foreign all in
    all_wider (λ (s : Slot). nat_lt s.table r.slot.table) (λ (s : Slot). slot_lt s r.slot) r.refs (λ s h. lower_table s r.slot h)
    (refs_lower r.slot.table r.values (binding_keys r.values t.foreign) r.refs older refs)
