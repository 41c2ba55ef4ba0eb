-- What a record comes to at a desk.
use Rattle.std.proofs.Common.{◌≡◌, ◌≢◌, ◌⊎◌, inl, inr, ℕ, Ok, Err, Result, true, false, List, refl, sym, ap, subst, ◌∙◌, arith, Some, None, Option}
use Rattle.std.specs.Prelude.{find, not, IsSome}
use Rattle.std.proofs.lemmas.Bool.Decides.{nat_tests}
use Rattle.ifdb_value.proofs.Lists.{some_found, none_found}
use Rattle.ifdb_row.specs.declared.row.Row.{Row}
use Rattle.ifdb_row.specs.declared.write.Write.{Write}
use Rattle.ifdb_row.specs.Writes.{are_fitting, are_rising}
use Rattle.ifdb_row.specs.Content.{after, rising}
use Rattle.ifdb_row.specs.Verdict.{is_broken, breaks}
use Rattle.ifdb_redo.specs.declared.record.RedoRecord.TheVariants as redo
use Rattle.ifdb_bound.specs.declared.request.Bound.{Bound}
use Rattle.ifdb_bound.specs.declared.request.Bound.TheVariants as b
use Rattle.ifdb_bound.specs.declared.request.Change.{Change}
use Rattle.ifdb_syntax.specs.declared.request.Request.{Request}
use Rattle.ifdb_wire.specs.declared.fault.Fault.{Fault}
use Rattle.ifdb_wire.specs.declared.fault.Fault.TheVariants as fault
use Rattle.ifdb_catalog.specs.Public.{Public, refusal}
use Rattle.ifdb_catalog.specs.Binding.{bound}
use Rattle.ifdb_model.specs.Log.{Entry, changes, commits}
use Rattle.ifdb_model.specs.Step.{Form, publishes, form_of, answered_as, publish, publish_it}
use Rattle.ifdb_laws.specs.RowLaws.{rows_fit}
use Rattle.ifdb_restore.specs.Parents.{spares}
use Rattle.ifdb_restore.specs.Redone.{change_of, entry_if}
use Rattle.ifdb_restore.proofs.Parents.{spared_lem}
use Rattle.ifdb_restore.proofs.Redone.{publishes_alone, publish_is}
use Rattle.ifdb_snapshot.specs.Writing.{are_fit}
use Rattle.ifdb_db.specs.Answer.{answered}
use Rattle.ifdb_db.specs.Client.{session_at}
use Rattle.ifdb_db.specs.Reading.{read_line}
use Rattle.ifdb_db.specs.Desk.{Desk, settled, with_entry}
use Rattle.ifdb_db.specs.Redoing.{change_by, entry_at, idle_client, writes_fit}
use Rattle.ifdb_db.specs.Kept.{IsSound, keeps_parents}

pub some_broken : (rows : List Row) (ws : List Write) (w : Write) → find (λ (v : Write). is_broken rows v.row) ws ≡ Some w → breaks rows ws ≡ true
some_broken rows ws w e = some_found (λ (v : Write). is_broken rows v.row) ws w e

pub none_broken : (rows : List Row) (ws : List Write) → find (λ (v : Write). is_broken rows v.row) ws ≡ None → breaks rows ws ≡ false
none_broken rows ws e = none_found (λ (v : Write). is_broken rows v.row) ws e

-- ---- commits

-- what writes that fit give to `land`
pub record Fits (d : Desk) (ws : List Write) : Type 0 where
  pub fit : are_fit d.seen.public ws ≡ true
  pub parents : keeps_parents d.seen.rows ws ≡ true

pub fits_so : (d : Desk) (ws : List Write) → writes_fit d.seen ws ≡ true → Fits d ws
fits_so d ws e =
    let parts : (are_fit d.seen.public ws ≡ true) × (keeps_parents d.seen.rows ws ≡ true) = grind (arith, nat_tests) in
    record { fit = parts.0; parents = parts.1 }

-- what is tested of parents is that they stand
pub test_is : (d : Desk) (ws : List Write) → IsSound d → are_rising ws ≡ true → are_fitting ws ≡ true → spares (after d.seen.rows ws) ws ≡ keeps_parents d.seen.rows ws
test_is d ws k up fits =
    let parts : (rows_fit d.seen ≡ true) × (rising d.seen.rows ≡ true) = grind (arith, nat_tests, k.seen) in
    spared_lem d.seen.rows ws parts.1 up fits k.parents

commit_is : (d : Desk) (ws : List Write) → writes_fit d.seen ws ≡ true → entry_at d (redo.Commit ws) ≡ Some (commits ws)
commit_is d ws e = rw e refl

pub commit_is_made : (d e : Desk) (ws : List Write) → writes_fit d.seen ws ≡ true → e ≡ settled (with_entry d (Some (commits ws))) → e ≡ settled (with_entry d (entry_at d (redo.Commit ws)))
commit_is_made d e ws fit same = same ∙ ap (λ (o : Option Entry). settled (with_entry d o)) (sym (commit_is d ws fit))

pub commit_fits_so : (d : Desk) (ws : List Write) → writes_fit d.seen ws ≡ true → IsSome (entry_at d (redo.Commit ws))
commit_fits_so d ws fit = subst (λ (o : Option Entry). IsSome o) (sym (commit_is d ws fit)) refl

pub commit_is_unfit : (d : Desk) (ws : List Write) → writes_fit d.seen ws ≡ false → entry_at d (redo.Commit ws) ≡ None
commit_is_unfit d ws e = rw e refl

-- ---- what is bound

bound_is : (p : Public) (asker : ℕ) (r : Request) (c : Change) → bound p asker r ≡ Ok (b.Change c) → refusal p c ≡ None → change_by p asker r ≡ Some c
bound_is p asker r c found free =
    ap (λ (o : Result Bound Fault). change_of (publish p (session_at (idle_client asker)) o).added) found
    ∙ ap (λ (o : Option Fault). change_of (publish_it (session_at (idle_client asker)) c o).added) free

pub bound_is_made : (d e : Desk) (asker : ℕ) (r : Request) (c : Change) → bound d.seen.public asker r ≡ Ok (b.Change c) → refusal d.seen.public c ≡ None
    → e ≡ settled (with_entry d (Some (changes c))) → e ≡ settled (with_entry d (entry_if (change_by d.seen.public asker r)))
bound_is_made d e asker r c found free same =
    same ∙ ap (λ (o : Option Change). settled (with_entry d (entry_if o))) (sym (bound_is d.seen.public asker r c found free))

pub bound_fits_so : (p : Public) (asker : ℕ) (r : Request) (c : Change) → bound p asker r ≡ Ok (b.Change c) → refusal p c ≡ None → IsSome (change_by p asker r)
bound_fits_so p asker r c found free = subst (λ (o : Option Change). IsSome o) (sym (bound_is p asker r c found free)) refl

pub unbound : (p : Public) (asker : ℕ) (r : Request) (f : Fault) → bound p asker r ≡ Err f → change_by p asker r ≡ None
unbound p asker r f e = ap (λ (o : Result Bound Fault). change_of (publish p (session_at (idle_client asker)) o).added) e

pub refused : (p : Public) (asker : ℕ) (r : Request) (c : Change) (f : Fault) → bound p asker r ≡ Ok (b.Change c) → refusal p c ≡ Some f → change_by p asker r ≡ None
refused p asker r c f found not =
    ap (λ (o : Result Bound Fault). change_of (publish p (session_at (idle_client asker)) o).added) found
    ∙ ap (λ (o : Option Fault). change_of (publish_it (session_at (idle_client asker)) c o).added) not

-- nothing is added as a change
none_added : (o : Option Entry) → ((c : Change) → o ≡ Some (changes c) → ⊥) → change_of o ≡ None
none_added None never = refl
none_added (Some (changes c)) never = absurd (never c refl)
none_added (Some (commits ws)) never = refl

pub no_change : (p : Public) (asker : ℕ) (r : Request) (found : Bound) → bound p asker r ≡ Ok found → ((c : Change) → found ≡ b.Change c → ⊥) → change_by p asker r ≡ None
no_change p asker r found e other =
    none_added (publish p (session_at (idle_client asker)) (bound p asker r)).added
    (λ c k. let is = publish_is p (session_at (idle_client asker)) (bound p asker r) c k in let same : found ≡ b.Change c = cc (e, is.found) in other c same)

-- ---- lines

-- a line of a request that publishes
line_is : (d : Desk) (asker : ℕ) (line : List ℕ) (r : Request) → read_line line ≡ Ok r → form_of r ≡ publishes
    → entry_at d (redo.Change asker line) ≡ entry_if (change_by d.seen.public asker r)
line_is d asker line r read form =
    ap (λ (o : Result Request Fault). entry_if (change_of (answered d (idle_client asker) o).added)) read
    ∙ ap (λ (f : Form). entry_if (change_of (answered_as d.count d.seen None (session_at (idle_client asker)) asker r f).added)) form

pub change_is_made : (d e : Desk) (asker : ℕ) (line : List ℕ) (r : Request) → read_line line ≡ Ok r → form_of r ≡ publishes
    → e ≡ settled (with_entry d (entry_if (change_by d.seen.public asker r))) → e ≡ settled (with_entry d (entry_at d (redo.Change asker line)))
change_is_made d e asker line r read form same = same ∙ ap (λ (o : Option Entry). settled (with_entry d o)) (sym (line_is d asker line r read form))

some_entry : (o : Option Change) → IsSome o → IsSome (entry_if o)
some_entry None is = is
some_entry (Some c) is = refl

pub change_fits_so : (d : Desk) (asker : ℕ) (line : List ℕ) (r : Request) → read_line line ≡ Ok r → form_of r ≡ publishes
    → IsSome (change_by d.seen.public asker r) → IsSome (entry_at d (redo.Change asker line))
change_fits_so d asker line r read form is =
    subst (λ (o : Option Entry). IsSome o) (sym (line_is d asker line r read form)) (some_entry (change_by d.seen.public asker r) is)

pub unread : (d : Desk) (asker : ℕ) (line : List ℕ) (f : Fault) → f ≢ fault.OutOfMemory → (f ≡ fault.OutOfMemory) ⊎ (read_line line ≡ Err f) → entry_at d (redo.Change asker line) ≡ None
unread d asker line f some (inl e) = absurd (some e)
unread d asker line f some (inr e) = ap (λ (o : Result Request Fault). entry_if (change_of (answered d (idle_client asker) o).added)) e

pub of_another_form : (d : Desk) (asker : ℕ) (line : List ℕ) (r : Request) → read_line line ≡ Ok r → (form_of r ≡ publishes → ⊥) → entry_at d (redo.Change asker line) ≡ None
of_another_form d asker line r read other =
    let s = session_at (idle_client asker) in
    ap (λ (o : Result Request Fault). entry_if (change_of (answered d (idle_client asker) o).added)) read
    ∙ ap entry_if (none_added (answered_as d.count d.seen None s asker r (form_of r)).added (λ c k. other (publishes_alone d.count d.seen None s asker r (form_of r) c k).0))

pub not_made : (d : Desk) (asker : ℕ) (line : List ℕ) (r : Request) (f : Fault) → read_line line ≡ Ok r → form_of r ≡ publishes → f ≢ fault.OutOfMemory
    → (f ≡ fault.OutOfMemory) ⊎ (change_by d.seen.public asker r ≡ None) → entry_at d (redo.Change asker line) ≡ None
not_made d asker line r f read form some (inl e) = absurd (some e)
not_made d asker line r f read form some (inr e) = line_is d asker line r read form ∙ ap entry_if e
