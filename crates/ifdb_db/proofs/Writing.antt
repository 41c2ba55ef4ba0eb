-- INSERT, UPDATE and DELETE outside a transaction.
use Rattle.std.proofs.Common.{◌≡◌, ℕ, Bool, true, false, List, ◌∙◌, refl, ap, cond, Option, Some, None, inl, inr}
use Rattle.std.specs.Prelude.{◌⊎◌, Result, Ok, Err, IfOk, IsTrue}
use Rattle.ifdb_row.specs.declared.row.Row.{Row}
use Rattle.ifdb_row.specs.Content.{are_rooted}
use Rattle.ifdb_row.specs.Writes.{are_fitting}
use Rattle.ifdb_txn.specs.Answers.{Gives}
use Rattle.ifdb_bound.specs.declared.request.Bound.{Bound}
use Rattle.ifdb_syntax.specs.declared.request.Request.{Request}
use Rattle.ifdb_wire.specs.declared.fault.Fault.{Fault}
use Rattle.ifdb_wire.specs.declared.fault.Fault.TheVariants as fault
use Rattle.ifdb_wire.specs.declared.reply.Reply.TheVariants as reply
use Rattle.ifdb_catalog.specs.Binding.{bound}
use Rattle.ifdb_model.specs.Log.{commits}
use Rattle.ifdb_model.specs.Session.{Session}
use Rattle.ifdb_model.specs.Writes.{Written, is_delete, writes_of}
use Rattle.ifdb_model.specs.Step.{Outcome, adds, refuses, form_of, writes, land, write_bound}
use Rattle.ifdb_snapshot.specs.Writing.{orphans}
use Rattle.ifdb_db.specs.Desk.{Desk, with_entry, settled}
use Rattle.ifdb_db.specs.Client.{standing}
use Rattle.ifdb_db.specs.Inside.{session_of}
use Rattle.ifdb_laws.proofs.Statements.{writes_good}
use Rattle.ifdb_laws.proofs.rows.Rooted.{writes_rooted}
use Rattle.ifdb_laws.proofs.rows.Runs.{good_fits, written_rooted}
use Rattle.ifdb_db.specs.Kept.{keeps_parents}
use Rattle.ifdb_db.specs.Outside.{outside, unless_orphaned, IsAdded, IsNotAdded, Writes}

module _ (x : Desk) (asker : ℕ) (l : List ℕ) (r : Request) where
  -- who asks, under any ceiling
  abbrev there : Option (List ℕ) → Session
  there c = session_of (standing asker c l) None

  pub landed : (y : Desk) (w : Written) → Writes asker l r x (Ok w) → y ≡ settled (with_entry x (Some (commits w.writes))) → IsAdded asker l r x y (reply.Count w.count)
  landed y w h k = record { added = Some (commits w.writes); outcome = h; desk = k; bounded = λ u. u }

  pub not_landed : (y : Desk) (g : Fault) → Writes asker l r x (Err g) → y ≡ x → IsNotAdded asker l r x y g
  not_landed y g h k = record { cause = h; desk = k }

  module _ (f : form_of r ≡ writes) where
    by_form : (c : Option (List ℕ)) → outside x (standing asker c l) r ≡ write_bound x.seen.public x.seen.rows asker (there c) (bound x.seen.public asker r)
    by_form c = ap (Rattle.ifdb_model.specs.Step.answered_as x.count x.seen None (there c) asker r) f

    pub unbound : (g : Fault) → (g ≡ fault.OutOfMemory) ⊎ (bound x.seen.public asker r ≡ Err g) → Writes asker l r x (Err g)
    unbound g (inl m) = inl m
    unbound g (inr e) = inr (λ c. by_form c ∙ ap (write_bound x.seen.public x.seen.rows asker (there c)) e)

    module _ (found : Bound) (e : bound x.seen.public asker r ≡ Ok found) where
      by_found : (c : Option (List ℕ)) → outside x (standing asker c l) r ≡ land (there c) x.seen.rows (is_delete found) (writes_of x.seen.public asker x.seen.rows l found)
      by_found c = by_form c ∙ ap (write_bound x.seen.public x.seen.rows asker (there c)) e

      pub refused : (g : Fault) → (g ≡ fault.OutOfMemory) ⊎ (writes_of x.seen.public asker x.seen.rows l found ≡ Err g) → Writes asker l r x (Err g)
      refused g (inl m) = inl m
      refused g (inr h) = inr (λ c. by_found c ∙ ap (land (there c) x.seen.rows (is_delete found)) h)

      module _ (w : Written) (h : writes_of x.seen.public asker x.seen.rows l found ≡ Ok w) where
        abbrev lands : Option (List ℕ) → Bool → Outcome
        lands c orphaned = cond orphaned (refuses (there c) fault.StillReferenced) (adds (there c) (commits w.writes) (reply.Count w.count))

        by_writes : (c : Option (List ℕ)) → outside x (standing asker c l) r ≡ lands c (orphans (is_delete found) x.seen.rows w.writes)
        by_writes c = by_found c ∙ ap (land (there c) x.seen.rows (is_delete found)) h

        pub clear : orphans (is_delete found) x.seen.rows w.writes ≡ false → Writes asker l r x (Ok w)
        clear o = λ c. by_writes c ∙ ap (lands c) o

        pub orphaned : orphans (is_delete found) x.seen.rows w.writes ≡ true → Writes asker l r x (Err fault.StillReferenced)
        orphaned o = inr (λ c. by_writes c ∙ ap (lands c) o)

      pub answered : (o : Result Written Fault) → Gives (writes_of x.seen.public asker x.seen.rows l found) o → Writes asker l r x (unless_orphaned (is_delete found) x.seen.rows o)
      answered (Err g) h = refused g h
      answered (Ok w) h = by (orphans (is_delete found) x.seen.rows w.writes) refl where
        by : (b : Bool) → orphans (is_delete found) x.seen.rows w.writes ≡ b → Writes asker l r x (cond b (Err fault.StillReferenced) (Ok w))
        by true e = orphaned w h e
        by false e = clear w h e

      -- after it each row's parents are there
      pub rooted_unless : (o : Result Written Fault) → Gives (writes_of x.seen.public asker x.seen.rows l found) o → are_rooted x.seen.rows x.seen.rows ≡ true
          → IfOk (unless_orphaned (is_delete found) x.seen.rows o) (λ (w : Written). IsTrue (keeps_parents x.seen.rows w.writes))
      rooted_unless (Err g) h k = tt
      rooted_unless (Ok w) h k = by (orphans (is_delete found) x.seen.rows w.writes) refl where
        fits : are_fitting w.writes ≡ true
        fits = good_fits w (writes_of x.seen.public asker x.seen.rows l found) h (writes_good x.seen.public asker x.seen.rows l (λ t. true) (λ t i. refl) found)

        by : (b : Bool) → orphans (is_delete found) x.seen.rows w.writes ≡ b
            → IfOk (cond b (Err fault.StillReferenced) (Ok w)) (λ (v : Written). IsTrue (keeps_parents x.seen.rows v.writes))
        by true e = tt
        by false e = written_rooted x.seen.rows (is_delete found) w (writes_of x.seen.public asker x.seen.rows l found) h (writes_rooted x.seen.rows k x.seen.public asker l found) fits e

-- what is left of it fits
pub fits_unless : (deleting : Bool) (rows : List Row) (P : Written → Type 0) (o : Result Written Fault) → IfOk o P → IfOk (unless_orphaned deleting rows o) P
fits_unless deleting rows P (Err g) h = tt
fits_unless deleting rows P (Ok w) h = by (orphans deleting rows w.writes) where
  by : (b : Bool) → IfOk (cond b (Err fault.StillReferenced) (Ok w)) P
  by true = tt
  by false = h
