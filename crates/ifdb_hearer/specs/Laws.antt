-- What stays of a service and its sessions, where its lines are heard by a key for admin.
use Rattle.std.specs.Prelude.{ℕ}
use Rattle.std.proofs.Common.{refl, ◌∙◌}
use Rattle.ifdb_keyed.specs.Keys.{key_bytes}
use Rattle.ifdb_loop.specs.Dialogues.{Dialogue}
use Rattle.ifdb_hearer.specs.declared.hearer.Hearer.{Hearer}
use Rattle.ifdb_hearer.specs.Hearers.{GoesOn, heard_dialogue}

module _ {S : Type 0} (Goes : S → S → Type 0) where
  pub goes_itself : ((s : S) → Goes s s) → (s : Hearer S) → GoesOn Goes s s
  goes_itself itself s = record { key = refl; service = itself s.service }

  pub goes_further : ((r s t : S) → Goes r s → Goes s t → Goes r t) → (r s t : Hearer S) → GoesOn Goes r s → GoesOn Goes s t → GoesOn Goes r t
  goes_further further r s t p q = record { key = q.key ∙ p.key; service = further r.service s.service t.service p.service q.service }

  -- a session that is over stays so
  pub stays_over : (Over : S → ℕ → Dialogue → Type 0) → ((s t : S) (n : ℕ) (d : Dialogue) → Goes s t → Over s n d → Over t n d) → (s t : Hearer S) (n : ℕ) (d : Dialogue)
      → GoesOn Goes s t → Over s.service n (heard_dialogue (key_bytes s.key) d) → Over t.service n (heard_dialogue (key_bytes t.key) d)
  stays_over Over stays s t n d goes over = rw goes.key (stays s.service t.service n (heard_dialogue (key_bytes s.key) d) goes.service over)
