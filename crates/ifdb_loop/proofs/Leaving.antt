-- What is so of a connection that is taken out, and of those that were given back.
use Rattle.std.proofs.Common.{◌≡◌, ℕ, ◌<◌, List, [], true, sym, subst, inl, inr}
use Rattle.std.specs.Prelude.{◌⊎◌, All, unwrap_or}
use Rattle.std.specs.declared.option.Option.TheVariants.{Some}
use Rattle.std.proofs.lemmas.List.Elements.{All-weaker}
use Rattle.ifdb_loop.specs.declared.port.Port as port
use Rattle.ifdb_loop.specs.declared.service.Service as service
use Rattle.ifdb_loop.specs.declared.client.Client.{Client}
use Rattle.ifdb_loop.specs.declared.over.Over.{Over}
use Rattle.ifdb_loop.specs.declared.ending.Halt.{Halt}
use Rattle.ifdb_loop.specs.declared.ending.Halt.TheVariants as halts
use Rattle.ifdb_loop.specs.declared.ending.Ending.{Ending}
use Rattle.ifdb_loop.specs.declared.ending.Ending.TheVariants as ends
use Rattle.ifdb_loop.specs.Dialogues.{Dialogue}
use Rattle.ifdb_loop.specs.Visits.{Visit}
use Rattle.ifdb_loop.specs.Closings.{EndsItself}
use Rattle.ifdb_loop.specs.Standing.{HasHalted, IsServed, WasServed}
use Rattle.ifdb_loop.proofs.Endings.{closed, halted, halted_for, own_not_halted}

module _ {S T P : Type 0} (services : service.Ghosts S T) (ports : port.Ghosts P) where
  -- its session is over now
  abbrev pub Leaves : S → S → Client P T → Type 0
  Leaves s t c = (d : Dialogue) → services.says s c.seat d → services.is_over t (services.number c.seat) d

  paid_by : (t : S) (faults : ℕ) (c : Client P T) → (c.is_lost ≡ true → 0 < ports.unwritten c.port) → (c.wires.owed ≡ []) ⊎ (c.is_lost ≡ true)
      → (c.wires.owed ≡ []) ⊎ ((0 < ports.unwritten c.port) ⊎ ((halt : Halt) × HasHalted services ports t faults halt))
  paid_by t faults c lost (inl none) = inl none
  paid_by t faults c lost (inr is_lost) = inr (inl (lost is_lost))

  -- one that had ended, and owed nothing that could be written
  pub was_served : (s t : S) (faults : ℕ) (c : Client P T) (o : Over P) (ending : Ending) → IsServed services ports s c → c.ending ≡ Some ending
      → Leaves s t c → services.limit t ≡ services.limit s → o ≡ record { port = c.port; ending = ending } → (c.wires.owed ≡ []) ⊎ (c.is_lost ≡ true)
      → WasServed services ports t faults (record { over = o; number = services.number c.seat })
  was_served s t faults c o ending x is over limit same paid =
      subst (λ p. WasServed services ports t faults (record { over = p; number = services.number c.seat })) (sym same) (record {
        dialogue = x.0.0;
        owed = c.wires.owed;
        over = over x.0.0 x.0.1;
        exchanged = rw limit (closed services.long_text c.ending ending _ _ c.room c.wires.held c.wires.owed x.0.0 is x.0.2);
        paid = paid_by t faults c x.1 paid;
        halted = λ halt so. absurd (own_not_halted ending halt (subst EndsItself is x.2) so);
      })

  -- one that was cut off, since the loop has halted
  pub was_cut : (s t : S) (faults : ℕ) (halt : Halt) (c : Client P T) (o : Over P) → IsServed services ports s c → HasHalted services ports t faults halt
      → Leaves s t c → services.limit t ≡ services.limit s → o ≡ record { port = c.port; ending = unwrap_or c.ending (ends.Halted halt) }
      → WasServed services ports t faults (record { over = o; number = services.number c.seat })
  was_cut s t faults halt c o x cause over limit same =
      subst (λ p. WasServed services ports t faults (record { over = p; number = services.number c.seat })) (sym same) (record {
        dialogue = x.0.0;
        owed = c.wires.owed;
        over = over x.0.0 x.0.1;
        exchanged = rw limit (halted services.long_text halt c.ending _ _ c.room c.wires.held c.wires.owed x.0.0 x.0.2);
        paid = inr (inr (halt, cause));
        halted = λ other so. subst (HasHalted services ports t faults) (halted_for c.ending halt other x.2 so) cause;
      })

  -- what a service knows to be over stays so, how many bytes a connection may give, that no more can be kept, and that the gate has failed
  pub record Remembers (s t : S) (before now : ℕ) : Type 0 where
    pub over : (n : ℕ) (d : Dialogue) → services.is_over s n d → services.is_over t n d
    pub limit : services.limit t ≡ services.limit s
    pub failed : services.has_failed s → services.has_failed t
    pub faults : 0 < before → 0 < now

  pub halted_later : (s t : S) (faults later : ℕ) (halt : Halt) → Remembers s t faults later → HasHalted services ports s faults halt → HasHalted services ports t later halt
  halted_later s t faults later halts.Gate m x = m.faults x
  halted_later s t faults later halts.Unkept m x = m.failed x

  paid_later : (s t : S) (faults later : ℕ) (o : Over P) (owed : List ℕ) → Remembers s t faults later
      → (owed ≡ []) ⊎ ((0 < ports.unwritten o.port) ⊎ ((halt : Halt) × HasHalted services ports s faults halt))
      → (owed ≡ []) ⊎ ((0 < ports.unwritten o.port) ⊎ ((halt : Halt) × HasHalted services ports t later halt))
  paid_later s t faults later o owed m (inl none) = inl none
  paid_later s t faults later o owed m (inr (inl lost)) = inr (inl lost)
  paid_later s t faults later o owed m (inr (inr was)) = inr (inr (was.0, halted_later s t faults later was.0 m was.1))

  served_later : (s t : S) (faults later : ℕ) → Remembers s t faults later → (v : Visit P) → WasServed services ports s faults v → WasServed services ports t later v
  served_later s t faults later m v x = record {
    dialogue = x.dialogue;
    owed = x.owed;
    over = m.over v.number x.dialogue x.over;
    exchanged = rw m.limit x.exchanged;
    paid = paid_later s t faults later v.over x.owed m x.paid;
    halted = λ halt so. halted_later s t faults later halt m (x.halted halt so);
  }

  -- each that was served, was
  pub all_served_later : (s t : S) (faults later : ℕ) → Remembers s t faults later → (visits : List (Visit P))
      → All (WasServed services ports s faults) visits → All (WasServed services ports t later) visits
  all_served_later s t faults later m visits all = All-weaker (WasServed services ports s faults) (WasServed services ports t later) (served_later s t faults later m) visits all
