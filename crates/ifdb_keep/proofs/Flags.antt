-- A line's step as it was taken: what it tells is flagged so that the run of the flagged steps goes on with it.
use Rattle.std.proofs.Common.{◌≡◌, ℕ, ◌+◌, ◌-◌, ◌<◌, ◌≤◌, List, [], ◌∷◌, ◌++◌, length, Bool, true, false, sym, ap, subst, ◌∙◌, cond, arith, refl, inl, inr}
use Rattle.std.specs.Prelude.{◌⊎◌, Some}
use Rattle.std.proofs.lemmas.Bool.Decides.{nat_tests}
use Rattle.std.proofs.lemmas.List.{append-nil}
use Rattle.ifdb_journal.specs.declared.record.Record.{Record}
use Rattle.ifdb_wire.specs.declared.fault.Fault.TheVariants as fault
use Rattle.ifdb_wire.specs.declared.reply.Reply.{Reply}
use Rattle.ifdb_wire.specs.declared.reply.Reply.TheVariants as reply
use Rattle.ifdb_wire.specs.Text.{reply_text}
use Rattle.ifdb_model.specs.Step.{ask, refuses}
use Rattle.ifdb_model.specs.Run.{State, Step, opens, asks, refused, long, stray, leaves, session_of, outcome_of, Told, tell, told}
use Rattle.ifdb_model.specs.Output.{texts, reads_memory, refusals, refused_at}
use Rattle.ifdb_laws.specs.StepLaws.{MemoryIsNeverTold}
use Rattle.ifdb_db.specs.Reading.{read_line}
use Rattle.ifdb_db.proofs.Spares.{read_spares}
use Rattle.ifdb_db.specs.Room.{Hall, StandsFor}
use Rattle.ifdb_script.specs.Steps.{refusal}
use Rattle.ifdb_keep.specs.Numbered.{shifted, state_from, told_from, records_from}
use Rattle.ifdb_keep.specs.Taken.{IsScriptStep, AreScriptSteps, Takes, TakesLine}
use Rattle.ifdb_keep.proofs.Numbers.{sessions_stay}

-- no flags refuse nothing
refused_at-nil : (steps : List Step) → refused_at [] steps ≡ steps
refused_at-nil [] = refl
refused_at-nil (x ∷ steps) = refl

refused_at-stray : (flags : List Bool) (steps : List Step) → refused_at flags (stray ∷ steps) ≡ stray ∷ refused_at flags steps
refused_at-stray [] steps = ap (λ rest. stray ∷ rest) (sym (refused_at-nil steps))
refused_at-stray (flag ∷ flags) steps = refl

refused_at-long : (flags : List Bool) (steps : List Step) → refused_at flags (long ∷ steps) ≡ long ∷ refused_at flags steps
refused_at-long [] steps = ap (λ rest. long ∷ rest) (sym (refused_at-nil steps))
refused_at-long (flag ∷ flags) steps = refl

-- a reply to a session of a number other than 0 that doesn't read error 20 has the flag of a step that was done
flag_done : (n : ℕ) (r : Reply) → 0 < n → reads_memory r ≡ false → refusals (tell n r) ≡ false ∷ []
flag_done n r some none = grind (arith, nat_tests)

-- a reply to no session that doesn't read error 20 has none
flag_none : (base : ℕ) (r : Reply) → refusals (tell 0 r) ≡ [] → refusals (tell (0 - base) r) ≡ []
flag_none base r none = let zero_too : 0 - base ≡ 0 = omega arith in ap (λ k. refusals (tell k r)) zero_too ∙ none

-- at most one reply
abbrev pub IsAtMostOne : List Told → Type 0
IsAtMostOne [] = Unit {0}
IsAtMostOne (t ∷ []) = Unit {0}
IsAtMostOne (t ∷ u ∷ more) = ⊥

-- the room goes on from a state by these steps in the place of others
pub record Goes (base : ℕ) (new : Hall) (st : State) (first : List Step) (out : List ℕ) (rs : List Record) : Type 0 where
  pub done : List Step
  pub stands : StandsFor new (state_from read_line st base done)
  pub low : base ≤ length (state_from read_line st base done).sessions
  pub single : IsAtMostOne (told_from read_line st base done)
  pub text : out ≡ texts (told_from read_line st base done)
  pub entries : rs ≡ records_from read_line st base done
  pub on : (more : List Step) (flags : List Bool) → refused_at (refusals (told_from read_line st base done) ++ flags) (first ++ more) ≡ done ++ refused_at flags more

module _ (base : ℕ) (st : State) (low : base ≤ length st.sessions) where
  -- a step is taken as another, by its flags
  goes_as : (old new : Hall) (x y : Step) (out : List ℕ) (rs : List Record) (fs : List Bool) → StandsFor old st → Takes base old new y out rs
      → IsAtMostOne (told_from read_line st base (y ∷ [])) → refusals (told_from read_line st base (y ∷ [])) ≡ fs
      → ((more : List Step) (flags : List Bool) → refused_at (fs ++ flags) (x ∷ more) ≡ y ∷ refused_at flags more)
      → Goes base new st (x ∷ []) out rs
  goes_as old new x y out rs fs h takes one flag at =
      let t = takes st h in
      record {
        done = y ∷ [];
        stands = t.0;
        low = let stay = sessions_stay read_line st (shifted base y) in omega (arith, low, stay);
        single = one;
        text = t.1;
        entries = t.2;
        on = λ more flags. ap (λ (gs : List Bool). refused_at (gs ++ flags) (x ∷ more)) flag ∙ at more flags;
      }

  -- the machine itself tells no want of memory
  spared : MemoryIsNeverTold → (n : ℕ) (line : List ℕ) → reads_memory (outcome_of read_line st n line).reply ≡ false
  spared never n line = by (session_of st n).is_open where
    by : (b : Bool) → reads_memory (cond b (ask read_line st.log (session_of st n) line) (refuses (session_of st n) fault.NoSession)).reply ≡ false
    by true = never read_line read_spares st.log (session_of st n) line
    by false = refl

  goes_done : MemoryIsNeverTold → (old new : Hall) (x : Step) (out : List ℕ) (rs : List Record) → StandsFor old st → IsScriptStep x → Takes base old new x out rs
      → Goes base new st (x ∷ []) out rs
  goes_done never old new opens out rs h s takes =
      goes_as old new opens opens out rs (false ∷ []) h takes tt (flag_done (length st.sessions + 1 - base) reply.Opened (omega (arith, low)) refl) (λ more flags. refl)
  goes_done never old new (asks n line) out rs h s takes =
      goes_as old new (asks n line) (asks n line) out rs (false ∷ []) h takes tt
      (flag_done (base + n - base) (outcome_of read_line st (base + n) line).reply (omega (arith, s)) (spared never (base + n) line)) (λ more flags. refl)
  goes_done never old new (refused n) out rs h s takes = absurd s
  goes_done never old new long out rs h s takes = goes_as old new long long out rs [] h takes tt (flag_none base (reply.Refused fault.TooLong) refl) (λ more flags. refused_at-long flags more)
  goes_done never old new stray out rs h s takes = goes_as old new stray stray out rs [] h takes tt (flag_none base (reply.Refused (fault.Syntax 0)) refl) (λ more flags. refused_at-stray flags more)
  goes_done never old new (leaves n) out rs h s takes = absurd s

  goes_refused : MemoryIsNeverTold → (old new : Hall) (x : Step) (out : List ℕ) (rs : List Record) → StandsFor old st → IsScriptStep x → Takes base old new (refusal x) out rs
      → Goes base new st (x ∷ []) out rs
  goes_refused never old new opens out rs h s takes = goes_as old new opens (refused 0) out rs (true ∷ []) h takes tt refl (λ more flags. refl)
  goes_refused never old new (asks n line) out rs h s takes = goes_as old new (asks n line) (refused n) out rs (true ∷ []) h takes tt refl (λ more flags. refl)
  goes_refused never old new (refused n) out rs h s takes = absurd s
  goes_refused never old new long out rs h s takes = goes_done never old new long out rs h s takes
  goes_refused never old new stray out rs h s takes = goes_done never old new stray out rs h s takes
  goes_refused never old new (leaves n) out rs h s takes = absurd s

  -- the steps of a line
  pub goes_line : MemoryIsNeverTold → (old new : Hall) (first : List Step) (out : List ℕ) (rs : List Record) → StandsFor old st → AreScriptSteps first
      → TakesLine base old new first out rs → Goes base new st first out rs
  goes_line never old new [] out rs h s takes = record {
    done = [];
    stands = subst (λ room. StandsFor room st) (sym takes.0) h;
    low = low;
    single = tt;
    text = takes.1;
    entries = takes.2;
    on = λ more flags. refl;
  }
  goes_line never old new (x ∷ []) out rs h s (inl takes) = goes_done never old new x out rs h s.0 takes
  goes_line never old new (x ∷ []) out rs h s (inr takes) = goes_refused never old new x out rs h s.0 takes
  goes_line never old new (x ∷ y ∷ steps) out rs h s takes = absurd takes

  -- a line that is too long
  pub goes_long : (room : Hall) (out : List ℕ) → StandsFor room st → out ≡ reply_text (Some 0) (reply.Refused fault.TooLong)
      → Goes base room st (long ∷ []) out []
  goes_long room out h text = record {
    done = long ∷ [];
    stands = h;
    low = low;
    single = tt;
    text = text ∙ sym (append-nil (reply_text (Some 0) (reply.Refused fault.TooLong))) ∙ zero_too;
    entries = refl;
    on = λ more flags. ap (λ (gs : List Bool). refused_at (gs ++ flags) (long ∷ more)) (flag_none base (reply.Refused fault.TooLong) refl) ∙ refused_at-long flags more;
  } where
    zero_too : reply_text (Some 0) (reply.Refused fault.TooLong) ++ [] ≡ texts (told_from read_line st base (long ∷ []))
    zero_too = let none : 0 ≡ 0 - base = omega arith in ap (λ k. reply_text (Some k) (reply.Refused fault.TooLong) ++ []) none
