-- The flags of what is told are those of the steps.
use Rattle.std.proofs.Common.{◌≡◌, ℕ, ◌+◌, ◌<◌, List, [], ◌∷◌, ◌++◌, length, Bool, true, false, sym, ap, ◌∙◌, cond, ltb, arith, refl}
use Rattle.std.specs.Prelude.{Option, Some, None, if◌then◌else◌, ◌==◌, take, drop, slice_index, codes, position}
use Rattle.std.specs.Str.{bytes_eq}
use Rattle.std.proofs.lemmas.Bool.Decides.{nat_tests}
use Rattle.ifdb_wire.specs.declared.fault.Fault.TheVariants as fault
use Rattle.ifdb_wire.specs.declared.reply.Reply.{Reply}
use Rattle.ifdb_wire.specs.declared.reply.Reply.TheVariants as reply
use Rattle.ifdb_wire.specs.Script as script
use Rattle.ifdb_wire.specs.Script.{without_return, session_number, asks_of, split_at, short_line}
use Rattle.ifdb_wire.proofs.Numbers.{digits_number_some}
use Rattle.ifdb_model.specs.Step.{Reader}
use Rattle.ifdb_model.specs.Run.{State, Step, opens, asks, refused, long, stray, leaves, Told, tell, outcome_of, next, told, replies}
use Rattle.ifdb_model.specs.Script.{line_step, line_steps}
use Rattle.ifdb_model.specs.Output.{texts, reads_memory, refusals, refused_at}
use Rattle.ifdb_laws.proofs.Refusals.{memory_is, memory_changes_nothing}

-- no flags refuse nothing
refused_at-nil : (steps : List Step) → refused_at [] steps ≡ steps
refused_at-nil [] = refl
refused_at-nil (x ∷ steps) = refl

refused_at-stray : (flags : List Bool) (steps : List Step) → refused_at flags (stray ∷ steps) ≡ stray ∷ refused_at flags steps
refused_at-stray [] steps = ap (λ rest. stray ∷ rest) (sym (refused_at-nil steps))
refused_at-stray (flag ∷ flags) steps = refl

refused_at-long : (flags : List Bool) (steps : List Step) → refused_at flags (long ∷ steps) ≡ long ∷ refused_at flags steps
refused_at-long [] steps = ap (λ rest. long ∷ rest) (sym (refused_at-nil steps))
refused_at-long (flag ∷ flags) steps = refl

-- a step that a script may have: a session's number isn't 0, and memory isn't refused yet
abbrev pub IsScriptStep : Step → Type 0
IsScriptStep opens = Unit {0}
IsScriptStep (asks n line) = 0 < n
IsScriptStep (refused n) = ⊥
IsScriptStep long = Unit {0}
IsScriptStep stray = Unit {0}
IsScriptStep (leaves n) = ⊥

-- at most one reply
abbrev pub IsAtMostOne : List Told → Type 0
IsAtMostOne [] = Unit {0}
IsAtMostOne (t ∷ []) = Unit {0}
IsAtMostOne (t ∷ u ∷ more) = ⊥

-- a reply to a session of a number other than 0 that doesn't read error 20 has the flag of a step that was done
flag_done : (n : ℕ) (r : Reply) → 0 < n → reads_memory r ≡ false → refusals (tell n r) ≡ false ∷ []
flag_done n r some none = grind (arith, nat_tests)

-- a reply that reads error 20 has the other flag
flag_refused : (n : ℕ) → refusals (tell n (reply.Refused fault.OutOfMemory)) ≡ true ∷ []
flag_refused n = refl

-- what a step that was done or refused tells, and how the run goes on
pub record Tells (read : Reader) (old new : State) (first : List Step) (out : List ℕ) : Type 0 where
  pub all : List Told
  pub single : IsAtMostOne all
  pub text : out ≡ texts all
  pub on : (more : List Step) (flags : List Bool) → replies read old (refused_at (refusals all ++ flags) (first ++ more)) ≡ all ++ replies read new (refused_at flags more)

module _ (read : Reader) where
  pub tells_nothing : (st : State) (out : List ℕ) → out ≡ [] → Tells read st st [] out
  tells_nothing st out none = record { all = []; single = tt; text = none; on = λ more flags. refl }

  -- a step that is run as this one, by its flags
  tells_step : (old : State) (x y : Step) (fs : List Bool) → IsAtMostOne (told read old y) → refusals (told read old y) ≡ fs
      → ((more : List Step) (flags : List Bool) → refused_at (fs ++ flags) (x ∷ more) ≡ y ∷ refused_at flags more)
      → Tells read old (next read old y) (x ∷ []) (texts (told read old y))
  tells_step old x y fs one flag at = record {
    all = told read old y;
    single = one;
    text = refl;
    on = λ more flags. ap (λ gs. replies read old (refused_at (gs ++ flags) (x ∷ more))) flag ∙ ap (replies read old) (at more flags);
  }

  -- what a request is told, where no reply reads error 20
  tells_asked : (old : State) (n : ℕ) (line : List ℕ) → 0 < n → reads_memory (outcome_of read old n line).reply ≡ false
      → Tells read old (next read old (asks n line)) (asks n line ∷ []) (texts (told read old (asks n line)))
  tells_asked old n line some none =
      tells_step old (asks n line) (asks n line) (false ∷ []) tt (flag_done n (outcome_of read old n line).reply some none) (λ more flags. refl)

  -- a request that was refused
  pub tells_unasked : (old : State) (n : ℕ) (line : List ℕ) → Tells read old old (asks n line ∷ []) (texts (told read old (refused n)))
  tells_unasked old n line = tells_step old (asks n line) (refused n) (true ∷ []) tt (flag_refused n) (λ more flags. refl)

  -- a reply of the server itself that reads error 20 is that of a refused step, which changes nothing either
  tells_memory : (old : State) (n : ℕ) (line : List ℕ) → reads_memory (outcome_of read old n line).reply ≡ true
      → Tells read old (next read old (asks n line)) (asks n line ∷ []) (texts (told read old (asks n line)))
  tells_memory old n line full =
      let same = memory_changes_nothing read old n line full in
      let text = ap (λ r. texts (tell n r)) (memory_is (outcome_of read old n line).reply full) in
      rw (same, text) (tells_unasked old n line)

  tells_ask : (old : State) (n : ℕ) (line : List ℕ) → 0 < n → (b : Bool) → reads_memory (outcome_of read old n line).reply ≡ b
      → Tells read old (next read old (asks n line)) (asks n line ∷ []) (texts (told read old (asks n line)))
  tells_ask old n line some true e = tells_memory old n line e
  tells_ask old n line some false e = tells_asked old n line some e

  -- a step of a script that was done
  pub tells_done : (old : State) (x : Step) → IsScriptStep x → Tells read old (next read old x) (x ∷ []) (texts (told read old x))
  tells_done old opens s = tells_step old opens opens (false ∷ []) tt (flag_done (length old.sessions + 1) reply.Opened (omega arith) refl) (λ more flags. refl)
  tells_done old (asks n line) s = tells_ask old n line s (reads_memory (outcome_of read old n line).reply) refl
  tells_done old (refused n) s = absurd s
  tells_done old long s = tells_step old long long [] tt refl (λ more flags. refused_at-long flags more)
  tells_done old stray s = tells_step old stray stray [] tt refl (λ more flags. refused_at-stray flags more)
  tells_done old (leaves n) s = absurd s

  -- OPEN that was refused
  pub tells_unopened : (old : State) → Tells read old old (opens ∷ []) (texts (told read old (refused 0)))
  tells_unopened old = tells_step old opens (refused 0) (true ∷ []) tt (flag_refused 0) (λ more flags. refl)

-- each step of a script is one that it may have
abbrev pub AreScriptSteps : List Step → Type 0
AreScriptSteps [] = Unit {0}
AreScriptSteps (x ∷ steps) = IsScriptStep x × AreScriptSteps steps

session_number_some : (digits : List ℕ) (n : ℕ) → session_number digits ≡ Some n → 0 < n
session_number_some [] n e = grind (arith, nat_tests)
session_number_some (c ∷ digits) n e = grind (arith, nat_tests, digits_number_some (c ∷ digits) n)

-- a line has the steps that a script may have
asks_are_steps : (session : Option ℕ) (line : List ℕ) → ((n : ℕ) → session ≡ Some n → 0 < n) → AreScriptSteps (line_step (asks_of session line))
asks_are_steps None line some = (tt, tt)
asks_are_steps (Some n) line some = (some n refl, tt)

split_are_steps : (line : List ℕ) (at : Option ℕ) → AreScriptSteps (line_step (split_at line at))
split_are_steps line None = asks_are_steps (session_number line) [] (session_number_some line)
split_are_steps line (Some at) = asks_are_steps (session_number (take at line)) (drop (at + 1) line) (session_number_some (take at line))

pick_step : (b : Bool) (x y : script.ScriptLine) → AreScriptSteps (line_step x) → AreScriptSteps (line_step y) → AreScriptSteps (line_step (cond b x y))
pick_step true x y h k = h
pick_step false x y h k = k

short_are_steps : (line : List ℕ) → AreScriptSteps (line_step (short_line line))
short_are_steps line =
    let at = position (λ b. b == 32) line in
    let plain = if bytes_eq line (codes "OPEN") then script.opens else split_at line at in
    let spoken = if slice_index line 0 == 35 then script.skips else plain in
    pick_step (length line == 0) script.skips spoken tt
    (pick_step (slice_index line 0 == 35) script.skips plain tt
    (pick_step (bytes_eq line (codes "OPEN")) script.opens (split_at line at) (tt, tt) (split_are_steps line at)))

pub are_script_steps : (line : List ℕ) → AreScriptSteps (line_steps line)
are_script_steps line = pick_step (ltb 65535 (length line)) script.overlong (short_line (without_return line)) (tt, tt) (short_are_steps (without_return line))
