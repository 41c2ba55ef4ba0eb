-- What is so of every run that came to its end.
use Rattle.std.proofs.Common.{◌≡◌, ℕ, Bool, true, false, List, [], ◌∷◌, ◌++◌, refl, sym, ap, ◌∙◌, cond, ◌&&◌, Option}
use Rattle.std.specs.Prelude.{not}
use Rattle.std.specs.List.{list_all}
use Rattle.std.proofs.lemmas.Bool.{false≢true}
use Rattle.std.proofs.Math.Seq.{take-append_seam, drop-append_seam}
use Rattle.ifdb_model.specs.Run.{Step, Told}
use Rattle.ifdb_model.specs.Script.{steps_of}
use Rattle.ifdb_model.specs.Output.{reads_memory, texts}
use Rattle.ifdb_laws.specs.Scripts.{none_reads_memory}
use Rattle.ifdb_laws.specs.StepLaws.{MemoryIsNeverTold}
use Rattle.ifdb_framing.specs.Framing.{is_framed}
use Rattle.ifdb_closure.specs.Closures.{World, start, turn, after_turn, next_world, closure_replies}
use Rattle.ifdb_closure.specs.Lacking.{Memory, enough, lacks, lacks_at, turn_with, told_with}
use Rattle.ifdb_closure.specs.Levels.{closure_asked, closure_heard}
use Rattle.ifdb_closure.specs.Speaking.{speech}
use Rattle.ifdb_closure.specs.Standing.{IsToldAt}
use Rattle.ifdb_closure.specs.Ran.{AreTold, RanWhole, closure_picked, IsFramedRun, IsToldByBytes, KeepsLevels}
use Rattle.ifdb_closure.proofs.Bounds.{memory_serves}
use Rattle.ifdb_closure.proofs.Framed.{script_framed}
use Rattle.ifdb_closure.proofs.ToldBack.{bytes_tell}
use Rattle.ifdb_closure.proofs.ReadingBack.{lines_read_back}
use Rattle.ifdb_closure.proofs.Worlds.{closures_two_worlds}

-- of what was told the parts
none_parts : (xs ys : List Told) → none_reads_memory (xs ++ ys) ≡ true → (none_reads_memory xs ≡ true) × (none_reads_memory ys ≡ true)
none_parts [] ys h = (refl, h)
none_parts (x ∷ xs) ys h = by (not (reads_memory x.reply)) h (none_parts xs ys) where
  by : (b : Bool) → (b && none_reads_memory (xs ++ ys)) ≡ true → (none_reads_memory (xs ++ ys) ≡ true → (none_reads_memory xs ≡ true) × (none_reads_memory ys ≡ true))
      → ((b && none_reads_memory xs) ≡ true) × (none_reads_memory ys ≡ true)
  by true k rest = rest k
  by false k rest = absurd (false≢true k)

-- a step that lacked memory was told so
no_lack : (w : World) (m : Memory) (step : Step) → IsToldAt m (turn_with speech w m step).told → none_reads_memory (turn_with speech w m step).told ≡ true
    → turn_with speech w m step ≡ turn speech w step
no_lack w enough step at none = refl
no_lack w lacks step at none = absurd (false≢true (sym at ∙ none))
no_lack w (lacks_at i) step at none = absurd (false≢true (sym at ∙ none))

-- where no reply reads error 20, all steps had their memory
none_lacked : (w : World) (memory : List Memory) (steps : List Step) → AreTold w memory steps → none_reads_memory (told_with speech w memory steps) ≡ true
    → told_with speech w memory steps ≡ closure_replies speech w steps
none_lacked w memory [] exact none = refl
none_lacked w [] (step ∷ steps) exact none = memory_serves speech w (step ∷ steps)
none_lacked w (m ∷ memory) (step ∷ steps) exact none =
    let t = turn_with speech w m step in
    let parts = none_parts t.told (told_with speech (after_turn speech w t) memory steps) none in
    let same = no_lack w m step exact.0 parts.0 in
    ap (λ rest. t.told ++ rest) (none_lacked (after_turn speech w t) memory steps exact.1 parts.1)
    ∙ (λ i. (same i).told ++ closure_replies speech (after_turn speech w (same i)) steps)

-- of all replies those asked inside
picks : (level : List ℕ) (w : World) (steps : List Step) → closure_picked level w steps (closure_replies speech w steps) ≡ closure_heard speech level w steps
picks level w [] = refl
picks level w (step ∷ steps) =
    let told = (turn speech w step).told in
    let rest = closure_replies speech (next_world speech w step) steps in
    (λ i. cond (closure_asked level w step) (take-append_seam told rest i) [] ++ closure_picked level (next_world speech w step) steps (drop-append_seam told rest i))
    ∙ ap (λ more. cond (closure_asked level w step) told [] ++ more) (picks level (next_world speech w step) steps)

pub keeps_levels : (limit : ℕ) (l0 l1 w0 w1 : Option (List ℕ)) → RanWhole limit l0 l1 w0 w1 → KeepsLevels limit l0 l1 w0 w1
keeps_levels limit l0 l1 w0 w1 ran = (
  ran,
  λ none level other agree.
      let steps = steps_of ran.input in
      let all : ran.told ≡ closure_replies speech start steps =
      ran.played.all ∙ none_lacked start ran.played.memory steps ran.played.exact (ap none_reads_memory (sym ran.played.all) ∙ none) in
      ap (λ told. texts (closure_picked level start steps told)) all ∙ ap texts (picks level start steps)
      ∙ closures_two_worlds speech lines_read_back level steps (steps_of other) agree.first agree.second agree.same,
)

-- what was told is framed
ran_framed : (limit : ℕ) (l0 l1 w0 w1 : Option (List ℕ)) → (ran : RanWhole limit l0 l1 w0 w1) → list_all is_framed ran.told ≡ true
ran_framed limit l0 l1 w0 w1 ran = ap (list_all is_framed) ran.played.all ∙ script_framed ran.input ran.played.memory

pub is_framed_run : (limit : ℕ) (l0 l1 w0 w1 : Option (List ℕ)) → RanWhole limit l0 l1 w0 w1 → IsFramedRun limit l0 l1 w0 w1
is_framed_run limit l0 l1 w0 w1 ran = (ran, ran_framed limit l0 l1 w0 w1 ran)

pub told_by_bytes : MemoryIsNeverTold → (limit : ℕ) (l0 l1 w0 w1 : Option (List ℕ)) → RanWhole limit l0 l1 w0 w1 → IsToldByBytes limit l0 l1 w0 w1
told_by_bytes never limit l0 l1 w0 w1 ran =
    (ran, λ memory same. bytes_tell never ran.input memory ran.played.memory (same ∙ ap texts ran.played.all) ∙ sym ran.played.all)
