-- From what a script was told to what its steps are told.
use Rattle.std.proofs.Common.{◌≡◌, ℕ, Bool, true, false, List, [], ◌∷◌, ◌++◌, length, take, drop, refl, ap, ◌∙◌, cond, arith}
use Rattle.std.specs.Prelude.{not}
use Rattle.std.specs.List.{list_all}
use Rattle.std.proofs.lemmas.Bool.Decides.{nat_tests}
use Rattle.std.proofs.Math.Seq.{take-append_seam, drop-append_seam}
use Rattle.ifdb_model.specs.Step.{Reader}
use Rattle.ifdb_model.specs.Run.{State, opening, Step, opens, asks, refused, long, stray, leaves, Told, next, told, replies}
use Rattle.ifdb_model.specs.Script.{steps_of}
use Rattle.ifdb_model.specs.Output.{refusals, refused_at, told_of, texts}
use Rattle.ifdb_model.specs.Low.{asked, heard, picked}
use Rattle.ifdb_laws.specs.Scripts.{none_reads_memory, TwoScripts}
use Rattle.ifdb_laws.proofs.two_worlds.Runs.{heard_alike}

-- flags that refuse nothing
abbrev are_down : List Bool → Bool
are_down flags = list_all not flags

flags_are_down : (all : List Told) → none_reads_memory all ≡ true → are_down (refusals all) ≡ true
flags_are_down [] h = refl
flags_are_down (t ∷ all) h = grind (arith, nat_tests, flags_are_down all)

refused_at_none : (flags : List Bool) (xs : List Step) → are_down flags ≡ true → refused_at flags xs ≡ xs
refused_at_none flags [] h = refl
refused_at_none [] (x ∷ xs) h = refl
refused_at_none (false ∷ flags) (opens ∷ xs) h = ap (λ rest. opens ∷ rest) (refused_at_none flags xs h)
refused_at_none (true ∷ flags) (opens ∷ xs) h = cc
refused_at_none (false ∷ flags) (asks n line ∷ xs) h = ap (λ rest. asks n line ∷ rest) (refused_at_none flags xs h)
refused_at_none (true ∷ flags) (asks n line ∷ xs) h = cc
refused_at_none (flag ∷ flags) (refused n ∷ xs) h = ap (λ rest. refused n ∷ rest) (refused_at_none (flag ∷ flags) xs h)
refused_at_none (flag ∷ flags) (long ∷ xs) h = ap (λ rest. long ∷ rest) (refused_at_none (flag ∷ flags) xs h)
refused_at_none (flag ∷ flags) (stray ∷ xs) h = ap (λ rest. stray ∷ rest) (refused_at_none (flag ∷ flags) xs h)
refused_at_none (flag ∷ flags) (leaves n ∷ xs) h = ap (λ rest. leaves n ∷ rest) (refused_at_none (flag ∷ flags) xs h)

-- told without want of memory, a script was told what its steps are told
told_whole : (read : Reader) (input : List ℕ) (all : List Told) → all ≡ told_of read input (refusals all) → none_reads_memory all ≡ true
    → all ≡ replies read opening (steps_of input)
told_whole read input all e h = e ∙ ap (replies read opening) (refused_at_none (refusals all) (steps_of input) (flags_are_down all h))

-- what the first of two lists gives, and what the second gives
picked_first : (b : Bool) (first more rest : List Told) → (cond b (take (length first) (first ++ more)) []) ++ rest ≡ (cond b first []) ++ rest
picked_first b first more rest = ap (λ ts. (cond b ts []) ++ rest) (take-append_seam first more)

-- what is heard is picked from what is told
picked_replies : (read : Reader) (level : List ℕ) (st : State) (xs : List Step) → picked read level st xs (replies read st xs) ≡ heard read level st xs
picked_replies read level st [] = refl
picked_replies read level st (x ∷ xs) =
    let first = told read st x in
    let more = replies read (next read st x) xs in
    picked_first (asked level st x) first more (picked read level (next read st x) xs (drop (length first) (first ++ more)))
    ∙ ap (λ ts. (cond (asked level st x) first []) ++ picked read level (next read st x) xs ts) (drop-append_seam first more)
    ∙ ap (λ ts. (cond (asked level st x) first []) ++ ts) (picked_replies read level (next read st x) xs)

pub heard_alike_scripts : TwoScripts
heard_alike_scripts read input all e h level other agree =
    ap texts (ap (picked read level opening (steps_of input)) (told_whole read input all e h) ∙ picked_replies read level opening (steps_of input)
    ∙ heard_alike read level (steps_of input) (steps_of other) agree)
