-- What a call's session does where one of its lines has no memory: as much as without that line.
use Rattle.std.proofs.Common.{◌≡◌, ℕ, Bool, true, false, List, [], ◌∷◌, ◌++◌, map, refl, cond}
use Rattle.ifdb_model.specs.Step.{Reader}
use Rattle.ifdb_model.specs.Run.{State, asks, refused, leaves, next, run}
use Rattle.ifdb_closure.specs.Closures.{asked_of}

pub cut_run : (read : Reader) (h : ℕ) (st : State) (asked : List (List ℕ)) (lacked : Bool)
    → run read st (map (asks h) asked ++ (cond lacked (refused h ∷ []) [] ++ leaves h ∷ [])) ≡ run read st (asked_of h asked)
cut_run read h st [] true = refl
cut_run read h st [] false = refl
cut_run read h st (line ∷ asked) lacked = cut_run read h (next read st (asks h line)) asked lacked
