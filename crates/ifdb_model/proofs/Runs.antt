-- A run of some steps and then of others.
use Rattle.std.proofs.Common.{◌≡◌, List, [], ◌∷◌, ◌++◌, ◌∙◌, refl, sym, ap}
use Rattle.std.proofs.lemmas.List.{append_assoc}
use Rattle.ifdb_model.specs.Step.{Reader}
use Rattle.ifdb_model.specs.Run.{State, Step, next, told, run, replies}

pub run-append : (read : Reader) (st : State) (first more : List Step) → run read st (first ++ more) ≡ run read (run read st first) more
run-append read st [] more = refl
run-append read st (x ∷ first) more = run-append read (next read st x) first more

pub replies-append : (read : Reader) (st : State) (first more : List Step)
    → replies read st (first ++ more) ≡ replies read st first ++ replies read (run read st first) more
replies-append read st [] more = refl
replies-append read st (x ∷ first) more =
    ap (λ all. told read st x ++ all) (replies-append read (next read st x) first more)
    ∙ sym (append_assoc (told read st x) (replies read (next read st x) first) (replies read (run read (next read st x) first) more))
