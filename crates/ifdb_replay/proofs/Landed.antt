-- What is kept by the first words, at a reader by the grammar.
use Rattle.std.proofs.Common.{◌≡◌, ◌⊎◌, inl, inr, ℕ, Bool, true, false, ◌||◌, List, refl, ◌∙◌}
use Rattle.std.specs.Prelude.{Result, Ok, Err, codes}
use Rattle.std.specs.Str.{bytes_eq}
use Rattle.std.proofs.lemmas.Bool.Decides.{nat_tests}
use Rattle.std.proofs.Common.{arith}
use Rattle.std.proofs.lemmas.Slice.Eq.{bytes_eq-Decides}
use Rattle.ifdb_value.specs.Name.{folded}
use Rattle.ifdb_syntax.specs.declared.request.Request.{Request}
use Rattle.ifdb_syntax.specs.declared.request.Request.TheVariants as request
use Rattle.ifdb_wire.specs.declared.fault.Fault.{Fault}
use Rattle.ifdb_parse.specs.declared.fault.ParseFault.{ParseFault}
use Rattle.ifdb_parse.specs.Parsed.{parsed}
use Rattle.ifdb_replay.specs.Replay.{ChangesNothing, IsQuiet, kept, replayed}
use Rattle.ifdb_replay.specs.FirstWord.{LooksOnly, first_word, only_looks, told_by, reads, KeptReplays}
use Rattle.ifdb_replay.proofs.Keeps.{keeps, goes_on}
use Rattle.ifdb_replay.proofs.Quiet.{quiet_lines}

looks_change_nothing : (tell : ParseFault → Fault) (found : Result Request ParseFault) → LooksOnly found → ChangesNothing (told_by tell found)
looks_change_nothing tell (Err f) looks = tt
looks_change_nothing tell (Ok (request.Select select)) looks = tt
looks_change_nothing tell (Ok request.ShowLabel) looks = tt
looks_change_nothing tell (Ok (request.Hello name key)) looks = absurd looks
looks_change_nothing tell (Ok (request.CreatePrincipal name key clearance)) looks = absurd looks
looks_change_nothing tell (Ok (request.CreateTag name compound parents)) looks = absurd looks
looks_change_nothing tell (Ok (request.CreateTable name columns key foreign)) looks = absurd looks
looks_change_nothing tell (Ok (request.CreateView name select tags)) looks = absurd looks
looks_change_nothing tell (Ok (request.Grant tag to)) looks = absurd looks
looks_change_nothing tell (Ok (request.Revoke tag from)) looks = absurd looks
looks_change_nothing tell (Ok (request.SetLabel tags)) looks = absurd looks
looks_change_nothing tell (Ok request.Begin) looks = absurd looks
looks_change_nothing tell (Ok request.Commit) looks = absurd looks
looks_change_nothing tell (Ok request.Rollback) looks = absurd looks
looks_change_nothing tell (Ok request.Bye) looks = absurd looks
looks_change_nothing tell (Ok (request.Insert table columns rows tags)) looks = absurd looks
looks_change_nothing tell (Ok (request.Update table assignments cond tags)) looks = absurd looks
looks_change_nothing tell (Ok (request.Delete table cond)) looks = absurd looks

same_bytes : (a b : List ℕ) → bytes_eq a b ≡ true → a ≡ b
same_bytes a b is = grind (arith, nat_tests, bytes_eq-Decides a b, is)

either : (a b : Bool) → (a || b) ≡ true → (a ≡ true) ⊎ (b ≡ true)
either true b is = inl refl
either false b is = inr is

quiet_here : (tell : ParseFault → Fault) → IsQuiet only_looks (reads tell)
quiet_here tell line is = by_word (either (bytes_eq (folded (first_word line)) (codes "select")) (bytes_eq (folded (first_word line)) (codes "show")) is)
  where
    by_word : (bytes_eq (folded (first_word line)) (codes "select") ≡ true) ⊎ (bytes_eq (folded (first_word line)) (codes "show") ≡ true) → ChangesNothing (reads tell line)
    by_word (inl says) = looks_change_nothing tell (parsed line) (quiet_lines line (inl (same_bytes (folded (first_word line)) (codes "select") says)))
    by_word (inr says) = looks_change_nothing tell (parsed line) (quiet_lines line (inr (same_bytes (folded (first_word line)) (codes "show") says)))

pub kept_replays : KeptReplays
kept_replays tell st before steps stay =
    let read = reads tell in
    let there = replayed read st before in
    goes_on read st before (kept only_looks read there steps) ∙ keeps only_looks read (quiet_here tell) there steps stay
