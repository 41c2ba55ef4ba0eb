-- Tags that are made.
use Rattle.std.proofs.Common.{◌≡◌, ℕ, zero, suc, ◌<◌, true, List, [], ◌∷◌, length, get_or, arith, ltb}
use Rattle.std.proofs.lemmas.Bool.{ltb-true}
use Rattle.std.proofs.lemmas.Bool.Decides.{nat_tests}
use Rattle.ifdb_label.specs.Tags.{are_made}

-- each of some made tags is
pub made_at : (n : ℕ) (tags : List ℕ) (i d : ℕ) → are_made n tags ≡ true → i < length tags → get_or tags i d < n
made_at n [] i d h lt = absurd (omega (arith, lt))
made_at n (t ∷ tags) zero d h lt = let first : ltb t n ≡ true = grind (arith, nat_tests) in ltb-true t n first
made_at n (t ∷ tags) (suc i) d h lt = let rest : are_made n tags ≡ true = grind (arith, nat_tests) in made_at n tags i d rest (omega (arith, lt))
