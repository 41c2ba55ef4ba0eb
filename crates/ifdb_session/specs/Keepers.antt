-- What a thread waits by, before something and after.
use Rattle.std.specs.Prelude.{ℕ}
use Rattle.ifdb_session.specs.declared.settles.Settles as settler

-- it may wait still, knows all that it knew, and has as many shares
abbrev pub StaysReady : {Q S : Type 0} → settler.Ghosts S Q → S → S → Type 0
StaysReady settlers old new = settlers.ready new × settlers.goes_on old new × ((n : ℕ) → settlers.has_shares old n → settlers.has_shares new n)
