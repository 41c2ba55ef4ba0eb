-- Lists of faults, of which a later one is told only where no earlier one is.
use Rattle.std.proofs.Common.{◌≡◌, refl, ap, arith, [], ◌∷◌, length}
use Rattle.clap.specs.Kinds.{Kinds, or_else}
use Rattle.clap.specs.declared.error.kind.ErrorKind.{ErrorKind}

pub no_kinds : {k : ErrorKind} {ks : Kinds} → (k ∷ ks) ≡ [] → ⊥
no_kinds {k} {ks} e = absurd (omega (arith, ap length e))

pub or_nil : (a b : Kinds) → or_else a b ≡ [] → a ≡ []
or_nil [] b e = refl
or_nil (k ∷ ks) b e = e

pub or_rest : (a b : Kinds) → a ≡ [] → or_else a b ≡ [] → b ≡ []
or_rest [] b e f = f
or_rest (k ∷ ks) b e f = absurd (no_kinds e)
