-- What stands at a gate, as the code answers it.
use Rattle.std.specs.Prelude.{◌≡◌, ◌≢◌, ◌⊎◌, ℕ, Bool, true, false, List, [], ◌∷◌}
use Rattle.ifdb_journal.specs.declared.found.Found.{Found}
use Rattle.ifdb_journal.specs.declared.found.Found.TheVariants as found
use Rattle.ifdb_journal.specs.Records.{kind_at, session_at, size_at, is_whole}
use Rattle.ifdb_journal.specs.Kinds.{kind_of}

-- this stands at the gate that a text begins with
abbrev pub IsFound : List ℕ → Found → Type 0
IsFound text found.Shut = (rest : List ℕ) × (text ≡ 0 ∷ rest)
IsFound text (found.Whole kind session size) =
    (gate : ℕ) × (rest : List ℕ) × (text ≡ gate ∷ rest) × (gate ≢ 0) × (is_whole rest ≡ true) × (kind ≡ kind_of (kind_at rest)) × (session ≡ session_at rest) × (size ≡ size_at rest)
IsFound text found.Broken = (text ≡ []) ⊎ ((gate : ℕ) × (rest : List ℕ) × (text ≡ gate ∷ rest) × (gate ≢ 0) × (is_whole rest ≡ false))

-- no record stands there
abbrev pub is_broken : Found → Bool
is_broken found.Broken = true
is_broken _ = false
