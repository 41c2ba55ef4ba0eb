-- What each thread has, and what it was told.
use Rattle.std.specs.Prelude.{◌≡◌, ℕ, ◌≤◌, false, List, [], ◌∷◌, ◌++◌, length}
use mathlib.Core.List.{IsPrefix}
use Rattle.ifdb_turn.specs.Passes.{shares, BelongsTo}
use Rattle.ifdb_durable.specs.declared.view.Told.{Told}
use Rattle.ifdb_turn.specs.declared.turnstile.Turnstile.{Turnstile}
use Rattle.ifdb_durable.specs.declared.writer.Writer.{Writer}
use Rattle.ifdb_durable.specs.Told.{kept_by}
use Rattle.ifdb_durable.specs.Groups.{IsMember, shares_of}
use Rattle.test_durable.specs.declared.shop.Hands.{Hands}
use Rattle.test_durable.specs.declared.tally.Tally.{Tally}
use Rattle.test_durable.specs.declared.tally.Entry.{Entry}
use Rattle.test_durable.specs.Tally.{entry_of, records_of}

-- an amount came, by the last entry
abbrev pub Came : List Entry → List Entry → ℕ → Type 0
Came old new amount = (h : List Entry) × IsPrefix old h × (new ≡ h ++ entry_of h amount false ∷ [])

-- an amount came, and its record and those of all before it are among those that a receipt has
abbrev pub Acknowledges : {D : Type 0} → List Entry → List Entry → ℕ → Told D → Type 0
Acknowledges old new amount receipt = (h : List Entry) × IsPrefix old h × IsPrefix (h ++ entry_of h amount false ∷ []) new
    × (length (records_of (h ++ entry_of h amount false ∷ [])) ≤ length (kept_by receipt))

module _ {B D : Type 0} where
  -- its passes are of these turnstiles
  pub record IsIn (tally : Turnstile (Tally B D) Entry) (writer : Turnstile (Writer B D) ℕ) (hands : Hands B D) : Type 0 where
    pub in_tally : BelongsTo tally hands.pass
    pub in_group : IsMember writer hands.member

  -- it has so many shares of both
  abbrev pub HasShares : ℕ → Hands B D → Type 0
  HasShares n hands = (shares hands.pass ≡ n) × (shares_of hands.member ≡ n)

  -- it has its shares still
  abbrev pub KeepsShares : Hands B D → Hands B D → Type 0
  KeepsShares old new = (shares new.pass ≡ shares old.pass) × (shares_of new.member ≡ shares_of old.member)
