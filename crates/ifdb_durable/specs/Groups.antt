-- What each of those has who share a writer.
use Rattle.std.specs.Prelude.{ℕ}
use Rattle.ifdb_turn.specs.declared.turnstile.Turnstile.{Turnstile}
use Rattle.ifdb_turn.specs.Passes.{shares, BelongsTo}
use Rattle.ifdb_durable.specs.declared.writer.Writer.{Writer}
use Rattle.ifdb_durable.specs.declared.group.Member.{Member}

module _ {B D : Type 0} where
  -- its pass is one of this turnstile
  abbrev pub IsMember : Turnstile (Writer B D) ℕ → Member B D → Type 0
  IsMember writer member = BelongsTo writer member.pass

  -- how many of the shares it has
  abbrev pub shares_of : Member B D → ℕ
  shares_of member = shares member.pass
