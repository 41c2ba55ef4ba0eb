-- Each word and symbol has a kind of its own.
use Rattle.std.proofs.Common.{◌≡◌, ℕ, true, List, [], ◌∷◌, get_or, refl, sym, ap, ◌∙◌}
use Rattle.std.specs.Prelude.{nat_lt}
use Rattle.ifdb_syntax.specs.declared.lexeme.Lexeme.{Lexeme}
use Rattle.ifdb_syntax.specs.declared.lexeme.Lexeme.TheVariants as t
use Rattle.ifdb_syntax.specs.Words.{kind, NAME}

-- the words and symbols, each at the place of its kind
abbrev words : List Lexeme
words =
    t.And ∷ t.As ∷ t.Asc ∷ t.Begin ∷ t.By ∷ t.Bye ∷ t.Call ∷ t.Clearance ∷ t.Closure ∷ t.Commit ∷ t.Compound ∷
    t.Count ∷ t.Create ∷ t.Declassifying ∷ t.Delete ∷ t.Desc ∷ t.Foreign ∷ t.From ∷ t.Grant ∷ t.Group ∷
    t.Hello ∷ t.In ∷ t.Insert ∷ t.Int ∷ t.Integer ∷ t.Into ∷ t.Is ∷ t.Key ∷ t.Label ∷ t.Max ∷ t.Min ∷
    t.Not ∷ t.Null ∷ t.Of ∷ t.Or ∷ t.Order ∷ t.Primary ∷ t.Principal ∷ t.References ∷ t.Revoke ∷ t.Rollback ∷
    t.Select ∷ t.Set ∷ t.Show ∷ t.Sum ∷ t.Table ∷ t.Tag ∷ t.Text ∷ t.To ∷ t.Update ∷ t.Values ∷ t.View ∷
    t.Where ∷ t.With ∷ t.Open ∷ t.Close ∷ t.Comma ∷ t.Dot ∷ t.Equal ∷ t.NotEqual ∷ t.Less ∷ t.AtMost ∷
    t.Greater ∷ t.AtLeast ∷ t.Plus ∷ t.Minus ∷ t.Star ∷ t.Semicolon ∷ []

word_at : (x : Lexeme) → nat_lt (kind x) NAME ≡ true → get_or words (kind x) t.And ≡ x
word_at t.And h = refl
word_at t.As h = refl
word_at t.Asc h = refl
word_at t.Begin h = refl
word_at t.By h = refl
word_at t.Bye h = refl
word_at t.Call h = refl
word_at t.Clearance h = refl
word_at t.Closure h = refl
word_at t.Commit h = refl
word_at t.Compound h = refl
word_at t.Count h = refl
word_at t.Create h = refl
word_at t.Declassifying h = refl
word_at t.Delete h = refl
word_at t.Desc h = refl
word_at t.Foreign h = refl
word_at t.From h = refl
word_at t.Grant h = refl
word_at t.Group h = refl
word_at t.Hello h = refl
word_at t.In h = refl
word_at t.Insert h = refl
word_at t.Int h = refl
word_at t.Integer h = refl
word_at t.Into h = refl
word_at t.Is h = refl
word_at t.Key h = refl
word_at t.Label h = refl
word_at t.Max h = refl
word_at t.Min h = refl
word_at t.Not h = refl
word_at t.Null h = refl
word_at t.Of h = refl
word_at t.Or h = refl
word_at t.Order h = refl
word_at t.Primary h = refl
word_at t.Principal h = refl
word_at t.References h = refl
word_at t.Revoke h = refl
word_at t.Rollback h = refl
word_at t.Select h = refl
word_at t.Set h = refl
word_at t.Show h = refl
word_at t.Sum h = refl
word_at t.Table h = refl
word_at t.Tag h = refl
word_at t.Text h = refl
word_at t.To h = refl
word_at t.Update h = refl
word_at t.Values h = refl
word_at t.View h = refl
word_at t.Where h = refl
word_at t.With h = refl
word_at t.Open h = refl
word_at t.Close h = refl
word_at t.Comma h = refl
word_at t.Dot h = refl
word_at t.Equal h = refl
word_at t.NotEqual h = refl
word_at t.Less h = refl
word_at t.AtMost h = refl
word_at t.Greater h = refl
word_at t.AtLeast h = refl
word_at t.Plus h = refl
word_at t.Minus h = refl
word_at t.Star h = refl
word_at t.Semicolon h = refl
word_at (t.Name name) h = absurd cc
word_at (t.Number number) h = absurd cc
word_at (t.Quoted text) h = absurd cc

pub kinds_differ : (x y : Lexeme) → nat_lt (kind x) NAME ≡ true → kind x ≡ kind y → x ≡ y
kinds_differ x y h e =
    sym (word_at x h) ∙ ap (λ (k : ℕ). get_or words k t.And) e
    ∙ word_at y (ap (λ (k : ℕ). nat_lt k NAME) (sym e) ∙ h)
