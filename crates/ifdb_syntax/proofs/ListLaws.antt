-- The first member of a list and those behind it, and the last member and those before it.
use Rattle.std.proofs.Common.{◌≡◌, ◌<◌, ◌≤◌, List, [], ◌∷◌, ◌++◌, length, get_or, drop, refl, sym, ap, ◌∙◌, append_assoc, arith}
use Rattle.ifdb_syntax.specs.declared.lexeme.Lexeme.{Lexeme}
use Rattle.ifdb_syntax.specs.Words.{Lexemes}
use Rattle.ifdb_syntax.specs.canonical.Tokens.{behind, separated}

pub separated-none : {X : Type 0} (k : Lexeme) (f : X → Lexemes) (xs : List X) → length xs < 1 → separated k f xs ≡ []
separated-none k f [] h = refl
separated-none k f (x ∷ xs) h = absurd (omega arith)

pub separated-some : {X : Type 0} (k : Lexeme) (f : X → Lexemes) (xs : List X) (x : X) → 1 ≤ length xs → x ≡ get_or xs 0 x → separated k f xs ≡ f x ++ behind k f (drop 1 xs)
separated-some k f [] x h e = absurd (omega arith)
separated-some k f (y ∷ ys) x h e = ap (λ z. f z ++ behind k f ys) (sym e)

pub ruleset list_laws = (separated-none, separated-some)

behind-append : {X : Type 0} (k : Lexeme) (f : X → Lexemes) (xs : List X) (x : X) → behind k f (xs ++ x ∷ []) ≡ behind k f xs ++ k ∷ f x
behind-append k f [] x = append_nil (k ∷ f x)
  where
    append_nil : (u : Lexemes) → u ++ [] ≡ u
    append_nil [] = refl
    append_nil (y ∷ u) = ap (λ (z : Lexemes). y ∷ z) (append_nil u)
behind-append k f (y ∷ ys) x =
    ap (λ (z : Lexemes). (k ∷ f y) ++ z) (behind-append k f ys x) ∙ sym (append_assoc (k ∷ f y) (behind k f ys) (k ∷ f x))

pub separated-first : {X : Type 0} (k : Lexeme) (f : X → Lexemes) (xs : List X) (x : X) → length xs ≡ 0 → separated k f (xs ++ x ∷ []) ≡ f x
separated-first k f [] x h = append_nil (f x)
  where
    append_nil : (u : Lexemes) → u ++ [] ≡ u
    append_nil [] = refl
    append_nil (y ∷ u) = ap (λ (z : Lexemes). y ∷ z) (append_nil u)
separated-first k f (y ∷ ys) x h = absurd (omega arith)

pub separated-next : {X : Type 0} (k : Lexeme) (f : X → Lexemes) (xs : List X) (x : X) → 0 < length xs → separated k f (xs ++ x ∷ []) ≡ separated k f xs ++ k ∷ f x
separated-next k f [] x h = absurd (omega arith)
separated-next k f (y ∷ ys) x h =
    ap (λ (z : Lexemes). f y ++ z) (behind-append k f ys x) ∙ sym (append_assoc (f y) (behind k f ys) (k ∷ f x))

pub ruleset chain_laws = (separated-first, separated-next)
