-- Printing one text behind another.
use Rattle.std.proofs.Common.{◌≡◌, ℕ, List, [], ◌∷◌, ◌++◌, refl, sym, ap, ◌∙◌, append_assoc}
use Rattle.ifdb_syntax.specs.declared.lexeme.Lexeme.{Lexeme}
use Rattle.ifdb_syntax.specs.Words.{Lexemes}
use Rattle.ifdb_syntax.specs.Spelling.{spelling}
use Rattle.ifdb_syntax.specs.Printed.{Printed, put, after}
use Rattle.ifdb_syntax.specs.canonical.Text.{edge_after, gap, text_behind}

pub after-nil : (p : Printed) → after p [] ≡ p
unfolding after
after-nil p = refl

pub after-cons : (p : Printed) (x : Lexeme) (s : Lexemes) → after p (x ∷ s) ≡ after (put p x) s
unfolding after
after-cons p x s = refl

pub after-append : (p : Printed) (s r : Lexemes) → after p (s ++ r) ≡ after (after p s) r
unfolding after
after-append p [] r = refl
after-append p (x ∷ s) r = after-append (put p x) s r

-- what is written is the canonical text of the lexemes
pub after-text : (p : Printed) (s : Lexemes) → (after p s).text ≡ p.text ++ text_behind p.edge s
unfolding after put
after-text p [] = sym (append_nil p.text)
  where
    append_nil : (xs : List ℕ) → xs ++ [] ≡ xs
    append_nil [] = refl
    append_nil (x ∷ xs) = ap (λ (z : List ℕ). x ∷ z) (append_nil xs)
after-text p (x ∷ s) =
    after-text (put p x) s
    ∙ (append_assoc p.text (gap p.edge x ++ spelling x) (text_behind (edge_after p.edge x) s))

pub ruleset after_laws = (after-nil, after-cons, after-append)

pub ruleset text_laws = (after-text)
