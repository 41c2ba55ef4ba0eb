-- What a printer has written.
use Rattle.std.specs.Prelude.{ℕ, List, [], ◌∷◌, ◌++◌}
use Rattle.ifdb_syntax.specs.declared.lexeme.Lexeme.{Lexeme}
use Rattle.ifdb_syntax.specs.declared.edge.Edge.{Edge}
use Rattle.ifdb_syntax.specs.declared.edge.Edge.TheVariants as edge
use Rattle.ifdb_syntax.specs.Words.{Lexemes}
use Rattle.ifdb_syntax.specs.Spelling.{spelling}
use Rattle.ifdb_syntax.specs.canonical.Text.{edge_after, gap}

-- the text so far, and what its last lexeme leaves to the next one
pub record Printed : Type 0 where
  pub text : List ℕ
  pub edge : Edge

abbrev pub blank : Printed
blank = record { text = []; edge = edge.Tight }

-- with one more lexeme
unfoldable pub put : Printed → Lexeme → Printed
put p x = record { text = p.text ++ (gap p.edge x ++ spelling x); edge = edge_after p.edge x }

-- with more lexemes
unfoldable pub after : Printed → Lexemes → Printed
after p [] = p
after p (x ∷ s) = after (put p x) s
