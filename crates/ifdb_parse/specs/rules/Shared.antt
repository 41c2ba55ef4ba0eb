-- What the parsers of the rules are made of.
use Rattle.std.specs.Prelude.{ℕ, List, [], ◌∷◌, ◌++◌, Option, Some, None}
use Rattle.ifdb_syntax.specs.Words.{OPEN, CLOSE, COMMA, is, name_of, number_of, text_of}
use Rattle.ifdb_parse.specs.theory.Kinds.{Kinds}
use Rattle.ifdb_parse.specs.theory.Parser.{Parser, ◌>>=◌, ◌>>◌, pure, take, branch, repeat_by}

unfoldable pub token : ℕ → Parser (Unit {0})
token k = take (is k)

unfoldable pub name : Parser (List ℕ)
name = take name_of

unfoldable pub number : Parser ℕ
number = take number_of

unfoldable pub text : Parser (List ℕ)
text = take text_of

-- ( p )
abbrev pub parens : {A : Type 0} → Parser A → Parser A
parens p = do
  token OPEN
  x ← p
  token CLOSE
  pure x

-- [ p ], which begins with one of these kinds
abbrev pub optional : {A : Type 0} → Kinds → Parser A → Parser (Option A)
optional ks p = branch ks (do x ← p; pure (Some x)) (pure None)

-- a list that may be left out, and is then empty
abbrev pub optional_list : {A : Type 0} → Kinds → Parser (List A) → Parser (List A)
optional_list ks p = branch ks p (pure [])

-- what stands behind a comma, or another word, goes to the end of the list
abbrev pub next_member : {A : Type 0} → ℕ → Parser A → List A → Parser (List A)
next_member k item found = do
  token k
  x ← item
  pure (found ++ x ∷ [])

-- item {k item}
abbrev pub separated : {A : Type 0} → ℕ → Parser A → Parser (List A)
separated k item = do
  x ← item
  repeat_by (k ∷ []) (next_member k item) (x ∷ [])

-- item {, item}
abbrev pub commas : {A : Type 0} → Parser A → Parser (List A)
commas item = separated COMMA item

-- names = name {, name}
unfoldable pub names : Parser (List (List ℕ))
names = commas name
