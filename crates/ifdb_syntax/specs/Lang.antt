-- decides: the grammar
-- Languages: which lexemes spell which value. Each rule of the grammar is one, and reads as in the written grammar.
use Rattle.std.specs.Prelude.{◌≡◌, ℕ, zero, suc, List, [], ◌∷◌, ◌++◌, Option, Some, None, ◌⊎◌}
use Rattle.ifdb_syntax.specs.declared.lexeme.Lexeme.{Lexeme}
use Rattle.ifdb_syntax.specs.Words.{Lexemes, OPEN, CLOSE, COMMA, is, name_of, number_of, text_of}

abbrev pub Lang : Type 0 → Type 1
Lang A = Lexemes → A → Type 0

-- nothing is written
abbrev pub nothing : {A : Type 0} → A → Lang A
nothing x = λ u a. (u ≡ []) × (a ≡ x)

-- one lexeme, of which f tells the value
abbrev pub one : {A : Type 0} → (Lexeme → Option A) → Lang A
one f = λ u a. (t : Lexeme) × (u ≡ t ∷ []) × (f t ≡ Some a)

-- a part in front, and then what may depend on the part's value
pub record Then {A B : Type 0} (l : Lang A) (m : A → Lang B) (u : Lexemes) (b : B) : Type 0 where
  pub front : Lexemes
  pub back : Lexemes
  pub value : A
  pub parts : u ≡ front ++ back
  pub first : l front value
  pub second : m value back b

infixl 10 ◌>>=◌
abbrev pub ◌>>=◌ : {A B : Type 0} → Lang A → (A → Lang B) → Lang B
l >>= m = λ u b. Then l m u b

infixl 10 ◌>>◌
abbrev pub ◌>>◌ : {A B : Type 0} → Lang A → Lang B → Lang B
l >> m = l >>= (λ _. m)

infixl 9 ◌or◌
abbrev pub ◌or◌ : {A : Type 0} → Lang A → Lang A → Lang A
l or m = λ u a. l u a ⊎ m u a

-- some language of a family
abbrev pub at_some : {A : Type 0} → (ℕ → Lang A) → Lang A
at_some l = λ u a. (n : ℕ) × l n u a

-- at most so many rounds, each of which makes a new value of the last
abbrev pub rounds : {X : Type 0} → (X → Lang X) → ℕ → X → Lang X
rounds step zero x = nothing x
rounds step (suc n) x = (step x >>= rounds step n) or nothing x

-- any number of rounds: `{..}` of the written grammar
abbrev pub repeat : {X : Type 0} → (X → Lang X) → X → Lang X
repeat step x = at_some (λ n. rounds step n x)

-- ---- what each rule is made of

abbrev pub token : ℕ → Lang (Unit {0})
token k = one (is k)

abbrev pub name : Lang (List ℕ)
name = one name_of

abbrev pub number : Lang ℕ
number = one number_of

abbrev pub text : Lang (List ℕ)
text = one text_of

-- ( l )
abbrev pub parens : {A : Type 0} → Lang A → Lang A
parens l = do
  token OPEN
  x ← l
  token CLOSE
  nothing x

-- [ l ]
abbrev pub optional : {A : Type 0} → Lang A → Lang (Option A)
optional l = (do x ← l; nothing (Some x)) or nothing None

-- a list that may be left out, and is then empty
abbrev pub optional_list : {A : Type 0} → Lang (List A) → Lang (List A)
optional_list l = l or nothing []

-- what stands behind a comma, or another word, goes to the end of the list
abbrev pub next_member : {A : Type 0} → ℕ → Lang A → List A → Lang (List A)
next_member k item found = do
  token k
  x ← item
  nothing (found ++ x ∷ [])

-- item {k item}
abbrev pub separated : {A : Type 0} → ℕ → Lang A → Lang (List A)
separated k item = do
  x ← item
  repeat (next_member k item) (x ∷ [])

-- item {, item}
abbrev pub commas : {A : Type 0} → Lang A → Lang (List A)
commas item = separated COMMA item

-- names = name {, name}
abbrev pub names : Lang (List (List ℕ))
names = commas name
