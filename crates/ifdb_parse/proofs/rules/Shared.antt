-- What the parsers of the rules are made of reads what the rules are made of.
use Rattle.std.proofs.Common.{◌≡◌, ℕ, Bool, true, false, List, [], ◌∷◌, ◌++◌, Option, Some, None, refl}
use Rattle.std.specs.Prelude.{◌==◌, ◌||◌, if◌then◌else◌}
use Rattle.ifdb_syntax.specs.declared.lexeme.Lexeme.{Lexeme}
use Rattle.ifdb_syntax.specs.declared.lexeme.Lexeme.TheVariants as t
use Rattle.ifdb_syntax.specs.Words.{kind, is, name_of, number_of, text_of, OPEN, CLOSE, COMMA, NAME, NUMBER, QUOTED}
use Rattle.ifdb_syntax.specs.Lang as g
use Rattle.ifdb_parse.specs.theory.Kinds.{Kinds, mem, apart}
use Rattle.ifdb_parse.specs.theory.Parser.{Parser}
use Rattle.ifdb_parse.specs.theory.Reads.{Reads}
use Rattle.ifdb_parse.specs.rules.Shared as p
use Rattle.ifdb_parse.proofs.theory.Combine.{nothing_reads, take_reads, then_reads}
use Rattle.ifdb_parse.proofs.theory.Repeat.{repeat_reads}
use Rattle.ifdb_parse.proofs.theory.Nest.{Below, Agree, then_rises, same, repeat_rises, then_agrees, repeat_agrees, agree_refl, shrinks, take_shrinks}

abbrev tell : Bool → Option (Unit {0})
tell b = if b then Some tt else None

token_kind : (k : ℕ) (x : Lexeme) (a : Unit {0}) → is k x ≡ Some a → mem (kind x) (k ∷ []) ≡ true
token_kind k x a h = go (kind x == k) h
  where
    go : (b : Bool) → tell b ≡ Some a → (b || false) ≡ true
    go true h = refl
    go false h = absurd cc

pub token_reads : (k : ℕ) (x : Lexeme) → is k x ≡ Some tt → Reads (g.token k) (p.token k) (k ∷ []) false []
unfolding p.token
token_reads k x e = take_reads (is k) x tt e (k ∷ []) (token_kind k)

pub name_reads : Reads g.name p.name (NAME ∷ []) false []
unfolding p.name
name_reads = take_reads name_of (t.Name []) [] refl (NAME ∷ []) go
  where
    go : (x : Lexeme) (a : List ℕ) → name_of x ≡ Some a → mem (kind x) (NAME ∷ []) ≡ true
    go (t.Name n) a h = refl
    go _ a h = absurd cc

pub number_reads : Reads g.number p.number (NUMBER ∷ []) false []
unfolding p.number
number_reads = take_reads number_of (t.Number 0) 0 refl (NUMBER ∷ []) go
  where
    go : (x : Lexeme) (a : ℕ) → number_of x ≡ Some a → mem (kind x) (NUMBER ∷ []) ≡ true
    go (t.Number n) a h = refl
    go _ a h = absurd cc

pub text_reads : Reads g.text p.text (QUOTED ∷ []) false []
unfolding p.text
text_reads = take_reads text_of (t.Quoted []) [] refl (QUOTED ∷ []) go
  where
    go : (x : Lexeme) (a : List ℕ) → text_of x ≡ Some a → mem (kind x) (QUOTED ∷ []) ≡ true
    go (t.Quoted n) a h = refl
    go _ a h = absurd cc

-- ---- parentheses, and what may be left out

pub parens_reads : {A : Type 0} {l : g.Lang A} {q : Parser A} {f C : Kinds} → Reads l q f false C → apart f [] ≡ true → apart (CLOSE ∷ []) C ≡ true → Reads (g.parens l) (p.parens q) (OPEN ∷ []) false []
parens_reads rd fit fit' = then_reads (token_reads OPEN t.Open refl) (λ _. then_reads rd (λ x. then_reads (token_reads CLOSE t.Close refl) (λ _. nothing_reads x) refl) fit') fit

pub parens_list_reads : {A : Type 0} {l : g.Lang A} {q : Parser A} {f C : Kinds} → Reads l q f true C → apart (f ++ CLOSE ∷ []) [] ≡ true → apart (CLOSE ∷ []) C ≡ true → Reads (g.parens l) (p.parens q) (OPEN ∷ []) false []
parens_list_reads rd fit fit' = then_reads (token_reads OPEN t.Open refl) (λ _. then_reads rd (λ x. then_reads (token_reads CLOSE t.Close refl) (λ _. nothing_reads x) refl) fit') fit

-- ---- lists

pub next_member_reads : {A : Type 0} {l : g.Lang A} {q : Parser A} {f C : Kinds} (k : ℕ) (x : Lexeme) → is k x ≡ Some tt → Reads l q f false C → apart f [] ≡ true → (found : List A) → Reads (g.next_member k l found) (p.next_member k q found) (k ∷ []) false (C ++ [])
next_member_reads k x e rd fit found = then_reads (token_reads k x e) (λ _. then_reads rd (λ y. nothing_reads (found ++ y ∷ [])) refl) fit

pub separated_reads : {A : Type 0} {l : g.Lang A} {q : Parser A} {f C : Kinds} (k : ℕ) (x : Lexeme) → is k x ≡ Some tt → Reads l q f false C → apart f [] ≡ true → apart (k ∷ []) C ≡ true → apart (k ∷ []) (C ++ []) ≡ true → Reads (g.separated k l) (p.separated k q) f false (C ++ ((C ++ []) ++ k ∷ []))
separated_reads {l} {q} {f} {C} k x e rd fit fit' fit'' = then_reads rd (λ y. repeat_reads (g.next_member k l) (p.next_member k q) (k ∷ []) (C ++ []) (next_member_reads k x e rd fit) fit'' (y ∷ [])) fit'

pub commas_reads : {A : Type 0} {l : g.Lang A} {q : Parser A} {f C : Kinds} → Reads l q f false C → apart f [] ≡ true → apart (COMMA ∷ []) C ≡ true → apart (COMMA ∷ []) (C ++ []) ≡ true → Reads (g.commas l) (p.commas q) f false (C ++ ((C ++ []) ++ COMMA ∷ []))
commas_reads rd fit fit' fit'' = separated_reads COMMA t.Comma refl rd fit fit' fit''

pub separated_rises : {A : Type 0} {l l' : g.Lang A} (k : ℕ) → Below l l' → Below (g.separated k l) (g.separated k l')
separated_rises k f = then_rises f (λ x. repeat_rises (λ found. then_rises (same (g.token k)) (λ _. then_rises f (λ y. same (g.nothing (found ++ y ∷ []))))) (x ∷ []))

pub separated_agrees : {A : Type 0} (n : ℕ) {l : g.Lang A} (q q' : Parser A) {f C : Kinds} (k : ℕ) (x : Lexeme) → is k x ≡ Some tt → Reads l q f false C → apart f [] ≡ true → Agree n q q' → Agree n (p.separated k q) (p.separated k q')
unfolding p.token
separated_agrees n q q' k x e rd fit h =
    then_agrees n _ _ _ _ (shrinks rd) h
    (λ y. repeat_agrees n (k ∷ []) _ _ (λ found. shrinks (next_member_reads k x e rd fit found))
    (λ found. then_agrees n _ _ _ _ (take_shrinks (is k)) (agree_refl n _) (λ _. then_agrees n _ _ _ _ (shrinks rd) h (λ z. agree_refl n _))) (y ∷ []))

pub names_reads : Reads g.names p.names (NAME ∷ []) false (COMMA ∷ [])
unfolding p.names
names_reads = commas_reads name_reads refl refl refl
