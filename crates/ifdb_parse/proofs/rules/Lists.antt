-- Lists: a member behind a comma, or another word, comes to its turn and takes a lexeme.
use Rattle.std.proofs.Common.{◌≡◌, ℕ, List, [], ◌∷◌, ◌++◌, length, Some, Ok, refl, ap, arith}
use Rattle.ifdb_syntax.specs.declared.lexeme.Lexeme.{Lexeme}
use Rattle.ifdb_syntax.specs.declared.lexeme.Lexeme.TheVariants as t
use Rattle.ifdb_syntax.specs.Words.{Lexemes, is, COMMA}
use Rattle.ifdb_parse.specs.theory.Kinds.{sees}
use Rattle.ifdb_parse.specs.theory.Parser.{Parser, and_then, pure, choose, repeat_by}
use Rattle.ifdb_parse.specs.theory.Gives.{Takes}
use Rattle.ifdb_parse.specs.rules.Shared as p
use Rattle.ifdb_parse.proofs.theory.Combine.{bind_ok, done_is}
use Rattle.ifdb_parse.proofs.theory.Rounds.{Turns, turn, shorter, repeat_is, repeat_goes}
use Rattle.ifdb_parse.proofs.rules.Shared.{token_reads}

pub next_turns : {A : Type 0} (k : ℕ) (x : Lexeme) → is k x ≡ Some tt → (q : Parser A) → Takes q → Turns (k ∷ []) (p.next_member k q)
next_turns k x e q takes found s y r h =
    let one = bind_ok (p.token k s) (λ _ s. and_then (q s) (λ z. pure (found ++ z ∷ []))) y r h in
    let two = bind_ok (q one.1) (λ z. pure (found ++ z ∷ [])) y r one.3 in
    let end = done_is (found ++ two.0 ∷ []) y two.1 r two.3 in
    let first = shorter (token_reads k x e) s one.0 one.1 one.2 in
    let second = takes one.1 two.0 two.1 two.2 in
    let same : length two.1 ≡ length r = ap length end.1 in
    (turn (token_reads k x e) s one.0 one.1 one.2, omega arith)

pub commas_are : {A : Type 0} (q : Parser A) → Takes q → (found : List A) (s : Lexemes) → repeat_by (COMMA ∷ []) (p.next_member COMMA q) found s ≡ choose (sees (COMMA ∷ []) s) (and_then (p.next_member COMMA q found s) (repeat_by (COMMA ∷ []) (p.next_member COMMA q))) (Ok (found, s))
commas_are q takes found s = repeat_is (COMMA ∷ []) (p.next_member COMMA q) (next_turns COMMA t.Comma refl q takes) found s

pub commas_go : {A : Type 0} (q : Parser A) → Takes q → (found : List A) (s : Lexemes) (more : List A) (r : Lexemes) → p.next_member COMMA q found s ≡ Ok (more, r) → repeat_by (COMMA ∷ []) (p.next_member COMMA q) found s ≡ repeat_by (COMMA ∷ []) (p.next_member COMMA q) more r
commas_go q takes found s more r h = repeat_goes (COMMA ∷ []) (p.next_member COMMA q) (next_turns COMMA t.Comma refl q takes) found s more r h
