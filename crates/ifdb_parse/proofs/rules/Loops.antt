-- What functions of the parser need beside the definition of their rule: one more round of a loop, and what is repeated
-- after it; a rule that names itself; and the two kinds of requests.
use Rattle.std.proofs.Common.{◌≡◌, Bool, true, false, List, [], ◌∷◌, ◌++◌, Ok, refl}
use Rattle.std.specs.Prelude.{◌||◌}
use Rattle.ifdb_syntax.specs.declared.lexeme.Lexeme.TheVariants as t
use Rattle.ifdb_syntax.specs.declared.expression.Expr.{Expr}
use Rattle.ifdb_syntax.specs.declared.condition.Cond.{Cond}
use Rattle.ifdb_syntax.specs.Words.{Lexemes, kind, STAR, PLUS, MINUS, NOT, AND, OR, SELECT, INSERT, UPDATE}
use Rattle.ifdb_parse.specs.theory.Kinds.{Kinds, sees}
use Rattle.ifdb_parse.specs.theory.Parser.{Parser, and_then, branch, choose, repeat_by}
use Rattle.ifdb_parse.specs.rules.Shared.{next_member}
use Rattle.ifdb_parse.specs.rules.Expressions as p
use Rattle.ifdb_parse.specs.rules.Conditions as c
use Rattle.ifdb_parse.specs.rules.Requests as q
use Rattle.ifdb_parse.proofs.theory.KindLemmas.{mem-append}
use Rattle.ifdb_parse.proofs.theory.Rounds.{Turns, turns, shorter, repeat_is, repeat_goes}
use Rattle.ifdb_parse.proofs.rules.Lists.{next_turns}
use Rattle.ifdb_parse.proofs.rules.Expressions.{factor_reads, product_round_reads, term_reads, sum_round_reads, expr_reads}
use Rattle.ifdb_parse.proofs.rules.Conditions.{basic_reads, prim_reads, conj_reads, cond_reads, negated_is}

abbrev product : Expr → Parser Expr
product = p.product_round (p.factor p.expr)

pub products_are : (x : Expr) (s : Lexemes) → repeat_by (STAR ∷ []) product x s ≡ choose (sees (STAR ∷ []) s) (and_then (product x s) (repeat_by (STAR ∷ []) product)) (Ok (x, s))
products_are x s = repeat_is (STAR ∷ []) product (turns (product_round_reads (factor_reads expr_reads))) x s

pub products_go : (x : Expr) (s : Lexemes) (y : Expr) (r : Lexemes) → product x s ≡ Ok (y, r) → repeat_by (STAR ∷ []) product x s ≡ repeat_by (STAR ∷ []) product y r
products_go x s y r e = repeat_goes (STAR ∷ []) product (turns (product_round_reads (factor_reads expr_reads))) x s y r e

abbrev summand : Expr → Parser Expr
summand = p.sum_round (p.term (p.factor p.expr))

pub sums_are : (x : Expr) (s : Lexemes) → repeat_by (PLUS ∷ MINUS ∷ []) summand x s ≡ choose (sees (PLUS ∷ MINUS ∷ []) s) (and_then (summand x s) (repeat_by (PLUS ∷ MINUS ∷ []) summand)) (Ok (x, s))
sums_are x s = repeat_is (PLUS ∷ MINUS ∷ []) summand (turns (sum_round_reads (term_reads (factor_reads expr_reads)))) x s

pub sums_go : (x : Expr) (s : Lexemes) (y : Expr) (r : Lexemes) → summand x s ≡ Ok (y, r) → repeat_by (PLUS ∷ MINUS ∷ []) summand x s ≡ repeat_by (PLUS ∷ MINUS ∷ []) summand y r
sums_go x s y r e = repeat_goes (PLUS ∷ MINUS ∷ []) summand (turns (sum_round_reads (term_reads (factor_reads expr_reads)))) x s y r e

-- ---- conditions

abbrev prim : Parser Cond
prim = c.prim c.cond

pub prim_is : (s : Lexemes) → prim s ≡ branch (NOT ∷ []) (c.negation prim) (c.basic c.cond) s
unfolding c.prim
prim_is s = negated_is (c.basic c.cond) (basic_reads cond_reads) s

abbrev conjunct : List Cond → Parser (List Cond)
conjunct = next_member AND prim

and_turns : Turns (AND ∷ []) conjunct
and_turns = next_turns AND t.And refl prim (shorter (prim_reads cond_reads))

pub ands_are : (x : List Cond) (s : Lexemes) → repeat_by (AND ∷ []) conjunct x s ≡ choose (sees (AND ∷ []) s) (and_then (conjunct x s) (repeat_by (AND ∷ []) conjunct)) (Ok (x, s))
ands_are x s = repeat_is (AND ∷ []) conjunct and_turns x s

pub ands_go : (x : List Cond) (s : Lexemes) (y : List Cond) (r : Lexemes) → conjunct x s ≡ Ok (y, r) → repeat_by (AND ∷ []) conjunct x s ≡ repeat_by (AND ∷ []) conjunct y r
ands_go x s y r e = repeat_goes (AND ∷ []) conjunct and_turns x s y r e

abbrev disjunct : List Cond → Parser (List Cond)
disjunct = next_member OR (c.conj prim)

or_turns : Turns (OR ∷ []) disjunct
or_turns = next_turns OR t.Or refl (c.conj prim) (shorter (conj_reads (prim_reads cond_reads)))

pub ors_are : (x : List Cond) (s : Lexemes) → repeat_by (OR ∷ []) disjunct x s ≡ choose (sees (OR ∷ []) s) (and_then (disjunct x s) (repeat_by (OR ∷ []) disjunct)) (Ok (x, s))
ors_are x s = repeat_is (OR ∷ []) disjunct or_turns x s

pub ors_go : (x : List Cond) (s : Lexemes) (y : List Cond) (r : Lexemes) → disjunct x s ≡ Ok (y, r) → repeat_by (OR ∷ []) disjunct x s ≡ repeat_by (OR ∷ []) disjunct y r
ors_go x s y r e = repeat_goes (OR ∷ []) disjunct or_turns x s y r e

-- ---- requests

-- what is seen in one of two sets
seen : (ks ls : Kinds) (s : Lexemes) → sees (ks ++ ls) s ≡ (sees ks s || sees ls s)
seen ks ls [] = refl
seen ks ls (x ∷ s) = mem-append (kind x) ks ls

pub request_is : (s : Lexemes) → q.request s ≡ choose (sees q.in_session s) (q.session s) (q.statement s)
unfolding q.request q.statement
request_is s =
    rw (seen q.in_session (SELECT ∷ INSERT ∷ UPDATE ∷ []) s, seen q.in_session (SELECT ∷ INSERT ∷ []) s, seen q.in_session (SELECT ∷ []) s)
    (go (sees q.in_session s) (sees (SELECT ∷ INSERT ∷ UPDATE ∷ []) s) (sees (SELECT ∷ INSERT ∷ []) s) (sees (SELECT ∷ []) s) (q.session s) (q.query s) (q.insert s) (q.update s) (q.delete s))
  where
    go : {A : Type 0} (a b c d : Bool) (v w x y z : A) → choose (a || b) (choose (a || c) (choose (a || d) (choose a v w) x) y) z ≡ choose a v (choose b (choose c (choose d w x) y) z)
    go true b c d v w x y z = refl
    go false b c d v w x y z = refl
