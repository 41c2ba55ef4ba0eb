-- Columns, literals and expressions are read by their parsers. The sets are the kinds that begin a rule and those that go on with it.
use Rattle.std.proofs.Common.{◌≡◌, ℕ, zero, suc, ◌+◌, ◌-◌, false, [], ◌∷◌, length, refl, sym, ap, ◌∙◌, arith, inl}
use Rattle.ifdb_syntax.specs.declared.lexeme.Lexeme.TheVariants as t
use Rattle.ifdb_syntax.specs.declared.expression.Expr.{Expr}
use Rattle.ifdb_syntax.specs.declared.expression.Expr.TheVariants as e
use Rattle.ifdb_syntax.specs.Words.{Lexemes, is, DOT, PLUS, MINUS, STAR, OPEN, CLOSE, NAME, NUMBER, QUOTED, NULL}
use Rattle.ifdb_syntax.specs.Lang as lang
use Rattle.ifdb_syntax.specs.Reading.{bounded, joined}
use Rattle.ifdb_syntax.specs.Expressions as g
use Rattle.ifdb_parse.specs.theory.Kinds.{Kinds}
use Rattle.ifdb_parse.specs.theory.Parser.{Parser, and_then, pure, take, repeat_by}
use Rattle.ifdb_parse.specs.theory.Reads.{Reads}
use Rattle.ifdb_parse.specs.rules.Shared as shared
use Rattle.ifdb_parse.specs.rules.Expressions as p
use Rattle.ifdb_parse.proofs.theory.Combine.{nothing_reads, then_reads, branch_reads, widen}
use Rattle.ifdb_parse.proofs.theory.Repeat.{repeat_reads}
use Rattle.ifdb_parse.proofs.theory.Limit.{limit_reads, still}
use Rattle.ifdb_parse.proofs.theory.Nest.{Below, Agree, then_rises, or_rises, same, repeat_rises, then_agrees, take_agrees, branch_agrees, repeat_agrees, agree_refl, shrinks, take_shrinks}
use Rattle.ifdb_parse.proofs.rules.Shared.{token_reads, name_reads, number_reads, text_reads, parens_reads}

pub ref_reads : Reads g.ref p.column_ref (NAME ∷ []) false (DOT ∷ [])
unfolding p.column_ref
ref_reads =
    then_reads name_reads (λ n.
    branch_reads (then_reads (token_reads DOT t.Dot refl) (λ _. then_reads name_reads (λ c. nothing_reads _) refl) refl) (nothing_reads _) refl) refl

pub literal_reads : Reads (g.literal bounded) p.literal (NUMBER ∷ MINUS ∷ QUOTED ∷ NULL ∷ []) false []
unfolding p.literal p.negative
literal_reads =
    branch_reads
    (branch_reads
    (branch_reads (then_reads number_reads (λ n. nothing_reads _) refl)
    (then_reads (token_reads MINUS t.Minus refl) (λ _. then_reads number_reads (λ n. nothing_reads _) refl) refl) refl)
    (then_reads text_reads (λ w. nothing_reads _) refl) refl)
    (then_reads (token_reads NULL t.Null refl) (λ _. nothing_reads _) refl) refl

pub atom_reads : Reads (g.atom bounded) p.atom p.in_atom false (DOT ∷ [])
unfolding p.atom
atom_reads = branch_reads (then_reads ref_reads (λ c. nothing_reads _) refl) (then_reads literal_reads (λ v. nothing_reads _) refl) refl

-- ---- what goes on with a factor, a term and an expression

abbrev pub on_factor : Kinds
on_factor = DOT ∷ []

abbrev pub on_term : Kinds
on_term = DOT ∷ STAR ∷ []

abbrev pub on_expr : Kinds
on_expr = DOT ∷ STAR ∷ PLUS ∷ MINUS ∷ []

pub factor_reads : {l : lang.Lang Expr} {q : Parser Expr} → Reads l q p.in_expr false on_expr → Reads (g.factor bounded l) (p.factor q) p.in_expr false on_factor
unfolding p.factor
factor_reads rd = branch_reads atom_reads (parens_reads rd refl refl) refl

pub product_round_reads : {l : lang.Lang Expr} {q : Parser Expr} → Reads l q p.in_expr false on_factor → (left : Expr) → Reads (g.product_round bounded l left) (p.product_round q left) (STAR ∷ []) false on_factor
unfolding p.product_round
product_round_reads rd left = then_reads (token_reads STAR t.Star refl) (λ _. then_reads rd (λ right. nothing_reads _) refl) refl

pub term_reads : {l : lang.Lang Expr} {q : Parser Expr} → Reads l q p.in_expr false on_factor → Reads (g.term bounded l) (p.term q) p.in_expr false on_term
unfolding p.term
term_reads {l} {q} rd =
    widen p.in_expr on_term
    (then_reads rd (repeat_reads (g.product_round bounded l) (p.product_round q) (STAR ∷ []) on_factor (product_round_reads rd) refl) refl) refl refl

pub sum_round_reads : {l : lang.Lang Expr} {q : Parser Expr} → Reads l q p.in_expr false on_term → (left : Expr) → Reads (g.sum_round bounded l left) (p.sum_round q left) (PLUS ∷ MINUS ∷ []) false on_term
unfolding p.sum_round
sum_round_reads rd left =
    widen (PLUS ∷ MINUS ∷ []) on_term
    (branch_reads (then_reads (token_reads PLUS t.Plus refl) (λ _. then_reads rd (λ right. nothing_reads _) refl) refl)
    (then_reads (token_reads MINUS t.Minus refl) (λ _. then_reads rd (λ right. nothing_reads _) refl) refl) refl) refl refl

pub sum_reads : {l : lang.Lang Expr} {q : Parser Expr} → Reads l q p.in_expr false on_term → Reads (g.sum bounded l) (p.sum q) p.in_expr false on_expr
unfolding p.sum
sum_reads {l} {q} rd =
    widen p.in_expr on_expr
    (then_reads rd (repeat_reads (g.sum_round bounded l) (p.sum_round q) (PLUS ∷ MINUS ∷ []) on_term (sum_round_reads rd) refl) refl) refl refl

-- ---- nested expressions

base_reads : Reads (g.atom bounded) p.atom p.in_expr false on_factor
base_reads = widen p.in_expr on_factor atom_reads refl refl

expr_upto_reads : (n : ℕ) → Reads (g.expr_upto bounded n) (p.expr_upto n) p.in_expr false on_expr
unfolding p.expr_upto
expr_upto_reads zero = sum_reads (term_reads base_reads)
expr_upto_reads (suc n) = sum_reads (term_reads (factor_reads (expr_upto_reads n)))

sum_rises : {l l' : lang.Lang Expr} → Below l l' → Below (g.sum bounded l) (g.sum bounded l')
sum_rises f =
    then_rises f (repeat_rises (λ left. or_rises (then_rises (same (lang.token PLUS)) (λ _. then_rises f (λ right. same _)))
    (then_rises (same (lang.token MINUS)) (λ _. then_rises f (λ right. same _)))))

term_rises : {l l' : lang.Lang Expr} → Below l l' → Below (g.term bounded l) (g.term bounded l')
term_rises f =
    then_rises f (repeat_rises (λ left. then_rises (same (lang.token STAR)) (λ _. then_rises f (λ right. same _))))

factor_rises : {l l' : lang.Lang Expr} → Below l l' → Below (g.factor bounded l) (g.factor bounded l')
factor_rises f =
    or_rises (same (g.atom bounded))
    (then_rises (same (lang.token OPEN)) (λ _. then_rises f (λ x. same (λ u a. lang.Then (lang.token CLOSE) (λ _. lang.nothing x) u a))))

expr_upto_rises : (n : ℕ) → Below (g.expr_upto bounded n) (g.expr_upto bounded (suc n))
expr_upto_rises zero = sum_rises (term_rises (λ u a h. inl h))
expr_upto_rises (suc n) = sum_rises (term_rises (factor_rises (expr_upto_rises n)))

sum_agrees : (n : ℕ) (l : lang.Lang Expr) (q q' : Parser Expr) → Reads l q p.in_expr false on_term → Agree n q q' → Agree n (p.sum q) (p.sum q')
unfolding p.sum p.sum_round shared.token
sum_agrees n l q q' rd h =
    then_agrees n q q' (repeat_by (PLUS ∷ MINUS ∷ []) (p.sum_round q)) (repeat_by (PLUS ∷ MINUS ∷ []) (p.sum_round q')) (shrinks rd) h
    (repeat_agrees n (PLUS ∷ MINUS ∷ []) (p.sum_round q) (p.sum_round q') (λ x. shrinks (sum_round_reads rd x)) round)
  where
    operand : (k : ℕ) (mk : Expr → Expr) → Agree n (λ s. and_then (take (is k) s) (λ _ s. and_then (q s) (λ b. pure (mk b)))) (λ s. and_then (take (is k) s) (λ _ s. and_then (q' s) (λ b. pure (mk b))))
    operand k mk =
        then_agrees n (take (is k)) (take (is k)) (λ _ s. and_then (q s) (λ b. pure (mk b))) (λ _ s. and_then (q' s) (λ b. pure (mk b))) (take_shrinks (is k)) (agree_refl n (take (is k)))
        (λ _. then_agrees n q q' (λ b. pure (mk b)) (λ b. pure (mk b)) (shrinks rd) h (λ b. agree_refl n (pure (mk b))))

    round : (x : Expr) → Agree n (p.sum_round q x) (p.sum_round q' x)
    round x = branch_agrees n (PLUS ∷ []) _ _ _ _ (operand PLUS (joined e.Add x)) (operand MINUS (joined e.Sub x))

term_agrees : (n : ℕ) (l : lang.Lang Expr) (q q' : Parser Expr) → Reads l q p.in_expr false on_factor → Agree n q q' → Agree n (p.term q) (p.term q')
unfolding p.term p.product_round shared.token
term_agrees n l q q' rd h =
    then_agrees n _ _ _ _ (shrinks rd) h
    (repeat_agrees n (STAR ∷ []) _ _ (λ x. shrinks (product_round_reads rd x))
    (λ x. then_agrees n _ _ _ _ (take_shrinks (is STAR)) (agree_refl n _) (λ _. then_agrees n _ _ _ _ (shrinks rd) h (λ b. agree_refl n _))))

-- behind the parenthesis there is less
factor_agrees : (n : ℕ) (l : lang.Lang Expr) (q q' : Parser Expr) → Reads l q p.in_expr false on_expr → Agree n q q' → Agree (suc n) (p.factor q) (p.factor q')
unfolding p.factor shared.token
factor_agrees n l q q' rd h =
    branch_agrees (suc n) p.in_atom _ _ _ _ (agree_refl (suc n) p.atom) (take_agrees n (is OPEN) _ _ (λ _. then_agrees n _ _ _ _ (shrinks rd) h (λ x. agree_refl n _)))

-- no parenthesis stands in an empty text
atom_agrees : (q : Parser Expr) → Agree 0 (p.factor q) p.atom
unfolding p.factor p.atom p.literal shared.text shared.token
atom_agrees q [] h = refl
atom_agrees q (x ∷ s) h = absurd (omega arith)

expr_upto_agrees : (n : ℕ) → Agree n (p.expr_upto (suc n)) (p.expr_upto n)
unfolding p.expr_upto
expr_upto_agrees zero =
    sum_agrees 0 _ _ _ (term_reads (factor_reads (expr_upto_reads 0))) (term_agrees 0 _ _ _ (factor_reads (expr_upto_reads 0)) (atom_agrees (p.expr_upto 0)))
expr_upto_agrees (suc n) =
    sum_agrees (suc n) _ _ _ (term_reads (factor_reads (expr_upto_reads (suc n))))
    (term_agrees (suc n) _ _ _ (factor_reads (expr_upto_reads (suc n))) (factor_agrees n _ _ _ (expr_upto_reads (suc n)) (expr_upto_agrees n)))

pub expr_reads : Reads (g.expr bounded) p.expr p.in_expr false on_expr
unfolding p.expr
expr_reads = limit_reads (g.expr_upto bounded) p.expr_upto p.in_expr on_expr false expr_upto_reads expr_upto_rises expr_upto_agrees

level_agrees : (n : ℕ) (l : lang.Lang Expr) (q q' : Parser Expr) → Reads l q p.in_expr false on_expr → Agree n q q' → Agree (suc n) (p.sum (p.term (p.factor q))) (p.sum (p.term (p.factor q')))
level_agrees n l q q' rd h = sum_agrees (suc n) _ _ _ (term_reads (factor_reads rd)) (term_agrees (suc n) _ _ _ (factor_reads rd) (factor_agrees n _ _ _ rd h))

-- the rule as it is written
pub expr_is : (s : Lexemes) → p.expr s ≡ p.sum (p.term (p.factor p.expr)) s
unfolding p.expr p.expr_upto
expr_is s =
    sym (expr_upto_agrees (length s) s (omega arith)) ∙
    level_agrees (length s) _ _ _ (expr_upto_reads (length s)) (λ r le.
    let n : length s ≡ (length s - length r) + length r = omega arith in
    ap (λ z. p.expr_upto z r) n ∙ still (g.expr_upto bounded) p.expr_upto p.in_expr on_expr false expr_upto_reads expr_upto_rises expr_upto_agrees (length s - length r) (length r) r (omega arith)) s (omega arith)
