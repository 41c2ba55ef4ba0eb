-- Conditions are read by their parsers.
use Rattle.std.proofs.Common.{◌≡◌, ℕ, zero, suc, ◌+◌, ◌-◌, true, false, [], ◌∷◌, length, Some, None, refl, sym, ap, ◌∙◌, arith, inr}
use Rattle.ifdb_value.specs.declared.value.Compare.{Compare}
use Rattle.ifdb_value.specs.declared.value.Compare.TheVariants as how
use Rattle.ifdb_syntax.specs.declared.lexeme.Lexeme.{Lexeme}
use Rattle.ifdb_syntax.specs.declared.lexeme.Lexeme.TheVariants as t
use Rattle.ifdb_syntax.specs.declared.condition.Cond.{Cond}
use Rattle.ifdb_syntax.specs.declared.condition.Cond.TheVariants as c
use Rattle.ifdb_syntax.specs.Words.{Lexemes, kind, is, DOT, AND, OR, NOT, WHERE, IS, NULL, OPEN, CLOSE}
use Rattle.ifdb_syntax.specs.Lang as lang
use Rattle.ifdb_syntax.specs.Lang.{◌or◌}
use Rattle.ifdb_syntax.specs.Reading.{bounded}
use Rattle.ifdb_syntax.specs.Conditions as g
use Rattle.ifdb_parse.specs.theory.Kinds.{Kinds, mem}
use Rattle.ifdb_parse.specs.theory.Parser.{Parser, branch}
use Rattle.ifdb_parse.specs.theory.Reads.{Reads}
use Rattle.ifdb_parse.specs.rules.Shared as shared
use Rattle.ifdb_parse.specs.rules.Expressions.{in_atom}
use Rattle.ifdb_parse.specs.rules.Conditions as p
use Rattle.ifdb_parse.proofs.theory.Combine.{nothing_reads, take_reads, then_reads, branch_reads, widen}
use Rattle.ifdb_parse.proofs.theory.Limit.{limit_reads, still}
use Rattle.ifdb_parse.proofs.theory.Nest.{Below, Agree, then_rises, or_rises, same, then_agrees, take_agrees, branch_agrees, agree_refl, shrinks, take_shrinks}
use Rattle.ifdb_parse.proofs.rules.Shared.{token_reads, parens_reads, separated_reads, separated_rises, separated_agrees}
use Rattle.ifdb_parse.proofs.rules.Expressions.{ref_reads, literal_reads, on_factor}

pub operand_reads : Reads (g.operand bounded) p.operand in_atom false on_factor
unfolding p.operand
operand_reads = branch_reads (then_reads ref_reads (λ c. nothing_reads _) refl) (then_reads literal_reads (λ v. nothing_reads _) refl) refl

pub compare_reads : Reads g.compare p.compare p.in_compare false []
unfolding p.compare
compare_reads = take_reads g.compare_of t.Equal how.Equal refl p.in_compare go
  where
    go : (x : Lexeme) (a : Compare) → g.compare_of x ≡ Some a → mem (kind x) p.in_compare ≡ true
    go t.Equal a h = refl
    go t.NotEqual a h = refl
    go t.Less a h = refl
    go t.AtMost a h = refl
    go t.Greater a h = refl
    go t.AtLeast a h = refl
    go _ a h = absurd cc

negates_reads : Reads g.negation p.negates (NOT ∷ []) true (NOT ∷ [])
unfolding p.negates
negates_reads = branch_reads (then_reads (token_reads NOT t.Not refl) (λ _. nothing_reads _) refl) (nothing_reads _) refl

pub comparison_reads : Reads (g.comparison bounded) p.comparison in_atom false on_factor
unfolding p.comparison p.compared_with p.null_test p.null_word
comparison_reads =
    widen in_atom on_factor
    (then_reads operand_reads (λ left. branch_reads
    (then_reads compare_reads (λ how. then_reads operand_reads (λ right. nothing_reads _) refl) refl)
    (then_reads (token_reads IS t.Is refl) (λ _. then_reads negates_reads (λ negated.
    then_reads (token_reads NULL t.Null refl) (λ _. nothing_reads _) refl) refl) refl) refl) refl) refl refl

-- ---- what begins a condition, and what goes on with it

abbrev pub in_basic : Kinds
in_basic = OPEN ∷ in_atom

abbrev pub in_cond : Kinds
in_cond = NOT ∷ in_basic

abbrev pub on_conj : Kinds
on_conj = DOT ∷ AND ∷ []

abbrev pub on_cond : Kinds
on_cond = DOT ∷ AND ∷ OR ∷ []

-- ---- NOT

negation_reads : {l : lang.Lang Cond} {q : Parser Cond} → Reads l q in_cond false on_factor → Reads (λ u b. lang.Then (lang.token NOT) (λ _ u b. lang.Then l (λ x. lang.nothing (c.Not x)) u b) u b) (p.negation q) (NOT ∷ []) false on_factor
unfolding p.negation
negation_reads rd = then_reads (token_reads NOT t.Not refl) (λ _. then_reads rd (λ x. nothing_reads _) refl) refl

negated_upto_reads : {l : lang.Lang Cond} {q : Parser Cond} → Reads l q in_basic false on_factor → (n : ℕ) → Reads (g.negated_upto l n) (p.negated_upto q n) in_cond false on_factor
unfolding p.negated_upto
negated_upto_reads rd zero = widen in_cond on_factor rd refl refl
negated_upto_reads rd (suc n) = widen in_cond on_factor (branch_reads (negation_reads (negated_upto_reads rd n)) rd refl) refl refl

negated_upto_rises : (l : lang.Lang Cond) (n : ℕ) → Below (g.negated_upto l n) (g.negated_upto l (suc n))
negated_upto_rises l zero u a h = inr h
negated_upto_rises l (suc n) u a h = or_rises (then_rises (same (lang.token NOT)) (λ _. then_rises (negated_upto_rises l n) (λ x. same _))) (same l) u a h

negation_agrees : (n : ℕ) (l : lang.Lang Cond) (q q' : Parser Cond) → Reads l q in_cond false on_factor → Agree n q q' → Agree (suc n) (p.negation q) (p.negation q')
unfolding p.negation shared.token
negation_agrees n l q q' rd h = take_agrees n (is NOT) _ _ (λ _. then_agrees n _ _ _ _ (shrinks rd) h (λ x. agree_refl n _))

negated_upto_agrees : {l : lang.Lang Cond} (q : Parser Cond) → Reads l q in_basic false on_factor → (n : ℕ) → Agree n (p.negated_upto q (suc n)) (p.negated_upto q n)
unfolding p.negated_upto
negated_upto_agrees q rd zero [] h = refl
negated_upto_agrees q rd zero (x ∷ s) h = absurd (omega arith)
negated_upto_agrees q rd (suc n) s h =
    branch_agrees (suc n) (NOT ∷ []) _ _ _ _ (negation_agrees n _ _ _ (negated_upto_reads rd (suc n)) (negated_upto_agrees q rd n)) (agree_refl (suc n) q) s h

pub negated_reads : {l : lang.Lang Cond} {q : Parser Cond} → Reads l q in_basic false on_factor → Reads (g.negated l) (p.negated q) in_cond false on_factor
unfolding p.negated
negated_reads {l} {q} rd =
    limit_reads (g.negated_upto l) (p.negated_upto q) in_cond on_factor false (negated_upto_reads rd) (negated_upto_rises l) (negated_upto_agrees q rd)

-- the rule as it is written
pub negated_is : {l : lang.Lang Cond} (q : Parser Cond) → Reads l q in_basic false on_factor → (s : Lexemes) → p.negated q s ≡ branch (NOT ∷ []) (p.negation (p.negated q)) q s
unfolding p.negated p.negated_upto
negated_is {l} q rd s =
    sym (negated_upto_agrees q rd (length s) s (omega arith)) ∙
    branch_agrees (suc (length s)) (NOT ∷ []) _ _ _ _ (negation_agrees (length s) _ _ _ (negated_upto_reads rd (length s)) (λ r le.
    let n : length s ≡ (length s - length r) + length r = omega arith in
    ap (λ z. p.negated_upto q z r) n ∙ still (g.negated_upto l) (p.negated_upto q) in_cond on_factor false (negated_upto_reads rd) (negated_upto_rises l) (negated_upto_agrees q rd) (length s - length r) (length r) r (omega arith))) (agree_refl (suc (length s)) q) s (omega arith)

negated_rises : {l l' : lang.Lang Cond} → Below l l' → Below (g.negated l) (g.negated l')
negated_rises {l} {l'} f u a h = (h.0, go h.0 u a h.1)
  where
    go : (n : ℕ) → Below (g.negated_upto l n) (g.negated_upto l' n)
    go zero u a h = f u a h
    go (suc n) u a h = or_rises (then_rises (same (lang.token NOT)) (λ _. then_rises (go n) (λ x. same _))) f u a h

negated_agrees : (n : ℕ) (l : lang.Lang Cond) (q q' : Parser Cond) → Reads l q in_basic false on_factor → Agree n q q' → Agree n (p.negated q) (p.negated q')
unfolding p.negated p.negated_upto p.negation shared.token
negated_agrees n l q q' rd h s le = go (length s) s le
  where
    go : (k : ℕ) → Agree n (p.negated_upto q k) (p.negated_upto q' k)
    go zero s le = h s le
    go (suc k) s le =
        branch_agrees n (NOT ∷ []) _ _ _ _
        (then_agrees n _ _ _ _ (take_shrinks (is NOT)) (agree_refl n _) (λ _. then_agrees n _ _ _ _ (shrinks (negated_upto_reads rd k)) (go k) (λ x. agree_refl n _)))
        h s le

-- ---- nested conditions

pub basic_reads : {l : lang.Lang Cond} {q : Parser Cond} → Reads l q in_cond false on_cond → Reads (λ u b. (lang.parens l or g.comparison bounded) u b) (p.basic q) in_basic false on_factor
unfolding p.basic
basic_reads rd = branch_reads (parens_reads rd refl refl) comparison_reads refl

pub prim_reads : {l : lang.Lang Cond} {q : Parser Cond} → Reads l q in_cond false on_cond → Reads (g.prim bounded l) (p.prim q) in_cond false on_factor
unfolding p.prim
prim_reads rd = negated_reads (basic_reads rd)

pub conj_reads : {l : lang.Lang Cond} {q : Parser Cond} → Reads l q in_cond false on_factor → Reads (g.conj l) (p.conj q) in_cond false on_conj
unfolding p.conj
conj_reads rd = widen in_cond on_conj (then_reads (separated_reads AND t.And refl rd refl refl refl) (λ parts. nothing_reads _) refl) refl refl

pub disj_reads : {l : lang.Lang Cond} {q : Parser Cond} → Reads l q in_cond false on_conj → Reads (g.disj l) (p.disj q) in_cond false on_cond
unfolding p.disj
disj_reads rd = widen in_cond on_cond (then_reads (separated_reads OR t.Or refl rd refl refl refl) (λ parts. nothing_reads _) refl) refl refl

base_reads : Reads (g.comparison bounded) p.comparison in_basic false on_factor
base_reads = widen in_basic on_factor comparison_reads refl refl

cond_upto_reads : (n : ℕ) → Reads (g.cond_upto bounded n) (p.cond_upto n) in_cond false on_cond
unfolding p.cond_upto
cond_upto_reads zero = disj_reads (conj_reads (negated_reads base_reads))
cond_upto_reads (suc n) = disj_reads (conj_reads (prim_reads (cond_upto_reads n)))

conj_rises : {l l' : lang.Lang Cond} → Below l l' → Below (g.conj l) (g.conj l')
conj_rises f = then_rises (separated_rises AND f) (λ parts. same (lang.nothing (g.and_of parts)))

disj_rises : {l l' : lang.Lang Cond} → Below l l' → Below (g.disj l) (g.disj l')
disj_rises f = then_rises (separated_rises OR f) (λ parts. same (lang.nothing (g.or_of parts)))

parens_rises : {l l' : lang.Lang Cond} → Below l l' → Below (lang.parens l) (lang.parens l')
parens_rises f =
    then_rises (same (lang.token OPEN)) (λ _. then_rises f (λ x. same (λ u a. lang.Then (lang.token CLOSE) (λ _. lang.nothing x) u a)))

cond_upto_rises : (n : ℕ) → Below (g.cond_upto bounded n) (g.cond_upto bounded (suc n))
cond_upto_rises zero = disj_rises (conj_rises (negated_rises (λ u a h. inr h)))
cond_upto_rises (suc n) = disj_rises (conj_rises (negated_rises (or_rises (parens_rises (cond_upto_rises n)) (same (g.comparison bounded)))))

conj_agrees : (n : ℕ) (l : lang.Lang Cond) (q q' : Parser Cond) → Reads l q in_cond false on_factor → Agree n q q' → Agree n (p.conj q) (p.conj q')
unfolding p.conj
conj_agrees n l q q' rd h = then_agrees n _ _ _ _ (shrinks (separated_reads AND t.And refl rd refl refl refl)) (separated_agrees n q q' AND t.And refl rd refl h) (λ x. agree_refl n _)

disj_agrees : (n : ℕ) (l : lang.Lang Cond) (q q' : Parser Cond) → Reads l q in_cond false on_conj → Agree n q q' → Agree n (p.disj q) (p.disj q')
unfolding p.disj
disj_agrees n l q q' rd h = then_agrees n _ _ _ _ (shrinks (separated_reads OR t.Or refl rd refl refl refl)) (separated_agrees n q q' OR t.Or refl rd refl h) (λ x. agree_refl n _)

-- behind the parenthesis there is less
basic_agrees : (n : ℕ) (l : lang.Lang Cond) (q q' : Parser Cond) → Reads l q in_cond false on_cond → Agree n q q' → Agree (suc n) (p.basic q) (p.basic q')
unfolding p.basic shared.token
basic_agrees n l q q' rd h =
    branch_agrees (suc n) (OPEN ∷ []) _ _ _ _ (take_agrees n (is OPEN) _ _ (λ _. then_agrees n _ _ _ _ (shrinks rd) h (λ x. agree_refl n _))) (agree_refl (suc n) p.comparison)

prim_agrees : (n : ℕ) (l : lang.Lang Cond) (q q' : Parser Cond) → Reads l q in_cond false on_cond → Agree n q q' → Agree (suc n) (p.prim q) (p.prim q')
unfolding p.prim
prim_agrees n l q q' rd h = negated_agrees (suc n) _ _ _ (basic_reads rd) (basic_agrees n _ _ _ rd h)

-- no parenthesis stands in an empty text
base_agrees : (q : Parser Cond) → Agree 0 (p.basic q) p.comparison
unfolding p.basic
base_agrees q [] h = refl
base_agrees q (x ∷ s) h = absurd (omega arith)

no_parens_agrees : Agree 0 (p.prim (p.cond_upto 0)) (p.negated p.comparison)
unfolding p.prim
no_parens_agrees = negated_agrees 0 _ _ _ (basic_reads (cond_upto_reads 0)) (base_agrees (p.cond_upto 0))

cond_upto_agrees : (n : ℕ) → Agree n (p.cond_upto (suc n)) (p.cond_upto n)
unfolding p.cond_upto
cond_upto_agrees zero =
    disj_agrees 0 _ _ _ (conj_reads (prim_reads (cond_upto_reads 0))) (conj_agrees 0 _ _ _ (prim_reads (cond_upto_reads 0)) no_parens_agrees)
cond_upto_agrees (suc n) =
    disj_agrees (suc n) _ _ _ (conj_reads (prim_reads (cond_upto_reads (suc n))))
    (conj_agrees (suc n) _ _ _ (prim_reads (cond_upto_reads (suc n))) (prim_agrees n _ _ _ (cond_upto_reads (suc n)) (cond_upto_agrees n)))

pub cond_reads : Reads (g.cond bounded) p.cond in_cond false on_cond
unfolding p.cond
cond_reads = limit_reads (g.cond_upto bounded) p.cond_upto in_cond on_cond false cond_upto_reads cond_upto_rises cond_upto_agrees

level_agrees : (n : ℕ) (l : lang.Lang Cond) (q q' : Parser Cond) → Reads l q in_cond false on_cond → Agree n q q' → Agree (suc n) (p.disj (p.conj (p.prim q))) (p.disj (p.conj (p.prim q')))
level_agrees n l q q' rd h = disj_agrees (suc n) _ _ _ (conj_reads (prim_reads rd)) (conj_agrees (suc n) _ _ _ (prim_reads rd) (prim_agrees n _ _ _ rd h))

-- the rule as it is written
pub cond_is : (s : Lexemes) → p.cond s ≡ p.disj (p.conj (p.prim p.cond)) s
unfolding p.cond p.cond_upto
cond_is s =
    sym (cond_upto_agrees (length s) s (omega arith)) ∙
    level_agrees (length s) _ _ _ (cond_upto_reads (length s)) (λ r le.
    let n : length s ≡ (length s - length r) + length r = omega arith in
    ap (λ z. p.cond_upto z r) n ∙ still (g.cond_upto bounded) p.cond_upto in_cond on_cond false cond_upto_reads cond_upto_rises cond_upto_agrees (length s - length r) (length r) r (omega arith)) s (omega arith)

abbrev pub on_condition : Kinds
on_condition = WHERE ∷ on_cond

pub condition_reads : Reads (g.condition bounded) p.condition (WHERE ∷ []) true on_condition
unfolding p.condition
condition_reads =
    widen (WHERE ∷ []) on_condition
    (branch_reads (then_reads (then_reads (token_reads WHERE t.Where refl) (λ _. cond_reads) refl) (λ x. nothing_reads _) refl) (nothing_reads None) refl) refl refl
