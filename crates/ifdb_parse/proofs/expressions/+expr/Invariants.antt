use Rattle.std.proofs.Common.{◌≡◌, ◌<◌, [], ◌∷◌, length, ◌+◌, ◌*◌}
use Rattle.ifdb_syntax.specs.Words.{STAR, PLUS, MINUS}
use Rattle.ifdb_parse.specs.theory.Parser.{repeat_by}
use Rattle.ifdb_parse.specs.rules.Expressions as spec
use Rattle.ifdb_parse.proofs.expressions.+expr.Given as goal

abbrev pub decreases-expr : goal.decreases-expr
decreases-expr l = 3 * length l.lexemes.now + 2

abbrev pub decreases-term : goal.decreases-term
decreases-term l = 3 * length l.lexemes.now + 1

abbrev pub decreases-factor : goal.decreases-factor
decreases-factor l = 3 * length l.lexemes.now

abbrev pub decreases-product_round : goal.decreases-product_round
decreases-product_round l = 3 * length l.lexemes.now

abbrev pub decreases-sum_round : goal.decreases-sum_round
decreases-sum_round l = 3 * length l.lexemes.now

abbrev pub invariant-expr-sums : goal.invariant-expr-sums
invariant-expr-sums l = record {
  goes_on : spec.expr l.fn.lexemes ≡ repeat_by (PLUS ∷ MINUS ∷ []) (spec.sum_round (spec.term (spec.factor spec.expr))) l.left l.rest;
  shorter : length l.rest < length l.fn.lexemes;
}

abbrev pub decreases-expr-sums : goal.decreases-expr-sums
decreases-expr-sums l = length l.rest

abbrev pub invariant-term-products : goal.invariant-term-products
invariant-term-products l = record {
  goes_on : spec.term (spec.factor spec.expr) l.fn.lexemes ≡ repeat_by (STAR ∷ []) (spec.product_round (spec.factor spec.expr)) l.left l.rest;
  shorter : length l.rest < length l.fn.lexemes;
}

abbrev pub decreases-term-products : goal.decreases-term-products
decreases-term-products l = length l.rest
