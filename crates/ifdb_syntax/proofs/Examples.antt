-- The texts of the examples, computed from the definitions.
use Rattle.std.proofs.Common.{refl}
use Rattle.std.specs.Fmt.{digits}
use Rattle.ifdb_syntax.specs.Examples.{ExprExamples, CondExamples, RequestExamples}
use Rattle.ifdb_syntax.specs.canonical.Text.{canonical_text}
use Rattle.ifdb_syntax.proofs.ExprTokens.{expr_laws}
use Rattle.ifdb_syntax.proofs.CondTokens.{cond_laws}

pub expr_examples : ExprExamples
unfolding digits
expr_examples = record {
  sums_to_the_left = simp expr_laws refl;
  difference_on_the_right = simp expr_laws refl;
  sum_on_the_right = simp expr_laws refl;
  products_to_the_left = simp expr_laws refl;
  product_on_the_right = simp expr_laws refl;
  sum_inside_product = simp expr_laws refl;
  product_inside_sum = simp expr_laws refl;
  negative_number = simp expr_laws refl;
  least_number = simp expr_laws refl;
  column_of_a_source = simp expr_laws refl;
  text_with_a_quote = simp expr_laws refl;
}

pub cond_examples : CondExamples
unfolding digits
cond_examples = record {
  or_inside_not = simp cond_laws refl;
  and_inside_not = simp cond_laws refl;
  not_inside_not = simp cond_laws refl;
  or_inside_and = simp cond_laws refl;
  and_inside_and = simp cond_laws refl;
  not_inside_and = simp cond_laws refl;
  or_inside_or = simp cond_laws refl;
  and_inside_or = simp cond_laws refl;
}

pub request_examples : RequestExamples
unfolding digits canonical_text
request_examples = record {
  query = simp (expr_laws, cond_laws) refl;
  groups = refl;
  no_tags = refl;
  tags = refl;
}
