-- What a proof names on its `unfolding` line, beside `bound`, to have binding compute on requests that are written out.
use Rattle.std.specs.Prelude.{ℕ}
use Rattle.ifdb_bound.specs.Folds as bound_folds
use Rattle.ifdb_bound.specs.Kinds.{expr_kind, cond_fits}
use Rattle.ifdb_catalog.specs.Check.{judged}
use Rattle.ifdb_catalog.specs.Folds.{fold_expr, fold_cond}
use Rattle.ifdb_catalog.specs.Terms.{is_known, bound_expr, ref_of, is_known_cond, bound_cond}
use Rattle.ifdb_catalog.specs.Binding.{bound}

-- a name for them all
unfoldable pub binding : ℕ
unfolding bound judged is_known bound_expr ref_of is_known_cond bound_cond expr_kind cond_fits fold_expr fold_cond bound_folds.fold_expr bound_folds.fold_cond
binding = 0
