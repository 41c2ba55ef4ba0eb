use Rattle.std.proofs.Common.{◌≡◌, ◌<◌, [], ◌∷◌, length, ◌+◌, ◌*◌}
use Rattle.ifdb_syntax.specs.Words.{AND, OR}
use Rattle.ifdb_parse.specs.theory.Parser.{repeat_by}
use Rattle.ifdb_parse.specs.rules.Shared.{separated, next_member}
use Rattle.ifdb_parse.specs.rules.Conditions as spec
use Rattle.ifdb_parse.proofs.conditions.+cond.Given as goal

abbrev pub decreases-cond : goal.decreases-cond
decreases-cond l = 4 * length l.lexemes.now + 3

abbrev pub decreases-conj : goal.decreases-conj
decreases-conj l = 4 * length l.lexemes.now + 2

abbrev pub decreases-prim : goal.decreases-prim
decreases-prim l = 4 * length l.lexemes.now + 1

abbrev pub decreases-negation : goal.decreases-negation
decreases-negation l = 4 * length l.lexemes.now

abbrev pub decreases-basic : goal.decreases-basic
decreases-basic l = 4 * length l.lexemes.now

abbrev pub decreases-next_and : goal.decreases-next_and
decreases-next_and l = 4 * length l.lexemes.now

abbrev pub decreases-next_or : goal.decreases-next_or
decreases-next_or l = 4 * length l.lexemes.now

abbrev pub invariant-conj-ands : goal.invariant-conj-ands
invariant-conj-ands l = record {
  goes_on : separated AND (spec.prim spec.cond) l.fn.lexemes ≡ repeat_by (AND ∷ []) (next_member AND (spec.prim spec.cond)) l.parts l.rest;
  shorter : length l.rest < length l.fn.lexemes;
}

abbrev pub decreases-conj-ands : goal.decreases-conj-ands
decreases-conj-ands l = length l.rest

abbrev pub invariant-cond-ors : goal.invariant-cond-ors
invariant-cond-ors l = record {
  goes_on : separated OR (spec.conj (spec.prim spec.cond)) l.fn.lexemes ≡ repeat_by (OR ∷ []) (next_member OR (spec.conj (spec.prim spec.cond))) l.parts l.rest;
  shorter : length l.rest < length l.fn.lexemes;
}

abbrev pub decreases-cond-ors : goal.decreases-cond-ors
decreases-cond-ors l = length l.rest
