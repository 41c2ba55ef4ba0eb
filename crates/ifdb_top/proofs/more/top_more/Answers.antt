use Rattle.std.proofs.Common.{rules, ◌≡◌, ◌∙◌, ◌<◌, false, true≢false, sym, codes, length}
use Rattle.ifdb_words.specs.First.{is_first}
use Rattle.ifdb_top.proofs.First.{no_first}
use Rattle.ifdb_top.proofs.more.top_more.Goals as goal
use Rattle.ifdb_top.proofs.more.top_more.Goals.{in_default-via-then-words-lt1, in_default-via-in-len1-up-4+else-eq-4}

pub returns-in_default-clause-check : goal.returns-in_default-clause-check
returns-in_default-clause-check g c = elim c.in_default.branch [
  | in_default-via-then-words-lt1 w ↦ λ is.
      let short : length c.args.words.now < 1 = search rules in
      absurd (true≢false (sym is ∙ no_first (codes "check") c.args.words.now short))
  | in_default-via-in-len1-up-4+else-eq-4 w ↦ λ is.
      let other : is_first (codes "check") c.args.words.now ≡ false = search rules in
      absurd (true≢false (sym is ∙ other))
]

pub returns-in_default-clause-project : goal.returns-in_default-clause-project
returns-in_default-clause-project g c = elim c.in_default.branch [
  | in_default-via-then-words-lt1 w ↦ λ is.
      let short : length c.args.words.now < 1 = search rules in
      absurd (true≢false (sym is ∙ no_first (codes "project") c.args.words.now short))
  | in_default-via-in-len1-up-4+else-eq-4 w ↦ λ is.
      let other : is_first (codes "project") c.args.words.now ≡ false = search rules in
      absurd (true≢false (sym is ∙ other))
]

pub returns-in_default-clause-keep : goal.returns-in_default-clause-keep
returns-in_default-clause-keep g c = elim c.in_default.branch [
  | in_default-via-then-words-lt1 w ↦ λ is.
      let short : length c.args.words.now < 1 = search rules in
      absurd (true≢false (sym is ∙ no_first (codes "keep") c.args.words.now short))
  | in_default-via-in-len1-up-4+else-eq-4 w ↦ λ is.
      let other : is_first (codes "keep") c.args.words.now ≡ false = search rules in
      absurd (true≢false (sym is ∙ other))
]

pub returns-in_default-clause-closures : goal.returns-in_default-clause-closures
returns-in_default-clause-closures g c = elim c.in_default.branch [
  | in_default-via-then-words-lt1 w ↦ λ is.
      let short : length c.args.words.now < 1 = search rules in
      absurd (true≢false (sym is ∙ no_first (codes "closures") c.args.words.now short))
  | in_default-via-in-len1-up-4+else-eq-4 w ↦ λ is.
      let other : is_first (codes "closures") c.args.words.now ≡ false = search rules in
      absurd (true≢false (sym is ∙ other))
]
