-- The end of the words: no option has a default, and none that is required is left out.
use Rattle.std.proofs.Common.{◌≡◌, ◌∙◌, ◌&&◌, ◌||◌, Bool, true, false, not, refl, ap, ap₂, List, [], ◌∷◌, map, if◌then◌else◌}
use Rattle.std.specs.Str.{bytes_eq}
use Rattle.std.specs.List.{fold, list_any}
use Rattle.clap.specs.Walk.{Held, Row, Text, has_row, settled, with_default, finished}
use Rattle.clap.specs.Simple.{Shape}
use Rattle.clap.specs.Takes.{is_given}
use Rattle.clap.specs.Kinds.{or_else}
use Rattle.clap.specs.Faults.{settle_fault, defaults_fault, check_fault}
use Rattle.clap.specs.declared.error.kind.ErrorKind.TheVariants.{MissingRequiredArgument}
use Rattle.ifdb_words.specs.Options.{Use, is_used}
use Rattle.ifdb_words.proofs.Rows.{row}
use Rattle.ifdb_words.proofs.Rules.{rule}
use Rattle.ifdb_words.proofs.Reader.{nothing, lacks}
use Rattle.ifdb_words.proofs.Held.{rules_of, shape, held}

module _ (ps : List (Text × Bool)) where
  module _ (s : Shape) where
    -- the end: no defaults, and nothing that is required is left out
    defaults_none : (rows : List Row) (qs : List (Text × Bool)) → defaults_fault rows (map rule qs) ≡ []
    unfolding defaults_fault
    defaults_none rows [] = refl
    defaults_none rows (q ∷ qs) = go (has_row q.0 rows) refl (defaults_none rows qs)
      where
        go : (b : Bool) → has_row q.0 rows ≡ b → defaults_fault rows (map rule qs) ≡ [] → defaults_fault rows (rule q ∷ map rule qs) ≡ []
        go true is e = rw is e
        go false is e = rw is e

    same_default : (rows : List Row) (q : Text × Bool) → with_default rows (rule q) ≡ rows
    same_default rows q = go (has_row q.0 rows)
      where
        go : (b : Bool) → (if b then rows else rows) ≡ rows
        go true = refl
        go false = refl

    pub finished_same : (rows : List Row) (qs : List (Text × Bool)) → fold with_default rows (map rule qs) ≡ rows
    finished_same rows [] = refl
    finished_same rows (q ∷ qs) = ap (λ rs. fold with_default rs (map rule qs)) (same_default rows q) ∙ finished_same rows qs

    given_used : (name : Text) (us : List Use) → is_given name (map row us) ≡ is_used name us
    given_used name [] = refl
    given_used name (u ∷ us) = go (bytes_eq u.name name) refl (given_used name us)
      where
        go : (b : Bool) → bytes_eq u.name name ≡ b → is_given name (map row us) ≡ is_used name us → is_given name (row u ∷ map row us) ≡ (bytes_eq u.name name || is_used name us)
        go true is e = rw is refl
        go false is e = rw is e

    lacks_rules : (us : List Use) (qs : List (Text × Bool)) → list_any (λ a. a.required && not (is_given a.id (map row us))) (map rule qs) ≡ lacks qs us
    lacks_rules us [] = refl
    lacks_rules us (q ∷ qs) = ap₂ (λ b d. (q.1 && not b) || d) (given_used q.0 us) (lacks_rules us qs)

    pub ends : (h : Held) (us : List Use) → settle_fault (rules_of ps) false h ≡ [] → settled (rules_of ps) h ≡ held us nothing
        → or_else (settle_fault (rules_of ps) false h) (or_else (defaults_fault (settled (rules_of ps) h).rows (rules_of ps)) (check_fault (shape ps s) (finished (rules_of ps) h) false)) ≡ (if lacks ps us then MissingRequiredArgument ∷ [] else [])
    ends h us settle is =
        let rows : (settled (rules_of ps) h).rows ≡ map row us = ap (λ (h : Held). h.rows) is in
        let fin : finished (rules_of ps) h ≡ map row us = ap (λ rs. fold with_default rs (rules_of ps)) rows ∙ finished_same (map row us) ps in
        let check : check_fault (shape ps s) (map row us) false ≡ (if lacks ps us then MissingRequiredArgument ∷ [] else []) = ap (λ b. if b then MissingRequiredArgument ∷ [] else []) (lacks_rules us ps) in
        ap (λ k. or_else k (or_else (defaults_fault (settled (rules_of ps) h).rows (rules_of ps)) (check_fault (shape ps s) (finished (rules_of ps) h) false))) settle
        ∙ ap (λ k. or_else k (check_fault (shape ps s) (finished (rules_of ps) h) false)) (ap (λ rs. defaults_fault rs (rules_of ps)) rows ∙ defaults_none (map row us) ps)
        ∙ ap (λ rs. check_fault (shape ps s) rs false) fin ∙ check
