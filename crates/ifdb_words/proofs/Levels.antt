-- Clap takes exactly the words that can be read, with all that has to be used.
use Rattle.std.proofs.Common.{◌≡◌, ◌∙◌, Bool, true, false, refl, sym, ap, List, [], ◌∷◌, map, Option, Some, None, if◌then◌else◌}
use Rattle.std.specs.List.{fold, list_any}
use Rattle.std.specs.Prelude.{option_and_then}
use Rattle.clap.specs.Walk.{Held, Text, Walk, settled, walk, nothing_held, with_default, finished, rows_after}
use Rattle.clap.specs.Simple.{Shape}
use Rattle.clap.specs.Kinds.{or_else}
use Rattle.clap.specs.Faults.{settle_fault, defaults_fault, check_fault, level_fault}
use Rattle.clap.specs.declared.error.kind.ErrorKind.TheVariants.{MissingRequiredArgument}
use Rattle.ifdb_words.specs.Options.{Use}
use Rattle.ifdb_words.proofs.Faults.{no_kinds, or_nil}
use Rattle.ifdb_words.proofs.Basics.{some_is, none_some}
use Rattle.ifdb_words.proofs.Rows.{row}
use Rattle.ifdb_words.proofs.Reader.{Read, ended, read_all, start, lacks, complete, asked}
use Rattle.ifdb_words.proofs.Held.{rules_of, shape, held, Named, settles, settles_bad}
use Rattle.ifdb_words.proofs.Walks.{walk_good, walk_bad}
use Rattle.ifdb_words.proofs.Ends.{finished_same, ends}
use Rattle.ifdb_words.specs.Clap.{is_stray}

module _ (ps : List (Text × Bool)) where
  module _ (s : Shape) where
    level_as : (r : Read) (words : List Text) → read_all (map (λ p. p.0) ps) start words ≡ Some r
        → (level_fault (shape ps s) [] nothing_held words false [] ≡ or_else (settle_fault (rules_of ps) false (held r.uses r.last)) (or_else (defaults_fault (settled (rules_of ps) (held r.uses r.last)).rows (rules_of ps)) (check_fault (shape ps s) (finished (rules_of ps) (held r.uses r.last)) false)))
        × (rows_after (rules_of ps) [] words ≡ finished (rules_of ps) (held r.uses r.last)) × Named ps r.last
    level_as r words e =
        let w = walk_good ps s start r words tt e in
        let at : (walk (rules_of ps) [] nothing_held words).held ≡ held r.uses r.last = ap (λ (w : Walk). w.held) w.1 in (
          ap (λ k. or_else k (or_else (settle_fault (rules_of ps) false (walk (rules_of ps) [] nothing_held words).held) (or_else (defaults_fault (settled (rules_of ps) (walk (rules_of ps) [] nothing_held words).held).rows (rules_of ps)) (check_fault (shape ps s) (finished (rules_of ps) (walk (rules_of ps) [] nothing_held words).held) false)))) w.0
              ∙ ap (λ (h : Held). or_else (settle_fault (rules_of ps) false h) (or_else (defaults_fault (settled (rules_of ps) h).rows (rules_of ps)) (check_fault (shape ps s) (finished (rules_of ps) h) false))) at,
          ap (finished (rules_of ps)) at,
          w.2,
        )

    -- words that are well formed are taken, and the matches are what was asked
    pub level_good : (words : List Text) (us : List Use) → asked ps words ≡ Some us → (level_fault (shape ps s) [] nothing_held words false [] ≡ []) × (rows_after (rules_of ps) [] words ≡ map row us)
    level_good words us e = go (read_all (map (λ p. p.0) ps) start words) refl e
      where
        by_end : (r : Read) → read_all (map (λ p. p.0) ps) start words ≡ Some r → (o : Option (List Use)) → ended r.uses r.last ≡ o → complete ps o ≡ Some us
            → (level_fault (shape ps s) [] nothing_held words false [] ≡ []) × (rows_after (rules_of ps) [] words ≡ map row us)
        by_end r is None so e = absurd (none_some us e)
        by_end r is (Some vs) so e = by_lack (lacks ps vs) refl e
          where
            by_lack : (b : Bool) → lacks ps vs ≡ b → (if b then None else Some vs) ≡ Some us → (level_fault (shape ps s) [] nothing_held words false [] ≡ []) × (rows_after (rules_of ps) [] words ≡ map row us)
            by_lack true l e = absurd (none_some us e)
            by_lack false l e =
                let a = level_as r words is in
                let q = settles ps r.uses vs r.last a.2 so in
                let rows : (settled (rules_of ps) (held r.uses r.last)).rows ≡ map row vs = ap (λ (h : Held). h.rows) q.1 in (
                  a.0 ∙ ends ps s (held r.uses r.last) vs q.0 q.1 ∙ ap (λ b. if b then MissingRequiredArgument ∷ [] else []) l,
                  a.1 ∙ ap (λ rs. fold with_default rs (rules_of ps)) rows ∙ finished_same ps s (map row vs) ps ∙ ap (map row) (some_is vs us e),
                )

        go : (o : Option Read) → read_all (map (λ p. p.0) ps) start words ≡ o → complete ps (option_and_then (λ r. ended r.uses r.last) o) ≡ Some us
            → (level_fault (shape ps s) [] nothing_held words false [] ≡ []) × (rows_after (rules_of ps) [] words ≡ map row us)
        go None is e = absurd (none_some us e)
        go (Some r) is e = by_end r is (ended r.uses r.last) refl e

    -- words that are not are refused
    pub level_bad : (words : List Text) → list_any is_stray words ≡ false → asked ps words ≡ None → level_fault (shape ps s) [] nothing_held words false [] ≡ [] → ⊥
    level_bad words odd e f = go (read_all (map (λ p. p.0) ps) start words) refl e
      where
        by_end : (r : Read) → read_all (map (λ p. p.0) ps) start words ≡ Some r → (o : Option (List Use)) → ended r.uses r.last ≡ o → complete ps o ≡ None → ⊥
        by_end r is None so e = let a = level_as r words is in settles_bad ps r.uses r.last a.2 so (or_nil _ _ (sym a.0 ∙ f))
        by_end r is (Some vs) so e = by_lack (lacks ps vs) refl e
          where
            by_lack : (b : Bool) → lacks ps vs ≡ b → (if b then None else Some vs) ≡ None → ⊥
            by_lack false l e = none_some vs (sym e)
            by_lack true l e =
                let a = level_as r words is in
                let q = settles ps r.uses vs r.last a.2 so in
                no_kinds (sym (ends ps s (held r.uses r.last) vs q.0 q.1 ∙ ap (λ b. if b then MissingRequiredArgument ∷ [] else []) l) ∙ sym a.0 ∙ f)

        go : (o : Option Read) → read_all (map (λ p. p.0) ps) start words ≡ o → complete ps (option_and_then (λ r. ended r.uses r.last) o) ≡ None → ⊥
        go None is e = walk_bad ps s start words tt odd is (or_nil _ _ f)
        go (Some r) is e = by_end r is (ended r.uses r.last) refl e
