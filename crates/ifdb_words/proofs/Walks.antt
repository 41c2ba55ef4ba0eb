-- All words: clap walks over those that can be read, and refuses others.
use Rattle.std.proofs.Common.{◌≡◌, Bool, false, refl, sym, subst, List, [], ◌∷◌, map, Option, Some, None}
use Rattle.std.specs.Str.{bytes_eq}
use Rattle.std.specs.List.{fold, list_any}
use Rattle.std.specs.Prelude.{option_and_then}
use Rattle.clap.specs.Lexer.{short_of}
use Rattle.clap.specs.Walk.{Text, walked}
use Rattle.clap.specs.Simple.{Shape}
use Rattle.clap.specs.Kinds.{or_else}
use Rattle.clap.specs.Faults.{turn_fault, walk_fault}
use Rattle.ifdb_words.proofs.Faults.{or_nil, or_rest}
use Rattle.ifdb_words.proofs.Basics.{or_false, some_is, none_some}
use Rattle.ifdb_words.proofs.Reader.{Read, dashes, step, read_all}
use Rattle.ifdb_words.proofs.Held.{rules_of, shape, walk_at, Named}
use Rattle.ifdb_words.proofs.GoodWord.{turn_good}
use Rattle.ifdb_words.proofs.BadWord.{turn_bad}
use Rattle.ifdb_words.specs.Clap.{is_stray}
use Rattle.ifdb_words.proofs.Strays.{not_stray}

module _ (ps : List (Text × Bool)) where
  module _ (s : Shape) where
    -- all the words: clap refuses them or has what was read
    pub walk_good : (r r' : Read) (words : List Text) → Named ps r.last → read_all (map (λ p. p.0) ps) r words ≡ Some r'
        → (walk_fault (shape ps s) [] (walk_at r) words ≡ []) × (fold (walked (rules_of ps) []) (walk_at r) words ≡ walk_at r') × Named ps r'.last
    unfolding walk_fault
    walk_good r r' [] n e = subst (λ (r' : Read). (walk_fault (shape ps s) [] (walk_at r) [] ≡ []) × (fold (walked (rules_of ps) []) (walk_at r) [] ≡ walk_at r') × Named ps r'.last) (some_is r r' e) (refl, refl, n)
    walk_good r r' (word ∷ words) n e = go (step (map (λ p. p.0) ps) r word) refl e (λ m k e. walk_good m r' words k e)
      where
        go : (o : Option Read) → step (map (λ p. p.0) ps) r word ≡ o → option_and_then (λ r. read_all (map (λ p. p.0) ps) r words) o ≡ Some r'
            → ((m : Read) → Named ps m.last → read_all (map (λ p. p.0) ps) m words ≡ Some r' → (walk_fault (shape ps s) [] (walk_at m) words ≡ []) × (fold (walked (rules_of ps) []) (walk_at m) words ≡ walk_at r') × Named ps r'.last)
            → (walk_fault (shape ps s) [] (walk_at r) (word ∷ words) ≡ []) × (fold (walked (rules_of ps) []) (walk_at r) (word ∷ words) ≡ walk_at r') × Named ps r'.last
        go None is e more = absurd (none_some r' e)
        go (Some m) is e more =
            let t = turn_good ps s r.uses r.last m word n is in
            let rest = more m t.2 e in
            (rw (t.0, t.1) rest.0, rw t.1 rest.1, rest.2)

    pub walk_bad : (r : Read) (words : List Text) → Named ps r.last → list_any is_stray words ≡ false → read_all (map (λ p. p.0) ps) r words ≡ None → walk_fault (shape ps s) [] (walk_at r) words ≡ [] → ⊥
    unfolding walk_fault
    walk_bad r [] n odd e f = none_some r (sym e)
    walk_bad r (word ∷ words) n odd e f =
        let o = or_false (is_stray word) (list_any is_stray words) odd in
        let w = not_stray word o.0 in
        go (step (map (λ p. p.0) ps) r word) refl e w.1 w.0 f (λ m k e f. walk_bad m words k o.1 e f)
      where
        go : (o : Option Read) → step (map (λ p. p.0) ps) r word ≡ o → option_and_then (λ r. read_all (map (λ p. p.0) ps) r words) o ≡ None → short_of word ≡ None → bytes_eq word dashes ≡ false
            → or_else (turn_fault (shape ps s) [] (walk_at r) word) (walk_fault (shape ps s) [] (walked (rules_of ps) [] (walk_at r) word) words) ≡ []
            → ((m : Read) → Named ps m.last → read_all (map (λ p. p.0) ps) m words ≡ None → walk_fault (shape ps s) [] (walk_at m) words ≡ [] → ⊥) → ⊥
        go None is e short d f more = turn_bad ps s r.uses r.last word n d short is (or_nil _ _ f)
        go (Some m) is e short d f more =
            let t = turn_good ps s r.uses r.last m word n is in
            more m t.2 e (subst (λ w. walk_fault (shape ps s) [] w words ≡ []) t.1 (or_rest _ _ t.0 f))
