-- A word that can't be read: clap refuses it.
use Rattle.std.proofs.Common.{◌≡◌, ◌∙◌, Bool, cond, true, false, refl, sym, ap, subst, List, [], ◌∷◌, ◌++◌, map, Option, Some, None, is_some, true≢false, option_map, if◌then◌else◌}
use Rattle.std.specs.Str.{bytes_eq}
use Rattle.clap.specs.Lexer.{long_of, short_of}
use Rattle.clap.specs.Walk.{Held, Text, idle, arg_by_long, has_row, settled}
use Rattle.clap.specs.Simple.{Shape}
use Rattle.clap.specs.Kinds.{or_else}
use Rattle.clap.specs.Faults.{turn_fault, long_fault, step_fault, flag_word_fault, option_fault}
use Rattle.clap.specs.declared.error.kind.ErrorKind.TheVariants.{ArgumentConflict, UnknownArgument, InvalidSubcommand}
use Rattle.ifdb_words.specs.Options.{Use, is_used}
use Rattle.ifdb_words.proofs.Faults.{no_kinds, or_nil}
use Rattle.ifdb_words.proofs.Basics.{text_is, none_some}
use Rattle.ifdb_words.proofs.Rules.{rule, found, by_long, by_index, found_name, known_found}
use Rattle.ifdb_words.proofs.Rows.{row, has_used}
use Rattle.ifdb_words.proofs.Reader.{Last, nothing, wants, has, Read, dashes, ended, named, given, valued, step, word_step, plain_step}
use Rattle.ifdb_words.proofs.Held.{rules_of, shape, waiting, held, walk_at, Named, settles, settles_bad}
use Rattle.ifdb_words.proofs.GoodWord.{met}

module _ (ps : List (Text × Bool)) where
  module _ (s : Shape) where
    stray : (us : List Use) (last : Last) (word : Text) → short_of word ≡ None → waiting last ≡ idle → (b : Bool) → s.is_leaf ≡ b
        → or_else (flag_word_fault (rules_of ps) false None word (held us last)) (step_fault (shape ps s) 1 (met ps s false None word (record { uses = us; last = last })).0 (met ps s false None word (record { uses = us; last = last })).1) ≡ [] → ⊥
    stray us last word short free true leaf f =
        let g : or_else (flag_word_fault (rules_of ps) false None word (held us last)) (step_fault (shape ps s) 1 (met ps s false None word (record { uses = us; last = last })).0 (met ps s false None word (record { uses = us; last = last })).1) ≡ UnknownArgument ∷ [] = rw (short, free, by_index ps 1, leaf) refl in no_kinds (sym g ∙ f)
    stray us last word short free false leaf f =
        let g : or_else (flag_word_fault (rules_of ps) false None word (held us last)) (step_fault (shape ps s) 1 (met ps s false None word (record { uses = us; last = last })).0 (met ps s false None word (record { uses = us; last = last })).1) ≡ UnknownArgument ∷ InvalidSubcommand ∷ [] = rw (short, free, by_index ps 1, leaf) refl in no_kinds (sym g ∙ f)

    plain_bad : (us : List Use) (last : Last) (word : Text) → short_of word ≡ None → valued us last word ≡ None
        → or_else (flag_word_fault (rules_of ps) false None word (held us last)) (step_fault (shape ps s) 1 (met ps s false None word (record { uses = us; last = last })).0 (met ps s false None word (record { uses = us; last = last })).1) ≡ [] → ⊥
    plain_bad us (wants name) word short e f = none_some _ (sym e)
    plain_bad us nothing word short e f = stray us nothing word short refl s.is_leaf refl f
    plain_bad us (has name text) word short e f = stray us (has name text) word short refl s.is_leaf refl f

    -- a word that can't be read is refused by clap, unless it is `--` or begins with one hyphen
    turned_bad : (r : Read) (word : Text) → Named ps r.last → (l : Option (Text × Option Text)) → short_of word ≡ None → word_step (map (λ p. p.0) ps) r word l ≡ None
        → or_else (flag_word_fault (rules_of ps) false l word (held r.uses r.last)) (step_fault (shape ps s) 1 (met ps s false l word r).0 (met ps s false l word r).1) ≡ [] → ⊥
    turned_bad r word n (Some q) short e f = go (found ps q.0) refl
        (subst (λ b. (if b then named q.0 q.1 (ended r.uses r.last) else None) ≡ None) (known_found ps q.0) e) (or_nil _ _ f)
      where
        option_bad : (p : Text × Bool) (v : Option Text) (before : Option (List Use)) → ended r.uses r.last ≡ before → named p.0 v before ≡ None → option_fault (rules_of ps) false (rule p) v (held r.uses r.last) ≡ [] → ⊥
        option_bad p None None so e f = settles_bad ps r.uses r.last n so f
        option_bad p None (Some us) so e f = none_some _ (sym e)
        option_bad p (Some text) None so e f = settles_bad ps r.uses r.last n so (or_nil _ _ f)
        option_bad p (Some text) (Some us) so e f = again (is_used p.0 us) refl e
          where
            again : (b : Bool) → is_used p.0 us ≡ b → given (cond b None (Some (us ++ record { name = p.0; text = text } ∷ []))) ≡ None → ⊥
            again false is e = none_some _ (sym e)
            again true is e =
                let t = settles ps r.uses us r.last n so in
                let rows : (settled (rules_of ps) (held r.uses r.last)).rows ≡ map row us = ap (λ (h : Held). h.rows) t.1 in
                let no : has_row p.0 (map row us) ≡ true = has_used p.0 us ∙ is in
                let g : option_fault (rules_of ps) false (rule p) (Some text) (held r.uses r.last) ≡ ArgumentConflict ∷ [] = rw (t.0, rows, no) refl in no_kinds (sym g ∙ f)

        go : (f : Option (Text × Bool)) → found ps q.0 ≡ f → (if is_some f then named q.0 q.1 (ended r.uses r.last) else None) ≡ None → long_fault (rules_of ps) false (arg_by_long (rules_of ps) q.0) q.1 (held r.uses r.last) ≡ [] → ⊥
        go None at e f = let g : long_fault (rules_of ps) false (arg_by_long (rules_of ps) q.0) q.1 (held r.uses r.last) ≡ UnknownArgument ∷ [] = ap (λ o. long_fault (rules_of ps) false o q.1 (held r.uses r.last)) (by_long ps q.0 ∙ ap (option_map rule) at) in no_kinds (sym g ∙ f)
        go (Some p) at e f =
            let is : p.0 ≡ q.0 = text_is p.0 q.0 (found_name ps q.0 p at) in
            let g : long_fault (rules_of ps) false (arg_by_long (rules_of ps) q.0) q.1 (held r.uses r.last) ≡ option_fault (rules_of ps) false (rule p) q.1 (held r.uses r.last) = ap (λ o. long_fault (rules_of ps) false o q.1 (held r.uses r.last)) (by_long ps q.0 ∙ ap (option_map rule) at) in
            option_bad p q.1 (ended r.uses r.last) refl (subst (λ name. named name q.1 (ended r.uses r.last) ≡ None) (sym is) e) (sym g ∙ f)
    turned_bad r word n None short e f = plain_bad r.uses r.last word short (subst (λ sh. plain_step (map (λ p. p.0) ps) r word sh ≡ None) short e) f

    not_dashes : (r : Read) (word : Text) → Named ps r.last → (d : Bool) → d ≡ false → short_of word ≡ None → (if d then None else word_step (map (λ p. p.0) ps) r word (long_of word)) ≡ None
        → or_else (if d then [] else flag_word_fault (rules_of ps) false (long_of word) word (held r.uses r.last)) (step_fault (shape ps s) 1 (met ps s d (long_of word) word r).0 (met ps s d (long_of word) word r).1) ≡ [] → ⊥
    not_dashes r word n true d short e f = absurd (true≢false d)
    not_dashes r word n false d short e f = turned_bad r word n (long_of word) short e f

    pub turn_bad : (us : List Use) (last : Last) (word : Text) → Named ps last → bytes_eq word (45 ∷ 45 ∷ []) ≡ false → short_of word ≡ None
        → step (map (λ p. p.0) ps) (record { uses = us; last = last }) word ≡ None → turn_fault (shape ps s) [] (walk_at (record { uses = us; last = last })) word ≡ [] → ⊥
    turn_bad us nothing word n d short e f = not_dashes (record { uses = us; last = nothing }) word n (bytes_eq word dashes) d short e f
    turn_bad us (wants name) word n d short e f = not_dashes (record { uses = us; last = wants name }) word n (bytes_eq word dashes) d short e f
    turn_bad us (has name text) word n d short e f = not_dashes (record { uses = us; last = has name text }) word n (bytes_eq word dashes) d short e f
