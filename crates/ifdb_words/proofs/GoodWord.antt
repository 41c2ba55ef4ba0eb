-- A word that can be read: clap takes it, and holds what was read.
use Rattle.std.proofs.Common.{◌≡◌, ◌∙◌, Bool, cond, true, false, refl, sym, ap, subst, List, [], ◌∷◌, ◌++◌, map, Option, Some, None, is_some, option_map, if◌then◌else◌}
use Rattle.std.specs.Str.{bytes_eq}
use Rattle.clap.specs.Lexer.{long_of, short_of}
use Rattle.clap.specs.Walk.{Held, Rule, Step, Text, Waiting, idle, option, arg_by_id, walked, has_row, settled, after_flag, after_step, plain_word, long_or_other, trailing, long_met}
use Rattle.clap.specs.Simple.{Shape}
use Rattle.clap.specs.Kinds.{or_else}
use Rattle.clap.specs.Faults.{turn_fault, long_fault, step_fault, flag_word_fault}
use Rattle.ifdb_words.specs.Options.{Use, is_used}
use Rattle.ifdb_words.proofs.Basics.{text_is, some_is, none_some}
use Rattle.ifdb_words.proofs.Rules.{rule, found, by_long, by_id, found_name, known_found}
use Rattle.ifdb_words.proofs.Rows.{row, has_used, use_row}
use Rattle.ifdb_words.proofs.Reader.{Last, nothing, wants, has, Read, dashes, ended, named, given, valued, step, word_step, plain_step}
use Rattle.ifdb_words.proofs.Held.{rules_of, shape, waiting, held, walk_at, Named, settles}
use Rattle.std.proofs.lemmas.Slice.Eq.{bytes_eq-Decides}

module _ (ps : List (Text × Bool)) where
  module _ (s : Shape) where
    abbrev after_long : Option Rule → Text → Option Text → Held → Waiting → Held × Step
    after_long o word v h w = after_flag (rules_of ps) w word (long_met (rules_of ps) o v h).0 (long_met (rules_of ps) o v h).1

    -- a word that is an option does no harm, and leads on to what was read
    abbrev Leads : Option Rule → Text → Option Text → Read → Read → Type 0
    Leads o word v r r' =
        (or_else (long_fault (rules_of ps) false o v (held r.uses r.last)) (step_fault (shape ps s) 1 (after_long o word v (held r.uses r.last) (waiting r.last)).0 (after_long o word v (held r.uses r.last) (waiting r.last)).1) ≡ [])
        × (after_step (rules_of ps) word (walk_at r) (after_long o word v (held r.uses r.last) (waiting r.last)).0 (after_long o word v (held r.uses r.last) (waiting r.last)).1 ≡ walk_at r')

    -- `--name`
    leads_bare : (p : Text × Bool) (word : Text) (r : Read) (us' : List Use) → Named ps r.last → ended r.uses r.last ≡ Some us' → Leads (Some (rule p)) word None r (record { uses = us'; last = wants p.0 })
    leads_bare p word r us' n e =
        let q = settles ps r.uses us' r.last n e in
        (rw q.0 refl, ap (λ (h : Held). record { held = record h { pending = Some (p.0, []) }; waiting = option p.0; position = 1; is_trailing = false; stopped = None }) q.1)

    -- `--name=text`
    leads_full : (p : Text × Bool) (word text : Text) (r : Read) (us' us'' : List Use) → Named ps r.last → ended r.uses r.last ≡ Some us'
        → is_used p.0 us' ≡ false → us' ++ record { name = p.0; text = text } ∷ [] ≡ us'' → Leads (Some (rule p)) word (Some text) r (record { uses = us''; last = nothing })
    leads_full p word text r us' us'' n e new is =
        let q = settles ps r.uses us' r.last n e in
        let no : has_row p.0 (map row us') ≡ false = has_used p.0 us' ∙ new in
        let rows : (settled (rules_of ps) (held r.uses r.last)).rows ≡ map row us' = ap (λ (h : Held). h.rows) q.1 in
        (rw (q.0, rows, no) refl, rw rows (ap (λ rs. record { held = record { rows = rs; pending = None; skip = 0 }; waiting = idle; position = 1; is_trailing = false; stopped = None }) (use_row p text us' new ∙ ap (map row) is)))

    -- one word that is an option
    long_good : (r r' : Read) (word name : Text) (v : Option Text) → Named ps r.last → (f : Option (Text × Bool)) → found ps name ≡ f
        → (if is_some f then named name v (ended r.uses r.last) else None) ≡ Some r' → Leads (option_map rule f) word v r r' × Named ps r'.last
    long_good r r' word name v n None at e = absurd (none_some r' e)
    long_good r r' word name v n (Some p) at e =
        let is : p.0 ≡ name = text_is p.0 name (found_name ps name p at) in
        subst (λ name. found ps name ≡ Some p → named name v (ended r.uses r.last) ≡ Some r' → Leads (Some (rule p)) word v r r' × Named ps r'.last) is (λ at e. by_value v (ended r.uses r.last) refl at e) at e
      where
        with_text : (text : Text) (us' : List Use) → ended r.uses r.last ≡ Some us' → (b : Bool) → is_used p.0 us' ≡ b → given (cond b None (Some (us' ++ record { name = p.0; text = text } ∷ []))) ≡ Some r'
            → Leads (Some (rule p)) word (Some text) r r' × Named ps r'.last
        with_text text us' so true new e = absurd (none_some r' e)
        with_text text us' so false new e = subst (λ (r' : Read). Leads (Some (rule p)) word (Some text) r r' × Named ps r'.last) (some_is _ r' e) (leads_full p word text r us' _ n so new refl, tt)

        by_value : (v : Option Text) (before : Option (List Use)) → ended r.uses r.last ≡ before → found ps p.0 ≡ Some p → named p.0 v before ≡ Some r' → Leads (Some (rule p)) word v r r' × Named ps r'.last
        by_value None None so at e = absurd (none_some r' e)
        by_value None (Some us') so at e = subst (λ (r' : Read). Leads (Some (rule p)) word None r r' × Named ps r'.last) (some_is _ r' e) (leads_bare p word r us' n so, (p, at, refl))
        by_value (Some text) None so at e = absurd (none_some r' e)
        by_value (Some text) (Some us') so at e = with_text text us' so (is_used p.0 us') refl e

    -- one word that is a value
    abbrev PlainLeads : Text → Read → Read → Type 0
    PlainLeads word r r' =
        (step_fault (shape ps s) 1 (plain_word (rules_of ps) (waiting r.last) word (held r.uses r.last)).0 (plain_word (rules_of ps) (waiting r.last) word (held r.uses r.last)).1 ≡ [])
        × (after_step (rules_of ps) word (walk_at r) (plain_word (rules_of ps) (waiting r.last) word (held r.uses r.last)).0 (plain_word (rules_of ps) (waiting r.last) word (held r.uses r.last)).1 ≡ walk_at r')

    plain_has : (p : Text × Bool) (us : List Use) (word : Text) → found ps p.0 ≡ Some p → PlainLeads word (record { uses = us; last = wants p.0 }) (record { uses = us; last = has p.0 word })
    plain_has p us word at =
        let by : arg_by_id (rules_of ps) p.0 ≡ Some (rule p) = by_id ps p.0 ∙ ap (option_map rule) at in
        let same : bytes_eq p.0 p.0 ≡ true = (bytes_eq-Decides p.0 p.0).1 refl in
        (refl, rw (by, same) refl)

    plain_good : (us : List Use) (last : Last) (r' : Read) (word : Text) → Named ps last → valued us last word ≡ Some r' → PlainLeads word (record { uses = us; last = last }) r' × Named ps r'.last
    plain_good us nothing r' word n e = absurd (none_some r' e)
    plain_good us (has name text) r' word n e = absurd (none_some r' e)
    plain_good us (wants name) r' word n e = subst (λ (r' : Read). PlainLeads word (record { uses = us; last = wants name }) r' × Named ps r'.last) (some_is _ r' e)
        (subst (λ name. PlainLeads word (record { uses = us; last = wants name }) (record { uses = us; last = has name word })) n.2 (plain_has n.0 us word (ap (found ps) n.2 ∙ n.1)), n)

    abbrev pub met : Bool → Option (Text × Option Text) → Text → Read → Held × Step
    met d l word r = if d then (held r.uses r.last, trailing 1) else long_or_other (rules_of ps) (waiting r.last) word l (held r.uses r.last)

    -- what clap makes of a word, where nothing is a subcommand
    abbrev Turned : Bool → Option (Text × Option Text) → Text → Read → Read → Type 0
    Turned d l word r r' =
        (or_else (if d then [] else flag_word_fault (rules_of ps) false l word (held r.uses r.last)) (step_fault (shape ps s) 1 (met d l word r).0 (met d l word r).1) ≡ [])
        × (after_step (rules_of ps) word (walk_at r) (met d l word r).0 (met d l word r).1 ≡ walk_at r')

    turned : (r r' : Read) (word : Text) → Named ps r.last → (d : Bool) (l : Option (Text × Option Text)) → (if d then None else word_step (map (λ p. p.0) ps) r word l) ≡ Some r' → Turned d l word r r' × Named ps r'.last
    turned r r' word n true l e = absurd (none_some r' e)
    turned r r' word n false (Some q) e =
        let k = known_found ps q.0 in
        let good = long_good r r' word q.0 q.1 n (found ps q.0) refl (subst (λ b. (if b then named q.0 q.1 (ended r.uses r.last) else None) ≡ Some r') k e) in
        (subst (λ (o : Option Rule). Leads o word q.1 r r') (sym (by_long ps q.0)) good.0, good.1)
    turned r r' word n false None e = go (short_of word) refl e
      where
        go : (sh : Option Text) → short_of word ≡ sh → plain_step (map (λ p. p.0) ps) r word sh ≡ Some r' → Turned false None word r r' × Named ps r'.last
        go (Some flags) is e = absurd (none_some r' e)
        go None is e = let good = plain_good r.uses r.last r' word n e in (rw is good.0, good.1)

    pub turn_good : (us : List Use) (last : Last) (r' : Read) (word : Text) → Named ps last → step (map (λ p. p.0) ps) (record { uses = us; last = last }) word ≡ Some r'
        → (turn_fault (shape ps s) [] (walk_at (record { uses = us; last = last })) word ≡ []) × (walked (rules_of ps) [] (walk_at (record { uses = us; last = last })) word ≡ walk_at r') × Named ps r'.last
    unfolding walked
    turn_good us nothing r' word n e = let t = turned (record { uses = us; last = nothing }) r' word n (bytes_eq word dashes) (long_of word) e in (t.0.0, t.0.1, t.1)
    turn_good us (wants name) r' word n e = let t = turned (record { uses = us; last = wants name }) r' word n (bytes_eq word dashes) (long_of word) e in (t.0.0, t.0.1, t.1)
    turn_good us (has name text) r' word n e = let t = turned (record { uses = us; last = has name text }) r' word n (bytes_eq word dashes) (long_of word) e in (t.0.0, t.0.1, t.1)
