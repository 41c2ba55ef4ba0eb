-- What clap holds of the words that were read.
use Rattle.std.proofs.Common.{◌≡◌, ◌∙◌, Bool, cond, true, false, refl, sym, ap, subst, List, [], ◌∷◌, ◌++◌, map, Option, Some, None, option_map}
use Rattle.clap.specs.Walk.{Held, Rule, Text, Waiting, Walk, idle, option, arg_by_id, has_row, settled}
use Rattle.clap.specs.Simple.{Shape}
use Rattle.clap.specs.Faults.{settle_fault}
use Rattle.clap.specs.declared.error.kind.ErrorKind.TheVariants.{InvalidValue, ArgumentConflict}
use Rattle.ifdb_words.specs.Options.{Use, is_used}
use Rattle.ifdb_words.proofs.Faults.{no_kinds}
use Rattle.ifdb_words.proofs.Basics.{some_is, none_some}
use Rattle.ifdb_words.proofs.Rules.{rule, found, by_id}
use Rattle.ifdb_words.proofs.Rows.{row, has_used, use_row}
use Rattle.ifdb_words.proofs.Reader.{Last, nothing, wants, has, Read, ended}

-- what clap holds
abbrev pub pending : Last → Option (Text × List Text)
pending nothing = None
pending (wants name) = Some (name, [])
pending (has name text) = Some (name, text ∷ [])

abbrev pub waiting : Last → Waiting
waiting nothing = idle
waiting (wants name) = option name
waiting (has name text) = idle

abbrev pub held : List Use → Last → Held
held us last = record { rows = map row us; pending = pending last; skip = 0 }

abbrev pub walk_at : Read → Walk
walk_at r = record { held = held r.uses r.last; waiting = waiting r.last; position = 1; is_trailing = false; stopped = None }

-- the options as clap fills them in
abbrev pub rules_of : List (Text × Bool) → List Rule
rules_of ps = map rule ps

-- a command with these options and no settings
abbrev pub shape : List (Text × Bool) → Shape → Shape
shape ps s = record s { rules = rules_of ps; args_override_self = false; arg_required_else_help = false; subcommand_required = false; subcommand_negates_reqs = false }

module _ (ps : List (Text × Bool)) where
  -- what waits is an option of the command
  abbrev pub Named : Last → Type 0
  Named nothing = Unit {0}
  Named (wants name) = (p : Text × Bool) × (found ps name ≡ Some p) × (p.0 ≡ name)
  Named (has name text) = (p : Text × Bool) × (found ps name ≡ Some p) × (p.0 ≡ name)

  settle_has : (p : Text × Bool) (text : Text) (us us' : List Use) → is_used p.0 us ≡ false → us ++ record { name = p.0; text = text } ∷ [] ≡ us' → found ps p.0 ≡ Some p
      → (settle_fault (rules_of ps) false (held us (has p.0 text)) ≡ []) × (settled (rules_of ps) (held us (has p.0 text)) ≡ held us' nothing)
  settle_has p text us us' new is at =
      let by : arg_by_id (rules_of ps) p.0 ≡ Some (rule p) = by_id ps p.0 ∙ ap (option_map rule) at in
      let no : has_row p.0 (map row us) ≡ false = has_used p.0 us ∙ new in
      (rw (by, no) refl, rw by (ap (λ rs. record { rows = rs; pending = None; skip = 0 }) (use_row p text us new ∙ ap (map row) is)))

  pub settles : (us us' : List Use) (last : Last) → Named last → ended us last ≡ Some us'
      → (settle_fault (rules_of ps) false (held us last) ≡ []) × (settled (rules_of ps) (held us last) ≡ held us' nothing)
  settles us us' nothing n e = (refl, ap (λ us. held us nothing) (some_is us us' e))
  settles us us' (wants name) n e = absurd (none_some us' e)
  settles us us' (has name text) n e = subst (λ name. ended us (has name text) ≡ Some us' → found ps name ≡ Some n.0 → (settle_fault (rules_of ps) false (held us (has name text)) ≡ []) × (settled (rules_of ps) (held us (has name text)) ≡ held us' nothing)) n.2
      (λ e at. go (is_used n.0.0 us) refl e at) e n.1
    where
      go : (b : Bool) → is_used n.0.0 us ≡ b → cond b None (Some (us ++ record { name = n.0.0; text = text } ∷ [])) ≡ Some us' → found ps n.0.0 ≡ Some n.0
          → (settle_fault (rules_of ps) false (held us (has n.0.0 text)) ≡ []) × (settled (rules_of ps) (held us (has n.0.0 text)) ≡ held us' nothing)
      go true is e at = absurd (none_some us' e)
      go false is e at = settle_has n.0 text us us' is (some_is _ us' e) at

  -- the other way: what isn't read is refused
  pub settles_bad : (us : List Use) (last : Last) → Named last → ended us last ≡ None → settle_fault (rules_of ps) false (held us last) ≡ [] → ⊥
  settles_bad us nothing n e f = none_some us (sym e)
  settles_bad us (wants name) n e f = subst (λ name. found ps name ≡ Some n.0 → settle_fault (rules_of ps) false (held us (wants name)) ≡ [] → ⊥) n.2 (λ at f.
      let by : arg_by_id (rules_of ps) n.0.0 ≡ Some (rule n.0) = by_id ps n.0.0 ∙ ap (option_map rule) at in
      let g : settle_fault (rules_of ps) false (held us (wants n.0.0)) ≡ InvalidValue ∷ [] = rw by refl in no_kinds (sym g ∙ f)) n.1 f
  settles_bad us (has name text) n e f = subst (λ name. ended us (has name text) ≡ None → found ps name ≡ Some n.0 → settle_fault (rules_of ps) false (held us (has name text)) ≡ [] → ⊥) n.2
      (λ e at f. go (is_used n.0.0 us) refl e at f) e n.1 f
    where
      go : (b : Bool) → is_used n.0.0 us ≡ b → cond b None (Some (us ++ record { name = n.0.0; text = text } ∷ [])) ≡ None → found ps n.0.0 ≡ Some n.0
          → settle_fault (rules_of ps) false (held us (has n.0.0 text)) ≡ [] → ⊥
      go false is e at f = none_some _ (sym e)
      go true is e at f =
          let by : arg_by_id (rules_of ps) n.0.0 ≡ Some (rule n.0) = by_id ps n.0.0 ∙ ap (option_map rule) at in
          let no : has_row n.0.0 (map row us) ≡ true = has_used n.0.0 us ∙ is in
          let g : settle_fault (rules_of ps) false (held us (has n.0.0 text)) ≡ ArgumentConflict ∷ [] = rw (by, no) refl in no_kinds (sym g ∙ f)
