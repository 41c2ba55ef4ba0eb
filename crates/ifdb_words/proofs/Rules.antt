-- A command's options as clap's arguments, found by their names.
use Rattle.std.proofs.Common.{◌≡◌, ◌∙◌, ◌||◌, ℕ, Bool, cond, true, false, refl, sym, ap, List, [], ◌∷◌, map, Option, Some, None, is_some, option_map}
use Rattle.std.specs.Str.{bytes_eq}
use Rattle.std.specs.List.{find, list_any}
use Rattle.clap.specs.Walk.{Rule, Text, arg_by_id, arg_by_long, arg_by_short, arg_by_index}
use Rattle.clap.specs.Simple.{filled}
use Rattle.ifdb_words.proofs.Basics.{some_is, none_some}
use Rattle.ifdb_words.specs.Clap.{option_of}

-- an option as clap fills it in
abbrev pub rule : Text × Bool → Rule
rule p = filled (option_of p.0 p.1)

abbrev pub found : List (Text × Bool) → Text → Option (Text × Bool)
found ps name = find (λ p. bytes_eq p.0 name) ps

-- the options by name
pub by_long : (ps : List (Text × Bool)) (name : Text) → arg_by_long (map rule ps) name ≡ option_map rule (found ps name)
by_long [] name = refl
by_long (p ∷ ps) name = go (bytes_eq p.0 name) (by_long ps name)
  where
    go : (b : Bool) → arg_by_long (map rule ps) name ≡ option_map rule (found ps name)
        → cond (b || false) (Some (rule p)) (arg_by_long (map rule ps) name) ≡ option_map rule (cond b (Some p) (found ps name))
    go true e = refl
    go false e = e

pub by_id : (ps : List (Text × Bool)) (name : Text) → arg_by_id (map rule ps) name ≡ option_map rule (found ps name)
by_id [] name = refl
by_id (p ∷ ps) name = go (bytes_eq p.0 name) (by_id ps name)
  where
    go : (b : Bool) → arg_by_id (map rule ps) name ≡ option_map rule (found ps name)
        → cond b (Some (rule p)) (arg_by_id (map rule ps) name) ≡ option_map rule (cond b (Some p) (found ps name))
    go true e = refl
    go false e = e

pub by_short : (ps : List (Text × Bool)) (x : ℕ) → arg_by_short (map rule ps) x ≡ None
by_short [] x = refl
by_short (p ∷ ps) x = by_short ps x

pub by_index : (ps : List (Text × Bool)) (i : ℕ) → arg_by_index (map rule ps) i ≡ None
by_index [] i = refl
by_index (p ∷ ps) i = by_index ps i

pub found_name : (ps : List (Text × Bool)) (name : Text) (p : Text × Bool) → found ps name ≡ Some p → bytes_eq p.0 name ≡ true
found_name [] name p e = absurd (none_some p e)
found_name (x ∷ xs) name p e = go (bytes_eq x.0 name) refl (λ k. found_name xs name p k) e
  where
    go : (b : Bool) → bytes_eq x.0 name ≡ b → (found xs name ≡ Some p → bytes_eq p.0 name ≡ true) → cond b (Some x) (found xs name) ≡ Some p → bytes_eq p.0 name ≡ true
    go true is more e = ap (λ (y : Text × Bool). bytes_eq y.0 name) (sym (some_is x p e)) ∙ is
    go false is more e = more e

pub known_found : (ps : List (Text × Bool)) (name : Text) → list_any (λ n. bytes_eq n name) (map (λ p. p.0) ps) ≡ is_some (found ps name)
known_found [] name = refl
known_found (p ∷ ps) name = go (bytes_eq p.0 name) (known_found ps name)
  where
    go : (b : Bool) → list_any (λ n. bytes_eq n name) (map (λ p. p.0) ps) ≡ is_some (found ps name)
        → (b || list_any (λ n. bytes_eq n name) (map (λ p. p.0) ps)) ≡ is_some (cond b (Some p) (found ps name))
    go true e = refl
    go false e = e
