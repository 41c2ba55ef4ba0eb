use Rattle.std.proofs.Common.{◌≡◌, true, ap, sym, subst, ◌∙◌, ◌++◌, ◌∷◌, [], rules, Some, None}
use Rattle.std.specs.Prelude.{option_to_list}
use Rattle.std.proofs.lemmas.List.{append-nil}
use Rattle.ifdb_catalog.specs.Public.{Public}
use Rattle.ifdb_catalog.specs.Fits.{change_fits}
use Rattle.ifdb_snapshot.proofs.PublicStates.{listed_after}
use Rattle.ifdb_snapshot.proofs.public_state.PublicState.apply.Goals as goal

pub invariant_of-self-in-Some : goal.invariant_of-self-in-Some
invariant_of-self-in-Some c =
    let fits = subst (λ (p : Public). change_fits p c.args.change ≡ true) (sym c.self.view_is) c.requires.fits in
    let names : c.reserve.new.self.items ≡ c.self.inside.names.items = search rules in
    let more : c.push_reserved.new.self.items ≡ c.self.inside.names.items ++ option_to_list (Some c.in-Some.name) = c.push_reserved.ensures.items ∙ ap (λ ns. ns ++ c.in-Some.name ∷ []) names in
    listed_after c.self.inside.catalog c.apply.new.self c.args.change c.self.inside.names.items c.push_reserved.new.self.items (Some c.in-Some.name)
    (search rules) (sym c.in-Some.is ∙ c.in-Ok.ensures) more fits c.requires.narrow c.self.invariant

pub invariant_of-self-in_default-name : goal.invariant_of-self-in_default-name
invariant_of-self-in_default-name c =
    let fits = subst (λ (p : Public). change_fits p c.args.change ≡ true) (sym c.self.view_is) c.requires.fits in
    let names : c.reserve.new.self.items ≡ c.self.inside.names.items = search rules in
    let more : c.reserve.new.self.items ≡ c.self.inside.names.items ++ option_to_list None = names ∙ sym (append-nil c.self.inside.names.items) in
    listed_after c.self.inside.catalog c.apply.new.self c.args.change c.self.inside.names.items c.reserve.new.self.items None
    (search rules) (sym c.in_default-name.is ∙ c.in-Ok.ensures) more fits c.requires.narrow c.self.invariant
