use Rattle.std.proofs.Common.{rules, arith, sym, ◌∙◌, ◌≡◌, subst, List, zero, true≢false, refl, false}
use Rattle.std.proofs.lemmas.Option.{get_or_from_slice_get}
use Rattle.ifdb_label.proofs.TagLaws.{below_le}
use Rattle.ifdb_authority.specs.declared.holding.Holding.{Holding}
use Rattle.ifdb_authority.specs.Authority.{holds}
use Rattle.ifdb_authority.specs.Search.{IsExtended, HasAbove}
use Rattle.ifdb_authority.specs.Grantors.{is_same_holding, holding}
use Rattle.ifdb_authority.proofs.Chains.{steps_suffice_lem}
use Rattle.ifdb_authority.proofs.Searched.{searched-start, searched-next, searched-none, found_at, above_made}
use Rattle.ifdb_authority.proofs.search.is_held.Goals as goal

pub loop-at-init : goal.loop-at-init
loop-at-init c =
    let P : List Holding → Type 0 = λ old. IsExtended old c.add.new.found.keys (is_same_holding (holding c.args.p c.args.tag)) in
    searched-start c.args.tags.now c.args.authority.now c.args.above.now c.args.p c.args.tag c.add.new.found.keys (subst P c.new-found.ensures.empty c.in_ok-add.ensures)

pub returns-then-is_owner : goal.returns-then-is_owner
returns-then-is_owner c =
    let h = c.index.result.now in
    let at = sym (get_or_from_slice_get c.loop-at.found.keys c.loop-at.at h h c.index.ensures) in
    let there = found_at c.loop-at.found.keys c.loop-at.at h h (search rules) at in
    let held = steps_suffice_lem c.args.tags.now c.args.authority.now c.args.p c.args.tag c.requires.well_formed c.requires.tag (c.loop-at.invariant.backs h there (zero, sym c.is_owner.ensures ∙ c.if-is_owner.true)) in
    record { sound = λ _. held; complete = λ _ _. refl }

pub add_steps-requires-clause-tag : goal.add_steps-requires-clause-tag
add_steps-requires-clause-tag c =
    let h = c.index.result.now in
    let at = sym (get_or_from_slice_get c.loop-at.found.keys c.loop-at.at h h c.index.ensures) in
    let there = found_at c.loop-at.found.keys c.loop-at.at h h (search rules) at in
    let le = below_le c.args.tags.now c.requires.well_formed c.args.tag h.tag (c.loop-at.invariant.within h there) in
    let lt = c.requires.tag in
    omega (arith, le, lt)

pub add_steps-requires-clause-above : goal.add_steps-requires-clause-above
add_steps-requires-clause-above c = above_made c.args.tags.now c.requires.well_formed c.args.tag c.args.above.now c.requires.tag c.requires.above

pub loop-at-preserved : goal.loop-at-preserved
loop-at-preserved c =
    let h = c.index.result.now in
    let at = sym (get_or_from_slice_get c.loop-at.found.keys c.loop-at.at h h c.index.ensures) in
    searched-next c.args.tags.now c.args.authority.now c.args.above.now c.args.p c.args.tag c.loop-at.found.keys c.add_steps.new.found.keys c.loop-at.at h h
    c.requires.well_formed c.requires.above c.loop-at.invariant (search rules) at (sym c.is_owner.ensures ∙ c.if-is_owner.false) c.in_ok-add_steps.ensures

pub returns : goal.returns
returns c =
    let none : HasAbove c.args.tags.now c.args.tag c.args.above.now → holds c.args.tags.now c.args.authority.now c.args.p c.args.tag ≡ false = λ has_all. searched-none c.args.tags.now c.args.authority.now c.args.above.now c.args.p c.args.tag c.loop-at.found.keys c.loop-at.at c.requires.well_formed has_all c.loop-at.invariant (search rules) in
    record { sound = λ no. absurd (true≢false (sym no)); complete = λ has_all held. absurd (true≢false (sym held ∙ none has_all)) }
