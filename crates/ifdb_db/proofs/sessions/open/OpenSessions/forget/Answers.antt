use Rattle.std.proofs.Common.{◌≡◌, ℕ, ◌-◌, ◌<◌, ◌∙◌, true, List, Option, nat_eq, vec_len, refl, sym, ap, subst, arith}
use Rattle.std.specs.Prelude.{IsSome, slice_set}
use Rattle.std.specs.Option.{unwrap_or}
use Rattle.indexmap.specs.IndexMap.{get}
use Rattle.ifdb_db.specs.Client.{Client}
use Rattle.ifdb_db.specs.Room.{no_client}
use Rattle.ifdb_db.specs.Sessions.{client_at, AreKept, by_number, shown_by}
use Rattle.ifdb_db.proofs.SessionLaws.{apart, as_long, forgotten_kept, forgotten_same, open_found, set_shown}
use Rattle.ifdb_db.proofs.sessions.open.OpenSessions.forget.Goals as goal

pub index_mut-requires : goal.index_mut-requires
index_mut-requires c =
    let is_open = subst (λ (z : List Client). (client_at z c.args.n).is_open ≡ true) (sym c.self.view_is) c.requires.is_open in
    let here = open_found (get nat_eq c.self.inside.kept) (shown_by c.self.inside.over.items) c.self.invariant c.args.n is_open in
    let there = here.1.there in
    let long = as_long c.self.inside.over.items in
    let len = c.self.inside.over.ok.0 in
    let within : c.args.n - 1 < vec_len c.self.inside.over = omega (arith, there, long, len) in
    within

pub unwrap-requires : goal.unwrap-requires
unwrap-requires c =
    let is_open = subst (λ (z : List Client). (client_at z c.args.n).is_open ≡ true) (sym c.self.view_is) c.requires.is_open in
    let here = open_found (get nat_eq c.self.inside.kept) (shown_by c.self.inside.over.items) c.self.invariant c.args.n is_open in
    subst (λ (o : Option Client). IsSome o) (sym (c.swap_remove.ensures.value ∙ here.1.is)) refl

pub invariant_of-self : goal.invariant_of-self
invariant_of-self c =
    let found : ℕ → Option Client = get nat_eq c.self.inside.kept in
    let found' : ℕ → Option Client = get nat_eq c.swap_remove.new.self in
    let over : List Client = shown_by c.self.inside.over.items in
    let is_open = subst (λ (z : List Client). (client_at z c.args.n).is_open ≡ true) (sym c.self.view_is) c.requires.is_open in
    let here = open_found found over c.self.invariant c.args.n is_open in
    let updates = c.swap_remove.ensures.updates in
    subst (AreKept found') (sym (set_shown c.self.inside.over.items (c.args.n - 1) c.of.result c.args.session.now c.of.ensures))
    (forgotten_kept found over c.self.invariant found' c.args.n (apart c.args.n found found' updates.2) here.1.from_1 c.args.session.now updates.1 c.requires.is_over here.1.there)

pub returns-clause-put : goal.returns-clause-put
returns-clause-put c =
    let found : ℕ → Option Client = get nat_eq c.self.inside.kept in
    let found' : ℕ → Option Client = get nat_eq c.swap_remove.new.self in
    let over : List Client = shown_by c.self.inside.over.items in
    let is_open = subst (λ (z : List Client). (client_at z c.args.n).is_open ≡ true) (sym c.self.view_is) c.requires.is_open in
    let here = open_found found over c.self.invariant c.args.n is_open in
    let updates = c.swap_remove.ensures.updates in
    ap (by_number found') (set_shown c.self.inside.over.items (c.args.n - 1) c.of.result c.args.session.now c.of.ensures)
    ∙ forgotten_same found over c.self.invariant found' c.args.n (apart c.args.n found found' updates.2) here.1.from_1 c.args.session.now updates.1 c.requires.is_over here.1.there
    ∙ ap (λ (z : List Client). slice_set z (c.args.n - 1) c.args.session.now) c.self.view_is

pub returns-clause-before : goal.returns-clause-before
returns-clause-before c =
    let found : ℕ → Option Client = get nat_eq c.self.inside.kept in
    let over : List Client = shown_by c.self.inside.over.items in
    let is_open = subst (λ (z : List Client). (client_at z c.args.n).is_open ≡ true) (sym c.self.view_is) c.requires.is_open in
    let here = open_found found over c.self.invariant c.args.n is_open in
    ap (λ (o : Option Client). unwrap_or o no_client) (sym c.unwrap.ensures ∙ c.swap_remove.ensures.value ∙ here.1.is)
    ∙ sym here.1.at ∙ ap (λ (z : List Client). client_at z c.args.n) c.self.view_is
