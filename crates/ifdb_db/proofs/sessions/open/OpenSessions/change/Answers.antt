use Rattle.std.proofs.Common.{◌≡◌, ℕ, ◌-◌, ◌∙◌, true, List, Option, Some, nat_eq, refl, sym, ap, subst}
use Rattle.std.specs.Prelude.{IfOk, IsSome, OnOk, slice_set}
use Rattle.std.specs.Option.{unwrap_or}
use Rattle.indexmap.specs.IndexMap.{get, Updates}
use Rattle.ifdb_db.specs.Client.{Client}
use Rattle.ifdb_db.specs.Room.{no_client}
use Rattle.ifdb_db.specs.Sessions.{client_at, shown_by}
use Rattle.ifdb_db.proofs.SessionLaws.{apart, must_be_ok, open_found, put_kept, put_same}
use Rattle.ifdb_db.proofs.sessions.open.OpenSessions.change.Goals as goal

pub unwrap-before-requires : goal.unwrap-before-requires
unwrap-before-requires c =
    let is_open = subst (λ (z : List Client). (client_at z c.args.n).is_open ≡ true) (sym c.self.view_is) c.requires in
    let here = open_found (get nat_eq c.self.inside.kept) (shown_by c.self.inside.over.items) c.self.invariant c.args.n is_open in
    must_be_ok c.insert.result (get nat_eq c.self.inside.kept c.args.n) here.0 c.insert.ensures.absent here.1.is

pub unwrap-requires : goal.unwrap-requires
unwrap-requires c =
    let found : ℕ → Option Client = get nat_eq c.self.inside.kept in
    let is_open = subst (λ (z : List Client). (client_at z c.args.n).is_open ≡ true) (sym c.self.view_is) c.requires in
    let here = open_found found (shown_by c.self.inside.over.items) c.self.invariant c.args.n is_open in
    let before = subst (λ r. IfOk r (λ old. old ≡ found c.args.n)) c.unwrap-before.ensures c.insert.ensures.old in
    subst (λ (o : Option Client). IsSome o) (sym (before ∙ here.1.is)) refl

pub invariant_of-self : goal.invariant_of-self
invariant_of-self c =
    let found : ℕ → Option Client = get nat_eq c.self.inside.kept in
    let found' : ℕ → Option Client = get nat_eq c.insert.new.self in
    let over : List Client = shown_by c.self.inside.over.items in
    let is_open = subst (λ (z : List Client). (client_at z c.args.n).is_open ≡ true) (sym c.self.view_is) c.requires in
    let here = open_found found over c.self.invariant c.args.n is_open in
    let updates = subst (λ r. OnOk r (Updates nat_eq c.self.inside.kept c.insert.new.self c.args.n (Some c.args.session))) c.unwrap-before.ensures c.insert.ensures.updates in
    put_kept found over c.self.invariant found' c.args.n (apart c.args.n found found' updates.2) here.1.from_1 c.args.session updates.1 here.1.there

pub returns-clause-put : goal.returns-clause-put
returns-clause-put c =
    let found : ℕ → Option Client = get nat_eq c.self.inside.kept in
    let found' : ℕ → Option Client = get nat_eq c.insert.new.self in
    let over : List Client = shown_by c.self.inside.over.items in
    let is_open = subst (λ (z : List Client). (client_at z c.args.n).is_open ≡ true) (sym c.self.view_is) c.requires in
    let here = open_found found over c.self.invariant c.args.n is_open in
    let updates = subst (λ r. OnOk r (Updates nat_eq c.self.inside.kept c.insert.new.self c.args.n (Some c.args.session))) c.unwrap-before.ensures c.insert.ensures.updates in
    put_same found over c.self.invariant found' c.args.n (apart c.args.n found found' updates.2) here.1.from_1 c.args.session updates.1 here.1.there
    ∙ ap (λ (z : List Client). slice_set z (c.args.n - 1) c.args.session) c.self.view_is

pub returns-clause-before : goal.returns-clause-before
returns-clause-before c =
    let found : ℕ → Option Client = get nat_eq c.self.inside.kept in
    let is_open = subst (λ (z : List Client). (client_at z c.args.n).is_open ≡ true) (sym c.self.view_is) c.requires in
    let here = open_found found (shown_by c.self.inside.over.items) c.self.invariant c.args.n is_open in
    let before = subst (λ r. IfOk r (λ old. old ≡ found c.args.n)) c.unwrap-before.ensures c.insert.ensures.old in
    ap (λ (o : Option Client). unwrap_or o no_client) (sym c.unwrap.ensures ∙ before ∙ here.1.is)
    ∙ sym here.1.at ∙ ap (λ (z : List Client). client_at z c.args.n) c.self.view_is
