use Rattle.std.proofs.Common.{◌≡◌, ◌≢◌, ℕ, ◌+◌, ◌++◌, ◌∷◌, ◌∙◌, [], List, Option, Some, length, nat_eq, sym, ap, ap₂, subst, arith}
use Rattle.std.specs.Prelude.{OnOk}
use Rattle.std.specs.Map.{lookup}
use Rattle.indexmap.specs.IndexMap.{get, Updates}
use Rattle.ifdb_db.specs.Client.{Client}
use Rattle.ifdb_db.specs.Sessions.{AreKept, by_number, shown_by}
use Rattle.ifdb_db.proofs.SessionLaws.{apart, as_long, more_kept, more_same, more_shown, on_err}
use Rattle.ifdb_db.proofs.sessions.open.OpenSessionsSessions.add.Goals as goal

-- a reserve that failed
pub returns-in_err-reserve-clause-err : goal.returns-in_err-reserve-clause-err
returns-in_err-reserve-clause-err c =
    let over : List Client = shown_by c.self.inside.over.items in
    on_err c.from_residual.result (ap (λ es. by_number (λ q. lookup (nat_eq q) es) over) c.in_err-reserve.ensures.entries ∙ c.self.view_is)

-- a push that failed
pub returns-in_err-push-clause-err : goal.returns-in_err-push-clause-err
returns-in_err-push-clause-err c =
    on_err c.from_residual-in_err-push.result
    (ap₂ (λ es over. by_number (λ q. lookup (nat_eq q) es) (shown_by over)) c.in_ok-reserve.ensures.entries c.in_err-push.ensures.items ∙ c.self.view_is)

pub invariant_of-self-2 : goal.invariant_of-self-2
invariant_of-self-2 c =
    let found : ℕ → Option Client = get nat_eq c.self.inside.kept in
    let found' : ℕ → Option Client = get nat_eq c.insert.new.self in
    let over : List Client = shown_by c.self.inside.over.items in
    let updates = subst (λ r. OnOk r (Updates nat_eq c.reserve.new.self c.insert.new.self c.len-n.result (Some c.args.session))) c.unwrap.ensures c.insert.ensures.updates in
    let long = as_long c.self.inside.over.items in
    let was = c.self.inside.over.ok.0 in
    let more = c.in_ok-push.ensures.len in
    let len = c.len-n.ensures in
    let at : c.len-n.result ≡ length over + 1 = omega (arith, long, was, more, len) in
    let same : (q : ℕ) → get nat_eq c.reserve.new.self q ≡ found q = λ q. ap (lookup (nat_eq q)) c.in_ok-reserve.ensures.entries in
    let others : (q : ℕ) → q ≢ length over + 1 → found' q ≡ found q =
    λ q ne. apart c.len-n.result (get nat_eq c.reserve.new.self) found' updates.2 q (λ e. ne (e ∙ at)) ∙ same q in
    subst (AreKept found') (sym (more_shown c.self.inside.over.items c.push.new.self.items c.of.result c.in_ok-push.ensures.items))
    (more_kept found over c.self.invariant found' c.of.result.value c.args.session (ap found' (sym at) ∙ updates.1) others)

pub returns-clause-ok : goal.returns-clause-ok
returns-clause-ok c =
    let found : ℕ → Option Client = get nat_eq c.self.inside.kept in
    let found' : ℕ → Option Client = get nat_eq c.insert.new.self in
    let over : List Client = shown_by c.self.inside.over.items in
    let updates = subst (λ r. OnOk r (Updates nat_eq c.reserve.new.self c.insert.new.self c.len-n.result (Some c.args.session))) c.unwrap.ensures c.insert.ensures.updates in
    let long = as_long c.self.inside.over.items in
    let was = c.self.inside.over.ok.0 in
    let more = c.in_ok-push.ensures.len in
    let len = c.len-n.ensures in
    let at : c.len-n.result ≡ length over + 1 = omega (arith, long, was, more, len) in
    let same : (q : ℕ) → get nat_eq c.reserve.new.self q ≡ found q = λ q. ap (lookup (nat_eq q)) c.in_ok-reserve.ensures.entries in
    let others : (q : ℕ) → q ≢ length over + 1 → found' q ≡ found q =
    λ q ne. apart c.len-n.result (get nat_eq c.reserve.new.self) found' updates.2 q (λ e. ne (e ∙ at)) ∙ same q in
    ap (by_number found') (more_shown c.self.inside.over.items c.push.new.self.items c.of.result c.in_ok-push.ensures.items)
    ∙ more_same found over c.self.invariant found' c.of.result.value c.args.session (ap found' (sym at) ∙ updates.1) others
    ∙ ap (λ (z : List Client). z ++ c.args.session ∷ []) c.self.view_is
