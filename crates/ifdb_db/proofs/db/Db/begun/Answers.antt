use Rattle.std.proofs.Common.{◌∷◌, ◌++◌, [], ap, sym, subst, ◌∙◌}
use Rattle.ifdb_db.specs.Desk.{Desk, settled}
use Rattle.ifdb_db.specs.Kept.{IsSound}
use Rattle.ifdb_db.proofs.BeginLaws.{begun_settled, sound_begun}
use Rattle.ifdb_db.proofs.db.Db.begun.Goals as goal

pub invariant_of-self-2 : goal.invariant_of-self-2
invariant_of-self-2 c =
    let d : Desk = record {
      seen = record { public = c.self.inside.public; rows = c.self.inside.store.rows };
      commits = c.self.inside.store.commits;
      count = c.self.inside.count;
      begins = c.self.inside.begins.items;
    } in
    let more = c.push_reserved.ensures.items ∙ ap (λ l. l ++ d.count ∷ []) c.in_ok-reserve.ensures.items in
    subst (λ begins. IsSound (record d { begins = begins })) (sym more) (sound_begun d c.self.invariant)

pub returns-clause-noted : goal.returns-clause-noted
returns-clause-noted c =
    let d : Desk = record {
      seen = record { public = c.self.inside.public; rows = c.self.inside.store.rows };
      commits = c.self.inside.store.commits;
      count = c.self.inside.count;
      begins = c.self.inside.begins.items;
    } in
    let more = c.push_reserved.ensures.items ∙ ap (λ l. l ++ d.count ∷ []) c.in_ok-reserve.ensures.items in
    ap (λ begins. record d { begins = begins }) more ∙ sym (begun_settled d c.self.invariant) ∙ ap (λ (x : Desk). settled (record x { begins = x.begins ++ x.count ∷ [] })) c.self.view_is
