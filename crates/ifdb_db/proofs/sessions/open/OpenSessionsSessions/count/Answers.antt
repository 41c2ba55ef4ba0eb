use Rattle.std.proofs.Common.{◌∙◌, length, nat_eq, sym, ap}
use Rattle.indexmap.specs.IndexMap.{get}
use Rattle.ifdb_db.proofs.SessionLaws.{as_many}
use Rattle.ifdb_db.proofs.sessions.open.OpenSessionsSessions.count.Goals as goal

pub returns : goal.returns
returns c = c.len.ensures ∙ c.self.inside.over.ok.0 ∙ sym (as_many (get nat_eq c.self.inside.kept) c.self.inside.over.items) ∙ ap length c.self.view_is
