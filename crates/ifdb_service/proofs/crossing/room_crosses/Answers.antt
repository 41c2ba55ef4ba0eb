use Rattle.ifdb_service.proofs.Rooms.{room_crosses, session_crosses}
use Rattle.ifdb_service.proofs.crossing.room_crosses.Goals as goal

pub returns-clause-room : goal.returns-clause-room
returns-clause-room c =
    room_crosses c.catalog_crosses.ensures.send c.catalog_crosses.ensures.sync (record { owned = c.sends.ensures.owned; leaving = λ k x w. tt }) (record { owned = c.sends-2.ensures.owned; leaving = λ k x w. tt })

pub returns-clause-session : goal.returns-clause-session
returns-clause-session c =
    session_crosses c.catalog_crosses.ensures.send c.catalog_crosses.ensures.sync (record { owned = c.sends-2.ensures.owned; leaving = λ k x w. tt })
