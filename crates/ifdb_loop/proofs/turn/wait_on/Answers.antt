use Rattle.std.proofs.Common.{◌<◌, arith}
use Rattle.ifdb_loop.specs.Standing.{traffic_of}
use Rattle.ifdb_loop.proofs.Endings.{silent}
use Rattle.ifdb_loop.proofs.turn.wait_on.Goals as goal

pub returns-clause-exchanges : goal.returns-clause-exchanges
returns-clause-exchanges g c =
    let expired = c.expire_read.ensures in
    let fault : 0 < g.P.Port.unread c.expire_read.new.self = omega (arith, expired.cause) in
    λ long limit held d line x. silent long (traffic_of g.P.Port c.args.client.now.port) (traffic_of g.P.Port c.expire_read.new.self) _ _ held _ d
    expired.given expired.written fault line x
