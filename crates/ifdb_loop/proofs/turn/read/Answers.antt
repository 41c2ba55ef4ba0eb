use Rattle.std.proofs.Common.{◌≡◌, ◌<◌, ◌≤◌, ◌+◌, ◌∙◌, Some, Ok, None, drop, length, ap, arith, rules}
use Rattle.std.proofs.lemmas.List.{length-drop}
use Rattle.ifdb_loop.specs.Standing.{HasExchanged, traffic_of}
use Rattle.ifdb_loop.proofs.Talking.{came_none}
use Rattle.ifdb_loop.proofs.Endings.{came, came_end, came_fault, came_past}
use Rattle.ifdb_loop.proofs.turn.read.Goals as goal

pub returns-in-Err-clause-exchanges : goal.returns-in-Err-clause-exchanges
returns-in-Err-clause-exchanges g c =
    let e = c.in-Err.ensures in
    let got = drop (length c.args.chunk.now) c.fill.new.self in
    let none : length got ≡ 0 = omega (arith, length-drop (length c.args.chunk.now) c.fill.new.self, e.count) in
    let fault : 0 < g.P.Port.unread c.fill.new.port = omega (arith, e.cause.failed) in
    λ long limit d x.
    let before : HasExchanged g.P.Port long limit c.args.client.now None c.args.chunk.now d = rw c.requires.held (rw c.requires.going at x) in
    came_fault long (traffic_of g.P.Port c.args.client.now.port) (traffic_of g.P.Port c.fill.new.port) _ _ c.args.chunk.now got c.fill.new.self _ d
    e.given e.written fault none c.requires.part before

pub returns-in_default-clause-exchanges : goal.returns-in_default-clause-exchanges
returns-in_default-clause-exchanges g c =
    let e = c.in-Ok.ensures in
    let got = drop (length c.args.chunk.now) c.fill.new.self in
    let is_none : c.in-Ok.found ≡ None = search rules in
    let size : length c.fill.new.self ≡ length c.args.chunk.now + 0 = rw is_none at e.count in
    let none : length got ≡ 0 = omega (arith, length-drop (length c.args.chunk.now) c.fill.new.self, size) in
    let same : c.fill.new.self ≡ c.args.chunk.now = came_none c.args.chunk.now got c.fill.new.self e.bytes none in
    λ long limit d x.
    let before : HasExchanged g.P.Port long limit c.args.client.now None c.args.chunk.now d = rw c.requires.held (rw c.requires.going at x) in
    c.wait_on.ensures.exchanges long limit c.fill.new.self d (rw same c.requires.part)
    (came long (traffic_of g.P.Port c.args.client.now.port) (traffic_of g.P.Port c.fill.new.port) _ c.args.client.now.room c.args.client.now.room
    c.args.chunk.now got c.fill.new.self _ d e.bytes e.given e.written e.cause.kept e.unwritten (omega (arith, none)) before)

pub returns-then-count-eq0-clause-exchanges : goal.returns-then-count-eq0-clause-exchanges
returns-then-count-eq0-clause-exchanges g c =
    let e = c.in-Ok.ensures in
    let got = drop (length c.args.chunk.now) c.fill.new.self in
    let is_none : c.in-Ok.found ≡ Some 0 = c.in-Some.is ∙ ap Some c.if-count-eq0.true in
    let size : length c.fill.new.self ≡ length c.args.chunk.now + 0 = rw is_none at e.count in
    let none : length got ≡ 0 = omega (arith, length-drop (length c.args.chunk.now) c.fill.new.self, size) in
    λ long limit d x.
    let before : HasExchanged g.P.Port long limit c.args.client.now None c.args.chunk.now d = rw c.requires.held (rw c.requires.going at x) in
    came_end long (traffic_of g.P.Port c.args.client.now.port) (traffic_of g.P.Port c.fill.new.port) _ _ c.args.chunk.now got c.fill.new.self _ d
    e.given e.written e.cause.kept none (e.end (ap Ok is_none)) c.requires.part before

pub returns-then-room-eq0-clause-exchanges : goal.returns-then-room-eq0-clause-exchanges
returns-then-room-eq0-clause-exchanges g c =
    let e = c.in-Ok.ensures in
    let got = drop (length c.args.chunk.now) c.fill.new.self in
    let size : length c.fill.new.self ≡ length c.args.chunk.now + c.in-Some.count = rw c.in-Some.is at e.count in
    let most : c.in-Some.count ≤ c.min-most.result = rw c.in-Some.is at e.most in
    let one : length got ≡ 1 = grind (arith, length-drop (length c.args.chunk.now) c.fill.new.self, size, most) in
    λ long limit d x.
    let before : HasExchanged g.P.Port long limit c.args.client.now None c.args.chunk.now d = rw c.requires.held (rw c.requires.going at x) in
    came_past long (traffic_of g.P.Port c.args.client.now.port) (traffic_of g.P.Port c.fill.new.port) _ _ c.args.chunk.now got c.fill.new.self _ d
    e.given e.written e.cause.kept e.unwritten c.if-room-eq0.true one c.requires.part before

pub returns-clause-exchanges : goal.returns-clause-exchanges
returns-clause-exchanges g c =
    let e = c.in-Ok.ensures in
    let got = drop (length c.args.chunk.now) c.fill.new.self in
    let size : length c.fill.new.self ≡ length c.args.chunk.now + c.in-Some.count = rw c.in-Some.is at e.count in
    let most : c.in-Some.count ≤ c.min-most.result = rw c.in-Some.is at e.most in
    let count : length got ≡ c.in-Some.count = omega (arith, length-drop (length c.args.chunk.now) c.fill.new.self, size) in
    λ long limit d x.
    let before : HasExchanged g.P.Port long limit c.args.client.now None c.args.chunk.now d = rw c.requires.held (rw c.requires.going at x) in
    came long (traffic_of g.P.Port c.args.client.now.port) (traffic_of g.P.Port c.fill.new.port) _ c.args.client.now.room _ c.args.chunk.now got c.fill.new.self _ d
    e.bytes e.given e.written e.cause.kept e.unwritten (grind (arith, count, most)) before
