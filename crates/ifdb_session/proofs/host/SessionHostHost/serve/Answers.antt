use Rattle.std.proofs.Common.{rules}
use Rattle.ifdb_session.proofs.Hosting.{serves_so, one_more_fault, no_more_faults}
use Rattle.ifdb_session.proofs.host.SessionHostHost.serve.Goals as goal

pub returns-clause-served : goal.returns-clause-served
returns-clause-served g c =
    let e = c.serve_link-ending.ensures in
    serves_so g.K.Source g.K.Sink g.Q.Records g.S.Settles c.args.self.now c.args.link.now c.serve_link-ending.new.link c.serve_link-ending.result c.serve_link-ending.new.pass c.serve_link-ending.new.keeper
    c.saturating_add-self.result e.sees e.keeper e.served e.unserved e.unopened e.read_cause e.unfailed e.write_cause e.unkept
    (one_more_fault c.args.self.now.faults c.saturating_add-self.result c.serve_link-ending.result c.saturating_add-self.ensures (search rules))

pub returns-then-is_orderly-clause-served : goal.returns-then-is_orderly-clause-served
returns-then-is_orderly-clause-served g c =
    let e = c.serve_link-ending.ensures in
    serves_so g.K.Source g.K.Sink g.Q.Records g.S.Settles c.args.self.now c.args.link.now c.serve_link-ending.new.link c.serve_link-ending.result c.serve_link-ending.new.pass c.serve_link-ending.new.keeper
    c.args.self.now.faults e.sees e.keeper e.served e.unserved e.unopened e.read_cause e.unfailed e.write_cause e.unkept
    (no_more_faults c.args.self.now.faults c.serve_link-ending.result (search rules) (search rules))
