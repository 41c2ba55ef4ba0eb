use Rattle.ifdb_top.proofs.hosting.plan_of.Goals as goal

pub returns-clause-plan : goal.returns-clause-plan
returns-clause-plan g c =
    let e = c.new.ensures in
    record {
      processors = c.processors.result;
      port = e.port;
      loops = e.loops;
      connections = e.connections;
      limit = e.limit;
      hello = e.hello;
      idle = e.idle;
      stall = e.stall;
      key_is = e.key;
    }
