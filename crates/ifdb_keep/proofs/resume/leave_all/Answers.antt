use Rattle.std.proofs.Common.{arith, refl, ◌∙◌, ◌<◌, ◌≤◌, length}
use Rattle.ifdb_keep.proofs.Resuming.{leaving_none, leaving_more, leaving_all, clients_many}
use Rattle.ifdb_keep.proofs.resume.leave_all.Goals as goal

pub each-init : goal.each-init
each-init c = record { leaving = λ st stands. leaving_none st c.args.room.now stands }

pub each-preserved : goal.each-preserved
each-preserved c = record {
  leaving = λ st stands.
      let many = clients_many c.args.room.now st stands in
      let lt : c.each.n < length st.sessions = omega (arith, many) in
      leaving_more st c.each.room c.leave.new.self c.each.n lt (c.each.invariant.leaving st stands) c.leave.ensures;
}

pub returns : goal.returns
returns c = λ st stands.
    let many = clients_many c.args.room.now st stands in
    let le : length st.sessions ≤ c.each.n = omega (arith, many) in
    leaving_all st c.each.room c.each.n le (c.each.invariant.leaving st stands)
