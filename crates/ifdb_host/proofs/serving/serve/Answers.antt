use Rattle.std.proofs.Common.{rules, ◌≡◌, ◌≤◌, ◌∙◌, Err, inl, inr, sym, ap, subst, arith, All, true, false}
use Rattle.std.specs.Prelude.{Contains}
use Rattle.std.proofs.lemmas.Result.{IfErr-at_err, IfOk-at_ok}
use Rattle.std.specs.Io.KnownBytes.{Appends}
use Rattle.ifdb_io.specs.Causes.{Rose, WritesShort}
use Rattle.ifdb_durable.specs.Told.{Begins}
use Rattle.ifdb_durable.proofs.Begins.{begins_all}
use Rattle.ifdb_service.specs.Summary.{listening_line}
use Rattle.ifdb_host.specs.Fronts.{opening_of, HasFrontOf, LeavesFrom}
use Rattle.ifdb_host.specs.Gates.{Exchanges}
use Rattle.ifdb_host.specs.Serving.{ServesOpened, span_of}
use Rattle.ifdb_host.proofs.AtGates.{exchanged}
use Rattle.ifdb_host.proofs.Visits.{site_refused, visited_so}
use Rattle.ifdb_host.proofs.serving.serve.Goals as goal

pub returns-in-Err : goal.returns-in-Err
returns-in-Err g c = record {
  serves = λ opening is.
      let k = c.close.ensures in
      let d = span_of g.D.Disk.tells g.D.Disk.faults opening.disk c.close.result.disk in
      let begins : Begins (opening_of opening) c.args.database.member.receipt = subst (Begins (opening_of opening)) (sym is) (begins_all (opening_of opening)) in
      subst (ServesOpened g.S.GateSite g.S.Gate.Gate g.S.Gate.Port.Port g.W.Sink g.N.Begins.first c.args.plan c.args.site.now c.open.new.self c.args.output.now c.args.output.now opening.size d) (sym c.site_end.ensures)
      (site_refused g.S.GateSite g.S.Gate.Gate g.S.Gate.Port.Port g.W.Sink g.N.Begins.first c.args.plan c.args.site.now c.open.new.self c.args.output.now opening.size d c.open.ensures.later c.in-Err.fault
      (λ e. c.open.ensures.failed (c.in-Err.is ∙ ap Err e))
      (record { asked = c.open.ensures.asked; waiting = c.in-Err.ensures.refused; back = c.open.ensures.back })
      (λ texts sized shows.
      subst (λ h. LeavesFrom (g.D.Disk.tells opening.disk) (g.D.Disk.tells c.close.result.disk) (HasFrontOf texts g.N.Begins.first h 0)) c.requires.pass.nothing
      (k.fronts opening texts begins sized shows)));
}

pub returns-in-Err-write_numbered : goal.returns-in-Err-write_numbered
returns-in-Err-write_numbered g c = record {
  serves = λ opening is.
      let e = c.close-in-Err-write_numbered.ensures in
      let k = c.close-in-Err-write_numbered-2.ensures in
      let d = span_of g.D.Disk.tells g.D.Disk.faults opening.disk c.close-in-Err-write_numbered-2.result.disk in
      let begins : Begins (opening_of opening) c.args.database.member.receipt = subst (Begins (opening_of opening)) (sym is) (begins_all (opening_of opening)) in
      let given = c.in-Ok.gates.items in
      let all = exchanged g.S.GateSite c.args.plan c.args.site.now c.open.new.self c.close-in-Err-write_numbered.new.self given given
      c.open.ensures.asked e.asked (search rules) e.waiting c.open.ensures.back e.back (search rules) in
      let later = c.open.ensures.later in
      let same = e.faults in
      let rose : Rose (g.W.Sink.faults c.args.output.now) (g.W.Sink.faults c.write_numbered.new.output) = search rules in
      let short : WritesShort (g.W.Sink.written c.args.output.now) (g.W.Sink.written c.write_numbered.new.output) (listening_line c.args.plan.port) = search rules in
      record {
        done = λ e. cc;
        cut = λ _. (
          rose,
          inl (
            (given, all),
            short,
            λ texts sized shows.
                subst (λ h. LeavesFrom (g.D.Disk.tells opening.disk) (g.D.Disk.tells c.close-in-Err-write_numbered-2.result.disk) (HasFrontOf texts g.N.Begins.first h 0)) c.requires.pass.nothing
                (k.fronts opening texts begins sized shows),
          ),
        );
        disk = λ e. cc;
        site = λ e. cc;
        memory = λ e. cc;
        opened = λ at e. cc;
        titled = λ e. cc;
        output_later = c.write_numbered.ensures.cause.later;
        site_later = omega arith;
      };
}

pub visit-ended-requires-clause-new : goal.visit-ended-requires-clause-new
visit-ended-requires-clause-new g c κs within = λ k d lt. record { none_out = c.in-Ok.ensures.none_out k d lt; none_back = c.in-Ok.ensures.none_back k d lt }

pub returns-in-Err-ended : goal.returns-in-Err-ended
returns-in-Err-ended g c = record {
  serves = λ opening is.
      let e = c.close-in-Err-ended.ensures in
      let given = c.in-Ok.gates.items in
      let same : c.in-Err-ended.field-0.gates ≡ c.in-Ok.gates = search rules in
      let all = exchanged g.S.GateSite c.args.plan c.args.site.now c.open.new.self c.close-in-Err-ended.new.self given c.in-Err-ended.field-0.gates.items
      c.open.ensures.asked e.asked (search rules) e.waiting c.open.ensures.back e.back (search rules) in
      let line : Appends (g.W.Sink.written c.args.output.now) (g.W.Sink.written c.write_numbered.new.output) (listening_line c.args.plan.port) = search rules in
      let later = c.open.ensures.later in
      let kept = e.faults in
      record {
        done = λ e. cc;
        cut = λ e. cc;
        disk = λ e. cc;
        site = λ e. cc;
        memory = λ _. (
          IfErr-at_err _ c.in-Err-ended.is (c.visit-ended.ensures.idle opening is),
          inr (inr (given, subst (λ d. Exchanges g.S.GateSite c.args.plan c.args.site.now c.close-in-Err-ended.new.self given d.items) same all), inr line),
        );
        opened = λ at e. cc;
        titled = λ e. cc;
        output_later = c.write_numbered.ensures.cause.later;
        site_later = omega arith;
      };
}

pub returns-in-Ok-ended : goal.returns-in-Ok-ended
returns-in-Ok-ended g c = record {
  serves = λ opening is.
      let e = c.close-in-Ok-ended.ensures in
      let told = c.told.ensures in
      let d = span_of g.D.Disk.tells g.D.Disk.faults opening.disk c.visit-ended.result.closed.disk in
      let all = exchanged g.S.GateSite c.args.plan c.args.site.now c.open.new.self c.close-in-Ok-ended.new.self c.in-Ok.gates.items c.in-Ok-ended.gates.items
      c.open.ensures.asked e.asked (search rules) e.waiting c.open.ensures.back e.back (search rules) in
      let line : Appends (g.W.Sink.written c.args.output.now) (g.W.Sink.written c.write_numbered.new.output) (listening_line c.args.plan.port) = search rules in
      let first = c.open.ensures.later in
      let kept = e.faults in
      let same : c.deref.result.now ≡ c.in-Ok-ended.gates.items = search rules in
      let site_later : g.S.GateSite.faults c.args.site.now ≤ g.S.GateSite.faults c.close-in-Ok-ended.new.self = omega (arith, first, kept) in
      visited_so g.S.GateSite g.S.Gate.Gate g.S.Gate.Port.Port g.W.Sink g.N.Begins.first c.args.plan c.args.site.now c.close-in-Ok-ended.new.self c.args.output.now opening.size d site_later
      c.write_numbered.new.output c.told.new.output c.in-Ok.gates.items c.in-Ok-ended.gates.items c.visit-ended.result.closed.counts all line c.write_numbered.ensures.cause.later told.later
      c.visit-ended.result.closed.has_failed c.have_ended-is_done.result c.told.result
      (IfOk-at_ok _ c.in-Ok-ended.is (c.visit-ended.ensures.ended opening is)) (c.visit-ended.ensures.failed opening is)
      (subst (λ l. c.have_ended-is_done.result ≡ true → All (λ gate. g.S.Gate.Gate.ended gate ≡ true) l) same c.have_ended-is_done.ensures.all)
      (subst (λ l. c.have_ended-is_done.result ≡ false → (gate : g.row.S-Gate.Denot) × Contains l gate × (g.S.Gate.Gate.ended gate ≡ false)) same c.have_ended-is_done.ensures.one) told.disk told.site told.still told.done;
}
