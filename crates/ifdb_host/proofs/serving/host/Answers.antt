use Rattle.std.proofs.Common.{rules, ◌∙◌, ap, sym, subst, Err}
use Rattle.ifdb_log.specs.Causes.{HasLogCause}
use Rattle.ifdb_host.specs.Hosted.{HostsSite}
use Rattle.ifdb_host.specs.Serving.{span_of}
use Rattle.ifdb_reopen.proofs.Unopened.{titled_unopened, IsTitledFrom}
use Rattle.ifdb_host.proofs.Openings.{hosts_before, refused_so}
use Rattle.ifdb_host.proofs.serving.host.Goals as goal

pub returns-in-Ok : goal.returns-in-Ok
returns-in-Ok g c =
    let t = g.D.Disk.tells c.args.disk in
    let u = g.D.Disk.tells c.entitle.new.disk in
    let k : IsTitledFrom t u = record {
      present = g.D.Disk.present c.args.disk;
      titled = search rules;
      entitles = search rules;
      moments = c.entitle.ensures.moments;
    } in
    hosts_before g.S.GateSite g.S.Gate.Gate g.S.Gate.Port.Port g.W.Sink c.args.plan c.args.site.now c.host_titled.new.site c.args.output.now c.host_titled.new.output
    t u _ _ _ _ _ k (search rules) c.host_titled.ensures.hosts c.host_titled.ensures.titled

pub returns-in-Err : goal.returns-in-Err
returns-in-Err g c =
    let t = g.D.Disk.tells c.args.disk in
    let u = g.D.Disk.tells c.entitle.new.disk in
    subst (HostsSite g.S.GateSite g.S.Gate.Gate g.S.Gate.Port.Port g.W.Sink c.args.plan c.args.site.now c.args.site.now c.args.output.now c.args.output.now (span_of g.D.Disk.tells g.D.Disk.faults c.args.disk c.entitle.new.disk)) (sym c.end_of.ensures)
    (refused_so g.S.GateSite g.S.Gate.Gate g.S.Gate.Port.Port g.W.Sink c.args.plan c.args.site.now c.args.output.now t u _ _ c.in-Err.fault
    (subst (HasLogCause _ _) c.in-Err.is c.entitle.ensures.cause) (titled_unopened t u c.entitle.ensures.moments)
    (λ e. let told = c.in-Err.is ∙ ap Err e in (c.entitle.ensures.same told, c.entitle.ensures.other told))
    (λ at e texts log file. absurd (c.entitle.ensures.sound at (c.in-Err.is ∙ ap Err e))))
