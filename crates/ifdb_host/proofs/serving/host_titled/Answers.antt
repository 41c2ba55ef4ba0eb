use Rattle.std.proofs.Common.{rules, ◌≡◌, sym, subst, ℕ, List}
use Rattle.std.proofs.lemmas.Result.{IfErr-at_err}
use Rattle.ifdb_disk.specs.Clock.{Leaves}
use Rattle.ifdb_log.specs.declared.fault.LogFault.TheVariants as fault
use Rattle.ifdb_model.specs.Log.{Entry}
use Rattle.ifdb_reopen.specs.Causes.{IsCaused}
use Rattle.ifdb_reopen.specs.Files.{IsOldOrBare, ShowsLog}
use Rattle.ifdb_restart.specs.Restarted.{log_in}
use Rattle.ifdb_host.specs.Hosted.{HostsSite}
use Rattle.ifdb_host.specs.Serving.{span_of}
use Rattle.ifdb_reopen.proofs.Unopened.{bare_unopened, shown_on}
use Rattle.ifdb_host.proofs.Openings.{hosts_opened, refused_so, IsReopenedFrom}
use Rattle.ifdb_host.proofs.serving.host_titled.Goals as goal

pub returns-in-Ok-clause-hosts : goal.returns-in-Ok-clause-hosts
returns-in-Ok-clause-hosts g c =
    let t = g.D.Disk.tells c.args.disk in
    let made = c.in-Ok.reopened in
    let u = g.D.Disk.tells made.disk.disk in
    let k : IsReopenedFrom t u made.disk.size (log_in made.restarted.made.items) = record {
      present = g.D.Disk.present c.args.disk;
      titled = c.requires.titled;
      shows = search rules;
      same = search rules;
      moments = search rules;
    } in
    hosts_opened t u _ made.disk.size (log_in made.restarted.made.items) _ _ k g.S.GateSite g.S.Gate.Gate g.S.Gate.Port.Port g.W.Sink
    c.args.plan c.args.site.now c.host_reopened.new.site c.args.output.now c.host_reopened.new.output _ (search rules) _ c.host_reopened.ensures.serves

pub returns-in-Err-clause-hosts : goal.returns-in-Err-clause-hosts
returns-in-Err-clause-hosts g c =
    let t = g.D.Disk.tells c.args.disk in
    let back = c.in-Err.field-0 in
    let u = g.D.Disk.tells back.disk in
    let moments : Leaves t u (IsOldOrBare t) = search rules in
    let cause : IsCaused (g.D.Disk.faults c.args.disk) (g.D.Disk.faults back.disk) back.fault = search rules in
    let none : back.fault ≡ fault.NotALog → ⊥ = IfErr-at_err _ c.in-Err.is c.reopen.ensures.titled in
    let whole : (at : ℕ) → back.fault ≡ fault.Damaged at → (texts : List (List ℕ)) (log : List Entry) → ShowsLog t texts log → ⊥ = IfErr-at_err _ c.in-Err.is c.reopen.ensures.damaged in
    subst (HostsSite g.S.GateSite g.S.Gate.Gate g.S.Gate.Port.Port g.W.Sink c.args.plan c.args.site.now c.args.site.now c.args.output.now c.args.output.now (span_of g.D.Disk.tells g.D.Disk.faults c.args.disk back.disk)) (sym c.end_of.ensures)
    (refused_so g.S.GateSite g.S.Gate.Gate g.S.Gate.Port.Port g.W.Sink c.args.plan c.args.site.now c.args.output.now t u _ _ back.fault
    cause (bare_unopened t u (g.D.Disk.present c.args.disk) c.requires.titled moments) (λ e. absurd (none e))
    (λ at e texts log file. whole at e texts log (shown_on t texts log c.requires.titled file)))
