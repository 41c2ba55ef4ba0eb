use Rattle.std.proofs.Common.{ℕ, List, subst}
use Rattle.ifdb_top.specs.Compact.{IsReadied}
use Rattle.ifdb_top.specs.Host.{HostsFile}
use Rattle.ifdb_top.proofs.hosting.host_by_key.Goals as goal

pub returns-clause-hosted : goal.returns-clause-hosted
returns-clause-hosted g c = (
  c.plan_of-plan.result,
  c.plan_of-plan.ensures.plan,
  c.make_ready.new.folder,
  subst (λ (file : List ℕ). IsReadied g.F.Folder g.F.Disk.Disk file c.args.folder.now c.make_ready.new.folder) c.as_str-name.ensures.name c.make_ready.ensures.readied,
  subst (λ (file : List ℕ). HostsFile g.W.Sink g.F.Folder g.F.Disk.Disk g.S.GateSite g.S.Gate.Gate g.S.Gate.Port.Port file c.plan_of-plan.result c.args.output.now c.host_file.new.output c.args.site.now c.host_file.new.site c.make_ready.new.folder c.host_file.new.folder c.host_file.result)
      c.as_str-name.ensures.name c.host_file.ensures.hosted,
)
