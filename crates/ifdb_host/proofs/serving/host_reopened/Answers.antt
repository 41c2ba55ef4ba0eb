use Rattle.std.proofs.Common.{rules, ◌≡◌, inl, refl, sym, subst, arith, []}
use Rattle.ifdb_host.specs.Fronts.{HasFrontOf, LeavesFrom}
use Rattle.ifdb_host.proofs.Openings.{shown_leaves}
use Rattle.ifdb_host.proofs.serving.host_reopened.Goals as goal

pub returns-in-Err : goal.returns-in-Err
returns-in-Err g c =
    let t = g.D.Disk.tells c.args.reopened.disk.disk in
    let same : c.in-Err.disk ≡ c.args.reopened.disk.disk = search rules in
    record {
      serves = record {
        done = λ e. cc;
        cut = λ e. cc;
        disk = λ e. cc;
        site = λ e. cc;
        memory = λ e. (
          λ texts sized shows. subst (λ d. LeavesFrom t (g.D.Disk.tells d) (HasFrontOf texts g.N.Begins.first [] 0)) (sym same) (shown_leaves t texts g.N.Begins.first shows),
          inl (refl, refl),
        );
        opened = λ at e. cc;
        titled = λ e. cc;
        output_later = omega arith;
        site_later = omega arith;
      };
    }
