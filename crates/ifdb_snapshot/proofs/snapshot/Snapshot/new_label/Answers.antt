use Rattle.std.proofs.Common.{◌≡◌, sym, subst}
use Rattle.std.specs.Prelude.{◌⊎◌, IfErr, Ok, option_copied}
use Rattle.ifdb_bound.specs.declared.request.Bound.{Bound}
use Rattle.ifdb_wire.specs.declared.fault.Fault.TheVariants.{OutOfMemory}
use Rattle.ifdb_model.specs.Session.{Session}
use Rattle.ifdb_model.specs.Step.{refuses, set_label}
use Rattle.ifdb_snapshot.specs.Labels.{IsAt}
use Rattle.ifdb_snapshot.proofs.snapshot.Snapshot.new_label.Goals as goal

pub returns-in-SetLabel-clause-refused : goal.returns-in-SetLabel-clause-refused
returns-in-SetLabel-clause-refused c =
    subst (λ (x : Bound). IfErr c.label_allowed.result (λ fault. (fault ≡ OutOfMemory)
    ⊎ ((s : Session) → IsAt (option_copied c.args.ceiling) c.args.old.now s → set_label c.args.self.now.public c.args.asker s (Ok x) ≡ refuses s fault)))
    (sym c.in-SetLabel.is) c.label_allowed.ensures.refused
