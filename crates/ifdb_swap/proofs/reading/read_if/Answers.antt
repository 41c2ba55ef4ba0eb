use Rattle.std.proofs.Common.{◌≡◌, ◌∙◌, true, Err, ap, sym, subst}
use Rattle.std.specs.Prelude.{IfOk, IfSome}
use Rattle.ifdb_log.specs.declared.fault.LogFault.{LogFault}
use Rattle.ifdb_log.specs.declared.fault.LogFault.TheVariants as fault
use Rattle.ifdb_swap.specs.Swapped.{HasNoLog, IsWorth}
use Rattle.ifdb_swap.specs.declared.when.When.TheVariants as when
use Rattle.ifdb_swap.proofs.Deciding.{not_damaged, worth_found}
use Rattle.ifdb_swap.proofs.reading.read_if.Goals.{in-Err, in-Ok-extract}
use Rattle.ifdb_swap.proofs.reading.read_if.Goals as goal

pub returns-clause-needed : goal.returns-clause-needed
returns-clause-needed g c =
    let tells = g.D.Disk.tells in
    let t = tells c.args.disk in
    let read = c.read_log-extract in
    elim c.match-extract.branch [
      | in-Ok-extract w ↦
          subst (λ r. IfOk r (λ found. IfSome found (λ x. c.args.when ≡ when.IfWorth → IsWorth true t))) (sym w.extract-is)
          (worth_found t (tells c.len.new.self) c.in-Ok.size w.in-Ok-extract.extract (c.args.when ≡ when.IfWorth) read.result.extract w.wanted-extract.result c.len.ensures.still c.in-Ok.ensures.length w.in-Ok-extract.is
          read.ensures.extract w.wanted-extract.ensures.needed)
      | in-Err w ↦ subst (λ r. IfOk r (λ found. IfSome found (λ x. c.args.when ≡ when.IfWorth → IsWorth true t))) (sym w.extract-is) tt
    ]

pub returns-clause-damaged : goal.returns-clause-damaged
returns-clause-damaged g c = λ at is. elim c.match-extract.branch [
  | in-Ok-extract w ↦ λ log has. not_damaged w.wanted-extract.result at w.wanted-extract.ensures.memory (sym w.extract-is ∙ is)
  | in-Err w ↦
      let same : w.in-Err.fault ≡ fault.Damaged at = cc (w.extract-is, is) in
      subst (λ t. HasNoLog t) c.len.ensures.still (c.read_log-extract.ensures.damaged at (w.in-Err.is ∙ ap (λ (f : LogFault). Err f) same))
]
