use Rattle.std.proofs.Common.{take, ◌&&◌, eqb}
use Rattle.ifdb_label.specs.Ancestors.{has}
use Rattle.ifdb_authority.specs.Search.{IsExtended}
use Rattle.ifdb_authority.proofs.authority.Authority.add_grantors.Given as goal

-- with the grantors so far
abbrev pub invariant-loop-from : goal.invariant-loop-from
invariant-loop-from l = IsExtended l.initial.found.keys l.found.keys (λ h. eqb h.tag l.to.tag && has (take l.from-index l.from-items) h.holder)
