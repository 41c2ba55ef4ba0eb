use Rattle.std.proofs.Common.{◌≡◌, true, All, take}
use Rattle.ifdb_host.proofs.serving.have_ended.Given as goal

-- the gates before the index are at their end
abbrev pub invariant-loop-gate : goal.invariant-loop-gate
invariant-loop-gate g l = All (λ gate. g.G.Gate.ended gate ≡ true) (take l.gate-index l.gates)
