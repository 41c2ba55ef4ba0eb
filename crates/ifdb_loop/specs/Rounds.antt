-- What is so of a loop at every moment, and at its end.
use Rattle.std.specs.Prelude.{◌≡◌, ◌≤◌, ℕ, List, ◌++◌, map, All, count_by, nat_eq, IfSome, IsPermutation}
use Rattle.ifdb_loop.specs.declared.gate.Gate as gate
use Rattle.ifdb_loop.specs.declared.port.Port as port
use Rattle.ifdb_loop.specs.declared.service.Service as service
use Rattle.ifdb_loop.specs.Visits.{Visit}
use Rattle.ifdb_loop.specs.Standing.{WasServed}

-- what a gate tells of itself, but for its connections, is as it was
pub record IsSteady {G P : Type 0} (gates : gate.Ghosts G P) (old new : G) : Type 0 where
  pub most : gates.most new ≡ gates.most old
  pub ended : gates.ended new ≡ gates.ended old
  pub faults : gates.faults new ≡ gates.faults old

module _ {S T P G : Type 0} (services : service.Ghosts S T) (ports : port.Ghosts P) (gates : gate.Ghosts G P) where
  -- These connections were given back, each served by a session of its own. The numbers of these sessions, and of those of the
  -- connections that are in, are the numbers of all sessions that were opened, each of which was opened once.
  pub record IsInOrder (s : S) (g : G) (numbers : List ℕ) : Type 0 where
    pub visits : List (Visit P)
    pub back : IfSome (gates.back g) (λ told. told ≡ map (λ v. v.over) visits)
    pub served : All (WasServed services ports s (gates.faults g)) visits
    pub opened : IsPermutation (map (λ v. v.number) visits ++ numbers) (services.opened s)
    pub once : (n : ℕ) → count_by (nat_eq n) (services.opened s) ≤ 1
