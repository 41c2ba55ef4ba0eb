-- The connections of a loop.
use Rattle.std.specs.Prelude.{◌≡◌, ◌≢◌, ◌⊎◌, ℕ, List, [], ◌∷◌, ◌++◌, Some, true, map, count_by, nat_eq, IsPermutation}
use Rattle.slab.specs.Slab.{Slab, get, values}
use Rattle.ifdb_loop.specs.declared.port.Port as port
use Rattle.ifdb_loop.specs.declared.service.Service as service
use Rattle.ifdb_loop.specs.declared.client.Client.{Client}
use Rattle.ifdb_loop.specs.declared.over.Over.{Over}
use Rattle.ifdb_loop.specs.declared.ending.Ending.{Ending}
use Rattle.ifdb_loop.specs.Standing.{IsServed, WasServed}

-- the connection at a key has ended so, and owes nothing that can be written still
abbrev pub HasEndedAt : {P T : Type 0} → Slab (Client P T) → ℕ → Ending → Type 0
HasEndedAt {P} {T} clients k ending =
    (c : Client P T) × (get clients k ≡ Some c) × (c.ending ≡ Some ending) × ((c.wires.owed ≡ []) ⊎ (c.is_lost ≡ true))

module _ {S T : Type 0} (services : service.Ghosts S T) where
  -- the numbers of the sessions of connections that are in
  abbrev pub numbers_in : {P : Type 0} → Slab (Client P T) → List ℕ
  numbers_in clients = map (λ c. services.number c.seat) (values clients)

  -- a connection came in: a session was opened for it, which has a number of its own, and no other
  pub record Admits {P : Type 0} (s t : S) (old new : Slab (Client P T)) : Type 0 where
    pub number : ℕ
    pub opened : services.opened t ≡ services.opened s ++ number ∷ []
    pub fresh : count_by (nat_eq number) (services.opened s) ≡ 0
    pub more : IsPermutation (number ∷ numbers_in old) (numbers_in new)

module _ {S T P : Type 0} (services : service.Ghosts S T) (ports : port.Ghosts P) where
  -- each is served, and no two have one session
  pub record AreServed (s : S) (clients : Slab (Client P T)) : Type 0 where
    pub each : (k : ℕ) (c : Client P T) → get clients k ≡ Some c → IsServed services ports s c
    pub apart : (j k : ℕ) (c d : Client P T) → get clients j ≡ Some c → get clients k ≡ Some d → j ≢ k → services.number c.seat ≢ services.number d.seat

  -- a connection was taken out, was served by the session of this number, and is over
  pub record TakesOut (s : S) (old new : Slab (Client P T)) (faults : ℕ) (o : Over P) : Type 0 where
    pub number : ℕ
    pub fewer : IsPermutation (number ∷ numbers_in services new) (numbers_in services old)
    pub served : WasServed services ports s faults (record { over = o; number = number })
