-- What workers do: each serves what its door gives, up to the door's end or its failure, or until its host is over.
use Rattle.std.specs.Prelude.{◌≡◌, ◌⊎◌, ℕ, ◌≤◌, ◌<◌, ◌+◌, ◌^◌, true, not, List, [], length, map, slice_index_or}
use Rattle.ifdb_io.specs.Causes.{Rose}
use Rattle.ifdb_io.specs.Doors.{LosesFirst, Becomes}
use Rattle.ifdb_io.specs.declared.doors.Door as door
use Rattle.ifdb_pool.specs.Visits.{Visit, Serves, GainsAll}
use Rattle.ifdb_pool.specs.declared.host.Host as host
use Rattle.ifdb_pool.specs.declared.worker.Worker.{Worker}

-- over what doors and hosts of these types mean
module _ {D H L : Type 0} (doors : door.Ghosts D L) (hosts : host.Ghosts H L) where
  -- the host may serve, and the count of links has room for all that the door may give
  abbrev pub IsReady : Worker D H → Type 0
  IsReady w = hosts.ready w.host × (w.links + doors.most w.door < 2 ^ 64)

  -- the worker's host served these visits, which were the next that its door gave, and each of which went back to the door
  pub record Served (w w' : Worker D H) (visits : List (Visit L)) : Type 0 where
    pub host : Serves hosts.serves w.host visits w'.host
    pub ready : hosts.ready w'.host
    pub coming : LosesFirst (doors.coming w.door) (doors.coming w'.door) (map (λ v. v.came) visits)
    pub back : GainsAll (doors.back w.door) (doors.back w'.door) (map (λ v. v.went) visits)
    pub out : doors.out w'.door ≡ doors.out w.door
    pub most : doors.most w'.door + length visits ≤ doors.most w.door
    pub links : w'.links ≡ w.links + length visits
    pub later : doors.faults w.door ≤ doors.faults w'.door

  -- The worker served all that its door gave, up to its end, where none of the links that it told is left; or up to its failure, or
  -- until the host was over.
  pub record Worked (w w' : Worker D H) : Type 0 where
    pub visits : List (Visit L)
    pub served : Served w w' visits
    pub failed : w'.failed ≡ not (doors.ended w'.door)
    pub cause : w'.failed ≡ true → Rose (doors.faults w.door) (doors.faults w'.door) ⊎ hosts.over w'.host
    pub all : doors.ended w'.door ≡ true → Becomes (doors.coming w.door) (doors.coming w'.door) []

-- each of the workers did this, and none was lost or moved
abbrev pub AllWorked : {W : Type 0} → (W → W → Type 0) → List W → List W → Type 0
AllWorked {W} Did ws ws' = (length ws' ≡ length ws) × ((k : ℕ) (d : W) → k < length ws → Did (slice_index_or ws k d) (slice_index_or ws' k d))
