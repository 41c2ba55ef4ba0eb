-- Workers: hired, at home after their work, and joined.
use Rattle.std.specs.Prelude.{◌≡◌, ℕ, ◌+◌, ◌<◌, ◌≤◌, ◌^◌, Bool, not, List, [], ◌∷◌, ◌++◌, map, length, All, if◌then◌else◌}
use mathlib.Core.List.{IsPrefix}
use Rattle.ifdb_io.specs.declared.outside.Source as source
use Rattle.ifdb_io.specs.declared.outside.Sink as sink
use Rattle.ifdb_io.specs.declared.doors.Door as door
use Rattle.ifdb_turn.specs.declared.turnstile.Turnstile.{Turnstile}
use Rattle.ifdb_turn.specs.declared.turnstile.Pass.{Pass}
use Rattle.ifdb_turn.specs.Passes.{history, places, shares, BelongsTo, IsOrderly}
use Rattle.ifdb_turn.specs.Places.{times}
use Rattle.ifdb_history.specs.declared.entry.Entry.{Entry}
use Rattle.ifdb_history.specs.History.{IsRight}
use Rattle.ifdb_pool.specs.Visits.{Visit}
use Rattle.ifdb_pool.specs.declared.host.Host as host
use Rattle.ifdb_pool.specs.declared.worker.Worker.{Worker}
use Rattle.ifdb_session.specs.declared.host.SessionHost.{SessionHost}
use Rattle.ifdb_session.specs.declared.records.Records as recorder
use Rattle.ifdb_session.specs.declared.settles.Settles as settler
use Rattle.ifdb_session.specs.declared.shared.SharedRoom.{SharedRoom}
use Rattle.ifdb_session.specs.Acknowledged.{KnowsKept}
use Rattle.ifdb_session.specs.Endings.{capped}
use Rattle.ifdb_session.specs.Hosts.{IsHostReady, Serves}
use Rattle.ifdb_session.specs.Starts.{start_of}
use Rattle.ifdb_service.specs.Doors.{Connection, Run, IsRunIn, faults_in, faults_of, turns_of, turns_at}

-- what a host of connections means, and that it is over once the disk has failed
abbrev pub hosts : {K R Q S : Type 0} → source.Ghosts K → sink.Ghosts K → recorder.Ghosts Q → settler.Ghosts S Q → host.Ghosts (SessionHost R K Q S) K
hosts sources sinks recorders settlers = record {
  ready = IsHostReady recorders settlers;
  serves = Serves sources sinks recorders settlers;
  over = λ host. settlers.has_failed host.keeper;
}

-- 1 for what is so
abbrev pub one_if : Bool → ℕ
one_if so = if so then 1 else 0

module _ {Q S : Type 0} (settlers : settler.Ghosts S Q) where
  -- the laws of what replies wait by
  pub record HoldLaws : Type 0 where
    pub itself : (s : S) → settlers.goes_on s s
    pub further : (r s t : S) → settlers.goes_on r s → settlers.goes_on s t → settlers.goes_on r t
    pub kept : (s t : S) (n : ℕ) → settlers.goes_on s t → settlers.is_kept s n → settlers.is_kept t n
    pub failed : (s t : S) → settlers.goes_on s t → settlers.has_failed s → settlers.has_failed t

  -- it has more shares than so many
  abbrev pub HasMore : S → ℕ → Type 0
  HasMore keeper many = (n : ℕ) × settlers.has_shares keeper n × (many < n)

  -- so many of the shares that the first had, the second lacks
  pub record LacksShares (first now : S) (many : ℕ) : Type 0 where
    pub all : ℕ
    pub left : ℕ
    pub had : settlers.has_shares first all
    pub has : settlers.has_shares now left
    pub lacks : left + many ≡ all

  -- the second may wait still, knows all that the first knew, and lacks so many of its shares
  pub record GoesOnWithout (first now : S) (many : ℕ) : Type 0 where
    pub ready : settlers.ready now
    pub knows : settlers.goes_on first now
    pub shares : LacksShares first now many

module _ {D K R Q S : Type 0} (recorders : recorder.Ghosts Q) (settlers : settler.Ghosts S Q) (doors : door.Ghosts D K) (hall : Turnstile (SharedRoom Q) Entry) (limit : ℕ) (first : S) where
  -- a worker that begins, with a pass of one share, and a keeper of one, split off the first
  pub record IsFresh (w : Worker D (SessionHost R K Q S)) : Type 0 where
    pub at : w.host.hall.now ≡ hall
    pub ready : IsHostReady recorders settlers w.host
    pub limit_is : w.host.limit ≡ limit
    pub share : shares w.host.pass ≡ 1
    pub none : places w.host.pass ≡ []
    pub no_fault : w.host.faults ≡ 0
    pub no_link : w.links ≡ 0
    pub most : doors.most w.door < 2 ^ 64
    pub knows : settlers.goes_on first w.host.keeper
    pub keeper_share : settlers.has_shares w.host.keeper 1

  -- some doors have a worker, and the others are still to get one
  pub record Hiring (old now : Pass (SharedRoom Q) Entry) (keeper : S) (given : List D) (ws : List (Worker D (SessionHost R K Q S))) (rest : List D) (room : ℕ) : Type 0 where
    pub belongs : BelongsTo hall now
    pub share : shares now + length ws ≡ shares old
    pub keeper_left : GoesOnWithout settlers first keeper (length ws)
    pub keeper_more : length rest < keeper_left.shares.left
    pub taken : map (λ w. w.door) ws ++ rest ≡ given
    pub fresh : All IsFresh ws
    pub few : All (λ d. doors.most d < 2 ^ 64) rest
    pub fits : length ws + length rest ≤ room
    pub seen : history now ≡ history old
    pub own : places now ≡ places old

  module _ (sources : source.Ghosts K) (sinks : sink.Ghosts K) where
    -- a worker that has served this door
    pub record IsHome (d : D) (w : Worker D (SessionHost R K Q S)) : Type 0 where
      pub belongs : BelongsTo hall w.host.pass
      pub share : shares w.host.pass ≡ 1
      pub keeper_ready : settlers.ready w.host.keeper
      pub knows : settlers.goes_on first w.host.keeper
      pub keeper_share : settlers.has_shares w.host.keeper 1
      pub visits : List (Visit K)
      pub connections : List Connection
      pub run : IsRunIn sources sinks recorders.first (KnowsKept recorders settlers w.host.keeper) (settlers.has_failed w.host.keeper) doors limit (history w.host.pass)
          (record { before = d; after = w.door; visits = visits; connections = connections })
      pub own : places w.host.pass ≡ turns_of connections
      pub faults : w.host.faults ≡ capped (faults_in connections)
      pub failed : w.failed ≡ not (doors.ended w.door)

    -- each of these has served its door
    abbrev pub AllHome : List D → List (Worker D (SessionHost R K Q S)) → Type 0
    AllHome [] [] = Unit {0}
    AllHome [] (w ∷ ws) = ⊥
    AllHome (d ∷ ds) [] = ⊥
    AllHome (d ∷ ds) (w ∷ ws) = IsHome d w × AllHome ds ws

    -- some passes were joined in, and the other workers are at home
    pub record Joining (old now : Pass (SharedRoom Q) Entry) (keeper : S) (given : List D) (rest : List (Worker D (SessionHost R K Q S))) (back : List D) (faults : ℕ) : Type 0 where
      pub belongs : BelongsTo hall now
      pub orderly : IsOrderly (IsRight (start_of recorders.first)) now
      pub share : shares now + length rest ≡ shares old
      pub begins : IsPrefix (history old) (history now)
      pub keeper_left : GoesOnWithout settlers first keeper (length rest)
      pub left : List D
      pub home : AllHome left rest
      pub runs : List (Run D K)
      pub before : map (λ r. r.before) runs ++ left ≡ given
      pub after : map (λ r. r.after) runs ≡ back
      pub served : All (IsRunIn sources sinks recorders.first (KnowsKept recorders settlers keeper) (settlers.has_failed keeper) doors limit (history now)) runs
      pub total : faults ≡ capped (faults_of doors runs)
      pub own : (k : ℕ) → times k (places now) ≡ times k (places old) + turns_at k runs
