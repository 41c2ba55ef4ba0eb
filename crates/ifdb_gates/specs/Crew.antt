-- Workers of gates: hired, at home after their work, and joined.
use Rattle.std.specs.Prelude.{◌≡◌, ℕ, ◌+◌, ◌<◌, ◌≤◌, List, [], ◌∷◌, ◌++◌, map, length, All, IsPermutation}
use mathlib.Core.List.{IsPrefix}
use Rattle.ifdb_turn.specs.declared.turnstile.Turnstile.{Turnstile}
use Rattle.ifdb_turn.specs.declared.turnstile.Pass.{Pass}
use Rattle.ifdb_turn.specs.Passes.{history, places, shares, BelongsTo, IsOrderly}
use Rattle.ifdb_history.specs.declared.entry.Entry.{Entry}
use Rattle.ifdb_history.specs.History.{IsRight}
use Rattle.ifdb_keyed.specs.declared.admin_key.AdminKey.{AdminKey}
use Rattle.ifdb_keyed.specs.Keys.{key_bytes}
use Rattle.ifdb_loop.specs.declared.gate.Gate as gate
use Rattle.ifdb_loop.specs.declared.port.Port as port
use Rattle.ifdb_loop.specs.declared.service.Service as service
use Rattle.ifdb_loop.specs.Visits.{Visit}
use Rattle.ifdb_session.specs.Links.{long_text}
use Rattle.ifdb_session.specs.declared.records.Records as recorder
use Rattle.ifdb_session.specs.declared.settles.Settles as settler
use Rattle.ifdb_session.specs.declared.shared.SharedRoom.{SharedRoom}
use Rattle.ifdb_session.specs.Acknowledged.{KnowsKept}
use Rattle.ifdb_session.specs.Starts.{start_of}
use Rattle.ifdb_desk.specs.declared.desk.Desk.{Desk}
use Rattle.ifdb_desk.specs.declared.place.Place.{Place}
use Rattle.ifdb_desk.specs.Desks.{IsReady, KnowsAllKept, Says, SeesOver, GoesOn as DeskGoesOn}
use Rattle.ifdb_desk.specs.Opened.{opened_in}
use Rattle.ifdb_hearer.specs.declared.hearer.Hearer.{Hearer}
use Rattle.ifdb_hearer.specs.Hearers.{GoesOn, heard_dialogue}
use Rattle.ifdb_service.specs.Workers.{GoesOnWithout}
use Rattle.ifdb_gates.specs.declared.work.Worker.{Worker}
use Rattle.ifdb_gates.specs.Work.{IsNewGate}
use Rattle.ifdb_gates.specs.Served.{Run, IsRunIn, numbers_of, times_in}

-- a worker whose service is a desk
abbrev pub DeskWorker : Type 0 → Type 0 → Type 0 → Type 0 → Type 0
DeskWorker G R Q S = Worker G (Hearer (Desk R Q S))

abbrev pub desk_of : {G R Q S : Type 0} → DeskWorker G R Q S → Desk R Q S
desk_of w = w.service.service

-- what the service of a worker means: a desk, whose lines are heard by a key
abbrev pub desks : {R Q S : Type 0} → recorder.Ghosts Q → settler.Ghosts S Q → service.Ghosts (Hearer (Desk R Q S)) Place
desks recorders settlers = record {
  ready = λ w. IsReady recorders settlers w.service;
  goes_on = GoesOn (DeskGoesOn recorders settlers);
  number = λ place. place.seat.number;
  says = λ w place d. Says recorders settlers w.service place (heard_dialogue (key_bytes w.key) d);
  is_over = λ w n d. SeesOver recorders settlers w.service n (heard_dialogue (key_bytes w.key) d);
  opened = λ w. opened_in (history w.service.pass) (places w.service.pass);
  is_kept = λ w. KnowsAllKept recorders settlers w.service;
  has_failed = λ w. settlers.has_failed w.service.keeper;
  text = λ w. w.service.out.text;
  long_text = long_text;
  limit = λ w. w.service.limit;
}

module _ {G P R Q S : Type 0} (recorders : recorder.Ghosts Q) (settlers : settler.Ghosts S Q) (gates : gate.Ghosts G P) where
  -- a worker may begin: it has opened no session, and its gate is new
  pub record IsReadyToRun (w : DeskWorker G R Q S) : Type 0 where
    pub desk : IsReady recorders settlers (desk_of w)
    pub none : places (desk_of w).pass ≡ []
    pub gate : IsNewGate gates w.gate

  -- what the service of a worker's gate came to, by what its desk has seen and knows then
  abbrev pub RunBy : port.Ghosts P → DeskWorker G R Q S → G → List (Visit P) → Type 0
  RunBy ports w before visits =
      IsRunIn ports (key_bytes w.service.key) (desk_of w).limit recorders.first (KnowsKept recorders settlers (desk_of w).keeper) (settlers.has_failed (desk_of w).keeper) gates (history (desk_of w).pass)
      (record { before = before; after = w.gate; visits = visits })

  -- A worker served its gate, and is the second now. Its pass's own turns opened the sessions of these connections and no other.
  pub record Ran (ports : port.Ghosts P) (w w' : DeskWorker G R Q S) : Type 0 where
    pub desk : IsReady recorders settlers (desk_of w')
    pub goes_on : GoesOn (DeskGoesOn recorders settlers) w.service w'.service
    pub visits : List (Visit P)
    pub run : RunBy ports w' w.gate visits
    pub opened : IsPermutation (map (λ v. v.number) visits) (opened_in (history (desk_of w').pass) (places (desk_of w').pass))

  module _ (hall : Turnstile (SharedRoom Q) Entry) (key : AdminKey) (limit : ℕ) (first : S) where
    -- a worker that begins, with a pass of one share, and a keeper of one, split off the first
    pub record IsFresh (w : DeskWorker G R Q S) : Type 0 where
      pub at : (desk_of w).hall.now ≡ hall
      pub key_is : w.service.key ≡ key
      pub limit_is : (desk_of w).limit ≡ limit
      pub ready : IsReadyToRun w
      pub share : shares (desk_of w).pass ≡ 1
      pub knows : settlers.goes_on first (desk_of w).keeper
      pub keeper_share : settlers.has_shares (desk_of w).keeper 1

    -- some gates have a worker, and the others are still to get one
    pub record Hiring (old now : Pass (SharedRoom Q) Entry) (keeper : S) (given : List G) (ws : List (DeskWorker G R Q S)) (rest : List G) (room means : ℕ) : Type 0 where
      pub belongs : BelongsTo hall now
      pub share : shares now + length ws ≡ shares old
      pub keeper_left : GoesOnWithout settlers first keeper (length ws)
      pub keeper_more : length rest < keeper_left.shares.left
      pub taken : map (λ w. w.gate) ws ++ rest ≡ given
      pub fresh : All IsFresh ws
      pub new : All (IsNewGate gates) rest
      pub fits : length ws + length rest ≤ room
      pub supplied : means ≡ length rest
      pub seen : history now ≡ history old
      pub own : places now ≡ places old

    module _ (ports : port.Ghosts P) where
      -- a worker that has served this gate
      pub record IsHome (g : G) (w : DeskWorker G R Q S) : Type 0 where
        pub belongs : BelongsTo hall (desk_of w).pass
        pub orderly : IsOrderly (IsRight (start_of recorders.first)) (desk_of w).pass
        pub share : shares (desk_of w).pass ≡ 1
        pub key_is : w.service.key ≡ key
        pub limit_is : (desk_of w).limit ≡ limit
        pub keeper_ready : settlers.ready (desk_of w).keeper
        pub knows : settlers.goes_on first (desk_of w).keeper
        pub keeper_share : settlers.has_shares (desk_of w).keeper 1
        pub visits : List (Visit P)
        pub run : RunBy ports w g visits
        pub opened : IsPermutation (map (λ v. v.number) visits) (opened_in (history (desk_of w).pass) (places (desk_of w).pass))

      -- each of these has served its gate
      abbrev pub AllHome : List G → List (DeskWorker G R Q S) → Type 0
      AllHome [] [] = Unit {0}
      AllHome [] (w ∷ ws) = ⊥
      AllHome (g ∷ gs) [] = ⊥
      AllHome (g ∷ gs) (w ∷ ws) = IsHome g w × AllHome gs ws

      -- some passes were joined in, and the other workers are at home
      pub record Joining (old now : Pass (SharedRoom Q) Entry) (keeper : S) (given : List G) (rest : List (DeskWorker G R Q S)) (back : List G) : Type 0 where
        pub belongs : BelongsTo hall now
        pub orderly : IsOrderly (IsRight (start_of recorders.first)) now
        pub share : shares now + length rest ≡ shares old
        pub begins : IsPrefix (history old) (history now)
        pub keeper_left : GoesOnWithout settlers first keeper (length rest)
        pub left : List G
        pub home : AllHome left rest
        pub runs : List (Run G P)
        pub before : map (λ r. r.before) runs ++ left ≡ given
        pub after : map (λ r. r.after) runs ≡ back
        pub served : All (IsRunIn ports (key_bytes key) limit recorders.first (KnowsKept recorders settlers keeper) (settlers.has_failed keeper) gates (history now)) runs
        pub own : (n : ℕ) → times_in n (numbers_of runs) ≡ times_in n (opened_in (history now) (places now))
