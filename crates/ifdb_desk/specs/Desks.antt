-- What is so of a desk, and of the sessions that it answers.
use Rattle.std.specs.Prelude.{◌≡◌, ℕ, ◌≤◌, true, List, All}
use mathlib.Core.List.{IsPrefix}
use Rattle.ifdb_turn.specs.Histories.{AllRight}
use Rattle.ifdb_turn.specs.Passes.{history, places, shares, BelongsTo, IsOrderly}
use Rattle.ifdb_history.specs.History.{IsRight}
use Rattle.ifdb_loop.specs.Dialogues.{Dialogue}
use Rattle.ifdb_session.specs.declared.records.Records as recorder
use Rattle.ifdb_session.specs.declared.settles.Settles as settler
use Rattle.ifdb_session.specs.Acknowledged.{sources_of, KnowsKept}
use Rattle.ifdb_session.specs.Seats.{lines_in, IsToldIn}
use Rattle.ifdb_session.specs.Starts.{start_of}
use Rattle.ifdb_session.specs.Talk.{IsLeftSo}
use Rattle.ifdb_desk.specs.declared.desk.Desk.{Desk}
use Rattle.ifdb_desk.specs.declared.place.Place.{Place}
use Rattle.ifdb_desk.specs.Kept.{IsKeptFor}
use Rattle.ifdb_desk.specs.Overs.{IsOver}

module _ {R Q S : Type 0} (recorders : recorder.Ghosts Q) (settlers : settler.Ghosts S Q) where
  -- its pass is its own, is at the room and has no turn; it may wait, and knows what it says that it does
  pub record IsReady (s : Desk R Q S) : Type 0 where
    pub belongs : BelongsTo s.hall.now s.pass
    pub orderly : IsOrderly (IsRight (start_of recorders.first)) s.pass
    pub keeper : settlers.ready s.keeper
    pub settled : s.is_settled ≡ true → settlers.is_kept s.keeper s.mark

  -- the second is at the same room, takes as many bytes of a connection, has seen all that the first had, and knows all that it knew
  pub record GoesOn (s t : Desk R Q S) : Type 0 where
    pub hall : t.hall ≡ s.hall
    pub limit : t.limit ≡ s.limit
    pub begins : IsPrefix (history s.pass) (history t.pass)
    pub right : AllRight (IsRight (start_of recorders.first)) (history s.pass) → AllRight (IsRight (start_of recorders.first)) (history t.pass)
    pub shares : shares t.pass ≡ shares s.pass
    pub keeper : settlers.goes_on s.keeper t.keeper
    pub held : (n : ℕ) → settlers.has_shares s.keeper n → settlers.has_shares t.keeper n

  -- all that it answered from is known to be kept
  abbrev pub KnowsAllKept : Desk R Q S → Type 0
  KnowsAllKept s = settlers.is_kept s.keeper s.mark

  -- So far a session was asked and told this, by turns and by work that none has brought along yet. It rests on no more records than
  -- the desk's mark.
  pub record Says (s : Desk R Q S) (place : Place) (d : Dialogue) : Type 0 where
    pub same : place.is_open ≡ d.is_open
    pub left : IsLeftSo recorders.first (history s.pass) (places s.pass) place.seat d.is_open
    pub lines : lines_in (history s.pass) place.seat ≡ d.lines
    pub texts : IsToldIn recorders.first (history s.pass) place.seat d.texts
    pub marked : All (λ (source : List (List ℕ)). recorders.count_of source ≤ s.mark) (sources_of recorders.first place.seat.number (history s.pass))
    pub front : IsPrefix d.kept d.texts
    pub kept : IsKeptFor recorders.first (KnowsKept recorders settlers s.keeper) (history s.pass) place.seat.number d.kept

  -- a session is over, in the history that it has seen and by what it knows to be kept
  abbrev pub SeesOver : Desk R Q S → ℕ → Dialogue → Type 0
  SeesOver s n d =
      AllRight (IsRight (start_of recorders.first)) (history s.pass)
      × IsOver recorders.first (KnowsKept recorders settlers s.keeper) (history s.pass) n d
