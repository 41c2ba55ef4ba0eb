-- decides: a served database
-- What the service of a site of gates did.
use Rattle.std.specs.Prelude.{◌≡◌, ℕ, true, List, ◌++◌, map, length, All, Contains, Some}
use Rattle.ifdb_io.specs.Causes.{Rose}
use Rattle.ifdb_io.specs.Doors.{Stays, LosesFirst, Becomes}
use Rattle.ifdb_loop.specs.declared.gate.Gate as gate
use Rattle.ifdb_loop.specs.declared.gate_site.GateSite as site
use Rattle.ifdb_loop.specs.declared.port.Port as port
use Rattle.ifdb_turn.specs.Histories.{AllRight}
use Rattle.ifdb_model.specs.Log.{Entry as LogEntry}
use Rattle.ifdb_history.specs.declared.entry.Entry.{Entry}
use Rattle.ifdb_history.specs.History.{after as state_after, IsRight, WasOpened}
use Rattle.ifdb_keyed.specs.Keys.{key_bytes}
use Rattle.ifdb_session.specs.Counts.{counts_of}
use Rattle.ifdb_session.specs.Starts.{start_of}
use Rattle.ifdb_service.specs.Summary.{listening_line}
use Rattle.ifdb_gates.specs.Served.{Run, IsRunIn, numbers_of, times_in}
use Rattle.ifdb_host.specs.Counting.{counts_text}
use Rattle.ifdb_host.specs.declared.plan.Plan.{Plan}

-- the whole output of a service
abbrev pub output_text : List LogEntry → Plan → List Entry → List ℕ
output_text first plan h = listening_line plan.port ++ counts_text (counts_of first h)

module _ {S G P : Type 0} (sites : site.Ghosts S G P) where
  -- the site was last asked for what the plan says
  abbrev pub IsAskedFor : Plan → S → Type 0
  IsAskedFor plan at = sites.asked at ≡ Some (record { port = plan.port; loops = plan.loops })

  -- the site was asked for gates, gave the first that it had, and has these back
  pub record Exchanges (plan : Plan) (before after : S) (given back : List G) : Type 0 where
    pub asked : IsAskedFor plan after
    pub first : LosesFirst (sites.waiting before) (sites.waiting after) given
    pub returned : Becomes (sites.back before) (sites.back after) back
    pub many : length given ≡ plan.loops

  -- the site was asked for gates, and gave none
  pub record GivesNone (plan : Plan) (before after : S) : Type 0 where
    pub asked : IsAskedFor plan after
    pub waiting : Stays (sites.waiting before) (sites.waiting after)
    pub back : Stays (sites.back before) (sites.back after)

module _ {G P : Type 0} (gates : gate.Ghosts G P) where
  -- each gate is at its end
  abbrev pub AllEnded : List (Run G P) → Type 0
  AllEnded runs = All (λ r. gates.ended r.after ≡ true) runs

  -- one of the gates failed
  abbrev pub OneFailed : List (Run G P) → Type 0
  OneFailed runs = (r : Run G P) × Contains runs r × Rose (gates.faults r.before) (gates.faults r.after)

module _ {S G P : Type 0} (sites : site.Ghosts S G P) (gates : gate.Ghosts G P) (ports : port.Ghosts P) where
  -- There is one history, each of whose sessions is that of one connection that came through the gates. It begins over a log, and what
  -- replies were answered from is kept. The output was written so.
  pub record IsServedOver (first : List LogEntry) (IsKept : List (List ℕ) → Type 0) (HasFailed : Type 0) (Ends : List (Run G P) → Type 0) (Wrote : List ℕ → Type 0) (plan : Plan) (before after : S) : Type 0 where
    pub log : List Entry
    pub order : AllRight (IsRight (start_of first)) log
    pub given : List G
    pub back : List G
    pub exchanged : Exchanges sites plan before after given back
    pub runs : List (Run G P)
    pub given_are : map (λ r. r.before) runs ≡ given
    pub back_are : map (λ r. r.after) runs ≡ back
    pub served : All (IsRunIn ports (key_bytes plan.key) plan.limit first IsKept HasFailed gates log) runs
    pub each : (n : ℕ) → WasOpened (state_after (start_of first) log) n → times_in n (numbers_of runs) ≡ 1
    pub ends : Ends runs
    pub written : Wrote (output_text first plan log)
