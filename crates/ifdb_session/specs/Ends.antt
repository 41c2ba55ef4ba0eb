-- How a turn ends.
use Rattle.std.specs.Prelude.{◌≡◌, ℕ, List, [], ◌∷◌, ◌++◌, length}
use Rattle.ifdb_turn.specs.declared.turn.Turn.{Turn}
use Rattle.ifdb_turn.specs.declared.turnstile.Pass.{Pass}
use Rattle.ifdb_turn.specs.Passes.{history, places, shares, BelongsTo, IsOrderly}
use Rattle.ifdb_turn.specs.Turns.{turnstile_of, pass_of}
use Rattle.ifdb_history.specs.declared.entry.Entry.{Entry}
use Rattle.ifdb_history.specs.declared.entry.Kind.{Kind}
use Rattle.ifdb_history.specs.History.{entry_of, IsRight}
use Rattle.ifdb_model.specs.Log.{Entry as LogEntry}
use Rattle.ifdb_session.specs.Starts.{start_of}

-- the turn of a pass has ended with this entry
pub record EndsWith {X : Type 0} (first : List LogEntry) (turn : Turn X Entry) (pass : Pass X Entry) (e : Entry) : Type 0 where
  pub belongs : BelongsTo (turnstile_of turn) pass
  pub orderly : IsOrderly (IsRight (start_of first)) pass
  pub seen : history pass ≡ history (pass_of turn) ++ e ∷ []
  pub own : places pass ≡ places (pass_of turn) ++ length (history (pass_of turn)) ∷ []
  pub same : shares pass ≡ shares (pass_of turn)

-- it has ended with the entry that has this kind and is of this session
abbrev pub EndsOf : {X : Type 0} → List LogEntry → Turn X Entry → Pass X Entry → ℕ → Kind → Type 0
EndsOf first turn pass n kind = EndsWith first turn pass (entry_of (history (pass_of turn)) n kind)

-- the turn of a pass has ended with no entry
pub record EndsBare {X : Type 0} (first : List LogEntry) (turn : Turn X Entry) (pass : Pass X Entry) : Type 0 where
  pub belongs : BelongsTo (turnstile_of turn) pass
  pub orderly : IsOrderly (IsRight (start_of first)) pass
  pub seen : history pass ≡ history (pass_of turn)
  pub own : places pass ≡ places (pass_of turn)
  pub same : shares pass ≡ shares (pass_of turn)
