-- What the tiny object stands for.
use Rattle.std.specs.Prelude.{◌≡◌, ℕ, ◌+◌, Bool, true, false, List, [], ◌∷◌, ◌++◌, length}
use Rattle.std.specs.Int.{w64, to_be_bytes}
use Rattle.ifdb_journal.specs.declared.record.Record.{Record}
use Rattle.ifdb_journal.specs.declared.record.RecordKind.TheVariants as kind
use Rattle.ifdb_turn.specs.declared.turn.Turn.{Turn}
use Rattle.ifdb_turn.specs.declared.turnstile.Pass.{Pass}
use Rattle.ifdb_turn.specs.Passes.{history, shares, BelongsTo}
use Rattle.ifdb_turn.specs.Turns.{turnstile_of, pass_of}
use Rattle.test_durable.specs.declared.tally.Entry.{Entry}
use Rattle.test_durable.specs.declared.tally.Tally.{Tally}
use Rattle.ifdb_durable.specs.Queues.{all_of}

abbrev pub place_of : Entry → ℕ
place_of e = e.place

-- an entry stands at its place
abbrev pub HasPlace : List Entry → Entry → Type 0
HasPlace h e = e.place ≡ length h

-- the record of an amount
abbrev pub record_of : ℕ → Record
record_of amount = record { kind = kind.Ask; session = 1; line = to_be_bytes w64 amount }

-- the records of a history, in its order: a look has none
abbrev pub records_in : Bool → ℕ → List Record
records_in true amount = []
records_in false amount = record_of amount ∷ []

abbrev pub records_of : List Entry → List Record
records_of [] = []
records_of (e ∷ h) = records_in e.is_look e.amount ++ records_of h

-- the sum of a history
abbrev pub amount_in : Bool → ℕ → ℕ
amount_in true amount = 0
amount_in false amount = amount

abbrev pub amounts_of : List Entry → ℕ
amounts_of [] = 0
amounts_of (e ∷ h) = amount_in e.is_look e.amount + amounts_of h

abbrev pub entry_of : List Entry → ℕ → Bool → Entry
entry_of h amount is_look = record { place = length h; amount = amount; is_look = is_look }

module _ {B D : Type 0} where
  -- the object has the sum of the history, and its queue has had the records of the history, in its order
  pub record TallyStands (tally : Tally B D) (h : List Entry) : Type 0 where
    pub sum : tally.sum ≡ amounts_of h
    pub records : all_of tally.queue ≡ records_of h

  -- a turn ended with an entry
  pub record EndsEntry (turn : Turn (Tally B D) Entry) (pass : Pass (Tally B D) Entry) (amount : ℕ) (is_look : Bool) : Type 0 where
    pub belongs : BelongsTo (turnstile_of turn) pass
    pub history : history pass ≡ history (pass_of turn) ++ entry_of (history (pass_of turn)) amount is_look ∷ []
    pub shares : shares pass ≡ shares (pass_of turn)
