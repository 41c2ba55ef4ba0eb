-- What each kind of step tells: of the step, the seat before, the number found, and the seat after.
use Rattle.std.specs.Prelude.{◌≡◌, ℕ, true, false, List, [], ◌∷◌, ◌++◌, length}
use mathlib.Core.Option.{some, none}
use mathlib.Core.Option as maybe
use Rattle.atomic_table.specs.Table.{Me, Step}
use Rattle.ifdb_journal.specs.declared.record.Record.{Record}
use Rattle.ifdb_durable.specs.declared.view.Flush.{Flush}
use Rattle.ifdb_durable.specs.declared.view.Hand.{Hand}
use Rattle.ifdb_durable.specs.declared.view.Told.{Told}
use Rattle.ifdb_durable.specs.declared.view.View.{View}
use Rattle.ifdb_durable.specs.Told.{Begins, kept_by, nothing, reader}
use Rattle.ifdb_durable.specs.Rule.{flag}

module _ {D : Type 0} where
  -- the records that a step announces
  abbrev pub said_records : maybe.Option (Hand D) → List Record
  said_records (some hand) = hand.batch.records
  said_records none = []

  -- the append that a step announces, which kept these records
  abbrev pub said_flush : maybe.Option (Hand D) → List Record → List (Flush D)
  said_flush (some hand) kept = record { disk = hand.disk; kept = kept } ∷ []
  said_flush none kept = []

  -- the seat is told all that can be told, and all that it had heard; the number found is what a word says of that
  abbrev pub told_by : (Told D → ℕ) → Step (Hand D) → Me (Hand D) (View D) → ℕ → Me (Hand D) (View D) → Type 0
  told_by word step before found after = (told : Told D) × Begins before.0.told told × Begins before.0.heard told
      × (found ≡ word told) × (after ≡ (record before.0 { told = told }, before.1))
      × (before.0.is_writer ≡ true → told ≡ before.0.told)
      × (before.0.is_queue ≡ true → before.0.is_writer ≡ true → before.0.other ≡ before.0.taken)

  -- the number of records on the disk was found
  abbrev pub looked : Step (Hand D) → Me (Hand D) (View D) → ℕ → Me (Hand D) (View D) → Type 0
  looked = told_by (λ told. length (kept_by told))

  -- it was found whether the disk has failed
  abbrev pub looked_for_failure : Step (Hand D) → Me (Hand D) (View D) → ℕ → Me (Hand D) (View D) → Type 0
  looked_for_failure = told_by (λ told. flag told.has_failed)

  -- the records that were said were taken; the seat of the queue and the seat of the writer knew the same
  abbrev pub took : Step (Hand D) → Me (Hand D) (View D) → ℕ → Me (Hand D) (View D) → Type 0
  took step before found after = (before.0.other ≡ before.0.taken)
      × (after ≡ (
        record before.0 {
          taken = before.0.taken ++ said_records step.said;
          other = before.0.taken ++ said_records step.said;
        },
        before.1,
      ))

  -- an append was answered
  abbrev pub advanced : Step (Hand D) → Me (Hand D) (View D) → ℕ → Me (Hand D) (View D) → Type 0
  advanced step before found after = after ≡ (
    record before.0 {
      told = record before.0.told { flushes = before.0.told.flushes ++ said_flush step.said before.0.taken };
    },
    before.1,
  )

  -- the disk has failed
  abbrev pub failed : Step (Hand D) → Me (Hand D) (View D) → ℕ → Me (Hand D) (View D) → Type 0
  failed step before found after = after ≡ (record before.0 { told = record before.0.told { has_failed = true } }, before.1)

  -- a new seat that was told as much
  abbrev pub as_reader : View D → View D
  as_reader v = reader v.told

  -- the seat of the writer
  abbrev pub as_writer : View D → View D
  as_writer v = record { is_queue = false; is_writer = true; taken = v.taken; other = []; told = v.told; heard = nothing }

  -- the seat of the queue
  abbrev pub as_queue : View D → View D
  as_queue v = record { is_queue = true; is_writer = false; taken = v.taken; other = []; told = v.told; heard = nothing }

  -- the seat of both, of the writer's and the queue's
  abbrev pub met : View D → View D → View D
  met v w = record { is_queue = true; is_writer = true; taken = v.taken; other = w.taken; told = v.told; heard = nothing }

  -- a seat that has heard what another one was told
  abbrev pub hears : View D → View D → View D
  hears v w = record v { heard = w.told }

  -- a seat that is spent
  abbrev pub spent : View D
  spent = reader nothing
