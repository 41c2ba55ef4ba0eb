-- The rule of the mark: what holds of its words and of the views of all seats, between any two steps.
use Rattle.std.specs.Prelude.{◌≡◌, ℕ, Bool, true, List, [], ◌∷◌, length, if◌then◌else◌}
use mathlib.Core.List.{IsPrefix}
use Rattle.atomic_table.specs.Table.{State}
use Rattle.ifdb_turn.specs.Views.{Each, AtMostOne}
use Rattle.ifdb_journal.specs.declared.record.Record.{Record}
use Rattle.ifdb_durable.specs.declared.view.Hand.{Hand}
use Rattle.ifdb_durable.specs.declared.view.Told.{Told}
use Rattle.ifdb_durable.specs.declared.view.View.{View}
use Rattle.ifdb_durable.specs.Told.{Begins, kept_by}

-- the word that says whether the disk has failed
abbrev pub flag : Bool → ℕ
flag b = if b then 1 else 0

module _ {D : Type 0} where
  -- the number of records on the disk, and whether it has failed
  abbrev pub words_of : Told D → List ℕ
  words_of t = length (kept_by t) ∷ flag t.has_failed ∷ []

  -- A seat knows nothing but what is so. The seats of queue and writer know what was taken out of the queue, and the
  -- writer's knows all that can be told.
  pub record Agrees (taken : List Record) (told : Told D) (v : View D) : Type 0 where
    pub seen : Begins v.told told
    pub heard : Begins v.heard told
    pub queue : v.is_queue ≡ true → v.taken ≡ taken
    pub writer : v.is_writer ≡ true → (v.taken ≡ taken) × (v.told ≡ told)
    pub both : v.is_queue ≡ true → v.is_writer ≡ true → v.other ≡ taken

  -- The records that were taken out of the queue, and what can be told: the first of them are on the disk. One seat is the
  -- queue's, and one the writer's.
  pub record Ruled (s : State (Hand D) (View D)) : Type 0 where
    pub taken : List Record
    pub told : Told D
    pub front : IsPrefix (kept_by told) taken
    pub words : s.words ≡ words_of told
    pub views : Each s.views (Agrees taken told)
    pub one_queue : AtMostOne s.views (λ v. v.is_queue ≡ true)
    pub one_writer : AtMostOne s.views (λ v. v.is_writer ≡ true)
