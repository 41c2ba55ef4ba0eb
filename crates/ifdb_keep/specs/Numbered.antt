-- decides: the journal
-- A script's sessions have numbers of their own, from 1. In the room they stand behind those that were opened before it, of which there
-- are so many, the base.
use Rattle.std.specs.Prelude.{ℕ, ◌+◌, ◌-◌, List, map}
use Rattle.ifdb_journal.specs.declared.record.Record.{Record}
use Rattle.ifdb_model.specs.Step.{Reader}
use Rattle.ifdb_model.specs.Run.{State, Step, opens, asks, refused, long, stray, leaves, Told, run, replies}
use Rattle.ifdb_replay.specs.Replay.{kept}
use Rattle.ifdb_replay.specs.FirstWord.{only_looks}

-- a script's step, as the room takes it
abbrev pub shifted : ℕ → Step → Step
shifted base opens = opens
shifted base (asks n line) = asks (base + n) line
shifted base (refused n) = refused (base + n)
shifted base long = long
shifted base stray = stray
shifted base (leaves n) = leaves (base + n)

-- what the room tells, as the script hears it
abbrev pub unshifted : ℕ → Told → Told
unshifted base t = record { number = t.number - base; reply = t.reply }

-- the state that a script's steps lead to
abbrev pub state_from : Reader → State → ℕ → List Step → State
state_from read st base steps = run read st (map (shifted base) steps)

-- what a script's steps are told
abbrev pub told_from : Reader → State → ℕ → List Step → List Told
told_from read st base steps = map (unshifted base) (replies read st (map (shifted base) steps))

-- the records of a script's steps
abbrev pub records_from : Reader → State → ℕ → List Step → List Record
records_from read st base steps = kept only_looks read st (map (shifted base) steps)
