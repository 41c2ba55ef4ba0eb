-- How a rehearsal goes on, line by line.
use Rattle.std.specs.Prelude.{◌≡◌, ℕ, ◌+◌, ◌≤◌, ◌<◌, ◌^◌, Bool, List, length, map, Option, Some, None, option_to_list, if◌then◌else◌}
use Rattle.ifdb_wire.specs.declared.reply.Reply.{Reply}
use Rattle.ifdb_model.specs.Log.{content_of}
use Rattle.ifdb_model.specs.Run.{State, Step, Told, run, replies}
use Rattle.ifdb_model.specs.Script.{lines_of, steps_of}
use Rattle.ifdb_db.specs.Reading.{read_line}
use Rattle.ifdb_db.specs.Room.{Hall, StandsFor}
use Rattle.ifdb_script.specs.declared.rehearsed.Rehearsed.{Rehearsed}
use Rattle.ifdb_script.specs.Rehearsal.{is_ok, is_rows, is_error, number_of}

-- nothing was counted yet
abbrev pub none_counted : Rehearsed
none_counted = record { lines = 0; ok = 0; rows = 0; errors = 0; live = 0 }

-- one more, if so
abbrev pub one_if : Bool → ℕ
one_if b = if b then 1 else 0

-- one line more, and its reply, if it has one
abbrev pub counted : Rehearsed → Option Reply → Rehearsed
counted c None = record c { lines = c.lines + 1 }
counted c (Some r) = record c {
  lines = c.lines + 1;
  ok = c.ok + one_if (is_ok r);
  rows = c.rows + one_if (is_rows r);
  errors = c.errors + one_if (is_error r);
}

-- what is counted once the rest of a script is run from a state
abbrev pub counted_on : Rehearsed → State → List ℕ → Rehearsed
counted_on c st rest = record {
  lines = c.lines + length (lines_of rest);
  ok = c.ok + number_of is_ok (replies read_line st (steps_of rest));
  rows = c.rows + number_of is_rows (replies read_line st (steps_of rest));
  errors = c.errors + number_of is_error (replies read_line st (steps_of rest));
  live = length (content_of (run read_line st (steps_of rest)).log);
}

-- no more replies than lines
pub record IsFew (c : Rehearsed) : Type 0 where
  pub ok : c.ok ≤ c.lines
  pub rows : c.rows ≤ c.lines
  pub errors : c.errors ≤ c.lines

-- the room takes a line's steps, whatever state it stood for, and this is what they are told, if anything
pub record IsTaken (old new : Hall) (steps : List Step) (told : Option Reply) : Type 0 where
  pub stands : (st : State) → StandsFor old st → StandsFor new (run read_line st steps)
  pub replies : (st : State) → StandsFor old st → map (λ (t : Told). t.reply) (replies read_line st steps) ≡ option_to_list told
