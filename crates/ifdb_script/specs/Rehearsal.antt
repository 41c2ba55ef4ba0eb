-- decides: scripts
-- What a run of a script comes to, in numbers.
use Rattle.std.specs.Prelude.{ℕ, Bool, true, false, List, ◌++◌, filter, length, map, codes, decimal}
use Rattle.ifdb_wire.specs.declared.reply.Reply.{Reply}
use Rattle.ifdb_wire.specs.declared.reply.Reply.TheVariants as reply
use Rattle.ifdb_model.specs.Log.{content_of}
use Rattle.ifdb_model.specs.Run.{Told, opening, run, replies}
use Rattle.ifdb_model.specs.Script.{lines_of, steps_of}
use Rattle.ifdb_db.specs.Reading.{read_line}
use Rattle.ifdb_script.specs.declared.rehearsed.Rehearsed.{Rehearsed}

-- the reply begins with OK or OPEN
abbrev pub is_ok : Reply → Bool
is_ok reply.Done = true
is_ok (reply.Count n) = true
is_ok reply.Opened = true
is_ok _ = false

-- it begins with ROWS
abbrev pub is_rows : Reply → Bool
is_rows (reply.Rows table) = true
is_rows _ = false

-- it begins with ERR
abbrev pub is_error : Reply → Bool
is_error (reply.Refused f) = true
is_error _ = false

-- how many of the replies pass a test
abbrev pub number_of : (Reply → Bool) → List Told → ℕ
number_of passes all = length (filter passes (map (λ (t : Told). t.reply) all))

-- the lines of a script, the replies of each kind that its run is told, and the rows at its end
abbrev pub rehearsed : List ℕ → Rehearsed
rehearsed script = record {
  lines = length (lines_of script);
  ok = number_of is_ok (replies read_line opening (steps_of script));
  rows = number_of is_rows (replies read_line opening (steps_of script));
  errors = number_of is_error (replies read_line opening (steps_of script));
  live = length (content_of (run read_line opening (steps_of script)).log);
}

-- ---- its text

-- a name, a space and a number, on a line
abbrev pub counted_as : List ℕ → ℕ → List ℕ
counted_as name n = name ++ (codes " " ++ (decimal n ++ codes "\n"))

abbrev pub rehearsed_text : Rehearsed → List ℕ
rehearsed_text r =
    counted_as (codes "lines") r.lines
    ++ (counted_as (codes "ok") r.ok
    ++ (counted_as (codes "rows") r.rows
    ++ (counted_as (codes "errors") r.errors ++ counted_as (codes "live") r.live)))
