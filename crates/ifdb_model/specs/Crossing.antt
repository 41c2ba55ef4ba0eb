-- decides: two worlds
-- Steps that cross a level: they use authority across it.
use Rattle.std.specs.Prelude.{ℕ, Bool, true, false, List, [], ◌∷◌, ◌++◌, ◌&&◌, ◌||◌, not, option_to_list, slice_get, Option, Some, None, Result, Ok, Err, if◌then◌else◌}
use Rattle.std.specs.List.{list_any, list_all}
use Rattle.ifdb_label.specs.Tags.{MadeTag}
use Rattle.ifdb_label.specs.Label.{flows}
use Rattle.ifdb_row.specs.declared.slot.Slot.{Slot}
use Rattle.ifdb_row.specs.declared.row.Row.{Row}
use Rattle.ifdb_row.specs.declared.write.Write.{Write}
use Rattle.ifdb_bound.specs.declared.schema.ViewDef.{ViewDef}
use Rattle.ifdb_bound.specs.declared.select.BoundSource.{BoundSource}
use Rattle.ifdb_bound.specs.declared.select.Relation.{Relation}
use Rattle.ifdb_bound.specs.declared.select.Relation.TheVariants as relation
use Rattle.ifdb_bound.specs.declared.request.Bound.{Bound}
use Rattle.ifdb_bound.specs.declared.request.Bound.TheVariants as bound
use Rattle.ifdb_syntax.specs.declared.request.Request.{Request}
use Rattle.ifdb_wire.specs.declared.fault.Fault.{Fault}
use Rattle.ifdb_catalog.specs.Public.{Public}
use Rattle.ifdb_catalog.specs.Binding.{bound as bound_request}
use Rattle.ifdb_model.specs.Log.{Entry, all_tags}
use Rattle.ifdb_model.specs.Session.{Session, Seen, seen}
use Rattle.ifdb_model.specs.Writes.{Written, writes_of, given_of}
use Rattle.ifdb_model.specs.Step.{Reader, Form, looks, writes, form_of, ask}
use Rattle.ifdb_model.specs.Run.{State, session_of, Step, asks, next}
use Rattle.ifdb_model.specs.Low.{is_inside_slot}

-- ---- the first case: a session comes from outside to inside

-- the session is outside by the tags of the log before, and inside by those of the log after
abbrev pub comes_in : List ℕ → List Entry → List Entry → Session → Session → Bool
comes_in level log later s t = not (flows (all_tags log) s.label level) && flows (all_tags later) t.label level

-- ---- the second case: a statement asked inside names a tag that doesn't flow to the level

-- the tags that the view declassifies, if it is there, flow to the level
abbrev pub view_flows : List MadeTag → List ℕ → Option ViewDef → Bool
view_flows tags level None = true
view_flows tags level (Some v) = flows tags v.declassifying level

-- the tags of the source, where it is a view, flow to the level
abbrev pub source_flows : Public → List MadeTag → List ℕ → Relation → Bool
source_flows p tags level (relation.Table t) = true
source_flows p tags level (relation.View v) = view_flows tags level (slice_get p.views v)

-- a SELECT has a view among its sources whose tags don't flow to the level
abbrev pub look_names : Public → List MadeTag → List ℕ → Result Bound Fault → Bool
look_names p tags level (Err f) = false
look_names p tags level (Ok (bound.Select s)) = not (list_all (λ (x : BoundSource). source_flows p tags level x.relation) s.sources)
look_names p tags level (Ok _) = false

-- the tags that a statement declassifies don't flow to the level
abbrev pub write_names : List MadeTag → List ℕ → Result Bound Fault → Bool
write_names tags level (Err f) = false
write_names tags level (Ok b) = not (flows tags (given_of b) level)

-- what is bound is a tag that DECLASSIFYING names, or a tag of a view among the sources
abbrev pub names_out : List MadeTag → List ℕ → Public → Result Bound Fault → Form → Bool
names_out tags level p found looks = look_names p tags level found
names_out tags level p found writes = write_names tags level found
names_out tags level p found _ = false

-- ---- the third case: a statement asked outside binds a reference to a parent inside

-- the parents of a row that may be there
abbrev pub refs_of : Option Row → List Slot
refs_of None = []
refs_of (Some r) = r.refs

-- some written row has a parent inside
abbrev pub refers_inside : List MadeTag → List ℕ → Result Written Fault → Bool
refers_inside tags level (Err f) = false
refers_inside tags level (Ok w) = list_any (λ (x : Write). list_any (is_inside_slot tags level) (refs_of x.row)) w.writes

-- the statement is accepted, and binds a parent inside
abbrev pub write_binds : List MadeTag → List ℕ → Seen → ℕ → List ℕ → Result Bound Fault → Bool
write_binds tags level x asker label (Err f) = false
write_binds tags level x asker label (Ok b) = refers_inside tags level (writes_of x.public asker x.rows label b)

-- only an INSERT or UPDATE binds parents
abbrev pub binds_in : List MadeTag → List ℕ → Seen → ℕ → List ℕ → Result Bound Fault → Form → Bool
binds_in tags level x asker label found writes = write_binds tags level x asker label found
binds_in tags level x asker label found _ = false

-- ---- a step

-- a request of a principal crosses the level, by the second case inside and by the third outside
abbrev pub crosses_as : List MadeTag → List ℕ → Session → Seen → ℕ → Request → Bool
crosses_as tags level s x asker r =
    if flows tags s.label level then names_out tags level x.public (bound_request x.public asker r) (form_of r)
    else binds_in tags level x asker s.label (bound_request x.public asker r) (form_of r)

-- so does a line, if it is read, of a session that said HELLO
abbrev pub crosses_by : List MadeTag → List ℕ → List Entry → Session → Option ℕ → Result Request Fault → Bool
crosses_by tags level log s None r = false
crosses_by tags level log s (Some asker) (Err f) = false
crosses_by tags level log s (Some asker) (Ok r) = crosses_as tags level s (seen log s) asker r

-- a line of an open session crosses the level
abbrev pub crosses_at : Reader → List ℕ → List Entry → Session → List ℕ → Bool
crosses_at read level log s line =
    comes_in level log (log ++ option_to_list (ask read log s line).added) s (ask read log s line).session
    || crosses_by (all_tags log) level log s s.principal (read line)

-- a step crosses the level
abbrev pub crosses : Reader → List ℕ → State → Step → Bool
crosses read level st (asks n line) = if (session_of st n).is_open then crosses_at read level st.log (session_of st n) line else false
crosses read level st _ = false

-- none of the steps crosses the level
abbrev pub quiet : Reader → List ℕ → State → List Step → Bool
quiet read level st [] = true
quiet read level st (x ∷ steps) = not (crosses read level st x) && quiet read level (next read st x) steps
