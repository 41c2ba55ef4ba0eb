-- decides: a served database
-- The test for a recorded commit, and that each commit of a run passes it.
use Rattle.std.specs.Prelude.{◌≡◌, Bool, ◌&&◌, List, [], ◌∷◌, ◌++◌, length, option_to_list, Some}
use Rattle.std.specs.List.{list_all}
use Rattle.ifdb_label.specs.Tags.{are_made}
use Rattle.ifdb_row.specs.declared.write.Write.{Write}
use Rattle.ifdb_row.specs.Content.{after, are_rooted}
use Rattle.ifdb_catalog.specs.Public.{Public}
use Rattle.ifdb_model.specs.Log.{Entry, public_of, content_of}
use Rattle.ifdb_model.specs.Step.{Reader}
use Rattle.ifdb_laws.specs.RowLaws.{row_fits}
use Rattle.ifdb_model.specs.Run.{opening, Step, run}
use Rattle.ifdb_restore.specs.Redone.{CommitsPass, records, restored}
use Rattle.ifdb_redo.specs.declared.record.RedoRecord.TheVariants as redo
use Rattle.ifdb_restore.specs.Shorter.{writing, shorter}
use Rattle.ifdb_restore.specs.Compacted.{asked_only}

-- the write's label is of made tags, and the row that it gives fits its table
abbrev pub is_fit : Public → Write → Bool
is_fit p w = are_made (length p.tags) w.slot.label && list_all (row_fits p) (option_to_list w.row)

-- so it is with each write, and after all of them each row's parents stand
abbrev pub commit_fits : List Entry → List Write → Bool
commit_fits log ws = list_all (is_fit (public_of log)) ws && are_rooted (after (content_of log) ws) (after (content_of log) ws)

abbrev pub RunsPass : Type 0
RunsPass = (read : Reader) → CommitsPass read commit_fits

-- so the records of a run restore its log, and a compacted list of them the shorter log
pub record IsRestored (read : Reader) (steps : List Step) : Type 0 where
  pub log : restored read commit_fits [] (records read opening steps) ≡ Some (run read opening steps).log
  pub shorter : restored read commit_fits [] (asked_only (records read opening steps) ++ redo.Commit (writing (content_of (run read opening steps).log)) ∷ []) ≡ Some (shorter (run read opening steps).log)

abbrev pub RunsAreRestored : Type 0
RunsAreRestored = (read : Reader) (steps : List Step) → IsRestored read steps
