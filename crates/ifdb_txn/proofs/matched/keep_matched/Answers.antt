use Rattle.std.proofs.Common.{◌∙◌, ap, length, map, sym}
use Rattle.std.proofs.lemmas.Option.{get_or_from_slice_get, slice_get_within}
use Rattle.ifdb_value.proofs.Lists.{all_at}
use Rattle.ifdb_label.specs.Tags.{are_made}
use Rattle.ifdb_row.specs.declared.row.Row.{Row}
use Rattle.ifdb_row.specs.ByReference.{row_of}
use Rattle.ifdb_row.specs.Runs.{rows_in}
use Rattle.ifdb_txn.specs.Matches.{is_wanted}
use Rattle.ifdb_txn.proofs.Matching.{kept_next}
use Rattle.ifdb_txn.proofs.matched.keep_matched.Goals as goal

pub keep_wanted-requires-clause-row_made : goal.keep_wanted-requires-clause-row_made
keep_wanted-requires-clause-row_made c =
    let run = rows_in c.args.run in
    let i = c.loop-place.place in
    let row = row_of c.row.result in
    let made = λ (r : Row). are_made (length c.args.from.tags.now) r.slot.label in
    sym (ap made (get_or_from_slice_get run i row row c.row.ensures)) ∙ all_at made run i row c.requires.rows_made (slice_get_within run i row c.row.ensures)

pub loop-place-preserved : goal.loop-place-preserved
loop-place-preserved c =
    let wanted = is_wanted c.args.from.tags.now c.args.cond.now c.args.from.label.now in
    kept_next wanted (rows_in c.args.run) c.loop-place.place (row_of c.row.result) (map row_of c.args.found.now.items) (map row_of c.loop-place.found.items) (map row_of c.keep_wanted.new.found.items)
    c.row.ensures c.loop-place.invariant c.in_ok-keep_wanted.ensures
