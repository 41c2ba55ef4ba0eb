-- What stays true of rows and writes as the public state changes, and of rows as they are written.
use Rattle.std.proofs.Common.{◌≡◌, true, List, length, arith}
use Rattle.std.specs.Prelude.{option_to_list}
use Rattle.std.specs.List.{list_all}
use Rattle.std.proofs.lemmas.Bool.Decides.{nat_tests}
use Rattle.ifdb_value.proofs.Lists.{all_wider}
use Rattle.ifdb_label.specs.Tags.{are_made}
use Rattle.ifdb_row.specs.declared.row.Row.{Row}
use Rattle.ifdb_row.specs.declared.write.Write.{Write}
use Rattle.ifdb_row.specs.Content.{after, rising}
use Rattle.ifdb_row.specs.Writes.{are_fitting}
use Rattle.ifdb_row.proofs.ContentLaws.{all-after, rising_after}
use Rattle.ifdb_bound.specs.declared.request.Change.{Change}
use Rattle.ifdb_catalog.specs.Public.{Public, changed}
use Rattle.ifdb_model.specs.Session.{Seen}
use Rattle.ifdb_laws.specs.RowLaws.{row_fits, rows_fit}
use Rattle.ifdb_laws.proofs.rows.Fitting.{fits_changed}
use Rattle.ifdb_snapshot.specs.Sound.{is_sound}
use Rattle.ifdb_snapshot.specs.Writing.{is_fit, are_fit}
use Rattle.ifdb_snapshot.proofs.PublicStates.{made_more, tags_grow}

pub fit_rows : (x : Seen) → is_sound x ≡ true → list_all (row_fits x.public) x.rows ≡ true
fit_rows x h = grind (arith, nat_tests)

-- ---- as the public state changes

rows_changed : (p : Public) (c : Change) (rows : List Row) → list_all (row_fits p) rows ≡ true → list_all (row_fits (changed p c)) rows ≡ true
rows_changed p c rows h = all_wider (row_fits p) (row_fits (changed p c)) rows (λ r e. fits_changed p c r e) h

pub sound_changed : (x : Seen) (c : Change) → is_sound x ≡ true → is_sound (record x { public = changed x.public c }) ≡ true
sound_changed x c h =
    let fit = rows_changed x.public c x.rows (fit_rows x h) in
    grind (arith, nat_tests)

pub write_changed : (p : Public) (c : Change) (w : Write) → is_fit p w ≡ true → is_fit (changed p c) w ≡ true
write_changed p c w h =
    let parts : (are_made (length p.tags) w.slot.label ≡ true) × (list_all (row_fits p) (option_to_list w.row) ≡ true) = grind (arith, nat_tests) in
    let made = made_more (length p.tags) (length (changed p c).tags) w.slot.label (tags_grow p c) parts.0 in
    let fit = rows_changed p c (option_to_list w.row) parts.1 in
    grind (arith, nat_tests)

pub writes_changed : (p : Public) (c : Change) (ws : List Write) → are_fit p ws ≡ true → are_fit (changed p c) ws ≡ true
writes_changed p c ws h = all_wider (is_fit p) (is_fit (changed p c)) ws (λ w e. write_changed p c w e) h

-- ---- as rows are written

rows_of_writes : (p : Public) (ws : List Write) → are_fit p ws ≡ true → list_all (λ (w : Write). list_all (row_fits p) (option_to_list w.row)) ws ≡ true
rows_of_writes p ws h = all_wider (is_fit p) (λ (w : Write). list_all (row_fits p) (option_to_list w.row)) ws (λ w e. grind (arith, nat_tests)) h

pub sound_written : (x : Seen) (ws : List Write) → is_sound x ≡ true → are_fit x.public ws ≡ true → are_fitting ws ≡ true
    → is_sound (record x { rows = after x.rows ws }) ≡ true
sound_written x ws h k f =
    let parts : (rows_fit x ≡ true) × (rising x.rows ≡ true) = grind (arith, nat_tests) in
    let fit : list_all (row_fits x.public) (after x.rows ws) ≡ true = all-after (row_fits x.public) x.rows ws (rows_of_writes x.public ws k) parts.0 in
    let up = rising_after x.rows ws f parts.1 in
    grind (arith, nat_tests)
