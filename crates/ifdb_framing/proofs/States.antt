-- A clean log gives a clean public state and clean rows.
use Rattle.std.proofs.Common.{◌≡◌, true, List, [], ◌∷◌, take, refl, Some, None, Option}
use Rattle.std.specs.List.{list_all}
use Rattle.std.proofs.lemmas.Bool.{and_parts}
use Rattle.ifdb_catalog.proofs.Tests.{both_of}
use Rattle.ifdb_row.specs.declared.row.Row.{Row}
use Rattle.ifdb_row.specs.Content.{after, content_from}
use Rattle.ifdb_row.proofs.ContentLaws.{all-after}
use Rattle.ifdb_label.specs.Tags.{made_tag}
use Rattle.ifdb_bound.specs.declared.request.Change.{Change}
use Rattle.ifdb_bound.specs.declared.request.Change.TheVariants as change
use Rattle.ifdb_catalog.specs.Public.{Public, opening, changed}
use Rattle.ifdb_model.specs.Log.{Entry, changes, commits, public_from, public_of, commits_of, content_of}
use Rattle.ifdb_model.specs.Session.{Txn, seen_in}
use Rattle.ifdb_laws.proofs.Logs.{txn_all}
use Rattle.ifdb_framing.proofs.Lists.{all_push, all_take}
use Rattle.ifdb_framing.proofs.Clean.{is_clean_row, is_clean_write, is_clean_change, is_clean_tag, is_clean_view, is_clean_public, is_clean_entry}

changed_clean : (p : Public) (c : Change) → is_clean_public p ≡ true → is_clean_change c ≡ true → is_clean_public (changed p c) ≡ true
changed_clean p (change.Principal asker name key clearance) h k = h
changed_clean p (change.Tag asker name kind parents) h k =
    let parts = and_parts (list_all is_clean_tag p.tags) (list_all is_clean_view p.views) h in
    both_of _ _ (all_push is_clean_tag p.tags (record { name = name; made = made_tag kind parents; owner = asker }) parts.0 k) parts.1
changed_clean p (change.Table asker schema) h k = h
changed_clean p (change.View view) h k =
    let parts = and_parts (list_all is_clean_tag p.tags) (list_all is_clean_view p.views) h in
    both_of _ _ parts.0 (all_push is_clean_view p.views view parts.1 k)
changed_clean p (change.Grant asker tag to) h k = h
changed_clean p (change.Revoke asker tag from) h k = h

public_clean_from : (p : Public) (log : List Entry) → is_clean_public p ≡ true → list_all is_clean_entry log ≡ true → is_clean_public (public_from p log) ≡ true
public_clean_from p [] h k = h
public_clean_from p (changes c ∷ log) h k =
    let parts = and_parts (is_clean_change c) (list_all is_clean_entry log) k in
    public_clean_from (changed p c) log (changed_clean p c h parts.0) parts.1
public_clean_from p (commits ws ∷ log) h k = public_clean_from p log h (and_parts (list_all is_clean_write ws) (list_all is_clean_entry log) k).1

pub public_clean : (log : List Entry) → list_all is_clean_entry log ≡ true → is_clean_public (public_of log) ≡ true
public_clean log h = public_clean_from opening log refl h

content_clean_from : (rows : List Row) (log : List Entry) → list_all is_clean_row rows ≡ true → list_all is_clean_entry log ≡ true → list_all is_clean_row (content_from rows (commits_of log)) ≡ true
content_clean_from rows [] h k = h
content_clean_from rows (changes c ∷ log) h k = content_clean_from rows log h (and_parts (is_clean_change c) (list_all is_clean_entry log) k).1
content_clean_from rows (commits ws ∷ log) h k =
    let parts = and_parts (list_all is_clean_write ws) (list_all is_clean_entry log) k in
    content_clean_from (after rows ws) log (all-after is_clean_row rows ws parts.0 h) parts.1

content_clean : (log : List Entry) → list_all is_clean_entry log ≡ true → list_all is_clean_row (content_of log) ≡ true
content_clean log h = content_clean_from [] log refl h

-- what a session sees, inside a transaction and outside
pub seen_public_clean : (log : List Entry) (o : Option Txn) → list_all is_clean_entry log ≡ true → is_clean_public (seen_in log o).public ≡ true
seen_public_clean log None h = public_clean log h
seen_public_clean log (Some x) h = public_clean (take x.begin log) (all_take is_clean_entry x.begin log h)

pub seen_rows_clean : (log : List Entry) (o : Option Txn) → list_all is_clean_entry log ≡ true → txn_all (list_all is_clean_write) o ≡ true → list_all is_clean_row (seen_in log o).rows ≡ true
seen_rows_clean log None h k = content_clean log h
seen_rows_clean log (Some x) h k =
    all-after is_clean_row (content_of (take x.begin log)) x.own k (content_clean (take x.begin log) (all_take is_clean_entry x.begin log h))
