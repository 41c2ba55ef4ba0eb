use Rattle.std.proofs.Common.{◌≡◌, ◌∙◌, ◌<◌, ap, length, subst, sym, true, Some, None, arith}
use Rattle.std.specs.Prelude.{filter, find, is_some}
use Rattle.std.specs.List.{list_all}
use Rattle.std.proofs.lemmas.Bool.Decides.{nat_tests}
use Rattle.ifdb_row.specs.ByReference.{option_row, option_slot, row_of, slot_of}
use Rattle.ifdb_row.specs.Content.{rising}
use Rattle.ifdb_row.specs.Questions.{if_passes, is_child_of, row_at, row_bound_to}
use Rattle.ifdb_row.proofs.KeyRows.{found_all}
use Rattle.ifdb_row.proofs.TableWalks.{is_true}
use Rattle.ifdb_store.specs.Links.{are_links, are_near, child_slot, is_link, is_next_link, print_of}
use Rattle.ifdb_store.proofs.FindLemmas.{none_row, some_row}
use Rattle.ifdb_store.proofs.Walking.{fewer, near_child, walk_here, walk_none, walk_on}
use Rattle.ifdb_store.proofs.links.first_child.Goals as goal

pub child_of-child-requires : goal.child_of-child-requires
child_of-child-requires c =
    let links = c.args.links.now in
    let good = is_true (are_links links c.args.rows.now) c.requires.links in
    let one : list_all is_link links ≡ true = grind (arith, nat_tests) in
    let all : is_link (row_of c.in-Some.link) ≡ true = found_all is_link (is_next_link c.print_of-print.result (option_slot c.links.behind)) links (row_of c.in-Some.link) (sym c.in-Some.ensures.link) one in
    grind (arith, nat_tests, all)

pub returns-then-is_some-clause-row : goal.returns-then-is_some-clause-row
returns-then-is_some-clause-row c =
    let links = c.args.links.now in
    let rows = c.args.rows.now in
    let p = slot_of c.args.slot in
    let behind = option_slot c.links.behind in
    let x = row_of c.in-Some.link in
    let found : find (is_next_link (print_of p) behind) links ≡ Some x = ap (λ n. find (is_next_link n behind) links) (sym c.print_of-print.ensures) ∙ sym c.in-Some.ensures.link in
    let up = is_true (rising links) c.in-Some.ensures.rising in
    let row : option_row c.child_in-row.result ≡ if_passes (is_child_of p) (row_at (child_slot x.slot) rows) = c.child_in-row.ensures.row ∙ ap (λ s. if_passes (is_child_of p) (row_at s rows)) c.child_of-child.ensures in
    let some : is_some (option_row c.child_in-row.result) ≡ true = sym (some_row c.child_in-row.result) ∙ (sym c.is_some.ensures ∙ c.if-is_some.true) in
    walk_here p behind links x up found rows (is_true (rising rows) c.requires.rising) (is_true (are_near rows) c.requires.near) (is_true (are_links links rows) c.requires.links) (option_row c.child_in-row.result) (sym row) some
    ∙ c.links.invariant.same

pub links-smaller : goal.links-smaller
links-smaller c =
    let links = c.args.links.now in
    let p = slot_of c.args.slot in
    let behind = option_slot c.links.behind in
    let x = row_of c.in-Some.link in
    let found : find (is_next_link (print_of p) behind) links ≡ Some x = ap (λ n. find (is_next_link n behind) links) (sym c.print_of-print.ensures) ∙ sym c.in-Some.ensures.link in
    subst (λ s. length (filter (is_next_link (print_of p) (Some s)) links) < length (filter (is_next_link (print_of p) behind) links)) (sym c.child_of-child.ensures)
    (fewer p behind links x (is_true (rising links) c.in-Some.ensures.rising) found)

pub links-preserved : goal.links-preserved
links-preserved c =
    let links = c.args.links.now in
    let rows = c.args.rows.now in
    let p = slot_of c.args.slot in
    let behind = option_slot c.links.behind in
    let x = row_of c.in-Some.link in
    let found : find (is_next_link (print_of p) behind) links ≡ Some x = ap (λ n. find (is_next_link n behind) links) (sym c.print_of-print.ensures) ∙ sym c.in-Some.ensures.link in
    let up = is_true (rising links) c.in-Some.ensures.rising in
    let row : option_row c.child_in-row.result ≡ if_passes (is_child_of p) (row_at (child_slot x.slot) rows) = c.child_in-row.ensures.row ∙ ap (λ s. if_passes (is_child_of p) (row_at s rows)) c.child_of-child.ensures in
    let none = sym row ∙ none_row c.child_in-row.result (sym c.is_some.ensures ∙ c.if-is_some.false) in
    let on = walk_on p behind links x up found rows (is_true (rising rows) c.requires.rising) (is_true (are_near rows) c.requires.near) (is_true (are_links links rows) c.requires.links) none in
    record {
      same = ap (λ s. row_bound_to p (Some s) rows) c.child_of-child.ensures ∙ (sym on ∙ c.links.invariant.same);
      near = near_child x.slot (slot_of c.child_of-child.result) c.child_of-child.ensures;
    }

pub returns-clause-row : goal.returns-clause-row
returns-clause-row c =
    let links = c.args.links.now in
    let rows = c.args.rows.now in
    let p = slot_of c.args.slot in
    let behind = option_slot c.links.behind in
    let none : find (is_next_link (print_of p) behind) links ≡ None = ap (λ n. find (is_next_link n behind) links) (sym c.print_of-print.ensures) ∙ sym c.in_default.ensures.link in
    sym (walk_none p behind links rows none (is_true (are_near rows) c.requires.near) (is_true (are_links links rows) c.requires.links)) ∙ c.links.invariant.same
