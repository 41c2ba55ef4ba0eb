use Rattle.std.proofs.Common.{◌≡◌, ◌+◌, ◌-◌, ◌<◌, ◌≤◌, ◌++◌, ◌∷◌, ◌∙◌, [], List, append-nil, ap, arith, drop, length, map, rules, sym, take, true, ℕ}
use Rattle.std.specs.List.{drop-map, list_all, take-map}
use Rattle.std.proofs.lemmas.Bool.Decides.{nat_tests}
use Rattle.std.proofs.lemmas.List.{append_assoc, length-drop, length-map, length-take, map-append}
use Rattle.std.proofs.lemmas.List.Folds.{list_all-append}
use Rattle.ifdb_row.specs.declared.row.Row.{Row}
use Rattle.ifdb_row.specs.declared.row.RowRef.{RowRef}
use Rattle.ifdb_row.specs.ByReference.{row_of}
use Rattle.ifdb_row.specs.Content.{rising}
use Rattle.ifdb_row.proofs.Rising.{rising_part}
use Rattle.ifdb_store.specs.Pages.{flat, is_page}
use Rattle.ifdb_store.proofs.PartLemmas.{take_part}
use Rattle.ifdb_store.proofs.page.cut.Goals as goal

page_is : (rows : List Row) → 0 < length rows → length rows ≤ 64 → rising rows ≡ true → is_page rows ≡ true
page_is rows some few up = grind (arith, nat_tests)

flat_more : (pages : List (List Row)) (page : List Row) → flat (pages ++ page ∷ []) ≡ flat pages ++ page
flat_more [] page = append-nil page
flat_more (p ∷ pages) page = ap (λ rows. p ++ rows) (flat_more pages page) ∙ sym (append_assoc p (flat pages) page)

all_more : (pages : List (List Row)) (page : List Row) → list_all is_page pages ≡ true → is_page page ≡ true → list_all is_page (pages ++ page ∷ []) ≡ true
all_more pages page all one = let both = list_all-append is_page pages (page ∷ []) in grind (arith, nat_tests, both)

part_is_page : (items : List RowRef) (from many : ℕ) → rising (map row_of items) ≡ true → from + many ≤ length items → 0 < many → many ≤ 64 → is_page (map row_of (take many (drop from items))) ≡ true
part_is_page items from many h within some few =
    let part = take many (drop from items) in
    let same : map row_of part ≡ take many (drop from (map row_of items)) = sym (take-map row_of many (drop from items)) ∙ ap (take many) (sym (drop-map row_of from items)) in
    let up : rising (map row_of part) ≡ true = ap rising same ∙ rising_part from many (map row_of items) h in
    let long : length part ≡ many = simp (length-take, length-drop) (omega arith) in
    let len = length-map part row_of in
    page_is (map row_of part) (omega arith) (omega arith) up

pub of-requires : goal.of-requires
of-requires c =
    let e = c.end_of-to.ensures in
    part_is_page c.args.rows.now c.loop-from.from (c.end_of-to.result - c.loop-from.from) c.requires.rising (omega arith) (omega arith) (omega arith)

pub loop-from-preserved : goal.loop-from-preserved
loop-from-preserved c =
    let from = c.loop-from.from in
    let to = c.end_of-to.result in
    let items = c.args.rows.now in
    let part = take (to - from) (drop from items) in
    let i = c.loop-from.invariant in
    let e = c.end_of-to.ensures in
    let good = part_is_page items from (to - from) c.requires.rising (omega arith) (omega arith) (omega arith) in
    let page : c.in_ok-new.field-0 ≡ map row_of part = c.in_ok-new.ensures ∙ c.in_ok-page.ensures in
    let new : c.push.new.self.items ≡ c.loop-from.out.items ++ map row_of part ∷ [] = c.in_ok-push.ensures.items ∙ ap (λ (p : List Row). c.loop-from.out.items ++ p ∷ []) page in
    let front = map row_of (take from items) in
    let more : front ++ map row_of part ≡ map row_of (take to items) = sym (map-append row_of (take from items) part) ∙ ap (map row_of) (sym (take_part from to items (let m = c.end_of-to.ensures.more in omega arith))) in
    record {
      within = search rules;
      rows = ap flat new ∙ (flat_more c.loop-from.out.items (map row_of part) ∙ (ap (λ rows. rows ++ map row_of part) i.rows ∙ (append_assoc (flat c.args.out.now.items) front (map row_of part) ∙ ap (λ rows. flat c.args.out.now.items ++ rows) more)));
      pages = ap (list_all is_page) new ∙ all_more c.loop-from.out.items (map row_of part) i.pages good;
    }
