-- Rows of before that the writes leave without a parent, one write after the other.
use Rattle.std.proofs.Common.{◌≡◌, true, false, List, [], ◌∷◌, ◌++◌, ◌∙◌, refl, arith, None, ◌&&◌, ◌||◌}
use Rattle.std.specs.Prelude.{not, find}
use Rattle.std.proofs.lemmas.Bool.Decides.{nat_tests}
use Rattle.ifdb_row.specs.declared.row.Row.{Row}
use Rattle.ifdb_row.specs.declared.write.Write.{Write}
use Rattle.ifdb_row.specs.Writes.{is_gone, is_written}
use Rattle.ifdb_row.specs.Content.{rising}
use Rattle.ifdb_row.specs.Questions.{earlier, is_child_of}
use Rattle.ifdb_row.specs.Verdict.{is_left, empties_parent}
use Rattle.ifdb_row.proofs.Children.{find_either, left_more, left_by_none}
use Rattle.ifdb_foreign.specs.Left.{unwritten}
use Rattle.ifdb_foreign.proofs.AfterWrites.{find_same}

pub kept_none : (all : List Write) (rows : List Row) → find (unwritten all (is_left [])) rows ≡ None
kept_none all [] = refl
kept_none all (r ∷ rows) = let e = left_by_none r in grind (arith, nat_tests, kept_none all rows)

pub kept_more : (all ws : List Write) (w : Write) (rows : List Row) → rising rows ≡ true
    → find (unwritten all (is_left (ws ++ w ∷ []))) rows ≡ earlier (find (unwritten all (is_left ws)) rows) (find (unwritten all (λ r. empties_parent r w)) rows)
kept_more all ws w rows h =
    find_same (unwritten all (is_left (ws ++ w ∷ []))) (λ r. unwritten all (is_left ws) r || unwritten all (λ r. empties_parent r w) r) rows (λ r. let e = left_more ws w r in grind (arith, nat_tests))
    ∙ find_either (unwritten all (is_left ws)) (unwritten all (λ r. empties_parent r w)) rows h

pub kept_by_row : (all : List Write) (w : Write) (rows : List Row) → is_gone w.row ≡ false → find (unwritten all (λ r. empties_parent r w)) rows ≡ None
kept_by_row all w [] e = refl
kept_by_row all w (r ∷ rows) e = grind (arith, nat_tests, kept_by_row all w rows)

pub kept_by_deletion : (all : List Write) (w : Write) (rows : List Row) → is_gone w.row ≡ true
    → find (λ (r : Row). not (is_written all r.slot) && is_child_of w.slot r) rows ≡ find (unwritten all (λ r. empties_parent r w)) rows
kept_by_deletion all w rows e = find_same (λ (r : Row). not (is_written all r.slot) && is_child_of w.slot r) (unwritten all (λ r. empties_parent r w)) rows (λ r. grind (arith, nat_tests))
