-- All rows, walked run by run.
use Rattle.std.proofs.Common.{◌≡◌, ℕ, zero, suc, ◌-◌, ◌<◌, ◌+◌, Bool, true, false, List, [], ◌∷◌, ◌++◌, ◌∙◌, length, map, take, refl, sym, ap, subst, arith, cond, append_assoc, append-nil, length-append, Option, Some, None}
use Rattle.std.specs.Prelude.{◌&&◌, not, nat_lt, slice_get, Result, Ok, Err, IfOk}
use Rattle.std.specs.List.{flat_map, list_all}
use Rattle.std.proofs.lemmas.Bool.Decides.{nat_tests}
use Rattle.std.proofs.lemmas.List.{length-map, map-append, take_all}
use Rattle.std.proofs.lemmas.List.Folds.{list_all-append}
use Rattle.std.proofs.lemmas.Grind.{flat_map-append}
use Rattle.ifdb_row.specs.declared.slot.Slot.{Slot}
use Rattle.ifdb_row.specs.declared.row.Row.{Row}
use Rattle.ifdb_row.specs.declared.edge.Edge.{Edge}
use Rattle.ifdb_row.specs.declared.edge.Edge.TheVariants.{Table}
use Rattle.ifdb_row.specs.Slots.{slot_lt}
use Rattle.ifdb_row.specs.Content.{rising}
use Rattle.ifdb_row.specs.Edges.{lies_before}
use Rattle.ifdb_row.specs.Questions.{IsRun, rows_from}
use Rattle.ifdb_row.specs.Reach.{skip}
use Rattle.ifdb_row.specs.declared.write.Write.{Write}
use Rattle.ifdb_row.specs.Writes.{are_fitting, are_rising}
use Rattle.ifdb_row.proofs.SlotOrder.{slot_itself, slot_lt_itself}
use Rattle.ifdb_row.proofs.Rising.{lt_not_back, rising_back, rising_front}
use Rattle.ifdb_disk.specs.Clock.{Clock}
use Rattle.ifdb_log.specs.Pieces.{pieces}
use Rattle.ifdb_redo.specs.declared.record.RedoRecord.TheVariants as redo
use Rattle.ifdb_redo.specs.Reading.{record_of}
use Rattle.ifdb_restore.specs.Shorter.{writing}
use Rattle.ifdb_extract.specs.Extracts.{AreTextsOfRows, records_each, rows_of}
use Rattle.ifdb_extract.specs.Walks.{IsNextText, PutsRows}
use Rattle.ifdb_extract.specs.Writing.{Puts, Writing}
use Rattle.ifdb_extract.proofs.Writing.{puts_both, puts_none}

-- ---- the rows behind a row

abbrev is_up_to : Slot → Row → Bool
is_up_to s r = not (slot_lt s r.slot)

all_behind : (x : Row) (rest : List Row) → list_all (λ (y : Row). slot_lt x.slot y.slot) rest ≡ true → skip (is_up_to x.slot) rest ≡ rest
all_behind x [] up = refl
all_behind x (y ∷ rest) up =
    let first : slot_lt x.slot y.slot ≡ true = grind (arith, nat_tests) in
    ap (λ b. cond (not b) (skip (is_up_to x.slot) rest) (y ∷ rest)) first

skip_to : (front : List Row) (x : Row) (rest : List Row) → rising (front ++ x ∷ rest) ≡ true → skip (is_up_to x.slot) (front ++ x ∷ rest) ≡ rest
skip_to [] x rest up =
    let above : list_all (λ (y : Row). slot_lt x.slot y.slot) rest ≡ true = grind (arith, nat_tests) in
    ap (λ b. cond (not b) (skip (is_up_to x.slot) rest) (x ∷ rest)) (slot_lt_itself x.slot) ∙ all_behind x rest above
skip_to (r ∷ front) x rest up =
    let parts : (list_all (λ (y : Row). slot_lt r.slot y.slot) (front ++ x ∷ rest) ≡ true) × (rising (front ++ x ∷ rest) ≡ true) = grind (arith, nat_tests) in
    let both = list_all-append (λ (y : Row). slot_lt r.slot y.slot) front (x ∷ rest) in
    let lower : slot_lt r.slot x.slot ≡ true = grind (arith, nat_tests) in
    ap (λ b. cond (not b) (skip (is_up_to x.slot) (front ++ x ∷ rest)) (r ∷ (front ++ x ∷ rest))) (lt_not_back r.slot x.slot lower) ∙ skip_to front x rest parts.1

-- the last of some rows
last_at : (run : List Row) (n : ℕ) (x : Row) → suc n ≡ length run → slice_get run n ≡ Some x → (front : List Row) × (run ≡ front ++ x ∷ [])
last_at [] n x size e = absurd (omega (arith, size))
last_at (y ∷ []) zero x size e = let same : y ≡ x = cc in ([], ap (λ r. r ∷ []) same)
last_at (y ∷ (z ∷ run)) zero x size e = absurd (omega (arith, size))
last_at (y ∷ run) (suc n) x size e =
    let rest = last_at run n x (omega (arith, size)) e in
    (y ∷ rest.0, ap (λ rows. y ∷ rows) rest.1)

last_of : (run : List Row) (x : Row) → slice_get run (length run - 1) ≡ Some x → (front : List Row) × (run ≡ front ++ x ∷ [])
last_of [] x e = absurd (cc e)
last_of (y ∷ run) x e = last_at (y ∷ run) (length (y ∷ run) - 1) x (omega arith) e

is_there : (run : List Row) (n : ℕ) → n < length run → slice_get run n ≡ None → ⊥
is_there [] n lt e = omega (arith, lt)
is_there (y ∷ run) zero lt e = cc e
is_there (y ∷ run) (suc n) lt e = is_there run n (omega (arith, lt)) e

pub none_last : (run : List Row) → slice_get run (length run - 1) ≡ None → run ≡ []
none_last [] e = refl
none_last (y ∷ run) e = absurd (is_there (y ∷ run) (length (y ∷ run) - 1) (omega arith) e)

-- of an answer that is there two facts are known
pub if_both : {A E : Type 0} {P Q R : A → Type 0} (r : Result A E) → IfOk r P → IfOk r Q → ((x : A) → P x → Q x → R x) → IfOk r R
if_both (Ok x) p q so = so x p q
if_both (Err e) p q so = tt

-- ---- the writes of some rows

pub write_there : (rows : List Row) (i : ℕ) (r : Row) (w : Write) → slice_get rows i ≡ Some r → w.slot ≡ r.slot → w.row ≡ Some r → slice_get (writing rows) i ≡ Some w
write_there [] i r w e slot row = absurd (cc e)
write_there (x ∷ rows) zero r w e slot row =
    let same : x ≡ r = cc e in
    ap (λ (y : Row). Some (record { slot = y.slot; row = Some y })) same ∙ sym (λ k. Some (record { slot = slot k; row = row k }))
write_there (x ∷ rows) (suc i) r w e slot row = write_there rows i r w e slot row

all_above : (s : Slot) (rows : List Row) → list_all (λ (v : Write). slot_lt s v.slot) (writing rows) ≡ list_all (λ (x : Row). slot_lt s x.slot) rows
all_above s [] = refl
all_above s (r ∷ rows) = ap (λ b. slot_lt s r.slot && b) (all_above s rows)

writing_rises : (rows : List Row) → are_rising (writing rows) ≡ rising rows
writing_rises [] = refl
writing_rises (r ∷ rows) = λ i. all_above r.slot rows i && writing_rises rows i

writing_fits : (rows : List Row) → are_fitting (writing rows) ≡ true
writing_fits [] = refl
writing_fits (r ∷ rows) = λ i. slot_itself r.slot i && writing_fits rows i

pub all_written : (rows : List Row) (n : ℕ) (ws : List Write) → n ≡ length rows → ws ≡ take n (writing rows) → ws ≡ writing rows
all_written rows n ws size is =
    let one : Row → Write = λ r. record { slot = r.slot; row = Some r } in
    is ∙ take_all n (writing rows) (omega (arith, size, length-map rows one))

pub written_rise : (rows : List Row) (n : ℕ) (ws : List Write) → n ≡ length rows → ws ≡ take n (writing rows) → rising rows ≡ true → are_rising ws ≡ true
written_rise rows n ws size is up = ap are_rising (all_written rows n ws size is) ∙ writing_rises rows ∙ up

pub written_fit : (rows : List Row) (n : ℕ) (ws : List Write) → n ≡ length rows → ws ≡ take n (writing rows) → are_fitting ws ≡ true
written_fit rows n ws size is = ap are_fitting (all_written rows n ws size is) ∙ writing_fits rows

-- ---- a walk

-- from the first edge on there are all rows
pub from_first : (rows : List Row) → rows_from (Table 0) rows ≡ rows
from_first [] = refl
from_first (r ∷ rows) =
    let none : nat_lt r.slot.table 0 ≡ false = grind (arith, nat_tests) in
    ap (λ b. cond b (rows_from (Table 0) rows) (r ∷ rows)) none

-- what is skipped stands in front
skipped : (p : Row → Bool) (rows : List Row) → (done : List Row) × (rows ≡ done ++ skip p rows)
skipped p [] = ([], refl)
skipped p (r ∷ rows) = by (p r) (skipped p rows) where
  by : (b : Bool) → ((done : List Row) × (rows ≡ done ++ skip p rows)) → (done : List Row) × (r ∷ rows ≡ done ++ cond b (skip p rows) (r ∷ rows))
  by true rest = (r ∷ rest.0, ap (λ l. r ∷ l) rest.1)
  by false rest = ([], refl)

-- the rows of a run rise
pub run_rises : (rows run : List Row) (e : Edge) → rising rows ≡ true → IsRun run (rows_from e rows) → rising run ≡ true
run_rises rows run e up is =
    let done = skipped (λ (r : Row). lies_before e r.slot) rows in
    let whole : rising (done.0 ++ rows_from e rows) ≡ true = ap rising (sym done.1) ∙ up in
    rising_front run is.rest (ap rising (sym is.front) ∙ rising_back done.0 (rows_from e rows) whole)

-- the text of a run
pub next_text : (rows run : List Row) (e f : Edge) (x : Row) (text : List ℕ) → rising rows ≡ true → IsRun run (rows_from e rows) → slice_get run (length run - 1) ≡ Some x
    → ((r : Row) → lies_before f r.slot ≡ is_up_to x.slot r) → record_of text ≡ Some (redo.Commit (writing run)) → IsNextText rows e f text
next_text rows run e f x text up is last behind read =
    let done = skipped (λ (r : Row). lies_before e r.slot) rows in
    let front = last_of run x last in
    let left : rows_from e rows ≡ front.0 ++ x ∷ is.rest = is.front ∙ ap (λ l. l ++ is.rest) front.1 ∙ append_assoc front.0 (x ∷ []) is.rest in
    let whole : rows ≡ (done.0 ++ front.0) ++ x ∷ is.rest = done.1 ∙ ap (λ l. done.0 ++ l) left ∙ sym (append_assoc done.0 front.0 (x ∷ is.rest)) in
    let same : rows_from f rows ≡ skip (is_up_to x.slot) rows = ap (λ (p : Row → Bool). skip p rows) (λ i r. behind r i) in
    let rest : rows_from f rows ≡ is.rest = same ∙ ap (skip (is_up_to x.slot)) whole ∙ skip_to (done.0 ++ front.0) x is.rest (ap rising (sym whole) ∙ up) in
    record {
      run = run;
      read = read;
      split = is.front ∙ ap (λ l. run ++ l) (sym rest);
      fewer = omega (arith, ap length rest, ap length left, length-append front.0 (x ∷ is.rest));
    }

pub none_left : (rows run : List Row) (e : Edge) → IsRun run (rows_from e rows) → slice_get run (length run - 1) ≡ None → rows_from e rows ≡ []
none_left rows run e is last = is.some (none_last run last)

-- ---- the texts of all rows

-- some texts are commits of all rows in front of an edge
pub record AreInFront (rows : List Row) (e : Edge) (texts : List (List ℕ)) : Type 0 where
  pub done : List Row
  pub are : AreTextsOfRows texts done
  pub split : done ++ rows_from e rows ≡ rows

pub front_first : (rows : List Row) (e : Edge) → rows_from e rows ≡ rows → AreInFront rows e []
front_first rows e all = record { done = []; are = record { parts = []; all = refl; are = refl }; split = all }

rows_append : (parts more : List (List Row)) → rows_of (parts ++ more) ≡ rows_of parts ++ rows_of more
rows_append [] more = refl
rows_append (rows ∷ parts) more = ap (λ l. rows ++ l) (rows_append parts more) ∙ sym (append_assoc rows (rows_of parts) (rows_of more))

one_more : (texts : List (List ℕ)) (done run : List Row) (text : List ℕ) → AreTextsOfRows texts done → record_of text ≡ Some (redo.Commit (writing run)) → AreTextsOfRows (texts ++ text ∷ []) (done ++ run)
one_more texts done run text are read = record {
  parts = are.parts ++ run ∷ [];
  all = rows_append are.parts (run ∷ []) ∙ (λ i. are.all i ++ append-nil run i);
  are =
      map-append record_of texts (text ∷ []) ∙ (λ i. are.are i ++ (read i ∷ [])) ∙ sym (map-append Some (records_each are.parts) (redo.Commit (writing run) ∷ []))
      ∙ ap (map Some) (sym (map-append (λ (rows : List Row). redo.Commit (writing rows)) are.parts (run ∷ [])));
}

pub front_next : (rows : List Row) (e f : Edge) (texts : List (List ℕ)) (text : List ℕ) → IsNextText rows e f text → AreInFront rows e texts → AreInFront rows f (texts ++ text ∷ [])
front_next rows e f texts text next front = record {
  done = front.done ++ next.run;
  are = one_more texts front.done next.run text front.are next.read;
  split = append_assoc front.done next.run (rows_from f rows) ∙ ap (λ l. front.done ++ l) (sym next.split) ∙ front.split;
}

pub front_last : (rows : List Row) (e : Edge) (texts : List (List ℕ)) → rows_from e rows ≡ [] → AreInFront rows e texts → AreTextsOfRows texts rows
front_last rows e texts none front = subst (AreTextsOfRows texts) (sym (append-nil front.done) ∙ ap (λ l. front.done ++ l) (sym none) ∙ front.split) front.are

-- ---- their records, which are put one behind the other

-- those of all rows in front of an edge were put
pub record IsPutSoFar (rows : List Row) (e : Edge) (t : Option Clock) (w : Writing) (u : Option Clock) (v : Writing) : Type 0 where
  pub texts : List (List ℕ)
  pub front : AreInFront rows e texts
  pub puts : Puts (flat_map pieces texts) t w u v

pub put_first : (rows : List Row) (e : Edge) (t : Option Clock) (w : Writing) → rows_from e rows ≡ rows → IsPutSoFar rows e t w t w
put_first rows e t w all = record { texts = []; front = front_first rows e all; puts = puts_none t w }

pub put_next : (rows : List Row) (e f : Edge) (t u u' : Option Clock) (w v v' : Writing) (text : List ℕ) → IsNextText rows e f text → Puts (pieces text) u v u' v' → IsPutSoFar rows e t w u v → IsPutSoFar rows f t w u' v'
put_next rows e f t u u' w v v' text next puts so = record {
  texts = so.texts ++ text ∷ [];
  front = front_next rows e f so.texts text next so.front;
  puts = subst (λ l. Puts l t w u' v') (sym (flat_map-append pieces so.texts (text ∷ []) ∙ ap (λ l. flat_map pieces so.texts ++ l) (append-nil (pieces text)))) (puts_both (flat_map pieces so.texts) (pieces text) t u u' w v v' so.puts puts);
}

pub put_last : (rows : List Row) (e : Edge) (t u : Option Clock) (w v : Writing) → rows_from e rows ≡ [] → IsPutSoFar rows e t w u v → PutsRows rows t w u v
put_last rows e t u w v none so = (so.texts, front_last rows e so.texts none so.front, so.puts)
