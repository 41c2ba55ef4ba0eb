-- Rows put into a gap between those of one list of values.
use Rattle.std.proofs.Common.{◌≡◌, ℕ, suc, ◌+◌, ◌-◌, ◌*◌, ◌≤◌, Bool, true, false, List, [], ◌∷◌, ◌++◌, ◌∙◌, get_or, length, take, drop, refl, sym, ap, arith, Some, None}
use Rattle.std.specs.Prelude.{◌==◌, if◌then◌else◌}
use Rattle.std.specs.List.{list_all}
use Rattle.std.proofs.lemmas.Bool.Decides.{nat_tests}
use Rattle.std.proofs.lemmas.List.{append_assoc, append-nil, drop-append-le, length-append, length-drop, length-take-le, set_split, take-append-drop, take-append-le, take_all, take_at}
use lib.Seq.{drop-nil}
use Rattle.ifdb_value.specs.declared.value.Value.{Value}
use Rattle.ifdb_row.specs.declared.slot.Slot.{Slot}
use Rattle.ifdb_row.specs.declared.row.Row.{Row}
use Rattle.ifdb_row.specs.declared.even_run.Head.{Head}
use Rattle.ifdb_row.specs.declared.write.Write.{Write}
use Rattle.ifdb_row.specs.Content.{after, place, rising}
use Rattle.ifdb_row.specs.Runs.{even_row, even_rows}
use Rattle.ifdb_store.specs.Stands.{stands}
use Rattle.ifdb_store.proofs.Parts.{after_next}
use Rattle.ifdb_row.proofs.EvenRows.{even_from, even_length, front_within, rest_within}
use Rattle.ifdb_row.proofs.Sorted.{taken, place_of, put_there, put_new, place_put, drop_there, drop_none, rising_sorted, taken_within}

-- a list of three, whose outer ones are the front and the rest of one
pub three_parts : {X : Type 0} (xs ys a b : List X) (n m : ℕ) → a ≡ take n xs → b ≡ drop m xs → a ++ (ys ++ (b ++ [])) ≡ take n xs ++ (ys ++ drop m xs)
three_parts xs ys a b n m e f = ap (λ l. l ++ (ys ++ (b ++ []))) e ∙ ap (λ l. take n xs ++ (ys ++ l)) (append-nil b ∙ f)

-- and one whose middle is in two parts
pub four_parts : {X : Type 0} (xs ys zs a b : List X) (n m : ℕ) → a ≡ take n xs → b ≡ drop m xs → a ++ (ys ++ (zs ++ (b ++ []))) ≡ take n xs ++ ((ys ++ zs) ++ drop m xs)
four_parts xs ys zs a b n m e f =
    ap (λ l. a ++ l) (sym (append_assoc ys zs (b ++ []))) ∙ three_parts xs (ys ++ zs) a b n m e f

pub empty : {X : Type 0} (xs : List X) → length xs ≡ 0 → xs ≡ []
empty [] e = refl
empty (x ∷ xs) e = absurd (omega (arith, e))

-- it refers to nothing
abbrev pub nothing : List Slot → Bool
nothing refs = length refs == 0

module _ (k w : ℕ) (keyed : k ≤ w) where
  -- a row in front of others takes none of their values
  row_front : (h : Head) (refs : List Slot) (cs others : List Value) → w ≤ length cs → even_row k w h refs (cs ++ others) ≡ even_row k w h refs cs
  row_front h refs cs others le =
      let key : take k (cs ++ others) ≡ take k cs = take-append-le k cs others (omega arith) in
      let long : w - k ≤ length (drop k cs) = omega (arith, length-drop k cs) in
      let values : take (w - k) (drop k (cs ++ others)) ≡ take (w - k) (drop k cs) =
      ap (take (w - k)) (drop-append-le k cs others (omega arith)) ∙ take-append-le (w - k) (drop k cs) others long in
      λ i. record { slot = record { table = h.table; key = key i; label = h.label }; values = values i; refs = refs }

  -- two lists of rows are one behind the other, where their parts are
  even_join : (hs hs' : List Head) (rs rs' : List (List Slot)) (cs cs' : List Value) → length rs ≡ length hs → length hs * w ≡ length cs
      → even_rows k w (hs ++ hs') (rs ++ rs') (cs ++ cs') ≡ even_rows k w hs rs cs ++ even_rows k w hs' rs' cs'
  even_join [] hs' [] rs' [] cs' a b = refl
  even_join [] hs' [] rs' (c ∷ cs) cs' a b = absurd (omega arith)
  even_join [] hs' (r ∷ rs) rs' cs cs' a b = absurd (omega arith)
  even_join (h ∷ hs) hs' [] rs' cs cs' a b = absurd (omega arith)
  even_join (h ∷ hs) hs' (r ∷ rs) rs' cs cs' a b =
      let le : w ≤ length cs = omega (arith, b) in
      let rest : length hs * w ≡ length (drop w cs) = omega (arith, b, length-drop w cs) in
      ap (λ x. x ∷ even_rows k w (hs ++ hs') (rs ++ rs') (drop w (cs ++ cs'))) (row_front h r cs cs' le)
      ∙ ap (λ xs. even_row k w h r cs ∷ xs) (ap (even_rows k w (hs ++ hs') (rs ++ rs')) (drop-append-le w cs cs' le) ∙ even_join hs hs' rs rs' (drop w cs) cs' (omega (arith, a)) rest)

  free_join : (hs hs' : List Head) (cs cs' : List Value) → length hs * w ≡ length cs → even_rows k w (hs ++ hs') [] (cs ++ cs') ≡ even_rows k w hs [] cs ++ even_rows k w hs' [] cs'
  free_join [] hs' [] cs' b = refl
  free_join [] hs' (c ∷ cs) cs' b = absurd (omega arith)
  free_join (h ∷ hs) hs' cs cs' b =
      let le : w ≤ length cs = omega (arith, b) in
      let rest : length hs * w ≡ length (drop w cs) = omega (arith, b, length-drop w cs) in
      ap (λ x. x ∷ even_rows k w (hs ++ hs') [] (drop w (cs ++ cs'))) (row_front h [] cs cs' le)
      ∙ ap (λ xs. even_row k w h [] cs ∷ xs) (ap (even_rows k w (hs ++ hs') []) (drop-append-le w cs cs' le) ∙ free_join hs hs' (drop w cs) cs' rest)

  -- rows none of which refers to anything
  unsaid : (hs : List Head) (rs : List (List Slot)) (cs : List Value) → list_all nothing rs ≡ true → even_rows k w hs rs cs ≡ even_rows k w hs [] cs
  unsaid [] rs cs e = refl
  unsaid (h ∷ hs) [] cs e = refl
  unsaid (h ∷ hs) ([] ∷ rs) cs e =
      let rest : list_all nothing rs ≡ true = grind (arith, nat_tests) in
      ap (λ xs. even_row k w h [] cs ∷ xs) (unsaid hs rs (drop w cs) rest)
  unsaid (h ∷ hs) ((r ∷ refs) ∷ rs) cs e = absurd (grind (arith, nat_tests))

  module _ (hs : List Head) (rs : List (List Slot)) (cs : List Value) (long : length hs * w ≤ length cs) where
    front_long : (n : ℕ) → n ≤ length hs → length (take n hs) * w ≡ length (take (n * w) cs)
    front_long n le =
        let within = front_within n (length hs) w (length cs) le long in
        ap (λ m. m * w) (length-take-le n hs le) ∙ sym (length-take-le (n * w) cs within)

    -- the first rows, of the first parts
    front_rows : (n : ℕ) → n ≤ length hs → length rs ≡ length hs → even_rows k w (take n hs) (take n rs) (take (n * w) cs) ≡ take n (even_rows k w hs rs cs)
    front_rows n le said =
        let first = even_rows k w (take n hs) (take n rs) (take (n * w) cs) in
        let others = even_rows k w (drop n hs) (drop n rs) (drop (n * w) cs) in
        let refs : length (take n rs) ≡ length (take n hs) = length-take-le n rs (omega (arith, said)) ∙ sym (length-take-le n hs le) in
        let whole : even_rows k w hs rs cs ≡ first ++ others =
        ap (λ xs. even_rows k w xs rs cs) (sym (take-append-drop n hs))
        ∙ (ap (λ xs. even_rows k w (take n hs ++ drop n hs) xs cs) (sym (take-append-drop n rs))
        ∙ (ap (even_rows k w (take n hs ++ drop n hs) (take n rs ++ drop n rs)) (sym (take-append-drop (n * w) cs))
        ∙ even_join (take n hs) (drop n hs) (take n rs) (drop n rs) (take (n * w) cs) (drop (n * w) cs) refs (front_long n le))) in
        let many : length first ≡ n = even_length k w (take n hs) (take n rs) (take (n * w) cs) ∙ length-take-le n hs le in
        sym (ap (take n) whole ∙ take_at first others n many)

    free_front : (n : ℕ) → n ≤ length hs → even_rows k w (take n hs) [] (take (n * w) cs) ≡ take n (even_rows k w hs [] cs)
    free_front n le =
        let first = even_rows k w (take n hs) [] (take (n * w) cs) in
        let others = even_rows k w (drop n hs) [] (drop (n * w) cs) in
        let whole : even_rows k w hs [] cs ≡ first ++ others =
        ap (λ xs. even_rows k w xs [] cs) (sym (take-append-drop n hs))
        ∙ (ap (even_rows k w (take n hs ++ drop n hs) []) (sym (take-append-drop (n * w) cs))
        ∙ free_join (take n hs) (drop n hs) (take (n * w) cs) (drop (n * w) cs) (front_long n le)) in
        let many : length first ≡ n = even_length k w (take n hs) [] (take (n * w) cs) ∙ length-take-le n hs le in
        sym (ap (take n) whole ∙ take_at first others n many)

    module _ (hs' : List Head) (rs' : List (List Slot)) (cs' : List Value) (wide : length cs' ≡ length hs' * w) (n m : ℕ) (from : n ≤ length hs) where
      -- there are values enough
      pub spliced_long : n ≤ m → m ≤ length hs → length (take n hs ++ (hs' ++ drop m hs)) * w ≤ length (take (n * w) cs ++ (cs' ++ drop (m * w) cs))
      spliced_long order to =
          let heads : length (take n hs ++ (hs' ++ drop m hs)) ≡ n + (length hs' + (length hs - m)) =
          omega (arith, length-append (take n hs) (hs' ++ drop m hs), length-append hs' (drop m hs), length-take-le n hs from, length-drop m hs) in
          let before = length-take-le (n * w) cs (front_within n (length hs) w (length cs) from long) in
          let cells : length (take (n * w) cs ++ (cs' ++ drop (m * w) cs)) ≡ n * w + (length cs' + (length cs - m * w)) =
          omega (arith, length-append (take (n * w) cs) (cs' ++ drop (m * w) cs), length-append cs' (drop (m * w) cs), before, length-drop (m * w) cs) in
          let rest = rest_within m (length hs) w (length cs) to long in
          let wider : (n + (length hs' + (length hs - m))) * w ≡ n * w + (length hs' * w + (length hs - m) * w) = omega arith in
          let all : length (take n hs ++ (hs' ++ drop m hs)) * w ≡ n * w + (length hs' * w + (length hs - m) * w) = ap (λ l. l * w) heads ∙ wider in
          omega (arith, all, cells, rest, wide)

      -- others in a gap, where each row has a place for what it refers to
      pub spliced_rows : length rs' ≡ length hs' → length rs ≡ length hs
          → even_rows k w (take n hs ++ (hs' ++ drop m hs)) (take n rs ++ (rs' ++ drop m rs)) (take (n * w) cs ++ (cs' ++ drop (m * w) cs))
          ≡ take n (even_rows k w hs rs cs) ++ (even_rows k w hs' rs' cs' ++ drop m (even_rows k w hs rs cs))
      spliced_rows said' said =
          let refs : length (take n rs) ≡ length (take n hs) = length-take-le n rs (omega (arith, said)) ∙ sym (length-take-le n hs from) in
          even_join (take n hs) (hs' ++ drop m hs) (take n rs) (rs' ++ drop m rs) (take (n * w) cs) (cs' ++ drop (m * w) cs) refs (front_long n from)
          ∙ (ap (λ xs. xs ++ even_rows k w (hs' ++ drop m hs) (rs' ++ drop m rs) (cs' ++ drop (m * w) cs)) (front_rows n from said)
          ∙ ap (λ xs. take n (even_rows k w hs rs cs) ++ xs)
          (even_join hs' (drop m hs) rs' (drop m rs) cs' (drop (m * w) cs) said' (sym wide) ∙ ap (λ xs. even_rows k w hs' rs' cs' ++ xs) (even_from k w m hs rs cs)))

      -- and where none refers to anything
      pub spliced_free : list_all nothing rs' ≡ true → rs ≡ []
          → even_rows k w (take n hs ++ (hs' ++ drop m hs)) [] (take (n * w) cs ++ (cs' ++ drop (m * w) cs))
          ≡ take n (even_rows k w hs rs cs) ++ (even_rows k w hs' rs' cs' ++ drop m (even_rows k w hs rs cs))
      spliced_free free none =
          let behind : even_rows k w (drop m hs) [] (drop (m * w) cs) ≡ drop m (even_rows k w hs [] cs) =
          ap (λ r. even_rows k w (drop m hs) r (drop (m * w) cs)) (sym (drop-nil m)) ∙ even_from k w m hs [] cs in
          free_join (take n hs) (hs' ++ drop m hs) (take (n * w) cs) (cs' ++ drop (m * w) cs) (front_long n from)
          ∙ (ap (λ xs. xs ++ even_rows k w (hs' ++ drop m hs) [] (cs' ++ drop (m * w) cs)) (free_front n from)
          ∙ (ap (λ xs. take n (even_rows k w hs [] cs) ++ xs)
          (free_join hs' (drop m hs) cs' (drop (m * w) cs) (sym wide) ∙ (ap (λ xs. xs ++ even_rows k w (drop m hs) [] (drop (m * w) cs)) (sym (unsaid hs' rs' cs' free)) ∙ ap (λ xs. even_rows k w hs' rs' cs' ++ xs) behind))
          ∙ ap (λ r. take n (even_rows k w hs r cs) ++ (even_rows k w hs' rs' cs' ++ drop m (even_rows k w hs r cs))) (sym none)))

-- where a slot's row belongs
abbrev slot_in : Row → Slot
slot_in r = r.slot

-- a row put in its place: those of its slot make way
pub place_row : (s : Slot) (x : Row) (rows : List Row) (n m : ℕ) → rising rows ≡ true → n ≡ place_of slot_in s rows → m ≡ n + stands s rows
    → place s (Some x) rows ≡ take n rows ++ (x ∷ drop m rows)
place_row s x rows n m h a b = by (taken slot_in s rows) refl where
  by : (t : Bool) → t ≡ taken slot_in s rows → place s (Some x) rows ≡ take n rows ++ (x ∷ drop m rows)
  by true e =
      let sorted = sym (rising_sorted rows) ∙ h in
      let lt = taken_within slot_in s rows sorted (sym e) in
      let to : m ≡ suc n = b ∙ ap (λ t. n + (if t then 1 else 0)) (sym e) ∙ omega arith in
      place_put s x rows ∙ (put_there slot_in s rows x sorted (sym e)
      ∙ (set_split rows (place_of slot_in s rows) x lt
      ∙ (ap (λ i. take i rows ++ (x ∷ drop (suc i) rows)) (sym a) ∙ ap (λ i. take n rows ++ (x ∷ drop i rows)) (sym to))))
  by false e =
      let to : m ≡ n = b ∙ ap (λ t. n + (if t then 1 else 0)) (sym e) ∙ omega arith in
      place_put s x rows ∙ (put_new slot_in s rows x (sym e)
      ∙ (ap (λ i. take i rows ++ (x ∷ drop i rows)) (sym a) ∙ ap (λ i. take n rows ++ (x ∷ drop i rows)) (sym to)))

-- one write
pub one_write : (rows : List Row) (ws : List Write) (w : Write) → length ws ≡ 1 → w ≡ get_or ws 0 w → after rows ws ≡ place w.slot w.row rows
one_write rows ws w n e =
    let whole : take 1 ws ≡ ws = take_all 1 ws (omega (arith, n)) in
    sym (ap (after rows) whole) ∙ after_next rows ws 0 w (omega (arith, n)) e

-- a row's place left empty
pub place_none : (s : Slot) (rows : List Row) (n m : ℕ) → rising rows ≡ true → n ≡ place_of slot_in s rows → m ≡ n + stands s rows
    → place s None rows ≡ take n rows ++ drop m rows
place_none s rows n m h a b = by (taken slot_in s rows) refl where
  by : (t : Bool) → t ≡ taken slot_in s rows → place s None rows ≡ take n rows ++ drop m rows
  by true e =
      let to : m ≡ suc n = b ∙ ap (λ t. n + (if t then 1 else 0)) (sym e) ∙ omega arith in
      drop_there s rows h (sym e)
      ∙ (ap (λ i. take i rows ++ drop (suc i) rows) (sym a) ∙ ap (λ i. take n rows ++ drop i rows) (sym to))
  by false e =
      let to : m ≡ n = b ∙ ap (λ t. n + (if t then 1 else 0)) (sym e) ∙ omega arith in
      drop_none s rows (sym e) ∙ (sym (take-append-drop n rows) ∙ ap (λ i. take n rows ++ drop i rows) (sym to))
