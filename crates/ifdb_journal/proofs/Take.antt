-- A record that is read.
use Rattle.std.proofs.Common.{◌≡◌, ◌≢◌, ◌⊎◌, inl, inr, ℕ, zero, suc, ◌+◌, ◌-◌, ◌<◌, ◌≤◌, Bool, true, false, List, [], ◌∷◌, ◌++◌, length, take, drop, get_or, refl, sym, ap, subst, ◌∙◌, arith, append_assoc, length-append, length-drop, take-append-drop, drop-drop}
use Rattle.std.specs.Prelude.{Option, Some, None, nat_le, nat_lt, ◌==◌, ◌&&◌, if◌then◌else◌}
use Rattle.std.proofs.lemmas.List.{take_at, drop_at, take_all, take-take, take-append-le, drop-append-le, drop-take, length-take, get_or-take, drop_more}
use Rattle.std.proofs.lemmas.Bool.{cases_lt}
use Rattle.std.proofs.lemmas.Bool.Decides.{nat_tests}
use Rattle.std.specs.Int.{w32, w64, from_be_bytes}
use Rattle.ifdb_disk.specs.Images.{settled}
use Rattle.ifdb_disk.specs.Clock.{Clock, Now}
use Rattle.ifdb_journal.specs.declared.record.RecordKind.{RecordKind}
use Rattle.ifdb_journal.specs.Records.{ReadsAs, kind_at, session_at, size_at, is_whole, record_at, break, damage}
use Rattle.ifdb_journal.specs.Kinds.{is_fine, kind_of}
use Rattle.ifdb_journal.specs.declared.record.Record.{Record}
use Rattle.ifdb_journal.specs.Reading.{Place, IsReadTo, IsEnd, IsAt, StandsAt, ReadTo, Holds, SpellsWhole, BreaksAt}
use Rattle.ifdb_journal.specs.Found.{IsFound, is_broken}
use Rattle.ifdb_journal.specs.declared.found.Found.{Found}
use Rattle.ifdb_journal.specs.declared.found.Found.TheVariants as found
use Rattle.ifdb_journal.proofs.Scan.{IsBody, front_more, reads_closed}

and_parts : (a b c : Bool) → (a && b && c) ≡ true → (a ≡ true) × (b ≡ true) × (c ≡ true)
and_parts true true true is = (refl, refl, refl)
and_parts true true false is = absurd (cc is)
and_parts true false c is = absurd (cc is)
and_parts false b c is = absurd (cc is)

lt_of : (m n : ℕ) → nat_lt m n ≡ true → m < n
lt_of m n is = grind (arith, nat_tests)

le_of : (m n : ℕ) → nat_le m n ≡ true → m ≤ n
le_of m n is = grind (arith, nat_tests)

le_test : (m n : ℕ) → m ≤ n → nat_le m n ≡ true
le_test m n le = grind (arith, nat_tests)

lt_test : (m n : ℕ) → m < n → nat_lt m n ≡ true
lt_test m n lt = grind (arith, nat_tests)

fine_short : (k s n : ℕ) → is_fine k s n ≡ true → n ≤ 65535
fine_short k s n fine = grind (arith, nat_tests)

pub record IsWhole (r : List ℕ) : Type 0 where
  pub header : 14 ≤ length r
  pub fine : is_fine (kind_at r) (session_at r) (size_at r) ≡ true
  pub long : 13 + size_at r < length r

pub whole_parts : (r : List ℕ) → is_whole r ≡ true → IsWhole r
whole_parts r is =
    let parts = and_parts (nat_le 14 (length r)) (is_fine (kind_at r) (session_at r) (size_at r)) (nat_lt (13 + size_at r) (length r)) is in
    record { header = le_of 14 (length r) parts.0; fine = parts.1; long = lt_of (13 + size_at r) (length r) parts.2 }

pub whole_of : (r : List ℕ) → IsWhole r → is_whole r ≡ true
whole_of r is = λ i. le_test 14 (length r) is.header i && is.fine i && lt_test (13 + size_at r) (length r) is.long i

-- ---- what stands in the first 13 bytes

kind_front : (x : List ℕ) → kind_at (take 13 x) ≡ kind_at x
kind_front x = let lt : 0 < 13 = omega arith in get_or-take 13 x 0 0 lt

session_front : (x : List ℕ) → session_at (take 13 x) ≡ session_at x
session_front x = let le : 8 ≤ 12 = omega arith in ap (from_be_bytes w64) (ap (take 8) (drop-take 1 12 x) ∙ take-take 8 12 (drop 1 x) le)

size_front : (x : List ℕ) → size_at (take 13 x) ≡ size_at x
size_front x = let le : 4 ≤ 4 = omega arith in ap (from_be_bytes w32) (ap (take 4) (drop-take 9 4 x) ∙ take-take 4 4 (drop 9 x) le)

kind_same : (x y : List ℕ) → take 13 x ≡ take 13 y → kind_at x ≡ kind_at y
kind_same x y same = sym (kind_front x) ∙ ap kind_at same ∙ kind_front y

session_same : (x y : List ℕ) → take 13 x ≡ take 13 y → session_at x ≡ session_at y
session_same x y same = sym (session_front x) ∙ ap session_at same ∙ session_front y

size_same : (x y : List ℕ) → take 13 x ≡ take 13 y → size_at x ≡ size_at y
size_same x y same = sym (size_front x) ∙ ap size_at same ∙ size_front y

module _ (r : List ℕ) (whole : IsWhole r) (gate : ℕ) (rest : List ℕ) where
  n : ℕ
  n = size_at r

  b : List ℕ
  b = take (13 + size_at r) r

  length_b : length (take (13 + size_at r) r) ≡ 13 + size_at r
  length_b = omega (arith, length-take (13 + size_at r) r, whole.long)

  front : take 13 (take (13 + size_at r) r ++ gate ∷ rest) ≡ take 13 r
  front =
      let le : 13 ≤ length (take (13 + size_at r) r) = omega (arith, length_b) in
      let small : 13 ≤ 13 + size_at r = omega arith in
      take-append-le 13 (take (13 + size_at r) r) (gate ∷ rest) le ∙ take-take 13 (13 + size_at r) r small

  line_is : take (size_at (take (13 + size_at r) r ++ gate ∷ rest)) (drop 13 (take (13 + size_at r) r ++ gate ∷ rest)) ≡ take (size_at r) (drop 13 r)
  line_is =
      let same = size_same (take (13 + size_at r) r ++ gate ∷ rest) r front in
      let le : 13 ≤ length (take (13 + size_at r) r) = omega (arith, length_b) in
      let size : length (drop 13 (take (13 + size_at r) r)) ≡ size_at r = omega (arith, length-drop 13 (take (13 + size_at r) r), length_b) in
      (λ i. take (same i) (drop-append-le 13 (take (13 + size_at r) r) (gate ∷ rest) le i)) ∙ take_at (drop 13 (take (13 + size_at r) r)) (gate ∷ rest) (size_at r) size ∙ drop-take 13 (size_at r) r

  entry_is : record_at (take (13 + size_at r) r ++ gate ∷ rest) ≡ record_at r
  entry_is = λ i. record { kind = kind_of (kind_same (take (13 + size_at r) r ++ gate ∷ rest) r front i); session = session_same (take (13 + size_at r) r ++ gate ∷ rest) r front i; line = line_is i }

  still_whole : is_whole (take (13 + size_at r) r ++ gate ∷ rest) ≡ true
  still_whole =
      let all = take (13 + size_at r) r ++ gate ∷ rest in
      let size = size_same all r front in
      let long = length-append (take (13 + size_at r) r) (gate ∷ rest) in
      whole_of all (record {
        header = omega (arith, long, length_b);
        fine = (λ i. is_fine (kind_same all r front i) (session_same all r front i) (size i)) ∙ whole.fine;
        long = omega (arith, long, length_b, size);
      })

pub taken_is : (r : List ℕ) → IsWhole r → IsBody (take (13 + size_at r) r) (record_at r)
taken_is r whole = record {
  whole = still_whole r whole;
  entry = entry_is r whole;
  size = λ gate rest. omega (arith, size_same (take (13 + size_at r) r ++ gate ∷ rest) r (front r whole gate rest), length_b r whole gate rest);
}

-- ---- from the first 65,550 bytes

pub fronted : (c : Clock) (bytes : List ℕ) (es : List Record) (at : ℕ) → c.now ≡ settled bytes → (read : IsReadTo bytes es at) → take 65550 (drop at c.now.bytes) ≡ read.gate ∷ take 65549 read.rest
fronted c bytes es at is read =
    ap (λ s. take 65550 (drop at s.bytes)) is ∙ ap (λ b. take 65550 (drop at b)) read.split ∙ ap (take 65550) (drop_at read.front (read.gate ∷ read.rest) at read.size)

pub read_more : (bytes : List ℕ) (es : List Record) (at : ℕ) (read : IsReadTo bytes es at) → read.gate ≢ 0 → IsWhole (take 65549 read.rest)
    → IsReadTo bytes (es ++ record_at (take 65549 read.rest) ∷ []) (at + (14 + size_at (take 65549 read.rest)))
read_more bytes es at read nonzero whole = by_rest (drop (13 + size_at r) r) refl
  where
    r : List ℕ
    r = take 65549 read.rest

    by_rest : (behind : List ℕ) → drop (13 + size_at (take 65549 read.rest)) (take 65549 read.rest) ≡ behind
        → IsReadTo bytes (es ++ record_at (take 65549 read.rest) ∷ []) (at + (14 + size_at (take 65549 read.rest)))
    by_rest [] is = absurd (omega (arith, ap length is, length-drop (13 + size_at (take 65549 read.rest)) (take 65549 read.rest), whole.long))
    by_rest (gate ∷ behind) is =
        let r = take 65549 read.rest in
        let n = size_at r in
        let body = take (13 + n) r in
        let far = drop 65549 read.rest in
        let whole_rest : read.rest ≡ body ++ gate ∷ (behind ++ far) =
        sym (take-append-drop 65549 read.rest) ∙ ap (λ (l : List ℕ). l ++ far) (sym (take-append-drop (13 + n) r) ∙ ap (λ (l : List ℕ). body ++ l) is) ∙ append_assoc body (gate ∷ behind) far in
        let size = length-take (13 + n) r in
        record {
          front = read.front ++ read.gate ∷ body;
          gate = gate;
          rest = behind ++ far;
          split = read.split ∙ ap (λ (l : List ℕ). read.front ++ read.gate ∷ l) whole_rest ∙ sym (append_assoc read.front (read.gate ∷ body) (gate ∷ (behind ++ far)));
          size = omega (arith, length-append read.front (read.gate ∷ body), read.size, size, whole.long);
          is = front_more read.front es read.gate body (record_at r) read.is nonzero (taken_is r whole);
          short = λ le. absurd (omega (arith, le, ap length read.split, length-append read.front (read.gate ∷ read.rest), ap length whole_rest, length-append body (gate ∷ (behind ++ far)), size, whole.long));
        }

-- ---- nothing more, or damage

pub shut_end : (bytes : List ℕ) (es : List Record) (at : ℕ) (read : IsReadTo bytes es at) → read.gate ≡ 0 → IsEnd bytes es at × ReadsAs es bytes
shut_end bytes es at read shut =
    let split : bytes ≡ read.front ++ 0 ∷ read.rest = read.split ∙ ap (λ g. read.front ++ g ∷ read.rest) shut in (
      record { front = read.front; tail = read.rest; split = split; size = read.size; is = read.is },
      subst (ReadsAs es) (sym split) (reads_closed read.front es read.rest read.is),
    )

-- what is no whole record in its first bytes is none in all
far_broken : (rest : List ℕ) → is_whole (take 65549 rest) ≡ false → is_whole rest ≡ false
far_broken rest broken = by_length (cases_lt 65549 (length rest))
  where
    by_length : (65549 < length rest) ⊎ (length rest ≤ 65549) → is_whole rest ≡ false
    by_length (inr short) = ap is_whole (sym (take_all 65549 rest short)) ∙ broken
    by_length (inl long) = by_whole (is_whole rest) refl
      where
        by_whole : (b : Bool) → is_whole rest ≡ b → is_whole rest ≡ false
        by_whole false is = is
        by_whole true is =
            let parts = whole_parts rest is in
            let le : 13 ≤ 65549 = omega arith in
            let same : take 13 (take 65549 rest) ≡ take 13 rest = take-take 13 65549 rest le in
            let size = size_same (take 65549 rest) rest same in
            let small = fine_short (kind_at rest) (session_at rest) (size_at rest) parts.fine in
            let length_is = length-take 65549 rest in
            let whole = whole_of (take 65549 rest) (record {
              header = omega (arith, length_is, long);
              fine = (λ i. is_fine (kind_same (take 65549 rest) rest same i) (session_same (take 65549 rest) rest same i) (size i)) ∙ parts.fine;
              long = omega (arith, length_is, long, size, small);
            }) in
            absurd (cc (whole, broken))

pub broken_damage : (bytes : List ℕ) (es : List Record) (at : ℕ) (read : IsReadTo bytes es at) → read.gate ≢ 0 → is_whole (take 65549 read.rest) ≡ false → damage bytes ≡ Some at
broken_damage bytes es at read nonzero broken =
    let all = read.front ++ read.gate ∷ read.rest in
    ap damage read.split ∙ by_length (cases_lt 1 (length all))
  where
    by_length : (1 < length (read.front ++ read.gate ∷ read.rest)) ⊎ (length (read.front ++ read.gate ∷ read.rest) ≤ 1) → damage (read.front ++ read.gate ∷ read.rest) ≡ Some at
    by_length (inr short) = absurd (nonzero (read.short (omega (arith, short, ap length read.split))))
    by_length (inl long) =
        let tested : nat_le (length (read.front ++ read.gate ∷ read.rest)) 1 ≡ false = grind (arith, nat_tests) in
        let shut : (read.gate == 0) ≡ false = grind (arith, nat_tests) in
        let far = far_broken read.rest broken in
        (λ i. if tested i then None else break 0 0 (read.front ++ read.gate ∷ read.rest))
        ∙ read.is.breaks 0 read.gate read.rest
        ∙ (λ i. if shut i then None else (if far i then break (13 + size_at read.rest) (0 + length read.front + 1) read.rest else Some (0 + length read.front)))
        ∙ (let place : 0 + length read.front ≡ at = omega (arith, read.size) in ap (λ n. Some n) place)

-- ---- the cells of a part

abbrev pub cells_from : ℕ → ℕ → List ℕ → List ℕ
cells_from zero i r = []
cells_from (suc n) i r = get_or r i 0 ∷ cells_from n (i + 1) r

pub cells : (n i : ℕ) (r : List ℕ) → i + n ≤ length r → take n (drop i r) ≡ cells_from n i r
cells zero i r le = refl
cells (suc n) i r le = ap (take (suc n)) (drop_more r i 0 (omega (arith, le))) ∙ ap (λ (l : List ℕ). get_or r i 0 ∷ l) (cells n (i + 1) r (omega (arith, le)))

-- ---- the three answers, where the disk tells

first_same : (a b : ℕ) (xs ys : List ℕ) → a ∷ xs ≡ b ∷ ys → a ≡ b
first_same a b xs ys is = cc is

rest_same : (a b : ℕ) (xs ys : List ℕ) → a ∷ xs ≡ b ∷ ys → xs ≡ ys
rest_same a b xs ys is = cc is

pub next_end : (t : Option Clock) (rs : List Record) (p : Place) → ReadTo t rs p → Now t (λ s. IsFound (take 65550 (drop p.at s.bytes)) found.Shut) → Holds t rs p.at × SpellsWhole t rs
next_end None rs p read is = (tt, tt)
next_end (Some c) rs p read is =
    let at = p.at in
    let front = fronted c read.0 rs at read.1 read.2 in
    let shut : read.2.gate ≡ 0 = sym (first_same 0 read.2.gate is.0 (take 65549 read.2.rest) (sym is.1 ∙ front)) in
    let end = shut_end read.0 rs at read.2 shut in
    ((read.0, read.1, end.0), subst (λ s. ReadsAs rs s.bytes) (sym read.1) end.1)

pub next_damaged : (t : Option Clock) (rs : List Record) (p : Place) → ReadTo t rs p → Now t (λ s. IsFound (take 65550 (drop p.at s.bytes)) found.Broken) → BreaksAt t p.at
next_damaged None rs p read is = tt
next_damaged (Some c) rs p read (inl none) =
    let front = fronted c read.0 rs p.at read.1 read.2 in absurd (cc (sym none ∙ front))
next_damaged (Some c) rs p read (inr is) =
    let at = p.at in
    let front = fronted c read.0 rs at read.1 read.2 in
    let same = sym is.2 ∙ front in
    let gate : is.0 ≡ read.2.gate = first_same is.0 read.2.gate is.1 (take 65549 read.2.rest) same in
    let rest : is.1 ≡ take 65549 read.2.rest = rest_same is.0 read.2.gate is.1 (take 65549 read.2.rest) same in
    let damaged = broken_damage read.0 rs at read.2 (subst (λ g. g ≢ 0) gate is.3) (subst (λ r. is_whole r ≡ false) rest is.4) in
    subst (λ s. damage s.bytes ≡ Some at) (sym read.1) damaged

-- a window that went past some bytes
skipped : (bytes w : List ℕ) (at n : ℕ) → n ≤ length w → IsAt bytes at w → IsAt bytes (at + n) (drop n w)
skipped bytes w at n le is =
    let size : length w ≡ n + length (drop n w) = omega (arith, length-drop n w, le) in
    ap (drop n) is
    ∙ ap (λ k. drop n (take k (drop at bytes))) size
    ∙ drop-take n (length (drop n w)) (drop at bytes)
    ∙ ap (take (length (drop n w))) (drop-drop n at bytes)

-- the line of a record that stands in a window
line_in : (bytes w line : List ℕ) (at size : ℕ) → IsAt bytes at w → length w ≤ 65550 → 14 + size ≤ length w → line ≡ take size (drop 14 w) → line ≡ take size (drop 14 (take 65550 (drop at bytes)))
line_in bytes w line at size is most within line_is =
    let split : length w ≡ 14 + (length w - 14) = omega (arith, within) in
    let far : 65550 ≡ 14 + 65536 = omega arith in
    let all = drop at bytes in
    let small : size ≤ length w - 14 = omega (arith, within) in
    let large : size ≤ 65536 = omega (arith, within, most) in
    line_is
    ∙ ap (λ x. take size (drop 14 x)) is
    ∙ ap (λ k. take size (drop 14 (take k all))) split ∙ ap (take size) (drop-take 14 (length w - 14) all) ∙ take-take size (length w - 14) (drop 14 all) small
    ∙ sym (ap (λ k. take size (drop 14 (take k all))) far ∙ ap (take size) (drop-take 14 65536 all) ∙ take-take size 65536 (drop 14 all) large)

pub next_some : (t : Option Clock) (rs : List Record) (p : Place) (w : List ℕ) (kind : RecordKind) (session size : ℕ) (line : List ℕ) → ReadTo t rs p
    → Now t (λ s. IsFound (take 65550 (drop p.at s.bytes)) (found.Whole kind session size)) → StandsAt t p.at w → length w ≤ 65550 → 14 + size ≤ length w → line ≡ take size (drop 14 w)
    → ReadTo t (rs ++ record { kind = kind; session = session; line = line } ∷ []) (record { at = p.at + (14 + size); ahead = drop (14 + size) w })
next_some None rs p w kind session size line read is stands most within line_is = tt
next_some (Some c) rs p w kind session size line read is stands most within line_is =
    let at = p.at in
    let bytes = read.0 in
    let r = is.1 in
    let front = fronted c bytes rs at read.1 read.2 in
    let same = sym is.2 ∙ front in
    let gate : is.0 ≡ read.2.gate = first_same is.0 read.2.gate r (take 65549 read.2.rest) same in
    let rest : r ≡ take 65549 read.2.rest = rest_same is.0 read.2.gate r (take 65549 read.2.rest) same in
    let whole = whole_parts (take 65549 read.2.rest) (subst (λ x. is_whole x ≡ true) rest is.4) in
    let more = read_more bytes rs at read.2 (subst (λ g. g ≢ 0) gate is.3) whole in
    let here : IsAt bytes at w = subst (λ s. IsAt s.bytes at w) read.1 stands in
    let line_at : line ≡ take (size_at r) (drop 13 r) =
    line_in bytes w line at size here most within line_is ∙ ap (λ s. take size (drop 14 (take 65550 (drop at s.bytes)))) (sym read.1) ∙ (λ i. take (is.7 i) (drop 14 (is.2 i))) in
    let found_one : Record = record { kind = kind; session = session; line = line } in
    let one_is : found_one ≡ record_at (take 65549 read.2.rest) = (λ i. record { kind = is.5 i; session = is.6 i; line = line_at i }) ∙ ap record_at rest in
    let size_is : size ≡ size_at (take 65549 read.2.rest) = is.7 ∙ ap size_at rest in (
      bytes,
      read.1,
      subst (λ n. IsReadTo bytes (rs ++ found_one ∷ []) (at + (14 + n))) (sym size_is) (subst (λ e. IsReadTo bytes (rs ++ e ∷ []) (at + (14 + size_at (take 65549 read.2.rest)))) (sym one_is) more),
      skipped bytes w at (14 + size) within here,
    )

-- ---- what is found in fewer bytes

-- what stands in a front of some bytes stands in them, unless it's no record
longer_whole : (r : List ℕ) (n : ℕ) → is_whole (take n r) ≡ true → is_whole r ≡ true × (kind_at (take n r) ≡ kind_at r) × (session_at (take n r) ≡ session_at r) × (size_at (take n r) ≡ size_at r)
longer_whole r n is =
    let parts = whole_parts (take n r) is in
    let long = length-take n r in
    let many : 13 ≤ n = omega (arith, parts.header, long) in
    let same : take 13 (take n r) ≡ take 13 r = take-take 13 n r many in
    let size = size_same (take n r) r same in (
      whole_of r (record {
        header = omega (arith, parts.header, long);
        fine = sym (λ i. is_fine (kind_same (take n r) r same i) (session_same (take n r) r same i) (size i)) ∙ parts.fine;
        long = omega (arith, parts.long, size, long);
      }),
      kind_same (take n r) r same,
      session_same (take n r) r same,
      size,
    )

first_taken : (n gate : ℕ) (x rest : List ℕ) → take n x ≡ gate ∷ rest → (m : ℕ) → n ≤ m → (more : List ℕ) × (take m x ≡ gate ∷ more) × (k : ℕ) × (rest ≡ take k more)
first_taken zero gate x rest is m le = absurd (cc is)
first_taken (suc n) gate [] rest is m le = absurd (cc is)
first_taken (suc n) gate (b ∷ x) rest is zero le = absurd (omega (arith, le))
first_taken (suc n) gate (b ∷ x) rest is (suc m) le =
    let same : b ≡ gate = first_same b gate (take n x) rest is in
    let fewer : n ≤ m = omega (arith, le) in
    (take m x, ap (λ g. g ∷ take m x) same, n, sym (rest_same b gate (take n x) rest is) ∙ sym (take-take n m x fewer))

pub found_longer : (f : Found) (x : List ℕ) (n m : ℕ) → n ≤ m → is_broken f ≡ false → IsFound (take n x) f → IsFound (take m x) f
found_longer found.Broken x n m le not_broken is = absurd (cc not_broken)
found_longer found.Shut x n m le not_broken is =
    let more = first_taken n 0 x is.0 is.1 m le in (more.0, more.1)
found_longer (found.Whole kind session size) x n m le not_broken is =
    let more = first_taken n is.0 x is.1 is.2 m le in
    let longer = longer_whole more.0 more.2 (subst (λ r. is_whole r ≡ true) more.3 is.4) in (
      is.0,
      more.0,
      more.1,
      is.3,
      longer.0,
      is.5 ∙ ap (λ r. kind_of (kind_at r)) more.3 ∙ ap kind_of longer.1,
      is.6 ∙ ap session_at more.3 ∙ longer.2,
      is.7 ∙ ap size_at more.3 ∙ longer.3,
    )

pub found_in : (t : Option Clock) (at : ℕ) (w : List ℕ) (f : Found) → StandsAt t at w → length w ≤ 65550 → is_broken f ≡ false → IsFound w f → Now t (λ s. IsFound (take 65550 (drop at s.bytes)) f)
found_in None at w f stands most not_broken is = tt
found_in (Some c) at w f stands most not_broken is = found_longer f (drop at c.now.bytes) (length w) 65550 most not_broken (subst (λ x. IsFound x f) stands is)

pub found_all : (t : Option Clock) (at : ℕ) (w : List ℕ) (f : Found) → Now t (λ s. w ≡ take 65550 (drop at s.bytes)) → IsFound w f → Now t (λ s. IsFound (take 65550 (drop at s.bytes)) f)
found_all None at w f all is = tt
found_all (Some c) at w f all is = subst (λ x. IsFound x f) all is

-- what was read ahead stands at the place
pub stands_read : (t : Option Clock) (rs : List Record) (p : Place) → ReadTo t rs p → StandsAt t p.at p.ahead
stands_read None rs p read = tt
stands_read (Some c) rs p read = subst (λ s. IsAt s.bytes p.at p.ahead) (sym read.1) read.3

-- the same journal with other bytes read ahead
pub read_with : (t : Option Clock) (rs : List Record) (p : Place) (w : List ℕ) → ReadTo t rs p → StandsAt t p.at w → ReadTo t rs (record { at = p.at; ahead = w })
read_with None rs p w read stands = tt
read_with (Some c) rs p w read stands = (read.0, read.1, read.2, subst (λ s. IsAt s.bytes p.at w) read.1 stands)

-- a whole record and the next gate stand in the text
pub whole_within : (w : List ℕ) (kind : RecordKind) (session size : ℕ) → IsFound w (found.Whole kind session size) → 14 + size ≤ length w
whole_within w kind session size is =
    let parts = whole_parts is.1 is.4 in
    omega (arith, ap length is.2, parts.long, is.7)
