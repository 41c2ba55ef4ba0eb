-- The records of a front, one record more, and a closed gate.
use Rattle.std.proofs.Common.{◌≡◌, ◌≢◌, ℕ, zero, suc, ◌+◌, ◌<◌, ◌≤◌, Bool, true, false, List, [], ◌∷◌, ◌++◌, length, take, drop, refl, sym, ap, subst, ◌∙◌, arith, append_assoc, length-append}
use Rattle.std.specs.Prelude.{Some, None, nat_le, nat_lt, ◌==◌, ◌&&◌, if◌then◌else◌}
use Rattle.std.proofs.lemmas.List.{take_at, drop_at, append-nil}
use Rattle.std.proofs.lemmas.Nat.{from_be_bytes-to_be_bytes_4, from_be_bytes-to_be_bytes_8}
use Rattle.std.proofs.lemmas.Bool.Decides.{nat_tests}
use Rattle.ifdb_journal.specs.Records.{IsLawful, IsFront, body, kind_at, session_at, size_at, is_whole, record_at, scan, break, records, damage, ReadsAs}
use Rattle.ifdb_journal.specs.Kinds.{is_fine, kind_of, kind_byte}
use Rattle.ifdb_journal.specs.declared.record.Record.{Record}
use Rattle.ifdb_journal.specs.declared.record.RecordKind.{RecordKind}
use Rattle.ifdb_journal.specs.declared.record.RecordKind.TheVariants as kind

pub scan_skip : (k : ℕ) (xs : List ℕ) → scan k xs ≡ scan 0 (drop k xs)
scan_skip zero xs = refl
scan_skip (suc k) [] = refl
scan_skip (suc k) (x ∷ xs) = scan_skip k xs

pub break_skip : (k at : ℕ) (xs : List ℕ) → break k at xs ≡ break 0 (at + k) (drop k xs)
break_skip zero at xs = let same : at ≡ at + 0 = omega arith in ap (λ n. break 0 n xs) same
break_skip (suc k) at [] = refl
break_skip (suc k) at (x ∷ xs) = let same : at + 1 + k ≡ at + suc k = omega arith in break_skip k (at + 1) xs ∙ ap (λ n. break 0 n (drop k xs)) same

-- bytes are a record behind its gate, whatever gate follows them
pub record IsBody (bytes : List ℕ) (e : Record) : Type 0 where
  pub whole : (gate : ℕ) (rest : List ℕ) → is_whole (bytes ++ gate ∷ rest) ≡ true
  pub entry : (gate : ℕ) (rest : List ℕ) → record_at (bytes ++ gate ∷ rest) ≡ e
  pub size : (gate : ℕ) (rest : List ℕ) → 13 + size_at (bytes ++ gate ∷ rest) ≡ length bytes

pub scan_open : (gate : ℕ) (bytes : List ℕ) → gate ≢ 0 → is_whole bytes ≡ true → scan 0 (gate ∷ bytes) ≡ record_at bytes ∷ scan (13 + size_at bytes) bytes
scan_open gate bytes nonzero whole =
    let shut : (gate == 0) ≡ false = grind (arith, nat_tests) in
    λ i. if shut i then [] else (if whole i then record_at bytes ∷ scan (13 + size_at bytes) bytes else [])

pub break_open : (gate at : ℕ) (bytes : List ℕ) → gate ≢ 0 → is_whole bytes ≡ true → break 0 at (gate ∷ bytes) ≡ break (13 + size_at bytes) (at + 1) bytes
break_open gate at bytes nonzero whole =
    let shut : (gate == 0) ≡ false = grind (arith, nat_tests) in
    λ i. if shut i then None else (if whole i then break (13 + size_at bytes) (at + 1) bytes else Some at)

scan_body : (bytes : List ℕ) (e : Record) (gate next : ℕ) (rest : List ℕ) → IsBody bytes e → gate ≢ 0 → scan 0 (gate ∷ (bytes ++ next ∷ rest)) ≡ e ∷ scan 0 (next ∷ rest)
scan_body bytes e gate next rest is nonzero =
    let all = bytes ++ next ∷ rest in
    scan_open gate all nonzero (is.whole next rest)
    ∙ (λ i. is.entry next rest i ∷ scan (is.size next rest i) all)
    ∙ ap (λ l. e ∷ l) (scan_skip (length bytes) all ∙ ap (scan 0) (drop_at bytes (next ∷ rest) (length bytes) refl))

break_body : (bytes : List ℕ) (e : Record) (gate at next : ℕ) (rest : List ℕ) → IsBody bytes e → gate ≢ 0 → break 0 at (gate ∷ (bytes ++ next ∷ rest)) ≡ break 0 (at + 1 + length bytes) (next ∷ rest)
break_body bytes e gate at next rest is nonzero =
    let all = bytes ++ next ∷ rest in
    break_open gate at all nonzero (is.whole next rest)
    ∙ ap (λ n. break n (at + 1) all) (is.size next rest)
    ∙ break_skip (length bytes) (at + 1) all ∙ ap (break 0 (at + 1 + length bytes)) (drop_at bytes (next ∷ rest) (length bytes) refl)

pub front_none : IsFront [] []
front_none = record { records = λ gate rest. refl; breaks = λ at gate rest. let same : at ≡ at + 0 = omega arith in ap (λ n. break 0 n (gate ∷ rest)) same }

pub front_more : (front : List ℕ) (es : List Record) (gate : ℕ) (bytes : List ℕ) (e : Record) → IsFront front es → gate ≢ 0 → IsBody bytes e → IsFront (front ++ gate ∷ bytes) (es ++ e ∷ [])
front_more front es gate bytes e is nonzero has = record {
  records = λ next rest.
      ap (scan 0) (append_assoc front (gate ∷ bytes) (next ∷ rest)) ∙ is.records gate (bytes ++ next ∷ rest) ∙ ap (λ l. es ++ l) (scan_body bytes e gate next rest has nonzero)
      ∙ sym (append_assoc es (e ∷ []) (scan 0 (next ∷ rest)));
  breaks = λ at next rest.
      let same : at + length front + 1 + length bytes ≡ at + length (front ++ gate ∷ bytes) = omega (arith, length-append front (gate ∷ bytes)) in
      ap (break 0 at) (append_assoc front (gate ∷ bytes) (next ∷ rest)) ∙ is.breaks at gate (bytes ++ next ∷ rest) ∙ break_body bytes e gate (at + length front) next rest has nonzero
      ∙ ap (λ n. break 0 n (next ∷ rest)) same;
}

-- each open gate is as good as another
scan_gate : (a b : ℕ) (bytes : List ℕ) → a ≢ 0 → b ≢ 0 → scan 0 (a ∷ bytes) ≡ scan 0 (b ∷ bytes)
scan_gate a b bytes first second =
    let open_first : (a == 0) ≡ false = grind (arith, nat_tests) in
    let open_second : (b == 0) ≡ false = grind (arith, nat_tests) in
    let rest = if is_whole bytes then record_at bytes ∷ scan (13 + size_at bytes) bytes else [] in
    (λ i. if open_first i then [] else rest) ∙ (λ i. if sym open_second i then [] else rest)

break_gate : (a b at : ℕ) (bytes : List ℕ) → a ≢ 0 → b ≢ 0 → break 0 at (a ∷ bytes) ≡ break 0 at (b ∷ bytes)
break_gate a b at bytes first second =
    let open_first : (a == 0) ≡ false = grind (arith, nat_tests) in
    let open_second : (b == 0) ≡ false = grind (arith, nat_tests) in
    let rest = if is_whole bytes then break (13 + size_at bytes) (at + 1) bytes else Some at in
    (λ i. if open_first i then None else rest) ∙ (λ i. if sym open_second i then None else rest)

pub front_gate : (a b : ℕ) (bytes : List ℕ) (es : List Record) → a ≢ 0 → b ≢ 0 → IsFront (a ∷ bytes) es → IsFront (b ∷ bytes) es
front_gate a b bytes es first second is = record {
  records = λ gate rest. scan_gate b a (bytes ++ gate ∷ rest) second first ∙ is.records gate rest;
  breaks = λ at gate rest. break_gate b a at (bytes ++ gate ∷ rest) second first ∙ is.breaks at gate rest;
}

-- no records stand in no bytes
pub front_short : (front : List ℕ) (es : List Record) → IsFront front es → length front ≡ 0 → es ≡ []
front_short [] es is none = sym (append-nil es) ∙ sym (is.records 0 [])
front_short (x ∷ front) es is none = absurd (omega (arith, none))

-- fronts one behind the other
pub front_both : (front more : List ℕ) (es fs : List Record) → IsFront front es → IsFront more fs → IsFront (front ++ more) (es ++ fs)
front_both front [] es fs is later =
    let none : fs ≡ [] = front_short [] fs later refl in
    subst (λ l. IsFront (front ++ []) (es ++ l)) (sym none) (subst (λ l. IsFront l (es ++ [])) (sym (append-nil front)) (subst (IsFront front) (sym (append-nil es)) is))
front_both front (first ∷ more) es fs is later = record {
  records = λ gate rest.
      ap (scan 0) (append_assoc front (first ∷ more) (gate ∷ rest)) ∙ is.records first (more ++ gate ∷ rest) ∙ ap (λ l. es ++ l) (later.records gate rest) ∙ sym (append_assoc es fs (scan 0 (gate ∷ rest)));
  breaks = λ at gate rest.
      let same : at + length front + length (first ∷ more) ≡ at + length (front ++ first ∷ more) = omega (arith, length-append front (first ∷ more)) in
      ap (break 0 at) (append_assoc front (first ∷ more) (gate ∷ rest)) ∙ is.breaks at first (more ++ gate ∷ rest) ∙ later.breaks (at + length front) gate rest ∙ ap (λ n. break 0 n (gate ∷ rest)) same;
}

-- the first gate of some records is open
no_records : (l : List Record) (r : Record) (m : List Record) → [] ≡ r ∷ (l ++ m) → ⊥
no_records l r m is = cc is

pub front_opens : (gate : ℕ) (bytes : List ℕ) (e : Record) (es : List Record) → IsFront (gate ∷ bytes) (e ∷ es) → gate ≢ 0
front_opens gate bytes e es is shut =
    let none : scan 0 (gate ∷ (bytes ++ 0 ∷ [])) ≡ [] = ap (λ g. scan 0 (g ∷ (bytes ++ 0 ∷ []))) shut in
    no_records es e [] (sym none ∙ is.records 0 [])

records_closed : (front : List ℕ) (es : List Record) (rest : List ℕ) → IsFront front es → records (front ++ 0 ∷ rest) ≡ es
records_closed front es rest is = by_length (nat_le (length (front ++ 0 ∷ rest)) 1) refl
  where
    by_length : (short : Bool) → nat_le (length (front ++ 0 ∷ rest)) 1 ≡ short → (if short then [] else scan 0 (front ++ 0 ∷ rest)) ≡ es
    by_length true is_short =
        let le : length (front ++ 0 ∷ rest) ≤ 1 = grind (arith, nat_tests) in
        sym (front_short front es is (omega (arith, le, length-append front (0 ∷ rest))))
    by_length false is_long = is.records 0 rest ∙ append-nil es

damage_closed : (front : List ℕ) (es : List Record) (rest : List ℕ) → IsFront front es → damage (front ++ 0 ∷ rest) ≡ None
damage_closed front es rest is = by_length (nat_le (length (front ++ 0 ∷ rest)) 1)
  where
    by_length : (short : Bool) → (if short then None else break 0 0 (front ++ 0 ∷ rest)) ≡ None
    by_length true = refl
    by_length false = is.breaks 0 0 rest

-- a front and a closed gate read whole
pub reads_closed : (front : List ℕ) (es : List Record) (rest : List ℕ) → IsFront front es → ReadsAs es (front ++ 0 ∷ rest)
reads_closed front es rest is = record { has = records_closed front es rest is; whole = damage_closed front es rest is }

and_all : (a b c : Bool) → a ≡ true → b ≡ true → c ≡ true → (a && b && c) ≡ true
and_all a b c x y z = λ i. x i && y i && z i

le_test : (m n : ℕ) → m ≤ n → nat_le m n ≡ true
le_test m n le = grind (arith, nat_tests)

lt_test : (m n : ℕ) → m < n → nat_lt m n ≡ true
lt_test m n lt = grind (arith, nat_tests)

kind_back : (k : RecordKind) → kind_of (kind_byte k) ≡ k
kind_back kind.Open = refl
kind_back kind.Ask = refl
kind_back kind.Restart = refl

fine_short : (k s n : ℕ) → is_fine k s n ≡ true → n ≤ 65535
fine_short k s n fine = grind (arith, nat_tests)

pub line_short : (e : Record) → IsLawful e → length e.line ≤ 65535
line_short e lawful = fine_short (kind_byte e.kind) e.session (length e.line) lawful.fine

module _ (e : Record) (lawful : IsLawful e) (gate : ℕ) (rest : List ℕ) where
  session_back : session_at (body e ++ gate ∷ rest) ≡ e.session
  session_back = from_be_bytes-to_be_bytes_8 e.session lawful.session

  size_back : size_at (body e ++ gate ∷ rest) ≡ length e.line
  size_back = from_be_bytes-to_be_bytes_4 (length e.line) (omega (arith, line_short e lawful))

  length_body : length (body e) ≡ 13 + length e.line
  length_body = omega arith

  whole_back : is_whole (body e ++ gate ∷ rest) ≡ true
  whole_back =
      let fine : is_fine (kind_at (body e ++ gate ∷ rest)) (session_at (body e ++ gate ∷ rest)) (size_at (body e ++ gate ∷ rest)) ≡ true = (λ i. is_fine (kind_byte e.kind) (session_back i) (size_back i)) ∙ lawful.fine in
      let long : length (body e ++ gate ∷ rest) ≡ 14 + length e.line + length rest = omega (arith, length-append (body e) (gate ∷ rest), length_body) in
      and_all (nat_le 14 (length (body e ++ gate ∷ rest))) (is_fine (kind_at (body e ++ gate ∷ rest)) (session_at (body e ++ gate ∷ rest)) (size_at (body e ++ gate ∷ rest))) (nat_lt (13 + size_at (body e ++ gate ∷ rest)) (length (body e ++ gate ∷ rest)))
      (le_test 14 (length (body e ++ gate ∷ rest)) (omega (arith, long))) fine (lt_test (13 + size_at (body e ++ gate ∷ rest)) (length (body e ++ gate ∷ rest)) (omega (arith, long, size_back)))

  line_back : take (size_at (body e ++ gate ∷ rest)) (drop 13 (body e ++ gate ∷ rest)) ≡ e.line
  line_back = ap (λ k. take k (drop 13 (body e ++ gate ∷ rest))) size_back ∙ take_at e.line (gate ∷ rest) (length e.line) refl

  entry_back : record_at (body e ++ gate ∷ rest) ≡ e
  entry_back = λ i. record { kind = kind_back e.kind i; session = session_back i; line = line_back i }

pub body_is : (e : Record) → IsLawful e → IsBody (body e) e
body_is e lawful = record {
  whole = λ gate rest. whole_back e lawful gate rest;
  entry = λ gate rest. entry_back e lawful gate rest;
  size = λ gate rest. omega (arith, size_back e lawful gate rest, length_body e lawful gate rest);
}
