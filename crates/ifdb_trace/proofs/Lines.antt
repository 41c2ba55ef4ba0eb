-- The lines of a text, one by one.
use Rattle.std.proofs.Common.{◌≡◌, ◌≢◌, ℕ, ◌<◌, ◌≤◌, ◌+◌, ◌%◌, ◌^◌, Bool, true, false, List, [], ◌∷◌, ◌++◌, length, take, drop, refl, sym, ap, ◌∙◌, arith, cond, suc, inl, inr}
use Rattle.std.specs.Prelude.{◌⊎◌, ◌==◌, not, nat_le, decimal, slice_index, All, if◌then◌else◌}
use Rattle.std.specs.List.{AllByRecursion, list_all}
use Rattle.std.proofs.lemmas.Bool.Decides.{nat_tests}
use Rattle.std.proofs.lemmas.Fmt.{decimal_by_steps}
use Rattle.std.proofs.Common.{drop-cons}
use Rattle.std.proofs.lemmas.List.{take-append-drop, drop_all}
use Rattle.ifdb_io.specs.Reader.{BreaksAt}
use Rattle.std.proofs.lemmas.List.Elements.{recursion_from_All}
use Rattle.std.proofs.lemmas.List.Folds.{list_all-append}
use Rattle.ifdb_io.specs.Lines.{after_newline, IsLine, IsLong}
use Rattle.ifdb_model.specs.Script.{lines_of, on_first}
use Rattle.ifdb_laws.specs.Bytes.{is_line}
use Rattle.ifdb_trace.specs.Ended.{onto_first, ended_lines}

-- ---- texts without a newline

plain_by : (text : List ℕ) → AllByRecursion (λ b. b ≢ 10) text → is_line text ≡ true
plain_by [] h = refl
plain_by (b ∷ text) h = grind (arith, nat_tests, h.0, plain_by text h.1)

pub plain : (text : List ℕ) → All (λ b. b ≢ 10) text → is_line text ≡ true
plain text h = plain_by text (recursion_from_All (λ b. b ≢ 10) text h)

digit_plain : (d : ℕ) → d < 10 → is_line ((48 + d) ∷ []) ≡ true
digit_plain d lt = grind (arith, nat_tests)

rest_lt : (n : ℕ) → n % 10 < 10
rest_lt n = grind (arith, nat_tests)

digits_plain : (ds : List ℕ) (n : ℕ) → is_line ds ≡ true → is_line (ds ++ (48 + n % 10) ∷ []) ≡ true
digits_plain ds n h =
    let one = digit_plain (n % 10) (rest_lt n) in
    grind (arith, nat_tests, list_all-append (λ b. not (b == 10)) ds ((48 + n % 10) ∷ []))

pub decimal_plain : (n : ℕ) → n < 2 ^ 64 → is_line (decimal n) ≡ true
decimal_plain n lt =
    decimal_by_steps (λ n ds. is_line ds ≡ true) (λ n lt. digit_plain n lt) (λ n ds le h. digits_plain ds n h) n lt

-- ---- their lines

-- a line and its newline come first
pub lines_front : (text rest : List ℕ) → is_line text ≡ true → lines_of (text ++ 10 ∷ rest) ≡ text ∷ lines_of rest
lines_front [] rest h = refl
lines_front (b ∷ text) rest h = grind (arith, nat_tests, lines_front text rest)

pub ended_front : (text rest : List ℕ) → is_line text ≡ true → ended_lines (text ++ 10 ∷ rest) ≡ text ∷ ended_lines rest
ended_front [] rest h = refl
ended_front (b ∷ text) rest h = grind (arith, nat_tests, ended_front text rest)

-- a line without a newline is the last one
pub lines_last : (text : List ℕ) → is_line text ≡ true → 0 < length text → lines_of text ≡ text ∷ []
lines_last [] h some = absurd (omega arith)
lines_last (b ∷ []) h some = grind (arith, nat_tests)
lines_last (b ∷ c ∷ text) h some = grind (arith, nat_tests, lines_last (c ∷ text))

-- by the place of the first newline
pub lines_at : (text : List ℕ) (n : ℕ) → BreaksAt text n → lines_of text ≡ take n text ∷ lines_of (drop (n + 1) text)
lines_at text n h =
    let newline : slice_index text n ≡ 10 = h.newline in
    let next : suc n ≡ n + 1 = omega arith in
    let whole : text ≡ take n text ++ 10 ∷ drop (n + 1) text =
    sym (take-append-drop n text) ∙ ap (λ rest. take n text ++ rest) (drop-cons text n 0 h.within ∙ (λ i. newline i ∷ drop (next i) text)) in
    ap lines_of whole ∙ lines_front (take n text) (drop (n + 1) text) (plain (take n text) h.before)

-- or where there is none
pub lines_whole : (text : List ℕ) → All (λ b. b ≢ 10) text → 0 < length text → lines_of text ≡ text ∷ lines_of (drop (length text) text)
lines_whole text h some = lines_last text (plain text h) some ∙ ap (λ rest. text ∷ lines_of rest) (sym (drop_all (length text) text (omega arith)))

-- and it hasn't ended
pub ended_last : (text : List ℕ) → is_line text ≡ true → ended_lines text ≡ []
ended_last [] h = refl
ended_last (b ∷ text) h = grind (arith, nat_tests, ended_last text)

-- the bytes before the first newline
abbrev pub before_newline : List ℕ → List ℕ
before_newline [] = []
before_newline (b ∷ bytes) = if b == 10 then [] else b ∷ before_newline bytes

-- the first line, whatever it is
first_line : (b : ℕ) (bytes : List ℕ) → on_first b (lines_of bytes) ≡ (b ∷ before_newline bytes) ∷ lines_of (after_newline bytes)
first_line b [] = refl
first_line b (c ∷ bytes) = grind (arith, nat_tests, first_line c bytes)

-- the first line goes on behind a part of it
pub lines_long : (text rest : List ℕ) → is_line text ≡ true → 0 < length text
    → lines_of (text ++ rest) ≡ (text ++ before_newline rest) ∷ lines_of (after_newline rest)
lines_long [] rest h some = absurd (omega arith)
lines_long (b ∷ []) rest h some = grind (arith, nat_tests, first_line b rest)
lines_long (b ∷ c ∷ text) rest h some = grind (arith, nat_tests, lines_long (c ∷ text) rest)

-- whether a text's first line has ended
rest_ends : (rest : List ℕ) → (ended_lines rest ≡ before_newline rest ∷ ended_lines (after_newline rest)) ⊎ ((ended_lines rest ≡ []) × (after_newline rest ≡ []))
rest_ends [] = inr (refl, refl)
rest_ends (b ∷ rest) = by (b == 10) (rest_ends rest) where
  by : (c : Bool) → (ended_lines rest ≡ before_newline rest ∷ ended_lines (after_newline rest)) ⊎ ((ended_lines rest ≡ []) × (after_newline rest ≡ []))
      → (cond c ([] ∷ ended_lines rest) (onto_first b (ended_lines rest)) ≡ cond c [] (b ∷ before_newline rest) ∷ ended_lines (cond c rest (after_newline rest)))
      ⊎ ((cond c ([] ∷ ended_lines rest) (onto_first b (ended_lines rest)) ≡ []) × (cond c rest (after_newline rest) ≡ []))
  by true h = inl refl
  by false (inl e) = inl (ap (onto_first b) e)
  by false (inr e) = inr (ap (onto_first b) e.0, e.1)

ended_onto : (text rest : List ℕ) (line : List ℕ) (lines : List (List ℕ)) → is_line text ≡ true → ended_lines rest ≡ line ∷ lines → ended_lines (text ++ rest) ≡ (text ++ line) ∷ lines
ended_onto [] rest line lines h e = e
ended_onto (b ∷ text) rest line lines h e = grind (arith, nat_tests, ended_onto text rest line lines)

ended_never : (text rest : List ℕ) → is_line text ≡ true → ended_lines rest ≡ [] → ended_lines (text ++ rest) ≡ []
ended_never [] rest h e = e
ended_never (b ∷ text) rest h e = grind (arith, nat_tests, ended_never text rest)

-- a line that goes on behind a part of it has ended, or nothing follows it
pub ended_long : (text rest : List ℕ) → is_line text ≡ true
    → (ended_lines (text ++ rest) ≡ (text ++ before_newline rest) ∷ ended_lines (after_newline rest)) ⊎ ((ended_lines (text ++ rest) ≡ []) × (after_newline rest ≡ []))
ended_long text rest h = elim (rest_ends rest) [
  | inl e ↦ inl (ended_onto text rest (before_newline rest) (ended_lines (after_newline rest)) h e)
  | inr e ↦ inr (ended_never text rest h e.0, e.1)
]

-- ---- sizes

-- no line is longer than the text
abbrev pub fits : ℕ → List ℕ → Bool
fits n line = nat_le (length line) n

fits_more : (n : ℕ) (b : ℕ) (lines : List (List ℕ)) → list_all (fits n) lines ≡ true → list_all (fits (n + 1)) lines ≡ true
fits_more n b [] h = refl
fits_more n b (line ∷ lines) h = grind (arith, nat_tests, fits_more n b lines)

first_fits : (n : ℕ) (b : ℕ) (lines : List (List ℕ)) → list_all (fits n) lines ≡ true → list_all (fits (n + 1)) (on_first b lines) ≡ true
first_fits n b [] h = grind (arith, nat_tests)
first_fits n b (line ∷ lines) h = grind (arith, nat_tests, fits_more n b lines)

line_fits : (b : ℕ) (bytes : List ℕ) → list_all (fits (length bytes)) (lines_of bytes) ≡ true → (c : Bool)
    → list_all (fits (length (b ∷ bytes))) (cond c ([] ∷ lines_of bytes) (on_first b (lines_of bytes))) ≡ true
line_fits b bytes h true = let more = fits_more (length bytes) b (lines_of bytes) h in grind (arith, nat_tests)
line_fits b bytes h false = let more = first_fits (length bytes) b (lines_of bytes) h in grind (arith, nat_tests)

pub lines_fit : (bytes : List ℕ) → list_all (fits (length bytes)) (lines_of bytes) ≡ true
lines_fit [] = refl
lines_fit (b ∷ bytes) = line_fits b bytes (lines_fit bytes) (b == 10)
