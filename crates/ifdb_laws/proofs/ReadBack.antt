-- Replies are read back from their bytes.
use Rattle.std.proofs.Common.{◌≡◌, ℕ, zero, suc, ◌+◌, ◌%◌, ◌/◌, ◌^◌, ◌<◌, Bool, true, false, List, [], ◌∷◌, ◌++◌, length, refl, sym, ap, ◌∙◌, arith, cond, eqb, ltb, Some}
use Rattle.std.specs.Fmt.{digit_glyph, digits_onto, digits}
use Rattle.std.specs.Prelude.{codes, decimal, map, flat_map, not, slice_index_or}
use Rattle.std.specs.List.{list_all}
use Rattle.std.specs.Char.{is_ascii_digit}
use Rattle.std.specs.Str.{bytes_eq}
use Rattle.std.proofs.lemmas.Bool.{false≢true, ltb-true}
use Rattle.std.proofs.lemmas.Bool.Decides.{nat_tests}
use Rattle.std.proofs.lemmas.Fmt.{decimal_injective}
use Rattle.std.proofs.lemmas.List.{append_assoc, append_cancel_left, length-map}
use Rattle.std.proofs.lemmas.List.Folds.{list_all-append}
use Rattle.ifdb_wire.specs.declared.fault.Fault.{Fault}
use Rattle.ifdb_wire.specs.declared.fault.Fault.TheVariants as fault
use Rattle.ifdb_wire.specs.declared.reply.Reply.{Reply}
use Rattle.ifdb_wire.specs.declared.reply.Reply.TheVariants as reply
use Rattle.ifdb_wire.specs.Fault.{fault_text}
use Rattle.ifdb_wire.specs.Text.{row_text, rows_head, reply_lines, line}
use Rattle.ifdb_model.specs.Script.{on_first, lines_of}
use Rattle.ifdb_model.specs.Run.{Told}
use Rattle.ifdb_model.specs.Output.{is_memory, reads_memory, refusals, texts}
use Rattle.ifdb_laws.specs.Bytes.{is_line, row_count, is_readable, Shown, shown, RepliesReadBack, RefusalsReadBack}

-- ---- digits

abbrev pub are_digits : List ℕ → Bool
are_digits text = list_all is_ascii_digit text

-- a number of any size is written in digits
pick_digits : (b : Bool) (xs ys : List ℕ) → are_digits xs ≡ true → are_digits ys ≡ true → are_digits (cond b xs ys) ≡ true
pick_digits true xs ys h k = h
pick_digits false xs ys h k = k

-- the digit of a number below 10
glyph : (n : ℕ) (acc : List ℕ) → are_digits acc ≡ true → are_digits (digit_glyph false (n % 10) ∷ acc) ≡ true
glyph n acc h = grind (arith, nat_tests)

onto_digits : (k n : ℕ) (acc : List ℕ) → are_digits acc ≡ true → are_digits (digits_onto k 10 false n acc) ≡ true
onto_digits zero n acc h = h
onto_digits (suc k) n acc h =
    let more = digit_glyph false (n % 10) ∷ acc in
    pick_digits (eqb (n / 10) 0) more (digits_onto k 10 false (n / 10) more) (glyph n acc h) (onto_digits k (n / 10) more (glyph n acc h))

pub decimal_digits : (n : ℕ) → are_digits (decimal n) ≡ true
unfolding digits
decimal_digits n = onto_digits 64 n [] refl

digits_line : (ds : List ℕ) → are_digits ds ≡ true → is_line ds ≡ true
digits_line [] h = refl
digits_line (d ∷ ds) h = grind (arith, nat_tests, digits_line ds)

-- two texts that begin with digits and a space
abbrev pub Split : List ℕ → List ℕ → List ℕ → List ℕ → Type 0
Split ds es x y = (ds ≡ es) × (x ≡ y)

first_of : List ℕ → ℕ
first_of text = slice_index_or text 0 0

rest_of : List ℕ → List ℕ
rest_of [] = []
rest_of (x ∷ xs) = xs

no_digit : (d : ℕ) → is_ascii_digit d ≡ true → 32 ≡ d → ⊥
no_digit d h e = grind (arith, nat_tests)

pub split_space : (ds es x y : List ℕ) → are_digits ds ≡ true → are_digits es ≡ true → ds ++ 32 ∷ x ≡ es ++ 32 ∷ y → Split ds es x y
unfolding first_of rest_of
split_space [] [] x y h k e = (refl, ap rest_of e)
split_space [] (b ∷ es) x y h k e = absurd (no_digit b (grind (arith, nat_tests)) (ap first_of e))
split_space (a ∷ ds) [] x y h k e = absurd (no_digit a (grind (arith, nat_tests)) (sym (ap first_of e)))
split_space (a ∷ ds) (b ∷ es) x y h k e =
    let one : a ≡ b = ap first_of e in
    let more = split_space ds es x y (grind (arith, nat_tests)) (grind (arith, nat_tests)) (ap rest_of e) in
    (λ i. one i ∷ more.0 i, more.1)

-- ---- lines

lines_line : (l more : List ℕ) → is_line l ≡ true → lines_of (l ++ 10 ∷ more) ≡ l ∷ lines_of more
lines_line [] more h = refl
lines_line (b ∷ l) more h =
    let ih = lines_line l more (grind (arith, nat_tests)) in
    let no : eqb b 10 ≡ false = grind (arith, nat_tests) in
    (λ i. cond (no i) ([] ∷ lines_of (l ++ 10 ∷ more)) (on_first b (ih i)))

-- a line with its session's number
abbrev pub full : ℕ → List ℕ → List ℕ
full n l = decimal n ++ 32 ∷ l

pub full_is : (n : ℕ) (l more : List ℕ) → line (Some n) l ++ more ≡ full n l ++ 10 ∷ more
full_is n l more =
    append_assoc (decimal n ++ 32 ∷ []) (l ++ 10 ∷ []) more
    ∙ ap (λ x. (decimal n ++ 32 ∷ []) ++ x) (append_assoc l (10 ∷ []) more)
    ∙ append_assoc (decimal n) (32 ∷ []) (l ++ 10 ∷ more)
    ∙ sym (append_assoc (decimal n) (32 ∷ l) (10 ∷ more))

full_line : (n : ℕ) (l : List ℕ) → is_line l ≡ true → is_line (full n l) ≡ true
full_line n l h =
    let one = digits_line (decimal n) (decimal_digits n) in
    grind (arith, nat_tests, list_all-append (λ b. not (eqb b 10)) (decimal n) (32 ∷ l))

lines_reply : (n : ℕ) (ls : List (List ℕ)) (more : List ℕ) → list_all is_line ls ≡ true → lines_of (flat_map (line (Some n)) ls ++ more) ≡ map (full n) ls ++ lines_of more
lines_reply n [] more h = refl
lines_reply n (l ∷ ls) more h =
    let parts : (is_line l ≡ true) × (list_all is_line ls ≡ true) = grind (arith, nat_tests) in
    ap lines_of (append_assoc (line (Some n) l) (flat_map (line (Some n)) ls) more ∙ full_is n l (flat_map (line (Some n)) ls ++ more))
    ∙ lines_line (full n l) (flat_map (line (Some n)) ls ++ more) (full_line n l parts.0)
    ∙ ap (λ x. full n l ∷ x) (lines_reply n ls more parts.1)

abbrev lines_told : Told → List (List ℕ)
lines_told t = map (full t.number) (reply_lines t.reply)

lines_texts : (xs : List Told) → list_all is_readable xs ≡ true → lines_of (texts xs) ≡ flat_map lines_told xs
lines_texts [] h = refl
lines_texts (t ∷ xs) h =
    let parts : (list_all is_line (reply_lines t.reply) ≡ true) × (list_all is_readable xs ≡ true) = grind (arith, nat_tests) in
    lines_reply t.number (reply_lines t.reply) (texts xs) parts.0 ∙ ap (λ x. lines_told t ++ x) (lines_texts xs parts.1)

-- ---- the first line of a reply says how many follow

unfoldable pub first_line : Reply → List ℕ
first_line reply.Done = codes "OK"
first_line (reply.Count n) = codes "OK " ++ decimal n
first_line reply.Opened = codes "OPEN"
first_line (reply.Label names) = codes "LABEL (" ++ (names ++ codes ")")
first_line (reply.Rows table) = rows_head table
first_line (reply.Refused f) = fault_text f

pub more_lines : Reply → List (List ℕ)
more_lines (reply.Rows table) = map row_text table.rows
more_lines _ = []

pub lines_are : (r : Reply) → reply_lines r ≡ first_line r ∷ more_lines r
unfolding first_line more_lines
lines_are reply.Done = refl
lines_are (reply.Count n) = refl
lines_are reply.Opened = refl
lines_are (reply.Label names) = refl
lines_are (reply.Rows table) = refl
lines_are (reply.Refused f) = refl

more_count : (r : Reply) → length (more_lines r) ≡ row_count r
unfolding more_lines
more_count reply.Done = refl
more_count (reply.Count n) = refl
more_count reply.Opened = refl
more_count (reply.Label names) = refl
more_count (reply.Rows table) = length-map table.rows row_text
more_count (reply.Refused f) = refl

-- the first letter of a fault's text is E, which is 69; that of rows is R, which is 82
starts_rows : List ℕ → Bool
starts_rows text = eqb (slice_index_or text 0 0) 82

fault_starts : (f : Fault) → starts_rows (fault_text f) ≡ false
unfolding starts_rows
fault_starts (fault.Syntax at) = refl
fault_starts fault.NotHello = refl
fault_starts fault.HelloTwice = refl
fault_starts fault.BadKey = refl
fault_starts fault.Taken = refl
fault_starts fault.UnknownName = refl
fault_starts fault.LabelNotEmpty = refl
fault_starts fault.NoAuthority = refl
fault_starts fault.InTransaction = refl
fault_starts fault.NoTransaction = refl
fault_starts fault.TypeMismatch = refl
fault_starts fault.WriteLabel = refl
fault_starts fault.DuplicateKey = refl
fault_starts fault.NoReference = refl
fault_starts fault.OutOfRange = refl
fault_starts fault.CommitLabel = refl
fault_starts fault.Conflict = refl
fault_starts fault.BrokenReference = refl
fault_starts fault.StillReferenced = refl
fault_starts fault.OutOfMemory = refl
fault_starts fault.TooLong = refl
fault_starts fault.Limit = refl
fault_starts fault.NotGranted = refl
fault_starts fault.KeyColumn = refl
fault_starts fault.NotCompound = refl
fault_starts fault.NotATable = refl
fault_starts fault.ViewAuthority = refl
fault_starts fault.NoSession = refl
fault_starts fault.OverClearance = refl
fault_starts fault.ClosureLabel = refl

is_rows : Reply → Bool
is_rows (reply.Rows table) = true
is_rows _ = false

starts_are : (r : Reply) → starts_rows (first_line r) ≡ is_rows r
unfolding starts_rows first_line is_rows
starts_are reply.Done = refl
starts_are (reply.Count n) = refl
starts_are reply.Opened = refl
starts_are (reply.Label names) = refl
starts_are (reply.Rows table) = refl
starts_are (reply.Refused f) = fault_starts f

no_rows : (r : Reply) → is_rows r ≡ false → row_count r ≡ 0
unfolding is_rows
no_rows reply.Done h = refl
no_rows (reply.Count n) h = refl
no_rows reply.Opened h = refl
no_rows (reply.Label names) h = refl
no_rows (reply.Rows table) h = absurd (false≢true (sym h))
no_rows (reply.Refused f) h = refl

rows_first : (r : Reply) → is_rows r ≡ true → (columns : ℕ) × (first_line r ≡ codes "ROWS " ++ (decimal (row_count r) ++ 32 ∷ decimal columns))
unfolding is_rows first_line
rows_first reply.Done h = absurd (false≢true h)
rows_first (reply.Count n) h = absurd (false≢true h)
rows_first reply.Opened h = absurd (false≢true h)
rows_first (reply.Label names) h = absurd (false≢true h)
rows_first (reply.Rows table) h = (table.columns, refl)
rows_first (reply.Refused f) h = absurd (false≢true h)

same_count : (r q : Reply) → row_count r < 2 ^ 64 → row_count q < 2 ^ 64 → first_line r ≡ first_line q → row_count r ≡ row_count q
same_count r q lr lq e = by (is_rows r) refl where
  same : is_rows r ≡ is_rows q
  same = sym (starts_are r) ∙ ap starts_rows e ∙ starts_are q

  by : (b : Bool) → is_rows r ≡ b → row_count r ≡ row_count q
  by false h = no_rows r h ∙ sym (no_rows q (sym same ∙ h))
  by true h =
      let a = rows_first r h in
      let b = rows_first q (sym same ∙ h) in
      let inner = append_cancel_left (codes "ROWS ") (decimal (row_count r) ++ 32 ∷ decimal a.0) (decimal (row_count q) ++ 32 ∷ decimal b.0) (sym a.1 ∙ e ∙ b.1) in
      let parts = split_space (decimal (row_count r)) (decimal (row_count q)) (decimal a.0) (decimal b.0) (decimal_digits (row_count r)) (decimal_digits (row_count q)) inner in
      decimal_injective (row_count r) (row_count q) lr lq parts.0

-- ---- one reply, and the others

abbrev Lines : Type 0
Lines = List (List ℕ)

head_of : Lines → List ℕ
head_of [] = []
head_of (x ∷ xs) = x

tail_of : Lines → Lines
tail_of [] = []
tail_of (x ∷ xs) = xs

append_parts : (xs cs ys bs : Lines) → length xs ≡ length cs → xs ++ ys ≡ cs ++ bs → (xs ≡ cs) × (ys ≡ bs)
unfolding head_of tail_of
append_parts [] [] ys bs l e = (refl, e)
append_parts [] (a ∷ cs) ys bs l e = absurd (omega arith)
append_parts (x ∷ xs) [] ys bs l e = absurd (omega arith)
append_parts (x ∷ xs) (a ∷ cs) ys bs l e =
    let one : x ≡ a = ap head_of e in
    let more = append_parts xs cs ys bs (omega arith) (ap tail_of e) in
    (λ i. one i ∷ more.0 i, more.1)

full_same : (n : ℕ) (xs cs : Lines) → map (full n) xs ≡ map (full n) cs → xs ≡ cs
unfolding head_of tail_of
full_same n [] [] e = refl
full_same n [] (a ∷ cs) e = cc
full_same n (x ∷ xs) [] e = cc
full_same n (x ∷ xs) (a ∷ cs) e =
    let inner : 32 ∷ x ≡ 32 ∷ a = append_cancel_left (decimal n) (32 ∷ x) (32 ∷ a) (ap head_of e) in
    let one : x ≡ a = append_cancel_left (32 ∷ []) x a inner in
    let more = full_same n xs cs (ap tail_of e) in
    λ i. one i ∷ more i

-- a reply that is followed by others
record SameFirst (t u : Told) (xs ys : Lines) : Type 0 where
  pub number : t.number ≡ u.number
  pub lines : reply_lines t.reply ≡ reply_lines u.reply
  pub others : xs ≡ ys

same_first : (t u : Told) (xs ys : Lines) → is_readable t ≡ true → is_readable u ≡ true → lines_told t ++ xs ≡ lines_told u ++ ys → SameFirst t u xs ys
unfolding head_of tail_of
same_first t u xs ys h k e =
    let a : (ltb t.number (2 ^ 64) ≡ true) × (ltb (row_count t.reply) (2 ^ 64) ≡ true) = grind (arith, nat_tests) in
    let b : (ltb u.number (2 ^ 64) ≡ true) × (ltb (row_count u.reply) (2 ^ 64) ≡ true) = grind (arith, nat_tests) in
    let tn = ltb-true t.number (2 ^ 64) a.0 in
    let un = ltb-true u.number (2 ^ 64) b.0 in
    let tl = lines_are t.reply in
    let ul = lines_are u.reply in
    let whole : map (full t.number) (first_line t.reply ∷ more_lines t.reply) ++ xs ≡ map (full u.number) (first_line u.reply ∷ more_lines u.reply) ++ ys =
    ap (λ l. map (full t.number) l ++ xs) (sym tl) ∙ e ∙ ap (λ l. map (full u.number) l ++ ys) ul in
    let heads : full t.number (first_line t.reply) ≡ full u.number (first_line u.reply) = ap head_of whole in
    let parts = split_space (decimal t.number) (decimal u.number) (first_line t.reply) (first_line u.reply) (decimal_digits t.number) (decimal_digits u.number) heads in
    let number = decimal_injective t.number u.number tn un parts.0 in
    let count = same_count t.reply u.reply (ltb-true (row_count t.reply) (2 ^ 64) a.1) (ltb-true (row_count u.reply) (2 ^ 64) b.1) parts.1 in
    let lengths : length (map (full t.number) (more_lines t.reply)) ≡ length (map (full u.number) (more_lines u.reply)) =
    length-map (more_lines t.reply) (full t.number) ∙ more_count t.reply ∙ count ∙ sym (more_count u.reply) ∙ sym (length-map (more_lines u.reply) (full u.number)) in
    let tails = append_parts (map (full t.number) (more_lines t.reply)) (map (full u.number) (more_lines u.reply)) xs ys lengths (ap tail_of whole) in
    let more = full_same u.number (more_lines t.reply) (more_lines u.reply) (ap (λ n. map (full n) (more_lines t.reply)) (sym number) ∙ tails.0) in
    record { number = number; lines = tl ∙ (λ i. parts.1 i ∷ more i) ∙ sym ul; others = tails.1 }

nonempty : (t : Told) (xs : Lines) → [] ≡ lines_told t ++ xs → ⊥
nonempty t xs e = absurd (no (e ∙ ap (λ l. map (full t.number) l ++ xs) (lines_are t.reply))) where
  no : [] ≡ map (full t.number) (first_line t.reply ∷ more_lines t.reply) ++ xs → ⊥
  no e = cc

same_shown : (xs ys : List Told) → list_all is_readable xs ≡ true → list_all is_readable ys ≡ true → flat_map lines_told xs ≡ flat_map lines_told ys → map shown xs ≡ map shown ys
same_shown [] [] h k e = refl
same_shown [] (u ∷ ys) h k e = absurd (nonempty u (flat_map lines_told ys) e)
same_shown (t ∷ xs) [] h k e = absurd (nonempty t (flat_map lines_told xs) (sym e))
same_shown (t ∷ xs) (u ∷ ys) h k e =
    let a : (is_readable t ≡ true) × (list_all is_readable xs ≡ true) = grind (arith, nat_tests) in
    let b : (is_readable u ≡ true) × (list_all is_readable ys ≡ true) = grind (arith, nat_tests) in
    let first = same_first t u (flat_map lines_told xs) (flat_map lines_told ys) a.0 b.0 e in
    let more = same_shown xs ys a.1 b.1 first.others in
    λ i. record { number = first.number i; lines = first.lines i } ∷ more i

pub replies_read_back : RepliesReadBack
replies_read_back xs ys h k e = same_shown xs ys h k (sym (lines_texts xs h) ∙ ap lines_of e ∙ lines_texts ys k)

-- ---- want of memory

abbrev shows_memory : Lines → Bool
shows_memory [] = false
shows_memory (l ∷ ls) = bytes_eq l (codes "ERR 20 OutOfMemory")

fault_shows : (f : Fault) → shows_memory (fault_text f ∷ []) ≡ is_memory f
unfolding digits
fault_shows (fault.Syntax at) = refl
fault_shows fault.NotHello = refl
fault_shows fault.HelloTwice = refl
fault_shows fault.BadKey = refl
fault_shows fault.Taken = refl
fault_shows fault.UnknownName = refl
fault_shows fault.LabelNotEmpty = refl
fault_shows fault.NoAuthority = refl
fault_shows fault.InTransaction = refl
fault_shows fault.NoTransaction = refl
fault_shows fault.TypeMismatch = refl
fault_shows fault.WriteLabel = refl
fault_shows fault.DuplicateKey = refl
fault_shows fault.NoReference = refl
fault_shows fault.OutOfRange = refl
fault_shows fault.CommitLabel = refl
fault_shows fault.Conflict = refl
fault_shows fault.BrokenReference = refl
fault_shows fault.StillReferenced = refl
fault_shows fault.OutOfMemory = refl
fault_shows fault.TooLong = refl
fault_shows fault.Limit = refl
fault_shows fault.NotGranted = refl
fault_shows fault.KeyColumn = refl
fault_shows fault.NotCompound = refl
fault_shows fault.NotATable = refl
fault_shows fault.ViewAuthority = refl
fault_shows fault.NoSession = refl
fault_shows fault.OverClearance = refl
fault_shows fault.ClosureLabel = refl

reply_shows : (r : Reply) → shows_memory (reply_lines r) ≡ reads_memory r
reply_shows reply.Done = refl
reply_shows (reply.Count n) = refl
reply_shows reply.Opened = refl
reply_shows (reply.Label names) = refl
reply_shows (reply.Rows table) = refl
reply_shows (reply.Refused f) = fault_shows f

abbrev flag_shown : Shown → List Bool
flag_shown x = cond (shows_memory x.lines) (true ∷ []) (cond (eqb x.number 0) [] (false ∷ []))

flags_shown : (xs : List Told) → refusals xs ≡ flat_map flag_shown (map shown xs)
flags_shown [] = refl
flags_shown (t ∷ xs) = λ i. cond (sym (reply_shows t.reply) i) (true ∷ []) (cond (eqb t.number 0) [] (false ∷ [])) ++ flags_shown xs i

pub refusals_read_back : RefusalsReadBack
refusals_read_back xs ys h k e = flags_shown xs ∙ ap (flat_map flag_shown) (replies_read_back xs ys h k e) ∙ sym (flags_shown ys)
