-- A step's next line tells whether there was memory for it: no reply of the machine begins as that of error 20 does.
use Rattle.std.proofs.Common.{◌≡◌, ℕ, ◌+◌, ◌<◌, ◌≤◌, ◌^◌, Bool, true, false, List, [], ◌∷◌, ◌++◌, length, take, map, refl, sym, ap, subst, ◌∙◌, arith, cond, get_or, Some, inl, inr}
use Rattle.std.specs.Fmt.{digits}
use Rattle.std.specs.Prelude.{◌⊎◌, bytes_eq, codes, decimal, filter, flat_map, nat_le, ◌==◌}
use Rattle.std.specs.List.{list_all}
use Rattle.std.proofs.lemmas.Bool.{false≢true}
use Rattle.std.proofs.lemmas.Bool.Decides.{nat_tests}
use Rattle.std.proofs.lemmas.Fmt.{decimal_nonempty, first_decimal, length-decimal-le}
use Rattle.std.proofs.lemmas.List.{append-nil, append_assoc, append_cancel_left, length-append}
use Rattle.std.proofs.lemmas.List.Folds.{list_all-append}
use Rattle.ifdb_wire.specs.declared.fault.Fault.{Fault}
use Rattle.ifdb_wire.specs.declared.fault.Fault.TheVariants as fault
use Rattle.ifdb_wire.specs.declared.reply.Reply.{Reply}
use Rattle.ifdb_wire.specs.declared.reply.Reply.TheVariants as reply
use Rattle.ifdb_wire.specs.Fault.{fault_text}
use Rattle.ifdb_wire.specs.Text.{line as with_number, reply_text, rows_head, row_text, memory_text}
use Rattle.ifdb_model.specs.Step.{Reader, ask, refuses}
use Rattle.ifdb_model.specs.Run.{State, session_of, Step, opens, asks, refused, long, stray, leaves, outcome_of, next}
use Rattle.ifdb_model.specs.Script.{lines_of, on_first}
use Rattle.ifdb_model.specs.Output.{reads_memory, is_memory}
use Rattle.ifdb_laws.specs.Bytes.{is_line}
use Rattle.ifdb_laws.specs.StepLaws.{lacks_memory, MemoryIsNeverTold}
use Rattle.ifdb_trace.specs.Accepted.{asked_mark, told_mark, recorded_line, recorded_lines, is_short}
use Rattle.ifdb_trace.specs.Checking.{Due, due_after, can_come, dues, next_told, behind_told, behind}
use Rattle.ifdb_trace.specs.Laws.{WaysArePart}
use Rattle.ifdb_trace.proofs.Exact.{bytes_are, bytes_itself}
use Rattle.ifdb_trace.proofs.Lines.{decimal_plain, lines_front, lines_fit}

-- ---- the first line of a text

-- a text begins with its first line
begins_onto : (b : ℕ) (bytes first : List ℕ) (more lines : List (List ℕ)) → ((line : List ℕ) (ls : List (List ℕ)) → lines ≡ line ∷ ls → (rest : List ℕ) × (bytes ≡ line ++ rest))
    → on_first b lines ≡ first ∷ more → (rest : List ℕ) × (b ∷ bytes ≡ first ++ rest)
begins_onto b bytes first more [] known i =
    let same : b ∷ [] ≡ first = ap (λ (ls : List (List ℕ)). get_or ls 0 []) i in (bytes, ap (λ f. f ++ bytes) same)
begins_onto b bytes first more (line ∷ lines) known i =
    let same : b ∷ line ≡ first = ap (λ (ls : List (List ℕ)). get_or ls 0 []) i in
    let tail = known line lines refl in
    (tail.0, ap (λ t. b ∷ t) tail.1 ∙ ap (λ f. f ++ tail.0) same)

begins : (bytes first : List ℕ) (more : List (List ℕ)) → lines_of bytes ≡ first ∷ more → (rest : List ℕ) × (bytes ≡ first ++ rest)
begins [] first more e = cc
begins (b ∷ bytes) first more e = by (λ line ls h. begins bytes line ls h) (b == 10) e where
  by : ((line : List ℕ) (ls : List (List ℕ)) → lines_of bytes ≡ line ∷ ls → (rest : List ℕ) × (bytes ≡ line ++ rest))
      → (c : Bool) → cond c ([] ∷ lines_of bytes) (on_first b (lines_of bytes)) ≡ first ∷ more → (rest : List ℕ) × (b ∷ bytes ≡ first ++ rest)
  by known true i = let same : [] ≡ first = ap (λ (ls : List (List ℕ)). get_or ls 0 []) i in (b ∷ bytes, ap (λ f. f ++ (b ∷ bytes)) same)
  by known false i = begins_onto b bytes first more (lines_of bytes) known i

-- ---- the first line of a reply

-- what it begins with
abbrev pub first_text : Reply → List ℕ
first_text reply.Done = codes "OK"
first_text (reply.Count n) = codes "OK " ++ decimal n
first_text reply.Opened = codes "OPEN"
first_text (reply.Label names) = codes "LABEL (" ++ (names ++ codes ")")
first_text (reply.Rows table) = rows_head table
first_text (reply.Refused f) = fault_text f

-- and what stands behind it
abbrev pub more_text : ℕ → Reply → List ℕ
more_text n (reply.Rows table) = flat_map (with_number (Some n)) (map row_text table.rows)
more_text n _ = []

text_parts : (n : ℕ) (r : Reply) → reply_text (Some n) r ≡ with_number (Some n) (first_text r) ++ more_text n r
text_parts n reply.Done = refl
text_parts n (reply.Count k) = refl
text_parts n reply.Opened = refl
text_parts n (reply.Label names) = refl
text_parts n (reply.Rows table) = refl
text_parts n (reply.Refused f) = refl

-- behind the session's number
pub text_is : (n : ℕ) (r : Reply) → reply_text (Some n) r ≡ decimal n ++ (32 ∷ (first_text r ++ (10 ∷ more_text n r)))
text_is n r =
    text_parts n r
    ∙ append_assoc (decimal n ++ 32 ∷ []) (first_text r ++ 10 ∷ []) (more_text n r)
    ∙ ap (λ x. (decimal n ++ 32 ∷ []) ++ x) (append_assoc (first_text r) (10 ∷ []) (more_text n r))
    ∙ append_assoc (decimal n) (32 ∷ []) (first_text r ++ (10 ∷ more_text n r))

-- ---- error 20

-- the words of error 20, and its line
abbrev memory_words : List ℕ
memory_words = codes "ERR 20 OutOfMemory"

abbrev memory_line : ℕ → List ℕ
memory_line n = decimal n ++ 32 ∷ memory_words

abbrev shows_memory : List ℕ → Bool
shows_memory text = bytes_eq (take 18 text) memory_words

fault_shows : (f : Fault) → shows_memory (fault_text f ++ (10 ∷ [])) ≡ is_memory f
unfolding digits
fault_shows (fault.Syntax at) = refl
fault_shows fault.NotHello = refl
fault_shows fault.HelloTwice = refl
fault_shows fault.BadKey = refl
fault_shows fault.Taken = refl
fault_shows fault.UnknownName = refl
fault_shows fault.LabelNotEmpty = refl
fault_shows fault.NoAuthority = refl
fault_shows fault.InTransaction = refl
fault_shows fault.NoTransaction = refl
fault_shows fault.TypeMismatch = refl
fault_shows fault.WriteLabel = refl
fault_shows fault.DuplicateKey = refl
fault_shows fault.NoReference = refl
fault_shows fault.OutOfRange = refl
fault_shows fault.CommitLabel = refl
fault_shows fault.Conflict = refl
fault_shows fault.BrokenReference = refl
fault_shows fault.StillReferenced = refl
fault_shows fault.OutOfMemory = refl
fault_shows fault.TooLong = refl
fault_shows fault.Limit = refl
fault_shows fault.NotGranted = refl
fault_shows fault.KeyColumn = refl
fault_shows fault.NotCompound = refl
fault_shows fault.NotATable = refl
fault_shows fault.ViewAuthority = refl
fault_shows fault.NoSession = refl
fault_shows fault.OverClearance = refl
fault_shows fault.ClosureLabel = refl

reply_shows : (n : ℕ) (r : Reply) → shows_memory (first_text r ++ (10 ∷ more_text n r)) ≡ reads_memory r
reply_shows n reply.Done = refl
reply_shows n (reply.Count k) = refl
reply_shows n reply.Opened = refl
reply_shows n (reply.Label names) = refl
reply_shows n (reply.Rows table) = refl
reply_shows n (reply.Refused f) = fault_shows f

-- no other reply begins with its line
pub memory_apart : (n : ℕ) (r : Reply) (more : List (List ℕ)) → reads_memory r ≡ false → lines_of (reply_text (Some n) r) ≡ memory_line n ∷ more → ⊥
memory_apart n r more other e =
    let b = begins (reply_text (Some n) r) (memory_line n) more e in
    let whole : decimal n ++ (32 ∷ (first_text r ++ (10 ∷ more_text n r))) ≡ decimal n ++ (32 ∷ (memory_words ++ b.0)) =
    sym (text_is n r) ∙ b.1 ∙ append_assoc (decimal n) (32 ∷ memory_words) b.0 in
    let behind_number = append_cancel_left (decimal n) _ _ whole in
    let same : first_text r ++ (10 ∷ more_text n r) ≡ memory_words ++ b.0 = append_cancel_left (32 ∷ []) _ _ behind_number in
    false≢true (sym other ∙ sym (reply_shows n r) ∙ ap shows_memory same)

-- nor does an OPEN's begin with that of session 0
pub opened_apart : (n : ℕ) (more : List (List ℕ)) → 0 < n → n < 2 ^ 64 → lines_of (reply_text (Some n) reply.Opened) ≡ memory_line 0 ∷ more → ⊥
unfolding digits
opened_apart n more some small e =
    let b = begins (reply_text (Some n) reply.Opened) (memory_line 0) more e in
    let first : get_or (reply_text (Some n) reply.Opened) 0 0 ≡ 48 = ap (λ x. get_or x 0 0) b.1 in
    let digit : get_or (reply_text (Some n) reply.Opened) 0 0 ≡ get_or (decimal n) 0 0 =
    ap (λ x. get_or x 0 0) (text_is n reply.Opened) ∙ of_first (decimal n) (32 ∷ (first_text reply.Opened ++ (10 ∷ more_text n reply.Opened))) (decimal_nonempty n small) in
    omega (arith, first_decimal n some small, first, digit)
  where
    of_first : (xs ys : List ℕ) → 0 < length xs → get_or (xs ++ ys) 0 0 ≡ get_or xs 0 0
    of_first [] ys h = absurd (omega arith)
    of_first (x ∷ xs) ys h = refl

memory_is : (n : ℕ) → memory_text (Some n) ≡ memory_line n ++ (10 ∷ [])
unfolding digits
memory_is n = text_is n (reply.Refused fault.OutOfMemory) ∙ sym (append_assoc (decimal n) (32 ∷ memory_words) (10 ∷ []))

memory_plain : (n : ℕ) → n < 2 ^ 64 → is_line (memory_line n) ≡ true
memory_plain n small =
    let number = decimal_plain n small in
    grind (arith, nat_tests, list_all-append (λ b. Rattle.std.specs.Prelude.not (b == 10)) (decimal n) (32 ∷ memory_words))

pub memory_lines : (n : ℕ) → n < 2 ^ 64 → lines_of (memory_text (Some n)) ≡ memory_line n ∷ []
memory_lines n small = ap lines_of (memory_is n) ∙ lines_front (memory_line n) [] (memory_plain n small)

memory_short : (n : ℕ) → n < 2 ^ 64 → is_short (recorded_line (memory_line n)) ≡ true
memory_short n small =
    let number : length (decimal n) ≤ 20 = length-decimal-le 20 n (omega arith) (omega arith) small in
    let size = length-append (decimal n) (32 ∷ memory_words) in
    grind (arith, nat_tests)

-- ---- what may come next

-- the lines of a text are due, and then a state
abbrev pub due_of : List ℕ → State → Due
due_of text st = record { lines = recorded_lines text; state = st }

pub next_is : (text line : List ℕ) (more : List (List ℕ)) (st : State) → lines_of text ≡ line ∷ more
    → next_told (recorded_line line) st (recorded_lines text) ≡ record { lines = map recorded_line more; state = st } ∷ []
next_is text line more st e = ap (λ ls. next_told (recorded_line line) st (map recorded_line ls)) e ∙ rw (bytes_itself line) refl

pub next_not : (text line : List ℕ) (st : State) → ((more : List (List ℕ)) → lines_of text ≡ line ∷ more → ⊥)
    → next_told (recorded_line line) st (recorded_lines text) ≡ []
next_not text line st other = by (lines_of text) refl where
  by : (ls : List (List ℕ)) → lines_of text ≡ ls → next_told (recorded_line line) st (map recorded_line ls) ≡ []
  by [] e = refl
  by (l ∷ ls) e = test (bytes_eq l line) refl where
    test : (b : Bool) → bytes_eq l line ≡ b → cond {A = List Due} b (record { lines = map recorded_line ls; state = st } ∷ []) [] ≡ []
    test true f = absurd (other ls (e ∙ ap (λ x. x ∷ ls) (bytes_are l line f)))
    test false f = refl

-- these, if so
abbrev pub keep : Bool → List Due → List Due
keep b ds = cond b ds []

keep_none : (b : Bool) → keep b [] ≡ []
keep_none true = refl
keep_none false = refl

-- of two that are due, those that can come
two : (f : Due → List Due) (a m : Due) → flat_map f (filter can_come (a ∷ m ∷ [])) ≡ keep (can_come a) (f a) ++ keep (can_come m) (f m)
two f a m = by (can_come a) (can_come m) where
  by : (x y : Bool) → flat_map f (cond x (a ∷ cond y (m ∷ []) []) (cond y (m ∷ []) [])) ≡ keep x (f a) ++ keep y (f m)
  by true true = ap (λ t. f a ++ t) (append-nil (f m))
  by true false = refl
  by false true = append-nil (f m)
  by false false = refl

-- behind a line of a reply
pub told_behind : (read : Reader) (line : List ℕ) (all : List Due) → is_short (recorded_line line) ≡ true
    → behind read (recorded_line line) all ≡ flat_map (behind_told (recorded_line line)) all
told_behind read line all h = rw h refl

-- both ways of a step: the machine's text, and want of memory
abbrev pub both_ways : List ℕ → State → ℕ → State → List Due
both_ways text st n old = filter can_come (due_of text st ∷ due_of (memory_text (Some n)) old ∷ [])

pub dues_asks : (read : Reader) (st : State) (n : ℕ) (request : List ℕ)
    → dues read st (asks n request ∷ []) ≡ both_ways (reply_text (Some n) (outcome_of read st n request).reply) (next read st (asks n request)) n st
dues_asks read st n request = λ i. filter can_come (
    record { lines = append-nil (recorded_lines (reply_text (Some n) (outcome_of read st n request).reply)) i; state = next read st (asks n request) }
    ∷ record { lines = append-nil (recorded_lines (memory_text (Some n))) i; state = st } ∷ [])

pub dues_opens : (read : Reader) (st : State)
    → dues read st (opens ∷ []) ≡ both_ways (reply_text (Some (length st.sessions + 1)) reply.Opened) (next read st opens) 0 st
dues_opens read st = λ i. filter can_come (
    record { lines = append-nil (recorded_lines (reply_text (Some (length st.sessions + 1)) reply.Opened)) i; state = next read st opens }
    ∷ record { lines = append-nil (recorded_lines (memory_text (Some 0))) i; state = st } ∷ [])

heads : (x y : List ℕ) (xs ys : List (List ℕ)) → x ∷ xs ≡ y ∷ ys → (x ≡ y) × (xs ≡ ys)
heads x y xs ys e = (ap (λ (zs : List (List ℕ)). get_or zs 0 x) e, ap (Rattle.std.proofs.Common.drop 1) e)

pub memory_comes : (n : ℕ) (st : State) → n < 2 ^ 64 → can_come (due_of (memory_text (Some n)) st) ≡ true
memory_comes n st small =
    let short = memory_short n small in
    ap (λ (ls : List (List ℕ)). list_all is_short (map recorded_line ls)) (memory_lines n small) ∙ grind (arith, nat_tests)

-- the text is no front of error 20's
abbrev pub IsApart : List ℕ → ℕ → Type 0
IsApart text n = (more : List (List ℕ)) → lines_of text ≡ memory_line n ∷ more → ⊥

module _ (text : List ℕ) (st old : State) (n : ℕ) (small : n < 2 ^ 64) (line : List ℕ) where
  -- the line is that of error 20
  pub memory_way : IsApart text n → (rest : List ℕ) → lines_of (memory_text (Some n)) ≡ line ∷ lines_of rest
      → flat_map (behind_told (recorded_line line)) (both_ways text st n old) ≡ due_of rest old ∷ []
  memory_way apart rest e =
      let same = heads (memory_line n) line [] (lines_of rest) (sym (memory_lines n small) ∙ e) in
      let no : next_told (recorded_line line) st (recorded_lines text) ≡ [] =
      next_not text line st (λ more f. apart more (f ∙ ap (λ l. l ∷ more) (sym same.0))) in
      two (behind_told (recorded_line line)) (due_of text st) (due_of (memory_text (Some n)) old)
      ∙ (λ i. keep (can_come (due_of text st)) (no i) ++ keep (memory_comes n old small i) (next_is (memory_text (Some n)) line (lines_of rest) old e i))
      ∙ ap (λ t. t ++ (due_of rest old ∷ [])) (keep_none (can_come (due_of text st)))

  -- it is another one
  pub machine_way : ((more : List (List ℕ)) → lines_of (memory_text (Some n)) ≡ line ∷ more → ⊥)
      → flat_map (behind_told (recorded_line line)) (both_ways text st n old)
      ≡ keep (can_come (due_of text st)) (next_told (recorded_line line) st (recorded_lines text))
  machine_way other =
      two (behind_told (recorded_line line)) (due_of text st) (due_of (memory_text (Some n)) old)
      ∙ ap (λ ds. keep (can_come (due_of text st)) (next_told (recorded_line line) st (recorded_lines text)) ++ keep (can_come (due_of (memory_text (Some n)) old)) ds)
      (next_not (memory_text (Some n)) line old other)
      ∙ ap (λ t. keep (can_come (due_of text st)) (next_told (recorded_line line) st (recorded_lines text)) ++ t) (keep_none (can_come (due_of (memory_text (Some n)) old)))
      ∙ append-nil (keep (can_come (due_of text st)) (next_told (recorded_line line) st (recorded_lines text)))

-- ---- the law

one_at_most : (line : List ℕ) (st : State) (ts : List (List ℕ)) → length (next_told line st ts) ≤ 1
one_at_most line st [] = omega arith
one_at_most line st (t ∷ ts) = by (bytes_eq t line) where
  by : (b : Bool) → length {A = Due} (cond b (record { lines = ts; state = st } ∷ []) []) ≤ 1
  by true = omega arith
  by false = omega arith

-- of two ways that have one line each, one has ended
one_left : (a m : Bool) (first last : List Due) → length first ≤ 1 → length last ≤ 1 → (first ≡ []) ⊎ (last ≡ []) → length (keep a first ++ keep m last) ≤ 1
one_left a m first last f l (inl e) = subst (λ ds. length (keep a ds ++ keep m last) ≤ 1) (sym e) (by a m) where
  by : (x y : Bool) → length (keep x [] ++ keep y last) ≤ 1
  by true true = l
  by true false = omega arith
  by false true = l
  by false false = omega arith
one_left a m first last f l (inr e) = subst (λ ds. length (keep a first ++ keep m ds) ≤ 1) (sym e) (by a m) where
  by : (x y : Bool) → length (keep x first ++ keep y []) ≤ 1
  by true true = subst (λ (ds : List Due). length ds ≤ 1) (sym (append-nil first)) f
  by true false = subst (λ (ds : List Due). length ds ≤ 1) (sym (append-nil first)) f
  by false true = omega arith
  by false false = omega arith

-- where a line is that of one way, the other way has ended
ways_apart : (text : List ℕ) (st old : State) (n : ℕ) → n < 2 ^ 64 → IsApart text n → (line : List ℕ)
    → length (flat_map (behind_told line) (both_ways text st n old)) ≤ 1
ways_apart text st old n small apart line =
    subst (λ (ds : List Due). length ds ≤ 1) (sym (two (behind_told line) (due_of text st) (due_of (memory_text (Some n)) old)))
    (one_left (can_come (due_of text st)) (can_come (due_of (memory_text (Some n)) old)) (next_told line st (recorded_lines text)) (next_told line old (recorded_lines (memory_text (Some n))))
    (one_at_most line st (recorded_lines text)) (one_at_most line old (recorded_lines (memory_text (Some n)))) (by (bytes_eq (recorded_line (memory_line n)) line) refl))
  where
    by : (b : Bool) → bytes_eq (recorded_line (memory_line n)) line ≡ b
        → (next_told line st (recorded_lines text) ≡ []) ⊎ (next_told line old (recorded_lines (memory_text (Some n))) ≡ [])
    by true e =
        inl (subst (λ l. next_told l st (recorded_lines text) ≡ []) (bytes_are (recorded_line (memory_line n)) line e) (next_not text (memory_line n) st apart))
    by false e =
        inr (ap (λ (ls : List (List ℕ)). next_told line old (map recorded_line ls)) (memory_lines n small) ∙ rw e refl)

lone : (line : List ℕ) (d : Due) → length (flat_map (behind_told line) (filter can_come (d ∷ []))) ≤ 1
lone line d = by (can_come d) where
  by : (b : Bool) → length (flat_map (behind_told line) (cond b (d ∷ []) [])) ≤ 1
  by true = subst (λ (ds : List Due). length ds ≤ 1) (sym (append-nil (behind_told line d))) (one_at_most line d.state d.lines)
  by false = omega arith

-- no line of a session is told it
pub never_told : MemoryIsNeverTold → (read : Reader) → ((line : List ℕ) → lacks_memory (read line) ≡ false)
    → (st : State) (n : ℕ) (request : List ℕ) → reads_memory (outcome_of read st n request).reply ≡ false
never_told never read spared st n request = by (session_of st n).is_open where
  by : (b : Bool) → reads_memory (cond b (ask read st.log (session_of st n) request) (refuses (session_of st n) fault.NoSession)).reply ≡ false
  by true = never read spared st.log (session_of st n) request
  by false = refl

pub ways_are_part : MemoryIsNeverTold → WaysArePart
ways_are_part never read spared st opens line small =
    subst (λ (all : List Due). length (flat_map (behind_told line) all) ≤ 1) (sym (dues_opens read st))
    (ways_apart (reply_text (Some (length st.sessions + 1)) reply.Opened) (next read st opens) st 0 (omega arith)
    (λ more. opened_apart (length st.sessions + 1) more (omega arith) small) line)
ways_are_part never read spared st (asks n request) line small =
    subst (λ (all : List Due). length (flat_map (behind_told line) all) ≤ 1) (sym (dues_asks read st n request))
    (ways_apart (reply_text (Some n) (outcome_of read st n request).reply) (next read st (asks n request)) st n small
    (λ more. memory_apart n (outcome_of read st n request).reply more (never_told never read spared st n request)) line)
ways_are_part never read spared st (refused n) line small = lone line (due_after read st (refused n ∷ []))
ways_are_part never read spared st long line small = lone line (due_after read st (long ∷ []))
ways_are_part never read spared st stray line small = lone line (due_after read st (stray ∷ []))
ways_are_part never read spared st (leaves n) line small = lone line (due_after read st (leaves n ∷ []))
