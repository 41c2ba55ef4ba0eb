-- The statements of a line, with a semicolon between each two, are the line from a place on.
use Rattle.std.proofs.Common.{◌≡◌, ◌⊎◌, ℕ, ◌+◌, ◌-◌, ◌<◌, ◌≤◌, Bool, true, false, List, [], ◌∷◌, ◌++◌, length, take, drop, refl, sym, ap, subst, suc, ◌∙◌, arith, cond, ◌&&◌, Some, None, Option, inl, inr, drop-cons}
use Rattle.std.specs.Prelude.{◌==◌, slice_index, slice_range}
use Rattle.std.specs.List.{list_all}
use Rattle.std.proofs.lemmas.Bool.{false≢true, eqb-true}
use Rattle.std.proofs.lemmas.List.{append_assoc, drop-drop, take-append-drop}
use Rattle.std.specs.Char.{is_ascii_digit}
use Rattle.ifdb_lex.specs.declared.token.Token.{Token}
use Rattle.ifdb_lex.specs.declared.token.TokenKind.{TokenKind}
use Rattle.ifdb_lex.specs.declared.token.TokenKind.TheVariants as kind
use Rattle.ifdb_lex.specs.Front.{Piece, begins_word, word, number, closing, closed, quoted, is_symbol, symbol, front}
use Rattle.ifdb_lex.specs.Line.{IsLaidOut, is_blank}
use Rattle.ifdb_closure.specs.Forms.{is_semicolon, last_statement, statements_from}
use Rattle.ifdb_closure.specs.Grammar.{joined, AreJoined, StatementsAreJoined}

-- ---- a token that is a semicolon is one byte, 59

-- a piece that is a symbol of one byte is that byte
abbrev IsOneByte : ℕ → Option Piece → Type 0
IsOneByte first None = Unit {0}
IsOneByte first (Some (kind.Symbol b, n)) = (first ≡ b) × (n ≡ 1)
IsOneByte first (Some _) = Unit {0}

closed_byte : (first : ℕ) (o : Option ℕ) → IsOneByte first (closed o)
closed_byte first None = tt
closed_byte first (Some n) = tt

pick_byte : (first : ℕ) (b : Bool) (x y : Option Piece) → IsOneByte first x → IsOneByte first y → IsOneByte first (cond b x y)
pick_byte first true x y h k = h
pick_byte first false x y h k = k

symbol_byte : (first second : ℕ) → IsOneByte first (symbol first second)
symbol_byte first second =
    pick_byte first ((first == 60) && (second == 62)) (Some (kind.NotEqual, 2)) _ tt
    (pick_byte first ((first == 33) && (second == 61)) (Some (kind.NotEqual, 2)) _ tt
    (pick_byte first ((first == 60) && (second == 61)) (Some (kind.AtMost, 2)) _ tt
    (pick_byte first ((first == 62) && (second == 61)) (Some (kind.AtLeast, 2)) _ tt
    (pick_byte first (is_symbol first) (Some (kind.Symbol first, 1)) None (refl, refl) tt))))

front_byte : (text : List ℕ) → IsOneByte (slice_index text 0) (front text)
front_byte text =
    let first = slice_index text 0 in
    pick_byte first (begins_word first) (Some (word text)) _ tt
    (pick_byte first (is_ascii_digit first) (Some (number text)) _ tt
    (pick_byte first (first == 39) (quoted text) (symbol first (slice_index text 1)) (closed_byte first (closing 1 (drop 1 text))) (symbol_byte first (slice_index text 1))))

semicolon_so : (k : TokenKind) → is_semicolon k ≡ true → k ≡ kind.Symbol 59
semicolon_so (kind.Symbol b) e = ap kind.Symbol (eqb-true b 59 e)
semicolon_so _ e = absurd (false≢true e)

one_byte : (text : List ℕ) (k : TokenKind) (n : ℕ) → front text ≡ Some (k, n) → is_semicolon k ≡ true → (slice_index text 0 ≡ 59) × (n ≡ 1)
one_byte text k n e s =
    let whole : front text ≡ Some (kind.Symbol 59, n) = e ∙ ap (λ x. Some (x, n)) (semicolon_so k s) in
    subst (IsOneByte (slice_index text 0)) whole (front_byte text)

-- ---- the bytes

-- a line from a place on: up to a semicolon, the semicolon, and what follows
split_at : (line : List ℕ) (at start : ℕ) → at ≤ start → start < length line → slice_index (drop start line) 0 ≡ 59
    → drop at line ≡ slice_range line at start ++ 59 ∷ drop (start + 1) line
split_at line at start le lt byte =
    let n = start - at in
    let there : drop n (drop at line) ≡ drop start line = drop-drop n at line ∙ ap (λ k. drop k line) (omega (arith, le)) in
    let first = drop-cons line start 0 lt in
    let is_59 : drop start line ≡ 59 ∷ drop (start + 1) line =
    first ∙ (λ i. (ap (λ l. slice_index l 0) (sym first) ∙ byte) i ∷ drop (next i) line) in
    sym (take-append-drop n (drop at line)) ∙ ap (λ l. slice_range line at start ++ l) (there ∙ is_59) where
      next : suc start ≡ start + 1
      next = omega arith

-- ---- the statements

-- what stands behind a semicolon: blanks and no statement, or statements
abbrev Behind : List ℕ → List (List ℕ) → Type 0
Behind bytes [] = list_all is_blank bytes ≡ true
Behind bytes (text ∷ texts) = AreJoined bytes (text ∷ texts)

one_more : (s bytes rest : List ℕ) (texts : List (List ℕ)) → bytes ≡ s ++ 59 ∷ rest → Behind rest texts → AreJoined bytes (s ∷ texts)
one_more s bytes rest [] e h = inr (rest, h, e)
one_more s bytes rest (text ∷ texts) e (inl h) = inl (e ∙ ap (λ l. s ++ 59 ∷ l) h)
one_more s bytes rest (text ∷ texts) e (inr h) = inr (h.0, h.1, e ∙ ap (λ l. s ++ 59 ∷ l) h.2 ∙ sym (append_assoc s (59 ∷ joined (text ∷ texts)) (59 ∷ h.0)))

behind_last : (bytes : List ℕ) → Behind bytes (last_statement true bytes)
behind_last bytes = by (list_all is_blank bytes) refl where
  by : (b : Bool) → list_all is_blank bytes ≡ b → Behind bytes (cond b [] (bytes ∷ []))
  by true e = e
  by false e = inl refl

to_behind : (bytes s : List ℕ) (texts : List (List ℕ)) → AreJoined bytes (s ∷ texts) → Behind bytes (s ∷ texts)
to_behind bytes s texts h = h

module _ (line : List ℕ) where
  step_joined : (at : ℕ) (token : Token) → at ≤ token.start → token.start < token.end → token.end ≤ length line
      → front (drop token.start line) ≡ Some (token.kind, token.end - token.start) → is_semicolon token.kind ≡ true
      → drop at line ≡ slice_range line at token.start ++ 59 ∷ drop token.end line
  step_joined at token le some within e s =
      let one = one_byte (drop token.start line) token.kind (token.end - token.start) e s in
      split_at line at token.start le (omega (arith, some, within)) one.0
      ∙ ap (λ k. slice_range line at token.start ++ 59 ∷ drop k line) (omega (arith, one.1, some))

  -- behind a semicolon
  behind_joined : (at from : ℕ) (tokens : List Token) → at ≤ from → IsLaidOut line from tokens → Behind (drop at line) (statements_from line true at tokens)
  behind_joined at from [] le laid = behind_last (drop at line)
  behind_joined at from (token ∷ tokens) le laid =
      let reach : at ≤ token.start = omega (arith, le, laid.0) in
      by (is_semicolon token.kind) refl (behind_joined token.end token.end tokens (omega arith) laid.5) (behind_joined at token.end tokens (omega (arith, reach, laid.1)) laid.5) where
        by : (b : Bool) → is_semicolon token.kind ≡ b → Behind (drop token.end line) (statements_from line true token.end tokens) → Behind (drop at line) (statements_from line true at tokens)
            → Behind (drop at line) (cond b (slice_range line at token.start ∷ statements_from line true token.end tokens) (statements_from line true at tokens))
        by true s rest same =
            to_behind (drop at line) (slice_range line at token.start) (statements_from line true token.end tokens)
            (one_more (slice_range line at token.start) (drop at line) (drop token.end line) (statements_from line true token.end tokens)
            (step_joined at token (omega (arith, le, laid.0)) laid.1 laid.2 laid.4 s) rest)
        by false s rest same = same

  -- at first
  first_joined : (at from : ℕ) (tokens : List Token) → at ≤ from → IsLaidOut line from tokens → AreJoined (drop at line) (statements_from line false at tokens)
  first_joined at from [] le laid = inl refl
  first_joined at from (token ∷ tokens) le laid =
      by (is_semicolon token.kind) refl (first_joined at token.end tokens (omega (arith, le, laid.0, laid.1)) laid.5) where
        by : (b : Bool) → is_semicolon token.kind ≡ b → AreJoined (drop at line) (statements_from line false at tokens)
            → AreJoined (drop at line) (cond b (slice_range line at token.start ∷ statements_from line true token.end tokens) (statements_from line false at tokens))
        by true s same =
            one_more (slice_range line at token.start) (drop at line) (drop token.end line) (statements_from line true token.end tokens)
            (step_joined at token (omega (arith, le, laid.0)) laid.1 laid.2 laid.4 s) (behind_joined token.end token.end tokens (omega arith) laid.5)
        by false s same = same

pub statements_are_joined : StatementsAreJoined
statements_are_joined line at tokens within laid = first_joined line at at tokens (omega arith) laid
