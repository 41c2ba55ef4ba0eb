-- The tokens of a line are laid out in it.
use Rattle.std.proofs.Common.{◌≡◌, ℕ, zero, suc, ◌+◌, ◌-◌, ◌<◌, ◌≤◌, Bool, true, false, if◌then◌else◌, List, [], ◌∷◌, length, take, drop, slice_index, slice_range, get_or, Option, Some, None, Result, Ok, Err, refl, sym, ◌∙◌, ap, subst, arith, add-one}
use Rattle.std.proofs.Math.Seq.{drop-cons}
use Rattle.std.proofs.lemmas.List.{length-drop, drop-drop, get_or-drop}
use Rattle.std.proofs.lemmas.List.Folds.{drop_split, list_all-append, list_all_more}
use Rattle.std.specs.List.{list_all}
use Rattle.ifdb_lex.specs.declared.token.Token.{Token}
use Rattle.ifdb_lex.specs.Front.{Piece, front}
use Rattle.ifdb_lex.specs.Line.{is_blank, token_at, before, first_and, tokens_from, tokens_of, IsLaidOut}
use Rattle.ifdb_lex.specs.Limits.{IsWithin, AreWithin}
use Rattle.ifdb_lex.proofs.FrontLaws.{front_fits}

abbrev Blank : List ℕ → ℕ → ℕ → Type 0
Blank line from at = (from ≤ at) × (list_all is_blank (slice_range line from at) ≡ true)

-- Place `at` lies behind place `from`, with blanks between; or so many bytes from `at` on belong to the token that ends
-- at `from`.
abbrev Reaches : List ℕ → ℕ → ℕ → ℕ → Type 0
Reaches line from at zero = Blank line from at
Reaches line from at (suc taken) = from ≡ at + suc taken

no_blank : (line : List ℕ) (at : ℕ) → Blank line at at
no_blank line at =
    let none : at - at ≡ 0 = omega arith in
    (omega arith, rw none refl)

reaches_start : (line : List ℕ) (at taken : ℕ) → Reaches line (at + taken) at taken
reaches_start line at zero = let P : ℕ → Type 0 = λ from. Blank line from at in subst P (omega arith) (no_blank line at)
reaches_start line at (suc taken) = refl

reaches_next : (line : List ℕ) (from at taken : ℕ) → from ≡ at + suc taken → Reaches line from (at + 1) taken
reaches_next line from at taken is =
    let P : ℕ → Type 0 = λ n. Reaches line n (at + 1) taken in
    let e : at + 1 + taken ≡ from = omega arith in
    subst P e (reaches_start line (at + 1) taken)

-- what lies at place `at`
at_place : (line : List ℕ) (at b : ℕ) (text : List ℕ) → drop at line ≡ b ∷ text →
    (at < length line) × (slice_index line at ≡ b) × (drop (at + 1) line ≡ text)
at_place line at b text is =
    let size : length (drop at line) ≡ length line - at = length-drop at line in
    let one : length (drop at line) ≡ length (b ∷ text) = ap length is in
    let h : at < length line = omega arith in
    let here : drop at line ≡ slice_index line at ∷ drop (suc at) line = drop-cons line at 0 h in
    let same : slice_index line at ∷ drop (suc at) line ≡ b ∷ text = sym here ∙ is in
    let next : drop (at + 1) line ≡ drop (suc at) line = ap (λ n. drop n line) (add-one at) in
    (h, cc, cc)

blank_more : (line : List ℕ) (from at b : ℕ) (text : List ℕ) → Blank line from at → drop at line ≡ b ∷ text → is_blank b ≡ true →
    Blank line from (at + 1)
blank_more line from at b text blank is more =
    let place : (at < length line) × (slice_index line at ≡ b) × (drop (at + 1) line ≡ text) = at_place line at b text is in
    let size : length (drop from line) ≡ length line - from = length-drop from line in
    let inside : at - from < length (drop from line) = omega arith in
    let next : at + 1 - from ≡ at - from + 1 = omega arith in
    let back : from + (at - from) ≡ at = omega arith in
    let there : get_or (drop from line) (at - from) 0 ≡ slice_index line at =
    get_or-drop from line (at - from) 0 ∙ ap (slice_index line) back in (
      omega arith,
      ap (λ n. list_all is_blank (take n (drop from line))) next
          ∙ (list_all_more is_blank (drop from line) (at - from) 0 inside ∙ rw (blank.1, there, place.1) more),
    )

blank_end : (line : List ℕ) (from at : ℕ) → Blank line from at → drop at line ≡ [] → list_all is_blank (drop from line) ≡ true
blank_end line from at blank end =
    ap (list_all is_blank) (drop_split line from at blank.0)
    ∙ (list_all-append is_blank (slice_range line from at) (drop at line) ∙ rw (blank.1, end) refl)

drop_nil : (n : ℕ) → drop {A = ℕ} n [] ≡ []
drop_nil zero = refl
drop_nil (suc n) = refl

-- at the end there are no more bytes
laid_end : (line : List ℕ) (from at taken : ℕ) → drop at line ≡ [] → Reaches line from at taken → list_all is_blank (drop from line) ≡ true
laid_end line from at zero end reaches = blank_end line from at reaches end
laid_end line from at (suc taken) end reaches =
    let past : drop (at + suc taken) line ≡ [] = sym (drop-drop (suc taken) at line) ∙ (ap (drop (suc taken)) end ∙ drop_nil (suc taken)) in
    rw (reaches, past) refl

before_ok : (token : Token) (rest : Result (List Token) ℕ) (tokens : List Token) → before token rest ≡ Ok tokens →
    (more : List Token) × (rest ≡ Ok more) × (token ∷ more ≡ tokens)
before_ok token (Ok more) tokens e = (more, refl, cc)
before_ok token (Err at) tokens e = absurd (cc)

Laid : List ℕ → List ℕ → Type 0
Laid line text = (from at taken : ℕ) (tokens : List Token) → drop at line ≡ text → Reaches line from at taken →
    tokens_from at taken text ≡ Ok tokens → IsLaidOut line from tokens

-- a token, and those behind it
laid_token : (line : List ℕ) (from at b : ℕ) (text : List ℕ) (tokens : List Token) (o : Option Piece) → Laid line text →
    drop at line ≡ b ∷ text → Blank line from at → front (b ∷ text) ≡ o →
    first_and at o (λ len. tokens_from (at + 1) (len - 1) text) ≡ Ok tokens → IsLaidOut line from tokens
unfolding Laid
laid_token line from at b text tokens None ih is blank found e = absurd (cc)
laid_token line from at b text tokens (Some piece) ih is blank found e =
    let place : (at < length line) × (slice_index line at ≡ b) × (drop (at + 1) line ≡ text) = at_place line at b text is in
    let fits : (0 < piece.1) × (piece.1 ≤ length (b ∷ text)) = front_fits (b ∷ text) piece (omega arith) found in
    let size : length (drop at line) ≡ length line - at = length-drop at line in
    let one : length (drop at line) ≡ length (b ∷ text) = ap length is in
    let len : at + piece.1 ≡ at + 1 + (piece.1 - 1) = omega arith in
    let last : at + piece.1 - at ≡ piece.1 = omega arith in
    let token : Token = token_at at piece in
    let rest : (more : List Token) × (tokens_from (at + 1) (piece.1 - 1) text ≡ Ok more) × (token ∷ more ≡ tokens) =
    before_ok token (tokens_from (at + 1) (piece.1 - 1) text) tokens e in
    let R : ℕ → Type 0 = λ n. Reaches line n (at + 1) (piece.1 - 1) in
    let reaches : R (at + piece.1) = subst R (sym len) (reaches_start line (at + 1) (piece.1 - 1)) in
    let laid : IsLaidOut line (at + piece.1) rest.0 = ih (at + piece.1) (at + 1) (piece.1 - 1) rest.0 place.2 reaches rest.1 in
    let begins : front (drop at line) ≡ Some (piece.0, at + piece.1 - at) = ap front is ∙ rw last found in
    let P : List Token → Type 0 = λ ts. IsLaidOut line from ts in
    subst P rest.2 (blank.0, omega arith, omega arith, blank.1, begins, laid)

laid_blank_or : (line : List ℕ) (from at b : ℕ) (text : List ℕ) (tokens : List Token) (test : Bool) → is_blank b ≡ test → Laid line text →
    drop at line ≡ b ∷ text → Blank line from at →
    (if test then tokens_from (at + 1) 0 text else first_and at (front (b ∷ text)) (λ len. tokens_from (at + 1) (len - 1) text)) ≡ Ok tokens →
    IsLaidOut line from tokens
unfolding Laid
laid_blank_or line from at b text tokens true test ih is blank e =
    let place : (at < length line) × (slice_index line at ≡ b) × (drop (at + 1) line ≡ text) = at_place line at b text is in
    ih from (at + 1) 0 tokens place.2 (blank_more line from at b text blank is test) e
laid_blank_or line from at b text tokens false test ih is blank e =
    laid_token line from at b text tokens (front (b ∷ text)) ih is blank refl e

laid_byte : (line : List ℕ) (b : ℕ) (text : List ℕ) → Laid line text → (from at taken : ℕ) (tokens : List Token) →
    drop at line ≡ b ∷ text → Reaches line from at taken → tokens_from at taken (b ∷ text) ≡ Ok tokens → IsLaidOut line from tokens
unfolding Laid
laid_byte line b text ih from at zero tokens is reaches e = laid_blank_or line from at b text tokens (is_blank b) refl ih is reaches e
laid_byte line b text ih from at (suc taken) tokens is reaches e =
    ih from (at + 1) taken tokens (at_place line at b text is).2 (reaches_next line from at taken reaches) e

laid : (line text : List ℕ) → Laid line text
unfolding Laid
laid line [] = λ from at taken tokens is reaches e.
    let P : List Token → Type 0 = λ ts. IsLaidOut line from ts in
    let none : [] ≡ tokens = cc in
    subst P none (laid_end line from at taken is reaches)
laid line (b ∷ text) = laid_byte line b text (laid line text)

pub tokens_laid_out : (line : List ℕ) (tokens : List Token) → tokens_of line ≡ Ok tokens → IsLaidOut line 0 tokens
unfolding Laid
tokens_laid_out line tokens e = laid line line 0 0 0 tokens refl (no_blank line 0) e

within : (line : List ℕ) (at : ℕ) (tokens : List Token) → IsLaidOut line at tokens →
    (k : ℕ) (other : Token) → k < length tokens → IsWithin line (get_or tokens k other)
within line at [] h k other inside = absurd (omega arith)
within line at (token ∷ tokens) h zero other inside = (omega (arith, h.1), h.2)
within line at (token ∷ tokens) h (suc k) other inside = within line token.end tokens h.5 k other (omega arith)

pub tokens_within : (line : List ℕ) (tokens : List Token) → tokens_of line ≡ Ok tokens → AreWithin line tokens
tokens_within line tokens e = λ k other inside. within line 0 tokens (tokens_laid_out line tokens e) k other inside
