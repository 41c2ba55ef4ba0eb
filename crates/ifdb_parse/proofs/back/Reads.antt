-- The canonical text of sound lexemes reads as these lexemes.
use Rattle.std.proofs.Common.{◌≡◌, ℕ, ◌+◌, ◌-◌, ◌<◌, true, List, [], ◌∷◌, ◌++◌, length, take, drop, slice_index, slice_range, Result, Ok, Err, refl, sym, ap, ◌∙◌, length-append, arith}
use Rattle.std.specs.Prelude.{◌⊎◌}
use Rattle.std.proofs.Common.{inl, inr}
use Rattle.std.proofs.Math.Seq.{take-append_seam, drop-append_seam}
use Rattle.std.proofs.lemmas.List.{drop-drop, get_or-drop, length-drop}
use Rattle.ifdb_lex.specs.declared.token.Token.{Token}
use Rattle.ifdb_lex.specs.Front.{front}
use Rattle.ifdb_lex.specs.Line.{is_blank, token_at, ahead, tokens_from}
use Rattle.ifdb_lex.proofs.LineLemmas.{token_goes}
use Rattle.ifdb_syntax.specs.declared.lexeme.Lexeme.{Lexeme}
use Rattle.ifdb_syntax.specs.declared.lexeme.Lexeme.TheVariants as t
use Rattle.ifdb_syntax.specs.declared.edge.Edge.{Edge}
use Rattle.ifdb_syntax.specs.declared.edge.Edge.TheVariants as edge
use Rattle.ifdb_syntax.specs.Words.{Lexemes}
use Rattle.ifdb_syntax.specs.Spelling.{spelling}
use Rattle.ifdb_syntax.specs.canonical.Text.{edge_after, space_before, gap, text_behind, spaced}
use Rattle.ifdb_parse.specs.Lexemes.{lexeme_of, lexemes_of}
use Rattle.ifdb_parse.proofs.back.Lighter.{Sound, AllSound}
use Rattle.ifdb_parse.proofs.back.Fronts.{token_kind, is_end, Follows, stands, says}

-- ---- what stands behind a lexeme

ends_wide : (s : Lexemes) → is_end (slice_index (text_behind edge.Wide s) 0) ≡ true
ends_wide [] = refl
ends_wide (t.Close ∷ s) = refl
ends_wide (t.Comma ∷ s) = refl
ends_wide (t.Dot ∷ s) = refl
ends_wide (_ ∷ s) = refl

ends_operand : (s : Lexemes) → is_end (slice_index (text_behind edge.Operand s) 0) ≡ true
ends_operand [] = refl
ends_operand (t.Close ∷ s) = refl
ends_operand (t.Comma ∷ s) = refl
ends_operand (t.Dot ∷ s) = refl
ends_operand (_ ∷ s) = refl

ends_call : (s : Lexemes) → is_end (slice_index (text_behind edge.Call s) 0) ≡ true
ends_call [] = refl
ends_call (t.Open ∷ s) = refl
ends_call (t.Close ∷ s) = refl
ends_call (t.Comma ∷ s) = refl
ends_call (t.Dot ∷ s) = refl
ends_call (_ ∷ s) = refl

following : (before : Edge) (x : Lexeme) (s : Lexemes) → Follows x (text_behind (edge_after before x) s)
following before t.Open s = tt
following before t.Dot s = tt
following before t.Minus s = tt
following before t.Close s = ends_operand s
following before (t.Name n) s = ends_operand s
following before (t.Number n) s = ends_operand s
following before (t.Quoted w) s = ends_operand s
following before t.Null s = ends_operand s
following before t.Count s = ends_call s
following before t.Sum s = ends_call s
following before t.Min s = ends_call s
following before t.Max s = ends_call s
following before _ s = ends_wide s

space_cases : (x : Lexeme) → (space_before x ≡ []) ⊎ (space_before x ≡ 32 ∷ [])
space_cases t.Close = inl refl
space_cases t.Comma = inl refl
space_cases t.Dot = inl refl
space_cases _ = inr refl

call_cases : (x : Lexeme) → (gap edge.Call x ≡ []) ⊎ (gap edge.Call x ≡ 32 ∷ [])
call_cases t.Open = inl refl
call_cases t.Close = inl refl
call_cases t.Comma = inl refl
call_cases t.Dot = inl refl
call_cases _ = inr refl

pub gap_cases : (before : Edge) (x : Lexeme) → (gap before x ≡ []) ⊎ (gap before x ≡ 32 ∷ [])
gap_cases edge.Tight x = inl refl
gap_cases edge.Call x = call_cases x
gap_cases edge.Operand x = space_cases x
gap_cases edge.Wide x = space_cases x

-- ---- tokens that stand for lexemes

pub record StandsFor (line : List ℕ) (token : Token) (x : Lexeme) : Type 0 where
  pub kind_is : token.kind ≡ token_kind x
  pub text_is : slice_range line token.start token.end ≡ spelling x
  pub len_is : token.end - token.start ≡ length (spelling x)
  pub says_is : lexeme_of line token ≡ x

abbrev pub AllStandFor : List ℕ → List Token → Lexemes → Type 0
AllStandFor line [] [] = Unit {0}
AllStandFor line (token ∷ tokens) (x ∷ s) = StandsFor line token x × AllStandFor line tokens s
AllStandFor line _ _ = ⊥

-- from a place on, a line reads as these lexemes
pub record ReadsAs (line : List ℕ) (at : ℕ) (s : Lexemes) : Type 0 where
  pub tokens : List Token
  pub read : tokens_from at 0 (drop at line) ≡ Ok tokens
  pub stand : AllStandFor line tokens s

ahead_none : (r : Result (List Token) ℕ) → ahead [] r ≡ r
ahead_none (Ok ts) = refl
ahead_none (Err at) = refl

-- one lexeme, and what is behind it
reads_lexeme : (x : Lexeme) (s : Lexemes) (line rest : List ℕ) (at : ℕ) → Sound x → Follows x rest → drop at line ≡ spelling x ++ rest →
    (drop (at + length (spelling x)) line ≡ rest → ReadsAs line (at + length (spelling x)) s) → ReadsAs line at (x ∷ s)
reads_lexeme x s line rest at sound follows is more =
    let len = length (spelling x) in
    let st = stands x sound rest follows in
    let size : length (drop at line) ≡ length line - at = length-drop at line in
    let size' : length (drop at line) ≡ len + length rest = ap length is ∙ length-append (spelling x) rest in
    let inside : at < length line = omega (arith, st.some) in
    let at_zero : at + 0 ≡ at = omega arith in
    let first : slice_index line at ≡ slice_index (spelling x ++ rest) 0 =
    ap (λ n. slice_index line n) (sym at_zero) ∙ (sym (get_or-drop at line 0 0) ∙ ap (λ (z : List ℕ). slice_index z 0) is) in
    let next : drop (at + len) line ≡ rest = sym (drop-drop len at line) ∙ (ap (drop len) is ∙ drop-append_seam (spelling x) rest) in
    let r = more next in
    let goes = token_goes [] line at (token_kind x) len inside (ap is_blank first ∙ st.first) (ap front is ∙ st.front_is) st.some in
    let all : tokens_from at 0 (drop at line) ≡ Ok (token_at at (token_kind x, len) ∷ r.tokens) =
    sym (ahead_none (tokens_from at 0 (drop at line))) ∙ (sym goes ∙ ap (ahead (token_at at (token_kind x, len) ∷ [])) r.read) in
    let width : at + len - at ≡ len = omega arith in
    let text : slice_range line at (at + len) ≡ spelling x = ap (λ n. take n (drop at line)) width ∙ (ap (take len) is ∙ take-append_seam (spelling x) rest) in
    record {
      tokens = token_at at (token_kind x, len) ∷ r.tokens;
      read = all;
      stand = (record { kind_is = refl; text_is = text; len_is = width; says_is = says x sound line at text }, r.stand);
    }

-- behind a space
reads_space : (line rest : List ℕ) (at : ℕ) (s : Lexemes) → drop at line ≡ 32 ∷ rest → (drop (at + 1) line ≡ rest → ReadsAs line (at + 1) s) → ReadsAs line at s
reads_space line rest at s is more =
    let next : drop (at + 1) line ≡ rest = sym (drop-drop 1 at line) ∙ ap (drop 1) is in
    let r = more next in
    record {
      tokens = r.tokens;
      read = ap (tokens_from at 0) is ∙ (ap (tokens_from (at + 1) 0) (sym next) ∙ r.read);
      stand = r.stand;
    }

reads_behind : (s : Lexemes) (before : Edge) (line : List ℕ) (at : ℕ) → AllSound s → drop at line ≡ text_behind before s → ReadsAs line at s
reads_behind [] before line at sound is = record { tokens = []; read = ap (tokens_from at 0) is; stand = tt }
reads_behind (x ∷ s) before line at sound is =
    let rest = text_behind (edge_after before x) s in
    let lexeme : (a : ℕ) → drop a line ≡ spelling x ++ rest → ReadsAs line a (x ∷ s) =
    λ a e. reads_lexeme x s line rest a sound.0 (following before x s) e
    (λ next. reads_behind s (edge_after before x) line (a + length (spelling x)) sound.1 next) in
    elim (gap_cases before x) [
      | inl none ↦ lexeme at (is ∙ ap (λ (z : List ℕ). (z ++ spelling x) ++ rest) none)
      | inr space ↦ reads_space line (spelling x ++ rest) at (x ∷ s) (is ∙ ap (λ (z : List ℕ). (z ++ spelling x) ++ rest) space) (λ next. lexeme (at + 1) next)
    ]

-- the canonical text of sound lexemes reads as them
pub reads_spaced : (s : Lexemes) → AllSound s → ReadsAs (spaced s) 0 s
reads_spaced s sound = reads_behind s edge.Tight (spaced s) 0 sound refl

pub lexemes_read : (line : List ℕ) (tokens : List Token) (s : Lexemes) → AllStandFor line tokens s → lexemes_of line tokens ≡ s
lexemes_read line [] [] h = refl
lexemes_read line [] (x ∷ s) h = absurd h
lexemes_read line (token ∷ tokens) [] h = absurd h
lexemes_read line (token ∷ tokens) (x ∷ s) h = ap (λ (z : Lexeme). z ∷ lexemes_of line tokens) h.0.says_is
    ∙ ap (λ (z : Lexemes). x ∷ z) (lexemes_read line tokens s h.1)
