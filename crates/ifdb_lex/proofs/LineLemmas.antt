-- What the loop over a line's tokens needs.
use Rattle.std.proofs.Common.{◌≡◌, ℕ, zero, suc, ◌+◌, ◌-◌, ◌<◌, false, List, [], ◌∷◌, ◌++◌, length, drop, slice_index, Some, Result, Ok, Err, refl, sym, ◌∙◌, ap, arith, append_assoc}
use Rattle.std.proofs.Math.Seq.{drop-cons}
use Rattle.std.proofs.lemmas.List.{drop-drop}
use Rattle.std.specs.Str.{IsUtf8}
use Rattle.std.specs.Str.Lossy.{utf8_valid_len}
use Rattle.std.proofs.lemmas.Str.{utf8_valid_len-IsUtf8}
use Rattle.ifdb_lex.specs.declared.token.Token.{Token}
use Rattle.ifdb_lex.specs.declared.token.TokenKind.{TokenKind}
use Rattle.ifdb_lex.specs.Front.{front}
use Rattle.ifdb_lex.specs.Line.{is_blank, token_at, before, ahead, tokens_from}

-- a text is UTF-8 as a whole
pub valid_text : (text : List ℕ) → IsUtf8 text → utf8_valid_len text ≡ length text
valid_text text valid = utf8_valid_len-IsUtf8 text valid

-- bytes of a token that was read
tokens_skip : (at taken : ℕ) (text : List ℕ) → tokens_from at taken text ≡ tokens_from (at + taken) 0 (drop taken text)
tokens_skip at zero text = ap (λ n. tokens_from n 0 text) (omega arith)
tokens_skip at (suc taken) [] = refl
tokens_skip at (suc taken) (b ∷ text) = tokens_skip (at + 1) taken text ∙ ap (λ n. tokens_from n 0 (drop taken text)) (omega arith)

ahead_before : (tokens : List Token) (token : Token) (rest : Result (List Token) ℕ) →
    ahead (tokens ++ token ∷ []) rest ≡ ahead tokens (before token rest)
ahead_before tokens token (Ok more) = ap (λ (ts : List Token). Ok ts) (append_assoc tokens (token ∷ []) more)
ahead_before tokens token (Err at) = refl

-- behind a token
behind_token : (at b : ℕ) (text : List ℕ) (k : TokenKind) (len : ℕ) → is_blank b ≡ false → front (b ∷ text) ≡ Some (k, len) → 0 < len →
    tokens_from at 0 (b ∷ text) ≡ before (token_at at (k, len)) (tokens_from (at + len) 0 (drop len (b ∷ text)))
behind_token at b text k zero other is some = absurd (omega arith)
behind_token at b text k (suc len) other is some =
    let rest : suc len - 1 ≡ len = omega arith in
    let place : at + 1 + len ≡ at + suc len = omega arith in
    rw (other, is)
    (ap (λ n. before (token_at at (k, suc len)) (tokens_from (at + 1) n text)) rest
    ∙ (ap (λ r. before (token_at at (k, suc len)) r) (tokens_skip (at + 1) len text)
    ∙ ap (λ n. before (token_at at (k, suc len)) (tokens_from n 0 (drop len text))) place))

pub token_goes : (tokens : List Token) (line : List ℕ) (at : ℕ) (k : TokenKind) (len : ℕ) → at < length line →
    is_blank (slice_index line at) ≡ false → front (drop at line) ≡ Some (k, len) → 0 < len →
    ahead (tokens ++ token_at at (k, len) ∷ []) (tokens_from (at + len) 0 (drop (at + len) line)) ≡ ahead tokens (tokens_from at 0 (drop at line))
token_goes tokens line at k len h other is some =
    let here : drop at line ≡ slice_index line at ∷ drop (suc at) line = drop-cons line at 0 h in
    let is' : front (slice_index line at ∷ drop (suc at) line) ≡ Some (k, len) = ap front (sym here) ∙ is in
    rw (ahead_before tokens (token_at at (k, len)) (tokens_from (at + len) 0 (drop (at + len) line)), ← drop-drop len at line, here)
    (ap (ahead tokens) (sym (behind_token at (slice_index line at) (drop (suc at) line) k len other is' some)))
