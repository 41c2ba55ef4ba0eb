-- How the statements of a line are parted, token by token.
use Rattle.std.proofs.Common.{◌≡◌, ℕ, ◌+◌, ◌<◌, ◌≤◌, true, false, List, [], ◌∷◌, ◌++◌, length, drop, get_or, sym, ap, subst, ◌∙◌, arith, cond}
use Rattle.std.specs.Prelude.{not, ◌==◌, slice_range}
use Rattle.std.proofs.lemmas.Bool.Decides.{nat_tests}
use Rattle.std.proofs.lemmas.List.{append_assoc, length-append}
use Rattle.ifdb_lex.specs.declared.token.Token.{Token}
use Rattle.ifdb_lex.specs.Line.{IsLaidOut}
use Rattle.ifdb_closure.specs.Forms.{is_semicolon, statements_from}
use Rattle.ifdb_closure.proofs.Named.{next_of}

-- the statements that ended so far, and those of the rest, are all; the next one begins before the place up to which tokens were looked at
pub record Parting (line : List ℕ) (at : ℕ) (tokens : List Token) (statements : List (List ℕ)) (from index : ℕ) : Type 0 where
  pub place : ℕ
  pub before : from ≤ place
  pub within : place ≤ length line
  pub laid : IsLaidOut line place (drop index tokens)
  pub parted : statements ++ statements_from line (not (length statements == 0)) from (drop index tokens) ≡ statements_from line false at tokens

-- a semicolon ends a statement
pub parting_ends : (line : List ℕ) (at : ℕ) (tokens : List Token) (statements : List (List ℕ)) (from i : ℕ) (d : Token) → Parting line at tokens statements from i → i < length tokens
    → is_semicolon (get_or tokens i d).kind ≡ true
    → Parting line at tokens (statements ++ slice_range line from (get_or tokens i d).start ∷ []) (get_or tokens i d).end (i + 1)
parting_ends line at tokens statements from i d p lt e =
    let t = get_or tokens i d in
    let rest = drop (i + 1) tokens in
    let x = slice_range line from t.start in
    let next = next_of tokens i d lt in
    let h : IsLaidOut line p.place (t ∷ rest) = subst (IsLaidOut line p.place) next p.laid in
    let behind : not (length (statements ++ x ∷ []) == 0) ≡ true = some statements x in
    record {
      place = t.end;
      before = omega arith;
      within = h.2;
      laid = h.5;
      parted =
          append_assoc statements (x ∷ []) (statements_from line (not (length (statements ++ x ∷ []) == 0)) t.end rest)
          ∙ ap (λ b. statements ++ x ∷ statements_from line b t.end rest) behind
          ∙ ap (λ b. statements ++ cond b (x ∷ statements_from line true t.end rest) (statements_from line (not (length statements == 0)) from rest)) (sym e)
          ∙ ap (λ ts. statements ++ statements_from line (not (length statements == 0)) from ts) (sym next)
          ∙ p.parted;
    } where
      some : (xs : List (List ℕ)) (x : List ℕ) → not (length (xs ++ x ∷ []) == 0) ≡ true
      some xs x = let size = length-append xs (x ∷ []) in grind (arith, nat_tests, size)

-- another token goes on with it
pub parting_goes : (line : List ℕ) (at : ℕ) (tokens : List Token) (statements : List (List ℕ)) (from i : ℕ) (d : Token) → Parting line at tokens statements from i → i < length tokens
    → is_semicolon (get_or tokens i d).kind ≡ false → Parting line at tokens statements from (i + 1)
parting_goes line at tokens statements from i d p lt e =
    let t = get_or tokens i d in
    let rest = drop (i + 1) tokens in
    let next = next_of tokens i d lt in
    let h : IsLaidOut line p.place (t ∷ rest) = subst (IsLaidOut line p.place) next p.laid in
    record {
      place = t.end;
      before = omega (arith, p.before, h.0, h.1);
      within = h.2;
      laid = h.5;
      parted =
          ap (λ b. statements ++ cond b (slice_range line from t.start ∷ statements_from line true t.end rest) (statements_from line (not (length statements == 0)) from rest)) (sym e)
          ∙ ap (λ ts. statements ++ statements_from line (not (length statements == 0)) from ts) (sym next)
          ∙ p.parted;
    }
