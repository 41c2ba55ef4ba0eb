-- The title of a file is told by its first 16 bytes.
use Rattle.std.proofs.Common.{◌≡◌, ℕ, ◌≤◌, List, [], ◌∷◌, ◌++◌, ◌∙◌, length, take, refl, sym, ap, arith, length-append}
use Rattle.std.specs.Prelude.{Option, Some, None}
use Rattle.std.proofs.lemmas.List.{append-nil, take_at}
use Rattle.ifdb_disk.specs.Clock.{Clock}
use Rattle.ifdb_log.specs.Behind.{HasFront}
use Rattle.ifdb_log.specs.Title.{title, title_rest, IsLog, IsSettled}
use Rattle.ifdb_reopen.specs.Laws.{TitleIsAFile}

-- 16 bytes that are a title
abbrev pub IsTitle : List ℕ → Type 0
IsTitle front = IsLog front × (length front ≡ 16)

pub title_size : (bytes : List ℕ) → IsLog bytes → 16 ≤ length bytes
title_size bytes is = omega (arith, ap length is.3, length-append title_rest is.1)

pub title_of : (bytes : List ℕ) → IsLog bytes → IsTitle (take 16 bytes)
title_of bytes is =
    let first : take 16 bytes ≡ is.0 ∷ title_rest = ap (take 16) is.3 ∙ take_at (is.0 ∷ title_rest) is.1 16 refl in
    ((is.0, [], is.2, first ∙ sym (append-nil (is.0 ∷ title_rest))), ap length first)

-- behind 16 bytes that are a title anything may stand
pub title_then : (front rest : List ℕ) → IsTitle front → IsLog (front ++ rest)
title_then front rest is =
    let none : is.0.1 ≡ [] = empty is.0.1 (omega (arith, ap length is.0.3, length-append title_rest is.0.1, is.1)) in
    let whole : front ≡ is.0.0 ∷ title_rest = is.0.3 ∙ ap (λ (l : List ℕ). is.0.0 ∷ (title_rest ++ l)) none in
    (is.0.0, rest, is.0.2, ap (λ (l : List ℕ). l ++ rest) whole)
  where
    empty : (l : List ℕ) → length l ≡ 0 → l ≡ []
    empty [] e = refl
    empty (x ∷ l) e = absurd (omega (arith, e))

pub front_stands : (t : Option Clock) → IsSettled IsLog t → HasFront 16 t
front_stands None is = tt
front_stands (Some c) is = (is.0, title_size c.now.bytes is.1)

pub title_file : TitleIsAFile
title_file = record {
  titled = (105, [], λ e. omega (arith, e), sym (append-nil title));
  whole = refl;
  restores = record { are = refl; is = refl };
}
