use Rattle.std.proofs.Common.{◌≡◌, ◌+◌, ◌<◌, length, slice_index, subst, arith, ℕ, List}
use Rattle.std.specs.Str.{IsUtf8, IsCharBoundary}
use Rattle.std.proofs.lemmas.Str.{IsCharBoundary-after_ascii}
use Rattle.ifdb_parse.proofs.lexemes.undoubled.Goals as goal

-- behind two quotes
behind_pair : (text : List ℕ) (at : ℕ) → IsUtf8 text → at + 1 < length text → slice_index text (at + 1) ≡ 39 → IsCharBoundary text (at + 2)
behind_pair text at valid h quote =
    let two : at + 1 + 1 ≡ at + 2 = omega arith in
    let B : ℕ → Type 0 = IsCharBoundary text in
    subst B two (IsCharBoundary-after_ascii text (at + 1) valid h (omega (arith, quote)))

pub range_from-rest-requires : goal.range_from-rest-requires
range_from-rest-requires c =
    let B : List ℕ → Type 0 = λ text. IsCharBoundary text (c.in-Some.at + 2) in
    λ some. subst B c.as_bytes.ensures.value (behind_pair c.as_bytes.result.now c.in-Some.at c.as_bytes.ensures.utf8 c.in-Some.ensures.0 c.in-Some.ensures.2)
