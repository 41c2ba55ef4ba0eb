-- Bytes that are gathered call by call.
use Rattle.std.proofs.Common.{◌≡◌, ◌⊎◌, inl, inr, ℕ, ◌+◌, ◌<◌, ◌≤◌, List, ◌++◌, length, take, drop, sym, ap, ◌∙◌, arith, length-append, length-drop}
use Rattle.std.specs.Prelude.{Option, Some, None}
use Rattle.std.proofs.Math.Seq.{take-add}
use Rattle.std.proofs.lemmas.List.{take-take, take_all, drop-drop, length-take}
use Rattle.std.proofs.lemmas.Bool.{cases_lt}
use Rattle.ifdb_journal.specs.Reading.{StandsAt}
use Rattle.ifdb_disk.specs.Images.{Reads}
use Rattle.ifdb_disk.specs.Clock.{Clock, Now}

-- some bytes more
pub some_more : (t : Option Clock) (at n room : ℕ) (text chunk : List ℕ) → StandsAt t at text → Now t (Reads (at + length text) n (take room chunk)) → n ≤ room → n ≤ length chunk
    → StandsAt t at (text ++ take n chunk)
some_more None at n room text chunk so_far read le within = tt
some_more (Some c) at n room text chunk so_far read le within =
    let all = drop at c.now.bytes in
    let size : length (text ++ take n chunk) ≡ length text + n = omega (arith, length-append text (take n chunk), length-take n chunk, within) in
    let piece : take n chunk ≡ take n (drop (length text) all) = sym (take-take n room chunk le) ∙ read.bytes ∙ ap (take n) (sym (drop-drop (length text) at c.now.bytes)) in
    (λ i. so_far i ++ piece i) ∙ sym (take-add (length text) n all) ∙ ap (λ k. take k all) (sym size)

-- the disk has no more
pub at_the_end : (t : Option Clock) (at room : ℕ) (text chunk : List ℕ) → StandsAt t at text → Now t (Reads (at + length text) 0 (take room chunk)) → 0 < room → room ≤ length chunk → length text ≤ 65550
    → Now t (λ s. text ≡ take 65550 (drop at s.bytes))
at_the_end None at room text chunk so_far read some fits most = tt
at_the_end (Some c) at room text chunk so_far read some fits most = by_length (cases_lt (at + length text) (length c.now.bytes))
  where
    by_length : ((at + length text < length c.now.bytes) ⊎ (length c.now.bytes ≤ at + length text)) → text ≡ take 65550 (drop at c.now.bytes)
    by_length (inl lt) = absurd (omega (arith, read.some (omega (arith, length-take room chunk, some, fits)) lt))
    by_length (inr le) =
        let short : length (drop at c.now.bytes) ≤ length text = omega (arith, length-drop at c.now.bytes, le) in
        so_far ∙ take_all (length text) (drop at c.now.bytes) short ∙ sym (take_all 65550 (drop at c.now.bytes) (omega (arith, short, most)))

-- the text is as long as it may be
pub all_taken : (t : Option Clock) (at : ℕ) (text : List ℕ) → StandsAt t at text → length text ≡ 65550 → Now t (λ s. text ≡ take 65550 (drop at s.bytes))
all_taken None at text so_far size = tt
all_taken (Some c) at text so_far size = so_far ∙ ap (λ k. take k (drop at c.now.bytes)) size

-- a text is a place's bytes, as far as it goes
pub stands_of : (t : Option Clock) (at : ℕ) (text : List ℕ) → Now t (λ s. text ≡ take 65550 (drop at s.bytes)) → StandsAt t at text
stands_of None at text all = tt
stands_of (Some c) at text all =
    let bytes = drop at c.now.bytes in
    elim (cases_lt 65550 (length bytes)) [
      | inl long ↦ let size : 65550 ≡ length text = omega (arith, ap length all, length-take 65550 bytes, long) in all ∙ ap (λ k. take k bytes) size
      | inr short ↦
          let whole : text ≡ bytes = all ∙ take_all 65550 bytes short in
          whole ∙ sym (take_all (length text) bytes (omega (arith, ap length whole)))
    ]
