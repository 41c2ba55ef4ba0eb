-- What one write after another does to the known bytes.
use Rattle.std.proofs.Common.{◌≡◌, ℕ, ◌+◌, ◌-◌, List, ◌++◌, length, take, drop, sym, ap, subst, ◌∙◌}
use Rattle.std.specs.declared.option.Option.{Option}
use Rattle.std.specs.Io.KnownBytes.{Appends}
use Rattle.std.proofs.KnownBytes.{Appends-trans}
use Rattle.std.proofs.Math.Seq.{take-add}
use Rattle.std.proofs.lemmas.List.{take_rest, length-drop}

-- a piece behind the front that was written already
pub Appends-more : (a b c : Option (List ℕ)) (bytes : List ℕ) (i n : ℕ) → Appends a b (take i bytes)
    → Appends b c (take n (take (length bytes - i) (drop i bytes))) → Appends a c (take (i + n) bytes)
Appends-more a b c bytes i n front piece =
    let joined : take i bytes ++ take n (take (length bytes - i) (drop i bytes)) ≡ take (i + n) bytes =
    ap (λ xs. take i bytes ++ take n xs) (take_rest bytes i) ∙ sym (take-add i n bytes) in
    subst (Appends a c) joined (Appends-trans a b c _ _ front piece)

-- how many bytes are still to be written
pub length_rest : (bytes : List ℕ) (i : ℕ) → length (take (length bytes - i) (drop i bytes)) ≡ length bytes - i
length_rest bytes i = ap length (take_rest bytes i) ∙ length-drop i bytes
