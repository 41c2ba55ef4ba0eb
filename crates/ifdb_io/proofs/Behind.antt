-- Texts that are written one behind the other.
use Rattle.std.proofs.Common.{◌≡◌, ℕ, ◌+◌, ◌<◌, List, ◌++◌, length, take, sym, subst, arith, Option}
use Rattle.std.proofs.lemmas.List.{length-append, take-append-le}
use Rattle.std.proofs.Math.Seq.{take-append-add}
use Rattle.std.specs.Io.KnownBytes.{Appends}
use Rattle.std.proofs.KnownBytes.{Appends-trans}
use Rattle.ifdb_io.specs.Causes.{WritesShort}

take_front : (xs ys : List ℕ) (k : ℕ) → k < length xs → take k xs ≡ take k (xs ++ ys)
take_front xs ys k few = sym (take-append-le k xs ys (omega (arith, few)))

-- a front of the first of two texts was written
pub short_first : (a b : Option (List ℕ)) (text rest : List ℕ) → WritesShort a b text → WritesShort a b (text ++ rest)
short_first a b text rest s = record {
  n = s.n;
  short = let few = s.short in let long = length-append text rest in omega (arith, few, long);
  written = subst (Appends a b) (take_front text rest s.n s.short) s.written;
}

-- the first of two texts was written, and a front of the second
pub short_then : (a b c : Option (List ℕ)) (text rest : List ℕ) → Appends a b text → WritesShort b c rest → WritesShort a c (text ++ rest)
short_then a b c text rest first then = record {
  n = length text + then.n;
  short = let few = then.short in let long = length-append text rest in omega (arith, few, long);
  written = subst (Appends a c) (sym (take-append-add text rest then.n)) (Appends-trans a b c text (take then.n rest) first then.written);
}

-- both were written
pub all_then : (a b c : Option (List ℕ)) (text rest : List ℕ) → Appends a b text → Appends b c rest → Appends a c (text ++ rest)
all_then a b c text rest first then = Appends-trans a b c text rest first then
