-- What the steps of a reader of lines do to the bytes to come.
use Rattle.std.proofs.Common.{◌≡◌, ◌≢◌, ℕ, ◌+◌, ◌≤◌, List, [], ◌∷◌, ◌++◌, length, take, ◌∙◌, arith, All, Bool, true, false, refl}
use Rattle.std.specs.Prelude.{slice_range}
use Rattle.std.specs.declared.option.Option.{Option}
use Rattle.std.proofs.KnownBytes.{Consumes-trans}
use Rattle.std.proofs.lemmas.List.{append_assoc, append-nil, length-append}
use Rattle.std.proofs.lemmas.List.Elements.{All-head, All-tail, All-append}
use Rattle.ifdb_io.specs.Lines.{Reading, Gives, Ends, Exceeds, IsLine, after_newline, unskipped}
use Rattle.ifdb_io.specs.Reader.{Takes, Passes, Comes, Cuts, ReadsSame, BreaksAt}
use Rattle.ifdb_io.proofs.Ranges.{length-range, range_split, range_at}

-- bytes that aren't a newline are dropped
pub after_newline-plain : (xs ys : List ℕ) → All (λ b. b ≢ 10) xs → after_newline (xs ++ ys) ≡ after_newline ys
after_newline-plain [] ys p = refl
after_newline-plain (x ∷ xs) ys p = grind (arith, All-head (λ b. b ≢ 10) x xs p, after_newline-plain xs ys (All-tail (λ b. b ≢ 10) x xs p))

-- no byte is behind the newline of no bytes
pub unskipped-nil : (skipping : Bool) → unskipped skipping [] ≡ []
unskipped-nil true = refl
unskipped-nil false = refl

-- the bytes from i up to j, of which those up to k have their first newline at n
pub break_at : (xs : List ℕ) (i k j n : ℕ) → i ≤ k → k ≤ j → j ≤ length xs → BreaksAt (slice_range xs i k) n
    → slice_range xs i j ≡ take n (slice_range xs i k) ++ (10 ∷ slice_range xs (i + (n + 1)) j)
break_at xs i k j n low high le b =
    let size = length-range xs i k (omega arith) in
    let whole = range_split xs i k j low high in
    let front = range_at xs i k n 10 low (omega arith) b.within b.newline in
    let behind = range_split xs (i + (n + 1)) k j (omega (arith, b.within)) high in
    let joined = append_assoc (take n (slice_range xs i k)) (10 ∷ slice_range xs (i + (n + 1)) k) (slice_range xs k j) in
    cc

-- a reader that drops the rest of a line finds its newline
pub skipped_newline : (text held before after : List ℕ) (skipping : Bool) → skipping ≡ true → All (λ b. b ≢ 10) before → held ≡ before ++ (10 ∷ after)
    → (rest : List ℕ) → text ++ unskipped skipping (held ++ rest) ≡ text ++ unskipped false (after ++ rest)
skipped_newline text held before after skipping s p h rest =
    let whole = append_assoc before (10 ∷ after) rest in
    let plain = after_newline-plain before (10 ∷ (after ++ rest)) p in
    rw (s, h) (cc)

-- a reader that drops the rest of a line drops all that it holds
pub skipped_all : (text held after : List ℕ) (skipping : Bool) → skipping ≡ true → All (λ b. b ≢ 10) held → after ≡ []
    → (rest : List ℕ) → text ++ unskipped skipping (held ++ rest) ≡ text ++ unskipped skipping (after ++ rest)
skipped_all text held after skipping s p h rest =
    let plain = after_newline-plain held rest p in
    rw (s, h) (cc)

-- held bytes go to the text, and an end is dropped
pub extended : (text held before end after : List ℕ) (skipping : Bool) → skipping ≡ false → held ≡ before ++ (end ++ after)
    → (rest : List ℕ) → text ++ unskipped skipping (held ++ rest) ≡ ((text ++ before) ++ end) ++ (after ++ rest)
extended text held before end after skipping s h rest =
    let one = append_assoc before (end ++ after) rest in
    let two = append_assoc end after rest in
    let three = append_assoc text before end in
    let four = append_assoc text (before ++ end) (after ++ rest) in
    let five = append_assoc before end (after ++ rest) in
    rw (s, h) (cc)

-- more bytes were taken
pub Comes-more : (first start now : Reading) (a b c : Option (List ℕ)) → Comes first start a b → Takes start now b c → Comes first now a c
Comes-more first start now a b c p k = record {
  got = p.got ++ k.got;
  consumed = Consumes-trans a b c p.got k.got p.consumed k.consumed;
  count = omega (arith, p.count, k.count, length-append p.got k.got);
  same = λ rest.
      let joined = append_assoc p.got k.got rest in
      let early = p.same (k.got ++ rest) in
      let late = k.same rest in
      cc;
}

-- the held bytes went on
pub Comes-on : (first start now : Reading) (a b : Option (List ℕ)) → Comes first start a b → ReadsSame start now → now.taken ≡ start.taken → Comes first now a b
Comes-on first start now a b p same t = record {
  got = p.got;
  consumed = p.consumed;
  count = t ∙ p.count;
  same = λ rest. p.same rest ∙ same rest;
}

-- a line was cut off
pub given : (first start now : Reading) (a b : Option (List ℕ)) (bytes : List ℕ) → Comes first start a b → Cuts start now bytes → now.taken ≡ start.taken
    → Gives first now a b bytes
given first start now a b bytes p cuts t = record {
  got = p.got;
  consumed = p.consumed;
  count = t ∙ p.count;
  same = λ rest. p.same rest ∙ cuts rest;
}

-- all that came is the text, where nothing is held
pub all_text : (first now : Reading) (a b : Option (List ℕ)) (p : Comes first now a b) → now.held ≡ [] → unskipped first.skipping (first.held ++ p.got) ≡ now.text
all_text first now a b p none =
    let came = p.same [] in
    let plain = append-nil p.got in
    let text = append-nil now.text in
    let left : unskipped now.skipping (now.held ++ []) ≡ [] = rw none (unskipped-nil now.skipping) in
    cc

-- the input ended
pub ended : (first now : Reading) (a b : Option (List ℕ)) → Comes first now a b → now.held ≡ [] → IsLine now.text → Ends first now a b
ended first now a b p none line = record {
  got = p.got;
  consumed = p.consumed;
  count = p.count;
  all = all_text first now a b p none;
  none = none;
  line = line;
}

-- the input goes on past the limit
pub exceeded : (first start now : Reading) (a b c : Option (List ℕ)) → Comes first start a b → Passes start now b c → now.held ≡ [] → IsLine now.text
    → Exceeds first now a c
exceeded first start now a b c p k none line = record {
  got = p.got;
  last = k.last;
  consumed = Consumes-trans a b c p.got (k.last ∷ []) p.consumed k.consumed;
  count = omega (arith, p.count, k.count);
  past = k.past;
  all =
      let came = p.same [] in
      let same = k.same [] in
      let plain = append-nil p.got in
      let text = append-nil now.text in
      let left : unskipped now.skipping (now.held ++ []) ≡ [] = rw none (unskipped-nil now.skipping) in
      cc;
  none = none;
  line = line;
}

-- a text with more bytes of its line
pub IsLine-more : (text before new : List ℕ) → IsLine text → new ≡ text ++ before → All (λ b. b ≢ 10) before → length new ≤ 65535 → IsLine new
IsLine-more text before new line e plain short = record {
  plain = rw e (All-append (λ b. b ≢ 10) text before line.plain plain);
  short = short;
}
