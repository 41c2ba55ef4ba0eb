-- Texts without a newline: numbers, faults, and what is shown of values and labels.
use Rattle.std.proofs.Common.{◌≡◌, ℕ, zero, suc, ◌+◌, ◌/◌, ◌%◌, Bool, true, false, List, [], ◌∷◌, ◌++◌, refl, arith, cond, eqb, ltb, ℤ, pos, negsuc}
use Rattle.std.specs.Fmt.{digits, digits_onto, digit_glyph, signed_decimal}
use Rattle.std.specs.Prelude.{codes, decimal, map, not, slice_index_or}
use Rattle.std.specs.List.{list_all}
use Rattle.std.proofs.lemmas.Bool.{and_parts}
use Rattle.std.proofs.lemmas.Bool.Decides.{nat_tests}
use Rattle.ifdb_catalog.proofs.Tests.{both_of}
use Rattle.ifdb_wire.specs.declared.fault.Fault.{Fault}
use Rattle.ifdb_wire.specs.declared.fault.Fault.TheVariants as fault
use Rattle.ifdb_wire.specs.Fault.{number_of, name_of, place_text, fault_text}
use Rattle.ifdb_wire.specs.Text.{escaped_byte, escaped, tabbed}
use Rattle.ifdb_bound.specs.Query.{joined, label_names}
use Rattle.ifdb_laws.specs.Bytes.{is_line}
use Rattle.ifdb_framing.proofs.Lists.{pick, all_append, all_flat_map, each_map, at_or}

abbrev pub is_no_newline : ℕ → Bool
is_no_newline b = not (eqb b 10)

-- ---- numbers

-- a digit is no newline
glyph_line : (d : ℕ) (b : Bool) → not (eqb (cond b (48 + d) (87 + d)) 10) ≡ true
glyph_line d true = grind (arith, nat_tests)
glyph_line d false = grind (arith, nat_tests)

digits_onto_line : (k n : ℕ) (acc : List ℕ) → is_line acc ≡ true → is_line (digits_onto k 10 false n acc) ≡ true
digits_onto_line zero n acc h = h
digits_onto_line (suc k) n acc h =
    let one : is_line (digit_glyph false (n % 10) ∷ acc) ≡ true = both_of _ _ (glyph_line (n % 10) (ltb (n % 10) 10)) h in
    pick is_line (eqb (n / 10) 0) (digit_glyph false (n % 10) ∷ acc) (digits_onto k 10 false (n / 10) (digit_glyph false (n % 10) ∷ acc)) one
    (digits_onto_line k (n / 10) (digit_glyph false (n % 10) ∷ acc) one)

pub decimal_line : (n : ℕ) → is_line (decimal n) ≡ true
unfolding digits
decimal_line n = digits_onto_line 64 n [] refl

pub signed_line : (n : ℤ) → is_line (signed_decimal n) ≡ true
signed_line (pos n) = decimal_line n
signed_line (negsuc n) = decimal_line (suc n)

-- ---- faults

pub line_append : (x y : List ℕ) → is_line x ≡ true → is_line y ≡ true → is_line (x ++ y) ≡ true
line_append x y h k = all_append (is_no_newline) x y h k

name_line : (f : Fault) → is_line (name_of f) ≡ true
name_line (fault.Syntax at) = refl
name_line fault.NotHello = refl
name_line fault.HelloTwice = refl
name_line fault.BadKey = refl
name_line fault.Taken = refl
name_line fault.UnknownName = refl
name_line fault.LabelNotEmpty = refl
name_line fault.NoAuthority = refl
name_line fault.InTransaction = refl
name_line fault.NoTransaction = refl
name_line fault.TypeMismatch = refl
name_line fault.WriteLabel = refl
name_line fault.DuplicateKey = refl
name_line fault.NoReference = refl
name_line fault.OutOfRange = refl
name_line fault.CommitLabel = refl
name_line fault.Conflict = refl
name_line fault.BrokenReference = refl
name_line fault.StillReferenced = refl
name_line fault.OutOfMemory = refl
name_line fault.TooLong = refl
name_line fault.Limit = refl
name_line fault.NotGranted = refl
name_line fault.KeyColumn = refl
name_line fault.NotCompound = refl
name_line fault.NotATable = refl
name_line fault.ViewAuthority = refl
name_line fault.NoSession = refl
name_line fault.OverClearance = refl
name_line fault.ClosureLabel = refl

place_line : (f : Fault) → is_line (place_text f) ≡ true
place_line (fault.Syntax at) = line_append (codes " ") (decimal at) refl (decimal_line at)
place_line _ = refl

pub fault_line : (f : Fault) → is_line (fault_text f) ≡ true
fault_line f =
    let head = codes "ERR " ++ decimal (number_of f) in
    line_append ((head ++ codes " ") ++ name_of f) (place_text f)
    (line_append (head ++ codes " ") (name_of f)
    (line_append head (codes " ") (line_append (codes "ERR ") (decimal (number_of f)) refl (decimal_line (number_of f))) refl) (name_line f)) (place_line f)

-- ---- rows

byte_line : (b : ℕ) → is_no_newline b ≡ true → is_line (escaped_byte b) ≡ true
byte_line b h =
    pick is_line (eqb b 92) (92 ∷ 92 ∷ []) (cond (eqb b 9) (92 ∷ 116 ∷ []) (cond (eqb b 13) (92 ∷ 114 ∷ []) (b ∷ []))) refl
    (pick is_line (eqb b 9) (92 ∷ 116 ∷ []) (cond (eqb b 13) (92 ∷ 114 ∷ []) (b ∷ [])) refl
    (pick is_line (eqb b 13) (92 ∷ 114 ∷ []) (b ∷ []) refl (both_of (is_no_newline b) true h refl)))

pub escaped_line : (text : List ℕ) → is_line text ≡ true → is_line (escaped text) ≡ true
escaped_line text h = all_flat_map (is_no_newline) (is_no_newline) escaped_byte text byte_line h

pub tabbed_line : (xs : List (List ℕ)) → list_all is_line xs ≡ true → is_line (tabbed xs) ≡ true
tabbed_line [] h = refl
tabbed_line (x ∷ []) h = (and_parts (is_line x) true h).0
tabbed_line (x ∷ y ∷ more) h =
    let parts = and_parts (is_line x) (list_all is_line (y ∷ more)) h in
    line_append x (9 ∷ tabbed (y ∷ more)) parts.0 (tabbed_line (y ∷ more) parts.1)

pub joined_line : (xs : List (List ℕ)) → list_all is_line xs ≡ true → is_line (joined xs) ≡ true
joined_line [] h = refl
joined_line (x ∷ []) h = (and_parts (is_line x) true h).0
joined_line (x ∷ y ∷ more) h =
    let parts = and_parts (is_line x) (list_all is_line (y ∷ more)) h in
    line_append x (codes "," ++ joined (y ∷ more)) parts.0 (joined_line (y ∷ more) parts.1)

-- the names of a label's tags
pub names_line : (names : List (List ℕ)) (label : List ℕ) → list_all is_line names ≡ true → is_line (label_names names label) ≡ true
names_line names label h = joined_line (map (λ t. slice_index_or names t []) label) (each_map is_line (λ t. slice_index_or names t []) label (λ t. at_or is_line [] names t refl h))
