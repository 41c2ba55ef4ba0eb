-- The table has what each byte comes to, divided eight times.
use Rattle.std.proofs.Common.{◌≡◌, ℕ, ◌/◌, ◌%◌, ◌^◌, ◌<◌, List, map, get_or, refl, sym, ap, ◌∙◌, arith}
use Rattle.std.specs.Int.Bits.{bit_xor}
use Rattle.std.specs.List.{range_with_len}
use Rattle.std.proofs.lemmas.List.FromFn.{get_or-map-range_with_len}
use Rattle.std.proofs.lemmas.Nat.{xor_of_8}
use Rattle.ifdb_redo.specs.declared.crc.TheConstants.{DIVIDED}
use Rattle.ifdb_redo.specs.Checksum.{divided, divided_times, after_byte}
use Rattle.ifdb_redo.proofs.Division.{after_byte_is}

table : DIVIDED ≡ map (divided_times 8) (range_with_len 0 256)
unfolding divided divided_times
table = refl

pub looked_up : (n byte : ℕ) → byte < 2 ^ 8 → bit_xor (n / 2 ^ 8) (get_or DIVIDED (bit_xor (n % 2 ^ 8) byte) 0) ≡ after_byte n byte
looked_up n byte b =
    let lt : bit_xor (n % 2 ^ 8) byte < 256 = xor_of_8 (n % 2 ^ 8) byte (omega arith) b in
    let entry : get_or DIVIDED (bit_xor (n % 2 ^ 8) byte) 0 ≡ divided_times 8 (bit_xor (n % 2 ^ 8) byte) =
    ap (λ (xs : List ℕ). get_or xs (bit_xor (n % 2 ^ 8) byte) 0) table ∙ get_or-map-range_with_len (divided_times 8) 0 256 (bit_xor (n % 2 ^ 8) byte) (bit_xor (n % 2 ^ 8) byte) 0 lt (omega arith) in
    ap (bit_xor (n / 2 ^ 8)) entry ∙ sym (after_byte_is n byte)
