-- decides: a served database
-- The checksum CRC-32C: the remainder of a division of polynomials over bits, the lowest bit of each byte first.
use Rattle.std.specs.Prelude.{ℕ, zero, suc, ◌/◌, ◌%◌, ◌==◌, List, bit_xor, fold, if◌then◌else◌}

-- the divisor, Castagnoli's polynomial, its highest power in the lowest bit
abbrev pub polynomial : ℕ
polynomial = 0x82F63B78

-- one bit is divided
unfoldable pub divided : ℕ → ℕ
divided n = if n % 2 == 0 then n / 2 else bit_xor (n / 2) polynomial

-- so many bits are
unfoldable pub divided_times : ℕ → ℕ → ℕ
divided_times zero n = n
divided_times (suc k) n = divided_times k (divided n)

-- the remainder, once a byte is taken in
unfoldable pub after_byte : ℕ → ℕ → ℕ
after_byte remainder byte = divided_times 8 (bit_xor remainder byte)

-- the remainder of bytes: it begins with 32 ones
abbrev pub remainder_of : List ℕ → ℕ
remainder_of bytes = fold after_byte 0xFFFFFFFF bytes

-- the checksum: the remainder with each bit turned over
abbrev pub checksum : List ℕ → ℕ
checksum bytes = bit_xor (remainder_of bytes) 0xFFFFFFFF
