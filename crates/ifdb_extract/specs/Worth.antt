-- decides: a compaction
-- When a compaction is worth it.
use Rattle.std.specs.Prelude.{ℕ, ◌/◌, ◌*◌, Bool, ◌&&◌, nat_lt}

-- the log has more than 64 MiB, and more than four times what it comes to
abbrev pub is_worth : ℕ → ℕ → Bool
is_worth bytes comes_to = nat_lt 67108864 bytes && nat_lt comes_to (bytes / 4)
