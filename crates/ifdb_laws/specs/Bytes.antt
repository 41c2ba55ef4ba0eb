-- decides: scripts
-- What can be read back from the bytes that a run writes.
use Rattle.std.specs.Prelude.{◌≡◌, ℕ, ◌^◌, Bool, true, List, ◌==◌, ◌&&◌, not, nat_lt, length, map}
use Rattle.std.specs.List.{list_all}
use Rattle.ifdb_wire.specs.declared.reply.Reply.{Reply}
use Rattle.ifdb_wire.specs.declared.reply.Reply.TheVariants as reply
use Rattle.ifdb_wire.specs.Text.{reply_lines}
use Rattle.ifdb_model.specs.Step.{Reader}
use Rattle.ifdb_model.specs.Run.{Told}
use Rattle.ifdb_model.specs.Output.{refusals, texts, told_of, output}

-- there is no newline in it, which is 10
abbrev pub is_line : List ℕ → Bool
is_line text = list_all (λ b. not (b == 10)) text

-- how many rows a reply shows
abbrev pub row_count : Reply → ℕ
row_count (reply.Rows table) = length table.rows
row_count _ = 0

-- numbers of 64 bits, and lines without newlines: so it is where no value and no name has one
abbrev pub is_readable : Told → Bool
is_readable t = nat_lt t.number (2 ^ 64) && (nat_lt (row_count t.reply) (2 ^ 64) && list_all is_line (reply_lines t.reply))

-- what is told, as it is shown: the session's number, and the lines
pub record Shown : Type 0 where
  pub number : ℕ
  pub lines : List (List ℕ)

-- a reply as it is shown
abbrev pub shown : Told → Shown
shown t = record { number = t.number; lines = reply_lines t.reply }

-- equal bytes show the same replies, one by one
abbrev pub RepliesReadBack : Type 0
RepliesReadBack = (xs ys : List Told) → list_all is_readable xs ≡ true → list_all is_readable ys ≡ true → texts xs ≡ texts ys → map shown xs ≡ map shown ys

-- and say alike at which steps memory was refused
abbrev pub RefusalsReadBack : Type 0
RefusalsReadBack = (xs ys : List Told) → list_all is_readable xs ≡ true → list_all is_readable ys ≡ true → texts xs ≡ texts ys → refusals xs ≡ refusals ys

-- One script's runs that write equal bytes are told the same, whatever steps were refused: so the bytes alone say which were.
abbrev pub BytesTellWhatIsTold : Type 0
BytesTellWhatIsTold = (read : Reader) (input : List ℕ) (flags others : List Bool)
    → output read input flags ≡ output read input others → told_of read input flags ≡ told_of read input others
