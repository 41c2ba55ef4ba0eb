-- Equal outputs show the same replies, and tell the same refusals.
use Rattle.std.proofs.Common.{◌≡◌, ℕ, ◌^◌, Bool, true, List, [], ◌∷◌, refl, ltb, ◌&&◌, ap, ◌∙◌}
use Rattle.std.specs.List.{list_all}
use Rattle.std.proofs.lemmas.Bool.{and_parts}
use Rattle.ifdb_catalog.proofs.Tests.{both_of}
use Rattle.ifdb_wire.specs.Text.{reply_lines}
use Rattle.ifdb_model.specs.Run.{Told}
use Rattle.ifdb_model.specs.Output.{refusals, told_of}
use Rattle.ifdb_laws.specs.Bytes.{is_line, row_count, is_readable}
use Rattle.ifdb_laws.proofs.ReadBack.{replies_read_back, refusals_read_back}
use Rattle.ifdb_db.specs.Reading.{read_line}
use Rattle.ifdb_framing.specs.Framing.{is_framed, is_numbered, OutputsReadBack, OutputsTellRefusals}
use Rattle.ifdb_framing.proofs.Runs.{replies_are_framed}

readable : (t : Told) → is_framed t ≡ true → is_numbered t ≡ true → is_readable t ≡ true
readable t h k =
    let parts = and_parts (ltb t.number (2 ^ 64)) (ltb (row_count t.reply) (2 ^ 64)) k in
    both_of (ltb t.number (2 ^ 64)) (ltb (row_count t.reply) (2 ^ 64) && list_all is_line (reply_lines t.reply)) parts.0
    (both_of (ltb (row_count t.reply) (2 ^ 64)) (list_all is_line (reply_lines t.reply)) parts.1 h)

all_readable : (xs : List Told) → list_all is_framed xs ≡ true → list_all is_numbered xs ≡ true → list_all is_readable xs ≡ true
all_readable [] h k = refl
all_readable (t ∷ xs) h k =
    let framed = and_parts (is_framed t) (list_all is_framed xs) h in
    let numbered = and_parts (is_numbered t) (list_all is_numbered xs) k in
    both_of (is_readable t) (list_all is_readable xs) (readable t framed.0 numbered.0) (all_readable xs framed.1 numbered.1)

-- what a script was told is framed
pub told_framed : (input : List ℕ) (flags : List Bool) (told : List Told) → told ≡ told_of read_line input flags → list_all is_framed told ≡ true
told_framed input flags told e = ap (list_all is_framed) e ∙ replies_are_framed input flags

told_readable : (input : List ℕ) (flags : List Bool) (told : List Told) → told ≡ told_of read_line input flags → list_all is_numbered told ≡ true → list_all is_readable told ≡ true
told_readable input flags told e k = all_readable told (told_framed input flags told e) k

pub outputs_read_back : OutputsReadBack
outputs_read_back input other flags other_flags h k e =
    replies_read_back (told_of read_line input flags) (told_of read_line other other_flags)
    (told_readable input flags (told_of read_line input flags) refl h) (told_readable other other_flags (told_of read_line other other_flags) refl k) e

pub outputs_tell_refusals : OutputsTellRefusals
outputs_tell_refusals input other flags other_flags h k e =
    refusals_read_back (told_of read_line input flags) (told_of read_line other other_flags)
    (told_readable input flags (told_of read_line input flags) refl h) (told_readable other other_flags (told_of read_line other other_flags) refl k) e
