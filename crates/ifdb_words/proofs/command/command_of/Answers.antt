use Rattle.std.proofs.Common.{◌-◌, drop, length, map, string_bytes, take}
use Rattle.ifdb_words.proofs.InRange.{serve_in_range}
use Rattle.ifdb_words.proofs.command.command_of.Goals as goal

pub returns-in-len1-up-2-clause-ranges : goal.returns-in-len1-up-2-clause-ranges
returns-in-len1-up-2-clause-ranges c =
    let words = c.args.words.now in
    serve_in_range (map string_bytes (take (length words - 1) (drop 1 words))) c.serve_in.result c.serve_in.ensures
