use Rattle.std.proofs.Common.{◌≡◌, map, drop, string_bytes}
use Rattle.std.specs.List.{list_any}
use Rattle.ifdb_words.specs.Clap.{is_stray}
use Rattle.ifdb_words.proofs.options.has_stray.Given as goal

abbrev pub invariant-loop-word : goal.invariant-loop-word
invariant-loop-word l = list_any is_stray (map string_bytes (drop l.word-index l.words)) ≡ list_any is_stray (map string_bytes l.words)
