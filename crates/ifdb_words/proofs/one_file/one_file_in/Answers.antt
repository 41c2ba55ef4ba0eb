use Rattle.std.proofs.Common.{map, string_bytes, subst}
use Rattle.clap.specs.Words.{app_of}
use Rattle.ifdb_words.specs.Clap.{IsTaken}
use Rattle.ifdb_words.proofs.OneFileOptions.{one_file_taken}
use Rattle.ifdb_words.proofs.one_file.one_file_in.Goals as goal

pub returns-in-Some : goal.returns-in-Some
returns-in-Some c =
    let app = app_of c.in_ok-command.command in
    let words = map string_bytes c.args.words.now in
    record {
      file = one_file_taken app words c.in-Some.matches c.named.result c.in_ok-command.ensures
          (subst (IsTaken app words) c.in-Some.is c.in_ok-matches.ensures) c.named.ensures;
    }
