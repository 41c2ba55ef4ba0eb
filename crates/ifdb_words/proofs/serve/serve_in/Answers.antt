use Rattle.std.proofs.Common.{map, string_bytes, subst}
use Rattle.clap.specs.Words.{app_of}
use Rattle.ifdb_words.specs.Clap.{IsTaken}
use Rattle.ifdb_words.proofs.ServeOptions.{serve_taken}
use Rattle.ifdb_words.proofs.serve.serve_in.Goals as goal

pub returns-in-Some : goal.returns-in-Some
returns-in-Some c =
    let app = app_of c.in_ok-command.command in
    let words = map string_bytes c.args.words.now in
    serve_taken app words c.in-Some.matches c.serve_of.result c.in_ok-command.ensures
    (subst (IsTaken app words) c.in-Some.is c.in_ok-matches.ensures) c.serve_of.ensures
