use Rattle.std.proofs.Common.{map, string_bytes, subst}
use Rattle.clap.specs.Words.{app_of}
use Rattle.ifdb_words.specs.Clap.{IsTaken}
use Rattle.ifdb_words.proofs.ProjectOptions.{project_taken}
use Rattle.ifdb_words.proofs.project.project_in.Goals as goal

pub returns-in-Some-clause-project : goal.returns-in-Some-clause-project
returns-in-Some-clause-project c =
    let app = app_of c.in_ok-command.command in
    let words = map string_bytes c.args.words.now in
    project_taken app words c.in-Some.matches c.project_of.result c.in_ok-command.ensures
    (subst (IsTaken app words) c.in-Some.is c.in_ok-matches.ensures) c.project_of.ensures
