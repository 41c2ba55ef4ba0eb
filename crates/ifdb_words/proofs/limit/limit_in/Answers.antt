use Rattle.std.proofs.Common.{map, string_bytes, subst}
use Rattle.clap.specs.Words.{app_of}
use Rattle.ifdb_words.specs.Clap.{IsTaken}
use Rattle.ifdb_words.proofs.LimitOptions.{limit_taken}
use Rattle.ifdb_words.proofs.limit.limit_in.Goals as goal

pub returns-in-Some-clause-limit : goal.returns-in-Some-clause-limit
returns-in-Some-clause-limit c =
    let app = app_of c.in_ok-command.command in
    let words = map string_bytes c.args.words.now in
    limit_taken app words c.in-Some.matches c.limit_of.result c.in_ok-command.ensures
    (subst (IsTaken app words) c.in-Some.is c.in_ok-matches.ensures) c.limit_of.ensures
