use Rattle.std.proofs.Common.{map, string_bytes, subst}
use Rattle.clap.specs.Words.{app_of}
use Rattle.ifdb_words.specs.Clap.{IsTaken}
use Rattle.ifdb_words.proofs.HostOptions.{host_refused, host_taken}
use Rattle.ifdb_words.proofs.InRange.{host_in_range}
use Rattle.ifdb_words.proofs.host.host_in.Goals as goal

pub returns-in-Some-clause-host : goal.returns-in-Some-clause-host
returns-in-Some-clause-host c =
    let app = app_of c.in_ok-command.command in
    let words = map string_bytes c.args.words.now in
    host_taken app words c.in-Some.matches c.host_of.result c.in_ok-command.ensures
    (subst (IsTaken app words) c.in-Some.is c.in_ok-matches.ensures) c.host_of.ensures

pub returns-in-None-clause-host : goal.returns-in-None-clause-host
returns-in-None-clause-host c =
    let app = app_of c.in_ok-command.command in
    let words = map string_bytes c.args.words.now in
    host_refused app words c.in_ok-command.ensures (subst (IsTaken app words) c.in-None.is c.in_ok-matches.ensures)

pub returns-in-Some-clause-ranges : goal.returns-in-Some-clause-ranges
returns-in-Some-clause-ranges c = host_in_range (map string_bytes c.args.words.now) c.host_of.result (returns-in-Some-clause-host c)
