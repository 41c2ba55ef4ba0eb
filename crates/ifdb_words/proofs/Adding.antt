-- A command with one option more.
use Rattle.std.proofs.Common.{◌≡◌, ◌∙◌, ap, false}
use Rattle.std.specs.Prelude.{Result, Ok, Err, IfOk}
use Rattle.clap.specs.Words.{AddsArg, App, Rule, app_of, rule_of, with_rule}
use Rattle.clap.specs.declared.builder.arg.Arg.{Arg}
use Rattle.clap.specs.declared.builder.command.Command.{Command}

pub option_added : {E : Type 0} (r : Result Command E) (old : Command) (a : Arg) (app : App) (rule : Rule) → a.global ≡ false → rule_of a ≡ rule → app_of old ≡ app
    → IfOk r (AddsArg old a) → IfOk r (λ new. app_of new ≡ with_rule app rule)
option_added (Ok new) old a app rule local is before added =
    added.shape local ∙ (ap (λ x. with_rule x (rule_of a)) before ∙ ap (with_rule app) is)
option_added (Err e) old a app rule local is before added = tt
