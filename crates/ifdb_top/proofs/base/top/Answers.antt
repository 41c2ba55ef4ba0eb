use Rattle.std.proofs.Common.{rules, ◌∙◌, Option, subst, sym}
use Rattle.ifdb_script.specs.Run.{RanWhole}
use Rattle.ifdb_script.proofs.RunLaws.{cuts_dont_matter, is_framed_run, keeps_levels, told_by_bytes}
use Rattle.ifdb_words.specs.declared.command.Command.{Command}
use Rattle.ifdb_top.specs.Texts.{IsWritten, text_for}
use Rattle.ifdb_top.proofs.base.top.Goals as goal

pub returns-in-Ok-Some-Run : goal.returns-in-Ok-Some-Run
returns-in-Ok-Some-Run g c = record {
  done = search rules;
  told_by_bytes = λ limit is done.
      let whole : RanWhole limit (g.R.Source.left c.args.input.now) (g.R.Source.left c.run.new.input) (g.W.Sink.written c.args.output.now) (g.W.Sink.written c.run.new.output) = search rules in
      told_by_bytes limit _ _ _ _ whole;
  framed = λ limit is done.
      let whole : RanWhole limit (g.R.Source.left c.args.input.now) (g.R.Source.left c.run.new.input) (g.W.Sink.written c.args.output.now) (g.W.Sink.written c.run.new.output) = search rules in
      is_framed_run limit _ _ _ _ whole;
  cuts = cuts_dont_matter;
  two_worlds = λ limit is done.
      let whole : RanWhole limit (g.R.Source.left c.args.input.now) (g.R.Source.left c.run.new.input) (g.W.Sink.written c.args.output.now) (g.W.Sink.written c.run.new.output) = search rules in
      keeps_levels limit _ _ _ _ whole;
  read = search rules;
  read_front = search rules;
  write = search rules;
  write_front = search rules;
  too_large = search rules;
  memory = search rules;
  complete = search rules;
  served = search rules;
  served_cut = search rules;
  unserved = search rules;
  site_fault = search rules;
  no_doors = search rules;
  serve_ends = search rules;
  usage = search rules;
  refused = search rules;
  text = search rules;
  other_input = search rules;
  other_site = search rules;
  unfailed = search rules;
  input_later = search rules;
  output_later = search rules;
  site_later = search rules;
}

pub returns-in-Ok-None : goal.returns-in-Ok-None
returns-in-Ok-None g c = record {
  done = search rules;
  told_by_bytes = search rules;
  framed = search rules;
  cuts = cuts_dont_matter;
  two_worlds = search rules;
  read = search rules;
  read_front = search rules;
  write = search rules;
  write_front = search rules;
  too_large = search rules;
  memory = search rules;
  complete = search rules;
  served = search rules;
  served_cut = search rules;
  unserved = search rules;
  site_fault = search rules;
  no_doors = search rules;
  serve_ends = search rules;
  usage = search rules;
  refused = search rules;
  text = λ is. subst (λ (o : Option Command). IsWritten (text_for o) c.write_usage.result (g.W.Sink.written c.args.output.now) (g.W.Sink.written c.write_usage.new.output))
      (sym c.in-Ok-None.field-0-is ∙ c.in-Ok-None.ensures.command) c.write_usage.ensures.text;
  other_input = search rules;
  other_site = search rules;
  unfailed = search rules;
  input_later = search rules;
  output_later = search rules;
  site_later = search rules;
}
