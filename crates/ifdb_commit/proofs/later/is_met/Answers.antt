use Rattle.std.proofs.Common.{◌∙◌, ap, length}
use Rattle.ifdb_label.specs.Tags.{are_made}
use Rattle.ifdb_row.specs.declared.write.Write.{Write}
use Rattle.ifdb_row.specs.Writes.{are_rising}
use Rattle.ifdb_row.specs.Verdict.{meets}
use Rattle.ifdb_store.specs.Later.{are_writes_made}
use Rattle.ifdb_commit.specs.Meeting.{is_behind_key}
use Rattle.ifdb_commit.proofs.KeyLemmas.{skip_all, skip_rises, skip_meets}
use Rattle.ifdb_commit.proofs.later.is_met.Goals as goal

pub flows_to_some-requires-clause-own_made : goal.flows_to_some-requires-clause-own_made
flows_to_some-requires-clause-own_made c =
    ap (are_writes_made (length c.args.tags.now)) c.writes_from.ensures.writes
    ∙ skip_all (λ (w : Write). are_made (length c.args.tags.now) w.slot.label) (is_behind_key c.args.slot.now) c.args.own.now c.requires.own_made

pub flows_to_some-requires-clause-rising : goal.flows_to_some-requires-clause-rising
flows_to_some-requires-clause-rising c =
    ap are_rising c.writes_from.ensures.writes ∙ skip_rises (is_behind_key c.args.slot.now) c.args.own.now c.requires.rising

pub returns : goal.returns
returns c =
    c.flows_to_some.ensures
    ∙ (ap (λ ws. meets c.args.tags.now ws c.args.slot.now) c.writes_from.ensures.writes ∙ skip_meets c.args.slot.now c.args.tags.now c.args.own.now)
