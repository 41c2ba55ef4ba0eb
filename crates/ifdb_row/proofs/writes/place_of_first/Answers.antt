use Rattle.std.proofs.Common.{◌++◌, ◌∙◌, ap, sym, take, drop}
use Rattle.ifdb_row.specs.declared.write.Write.{Write}
use Rattle.ifdb_row.specs.Reach.{reach}
use Rattle.ifdb_row.specs.Slots.{slot_lt}
use Rattle.ifdb_row.specs.Writes.{merged}
use Rattle.ifdb_row.proofs.Merging.{merged_past, none_before_first}
use Rattle.ifdb_row.proofs.writes.place_of_first.Goals as goal

pub returns-in-len1-up-clause-cut : goal.returns-in-len1-up-clause-cut
returns-in-len1-up-clause-cut c =
    merged_past c.first-item.result.slot c.args.items.now c.args.later.now (none_before_first c.args.later.now c.first-item.result c.first-item.is c.requires.later_rising)
    ∙ ap (λ n. take n c.args.items.now ++ merged (drop n c.args.items.now) c.args.later.now) (sym (c.place_of.ensures.place ∙ ap (λ q. reach (λ (w : Write). slot_lt w.slot q) c.args.items.now) c.by_ref.ensures))
