use Rattle.std.proofs.Common.{rules, refl, sym, subst, length, ◌∙◌}
use Rattle.ifdb_turn.specs.Histories.{NoRootsFrom}
use Rattle.ifdb_turn.specs.Passes.{history, places}
use Rattle.ifdb_durable.specs.Told.{Begins}
use Rattle.ifdb_durable.proofs.Away.{away_none, away_on}
use Rattle.ifdb_durable.proofs.Begins.{prefix_all, prefix_on, begins_all, begins_on}
use Rattle.ifdb_durable.proofs.group.GroupCommit.settle.Goals as goal

pub loop-init : goal.loop-init
loop-init g c = (
  tt,
  tt,
  c.requires.member,
  c.requires.room,
  prefix_all (history c.args.pass.now),
  begins_all c.args.member.now.receipt,
  refl,
  (λ o. o),
  refl,
  away_none g.O.Object.root (history c.args.pass.now) (places c.args.pass.now),
  refl,
)

pub loop-preserved-in-Ok : goal.loop-preserved-in-Ok
loop-preserved-in-Ok g c =
    let i = c.loop.invariant in
    let e = c.lead.ensures in (
      tt,
      tt,
      e.member,
      e.room,
      prefix_on (history c.args.pass.now) (history c.loop.pass) (history c.lead.new.pass) i.4 e.sees,
      subst (Begins c.args.member.now.receipt) (sym e.receipt)
          (begins_on c.args.member.now.receipt c.look.new.receipt c.has_failed.new.receipt
          (begins_on c.args.member.now.receipt c.loop.member.receipt c.look.new.receipt i.5 c.look.ensures.more) c.has_failed.ensures.more),
      e.shares ∙ i.6,
      (λ o. e.orderly (i.7 o)),
      e.places ∙ i.8,
      away_on g.O.Object.root (history c.args.pass.now) (history c.loop.pass) (history c.lead.new.pass) (places c.args.pass.now) e.sees i.9
          (subst (NoRootsFrom g.O.Object.root (history c.lead.new.pass) (length (history c.loop.pass))) i.8 e.away),
      search rules,
    )
