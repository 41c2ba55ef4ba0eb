use Rattle.std.proofs.Common.{◌≡◌, ◌≤◌, ◌-◌, ◌++◌, ◌∷◌, [], All, ap, ◌∙◌, sym, subst, arith, length, drop, vec_len, refl}
use Rattle.ifdb_disk.specs.Images.{overwritten}
use Rattle.ifdb_disk.specs.Memory.{IsBelow, Past, begun, calls_of, played, total, ranges_of, writes}
use Rattle.ifdb_disk.proofs.Calls.{total_more, calls_write, clock_write, loose_more, below_more}
use Rattle.ifdb_disk.proofs.track.Track.write.Goals as goal

pub invariant_of-self : goal.invariant_of-self
invariant_of-self c =
    let inside = c.self.inside in
    let old = c.self.invariant in
    let bytes = c.args.bytes.now in
    let begin = begun inside.first.items in
    let before = played begin (calls_of inside.done.items inside.log.items) in
    let clock = (λ i. played begin (calls_of (c.note.ensures.items i) (c.add.ensures.items i))) ∙ clock_write begin inside.done.items inside.log.items bytes c.args.at (length bytes) old.0 refl in
    let left : inside.room - vec_len inside.log ≡ c.args.self.now.room = ap (λ p. p.room) c.self.view_is in
    let more : inside.most - vec_len inside.done ≡ c.args.self.now.more = ap (λ p. p.more) c.self.view_is in
    let within : c.args.at ≤ length before.now.bytes = subst (λ (p : Past). c.args.at ≤ length (played (begun p.first) p.calls).now.bytes) (sym c.self.view_is) c.requires.at in (
      omega (arith, ap total c.note.ensures.items, total_more inside.done.items c.args.at (length bytes), old.0, c.add.ensures.len, ap length c.add.ensures.items),
      ap (λ k. k.now.bytes) clock ∙ ap (λ b. overwritten b c.args.at bytes) old.1 ∙ sym c.overwrite.ensures.items,
      ap (λ k. k.now.loose) clock ∙ loose_more before inside.done.items inside.settled c.args.at bytes within (omega (arith, old.12)) old.2 ∙ ap (λ l. ranges_of (drop inside.settled l)) (sym c.note.ensures.items),
      subst (λ l. All (IsBelow (length c.overwrite.new.all.items)) (drop inside.settled l)) (sym c.note.ensures.items)
          (below_more inside.done.items inside.settled c.args.at (length bytes) (length inside.bytes.items) (length c.overwrite.new.all.items) (omega (arith, old.12)) (omega (arith, c.overwrite.ensures.longer)) (omega (arith, c.overwrite.ensures.below)) old.3),
      omega (arith, left, c.requires.room, c.add.ensures.len),
      omega (arith, old.5, c.add.ensures.room),
      omega (arith, old.6, c.overwrite.ensures.len, c.add.ensures.len),
      omega (arith, old.7, c.overwrite.ensures.room),
      old.8,
      old.9,
      omega (arith, more, c.requires.more, c.note.ensures.len),
      omega (arith, old.11, c.note.ensures.room),
      omega (arith, old.12, c.note.ensures.len),
    )

pub returns-clause-track : goal.returns-clause-track
returns-clause-track c =
    let inside = c.self.inside in
    let old = c.self.invariant in
    let bytes = c.args.bytes.now in
    let calls = (λ i. calls_of (c.note.ensures.items i) (c.add.ensures.items i)) ∙ calls_write inside.done.items inside.log.items bytes c.args.at (length bytes) old.0 refl in
    let room : inside.room - vec_len c.add.new.all ≡ inside.room - vec_len inside.log - length bytes = omega (arith, c.add.ensures.len) in
    let less : inside.most - vec_len c.note.new.all ≡ inside.most - vec_len inside.done - 1 = omega (arith, c.note.ensures.len) in
    (λ i. record { first = inside.first.items; calls = calls i; room = room i; more = less i })
    ∙ ap (λ (p : Past). record p { calls = p.calls ++ writes c.args.at bytes ∷ []; room = p.room - length bytes; more = p.more - 1 }) c.self.view_is

pub returns-clause-bound : goal.returns-clause-bound
returns-clause-bound c =
    let old = c.self.invariant in
    let left : c.self.inside.room - vec_len c.self.inside.log ≡ c.args.self.now.room = ap (λ p. p.room) c.self.view_is in
    omega (arith, left, c.requires.room, old.4, old.6, old.9, c.overwrite.ensures.below, c.overwrite.ensures.len)
