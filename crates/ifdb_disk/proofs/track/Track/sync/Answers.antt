use Rattle.std.proofs.Common.{◌≡◌, ◌-◌, ◌++◌, ◌∷◌, [], All, ap, ◌∙◌, sym, subst, arith, length, drop, vec_len}
use Rattle.std.proofs.lemmas.List.{drop_all}
use Rattle.ifdb_disk.specs.Memory.{IsBelow, Past, begun, calls_of, played, total, ranges_of, syncs}
use Rattle.ifdb_disk.proofs.Calls.{total_sync, calls_sync, clock_sync, none_below}
use Rattle.ifdb_disk.proofs.track.Track.sync.Goals as goal

pub invariant_of-self : goal.invariant_of-self
invariant_of-self c =
    let inside = c.self.inside in
    let old = c.self.invariant in
    let clock = ap (λ d. played (begun inside.first.items) (calls_of d inside.log.items)) c.note.ensures.items ∙ clock_sync (begun inside.first.items) inside.done.items inside.log.items in
    let more : inside.most - vec_len inside.done ≡ c.args.self.now.more = ap (λ p. p.more) c.self.view_is in
    let behind : drop c.len-self-inside.result c.note.new.all.items ≡ [] = drop_all c.len-self-inside.result c.note.new.all.items (omega (arith, c.len-self-inside.ensures)) in (
      ap total c.note.ensures.items ∙ total_sync inside.done.items ∙ old.0,
      ap (λ k. k.now.bytes) clock ∙ old.1,
      ap (λ k. k.now.loose) clock ∙ ap ranges_of (sym behind),
      subst (All (IsBelow (length inside.bytes.items))) (sym behind) (none_below (length inside.bytes.items)),
      old.4,
      old.5,
      old.6,
      old.7,
      old.8,
      old.9,
      omega (arith, more, c.requires, c.note.ensures.len),
      omega (arith, old.11, c.note.ensures.room),
      omega (arith, c.len-self-inside.ensures),
    )

pub returns : goal.returns
returns c =
    let inside = c.self.inside in
    let calls = ap (λ d. calls_of d inside.log.items) c.note.ensures.items ∙ calls_sync inside.done.items inside.log.items in
    let less : inside.most - vec_len c.note.new.all ≡ inside.most - vec_len inside.done - 1 = omega (arith, c.note.ensures.len) in
    (λ i. record { first = inside.first.items; calls = calls i; room = inside.room - vec_len inside.log; more = less i })
    ∙ ap (λ (p : Past). record p { calls = p.calls ++ syncs ∷ []; more = p.more - 1 }) c.self.view_is
