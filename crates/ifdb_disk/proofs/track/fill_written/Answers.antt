use Rattle.std.proofs.Common.{rules, ◌≡◌, ◌<◌, ◌≤◌, ◌+◌, ◌++◌, ◌∷◌, [], ℕ, List, length, replicate, take, vec_len, vec_capacity, get_or, sym, ap, subst, ◌∙◌, arith}
use Rattle.std.proofs.lemmas.List.{take_more, take_all}
use Rattle.ifdb_disk.specs.Images.{Range, filled_from, overwritten}
use Rattle.ifdb_disk.specs.Memory.{IsBelow, ranges_of}
use Rattle.ifdb_disk.specs.declared.track.Done.{Done}
use Rattle.ifdb_disk.specs.declared.track.Done.TheVariants as done
use Rattle.ifdb_disk.proofs.Calls.{ranges_more, ranges_sync}
use Rattle.ifdb_disk.proofs.Fill.{fill_more, fill_none}
use Rattle.ifdb_disk.proofs.track.fill_written.Goals.{in-Write, in-Sync}
use Rattle.ifdb_disk.proofs.track.fill_written.Goals as goal

pub loop-call-init : goal.loop-call-init
loop-call-init c = record { items = sym (fill_none 0 c.args.fill c.args.bytes.now.items); len = search rules; room = omega arith }

one_more : (fill at len i : ℕ) (calls : List Done) (first now then : List ℕ) → i < length calls → get_or calls i (done.Write 0 0) ≡ done.Write at len → at + len ≤ length first
    → now ≡ filled_from 0 (ranges_of (take i calls)) fill first → then ≡ overwritten now at (replicate len fill) → then ≡ filled_from 0 (ranges_of (take (i + 1) calls)) fill first
one_more fill at len i calls first now then lt is within so_far put =
    let r : Range = record { at = at; len = len } in
    let ranges : ranges_of (take (i + 1) calls) ≡ r ∷ ranges_of (take i calls) =
    ap ranges_of (take_more calls i (done.Write 0 0) lt) ∙ ap (λ call. ranges_of (take i calls ++ call ∷ [])) is ∙ ranges_more (take i calls) at len in
    put ∙ ap (λ l. overwritten l at (replicate len fill)) so_far ∙ fill_more r (ranges_of (take i calls)) fill first within ∙ ap (λ rs. filled_from 0 rs fill first) (sym ranges)

a_sync : (fill i : ℕ) (calls : List Done) (first now : List ℕ) → i < length calls → get_or calls i (done.Write 0 0) ≡ done.Sync
    → now ≡ filled_from 0 (ranges_of (take i calls)) fill first → now ≡ filled_from 0 (ranges_of (take (i + 1) calls)) fill first
a_sync fill i calls first now lt is so_far =
    let ranges : ranges_of (take (i + 1) calls) ≡ ranges_of (take i calls) =
    ap ranges_of (take_more calls i (done.Write 0 0) lt) ∙ ap (λ call. ranges_of (take i calls ++ call ∷ [])) is ∙ ranges_sync (take i calls) in
    so_far ∙ ap (λ rs. filled_from 0 rs fill first) (sym ranges)

pub loop-call-preserved : goal.loop-call-preserved
loop-call-preserved c = elim c.match-call.branch [
  | in-Write w ↦
      let i = c.loop-call.call-index in
      let within : w.in-Write.at + w.in-Write.len ≤ length c.args.bytes.now.items = subst (IsBelow (length c.args.bytes.now.items)) w.in-Write.is (c.requires i (done.Write 0 0) c.loop-call-test.true) in
      record {
        items = ap (λ v. v.items) w.bytes-is ∙ one_more c.args.fill w.in-Write.at w.in-Write.len i c.args.done.now c.args.bytes.now.items c.loop-call.bytes.items _ c.loop-call-test.true w.in-Write.is within c.loop-call.invariant.items w.fill_range.ensures.items;
        len = ap vec_len w.bytes-is ∙ w.fill_range.ensures.len ∙ c.loop-call.invariant.len;
        room = omega (arith, ap vec_capacity w.bytes-is, w.fill_range.ensures.room, c.loop-call.invariant.room);
      }
  | in-Sync w ↦ record {
    items = ap (λ v. v.items) w.bytes-is ∙ a_sync c.args.fill c.loop-call.call-index c.args.done.now c.args.bytes.now.items c.loop-call.bytes.items c.loop-call-test.true w.in-Sync.is c.loop-call.invariant.items;
    len = ap vec_len w.bytes-is ∙ c.loop-call.invariant.len;
    room = omega (arith, ap vec_capacity w.bytes-is, c.loop-call.invariant.room);
  }
]

pub returns-clause-items : goal.returns-clause-items
returns-clause-items c =
    let all : take c.loop-call.call-index c.args.done.now ≡ c.args.done.now = take_all c.loop-call.call-index c.args.done.now c.loop-call-test.false in
    c.loop-call.invariant.items ∙ ap (λ l. filled_from 0 (ranges_of l) c.args.fill c.args.bytes.now.items) all
