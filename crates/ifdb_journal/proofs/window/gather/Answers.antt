use Rattle.std.proofs.Common.{rules, ◌≡◌, ◌≤◌, ◌+◌, ◌-◌, ◌++◌, length, take, ap, sym, subst, ◌∙◌, arith, length-append}
use Rattle.std.proofs.lemmas.List.{length-take}
use Rattle.ifdb_disk.specs.Images.{Reads}
use Rattle.ifdb_disk.specs.Clock.{Now}
use Rattle.ifdb_journal.specs.Reading.{StandsAt}
use Rattle.ifdb_journal.proofs.Gather.{some_more, at_the_end, all_taken}
use Rattle.ifdb_journal.proofs.window.gather.Goals as goal

pub returns-then-count-eq0-clause-bytes : goal.returns-then-count-eq0-clause-bytes
returns-then-count-eq0-clause-bytes g c = λ stood.
    let t = g.D.Disk.tells c.args.disk.now in
    let text = c.loop-text.text.items in
    let chunk = c.read_some.new.chunk.items in
    let size : c.args.at + c.len-in-loop-text.result ≡ c.args.at + length text = grind arith in
    let read : Now t (Reads (c.args.at + length text) 0 (take (65550 - c.len-room.result) chunk)) =
    subst (λ n. Now t (Reads (c.args.at + length text) n (take (65550 - c.len-room.result) chunk))) c.if-count-eq0.true
    (subst (λ at. Now t (Reads at c.in_ok-count.count (take (65550 - c.len-room.result) chunk))) size
    (subst (λ v. Now v (Reads (c.args.at + c.len-in-loop-text.result) c.in_ok-count.count (take (65550 - c.len-room.result) chunk))) c.loop-text.invariant.still c.in_ok-count.ensures.bytes)) in
    at_the_end t c.args.at (65550 - c.len-room.result) text chunk (c.loop-text.invariant.bytes stood) read (grind arith) (grind arith) (grind arith)

pub loop-text-preserved : goal.loop-text-preserved
loop-text-preserved g c =
    let t = g.D.Disk.tells c.args.disk.now in
    let text = c.loop-text.text.items in
    let chunk = c.read_some.new.chunk.items in
    let size : c.args.at + c.len-in-loop-text.result ≡ c.args.at + length text = grind arith in
    let read : Now t (Reads (c.args.at + length text) c.in_ok-count.count (take (65550 - c.len-room.result) chunk)) =
    subst (λ at. Now t (Reads at c.in_ok-count.count (take (65550 - c.len-room.result) chunk))) size
    (subst (λ v. Now v (Reads (c.args.at + c.len-in-loop-text.result) c.in_ok-count.count (take (65550 - c.len-room.result) chunk))) c.loop-text.invariant.still c.in_ok-count.ensures.bytes) in
    let added : c.add.new.all.items ≡ text ++ take c.in_ok-count.count chunk = search rules in
    let within : c.in_ok-count.count ≤ length chunk = grind arith in
    let grown : length c.add.new.all.items ≡ length text + c.in_ok-count.count =
    omega (arith, ap length added, length-append text (take c.in_ok-count.count chunk), length-take c.in_ok-count.count chunk, within) in
    record {
      bytes = λ stood. subst (StandsAt t c.args.at) (sym added) (some_more t c.args.at c.in_ok-count.count (65550 - c.len-room.result) text chunk (c.loop-text.invariant.bytes stood) read (grind arith) within);
      most = grind (arith, grown);
      end = grind (arith, grown);
      still = search rules;
      room = grind arith;
      chunk = grind arith;
      kept = c.in_ok-count.ensures.cause.kept ∙ c.loop-text.invariant.kept;
    }

pub returns-clause-bytes : goal.returns-clause-bytes
returns-clause-bytes g c = λ stood. all_taken (g.D.Disk.tells c.args.disk.now) c.args.at c.loop-text.text.items (c.loop-text.invariant.bytes stood) (grind arith)
