use Rattle.std.proofs.Common.{rules, ◌≡◌, ◌-◌, ◌≤◌, length, ◌∙◌, arith}
use Rattle.std.proofs.lemmas.Grind.{common_steps}
use Rattle.ifdb_keyed.proofs.Fronts.{read_more}
use Rattle.ifdb_keyed.proofs.key_file.read_front.Goals as goal

pub loop-count-preserved : goal.loop-count-preserved
loop-count-preserved g c =
    let count = c.loop-count.count in
    let more = c.in_ok-more.more in
    let t = g.D.Disk.tells c.args.disk.now in
    let size : length c.read.new.buf ≡ length c.loop-count.buf - count = search rules in
    let few : more ≤ length c.read.new.buf = c.in_ok-more.ensures.bound.0 in
    record {
      within = first_of (search rules, grind (arith, common_steps));
      bytes = read_more t (g.D.Disk.tells c.loop-count.disk) count more c.loop-count.buf c.read.new.buf c.loop-count.invariant.still c.loop-count.invariant.within size few c.loop-count.invariant.bytes c.in_ok-more.ensures.bytes;
      still = c.read.ensures.still ∙ c.loop-count.invariant.still;
      calm = first_of (search rules, grind (arith, common_steps));
    }
