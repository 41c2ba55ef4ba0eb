use Rattle.std.proofs.Common.{rules, ◌≡◌, ◌+◌, vec_len, [], inl, inr, subst, arith}
use Rattle.ifdb_io.specs.Causes.{WritesShort}
use Rattle.std.specs.Io.KnownBytes.{Appends}
use Rattle.ifdb_service.specs.Site.{Exchanges}
use Rattle.ifdb_service.specs.Summary.{listening_line, summary_text}
use Rattle.ifdb_service.proofs.AtSite.{exchanged, is_served}
use Rattle.ifdb_io.proofs.Behind.{all_then, short_then}
use Rattle.ifdb_service.proofs.service.serve.Goals as goal

pub serve_doors-requires-clause-keeper_shares : goal.serve_doors-requires-clause-keeper_shares
serve_doors-requires-clause-keeper_shares g c κs within = (vec_len c.in-Ok.doors + 1, tt, omega arith)

pub returns-in-Err-clause-cut : goal.returns-in-Err-clause-cut
returns-in-Err-clause-cut g c = λ _.
    let e = c.close-in-Err-2.ensures in
    let all = exchanged g.S.Site c.args.service c.args.site.now c.doors.new.self c.close-in-Err-2.new.self c.in-Ok.doors.items c.in-Ok.doors.items
    c.doors.ensures.asked e.asked (search rules) e.waiting c.doors.ensures.back e.back (search rules) in
    inl ((c.in-Ok.doors.items, all), search rules)

pub returns-in-Err-serve_doors-clause-memory : goal.returns-in-Err-serve_doors-clause-memory
returns-in-Err-serve_doors-clause-memory g c = λ _.
    let e = c.close-in-Err-serve_doors-2.ensures in
    let same : c.in-Err-serve_doors.field-0.doors ≡ c.in-Ok.doors = search rules in
    let all = exchanged g.S.Site c.args.service c.args.site.now c.doors.new.self c.close-in-Err-serve_doors-2.new.self c.in-Ok.doors.items c.in-Err-serve_doors.field-0.doors.items
    c.doors.ensures.asked e.asked (search rules) e.waiting c.doors.ensures.back e.back (search rules) in
    record {
      at_site = inr (c.in-Ok.doors.items, subst (λ d. Exchanges g.S.Site c.args.service c.args.site.now c.close-in-Err-serve_doors-2.new.self c.in-Ok.doors.items d.items) same all);
      written = inr (search rules);
    }

pub returns-in-Ok-write_summary-clause-done : goal.returns-in-Ok-write_summary-clause-done
returns-in-Ok-write_summary-clause-done g c = λ _.
    let e = c.close-in-Ok-serve_doors.ensures in
    let r = c.close-room.ensures in
    let s = c.serve_doors.ensures.sees in
    let all = exchanged g.S.Site c.args.service c.args.site.now c.doors.new.self c.close-in-Ok-serve_doors.new.self c.in-Ok.doors.items c.in-Ok-serve_doors.field-0.doors.items
    c.doors.ensures.asked e.asked (search rules) e.waiting c.doors.ensures.back e.back (search rules) in
    let line : Appends (g.W.Sink.written c.args.output.now) (g.W.Sink.written c.write_numbered.new.output) (listening_line c.args.service.port) = search rules in
    is_served g.S.Site g.S.Door.Door g.S.Door.Link.Source g.S.Door.Link.Sink [] (λ _. Unit {0}) ⊥ (Appends (g.W.Sink.written c.args.output.now) (g.W.Sink.written c.write_summary.new.output))
    c.args.service c.args.site.now c.close-in-Ok-serve_doors.new.self c.in-Ok.doors.items c.in-Ok-serve_doors.field-0.doors.items c.in-Ok-open_hall.pass c.serve_doors.new.pass c.in-Ok-serve_doors.field-0.faults c.counts.result
    all (search rules) (search rules) r.order r.own s.orderly.1 (c.counts.ensures _ r.stands)
    (all_then _ _ _ (listening_line c.args.service.port) (summary_text c.counts.result c.in-Ok-serve_doors.field-0.faults) line c.in-Ok-write_summary.ensures.ok)

pub returns-clause-cut : goal.returns-clause-cut
returns-clause-cut g c = λ _.
    let e = c.close-in-Ok-serve_doors.ensures in
    let r = c.close-room.ensures in
    let s = c.serve_doors.ensures.sees in
    let all = exchanged g.S.Site c.args.service c.args.site.now c.doors.new.self c.close-in-Ok-serve_doors.new.self c.in-Ok.doors.items c.in-Ok-serve_doors.field-0.doors.items
    c.doors.ensures.asked e.asked (search rules) e.waiting c.doors.ensures.back e.back (search rules) in
    let line : Appends (g.W.Sink.written c.args.output.now) (g.W.Sink.written c.write_numbered.new.output) (listening_line c.args.service.port) = search rules in
    inr (is_served g.S.Site g.S.Door.Door g.S.Door.Link.Source g.S.Door.Link.Sink [] (λ _. Unit {0}) ⊥ (WritesShort (g.W.Sink.written c.args.output.now) (g.W.Sink.written c.write_summary.new.output))
    c.args.service c.args.site.now c.close-in-Ok-serve_doors.new.self c.in-Ok.doors.items c.in-Ok-serve_doors.field-0.doors.items c.in-Ok-open_hall.pass c.serve_doors.new.pass c.in-Ok-serve_doors.field-0.faults c.counts.result
    all (search rules) (search rules) r.order r.own s.orderly.1 (c.counts.ensures _ r.stands)
    (short_then _ _ _ (listening_line c.args.service.port) (summary_text c.counts.result c.in-Ok-serve_doors.field-0.faults) line c.in-Err-write_summary.ensures.err))
