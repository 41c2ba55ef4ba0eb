use Rattle.std.proofs.Common.{rules, ◌≡◌, ◌≤◌, [], ◌++◌, refl, sym, ap, subst, ◌∙◌}
use Rattle.ifdb_turn.specs.Passes.{history, places}
use Rattle.ifdb_history.specs.Lines.{work_lines}
use Rattle.ifdb_session.specs.Acknowledged.{AllKept, AllButLastKept}
use Rattle.ifdb_session.specs.Closings.{AsksBye}
use Rattle.ifdb_session.specs.Passes.{Adds}
use Rattle.ifdb_session.specs.Seats.{work_of, lines_in}
use Rattle.ifdb_session.proofs.Passes.{sees_itself, sees_on, adds_none, adds_on, left_so}
use Rattle.ifdb_session.proofs.Sources.{kept_none}
use Rattle.ifdb_session.proofs.Talking.{within_limit, talks_first}
use Rattle.ifdb_session.proofs.Endings.{goes_on, ends_by_bye, ends_at_end, ends_unkept, ends_unwritten, ends_too_long, ends_too_long_unwritten, ends_unread, ends_past_limit}
use Rattle.ifdb_session.proofs.link.talk.Goals as goal

pub loop-pass-init : goal.loop-pass-init
loop-pass-init g c = record {
  sees = sees_itself g.Q.Records.first c.args.hall.now c.args.pass.now c.requires.pass c.requires.orderly;
  adds = adds_none c.args.seat.now.number c.args.pass.now;
  number = refl;
  seated = c.requires.seated;
  limit = refl;
  talks = (
    [],
    c.requires.no_texts,
    talks_first (lines_in (history c.args.pass.now) c.args.seat.now) [] c.args.reader.now (g.K.Source.left c.args.link.now) (g.K.Sink.written c.args.link.now) c.requires.no_lines refl c.requires.reader,
  );
  ready = c.requires.keeper;
  goes_on = g.met.S.Settles.goes_itself c.args.keeper.now;
  shares = λ n has. has;
  kept = kept_none g.Q.Records g.S.Settles c.args.seat.now.number (history c.args.pass.now) (work_lines (work_of c.args.seat.now)) c.args.keeper.now c.requires.no_lines;
  unfailed = refl;
  writes = search rules;
}

pub loop-pass-preserved : goal.loop-pass-preserved
loop-pass-preserved g c =
    let i = c.loop-pass.invariant in
    let e = c.answer-is_open.ensures.asks in
    let written : g.K.Sink.written c.next.new.source ≡ g.K.Sink.written c.loop-pass.link = search rules in
    record {
      sees = sees_on g.Q.Records.first c.args.hall.now _ _ _ i.sees e.sees;
      adds = adds_on c.args.seat.now.number _ _ _ i.adds (subst (λ n. Adds n c.loop-pass.pass c.answer-is_open.new.pass) i.number e.adds) e.sees.begins;
      number = e.number ∙ i.number;
      seated = e.seated (search rules);
      limit = search rules;
      talks = (
        i.talks.0 ++ c.answer-is_open.new.out.text,
        e.texts i.talks.0 i.talks.1,
        goes_on 0 (lines_in (history c.loop-pass.pass) c.loop-pass.seat) i.talks.0 c.loop-pass.reader c.next.new.self _ _ _ _ _ _ i.talks.2 written
            (lines_in (history c.answer-is_open.new.pass) c.answer-is_open.new.seat) (i.talks.0 ++ c.answer-is_open.new.out.text) c.answer-is_open.new.out.text _ _ c.answer-is_open.ensures.left (c.next.ensures.whole (search rules)) (c.next.ensures.whole_line (search rules)) e.lines refl (c.answer-is_open.ensures.written (search rules))
            (search rules) (c.next.ensures.whole_kept (search rules)),
      );
      ready = c.answer-is_open.ensures.keeper.0;
      goes_on = g.met.S.Settles.goes_further _ _ _ i.goes_on c.answer-is_open.ensures.keeper.1;
      shares = λ n has. c.answer-is_open.ensures.keeper.2 n (i.shares n has);
      kept = subst (λ n. AllKept g.Q.Records g.S.Settles n (history c.answer-is_open.new.pass) c.answer-is_open.new.keeper) i.number
          (c.answer-is_open.ensures.kept (search rules) (subst (λ n. AllKept g.Q.Records g.S.Settles n (history c.loop-pass.pass) c.loop-pass.keeper) (sym i.number) i.kept));
      unfailed = search rules;
      writes = search rules;
    }

pub returns-then-not-is_written-clause-sees : goal.returns-then-not-is_written-clause-sees
returns-then-not-is_written-clause-sees g c = sees_on g.Q.Records.first c.args.hall.now _ _ _ c.loop-pass.invariant.sees c.answer-is_open.ensures.asks.sees

pub returns-then-not-is_written-clause-adds : goal.returns-then-not-is_written-clause-adds
returns-then-not-is_written-clause-adds g c =
    let i = c.loop-pass.invariant in
    let e = c.answer-is_open.ensures.asks in
    adds_on c.args.seat.now.number _ _ _ i.adds (subst (λ n. Adds n c.loop-pass.pass c.answer-is_open.new.pass) i.number e.adds) e.sees.begins

pub returns-then-not-is_open-clause-sees : goal.returns-then-not-is_open-clause-sees
returns-then-not-is_open-clause-sees g c = sees_on g.Q.Records.first c.args.hall.now _ _ _ c.loop-pass.invariant.sees c.answer-is_open.ensures.asks.sees

pub returns-then-not-is_open-clause-adds : goal.returns-then-not-is_open-clause-adds
returns-then-not-is_open-clause-adds g c =
    let i = c.loop-pass.invariant in
    let e = c.answer-is_open.ensures.asks in
    adds_on c.args.seat.now.number _ _ _ i.adds (subst (λ n. Adds n c.loop-pass.pass c.answer-is_open.new.pass) i.number e.adds) e.sees.begins

pub returns-then-not-is_written-clause-talked : goal.returns-then-not-is_written-clause-talked
returns-then-not-is_written-clause-talked g c =
    let i = c.loop-pass.invariant in
    let few : c.next.new.self.taken ≤ c.args.reader.now.limit = within_limit (c.next.ensures.within (search rules)) (c.next.ensures.limit ∙ i.limit) in
    let e = c.answer-is_open.ensures.asks in
    let written : g.K.Sink.written c.next.new.source ≡ g.K.Sink.written c.loop-pass.link = search rules in (
      (
        i.talks.0 ++ c.answer-is_open.new.out.text,
        e.texts i.talks.0 i.talks.1,
        ends_unwritten c.args.reader.now.limit (lines_in (history c.loop-pass.pass) c.loop-pass.seat) i.talks.0 c.loop-pass.reader c.next.new.self _ _ _ _ _ _ i.talks.2 written
            (lines_in (history c.answer-is_open.new.pass) c.answer-is_open.new.seat) (i.talks.0 ++ c.answer-is_open.new.out.text) c.answer-is_open.new.out.text _ _ c.answer-is_open.ensures.left (c.next.ensures.whole (search rules)) (c.next.ensures.whole_line (search rules)) e.lines refl few e.reply.0 e.reply.1 (c.answer-is_open.ensures.unwritten (search rules) (search rules)),
      ),
      left_so g.Q.Records.first (history c.answer-is_open.new.pass) (places c.answer-is_open.new.pass) c.answer-is_open.new.seat c.answer-is_open.result.is_open _ _ e.seated e.over
          (λ o. subst (λ n. AsksBye n (history c.answer-is_open.new.pass) c.next.new.self.text) (sym e.number) (e.bye o)) e.lines,
      tt,
    )

pub returns-then-not-is_open-clause-talked : goal.returns-then-not-is_open-clause-talked
returns-then-not-is_open-clause-talked g c =
    let i = c.loop-pass.invariant in
    let few : c.next.new.self.taken ≤ c.args.reader.now.limit = within_limit (c.next.ensures.within (search rules)) (c.next.ensures.limit ∙ i.limit) in
    let e = c.answer-is_open.ensures.asks in
    let written : g.K.Sink.written c.next.new.source ≡ g.K.Sink.written c.loop-pass.link = search rules in (
      (
        i.talks.0 ++ c.answer-is_open.new.out.text,
        e.texts i.talks.0 i.talks.1,
        ends_by_bye c.args.reader.now.limit (lines_in (history c.loop-pass.pass) c.loop-pass.seat) i.talks.0 c.loop-pass.reader c.next.new.self _ _ _ _ _ _ i.talks.2 written
            (lines_in (history c.answer-is_open.new.pass) c.answer-is_open.new.seat) (i.talks.0 ++ c.answer-is_open.new.out.text) c.answer-is_open.new.out.text _ _ c.answer-is_open.ensures.left (c.next.ensures.whole (search rules)) (c.next.ensures.whole_line (search rules)) e.lines refl few (c.answer-is_open.ensures.written (search rules))
            (search rules) (c.next.ensures.whole_kept (search rules)),
      ),
      left_so g.Q.Records.first (history c.answer-is_open.new.pass) (places c.answer-is_open.new.pass) c.answer-is_open.new.seat c.answer-is_open.result.is_open _ _ e.seated e.over
          (λ o. subst (λ n. AsksBye n (history c.answer-is_open.new.pass) c.next.new.self.text) (sym e.number) (e.bye o)) e.lines,
      search rules,
    )

pub returns-in-Ok-clause-talked : goal.returns-in-Ok-clause-talked
returns-in-Ok-clause-talked g c =
    let i = c.loop-pass.invariant in
    let few : c.next.new.self.taken ≤ c.args.reader.now.limit = within_limit (c.next.ensures.within (search rules)) (c.next.ensures.limit ∙ i.limit) in
    let written : g.K.Sink.written c.next.new.source ≡ g.K.Sink.written c.loop-pass.link = search rules in (
      (
        i.talks.0,
        i.talks.1,
        ends_too_long c.args.reader.now.limit (lines_in (history c.loop-pass.pass) c.loop-pass.seat) i.talks.0 c.loop-pass.reader c.next.new.self _ _ _ _ _ _ i.talks.2 written
            _ _ c.refuse_long.ensures.left (c.next.ensures.long (search rules)) (c.next.ensures.long_line (search rules)) few (search rules),
      ),
      i.seated,
      refl,
    )

pub returns-in-Err-clause-talked : goal.returns-in-Err-clause-talked
returns-in-Err-clause-talked g c =
    let i = c.loop-pass.invariant in
    let few : c.next.new.self.taken ≤ c.args.reader.now.limit = within_limit (c.next.ensures.within (search rules)) (c.next.ensures.limit ∙ i.limit) in
    let written : g.K.Sink.written c.next.new.source ≡ g.K.Sink.written c.loop-pass.link = search rules in (
      (
        i.talks.0,
        i.talks.1,
        ends_too_long_unwritten c.args.reader.now.limit (lines_in (history c.loop-pass.pass) c.loop-pass.seat) i.talks.0 c.loop-pass.reader c.next.new.self _ _ _ _ _ _ i.talks.2 written
            _ _ c.refuse_long.ensures.left (c.next.ensures.long (search rules)) (c.next.ensures.long_line (search rules)) few (search rules),
      ),
      i.seated,
      tt,
    )

pub returns-in-Err-Read-clause-talked : goal.returns-in-Err-Read-clause-talked
returns-in-Err-Read-clause-talked g c =
    let i = c.loop-pass.invariant in
    let few : c.next.new.self.taken ≤ c.args.reader.now.limit = within_limit (c.next.ensures.within (search rules)) (c.next.ensures.limit ∙ i.limit) in
    let written : g.K.Sink.written c.next.new.source ≡ g.K.Sink.written c.loop-pass.link = search rules in (
      (i.talks.0, i.talks.1, ends_unread c.args.reader.now.limit (lines_in (history c.loop-pass.pass) c.loop-pass.seat) i.talks.0 c.loop-pass.reader c.next.new.self _ _ _ _ _ _ i.talks.2 written (c.next.ensures.read (search rules)) few),
      i.seated,
      refl,
    )

pub returns-in-Err-TooMuch-clause-talked : goal.returns-in-Err-TooMuch-clause-talked
returns-in-Err-TooMuch-clause-talked g c =
    let i = c.loop-pass.invariant in
    let written : g.K.Sink.written c.next.new.source ≡ g.K.Sink.written c.loop-pass.link = search rules in
    let limit = c.next.ensures.limit ∙ i.limit in (
      (i.talks.0, i.talks.1, ends_past_limit c.args.reader.now.limit (lines_in (history c.loop-pass.pass) c.loop-pass.seat) i.talks.0 c.loop-pass.reader c.next.new.self _ _ _ _ _ _ i.talks.2 written (c.next.ensures.much (search rules)) limit),
      i.seated,
      refl,
    )

pub returns-in-Ok-Rest-clause-talked : goal.returns-in-Ok-Rest-clause-talked
returns-in-Ok-Rest-clause-talked g c =
    let i = c.loop-pass.invariant in
    let few : c.next.new.self.taken ≤ c.args.reader.now.limit = within_limit (c.next.ensures.within (search rules)) (c.next.ensures.limit ∙ i.limit) in
    let written : g.K.Sink.written c.next.new.source ≡ g.K.Sink.written c.loop-pass.link = search rules in (
      (
        i.talks.0,
        i.talks.1,
        ends_at_end c.args.reader.now.limit (lines_in (history c.loop-pass.pass) c.loop-pass.seat) i.talks.0 c.loop-pass.reader c.next.new.self _ _ _ _ _ _ i.talks.2 written (c.next.ensures.rest (search rules)) few (c.next.ensures.rest_last (search rules)),
      ),
      i.seated,
      refl,
    )

pub returns-then-not-is_kept-clause-sees : goal.returns-then-not-is_kept-clause-sees
returns-then-not-is_kept-clause-sees g c = sees_on g.Q.Records.first c.args.hall.now _ _ _ c.loop-pass.invariant.sees c.answer-is_open.ensures.asks.sees

pub returns-then-not-is_kept-clause-adds : goal.returns-then-not-is_kept-clause-adds
returns-then-not-is_kept-clause-adds g c =
    let i = c.loop-pass.invariant in
    let e = c.answer-is_open.ensures.asks in
    adds_on c.args.seat.now.number _ _ _ i.adds (subst (λ n. Adds n c.loop-pass.pass c.answer-is_open.new.pass) i.number e.adds) e.sees.begins

pub returns-then-not-is_kept-clause-acknowledged : goal.returns-then-not-is_kept-clause-acknowledged
returns-then-not-is_kept-clause-acknowledged g c =
    let i = c.loop-pass.invariant in
    subst (λ n. AllButLastKept g.Q.Records g.S.Settles n (history c.answer-is_open.new.pass) c.answer-is_open.new.keeper) i.number
    (c.answer-is_open.ensures.unkept (search rules) (subst (λ n. AllKept g.Q.Records g.S.Settles n (history c.loop-pass.pass) c.loop-pass.keeper) (sym i.number) i.kept))

pub returns-then-not-is_kept-clause-talked : goal.returns-then-not-is_kept-clause-talked
returns-then-not-is_kept-clause-talked g c =
    let i = c.loop-pass.invariant in
    let few : c.next.new.self.taken ≤ c.args.reader.now.limit = within_limit (c.next.ensures.within (search rules)) (c.next.ensures.limit ∙ i.limit) in
    let e = c.answer-is_open.ensures.asks in
    let written : g.K.Sink.written c.next.new.source ≡ g.K.Sink.written c.loop-pass.link = search rules in
    let held : g.K.Sink.written c.answer-is_open.new.link ≡ g.K.Sink.written c.next.new.source = ap g.K.Sink.written (c.answer-is_open.ensures.held (search rules)) in (
      (
        i.talks.0 ++ c.answer-is_open.new.out.text,
        e.texts i.talks.0 i.talks.1,
        ends_unkept c.args.reader.now.limit (lines_in (history c.loop-pass.pass) c.loop-pass.seat) i.talks.0 c.loop-pass.reader c.next.new.self _ _ _ _ _ _ i.talks.2 written
            (lines_in (history c.answer-is_open.new.pass) c.answer-is_open.new.seat) (i.talks.0 ++ c.answer-is_open.new.out.text) c.answer-is_open.new.out.text _ _ c.answer-is_open.ensures.left (c.next.ensures.whole (search rules)) (c.next.ensures.whole_line (search rules)) e.lines refl few e.reply.0 e.reply.1 held,
      ),
      left_so g.Q.Records.first (history c.answer-is_open.new.pass) (places c.answer-is_open.new.pass) c.answer-is_open.new.seat c.answer-is_open.result.is_open _ _ e.seated e.over
          (λ o. subst (λ n. AsksBye n (history c.answer-is_open.new.pass) c.next.new.self.text) (sym e.number) (e.bye o)) e.lines,
      tt,
    )

pub returns-then-not-is_written-clause-acknowledged : goal.returns-then-not-is_written-clause-acknowledged
returns-then-not-is_written-clause-acknowledged g c =
    let i = c.loop-pass.invariant in
    subst (λ n. AllKept g.Q.Records g.S.Settles n (history c.answer-is_open.new.pass) c.answer-is_open.new.keeper) i.number
    (c.answer-is_open.ensures.kept (search rules) (subst (λ n. AllKept g.Q.Records g.S.Settles n (history c.loop-pass.pass) c.loop-pass.keeper) (sym i.number) i.kept))

pub returns-then-not-is_open-clause-acknowledged : goal.returns-then-not-is_open-clause-acknowledged
returns-then-not-is_open-clause-acknowledged g c =
    let i = c.loop-pass.invariant in
    subst (λ n. AllKept g.Q.Records g.S.Settles n (history c.answer-is_open.new.pass) c.answer-is_open.new.keeper) i.number
    (c.answer-is_open.ensures.kept (search rules) (subst (λ n. AllKept g.Q.Records g.S.Settles n (history c.loop-pass.pass) c.loop-pass.keeper) (sym i.number) i.kept))

pub returns-then-not-is_kept-clause-keeper : goal.returns-then-not-is_kept-clause-keeper
returns-then-not-is_kept-clause-keeper g c =
    let i = c.loop-pass.invariant in
    let k = c.answer-is_open.ensures.keeper in
    (k.0, g.met.S.Settles.goes_further _ _ _ i.goes_on k.1, λ n has. k.2 n (i.shares n has))

pub returns-then-not-is_written-clause-keeper : goal.returns-then-not-is_written-clause-keeper
returns-then-not-is_written-clause-keeper g c =
    let i = c.loop-pass.invariant in
    let k = c.answer-is_open.ensures.keeper in
    (k.0, g.met.S.Settles.goes_further _ _ _ i.goes_on k.1, λ n has. k.2 n (i.shares n has))

pub returns-then-not-is_open-clause-keeper : goal.returns-then-not-is_open-clause-keeper
returns-then-not-is_open-clause-keeper g c =
    let i = c.loop-pass.invariant in
    let k = c.answer-is_open.ensures.keeper in
    (k.0, g.met.S.Settles.goes_further _ _ _ i.goes_on k.1, λ n has. k.2 n (i.shares n has))
