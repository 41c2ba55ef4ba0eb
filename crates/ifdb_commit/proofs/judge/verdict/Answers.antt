use Rattle.std.proofs.Common.{sym, ap, ◌∙◌}
use Rattle.std.specs.Prelude.{find}
use Rattle.ifdb_row.specs.declared.write.Write.{Write}
use Rattle.ifdb_row.specs.Content.{after}
use Rattle.ifdb_row.specs.Verdict.{is_above, is_broken, first_left}
use Rattle.ifdb_store.specs.Kept.{trimmed}
use Rattle.ifdb_commit.proofs.JudgeLemmas.{above, met, broken, left, goes}
use Rattle.ifdb_commit.proofs.judge.verdict.Goals as goal

pub returns-in-Some-clause-verdict : goal.returns-in-Some-clause-verdict
returns-in-Some-clause-verdict c =
    above c.args.tags.now c.args.store.now.rows (trimmed c.args.begin c.args.store.now.commits) c.args.writes.now c.args.label.now c.in-Some.write.now
    (sym (c.in-Some.ensures ∙ ap (find (is_above c.args.tags.now c.args.label.now)) c.items.ensures.items))

pub returns-in-Some-newer-clause-verdict : goal.returns-in-Some-newer-clause-verdict
returns-in-Some-newer-clause-verdict c =
    met c.args.tags.now c.args.store.now.rows (trimmed c.args.begin c.args.store.now.commits) c.args.writes.now c.args.label.now
    (sym (c.in_default.ensures ∙ ap (find (is_above c.args.tags.now c.args.label.now)) c.items.ensures.items))
    (record { slot = c.in-Some-newer.newer.slot.now; stamp = c.in-Some-newer.newer.stamp }) c.in-Some-newer.ensures

pub returns-in-Some-first_broken-clause-verdict : goal.returns-in-Some-first_broken-clause-verdict
returns-in-Some-first_broken-clause-verdict c =
    broken c.args.tags.now c.args.store.now.rows (trimmed c.args.begin c.args.store.now.commits) c.args.writes.now c.args.label.now
    (sym (c.in_default.ensures ∙ ap (find (is_above c.args.tags.now c.args.label.now)) c.items.ensures.items))
    c.in_default-newer.ensures c.in-Some-first_broken.write.now
    (sym (c.in-Some-first_broken.ensures ∙ ap (λ rows. find (λ (w : Write). is_broken (after rows c.args.writes.now) w.row) c.args.writes.now) c.content.ensures))

pub returns-in-Some-first_left-clause-verdict : goal.returns-in-Some-first_left-clause-verdict
returns-in-Some-first_left-clause-verdict c =
    left c.args.tags.now c.args.store.now.rows (trimmed c.args.begin c.args.store.now.commits) c.args.writes.now c.args.label.now
    (sym (c.in_default.ensures ∙ ap (find (is_above c.args.tags.now c.args.label.now)) c.items.ensures.items))
    c.in_default-newer.ensures
    (sym (c.in_default-first_broken.ensures ∙ ap (λ rows. find (λ (w : Write). is_broken (after rows c.args.writes.now) w.row) c.args.writes.now) c.content.ensures))
    _ (sym (c.in-Some-first_left.ensures ∙ ap (λ rows. first_left (after rows c.args.writes.now) c.args.writes.now) c.content-2.ensures))

pub returns-in-None-clause-verdict : goal.returns-in-None-clause-verdict
returns-in-None-clause-verdict c =
    goes c.args.tags.now c.args.store.now.rows (trimmed c.args.begin c.args.store.now.commits) c.args.writes.now c.args.label.now
    (sym (c.in_default.ensures ∙ ap (find (is_above c.args.tags.now c.args.label.now)) c.items.ensures.items))
    c.in_default-newer.ensures
    (sym (c.in_default-first_broken.ensures ∙ ap (λ rows. find (λ (w : Write). is_broken (after rows c.args.writes.now) w.row) c.args.writes.now) c.content.ensures))
    (sym (c.in-None.ensures ∙ ap (λ rows. first_left (after rows c.args.writes.now) c.args.writes.now) c.content-2.ensures))
