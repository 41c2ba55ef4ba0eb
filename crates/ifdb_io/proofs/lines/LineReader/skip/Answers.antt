use Rattle.std.proofs.Common.{◌≡◌, ◌∙◌, ap, true, arith}
use Rattle.ifdb_io.specs.Lines.{Reading}
use Rattle.ifdb_io.proofs.Ranges.{range-empty}
use Rattle.ifdb_io.proofs.ReaderLemmas.{break_at, skipped_newline, skipped_all}
use Rattle.ifdb_io.proofs.lines.LineReader.skip.Goals as goal

pub returns-in-Some-clause-same : goal.returns-in-Some-clause-same
returns-in-Some-clause-same c =
    let v = c.self.inside in
    let b = rw c.deref.ensures.value at c.in-Some.ensures in
    let h = break_at v.chunk.items v.from v.to v.to c.in-Some.place (omega arith) (omega arith) (omega (arith, v.chunk.ok.0)) b in
    let skips : v.skipping ≡ true = ap (λ (r : Reading). r.skipping) c.self.view_is ∙ c.requires.skipping in
    rw (← c.self.view_is) (skipped_newline _ _ _ _ _ skips b.before h)

pub returns-in-None-clause-same : goal.returns-in-None-clause-same
returns-in-None-clause-same c =
    let v = c.self.inside in
    let plain = rw c.deref.ensures.value at c.in-None.ensures in
    let skips : v.skipping ≡ true = ap (λ (r : Reading). r.skipping) c.self.view_is ∙ c.requires.skipping in
    rw (← c.self.view_is) (skipped_all _ _ _ _ skips plain (range-empty v.chunk.items v.to))
