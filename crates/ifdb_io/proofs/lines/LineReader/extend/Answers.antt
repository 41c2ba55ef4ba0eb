use Rattle.std.proofs.Common.{◌≡◌, ◌∙◌, ap, false, [], ◌∷◌, arith}
use Rattle.std.specs.Prelude.{slice_range}
use Rattle.std.proofs.lemmas.List.{append-nil, length-take}
use Rattle.ifdb_io.specs.Lines.{Reading, IsLine}
use Rattle.ifdb_io.proofs.Ranges.{length-range, range_split}
use Rattle.ifdb_io.proofs.ReaderLemmas.{break_at, extended, IsLine-more}
use Rattle.ifdb_io.proofs.lines.LineReader.extend.Goals as goal

pub returns-in-Some-clause-newline : goal.returns-in-Some-clause-newline
returns-in-Some-clause-newline c = λ _.
    let v = c.self.inside in
    let b = rw c.deref.ensures.value at c.in-Some.ensures in
    let h = break_at v.chunk.items v.from c.min-end.result v.to c.in-Some.place (omega arith) (omega arith) (omega (arith, v.chunk.ok.0)) b in
    let plain : v.skipping ≡ false = ap (λ (r : Reading). r.skipping) c.self.view_is ∙ c.requires.plain in
    rw (← c.self.view_is, c.add.ensures.items, c.deref.ensures.value) (extended _ _ _ (10 ∷ []) _ _ plain h)

pub returns-in-Some-clause-line : goal.returns-in-Some-clause-line
returns-in-Some-clause-line c = λ _.
    let v = c.self.inside in
    let b = c.in-Some.ensures in
    let line : IsLine v.text.items = rw (ap (λ (r : Reading). r.text) c.self.view_is) c.requires.line in
    let size = length-range c.deref.result.now v.from c.min-end.result (omega (arith, c.deref.ensures.len)) in
    IsLine-more _ _ _ line c.add.ensures.items b.before
    (omega (arith, b.within, c.add.ensures.len, c.add.new.text.ok.0, v.text.ok.0, length-take c.in-Some.place (slice_range c.deref.result.now v.from c.min-end.result)))

pub returns-else-len-lt-LONG-clause-long : goal.returns-else-len-lt-LONG-clause-long
returns-else-len-lt-LONG-clause-long c = λ _ rest.
    let v = c.self.inside in
    let h = range_split v.chunk.items v.from c.min-end.result v.to (omega arith) (omega arith) in
    let plain : v.skipping ≡ false = ap (λ (r : Reading). r.skipping) c.self.view_is ∙ c.requires.plain in
    let moved = extended v.text.items (slice_range v.chunk.items v.from v.to) (slice_range v.chunk.items v.from c.min-end.result) [] (slice_range v.chunk.items c.min-end.result v.to) v.skipping plain h rest in
    rw (← c.self.view_is, c.add-in-None.ensures.items, c.deref.ensures.value) (rw append-nil at moved)
