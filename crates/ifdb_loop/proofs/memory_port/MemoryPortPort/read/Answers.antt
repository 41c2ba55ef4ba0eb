use Rattle.std.proofs.Common.{◌≡◌, ◌∙◌, ◌+◌, ◌++◌, ap, sym, take, drop, Some, arith}
use Rattle.std.proofs.Math.Seq.{take-add}
use Rattle.std.proofs.lemmas.List.{take-append-drop, drop-drop}
use Rattle.ifdb_loop.specs.Traffic.{Ported}
use Rattle.ifdb_loop.proofs.Ranges.{copied}
use Rattle.ifdb_loop.proofs.memory_port.MemoryPortPort.read.Goals as goal

pub returns-clause-given : goal.returns-clause-given
returns-clause-given c =
    let v = c.self.inside in
    let n = c.min-count.result in
    let front = rw c.deref-2.ensures.value at c.copy_in.ensures.front in
    let piece : take n c.copy_in.new.buffer ≡ take n (drop v.given v.bytes.items) = copied _ _ _ _ (omega (arith, v.bytes.ok.0)) front in
    ap Some (take-add v.given n v.bytes.items ∙ ap (λ xs. take v.given v.bytes.items ++ xs) (sym piece) ∙ ap (λ (p : Ported). p.given ++ take n c.copy_in.new.buffer) c.self.view_is)

pub returns-clause-left : goal.returns-clause-left
returns-clause-left c =
    let v = c.self.inside in
    let n = c.min-count.result in
    let front = rw c.deref-2.ensures.value at c.copy_in.ensures.front in
    let piece : take n c.copy_in.new.buffer ≡ take n (drop v.given v.bytes.items) = copied _ _ _ _ (omega (arith, v.bytes.ok.0)) front in
    let whole : take n (drop v.given v.bytes.items) ++ drop (v.given + n) v.bytes.items ≡ drop v.given v.bytes.items =
    ap (λ xs. take n (drop v.given v.bytes.items) ++ xs) (sym (drop-drop n v.given v.bytes.items)) ∙ take-append-drop n (drop v.given v.bytes.items) in
    ap Some (sym (ap (λ (p : Ported). p.left) c.self.view_is) ∙ sym whole ∙ ap (λ xs. xs ++ drop (v.given + n) v.bytes.items) (sym piece))
