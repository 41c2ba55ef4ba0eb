use Rattle.std.proofs.Common.{◌≡◌, ◌++◌, ◌∷◌, [], map, take}
use Rattle.ifdb_closure.specs.Closures.{begin_line}
use Rattle.ifdb_closure.proofs.lines.Lines.of.Given as goal

-- the lines so far: HELLO, SET LABEL, BEGIN, and the statements up to here
abbrev pub invariant-loop-statement : goal.invariant-loop-statement
invariant-loop-statement l =
    map (λ x. x.now) l.front.items ++ l.last ∷ [] ≡ l.hello ∷ l.label ∷ begin_line ∷ take l.statement-index l.statements
