use Rattle.std.proofs.Common.{◌≡◌, ◌||◌, false, take, length}
use Rattle.std.specs.Prelude.{nat_lt}
use Rattle.std.specs.List.{list_any}
use Rattle.ifdb_parse.specs.Parsed.{parsed}
use Rattle.ifdb_closure.specs.Forms.{is_misread, is_beyond}
use Rattle.ifdb_closure.proofs.statements.statements_fault.Given as goal

-- the statements so far are read as such, and it was noted whether one of them passes a limit
abbrev pub invariant-loop-statement : goal.invariant-loop-statement
invariant-loop-statement l = record {
  read : list_any (λ s. is_misread (parsed s)) (take l.statement-index l.statements) ≡ false;
  noted : l.is_beyond ≡ (nat_lt 64 (length l.statements) || list_any (λ s. is_beyond (parsed s)) (take l.statement-index l.statements));
}
