-- The ranges of the numbers that a command has.
use Rattle.std.specs.Prelude.{ℕ, ◌≤◌, ◌^◌, Option, Some, None, IfSome}
use Rattle.ifdb_words.specs.declared.command.Command.{Command}
use Rattle.ifdb_words.specs.declared.command.Command.TheVariants.{Run, Serve, Write}
use Rattle.ifdb_words.specs.declared.service.Service.{Service}
use Rattle.ifdb_words.specs.declared.loops.LoopService.{LoopService}
use Rattle.ifdb_words.specs.declared.loops.Patience.{Patience}

abbrev pub IsLimit : ℕ → Type 0
IsLimit n = (1 ≤ n) × (n ≤ 2 ^ 40)

pub record IsService (s : Service) : Type 0 where
  pub port : (1 ≤ s.port) × (s.port ≤ 65535)
  pub workers : (1 ≤ s.workers) × (s.workers ≤ 64)
  pub links : (1 ≤ s.links) × (s.links ≤ 1000000)
  pub limit : IsLimit s.limit

-- from a second to a day
abbrev pub IsWait : ℕ → Type 0
IsWait n = (1 ≤ n) × (n ≤ 86400)

pub record IsPatience (p : Patience) : Type 0 where
  pub hello : IsWait p.hello
  pub idle : IsWait p.idle
  pub stall : IsWait p.stall

pub record IsLoopService (s : LoopService) : Type 0 where
  pub port : (1 ≤ s.port) × (s.port ≤ 65535)
  pub loops : IfSome s.loops (λ n. (1 ≤ n) × (n ≤ 64))
  pub connections : (1 ≤ s.connections) × (s.connections ≤ 1000000)
  pub limit : IsLimit s.limit
  pub patience : IsPatience s.patience

abbrev pub IsWithin : Option Command → Type 0
IsWithin None = Unit {0}
IsWithin (Some (Run limit)) = IsLimit limit
IsWithin (Some (Serve service)) = IsService service
IsWithin (Some (Write text)) = Unit {0}
