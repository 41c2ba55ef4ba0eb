use Rattle.std.proofs.Common.{arith}
use Rattle.test_loop.proofs.Numbers.{one_number_more, no_number_below}
use Rattle.test_loop.proofs.echo.EchoService.open.Goals as goal

pub returns-clause-opened : goal.returns-clause-opened
returns-clause-opened c = one_number_more c.args.self.now.opened

pub returns-clause-fresh : goal.returns-clause-fresh
returns-clause-fresh c = no_number_below c.args.self.now.opened c.args.self.now.opened (omega arith)
