use Rattle.ifdb_hearer.proofs.Heard.{admin_line, nobody_line}
use Rattle.ifdb_hearer.proofs.hearer.text_of.Goals as goal

pub returns-in-Admin-clause-is : goal.returns-in-Admin-clause-is
returns-in-Admin-clause-is c = rw c.in-Admin.is admin_line

pub returns-in-Nobody-clause-is : goal.returns-in-Nobody-clause-is
returns-in-Nobody-clause-is c = rw c.in-Nobody.is nobody_line
