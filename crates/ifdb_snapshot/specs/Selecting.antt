-- The refusals of a SELECT.
use Rattle.ifdb_view.specs.declared.fault.ViewFault.{ViewFault}
use Rattle.ifdb_view.specs.declared.fault.ViewFault.TheVariants as view
use Rattle.ifdb_wire.specs.declared.fault.Fault.{Fault}
use Rattle.ifdb_wire.specs.declared.fault.Fault.TheVariants as fault

-- the refusal that a fault is
abbrev pub view_fault : ViewFault → Fault
view_fault view.ViewAuthority = fault.ViewAuthority
view_fault view.OutOfRange = fault.OutOfRange
view_fault view.OutOfMemory = fault.OutOfMemory
