-- Small traces, computed.
use Rattle.std.proofs.Common.{◌≡◌, Some, None, Err, Ok, refl}
use Rattle.std.specs.Prelude.{codes, bytes_eq, if◌then◌else◌}
use Rattle.ifdb_syntax.specs.declared.request.Request.TheVariants as request
use Rattle.ifdb_wire.specs.declared.fault.Fault.TheVariants as fault
use Rattle.ifdb_model.specs.Step.{Reader}
use Rattle.std.specs.Fmt.{digits}
use Rattle.ifdb_trace.specs.Checking.{trace_fault}

read : Reader
read line = if bytes_eq line (codes "SHOW LABEL") then Ok request.ShowLabel else Err (fault.Syntax 0)

accepted : trace_fault read (codes "> OPEN\n< 1 OPEN\n> 1 SHOW LABEL\n< 1 ERR 2 NotHello\n") ≡ None
unfolding read digits
accepted = refl

wrong : trace_fault read (codes "> OPEN\n< 1 OPEN\n> 1 SHOW LABEL\n< 1 LABEL ()\n") ≡ Some 4
unfolding read digits
wrong = refl

missing : trace_fault read (codes "> OPEN\n< 1 OPEN\n> 1 SHOW LABEL\n") ≡ Some 4
unfolding read digits
missing = refl

no_memory : trace_fault read (codes "> OPEN\n< 1 OPEN\n> 1 SHOW LABEL\n< 1 ERR 20 OutOfMemory") ≡ None
unfolding read digits
no_memory = refl

no_number : trace_fault read (codes "> OPEN\n< 0 ERR 20 OutOfMemory\n> OPEN\n< 1 OPEN\n# \n") ≡ Some 5
unfolding read digits
no_number = refl
