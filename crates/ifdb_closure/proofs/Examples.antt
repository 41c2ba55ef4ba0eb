-- Worked scripts with closures, computed.
use Rattle.std.proofs.Common.{◌≡◌, ℕ, false, List, [], ◌∷◌, ◌++◌, map, refl, None, Ok, Err, Result}
use Rattle.std.specs.Prelude.{codes, pos, bytes_eq, if◌then◌else◌}
use denote.Hole.Carrier.{fold}
use Rattle.ifdb_value.specs.declared.value.Value.TheVariants as value
use Rattle.ifdb_value.specs.declared.value.ValueKind.TheVariants as kind
use Rattle.ifdb_row.specs.Slots.{slot_cmp}
use Rattle.ifdb_bound.specs.Expressions.{value_of}
use Rattle.ifdb_bound.specs.Conditions.{truth, holds}
use Rattle.ifdb_syntax.specs.declared.request.Request.{Request}
use Rattle.ifdb_syntax.specs.declared.request.Request.TheVariants as request
use Rattle.ifdb_syntax.specs.declared.expression.Expr.TheVariants as expr
use Rattle.ifdb_syntax.specs.declared.select.Item.TheVariants as item
use Rattle.ifdb_syntax.specs.canonical.Text.{canonical_text}
use Rattle.ifdb_wire.specs.declared.fault.Fault.{Fault}
use Rattle.ifdb_wire.specs.declared.fault.Fault.TheVariants as fault
use Rattle.ifdb_wire.specs.declared.reply.Reply.{Reply}
use Rattle.ifdb_wire.specs.declared.reply.Reply.TheVariants as reply
use Rattle.ifdb_catalog.proofs.Computing.{binding}
use Rattle.ifdb_model.specs.Run.{Step, opens, asks, Told}
use Rattle.ifdb_closure.specs.Closures.{Speech, ClosureLine, plain, faulty, creates, calls, start, closure_replies}

-- lines, and the trees that they are read as
record Known : Type 0 where
  line : List ℕ
  tree : Request

read_by : List Known → List ℕ → Result Request Fault
read_by [] line = Err (fault.Syntax 0)
read_by (k ∷ known) line = if bytes_eq k.line line then Ok k.tree else read_by known line

-- and closure lines
record KnownForm : Type 0 where
  line : List ℕ
  form : ClosureLine

form_by : List KnownForm → List ℕ → ClosureLine
form_by [] line = plain
form_by (k ∷ known) line = if bytes_eq k.line line then k.form else form_by known line

known : List Known
known =
    record { line = codes "HELLO admin KEY 'admin'"; tree = request.Hello (codes "admin") (codes "admin") }
    ∷ record { line = codes "HELLO guest KEY 'g'"; tree = request.Hello (codes "guest") (codes "g") }
    ∷ record { line = codes "CREATE TAG a"; tree = request.CreateTag (codes "a") false [] }
    ∷ record { line = codes "CREATE TABLE note (id INT, PRIMARY KEY (id))"; tree = request.CreateTable (codes "note") (record { name = codes "id"; kind = kind.Int } ∷ []) (codes "id" ∷ []) [] }
    ∷ record { line = codes "CREATE PRINCIPAL guest KEY 'g'"; tree = request.CreatePrincipal (codes "guest") (codes "g") None }
    ∷ record { line = codes "SET LABEL ()"; tree = request.SetLabel [] }
    ∷ record { line = codes "SET LABEL (a)"; tree = request.SetLabel (codes "a" ∷ []) }
    ∷ record { line = codes "INSERT INTO note VALUES (9)"; tree = request.Insert (codes "note") [] ((value.Int (pos 9) ∷ []) ∷ []) [] }
    ∷ record { line = codes "SELECT id FROM note"; tree = request.Select (record { items = item.Expr (expr.Column (record { source = None; column = codes "id" })) None ∷ []; sources = record { name = codes "note"; alias = codes "note" } ∷ []; cond = None; group = []; order = [] }) }
    ∷ record { line = codes "SHOW LABEL"; tree = request.ShowLabel }
    ∷ record { line = codes "BEGIN"; tree = request.Begin }
    ∷ record { line = codes "COMMIT"; tree = request.Commit }
    ∷ record { line = codes "ROLLBACK"; tree = request.Rollback }
    ∷ []

forms : List KnownForm
forms =
    record { line = codes "CREATE CLOSURE publish AS SET LABEL (); INSERT INTO note VALUES (9)"; form = creates (codes "publish") (codes "SET LABEL ()" ∷ codes "INSERT INTO note VALUES (9)" ∷ []) }
    ∷ record { line = codes "CREATE CLOSURE peek AS SET LABEL (a); SELECT id FROM note"; form = creates (codes "peek") (codes "SET LABEL (a)" ∷ codes "SELECT id FROM note" ∷ []) }
    ∷ record { line = codes "CALL publish"; form = calls (codes "publish") }
    ∷ record { line = codes "CALL peek"; form = calls (codes "peek") }
    ∷ record { line = codes "CALL nope"; form = calls (codes "nope") }
    ∷ record { line = codes "CALL 7"; form = faulty (fault.Syntax 0) }
    ∷ []

speech : Speech
speech = record { read = read_by known; form = form_by forms }

setup : List Step
setup =
    opens ∷ asks 1 (codes "HELLO admin KEY 'admin'") ∷ asks 1 (codes "CREATE TAG a") ∷ asks 1 (codes "CREATE TABLE note (id INT, PRIMARY KEY (id))")
    ∷ asks 1 (codes "CREATE PRINCIPAL guest KEY 'g'") ∷ opens ∷ asks 2 (codes "HELLO guest KEY 'g'") ∷ []

setup_told : List Reply
setup_told = reply.Opened ∷ reply.Done ∷ reply.Done ∷ reply.Done ∷ reply.Done ∷ reply.Opened ∷ reply.Done ∷ []

told : List Step → List Reply
told steps = map (λ (t : Told). t.reply) (closure_replies speech start (setup ++ steps))

-- a closure lowers its label with its owner's authority
publishes : told (asks 1 (codes "CREATE CLOSURE publish AS SET LABEL (); INSERT INTO note VALUES (9)") ∷ asks 2 (codes "SET LABEL (a)") ∷ asks 2 (codes "SET LABEL ()")
    ∷ asks 2 (codes "CALL publish") ∷ asks 2 (codes "SHOW LABEL") ∷ asks 1 (codes "SELECT id FROM note") ∷ asks 2 (codes "CALL publish") ∷ opens ∷ [])
    ≡ setup_told ++ (reply.Done ∷ reply.Done ∷ reply.Refused fault.NoAuthority ∷ reply.Count 1 ∷ reply.Label (codes "a")
    ∷ reply.Rows (record { columns = 1; rows = (value.Int (pos 9) ∷ []) ∷ [] }) ∷ reply.Refused fault.DuplicateKey ∷ reply.Opened ∷ [])
unfolding told setup setup_told speech known forms read_by form_by canonical_text slot_cmp value_of truth holds binding fold
publishes = refl

-- one whose label rises above its caller's; and other refusals
peeks : told (asks 1 (codes "CREATE CLOSURE peek AS SET LABEL (a); SELECT id FROM note") ∷ asks 1 (codes "CREATE CLOSURE peek AS SET LABEL (a); SELECT id FROM note")
    ∷ asks 2 (codes "CALL peek") ∷ asks 2 (codes "BEGIN") ∷ asks 2 (codes "CALL peek") ∷ asks 2 (codes "ROLLBACK") ∷ asks 2 (codes "CALL nope") ∷ asks 2 (codes "CALL 7")
    ∷ asks 1 (codes "SET LABEL (a)") ∷ asks 1 (codes "CREATE CLOSURE publish AS SET LABEL (); INSERT INTO note VALUES (9)") ∷ [])
    ≡ setup_told ++ (reply.Done ∷ reply.Refused fault.Taken ∷ reply.Refused fault.ClosureLabel ∷ reply.Done ∷ reply.Refused fault.InTransaction ∷ reply.Done
    ∷ reply.Refused fault.UnknownName ∷ reply.Refused (fault.Syntax 0) ∷ reply.Done ∷ reply.Refused fault.LabelNotEmpty ∷ [])
unfolding told setup setup_told speech known forms read_by form_by canonical_text slot_cmp value_of truth holds binding fold
peeks = refl
