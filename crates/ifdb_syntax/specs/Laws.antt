-- What the laws of this crate say.
use Rattle.std.specs.Prelude.{◌≡◌, ℕ, ◌^◌, ◌<◌, ◌≤◌, true, nat_lt}
use Rattle.ifdb_syntax.specs.declared.lexeme.Lexeme.{Lexeme}
use Rattle.ifdb_syntax.specs.declared.expression.Expr.{Expr}
use Rattle.ifdb_syntax.specs.declared.expression.Expr.TheVariants as e
use Rattle.ifdb_syntax.specs.declared.request.Request.{Request}
use Rattle.ifdb_syntax.specs.Words.{Lexemes, kind, NAME}
use Rattle.ifdb_syntax.specs.Reading.{Reading, written, bounded, operators}
use Rattle.ifdb_syntax.specs.Requests.{line}
use Rattle.ifdb_syntax.specs.Bounded.{bounded_request}
use Rattle.ifdb_syntax.specs.Within.{request_fits, request_short}
use Rattle.ifdb_syntax.specs.Shapes.{request_shape}
use Rattle.ifdb_syntax.specs.canonical.Requests.{request_tokens}

-- a word or symbol is the only lexeme of its kind
abbrev pub KindsDiffer : Type 0
KindsDiffer = (x y : Lexeme) → nat_lt (kind x) NAME ≡ true → kind x ≡ kind y → x ≡ y

-- the canonical lexemes of a tree that the grammar makes are a line of that tree
abbrev pub CanonicalIsLine : Type 0
CanonicalIsLine = (r : Request) → request_shape r ≡ true → line written (request_tokens r) r

-- a number that a value holds is read as it is written
abbrev pub NumbersReadAlike : Type 0
NumbersReadAlike =
    (n : ℕ) → (n < 2 ^ 63 → bounded.plain n ≡ written.plain n) × (n ≤ 2 ^ 63 → bounded.negated n ≡ written.negated n)

-- an operator is the node that is written, where the node has at most 64 operators
abbrev pub OperatorsReadAlike : Type 0
OperatorsReadAlike =
    (a b : Expr) → (operators (e.Add a b) ≤ 64 → bounded.join e.Add a b ≡ e.Add a b)
    × (operators (e.Sub a b) ≤ 64 → bounded.join e.Sub a b ≡ e.Sub a b)
    × (operators (e.Mul a b) ≤ 64 → bounded.join e.Mul a b ≡ e.Mul a b)

-- a line of the written grammar is one of the bounded grammar, of what this makes of its tree
abbrev pub WrittenIsBounded : Type 0
WrittenIsBounded = (u : Lexemes) (r : Request) → line written u r → line bounded u (bounded_request r)

-- and each line of the bounded grammar is such a one
abbrev pub BoundedIsWritten : Type 0
BoundedIsWritten =
    (u : Lexemes) (r : Request) → line bounded u r → (w : Request) × line written u w × (bounded_request w ≡ r)

-- a tree within the limits is left as it is
abbrev pub WithinIsKept : Type 0
WithinIsKept = (r : Request) → request_fits r ≡ true → request_short r ≡ true → bounded_request r ≡ r

-- each number of a bounded tree is a value
abbrev pub BoundedFits : Type 0
BoundedFits = (r : Request) → request_fits (bounded_request r) ≡ true

-- the grammar makes only trees of its shapes, however numbers and chains are read
abbrev pub LineHasShape : Type 0
LineHasShape = (reading : Reading) (u : Lexemes) (r : Request) → line reading u r → request_shape r ≡ true
