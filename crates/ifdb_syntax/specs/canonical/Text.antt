-- decides: canonical text
-- The canonical text of lexemes: each as it is spelled, and between two neighbours one space or nothing.
use Rattle.std.specs.Prelude.{ℕ, List, [], ◌∷◌, ◌++◌}
use Rattle.ifdb_syntax.specs.declared.lexeme.Lexeme.{Lexeme}
use Rattle.ifdb_syntax.specs.declared.lexeme.Lexeme.TheVariants as t
use Rattle.ifdb_syntax.specs.declared.edge.Edge.{Edge}
use Rattle.ifdb_syntax.specs.declared.edge.Edge.TheVariants as edge
use Rattle.ifdb_syntax.specs.declared.request.Request.{Request}
use Rattle.ifdb_syntax.specs.Words.{Lexemes}
use Rattle.ifdb_syntax.specs.Spelling.{spelling}
use Rattle.ifdb_syntax.specs.canonical.Requests.{request_tokens}

-- ---- the table of neighbours

-- a `-` behind an operand subtracts, and any other is a literal's
abbrev pub edge_of_minus : Edge → Edge
edge_of_minus edge.Operand = edge.Wide
edge_of_minus _ = edge.Tight

-- what a lexeme leaves to the next one
abbrev pub edge_after : Edge → Lexeme → Edge
edge_after before t.Open = edge.Tight
edge_after before t.Dot = edge.Tight
edge_after before t.Minus = edge_of_minus before
edge_after before t.Count = edge.Call
edge_after before t.Sum = edge.Call
edge_after before t.Min = edge.Call
edge_after before t.Max = edge.Call
edge_after before t.Close = edge.Operand
edge_after before (t.Name name) = edge.Operand
edge_after before (t.Number number) = edge.Operand
edge_after before (t.Quoted text) = edge.Operand
edge_after before t.Null = edge.Operand
edge_after before _ = edge.Wide

-- one space, which is 32, but none before `)`, `,` and `.`
abbrev pub space_before : Lexeme → List ℕ
space_before t.Close = []
space_before t.Comma = []
space_before t.Dot = []
space_before _ = 32 ∷ []

-- none between COUNT, SUM, MIN or MAX and its `(` either
abbrev pub space_in_call : Lexeme → List ℕ
space_in_call t.Open = []
space_in_call x = space_before x

-- what stands between a lexeme that left this edge and the next one
abbrev pub gap : Edge → Lexeme → List ℕ
gap edge.Tight x = []
gap edge.Call x = space_in_call x
gap edge.Operand x = space_before x
gap edge.Wide x = space_before x

-- ---- the text

-- lexemes behind what left this edge
abbrev pub text_behind : Edge → Lexemes → List ℕ
text_behind before [] = []
text_behind before (x ∷ s) = gap before x ++ spelling x ++ text_behind (edge_after before x) s

-- lexemes at the start of a line
abbrev pub spaced : Lexemes → List ℕ
spaced s = text_behind edge.Tight s

-- the canonical text of a request
unfoldable pub canonical_text : Request → List ℕ
canonical_text r = spaced (request_tokens r)
