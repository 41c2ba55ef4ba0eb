-- What the parser of a whole line says of the grammar.
use Rattle.std.proofs.Common.{◌≡◌, ℕ, false, Result, Ok, Err, refl, ap, ◌∙◌}
use Rattle.ifdb_syntax.specs.declared.request.Request.{Request}
use Rattle.ifdb_syntax.specs.Words.{Lexemes}
use Rattle.ifdb_syntax.specs.Reading.{bounded}
use Rattle.ifdb_syntax.specs.Requests.{line}
use Rattle.ifdb_syntax.specs.Fault.{IsFault}
use Rattle.ifdb_parse.specs.Laws.{WholeIsLine, WholeIsFault, OneRequest}
use Rattle.ifdb_parse.specs.rules.Requests as p
use Rattle.ifdb_parse.proofs.theory.Whole.{ended_complete, ended_ok, ended_err}
use Rattle.ifdb_parse.proofs.theory.Unique.{one_tree, one_fault}
use Rattle.ifdb_parse.proofs.rules.Requests.{line_reads, in_request, on_line}

pub whole_complete : (s : Lexemes) (r : Request) → line bounded s r → p.whole s ≡ Ok r
unfolding p.whole
whole_complete s r h = ended_complete (line bounded) p.line in_request on_line false line_reads s r h

pub whole_ok : (s : Lexemes) (r : Request) → p.whole s ≡ Ok r → line bounded s r
unfolding p.whole
whole_ok s r h = ended_ok (line bounded) p.line in_request on_line false line_reads s r h

pub whole_err : (s : Lexemes) (left : ℕ) → p.whole s ≡ Err left → IsFault (line bounded) s left
unfolding p.whole
whole_err s left h = ended_err (line bounded) p.line in_request on_line false line_reads s left h

pub whole_is_line : WholeIsLine
whole_is_line s r = (whole_ok s r, whole_complete s r)

pub whole_at_fault : (s : Lexemes) (left : ℕ) → IsFault (line bounded) s left → p.whole s ≡ Err left
whole_at_fault s left h = go (p.whole s) refl
  where
    go : (o : Result Request ℕ) → p.whole s ≡ o → p.whole s ≡ Err left
    go (Ok r) e = absurd (h.refused r (whole_ok s r e))
    go (Err k) e = e ∙ ap Err (one_fault (whole_err s k e) h)

pub whole_is_fault : WholeIsFault
whole_is_fault s left = (whole_err s left, whole_at_fault s left)

pub one_request : OneRequest
one_request s a b h k = one_tree line_reads s a b h k
