-- The loops of CREATE TABLE: one more round, and what is repeated after it.
use Rattle.std.proofs.Common.{◌≡◌, List, [], ◌∷◌, Ok}
use Rattle.ifdb_value.specs.declared.column.Column.{Column}
use Rattle.ifdb_syntax.specs.declared.request.ForeignKey.{ForeignKey}
use Rattle.ifdb_syntax.specs.Words.{Lexemes, COMMA, NAME}
use Rattle.ifdb_parse.specs.theory.Kinds.{sees}
use Rattle.ifdb_parse.specs.theory.Parser.{and_then, choose, repeat_by}
use Rattle.ifdb_parse.specs.rules.Requests.{column_round, foreign_round}
use Rattle.ifdb_parse.proofs.theory.Rounds.{turns, repeat_is, repeat_goes}
use Rattle.ifdb_parse.proofs.rules.Requests.{column_round_reads, foreign_round_reads}

pub columns_are : (x : List Column) (s : Lexemes) → repeat_by (NAME ∷ []) column_round x s ≡ choose (sees (NAME ∷ []) s) (and_then (column_round x s) (repeat_by (NAME ∷ []) column_round)) (Ok (x, s))
columns_are x s = repeat_is (NAME ∷ []) column_round (turns column_round_reads) x s

pub columns_go : (x : List Column) (s : Lexemes) (y : List Column) (r : Lexemes) → column_round x s ≡ Ok (y, r) → repeat_by (NAME ∷ []) column_round x s ≡ repeat_by (NAME ∷ []) column_round y r
columns_go x s y r e = repeat_goes (NAME ∷ []) column_round (turns column_round_reads) x s y r e

pub foreigns_are : (x : List ForeignKey) (s : Lexemes) → repeat_by (COMMA ∷ []) foreign_round x s ≡ choose (sees (COMMA ∷ []) s) (and_then (foreign_round x s) (repeat_by (COMMA ∷ []) foreign_round)) (Ok (x, s))
foreigns_are x s = repeat_is (COMMA ∷ []) foreign_round (turns foreign_round_reads) x s

pub foreigns_go : (x : List ForeignKey) (s : Lexemes) (y : List ForeignKey) (r : Lexemes) → foreign_round x s ≡ Ok (y, r) → repeat_by (COMMA ∷ []) foreign_round x s ≡ repeat_by (COMMA ∷ []) foreign_round y r
foreigns_go x s y r e = repeat_goes (COMMA ∷ []) foreign_round (turns foreign_round_reads) x s y r e
