-- A member of each list takes a lexeme; and the loops over lists that are no lists of members.
use Rattle.std.proofs.Common.{◌≡◌, List, [], ◌∷◌, Ok}
use Rattle.ifdb_syntax.specs.declared.select.Item.{Item}
use Rattle.ifdb_syntax.specs.Words.{Lexemes, COMMA}
use Rattle.ifdb_parse.specs.theory.Kinds.{sees}
use Rattle.ifdb_parse.specs.theory.Parser.{Parser, and_then, choose, repeat_by}
use Rattle.ifdb_parse.specs.theory.Gives.{Takes}
use Rattle.ifdb_parse.specs.rules.Shared.{name, next_member}
use Rattle.ifdb_parse.specs.rules.Expressions.{column_ref, literal}
use Rattle.ifdb_parse.specs.rules.Queries.{named, item, source, order}
use Rattle.ifdb_parse.specs.rules.Requests.{row, assignment}
use Rattle.ifdb_parse.proofs.theory.Rounds.{shorter}
use Rattle.ifdb_parse.proofs.rules.Lists.{commas_are, commas_go}
use Rattle.ifdb_parse.proofs.rules.Shared.{name_reads}
use Rattle.ifdb_parse.proofs.rules.Expressions.{ref_reads, literal_reads}
use Rattle.ifdb_parse.proofs.rules.Queries.{named_reads, item_reads, source_reads, order_reads}
use Rattle.ifdb_parse.proofs.rules.Requests.{row_reads, assignment_reads}

pub name_takes : Takes name
name_takes s x rest h = shorter name_reads s x rest h

pub ref_takes : Takes column_ref
ref_takes s x rest h = shorter ref_reads s x rest h

pub literal_takes : Takes literal
literal_takes s x rest h = shorter literal_reads s x rest h

pub item_takes : Takes item
item_takes s x rest h = shorter item_reads s x rest h

pub source_takes : Takes source
source_takes s x rest h = shorter source_reads s x rest h

pub order_takes : Takes order
order_takes s x rest h = shorter order_reads s x rest h

pub row_takes : Takes row
row_takes s x rest h = shorter row_reads s x rest h

pub assignment_takes : Takes assignment
assignment_takes s x rest h = shorter assignment_reads s x rest h

-- ---- the items of a view

named_takes : Takes named
named_takes s x rest h = shorter named_reads s x rest h

abbrev next_named : List Item → Parser (List Item)
next_named = next_member COMMA named

pub nameds_are : (x : List Item) (s : Lexemes) → repeat_by (COMMA ∷ []) next_named x s ≡ choose (sees (COMMA ∷ []) s) (and_then (next_named x s) (repeat_by (COMMA ∷ []) next_named)) (Ok (x, s))
nameds_are x s = commas_are named named_takes x s

pub nameds_go : (x : List Item) (s : Lexemes) (y : List Item) (r : Lexemes) → next_named x s ≡ Ok (y, r) → repeat_by (COMMA ∷ []) next_named x s ≡ repeat_by (COMMA ∷ []) next_named y r
nameds_go x s y r e = commas_go named named_takes x s y r e
