-- Requests, and the line of one.
use Rattle.std.specs.Prelude.{ℕ, Bool, true, false, List, [], ◌∷◌, ◌++◌, Option, Result}
use Rattle.ifdb_value.specs.declared.value.Value.{Value}
use Rattle.ifdb_value.specs.declared.value.ValueKind.{ValueKind}
use Rattle.ifdb_value.specs.declared.value.ValueKind.TheVariants as of
use Rattle.ifdb_value.specs.declared.column.Column.{Column}
use Rattle.ifdb_syntax.specs.declared.request.Request.{Request}
use Rattle.ifdb_syntax.specs.declared.request.Request.TheVariants as q
use Rattle.ifdb_syntax.specs.declared.request.ForeignKey.{ForeignKey}
use Rattle.ifdb_syntax.specs.declared.request.Assignment.{Assignment}
use Rattle.ifdb_syntax.specs.declared.select.Select.{Select}
use Rattle.ifdb_syntax.specs.Words.{Lexemes, AS, BEGIN, BYE, CLEARANCE, COMMIT, COMPOUND, CREATE, DECLASSIFYING, DELETE, FOREIGN, FROM, GRANT, HELLO, IN, INSERT, INT, INTEGER, INTO, KEY, LABEL, PRIMARY, PRINCIPAL, REFERENCES, REVOKE, ROLLBACK, SELECT, SET, SHOW, TABLE, TAG, TEXT, TO, UPDATE, VALUES, VIEW, WITH, OPEN, CLOSE, COMMA, EQUAL, SEMICOLON, NAME}
use Rattle.ifdb_parse.specs.theory.Kinds.{Kinds}
use Rattle.ifdb_parse.specs.theory.Parser.{Parser, ◌>>=◌, ◌>>◌, pure, branch, repeat_by, ended}
use Rattle.ifdb_parse.specs.rules.Shared.{token, name, text, parens, optional, optional_list, commas, names}
use Rattle.ifdb_parse.specs.rules.Expressions.{literal, expr}
use Rattle.ifdb_parse.specs.rules.Conditions.{condition}
use Rattle.ifdb_parse.specs.rules.Queries.{plain, select}

-- a request of one word
unfoldable pub word : ℕ → Request → Parser Request
word k request = do
  token k
  pure request

-- [k ( names )]
unfoldable pub names_behind : ℕ → Parser (List (List ℕ))
names_behind k = optional_list (k ∷ []) (do token k; parens names)

-- [names]
unfoldable pub some_names : Parser (List (List ℕ))
some_names = optional_list (NAME ∷ []) names

-- HELLO name KEY text
unfoldable pub hello : Parser Request
hello = do
  token HELLO
  n ← name
  token KEY
  key ← text
  pure (q.Hello n key)

-- ---- behind CREATE

-- [CLEARANCE ( [names] )]
unfoldable pub clearance : Parser (Option (List (List ℕ)))
clearance = optional (CLEARANCE ∷ []) (do token CLEARANCE; parens some_names)

-- PRINCIPAL name KEY text [CLEARANCE ( [names] )]
unfoldable pub principal : Parser Request
principal = do
  token PRINCIPAL
  n ← name
  token KEY
  key ← text
  tags ← clearance
  pure (q.CreatePrincipal n key tags)

-- TAG name [IN ( names )]
unfoldable pub tag : Bool → Parser Request
tag compound = do
  token TAG
  n ← name
  parents ← names_behind IN
  pure (q.CreateTag n compound parents)

-- COMPOUND TAG name [IN ( names )]
unfoldable pub compound_tag : Parser Request
compound_tag = do
  token COMPOUND
  tag true

-- INT | INTEGER | TEXT
unfoldable pub value_kind : Parser ValueKind
value_kind =
    branch (INT ∷ INTEGER ∷ []) (branch (INT ∷ []) (do token INT; pure of.Int) (do token INTEGER; pure of.Int))
    (do token TEXT; pure of.Text)

-- column = name (INT | INTEGER | TEXT)
unfoldable pub column : Parser Column
column = do
  n ← name
  kind ← value_kind
  pure (record { name = n; kind = kind })

-- foreign = FOREIGN KEY ( names ) REFERENCES name
unfoldable pub foreign : Parser ForeignKey
foreign = do
  token FOREIGN
  token KEY
  columns ← parens names
  token REFERENCES
  parent ← name
  pure (record { columns = columns; parent = parent })

-- column ,
unfoldable pub column_round : List Column → Parser (List Column)
column_round found = do
  x ← column
  token COMMA
  pure (found ++ x ∷ [])

-- , foreign
unfoldable pub foreign_round : List ForeignKey → Parser (List ForeignKey)
foreign_round found = do
  token COMMA
  x ← foreign
  pure (found ++ x ∷ [])

-- {, foreign}
unfoldable pub foreigns : Parser (List ForeignKey)
foreigns = repeat_by (COMMA ∷ []) foreign_round []

-- PRIMARY KEY ( names ) {, foreign} ), behind a table's columns
unfoldable pub table_keys : List ℕ → List Column → Parser Request
table_keys n columns = do
  token PRIMARY
  token KEY
  key ← parens names
  keys ← foreigns
  token CLOSE
  pure (q.CreateTable n columns key keys)

-- {column ,}
unfoldable pub more_columns : List Column → Parser (List Column)
more_columns = repeat_by (NAME ∷ []) column_round

-- column {, column} , PRIMARY KEY ( names ) {, foreign} ), behind the table's name
-- where each comma behind a column is taken with it
unfoldable pub table_columns : List ℕ → Parser Request
table_columns n = do
  first ← column
  token COMMA
  columns ← more_columns (first ∷ [])
  table_keys n columns

-- TABLE name ( column {, column} , PRIMARY KEY ( names ) {, foreign} )
unfoldable pub table : Parser Request
table = do
  token TABLE
  n ← name
  token OPEN
  table_columns n

-- WITH DECLASSIFYING ( names ), behind what a view shows
unfoldable pub view_tags : List ℕ → Select → Parser Request
view_tags n shown = do
  token WITH
  token DECLASSIFYING
  tags ← parens names
  pure (q.CreateView n shown tags)

-- VIEW name AS plain WITH DECLASSIFYING ( names )
unfoldable pub view : Parser Request
view = do
  token VIEW
  n ← name
  token AS
  shown ← plain
  view_tags n shown

-- what stands behind CREATE
unfoldable pub created : Parser Request
created =
    branch (PRINCIPAL ∷ TAG ∷ COMPOUND ∷ TABLE ∷ [])
    (branch (PRINCIPAL ∷ TAG ∷ COMPOUND ∷ [])
    (branch (PRINCIPAL ∷ TAG ∷ []) (branch (PRINCIPAL ∷ []) principal (tag false)) compound_tag)
    table)
    view

-- CREATE, and one of these
unfoldable pub create : Parser Request
create = do
  token CREATE
  created

-- ---- authority and labels

-- GRANT name TO name
unfoldable pub grant : Parser Request
grant = do
  token GRANT
  tag ← name
  token TO
  to ← name
  pure (q.Grant tag to)

-- REVOKE name FROM name
unfoldable pub revoke : Parser Request
revoke = do
  token REVOKE
  tag ← name
  token FROM
  from ← name
  pure (q.Revoke tag from)

-- SET LABEL ( [names] )
unfoldable pub set_label : Parser Request
set_label = do
  token SET
  token LABEL
  tags ← parens some_names
  pure (q.SetLabel tags)

-- SHOW LABEL
unfoldable pub show_label : Parser Request
show_label = do
  token SHOW
  token LABEL
  pure q.ShowLabel

-- ---- statements

unfoldable pub query : Parser Request
query = do
  s ← select
  pure (q.Select s)

-- row = ( literal {, literal} )
unfoldable pub row : Parser (List Value)
row = parens (commas literal)

-- [( names )]
unfoldable pub insert_columns : Parser (List (List ℕ))
insert_columns = optional_list (OPEN ∷ []) (parens names)

-- VALUES row {, row} [DECLASSIFYING ( names )], behind the table and the columns
unfoldable pub insert_rows : List ℕ → List (List ℕ) → Parser Request
insert_rows table columns = do
  token VALUES
  rows ← commas row
  tags ← names_behind DECLASSIFYING
  pure (q.Insert table columns rows tags)

-- INSERT INTO name [( names )] VALUES row {, row} [DECLASSIFYING ( names )]
unfoldable pub insert : Parser Request
insert = do
  token INSERT
  token INTO
  table ← name
  columns ← insert_columns
  insert_rows table columns

-- name = expr
unfoldable pub assignment : Parser Assignment
assignment = do
  column ← name
  token EQUAL
  x ← expr
  pure (record { column = column; expr = x })

-- name = expr {, name = expr} [WHERE cond] [DECLASSIFYING ( names )], behind SET
unfoldable pub update_set : List ℕ → Parser Request
update_set table = do
  assignments ← commas assignment
  found ← condition
  tags ← names_behind DECLASSIFYING
  pure (q.Update table assignments found tags)

-- UPDATE name SET name = expr {, name = expr} [WHERE cond] [DECLASSIFYING ( names )]
unfoldable pub update : Parser Request
update = do
  token UPDATE
  table ← name
  token SET
  update_set table

-- DELETE FROM name [WHERE cond]
unfoldable pub delete : Parser Request
delete = do
  token DELETE
  token FROM
  table ← name
  found ← condition
  pure (q.Delete table found)

-- ---- all of them

abbrev pub in_authority : Kinds
in_authority = HELLO ∷ CREATE ∷ GRANT ∷ REVOKE ∷ SET ∷ SHOW ∷ []

-- requests on principals, tags, tables, views and labels
unfoldable pub authority : Parser Request
authority =
    branch (HELLO ∷ CREATE ∷ GRANT ∷ REVOKE ∷ SET ∷ [])
    (branch (HELLO ∷ CREATE ∷ GRANT ∷ REVOKE ∷ [])
    (branch (HELLO ∷ CREATE ∷ GRANT ∷ []) (branch (HELLO ∷ CREATE ∷ []) (branch (HELLO ∷ []) hello create) grant) revoke)
    set_label)
    show_label

abbrev pub in_session : Kinds
in_session = in_authority ++ BEGIN ∷ COMMIT ∷ ROLLBACK ∷ BYE ∷ []

-- these, and the requests of one word
unfoldable pub session : Parser Request
session =
    branch (in_authority ++ BEGIN ∷ COMMIT ∷ ROLLBACK ∷ [])
    (branch (in_authority ++ BEGIN ∷ COMMIT ∷ [])
    (branch (in_authority ++ BEGIN ∷ []) (branch in_authority authority (word BEGIN q.Begin)) (word COMMIT q.Commit))
    (word ROLLBACK q.Rollback))
    (word BYE q.Bye)

-- SELECT, INSERT, UPDATE and DELETE
unfoldable pub statement : Parser Request
statement =
    branch (SELECT ∷ INSERT ∷ UPDATE ∷ []) (branch (SELECT ∷ INSERT ∷ []) (branch (SELECT ∷ []) query insert) update) delete

unfoldable pub request : Parser Request
request =
    branch (in_session ++ SELECT ∷ INSERT ∷ UPDATE ∷ [])
    (branch (in_session ++ SELECT ∷ INSERT ∷ [])
    (branch (in_session ++ SELECT ∷ []) (branch in_session session query) insert)
    update)
    delete

-- line = request [;]
unfoldable pub line : Parser Request
line = do
  x ← request
  branch (SEMICOLON ∷ []) (do token SEMICOLON; pure x) (pure x)

-- the request of all lexemes of a line, or how many are left from the first that fits nothing
unfoldable pub whole : Lexemes → Result Request ℕ
whole s = ended (line s)
