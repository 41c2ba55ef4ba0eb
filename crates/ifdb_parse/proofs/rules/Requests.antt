-- Requests, and the line of one, are read by their parsers.
use Rattle.std.proofs.Common.{◌≡◌, ℕ, Bool, true, false, List, [], ◌∷◌, ◌++◌, Some, None, refl}
use Rattle.ifdb_value.specs.declared.column.Column.{Column}
use Rattle.ifdb_syntax.specs.declared.lexeme.Lexeme.{Lexeme}
use Rattle.ifdb_syntax.specs.declared.lexeme.Lexeme.TheVariants as t
use Rattle.ifdb_syntax.specs.declared.request.Request.{Request}
use Rattle.ifdb_syntax.specs.declared.request.Request.TheVariants as q
use Rattle.ifdb_syntax.specs.declared.request.ForeignKey.{ForeignKey}
use Rattle.ifdb_syntax.specs.Words.{is, AS, BEGIN, BYE, CLEARANCE, COMMIT, COMPOUND, CREATE, DECLASSIFYING, DELETE, FOREIGN, FROM, GRANT, HELLO, IN, INSERT, INT, INTEGER, INTO, KEY, LABEL, PRIMARY, PRINCIPAL, REFERENCES, REVOKE, ROLLBACK, SELECT, SET, SHOW, TABLE, TAG, TEXT, TO, UPDATE, VALUES, VIEW, WITH, OPEN, CLOSE, COMMA, EQUAL, SEMICOLON, NAME}
use Rattle.ifdb_syntax.specs.Lang as lang
use Rattle.ifdb_syntax.specs.Lang.{◌or◌}
use Rattle.ifdb_syntax.specs.Reading.{bounded}
use Rattle.ifdb_syntax.specs.Requests as g
use Rattle.ifdb_parse.specs.theory.Kinds.{Kinds}
use Rattle.ifdb_parse.specs.theory.Reads.{Reads}
use Rattle.ifdb_parse.specs.rules.Requests as p
use Rattle.ifdb_parse.specs.rules.Shared as lib
use Rattle.ifdb_parse.proofs.theory.Combine.{nothing_reads, then_reads, branch_reads, widen}
use Rattle.ifdb_parse.proofs.theory.Repeat.{repeat_reads}
use Rattle.ifdb_parse.proofs.rules.Shared.{token_reads, name_reads, text_reads, parens_reads, parens_list_reads, commas_reads, names_reads}
use Rattle.ifdb_parse.proofs.rules.Expressions.{literal_reads, expr_reads, on_expr}
use Rattle.ifdb_parse.proofs.rules.Conditions.{condition_reads, on_condition}
use Rattle.ifdb_parse.proofs.rules.Queries.{plain_reads, select_reads, on_select}

pub word_reads : (k : ℕ) (x : Lexeme) → is k x ≡ Some tt → (request : Request) → Reads (g.word k request) (p.word k request) (k ∷ []) false []
unfolding p.word
word_reads k x e request = then_reads (token_reads k x e) (λ _. nothing_reads request) refl

pub names_behind_reads : (k : ℕ) (x : Lexeme) → is k x ≡ Some tt → Reads (g.names_behind k) (p.names_behind k) (k ∷ []) true (k ∷ [])
unfolding p.names_behind
names_behind_reads k x e = branch_reads (then_reads (token_reads k x e) (λ _. parens_reads names_reads refl refl) refl) (nothing_reads []) refl

pub hello_reads : Reads g.hello p.hello (HELLO ∷ []) false []
unfolding p.hello
hello_reads =
    then_reads (token_reads HELLO t.Hello refl) (λ _.
    then_reads name_reads (λ n. then_reads (token_reads KEY t.Key refl) (λ _. then_reads text_reads (λ key. nothing_reads _) refl) refl) refl) refl

-- ---- behind CREATE

-- names in parentheses, or none
some_names_reads : Reads (lang.parens (lang.optional_list lang.names)) (lib.parens p.some_names) (OPEN ∷ []) false []
unfolding p.some_names
some_names_reads = parens_list_reads (branch_reads names_reads (nothing_reads []) refl) refl refl

pub clearance_reads : Reads g.clearance p.clearance (CLEARANCE ∷ []) true (CLEARANCE ∷ [])
unfolding p.clearance
clearance_reads =
    branch_reads (then_reads (then_reads (token_reads CLEARANCE t.Clearance refl) (λ _. some_names_reads) refl) (λ x. nothing_reads _) refl) (nothing_reads None) refl

pub principal_reads : Reads g.principal p.principal (PRINCIPAL ∷ []) false (CLEARANCE ∷ [])
unfolding p.principal
principal_reads =
    then_reads (token_reads PRINCIPAL t.Principal refl) (λ _.
    then_reads name_reads (λ n. then_reads (token_reads KEY t.Key refl) (λ _.
    then_reads text_reads (λ key. then_reads clearance_reads (λ tags. nothing_reads _) refl) refl) refl) refl) refl

pub tag_reads : (compound : Bool) → Reads (g.tag compound) (p.tag compound) (TAG ∷ []) false (IN ∷ [])
unfolding p.tag
tag_reads compound =
    then_reads (token_reads TAG t.Tag refl) (λ _.
    then_reads name_reads (λ n. then_reads (names_behind_reads IN t.In refl) (λ parents. nothing_reads _) refl) refl) refl

abbrev in_kind : Kinds
in_kind = INT ∷ INTEGER ∷ TEXT ∷ []

pub value_kind_reads : Reads g.value_kind p.value_kind in_kind false []
unfolding p.value_kind
value_kind_reads =
    branch_reads
    (branch_reads (then_reads (token_reads INT t.Int refl) (λ _. nothing_reads _) refl) (then_reads (token_reads INTEGER t.Integer refl) (λ _. nothing_reads _) refl) refl)
    (then_reads (token_reads TEXT t.Text refl) (λ _. nothing_reads _) refl) refl

pub column_reads : Reads g.column p.column (NAME ∷ []) false []
unfolding p.column
column_reads = then_reads name_reads (λ n. then_reads value_kind_reads (λ kind. nothing_reads _) refl) refl

pub foreign_reads : Reads g.foreign p.foreign (FOREIGN ∷ []) false []
unfolding p.foreign
foreign_reads =
    then_reads (token_reads FOREIGN t.Foreign refl) (λ _.
    then_reads (token_reads KEY t.Key refl) (λ _.
    then_reads (parens_reads names_reads refl refl) (λ columns.
    then_reads (token_reads REFERENCES t.References refl) (λ _. then_reads name_reads (λ parent. nothing_reads _) refl) refl) refl) refl) refl

pub column_round_reads : (found : List Column) → Reads (g.column_round found) (p.column_round found) (NAME ∷ []) false []
unfolding p.column_round
column_round_reads found = then_reads column_reads (λ x. then_reads (token_reads COMMA t.Comma refl) (λ _. nothing_reads _) refl) refl

pub foreign_round_reads : (found : List ForeignKey) → Reads (g.foreign_round found) (p.foreign_round found) (COMMA ∷ []) false []
unfolding p.foreign_round
foreign_round_reads found = then_reads (token_reads COMMA t.Comma refl) (λ _. then_reads foreign_reads (λ x. nothing_reads _) refl) refl

pub more_columns_reads : (found : List Column) → Reads (lang.repeat g.column_round found) (p.more_columns found) (NAME ∷ []) true (NAME ∷ [])
unfolding p.more_columns
more_columns_reads found = repeat_reads g.column_round p.column_round (NAME ∷ []) [] column_round_reads refl found

pub foreigns_reads : Reads (lang.repeat g.foreign_round []) p.foreigns (COMMA ∷ []) true (COMMA ∷ [])
unfolding p.foreigns
foreigns_reads = repeat_reads g.foreign_round p.foreign_round (COMMA ∷ []) [] foreign_round_reads refl []

pub table_reads : Reads g.table p.table (TABLE ∷ []) false []
unfolding p.table p.table_columns p.table_keys
table_reads =
    then_reads (token_reads TABLE t.Table refl) (λ _.
    then_reads name_reads (λ n.
    then_reads (token_reads OPEN t.Open refl) (λ _.
    then_reads column_reads (λ first.
    then_reads (token_reads COMMA t.Comma refl) (λ _.
    then_reads (more_columns_reads (first ∷ [])) (λ columns.
    then_reads (token_reads PRIMARY t.Primary refl) (λ _.
    then_reads (token_reads KEY t.Key refl) (λ _.
    then_reads (parens_reads names_reads refl refl) (λ key.
    then_reads foreigns_reads (λ keys.
    then_reads (token_reads CLOSE t.Close refl) (λ _. nothing_reads _) refl) refl) refl) refl) refl) refl) refl) refl) refl) refl) refl

pub view_reads : Reads (g.view bounded) p.view (VIEW ∷ []) false []
unfolding p.view p.view_tags
view_reads =
    then_reads (token_reads VIEW t.View refl) (λ _.
    then_reads name_reads (λ n.
    then_reads (token_reads AS t.As refl) (λ _.
    then_reads plain_reads (λ shown.
    then_reads (token_reads WITH t.With refl) (λ _.
    then_reads (token_reads DECLASSIFYING t.Declassifying refl) (λ _.
    then_reads (parens_reads names_reads refl refl) (λ tags. nothing_reads _) refl) refl) refl) refl) refl) refl) refl

abbrev pub on_create : Kinds
on_create = CLEARANCE ∷ IN ∷ []

pub create_reads : Reads (g.create bounded) p.create (CREATE ∷ []) false on_create
unfolding p.create p.created p.compound_tag
create_reads =
    widen (CREATE ∷ []) on_create
    (then_reads (token_reads CREATE t.Create refl) (λ _.
    branch_reads
    (branch_reads
    (branch_reads (branch_reads principal_reads (tag_reads false) refl) (then_reads (token_reads COMPOUND t.Compound refl) (λ _. tag_reads true) refl) refl)
    table_reads refl)
    view_reads refl) refl) refl refl

-- ---- authority and labels

pub grant_reads : Reads g.grant p.grant (GRANT ∷ []) false []
unfolding p.grant
grant_reads =
    then_reads (token_reads GRANT t.Grant refl) (λ _.
    then_reads name_reads (λ tag. then_reads (token_reads TO t.To refl) (λ _. then_reads name_reads (λ to. nothing_reads _) refl) refl) refl) refl

pub revoke_reads : Reads g.revoke p.revoke (REVOKE ∷ []) false []
unfolding p.revoke
revoke_reads =
    then_reads (token_reads REVOKE t.Revoke refl) (λ _.
    then_reads name_reads (λ tag. then_reads (token_reads FROM t.From refl) (λ _. then_reads name_reads (λ from. nothing_reads _) refl) refl) refl) refl

pub set_label_reads : Reads g.set_label p.set_label (SET ∷ []) false []
unfolding p.set_label
set_label_reads =
    then_reads (token_reads SET t.Set refl) (λ _.
    then_reads (token_reads LABEL t.Label refl) (λ _.
    then_reads some_names_reads (λ tags. nothing_reads _) refl) refl) refl

pub show_label_reads : Reads g.show_label p.show_label (SHOW ∷ []) false []
unfolding p.show_label
show_label_reads = then_reads (token_reads SHOW t.Show refl) (λ _. then_reads (token_reads LABEL t.Label refl) (λ _. nothing_reads _) refl) refl

-- ---- statements

pub query_reads : Reads (g.query bounded) p.query (SELECT ∷ []) false on_select
unfolding p.query
query_reads = widen (SELECT ∷ []) on_select (then_reads select_reads (λ s. nothing_reads _) refl) refl refl

pub row_reads : Reads (g.row bounded) p.row (OPEN ∷ []) false []
unfolding p.row
row_reads = parens_reads (commas_reads literal_reads refl refl refl) refl refl

pub insert_reads : Reads (g.insert bounded) p.insert (INSERT ∷ []) false (COMMA ∷ DECLASSIFYING ∷ [])
unfolding p.insert p.insert_rows p.insert_columns
insert_reads =
    widen (INSERT ∷ []) (COMMA ∷ DECLASSIFYING ∷ [])
    (then_reads (token_reads INSERT t.Insert refl) (λ _.
    then_reads (token_reads INTO t.Into refl) (λ _.
    then_reads name_reads (λ table.
    then_reads (branch_reads (parens_reads names_reads refl refl) (nothing_reads []) refl) (λ columns.
    then_reads (token_reads VALUES t.Values refl) (λ _.
    then_reads (commas_reads row_reads refl refl refl) (λ rows.
    then_reads (names_behind_reads DECLASSIFYING t.Declassifying refl) (λ tags. nothing_reads _) refl) refl) refl) refl) refl) refl) refl) refl refl

pub assignment_reads : Reads (g.assignment bounded) p.assignment (NAME ∷ []) false on_expr
unfolding p.assignment
assignment_reads =
    widen (NAME ∷ []) on_expr
    (then_reads name_reads (λ column. then_reads (token_reads EQUAL t.Equal refl) (λ _. then_reads expr_reads (λ x. nothing_reads _) refl) refl) refl) refl refl

abbrev pub on_update : Kinds
on_update = COMMA ∷ DECLASSIFYING ∷ on_expr ++ on_condition

pub update_reads : Reads (g.update bounded) p.update (UPDATE ∷ []) false on_update
unfolding p.update p.update_set
update_reads =
    widen (UPDATE ∷ []) on_update
    (then_reads (token_reads UPDATE t.Update refl) (λ _.
    then_reads name_reads (λ table.
    then_reads (token_reads SET t.Set refl) (λ _.
    then_reads (commas_reads assignment_reads refl refl refl) (λ assignments.
    then_reads condition_reads (λ found.
    then_reads (names_behind_reads DECLASSIFYING t.Declassifying refl) (λ tags. nothing_reads _) refl) refl) refl) refl) refl) refl) refl refl

pub delete_reads : Reads (g.delete bounded) p.delete (DELETE ∷ []) false on_condition
unfolding p.delete
delete_reads =
    widen (DELETE ∷ []) on_condition
    (then_reads (token_reads DELETE t.Delete refl) (λ _.
    then_reads (token_reads FROM t.From refl) (λ _.
    then_reads name_reads (λ table. then_reads condition_reads (λ found. nothing_reads _) refl) refl) refl) refl) refl refl

-- ---- all of them

authority_reads : Reads (λ u r. (g.hello or g.create bounded or g.grant or g.revoke or g.set_label or g.show_label) u r) p.authority p.in_authority false on_create
unfolding p.authority
authority_reads =
    widen p.in_authority on_create
    (branch_reads
    (branch_reads
    (branch_reads (branch_reads (branch_reads hello_reads create_reads refl) grant_reads refl) revoke_reads refl)
    set_label_reads refl)
    show_label_reads refl) refl refl

session_reads : Reads (λ u r. (g.hello or g.create bounded or g.grant or g.revoke or g.set_label or g.show_label or g.word BEGIN q.Begin or g.word COMMIT q.Commit or g.word ROLLBACK q.Rollback or g.word BYE q.Bye) u r) p.session p.in_session false on_create
unfolding p.session
session_reads =
    widen p.in_session on_create
    (branch_reads
    (branch_reads
    (branch_reads (branch_reads authority_reads (word_reads BEGIN t.Begin refl q.Begin) refl) (word_reads COMMIT t.Commit refl q.Commit) refl)
    (word_reads ROLLBACK t.Rollback refl q.Rollback) refl)
    (word_reads BYE t.Bye refl q.Bye) refl) refl refl

abbrev pub in_request : Kinds
in_request = p.in_session ++ SELECT ∷ INSERT ∷ UPDATE ∷ DELETE ∷ []

abbrev pub on_request : Kinds
on_request = on_create ++ on_select ++ on_update

pub request_reads : Reads (g.request bounded) p.request in_request false on_request
unfolding p.request
request_reads =
    widen in_request on_request
    (branch_reads
    (branch_reads (branch_reads (branch_reads session_reads query_reads refl) insert_reads refl) update_reads refl)
    delete_reads refl) refl refl

abbrev pub on_line : Kinds
on_line = SEMICOLON ∷ on_request

pub line_reads : Reads (g.line bounded) p.line in_request false on_line
unfolding p.line
line_reads =
    widen in_request on_line
    (then_reads request_reads (λ x.
    branch_reads (then_reads (token_reads SEMICOLON t.Semicolon refl) (λ _. nothing_reads x) refl) (nothing_reads x) refl) refl) refl refl
