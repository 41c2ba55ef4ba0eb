-- SELECT and its parts are read by their parsers.
use Rattle.std.proofs.Common.{◌≡◌, ℕ, true, false, List, [], ◌∷◌, ◌++◌, Option, Some, None, refl}
use Rattle.ifdb_syntax.specs.declared.lexeme.Lexeme.{Lexeme}
use Rattle.ifdb_syntax.specs.declared.lexeme.Lexeme.TheVariants as t
use Rattle.ifdb_syntax.specs.declared.expression.ColumnRef.{ColumnRef}
use Rattle.ifdb_syntax.specs.declared.select.Item.{Item}
use Rattle.ifdb_syntax.specs.declared.select.Item.TheVariants as i
use Rattle.ifdb_syntax.specs.Words.{is, SELECT, FROM, AS, LABEL, OF, COUNT, SUM, MIN, MAX, GROUP, ORDER, BY, ASC, DESC, STAR, DOT, COMMA, NAME, NUMBER}
use Rattle.ifdb_syntax.specs.Lang as lang
use Rattle.ifdb_syntax.specs.Lang.{◌or◌}
use Rattle.ifdb_syntax.specs.Reading.{bounded}
use Rattle.ifdb_syntax.specs.Queries as g
use Rattle.ifdb_parse.specs.theory.Kinds.{Kinds}
use Rattle.ifdb_parse.specs.theory.Reads.{Reads}
use Rattle.ifdb_parse.specs.rules.Expressions.{in_expr}
use Rattle.ifdb_parse.specs.rules.Queries as p
use Rattle.ifdb_parse.proofs.theory.Combine.{nothing_reads, then_reads, branch_reads, widen}
use Rattle.ifdb_parse.proofs.rules.Shared.{token_reads, name_reads, number_reads, parens_reads, commas_reads}
use Rattle.ifdb_parse.proofs.rules.Expressions.{ref_reads, expr_reads, on_expr}
use Rattle.ifdb_parse.proofs.rules.Conditions.{condition_reads, on_condition}

pub named_as_reads : Reads g.named_as p.named_as (AS ∷ []) true (AS ∷ [])
unfolding p.named_as
named_as_reads =
    branch_reads (then_reads (then_reads (token_reads AS t.As refl) (λ _. name_reads) refl) (λ x. nothing_reads _) refl) (nothing_reads None) refl

-- ---- items

abbrev pub on_item : Kinds
on_item = AS ∷ on_expr

pub named_reads : Reads (g.named bounded) p.named in_expr false on_item
unfolding p.named
named_reads = widen in_expr on_item (then_reads expr_reads (λ x. then_reads named_as_reads (λ n. nothing_reads _) refl) refl) refl refl

pub label_of_reads : Reads g.label_of p.label_of (LABEL ∷ []) false (AS ∷ [])
unfolding p.label_of
label_of_reads =
    then_reads (token_reads LABEL t.Label refl) (λ _.
    then_reads (token_reads OF t.Of refl) (λ _.
    then_reads name_reads (λ source. then_reads named_as_reads (λ n. nothing_reads _) refl) refl) refl) refl

pub count_all_reads : Reads g.count_all p.count_all (COUNT ∷ []) false (AS ∷ [])
unfolding p.count_all
count_all_reads =
    then_reads (token_reads COUNT t.Count refl) (λ _.
    then_reads (parens_reads (token_reads STAR t.Star refl) refl refl) (λ _. then_reads named_as_reads (λ n. nothing_reads _) refl) refl) refl

pub aggregate_reads : (k : ℕ) (x : Lexeme) → is k x ≡ Some tt → (item : ColumnRef → Option (List ℕ) → Item) → Reads (g.aggregate k item) (p.aggregate k item) (k ∷ []) false (AS ∷ [])
unfolding p.aggregate
aggregate_reads k x e item =
    then_reads (token_reads k x e) (λ _.
    then_reads (parens_reads ref_reads refl refl) (λ column. then_reads named_as_reads (λ n. nothing_reads _) refl) refl) refl

abbrev pub in_item : Kinds
in_item = in_expr ++ LABEL ∷ COUNT ∷ SUM ∷ MIN ∷ MAX ∷ []

pub item_reads : Reads (g.item bounded) p.item in_item false on_item
unfolding p.item p.plain_item
item_reads =
    widen in_item on_item
    (branch_reads
    (branch_reads
    (branch_reads (branch_reads (branch_reads named_reads label_of_reads refl) count_all_reads refl) (aggregate_reads SUM t.Sum refl i.Sum) refl)
    (aggregate_reads MIN t.Min refl i.Min) refl)
    (aggregate_reads MAX t.Max refl i.Max) refl) refl refl

pub all_reads : Reads g.all p.all (STAR ∷ []) false []
unfolding p.all
all_reads = then_reads (token_reads STAR t.Star refl) (λ _. nothing_reads _) refl

abbrev pub on_list : Kinds
on_list = COMMA ∷ on_item

pub list_reads : Reads (g.list bounded) p.list (STAR ∷ in_item) false on_list
unfolding p.list
list_reads = widen (STAR ∷ in_item) on_list (branch_reads all_reads (commas_reads item_reads refl refl refl) refl) refl refl

pub plain_list_reads : Reads (λ u b. (g.all or lang.commas (g.named bounded)) u b) p.plain_list (STAR ∷ in_expr) false on_list
unfolding p.plain_list p.nameds
plain_list_reads = widen (STAR ∷ in_expr) on_list (branch_reads all_reads (commas_reads named_reads refl refl refl) refl) refl refl

-- ---- sources

pub alias_reads : Reads (λ u b. ((λ u b. lang.Then (lang.token AS) (λ _. lang.name) u b) or lang.name) u b) p.alias (AS ∷ NAME ∷ []) false []
unfolding p.alias
alias_reads = branch_reads (then_reads (token_reads AS t.As refl) (λ _. name_reads) refl) name_reads refl

pub source_reads : Reads g.source p.source (NAME ∷ []) false (AS ∷ NAME ∷ [])
unfolding p.source
source_reads = then_reads name_reads (λ n. branch_reads (then_reads alias_reads (λ a. nothing_reads _) refl) (nothing_reads _) refl) refl

abbrev pub on_sources : Kinds
on_sources = AS ∷ NAME ∷ COMMA ∷ []

pub sources_reads : Reads g.sources p.sources (NAME ∷ []) false on_sources
unfolding p.sources
sources_reads = widen (NAME ∷ []) on_sources (commas_reads source_reads refl refl refl) refl refl

-- ---- what follows the sources

abbrev pub on_columns : Kinds
on_columns = DOT ∷ COMMA ∷ []

pub columns_reads : Reads g.columns p.columns (NAME ∷ []) false on_columns
unfolding p.columns
columns_reads = widen (NAME ∷ []) on_columns (commas_reads ref_reads refl refl refl) refl refl

pub order_by_reads : Reads g.order_by p.order_by (NAME ∷ NUMBER ∷ []) false []
unfolding p.order_by
order_by_reads = branch_reads (then_reads name_reads (λ n. nothing_reads _) refl) (then_reads number_reads (λ n. nothing_reads _) refl) refl

abbrev pub in_descends : Kinds
in_descends = ASC ∷ DESC ∷ []

pub descends_reads : Reads g.descends p.descends in_descends true in_descends
unfolding p.descends
descends_reads =
    branch_reads
    (branch_reads (then_reads (token_reads ASC t.Asc refl) (λ _. nothing_reads _) refl) (then_reads (token_reads DESC t.Desc refl) (λ _. nothing_reads _) refl) refl)
    (nothing_reads _) refl

pub order_reads : Reads g.order p.order (NAME ∷ NUMBER ∷ []) false in_descends
unfolding p.order
order_reads =
    widen (NAME ∷ NUMBER ∷ []) in_descends (then_reads order_by_reads (λ target. then_reads descends_reads (λ d. nothing_reads _) refl) refl) refl refl

abbrev pub on_plain : Kinds
on_plain = on_sources ++ on_condition

pub plain_reads : Reads (g.plain bounded) p.plain (SELECT ∷ []) false on_plain
unfolding p.plain
plain_reads =
    widen (SELECT ∷ []) on_plain
    (then_reads (token_reads SELECT t.Select refl) (λ _.
    then_reads plain_list_reads (λ items.
    then_reads (token_reads FROM t.From refl) (λ _.
    then_reads sources_reads (λ from. then_reads condition_reads (λ found. nothing_reads _) refl) refl) refl) refl) refl) refl refl

abbrev pub on_grouped : Kinds
on_grouped = GROUP ∷ on_columns

pub grouped_reads : Reads (lang.optional_list (λ u b. lang.Then (lang.token GROUP) (λ _ u b. lang.Then (lang.token BY) (λ _. g.columns) u b) u b)) p.grouped (GROUP ∷ []) true on_grouped
unfolding p.grouped p.by_columns
grouped_reads =
    widen (GROUP ∷ []) on_grouped
    (branch_reads (then_reads (token_reads GROUP t.Group refl) (λ _. then_reads (token_reads BY t.By refl) (λ _. columns_reads) refl) refl) (nothing_reads []) refl) refl refl

abbrev pub on_ordered : Kinds
on_ordered = ORDER ∷ COMMA ∷ in_descends

pub ordered_reads : Reads (lang.optional_list (λ u b. lang.Then (lang.token ORDER) (λ _ u b. lang.Then (lang.token BY) (λ _. lang.commas g.order) u b) u b)) p.ordered (ORDER ∷ []) true on_ordered
unfolding p.ordered p.by_orders
ordered_reads =
    widen (ORDER ∷ []) on_ordered
    (branch_reads (then_reads (token_reads ORDER t.Order refl) (λ _. then_reads (token_reads BY t.By refl) (λ _. commas_reads order_reads refl refl refl) refl) refl) (nothing_reads []) refl) refl refl

abbrev pub on_select : Kinds
on_select = on_plain ++ on_grouped ++ on_ordered

pub select_reads : Reads (g.select bounded) p.select (SELECT ∷ []) false on_select
unfolding p.select p.select_from
select_reads =
    widen (SELECT ∷ []) on_select
    (then_reads (token_reads SELECT t.Select refl) (λ _.
    then_reads list_reads (λ items.
    then_reads (token_reads FROM t.From refl) (λ _.
    then_reads sources_reads (λ from.
    then_reads condition_reads (λ found.
    then_reads grouped_reads (λ group. then_reads ordered_reads (λ keys. nothing_reads _) refl) refl) refl) refl) refl) refl) refl) refl refl
