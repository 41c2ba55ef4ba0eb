-- The numbers of statements and requests are those of their lexemes.
use Rattle.std.proofs.Common.{◌≡◌, ℕ, Bool, true, false, List, [], ◌∷◌, ◌++◌, Option, None, refl, sym, ap, ◌∙◌}
use Rattle.std.specs.Prelude.{◌&&◌, nat_lt}
use Rattle.std.specs.List.{list_all}
use Rattle.ifdb_value.specs.declared.column.Column.{Column}
use Rattle.ifdb_syntax.specs.declared.lexeme.Lexeme.{Lexeme}
use Rattle.ifdb_syntax.specs.declared.lexeme.Lexeme.TheVariants as t
use Rattle.ifdb_syntax.specs.declared.expression.ColumnRef.{ColumnRef}
use Rattle.ifdb_syntax.specs.declared.select.Item.{Item}
use Rattle.ifdb_syntax.specs.declared.select.Item.TheVariants as i
use Rattle.ifdb_syntax.specs.declared.request.Request.{Request}
use Rattle.ifdb_syntax.specs.declared.request.Request.TheVariants as q
use Rattle.ifdb_syntax.specs.Words.{kind, AS, ASC, BEGIN, BY, BYE, CLEARANCE, COMMIT, COMPOUND, COUNT, CREATE, DECLASSIFYING, DELETE, DESC, FOREIGN, FROM, GRANT, GROUP, HELLO, IN, INSERT, INT, INTEGER, INTO, KEY, LABEL, MAX, MIN, OF, ORDER, PRIMARY, PRINCIPAL, REFERENCES, REVOKE, ROLLBACK, SELECT, SET, SHOW, SUM, TABLE, TAG, TEXT, TO, UPDATE, VALUES, VIEW, WITH, OPEN, CLOSE, COMMA, EQUAL, STAR, SEMICOLON, NAME}
use Rattle.ifdb_syntax.specs.Lang.{Lang, ◌or◌, Then, nothing, repeat, token, name, parens, optional_list, commas, names}
use Rattle.ifdb_syntax.specs.Reading.{written}
use Rattle.ifdb_syntax.specs.Queries as g
use Rattle.ifdb_syntax.specs.Requests as h
use Rattle.ifdb_parse.specs.declared.limits.Before.{Before}
use Rattle.ifdb_parse.specs.declared.limits.Before.TheVariants as before
use Rattle.ifdb_parse.specs.TreeLimits.{behind}
use Rattle.ifdb_syntax.specs.Within.{value_fits, condition_fits, item_fits, select_fits, assignment_fits}
use Rattle.ifdb_parse.specs.Numbers.{order_by_fits, order_fits, select_numbers_fit, numbers_fit}
use Rattle.ifdb_parse.proofs.written.Tally.{Tallies, any, other, operand, fits_behind, and_assoc, nothing_tallies, then_tallies, or_tallies, repeat_tallies, placed, token_tallies, name_tallies, text_tallies, number_tallies, and_true}
use Rattle.ifdb_parse.proofs.written.Values.{parens_tallies, commas_tallies, ref_tallies, literal_tallies, expr_tallies, condition_tallies}

-- ---- parts without a number

-- a word or symbol, behind which nothing is known but that it is no operand
at : {P : Before → Type 0} {known : Bool} (k : ℕ) (x : Lexeme) → nat_lt k NAME ≡ true → kind x ≡ k → ((last : Before) → (fits_behind x last ≡ true) × (behind last x ≡ before.Other)) → Tallies (token k) P known (λ _. known) other
at k x small e tells = token_tallies k x small e (λ last p. tells last)

names_tallies : {P : Before → Type 0} {known : Bool} → Tallies names P known (λ _. known) operand
names_tallies {P} {known} =
    then_tallies name_tallies (λ x. repeat_tallies (λ found u a. Then (token COMMA) (λ _ u a. Then name (λ y. nothing (found ++ y ∷ [])) u a) u a) (λ _. known)
    (λ found. then_tallies (at COMMA t.Comma refl refl (λ last. (refl, refl))) (λ _. then_tallies name_tallies (λ y. nothing_tallies _ refl))) (x ∷ []))

paren_names_tallies : {P : Before → Type 0} {known : Bool} → Tallies (parens names) P known (λ _. known) operand
paren_names_tallies = parens_tallies names_tallies

named_as_tallies : {known : Bool} → Tallies g.named_as operand known (λ _. known) operand
named_as_tallies =
    or_tallies (then_tallies (then_tallies (at AS t.As refl refl (λ last. (refl, refl))) (λ _. name_tallies)) (λ x. nothing_tallies _ refl))
    (nothing_tallies None refl)

names_behind_tallies : {known : Bool} (k : ℕ) (x : Lexeme) → nat_lt k NAME ≡ true → kind x ≡ k → ((last : Before) → (fits_behind x last ≡ true) × (behind last x ≡ before.Other)) → Tallies (h.names_behind k) operand known (λ _. known) operand
names_behind_tallies k x small e tells = or_tallies (then_tallies (at k x small e tells) (λ _. paren_names_tallies)) (nothing_tallies [] refl)

-- ---- items

named_tallies : (known : Bool) → Tallies (g.named written) other known (λ x. known && item_fits x) operand
named_tallies known = then_tallies (expr_tallies known) (λ x. then_tallies named_as_tallies (λ n. nothing_tallies _ refl))

label_of_tallies : (known : Bool) → Tallies g.label_of other known (λ x. known && item_fits x) operand
label_of_tallies known =
    then_tallies (at LABEL t.Label refl refl (λ last. (refl, refl))) (λ _. then_tallies (at OF t.Of refl refl (λ last. (refl, refl))) (λ _.
    then_tallies name_tallies (λ s. then_tallies named_as_tallies (λ n. nothing_tallies _ (sym (and_true known))))))

star_tallies : {P : Before → Type 0} {known : Bool} → Tallies (token STAR) P known (λ _. known) other
star_tallies = at STAR t.Star refl refl (λ last. (refl, refl))

count_all_tallies : (known : Bool) → Tallies g.count_all other known (λ x. known && item_fits x) operand
count_all_tallies known =
    then_tallies (at COUNT t.Count refl refl (λ last. (refl, refl))) (λ _. then_tallies (parens_tallies star_tallies) (λ _.
    then_tallies named_as_tallies (λ n. nothing_tallies _ (sym (and_true known)))))

aggregate_tallies : (known : Bool) (k : ℕ) (x : Lexeme) → nat_lt k NAME ≡ true → kind x ≡ k → ((last : Before) → (fits_behind x last ≡ true) × (behind last x ≡ before.Other)) → (make : ColumnRef → Option (List ℕ) → Item) → ((column : ColumnRef) (n : Option (List ℕ)) → item_fits (make column n) ≡ true) → Tallies (g.aggregate k make) other known (λ x. known && item_fits x) operand
aggregate_tallies known k x small e tells make none =
    then_tallies (at k x small e tells) (λ _. then_tallies (parens_tallies ref_tallies) (λ column.
    then_tallies named_as_tallies (λ n. nothing_tallies _ (sym (and_true known) ∙ ap (λ z. known && z) (sym (none column n))))))

item_tallies : (known : Bool) → Tallies (g.item written) other known (λ x. known && item_fits x) operand
item_tallies known =
    or_tallies (or_tallies (or_tallies (or_tallies (or_tallies (named_tallies known) (label_of_tallies known)) (count_all_tallies known))
    (aggregate_tallies known SUM t.Sum refl refl (λ last. (refl, refl)) i.Sum (λ column n. refl)))
    (aggregate_tallies known MIN t.Min refl refl (λ last. (refl, refl)) i.Min (λ column n. refl)))
    (aggregate_tallies known MAX t.Max refl refl (λ last. (refl, refl)) i.Max (λ column n. refl))

abbrev items_fit : Bool → List Item → Bool
items_fit known items = known && list_all item_fits items

all_tallies : (known : Bool) → Tallies g.all other known (items_fit known) any
all_tallies known = placed (then_tallies star_tallies (λ _. nothing_tallies _ (sym (and_true known)))) (λ last p. p) (λ last p. tt)

list_tallies : (known : Bool) → Tallies (g.list written) other known (items_fit known) any
list_tallies known = or_tallies (all_tallies known) (placed (commas_tallies item_tallies known) (λ last p. p) (λ last p. tt))

plain_list_tallies : (known : Bool) → Tallies (λ u b. (g.all or commas (g.named written)) u b) other known (items_fit known) any
plain_list_tallies known = or_tallies (all_tallies known) (placed (commas_tallies named_tallies known) (λ last p. p) (λ last p. tt))

-- ---- SELECT

source_tallies : {P : Before → Type 0} {known : Bool} → Tallies g.source P known (λ _. known) operand
source_tallies =
    then_tallies name_tallies (λ n. or_tallies
    (then_tallies (or_tallies (then_tallies (at AS t.As refl refl (λ last. (refl, refl))) (λ _. name_tallies)) name_tallies) (λ a. nothing_tallies _ refl))
    (nothing_tallies _ refl))

-- a list of what has no number
list_free : {A : Type 0} {l : Lang A} {P : Before → Type 0} {known : Bool} → ((Q : Before → Type 0) → Tallies l Q known (λ _. known) operand) → Tallies (commas l) P known (λ _. known) operand
list_free {l} {P} {known} tl =
    then_tallies (tl P) (λ x. repeat_tallies (λ found u a. Then (token COMMA) (λ _ u a. Then l (λ y. nothing (found ++ y ∷ [])) u a) u a) (λ _. known)
    (λ found. then_tallies (at COMMA t.Comma refl refl (λ last. (refl, refl))) (λ _. then_tallies (tl other) (λ y. nothing_tallies _ refl))) (x ∷ []))

sources_tallies : {P : Before → Type 0} {known : Bool} → Tallies g.sources P known (λ _. known) operand
sources_tallies = list_free (λ Q. source_tallies)

order_by_tallies : (known : Bool) → Tallies g.order_by other known (λ x. known && order_by_fits x) operand
order_by_tallies known =
    or_tallies (then_tallies name_tallies (λ n. nothing_tallies _ (sym (and_true known)))) (then_tallies number_tallies (λ n. nothing_tallies _ refl))

descends_tallies : {known : Bool} → Tallies g.descends operand known (λ _. known) any
descends_tallies =
    or_tallies (or_tallies
    (placed (then_tallies (at ASC t.Asc refl refl (λ last. (refl, refl))) (λ _. nothing_tallies _ refl)) (λ last p. p) (λ last p. tt))
    (placed (then_tallies (at DESC t.Desc refl refl (λ last. (refl, refl))) (λ _. nothing_tallies _ refl)) (λ last p. p) (λ last p. tt)))
    (placed (nothing_tallies false refl) (λ last p. p) (λ last p. tt))

order_tallies : (known : Bool) → Tallies g.order other known (λ x. known && order_fits x) any
order_tallies known = then_tallies (order_by_tallies known) (λ target. then_tallies descends_tallies (λ d. nothing_tallies _ refl))

plain_tallies : {P : Before → Type 0} (known : Bool) → Tallies (g.plain written) P known (λ s. known && select_fits s) operand
plain_tallies known =
    then_tallies (at SELECT t.Select refl refl (λ last. (refl, refl))) (λ _. then_tallies (plain_list_tallies known) (λ items.
    then_tallies (at FROM t.From refl refl (λ last. (refl, refl))) (λ _. then_tallies sources_tallies (λ from.
    then_tallies (condition_tallies (items_fit known items)) (λ found. nothing_tallies _ (end known (list_all item_fits items) (condition_fits found)))))))
  where
    end : (a b c : Bool) → ((a && b) && c) ≡ (a && (b && c))
    end a b c = sym (and_assoc a b c)

grouped_tallies : {known : Bool} → Tallies (optional_list (λ u b. Then (token GROUP) (λ _ u b. Then (token BY) (λ _. g.columns) u b) u b)) operand known (λ _. known) operand
grouped_tallies =
    or_tallies (then_tallies (at GROUP t.Group refl refl (λ last. (refl, refl))) (λ _. then_tallies (at BY t.By refl refl (λ last. (refl, refl))) (λ _. list_free (λ Q. ref_tallies))))
    (nothing_tallies [] refl)

ordered_tallies : (known : Bool) → Tallies (optional_list (λ u b. Then (token ORDER) (λ _ u b. Then (token BY) (λ _. commas g.order) u b) u b)) operand known (λ keys. known && list_all order_fits keys) any
ordered_tallies known =
    or_tallies (then_tallies (at ORDER t.Order refl refl (λ last. (refl, refl))) (λ _. then_tallies (at BY t.By refl refl (λ last. (refl, refl))) (λ _. commas_tallies order_tallies known)))
    (placed (nothing_tallies [] (sym (and_true known))) (λ last p. p) (λ last p. tt))

select_tallies : {P : Before → Type 0} (known : Bool) → Tallies (g.select written) P known (λ s. known && select_numbers_fit s) any
select_tallies known =
    then_tallies (at SELECT t.Select refl refl (λ last. (refl, refl))) (λ _. then_tallies (list_tallies known) (λ items.
    then_tallies (at FROM t.From refl refl (λ last. (refl, refl))) (λ _. then_tallies sources_tallies (λ from.
    then_tallies (condition_tallies (items_fit known items)) (λ found.
    then_tallies grouped_tallies (λ group.
    then_tallies (ordered_tallies (items_fit known items && condition_fits found)) (λ keys.
    nothing_tallies _ (end known (list_all item_fits items) (condition_fits found) (list_all order_fits keys)))))))))
  where
    end : (a b c d : Bool) → (((a && b) && c) && d) ≡ (a && ((b && c) && d))
    end true b c d = refl
    end false b c d = refl

-- ---- requests

abbrev Request_tallies : Lang Request → Type 0
Request_tallies l = (known : Bool) → Tallies l any known (λ r. known && numbers_fit r) any

-- leads anywhere
ends : {l : Lang Request} {Q : Before → Type 0} {known : Bool} {f : Request → Bool} → Tallies l any known f Q → Tallies l any known f any
ends tl = placed tl (λ last p. p) (λ last p. tt)

word_tallies : (k : ℕ) (x : Lexeme) (r : Request) → nat_lt k NAME ≡ true → kind x ≡ k → ((last : Before) → (fits_behind x last ≡ true) × (behind last x ≡ before.Other)) → numbers_fit r ≡ true → Request_tallies (h.word k r)
word_tallies k x r small e tells none known =
    ends (then_tallies (at k x small e tells) (λ _. nothing_tallies r (sym (and_true known) ∙ ap (λ z. known && z) (sym none))))

hello_tallies : Request_tallies h.hello
hello_tallies known =
    ends (then_tallies (at HELLO t.Hello refl refl (λ last. (refl, refl))) (λ _. then_tallies name_tallies (λ n.
    then_tallies (at KEY t.Key refl refl (λ last. (refl, refl))) (λ _. then_tallies text_tallies (λ key. nothing_tallies _ (sym (and_true known)))))))

some_names_tallies : {known : Bool} → Tallies (optional_list names) other known (λ _. known) any
some_names_tallies = or_tallies (placed names_tallies (λ last p. p) (λ last p. tt)) (placed (nothing_tallies [] refl) (λ last p. p) (λ last p. tt))

clearance_tallies : {known : Bool} → Tallies h.clearance operand known (λ _. known) operand
clearance_tallies =
    or_tallies (then_tallies (then_tallies (at CLEARANCE t.Clearance refl refl (λ last. (refl, refl))) (λ _. parens_tallies some_names_tallies)) (λ x. nothing_tallies _ refl))
    (nothing_tallies None refl)

principal_tallies : Request_tallies h.principal
principal_tallies known =
    ends (then_tallies (at PRINCIPAL t.Principal refl refl (λ last. (refl, refl))) (λ _. then_tallies name_tallies (λ n.
    then_tallies (at KEY t.Key refl refl (λ last. (refl, refl))) (λ _. then_tallies text_tallies (λ key.
    then_tallies clearance_tallies (λ tags. nothing_tallies _ (sym (and_true known))))))))

tag_tallies : (compound : Bool) → Request_tallies (h.tag compound)
tag_tallies compound known =
    ends (then_tallies (at TAG t.Tag refl refl (λ last. (refl, refl))) (λ _. then_tallies name_tallies (λ n.
    then_tallies (names_behind_tallies IN t.In refl refl (λ last. (refl, refl))) (λ parents. nothing_tallies _ (sym (and_true known))))))

value_kind_tallies : {P : Before → Type 0} {known : Bool} → Tallies h.value_kind P known (λ _. known) other
value_kind_tallies =
    or_tallies (or_tallies
    (then_tallies (at INT t.Int refl refl (λ last. (refl, refl))) (λ _. nothing_tallies _ refl))
    (then_tallies (at INTEGER t.Integer refl refl (λ last. (refl, refl))) (λ _. nothing_tallies _ refl)))
    (then_tallies (at TEXT t.Text refl refl (λ last. (refl, refl))) (λ _. nothing_tallies _ refl))

column_tallies : {P : Before → Type 0} {known : Bool} → Tallies h.column P known (λ _. known) other
column_tallies = then_tallies name_tallies (λ n. then_tallies value_kind_tallies (λ kind. nothing_tallies _ refl))

foreign_tallies : {P : Before → Type 0} {known : Bool} → Tallies h.foreign P known (λ _. known) operand
foreign_tallies =
    then_tallies (at FOREIGN t.Foreign refl refl (λ last. (refl, refl))) (λ _. then_tallies (at KEY t.Key refl refl (λ last. (refl, refl))) (λ _.
    then_tallies paren_names_tallies (λ columns. then_tallies (at REFERENCES t.References refl refl (λ last. (refl, refl))) (λ _.
    then_tallies name_tallies (λ parent. nothing_tallies _ refl)))))

more_columns_tallies : {known : Bool} (found : List Column) → Tallies (repeat h.column_round found) other known (λ _. known) other
more_columns_tallies {known} found =
    repeat_tallies h.column_round (λ _. known) (λ found. then_tallies column_tallies (λ x.
    then_tallies (at COMMA t.Comma refl refl (λ last. (refl, refl))) (λ _. nothing_tallies _ refl))) found

foreigns_tallies : {known : Bool} → Tallies (repeat h.foreign_round []) operand known (λ _. known) operand
foreigns_tallies {known} =
    repeat_tallies h.foreign_round (λ _. known) (λ found.
    then_tallies (at COMMA t.Comma refl refl (λ last. (refl, refl))) (λ _. then_tallies foreign_tallies (λ x. nothing_tallies _ refl))) []

table_tallies : Request_tallies h.table
table_tallies known =
    ends (then_tallies (at TABLE t.Table refl refl (λ last. (refl, refl))) (λ _. then_tallies name_tallies (λ n.
    then_tallies (at OPEN t.Open refl refl (λ last. (refl, refl))) (λ _. then_tallies column_tallies (λ first.
    then_tallies (at COMMA t.Comma refl refl (λ last. (refl, refl))) (λ _. then_tallies (more_columns_tallies (first ∷ [])) (λ columns.
    then_tallies (at PRIMARY t.Primary refl refl (λ last. (refl, refl))) (λ _. then_tallies (at KEY t.Key refl refl (λ last. (refl, refl))) (λ _.
    then_tallies paren_names_tallies (λ key. then_tallies foreigns_tallies (λ keys.
    then_tallies (token_tallies {Q = operand} CLOSE t.Close refl refl (λ last p. (refl, refl))) (λ _. nothing_tallies _ (sym (and_true known))))))))))))))

view_tallies : Request_tallies (h.view written)
view_tallies known =
    ends (then_tallies (at VIEW t.View refl refl (λ last. (refl, refl))) (λ _. then_tallies name_tallies (λ n.
    then_tallies (at AS t.As refl refl (λ last. (refl, refl))) (λ _. then_tallies (plain_tallies known) (λ shown.
    then_tallies (at WITH t.With refl refl (λ last. (refl, refl))) (λ _. then_tallies (at DECLASSIFYING t.Declassifying refl refl (λ last. (refl, refl))) (λ _.
    then_tallies paren_names_tallies (λ tags. nothing_tallies _ refl))))))))

create_tallies : Request_tallies (h.create written)
create_tallies known =
    then_tallies (placed (at {P = any} CREATE t.Create refl refl (λ last. (refl, refl))) (λ last p. p) (λ last p. tt)) (λ _.
    or_tallies (or_tallies (or_tallies (or_tallies (principal_tallies known) (tag_tallies false known))
    (then_tallies (placed (at {P = any} COMPOUND t.Compound refl refl (λ last. (refl, refl))) (λ last p. p) (λ last p. tt)) (λ _. tag_tallies true known)))
    (table_tallies known)) (view_tallies known))

grant_tallies : Request_tallies h.grant
grant_tallies known =
    ends (then_tallies (at GRANT t.Grant refl refl (λ last. (refl, refl))) (λ _. then_tallies name_tallies (λ a.
    then_tallies (at TO t.To refl refl (λ last. (refl, refl))) (λ _. then_tallies name_tallies (λ b. nothing_tallies _ (sym (and_true known)))))))

revoke_tallies : Request_tallies h.revoke
revoke_tallies known =
    ends (then_tallies (at REVOKE t.Revoke refl refl (λ last. (refl, refl))) (λ _. then_tallies name_tallies (λ a.
    then_tallies (at FROM t.From refl refl (λ last. (refl, refl))) (λ _. then_tallies name_tallies (λ b. nothing_tallies _ (sym (and_true known)))))))

set_label_tallies : Request_tallies h.set_label
set_label_tallies known =
    ends (then_tallies (at SET t.Set refl refl (λ last. (refl, refl))) (λ _. then_tallies (at LABEL t.Label refl refl (λ last. (refl, refl))) (λ _.
    then_tallies (parens_tallies some_names_tallies) (λ tags. nothing_tallies _ (sym (and_true known))))))

show_label_tallies : Request_tallies h.show_label
show_label_tallies known =
    ends (then_tallies (at SHOW t.Show refl refl (λ last. (refl, refl))) (λ _. then_tallies (at LABEL t.Label refl refl (λ last. (refl, refl))) (λ _.
    nothing_tallies _ (sym (and_true known)))))

query_tallies : Request_tallies (h.query written)
query_tallies known = then_tallies (select_tallies known) (λ s. nothing_tallies _ refl)

row_tallies : (known : Bool) → Tallies (h.row written) other known (λ r. known && list_all value_fits r) operand
row_tallies known = parens_tallies (commas_tallies literal_tallies known)

insert_columns_tallies : {known : Bool} → Tallies (optional_list (parens names)) operand known (λ _. known) operand
insert_columns_tallies = or_tallies paren_names_tallies (nothing_tallies [] refl)

insert_tallies : Request_tallies (h.insert written)
insert_tallies known =
    ends (then_tallies (at INSERT t.Insert refl refl (λ last. (refl, refl))) (λ _. then_tallies (at INTO t.Into refl refl (λ last. (refl, refl))) (λ _.
    then_tallies name_tallies (λ table. then_tallies insert_columns_tallies (λ columns.
    then_tallies (at VALUES t.Values refl refl (λ last. (refl, refl))) (λ _. then_tallies (commas_tallies row_tallies known) (λ rows.
    then_tallies (names_behind_tallies DECLASSIFYING t.Declassifying refl refl (λ last. (refl, refl))) (λ tags. nothing_tallies _ refl))))))))

assignment_tallies : (known : Bool) → Tallies (h.assignment written) other known (λ a. known && assignment_fits a) operand
assignment_tallies known =
    then_tallies name_tallies (λ n. then_tallies (at EQUAL t.Equal refl refl (λ last. (refl, refl))) (λ _. then_tallies (expr_tallies known) (λ x. nothing_tallies _ refl)))

update_tallies : Request_tallies (h.update written)
update_tallies known =
    ends (then_tallies (at UPDATE t.Update refl refl (λ last. (refl, refl))) (λ _. then_tallies name_tallies (λ table.
    then_tallies (at SET t.Set refl refl (λ last. (refl, refl))) (λ _. then_tallies (commas_tallies assignment_tallies known) (λ assignments.
    then_tallies (condition_tallies (known && list_all assignment_fits assignments)) (λ found.
    then_tallies (names_behind_tallies DECLASSIFYING t.Declassifying refl refl (λ last. (refl, refl))) (λ tags.
    nothing_tallies _ (sym (and_assoc known (list_all assignment_fits assignments) (condition_fits found))))))))))

delete_tallies : Request_tallies (h.delete written)
delete_tallies known =
    ends (then_tallies (at DELETE t.Delete refl refl (λ last. (refl, refl))) (λ _. then_tallies (at FROM t.From refl refl (λ last. (refl, refl))) (λ _.
    then_tallies name_tallies (λ table. then_tallies (condition_tallies known) (λ found. nothing_tallies _ refl)))))

request_tallies : Request_tallies (h.request written)
request_tallies known =
    or_tallies (or_tallies (or_tallies (or_tallies (or_tallies (or_tallies (or_tallies (or_tallies (or_tallies (or_tallies (or_tallies (or_tallies (or_tallies
    (hello_tallies known) (create_tallies known)) (grant_tallies known)) (revoke_tallies known)) (set_label_tallies known)) (show_label_tallies known))
    (word_tallies BEGIN t.Begin q.Begin refl refl (λ last. (refl, refl)) refl known)) (word_tallies COMMIT t.Commit q.Commit refl refl (λ last. (refl, refl)) refl known))
    (word_tallies ROLLBACK t.Rollback q.Rollback refl refl (λ last. (refl, refl)) refl known)) (word_tallies BYE t.Bye q.Bye refl refl (λ last. (refl, refl)) refl known))
    (query_tallies known)) (insert_tallies known)) (update_tallies known)) (delete_tallies known)

pub line_tallies : Request_tallies (h.line written)
line_tallies known =
    then_tallies (request_tallies known) (λ r. or_tallies
    (ends (then_tallies (at SEMICOLON t.Semicolon refl refl (λ last. (refl, refl))) (λ _. nothing_tallies r refl))) (nothing_tallies r refl))
