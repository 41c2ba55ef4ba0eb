-- What clean lexemes spell by the written grammar is a clean request.
use Rattle.std.proofs.Common.{◌≡◌, ℕ, zero, suc, Bool, true, false, [], ◌∷◌, refl, ◌∙◌}
use Rattle.std.specs.List.{list_all}
use Rattle.ifdb_catalog.proofs.Tests.{both_of}
use Rattle.ifdb_value.specs.declared.value.Value.TheVariants as value
use Rattle.ifdb_syntax.specs.declared.expression.Expr.{Expr}
use Rattle.ifdb_syntax.specs.declared.expression.Expr.TheVariants as e
use Rattle.ifdb_syntax.specs.declared.select.Item.TheVariants as i
use Rattle.ifdb_syntax.specs.declared.request.Request.{Request}
use Rattle.ifdb_syntax.specs.declared.request.Request.TheVariants as q
use Rattle.ifdb_syntax.specs.Words.{COMMA}
use Rattle.ifdb_syntax.specs.Lang.{Lang}
use Rattle.ifdb_syntax.specs.Reading.{written}
use Rattle.ifdb_syntax.specs.Expressions.{literal, atom, factor, product_round, term, sum_round, sum, expr_upto, expr}
use Rattle.ifdb_syntax.specs.Queries as rule
use Rattle.ifdb_syntax.specs.Requests as request
use Rattle.ifdb_framing.proofs.Clean.{is_clean, are_clean, is_clean_expr, clean-Column, clean-Literal, clean-Add, clean-Sub, clean-Mul, is_clean_item, is_clean_select, is_clean_assignment, is_clean_request}
use Rattle.ifdb_framing.proofs.Passes.{Passes, done, part, past, either, in_some, repeated, members, enclosed, name_passes, text_passes}

-- ---- expressions

literal_passes : Passes (literal written) is_clean
literal_passes =
    either (either (either (past _ (λ n. done _ refl)) (past _ (λ _. past _ (λ n. done _ refl)))) (part _ text_passes (λ w c. done (value.Text w) c)))
    (past _ (λ _. done value.Null refl))

atom_passes : Passes (atom written) is_clean_expr
atom_passes = either (past _ (λ c. done (e.Column c) (clean-Column c))) (part _ literal_passes (λ v c. done (e.Literal v) (clean-Literal v ∙ c)))

add_clean : (a b : Expr) → is_clean_expr a ≡ true → is_clean_expr b ≡ true → is_clean_expr (e.Add a b) ≡ true
add_clean a b h k = clean-Add a b ∙ both_of (is_clean_expr a) (is_clean_expr b) h k

sub_clean : (a b : Expr) → is_clean_expr a ≡ true → is_clean_expr b ≡ true → is_clean_expr (e.Sub a b) ≡ true
sub_clean a b h k = clean-Sub a b ∙ both_of (is_clean_expr a) (is_clean_expr b) h k

mul_clean : (a b : Expr) → is_clean_expr a ≡ true → is_clean_expr b ≡ true → is_clean_expr (e.Mul a b) ≡ true
mul_clean a b h k = clean-Mul a b ∙ both_of (is_clean_expr a) (is_clean_expr b) h k

module _ (F : Lang Expr) (h : Passes F is_clean_expr) where
  product_passes : (x : Expr) → is_clean_expr x ≡ true → Passes (product_round written F x) is_clean_expr
  product_passes x c = past _ (λ _. part _ h (λ y d. done (e.Mul x y) (mul_clean x y c d)))

  term_passes : Passes (term written F) is_clean_expr
  term_passes = part _ h (λ x c. repeated x c product_passes)

  sum_round_passes : (x : Expr) → is_clean_expr x ≡ true → Passes (sum_round written (term written F) x) is_clean_expr
  sum_round_passes x c =
      either (past _ (λ _. part _ term_passes (λ y d. done (e.Add x y) (add_clean x y c d)))) (past _ (λ _. part _ term_passes (λ y d. done (e.Sub x y) (sub_clean x y c d))))

  sum_passes : Passes (sum written (term written F)) is_clean_expr
  sum_passes = part _ term_passes (λ x c. repeated x c sum_round_passes)

upto_passes : (n : ℕ) → Passes (expr_upto written n) is_clean_expr
upto_passes zero = sum_passes (atom written) atom_passes
upto_passes (suc n) = sum_passes (factor written (expr_upto written n)) (either atom_passes (enclosed (upto_passes n)))

expr_passes : Passes (expr written) is_clean_expr
expr_passes = in_some upto_passes

-- ---- SELECT

named_passes : Passes (rule.named written) is_clean_item
named_passes = part _ expr_passes (λ x c. past _ (λ n. done (i.Expr x n) c))

label_passes : Passes rule.label_of is_clean_item
label_passes = past _ (λ _. past _ (λ _. past _ (λ source. past _ (λ n. done (i.LabelOf source n) refl))))

count_passes : Passes rule.count_all is_clean_item
count_passes = past _ (λ _. past _ (λ _. past _ (λ n. done (i.CountAll n) refl)))

item_passes : Passes (rule.item written) is_clean_item
item_passes =
    either (either (either (either (either named_passes label_passes) count_passes)
    (past _ (λ _. past _ (λ c. past _ (λ n. done (i.Sum c n) refl)))))
    (past _ (λ _. past _ (λ c. past _ (λ n. done (i.Min c n) refl)))))
    (past _ (λ _. past _ (λ c. past _ (λ n. done (i.Max c n) refl))))

all_passes : Passes rule.all (list_all is_clean_item)
all_passes = past _ (λ _. done (i.All ∷ []) refl)

plain_passes : Passes (rule.plain written) is_clean_select
plain_passes =
    past _ (λ _. part _ (either all_passes (members COMMA named_passes)) (λ items c. past _ (λ _. past _ (λ from. past _ (λ found.
    done (record { items = items; sources = from; cond = found; group = []; order = [] }) c)))))

select_passes : Passes (rule.select written) is_clean_select
select_passes =
    past _ (λ _. part _ (either all_passes (members COMMA item_passes)) (λ items c. past _ (λ _. past _ (λ from. past _ (λ found. past _ (λ group. past _ (λ keys.
    done (record { items = items; sources = from; cond = found; group = group; order = keys }) c)))))))

-- ---- requests

word_passes : (k : ℕ) (r : Request) → is_clean_request r ≡ true → Passes (request.word k r) is_clean_request
word_passes k r c = past _ (λ _. done r c)

tag_passes : (compound : Bool) → Passes (request.tag compound) is_clean_request
tag_passes compound = past _ (λ _. part _ name_passes (λ n c. past _ (λ parents. done (q.CreateTag n compound parents) c)))

table_passes : Passes request.table is_clean_request
table_passes =
    past _ (λ _. past _ (λ n. past _ (λ _. past _ (λ first. past _ (λ _. past _ (λ columns. past _ (λ _. past _ (λ _. past _ (λ key. past _ (λ keys. past _ (λ _.
    done (q.CreateTable n columns key keys) refl)))))))))))

view_passes : Passes (request.view written) is_clean_request
view_passes =
    past _ (λ _. past _ (λ n. past _ (λ _. part _ plain_passes (λ shown c. past _ (λ _. past _ (λ _. past _ (λ tags. done (q.CreateView n shown tags) c)))))))

principal_passes : Passes request.principal is_clean_request
principal_passes = past _ (λ _. past _ (λ n. past _ (λ _. past _ (λ key. past _ (λ tags. done (q.CreatePrincipal n key tags) refl)))))

create_passes : Passes (request.create written) is_clean_request
create_passes = past _ (λ _. either (either (either (either principal_passes (tag_passes false)) (past _ (λ _. tag_passes true))) table_passes) view_passes)

hello_passes : Passes request.hello is_clean_request
hello_passes = past _ (λ _. past _ (λ n. past _ (λ _. past _ (λ key. done (q.Hello n key) refl))))

grant_passes : Passes request.grant is_clean_request
grant_passes = past _ (λ _. past _ (λ tag. past _ (λ _. past _ (λ to. done (q.Grant tag to) refl))))

revoke_passes : Passes request.revoke is_clean_request
revoke_passes = past _ (λ _. past _ (λ tag. past _ (λ _. past _ (λ from. done (q.Revoke tag from) refl))))

set_label_passes : Passes request.set_label is_clean_request
set_label_passes = past _ (λ _. past _ (λ _. past _ (λ tags. done (q.SetLabel tags) refl)))

show_label_passes : Passes request.show_label is_clean_request
show_label_passes = past _ (λ _. past _ (λ _. done q.ShowLabel refl))

query_passes : Passes (request.query written) is_clean_request
query_passes = part _ select_passes (λ s c. done (q.Select s) c)

row_passes : Passes (request.row written) are_clean
row_passes = enclosed (members COMMA literal_passes)

insert_passes : Passes (request.insert written) is_clean_request
insert_passes =
    past _ (λ _. past _ (λ _. past _ (λ table. past _ (λ columns. past _ (λ _. part _ (members COMMA row_passes) (λ rows c. past _ (λ tags. done (q.Insert table columns rows tags) c)))))))

assignment_passes : Passes (request.assignment written) is_clean_assignment
assignment_passes = past _ (λ n. past _ (λ _. part _ expr_passes (λ x c. done (record { column = n; expr = x }) c)))

update_passes : Passes (request.update written) is_clean_request
update_passes =
    past _ (λ _. past _ (λ table. past _ (λ _. part _ (members COMMA assignment_passes) (λ sets c. past _ (λ found. past _ (λ tags. done (q.Update table sets found tags) c))))))

delete_passes : Passes (request.delete written) is_clean_request
delete_passes = past _ (λ _. past _ (λ _. past _ (λ table. past _ (λ found. done (q.Delete table found) refl))))

request_passes : Passes (request.request written) is_clean_request
request_passes =
    either (either (either (either (either (either (either (either (either (either (either (either (either
    hello_passes create_passes) grant_passes) revoke_passes) set_label_passes) show_label_passes)
    (word_passes _ q.Begin refl)) (word_passes _ q.Commit refl)) (word_passes _ q.Rollback refl)) (word_passes _ q.Bye refl))
    query_passes) insert_passes) update_passes) delete_passes

pub line_passes : Passes (request.line written) is_clean_request
line_passes = part _ request_passes (λ x c. either (past _ (λ _. done x c)) (done x c))
