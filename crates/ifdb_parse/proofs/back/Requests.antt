-- Requests, and lines, are written lightly.
use Rattle.std.proofs.Common.{◌≡◌, ℕ, true, false, List, [], ◌∷◌, ◌++◌, refl, sym, ap, subst, ◌∙◌, append-nil, append_assoc, inl, inr, arith, Some, None}
use Rattle.std.specs.Prelude.{◌⊎◌, nat_lt}
use Rattle.ifdb_value.specs.declared.value.Value.{Value}
use Rattle.ifdb_value.specs.declared.value.ValueKind.TheVariants as of
use Rattle.ifdb_value.specs.declared.column.Column.{Column}
use Rattle.ifdb_syntax.specs.declared.lexeme.Lexeme.{Lexeme}
use Rattle.ifdb_syntax.specs.declared.lexeme.Lexeme.TheVariants as t
use Rattle.ifdb_syntax.specs.declared.request.Request.{Request}
use Rattle.ifdb_syntax.specs.declared.request.Request.TheVariants as q
use Rattle.ifdb_syntax.specs.declared.request.ForeignKey.{ForeignKey}
use Rattle.ifdb_syntax.specs.declared.request.Assignment.{Assignment}
use Rattle.ifdb_syntax.specs.Words.{Lexemes, kind, NAME, AS, BEGIN, BYE, CLEARANCE, COMMIT, COMPOUND, CREATE, DECLASSIFYING, DELETE, FOREIGN, FROM, GRANT, HELLO, IN, INSERT, INT, INTEGER, INTO, KEY, LABEL, PRIMARY, PRINCIPAL, REFERENCES, REVOKE, ROLLBACK, SET, SHOW, TABLE, TAG, TEXT, TO, UPDATE, VALUES, VIEW, WITH, COMMA, EQUAL, SEMICOLON}
use Rattle.ifdb_syntax.specs.Lang.{Lang, Then, nothing, token, name, parens, names, optional_list}
use Rattle.ifdb_syntax.specs.Reading.{bounded}
use Rattle.ifdb_syntax.specs.Within.{assignment_short, select_short, request_short}
use Rattle.ifdb_syntax.specs.Shapes.{some_member}
use Rattle.ifdb_syntax.specs.Requests as rule
use Rattle.ifdb_syntax.specs.canonical.Tokens as canon
use Rattle.ifdb_syntax.specs.canonical.Queries.{condition_tokens, select_tokens}
use Rattle.ifdb_syntax.specs.canonical.Requests.{clearance_tokens, kind_token, column_tokens, foreign_tokens, table_tokens, row_tokens, columns_tokens, assignment_tokens, request_tokens}
use Rattle.ifdb_syntax.proofs.Makes.{parens_makes, some_append}
use Rattle.ifdb_parse.specs.declared.limits.Before.{Before}
use Rattle.ifdb_parse.specs.declared.limits.Before.TheVariants as before
use Rattle.ifdb_parse.specs.TreeLimits.{behind, is_lone, has_lone}
use Rattle.ifdb_parse.proofs.Readable.{neither}
use Rattle.ifdb_parse.proofs.back.Lighter.{Flat, Lighter, LighterEnd, Shallow, level, nots-append, sound_front, one_lighter, nil_lighter, parens_lighter, end_of}
use Rattle.ifdb_parse.proofs.back.Prints.{Prints, Behind, ending, any, operand, other, whole, tested, part, end, done, last, word, token_is, name_prints, text_prints, names_print, names_make, names_behind_prints, along, along_text, either, either_behind, parens_prints, behind_more, listing, free_listing, optional_prints, Grows, rounds_then, close_last, opened, inside}
use Rattle.ifdb_parse.proofs.back.Exprs.{literal_prints, expr_prints}
use Rattle.ifdb_parse.proofs.back.Conds.{condition_prints}
use Rattle.ifdb_parse.proofs.back.Queries.{plain_prints, select_end}

-- ---- requests of which nothing is asked

hello_prints : Prints before.Other operand rule.hello request_short request_tokens
hello_prints =
    whole (word t.Hello HELLO _ refl refl (λ k. refl) (part _ (name_prints before.Other) (λ n.
    word t.Key KEY _ refl refl (λ k. refl) (part _ (text_prints before.Other) (λ key. done (q.Hello n key) refl refl)))))

grant_prints : Prints before.Other operand rule.grant request_short request_tokens
grant_prints =
    whole (word t.Grant GRANT _ refl refl (λ k. refl) (part _ (name_prints before.Other) (λ a.
    word t.To TO _ refl refl (λ k. refl) (part _ (name_prints before.Other) (λ b. done (q.Grant a b) refl refl)))))

revoke_prints : Prints before.Other operand rule.revoke request_short request_tokens
revoke_prints =
    whole (word t.Revoke REVOKE _ refl refl (λ k. refl) (part _ (name_prints before.Other) (λ a.
    word t.From FROM _ refl refl (λ k. refl) (part _ (name_prints before.Other) (λ b. done (q.Revoke a b) refl refl)))))

-- names in parentheses, or none
enclosed_names : Prints before.Other operand (parens (optional_list names)) any (λ ns. canon.enclosed (canon.names_tokens ns))
enclosed_names = record {
  goes = λ u a k e.
      let i = inside (optional_list names) u a k in
      along before.Other before.Operand (canon.enclosed (canon.names_tokens a)) (sym i.parts) (elim i.spelled [
        | inl x ↦ parens_lighter before.Other before.Operand (canon.names_tokens a) i.within (names_print.goes i.within a x e)
        | inr x ↦ parens_lighter before.Other before.Other (canon.names_tokens a) i.within
            (along before.Other before.Other (canon.names_tokens a) (sym x.0)
            (along_text before.Other before.Other [] (ap canon.names_tokens (sym x.1)) (nil_lighter before.Other)))
      ]);
}

set_label_prints : Prints before.Other operand rule.set_label request_short request_tokens
set_label_prints =
    whole (word t.Set SET _ refl refl (λ k. refl) (word t.Label LABEL _ refl refl (λ k. refl)
    (part _ enclosed_names (λ tags. done (q.SetLabel tags) refl refl))))

show_label_prints : Prints before.Other other rule.show_label request_short request_tokens
show_label_prints = whole (word t.Show SHOW _ refl refl (λ k. refl) (word t.Label LABEL _ refl refl (λ k. refl) (done q.ShowLabel refl refl)))

word_prints : (x : Lexeme) (k : ℕ) (r : Request) → kind x ≡ k → nat_lt (kind x) NAME ≡ true → Flat x → behind before.Other x ≡ before.Other →
    request_tokens r ≡ x ∷ [] → Prints before.Other other (rule.word k r) request_short request_tokens
word_prints x k r is_k low flat to form = whole (word x k _ is_k low flat (done r (sym to) form))

-- ---- CREATE

clearance_prints : Prints before.Operand operand rule.clearance any clearance_tokens
clearance_prints =
    either
    (whole (part {g = λ tags. t.Clearance ∷ canon.enclosed (canon.names_tokens tags)} _
    (whole (word t.Clearance CLEARANCE _ refl refl (λ k. refl) (last enclosed_names (λ a e. tt) (λ a. refl))))
    (λ tags. done (Some tags) refl refl)))
    (whole (done None refl refl))

principal_prints : Behind before.Other before.Other (ending before.Other operand) rule.principal request_short request_tokens (Unit {0}) (t.Create ∷ [])
principal_prints =
    word t.Principal PRINCIPAL _ refl refl (λ k. refl) (part _ (name_prints before.Other) (λ n.
    word t.Key KEY _ refl refl (λ k. refl) (part _ (text_prints before.Other) (λ key.
    part _ clearance_prints (λ tags. done (q.CreatePrincipal n key tags) refl refl)))))

plain_tag_prints : Behind before.Other before.Other (ending before.Other operand) (rule.tag false) request_short request_tokens (Unit {0}) (t.Create ∷ [])
plain_tag_prints =
    word t.Tag TAG _ refl refl (λ k. refl) (part _ (name_prints before.Other) (λ n.
    part _ (names_behind_prints t.In IN refl refl (λ k. refl)) (λ parents. done (q.CreateTag n false parents) refl refl)))

compound_tag_prints : Behind before.Other before.Other (ending before.Other operand) (rule.tag true) request_short request_tokens (Unit {0})
    (t.Create ∷ t.Compound ∷ [])
compound_tag_prints =
    word t.Tag TAG _ refl refl (λ k. refl) (part _ (name_prints before.Other) (λ n.
    part _ (names_behind_prints t.In IN refl refl (λ k. refl)) (λ parents. done (q.CreateTag n true parents) refl refl)))

int_for : (x : Lexeme) → Flat x → behind before.Operand x ≡ before.Other → Lighter before.Operand before.Other (t.Int ∷ []) (x ∷ [])
int_for x flat to = one_lighter before.Operand before.Other t.Int x (λ k. refl) flat (λ h. tt) (omega arith) refl to (λ h. refl)

value_kind_prints : Prints before.Operand other rule.value_kind any (λ k. kind_token k ∷ [])
value_kind_prints =
    either (either
    (whole (word t.Int INT _ refl refl (λ k. refl) (done of.Int refl refl)))
    (whole (part {g = λ _. t.Int ∷ []} _ (record {
      goes = λ u a h e. along before.Operand before.Other (t.Int ∷ [])
          (sym (token_is t.Integer INTEGER u a refl refl h)) (int_for t.Integer (λ k. refl) refl);
    }) (λ _. done of.Int refl refl))))
    (whole (word t.Text TEXT _ refl refl (λ k. refl) (done of.Text refl refl)))

column_prints : Prints before.Other other rule.column any column_tokens
column_prints = whole (part _ (name_prints before.Other) (λ n. part _ value_kind_prints (λ k. done (record { name = n; kind = k }) refl refl)))

parens_names : (b : Before) → Prints b operand (parens names) any (λ ns. canon.enclosed (canon.names_tokens ns))
parens_names b = parens_prints b names_print

foreign_form : (columns : List (List ℕ)) (parent : List ℕ) →
    foreign_tokens (record { columns = columns; parent = parent }) ≡
    (((t.Foreign ∷ t.Key ∷ []) ++ canon.enclosed (canon.names_tokens columns)) ++ t.References ∷ []) ++ t.Name parent ∷ []
foreign_form columns parent = simp append_assoc refl

foreign_prints : Prints before.Other operand rule.foreign any foreign_tokens
foreign_prints =
    whole (word t.Foreign FOREIGN _ refl refl (λ k. refl) (word t.Key KEY _ refl refl (λ k. refl) (part _ (parens_names before.Other) (λ columns.
    word t.References REFERENCES _ refl refl (λ k. refl)
    (part _ (name_prints before.Other) (λ parent. done (record { columns = columns; parent = parent }) refl (foreign_form columns parent)))))))

-- each column with a comma behind it
columns_then : List Column → Lexemes
columns_then [] = []
columns_then (x ∷ xs) = (column_tokens x ++ t.Comma ∷ []) ++ columns_then xs

columns_more : (xs : List Column) (x : Column) → columns_then (xs ++ x ∷ []) ≡ columns_then xs ++ (column_tokens x ++ t.Comma ∷ [])
unfolding columns_then
columns_more [] x = append-nil (column_tokens x ++ t.Comma ∷ [])
columns_more (y ∷ xs) x = ap (λ (z : Lexemes). (column_tokens y ++ t.Comma ∷ []) ++ z) (columns_more xs x)
    ∙ sym (append_assoc (column_tokens y ++ t.Comma ∷ []) (columns_then xs) (column_tokens x ++ t.Comma ∷ []))

columns_behind : (xs : List Column) (rest : Lexemes) → canon.behind t.Comma column_tokens xs ++ t.Comma ∷ rest ≡ t.Comma ∷ (columns_then xs ++ rest)
unfolding columns_then
columns_behind [] rest = refl
columns_behind (x ∷ xs) rest =
    ap (λ (z : Lexemes). t.Comma ∷ z) (append_assoc (column_tokens x) (canon.behind t.Comma column_tokens xs) (t.Comma ∷ rest)
    ∙ (ap (λ (z : Lexemes). column_tokens x ++ z) (columns_behind xs rest)
    ∙ (sym (append_assoc (column_tokens x) (t.Comma ∷ []) (columns_then xs ++ rest))
    ∙ sym (append_assoc (column_tokens x ++ t.Comma ∷ []) (columns_then xs) rest))))

-- which is how they are written where more follows
columns_form : (xs : List Column) (rest : Lexemes) → some_member xs ≡ true → canon.commas column_tokens xs ++ t.Comma ∷ rest ≡ columns_then xs ++ rest
unfolding columns_then
columns_form [] rest some = absurd (cc)
columns_form (x ∷ xs) rest some =
    append_assoc (column_tokens x) (canon.behind t.Comma column_tokens xs) (t.Comma ∷ rest)
    ∙ (ap (λ (z : Lexemes). column_tokens x ++ z) (columns_behind xs rest)
    ∙ (sym (append_assoc (column_tokens x) (t.Comma ∷ []) (columns_then xs ++ rest))
    ∙ sym (append_assoc (column_tokens x ++ t.Comma ∷ []) (columns_then xs) rest)))

column_rounds : Grows some_member before.Other other rule.column_round any columns_then
column_rounds = record {
  keeps = λ found u ys h. ap some_member h.second.second.1 ∙ some_append found h.value;
  grows = λ found some. part _ column_prints (λ x. word t.Comma COMMA _ refl refl (λ k. refl)
      (end (found ++ x ∷ []) refl (λ _. refl) (columns_more found x ∙ sym (append_assoc (columns_then found) (column_tokens x) (t.Comma ∷ [])))));
}

-- foreign keys, behind what was written
foreign_more : (v : Lexemes) (xs : List ForeignKey) (x : ForeignKey) →
    v ++ canon.behind t.Comma foreign_tokens (xs ++ x ∷ []) ≡ ((v ++ canon.behind t.Comma foreign_tokens xs) ++ t.Comma ∷ []) ++ foreign_tokens x
foreign_more v xs x = ap (λ (z : Lexemes). v ++ z) (behind_more t.Comma foreign_tokens xs x) ∙ simp append_assoc refl

foreign_rounds : (v : Lexemes) → Grows (λ _. true) before.Other operand rule.foreign_round any (λ keys. v ++ canon.behind t.Comma foreign_tokens keys)
foreign_rounds v = record {
  keeps = λ found u ys h. refl;
  grows = λ found some. word t.Comma COMMA _ refl refl (λ k. refl)
      (part _ foreign_prints (λ x. end (found ++ x ∷ []) refl (λ _. refl) (foreign_more v found x)));
}

-- what stands between the parentheses of a table
inner_tokens : Request → Lexemes
inner_tokens (q.CreateTable name columns key foreign) = table_tokens columns key foreign
inner_tokens _ = []

-- what is written before the foreign keys
key_tokens : List Column → List (List ℕ) → Lexemes
key_tokens columns key = ((columns_then columns ++ t.Primary ∷ []) ++ t.Key ∷ []) ++ canon.enclosed (canon.names_tokens key)

gather : (a : Lexemes) (x y : Lexeme) (b c : Lexemes) → a ++ (x ∷ y ∷ b ++ c) ≡ (((a ++ x ∷ []) ++ y ∷ []) ++ b) ++ c
gather a x y b c = simp append_assoc refl

inner_form : (columns : List Column) (key : List (List ℕ)) (keys : List ForeignKey) → some_member columns ≡ true →
    table_tokens columns key keys ≡ key_tokens columns key ++ canon.behind t.Comma foreign_tokens keys
unfolding key_tokens
inner_form columns key keys some = columns_form columns
    (t.Primary ∷ t.Key ∷ canon.enclosed (canon.names_tokens key) ++ canon.behind t.Comma foreign_tokens keys) some
    ∙ gather (columns_then columns) t.Primary t.Key (canon.enclosed (canon.names_tokens key)) (canon.behind t.Comma foreign_tokens keys)

table_prints : Behind before.Other before.Other (ending before.Other operand) rule.table request_short request_tokens (Unit {0}) (t.Create ∷ [])
unfolding columns_then key_tokens inner_tokens
table_prints =
    word t.Table TABLE _ refl refl (λ k. refl) (part _ (name_prints before.Other) (λ n.
    opened {g = inner_tokens} (part _ column_prints (λ first. word t.Comma COMMA _ refl refl (λ k. refl)
    (rounds_then {q = some_member} {c = other} {g = columns_then} (first ∷ []) _ refl refl (append-nil _) column_rounds (λ columns some.
    word t.Primary PRIMARY _ refl refl (λ k. refl) (word t.Key KEY _ refl refl (λ k. refl) (part _ (parens_names before.Other) (λ key.
    rounds_then {q = λ _. true} {c = operand} {g = λ keys. key_tokens columns key ++ canon.behind t.Comma foreign_tokens keys} [] _ refl refl (append-nil _)
    (foreign_rounds (key_tokens columns key)) (λ keys _.
    close_last (q.CreateTable n columns key keys) (λ _. tt) (inner_form columns key keys some)))))))))
    (λ u a k.
    let made = k.second.second.second.second.second.second.second.second.1 in
    subst (λ (z : Request). request_tokens z ≡ t.Create ∷ t.Table ∷ t.Name n ∷ t.Open ∷ (inner_tokens z ++ t.Close ∷ [])) (sym made) refl)))

view_form : (n : List ℕ) (shown : _) (tags : List (List ℕ)) →
    request_tokens (q.CreateView n shown tags)
    ≡ (((t.Create ∷ t.View ∷ t.Name n ∷ t.As ∷ select_tokens shown) ++ t.With ∷ []) ++ t.Declassifying ∷ []) ++ canon.enclosed (canon.names_tokens tags)
view_form n shown tags = gather_two (t.Create ∷ t.View ∷ t.Name n ∷ t.As ∷ select_tokens shown) t.With t.Declassifying
    (canon.enclosed (canon.names_tokens tags))
  where
    gather_two : (a : Lexemes) (x y : Lexeme) (b : Lexemes) → a ++ x ∷ y ∷ b ≡ ((a ++ x ∷ []) ++ y ∷ []) ++ b
    gather_two a x y b = simp append_assoc refl

view_prints : Behind before.Other before.Other (ending before.Other operand) (rule.view bounded) request_short request_tokens (Unit {0}) (t.Create ∷ [])
view_prints =
    word t.View VIEW _ refl refl (λ k. refl) (part _ (name_prints before.Other) (λ n. word t.As AS _ refl refl (λ k. refl)
    (tested _ plain_prints (λ shown. word t.With WITH _ refl refl (λ k. refl) (word t.Declassifying DECLASSIFYING _ refl refl (λ k. refl)
    (part _ (parens_names before.Other) (λ tags. end (q.CreateView n shown tags) refl (λ short. (tt, short)) (view_form n shown tags))))))))

create_prints : Prints before.Other operand (rule.create bounded) request_short request_tokens
create_prints =
    whole (word t.Create CREATE _ refl refl (λ k. refl) (either_behind (either_behind (either_behind (either_behind
    principal_prints plain_tag_prints) (word t.Compound COMPOUND _ refl refl (λ k. refl) compound_tag_prints)) table_prints) view_prints))

-- ---- INSERT, UPDATE and DELETE

row_prints : Prints before.Other operand (rule.row bounded) any row_tokens
row_prints = parens_prints before.Other (free_listing literal_prints)

columns_print : Prints before.Operand operand (optional_list (parens names)) any columns_tokens
columns_print = optional_prints (parens_names before.Operand) (parens_makes some_member names names_make) (λ n ns. refl) refl

insert_form : (n : List ℕ) (columns : List (List ℕ)) (rows : List (List Value)) (tags : List (List ℕ)) →
    request_tokens (q.Insert n columns rows tags)
    ≡ (((t.Insert ∷ t.Into ∷ t.Name n ∷ columns_tokens columns) ++ t.Values ∷ []) ++ canon.commas row_tokens rows)
    ++ canon.names_behind_tokens t.Declassifying tags
insert_form n columns rows tags = gather_last (t.Insert ∷ t.Into ∷ t.Name n ∷ columns_tokens columns) t.Values (canon.commas row_tokens rows)
    (canon.names_behind_tokens t.Declassifying tags)
  where
    gather_last : (a : Lexemes) (x : Lexeme) (b d : Lexemes) → a ++ (x ∷ b ++ d) ≡ ((a ++ x ∷ []) ++ b) ++ d
    gather_last a x b d = simp append_assoc refl

insert_prints : Prints before.Other operand (rule.insert bounded) request_short request_tokens
insert_prints =
    whole (word t.Insert INSERT _ refl refl (λ k. refl) (word t.Into INTO _ refl refl (λ k. refl) (part _ (name_prints before.Other) (λ n.
    part _ columns_print (λ columns. word t.Values VALUES _ refl refl (λ k. refl) (part _ (free_listing row_prints) (λ rows.
    part _ (names_behind_prints t.Declassifying DECLASSIFYING refl refl (λ k. refl))
    (λ tags. done (q.Insert n columns rows tags) refl (insert_form n columns rows tags)))))))))

assignment_prints : Prints before.Other operand (rule.assignment bounded) assignment_short assignment_tokens
assignment_prints =
    whole (part _ (name_prints before.Other) (λ n. word t.Equal EQUAL _ refl refl (λ k. refl) (tested _ expr_prints (λ x.
    end (record { column = n; expr = x }) refl (λ short. (tt, short)) refl))))

update_form : (n : List ℕ) (assignments : List Assignment) (found : _) (tags : List (List ℕ)) →
    request_tokens (q.Update n assignments found tags) ≡
    ((t.Update ∷ t.Name n ∷ t.Set ∷ canon.commas assignment_tokens assignments) ++ condition_tokens found) ++ canon.names_behind_tokens t.Declassifying tags
update_form n assignments found tags = sym (append_assoc (t.Update ∷ t.Name n ∷ t.Set ∷ canon.commas assignment_tokens assignments) (condition_tokens found)
    (canon.names_behind_tokens t.Declassifying tags))

update_prints : Prints before.Other operand (rule.update bounded) request_short request_tokens
update_prints =
    whole (word t.Update UPDATE _ refl refl (λ k. refl) (part _ (name_prints before.Other) (λ n. word t.Set SET _ refl refl (λ k. refl)
    (tested _ (listing assignment_prints) (λ assignments. part _ condition_prints (λ found.
    part _ (names_behind_prints t.Declassifying DECLASSIFYING refl refl (λ k. refl)) (λ tags.
    end (q.Update n assignments found tags) refl (λ short. (tt, short)) (update_form n assignments found tags))))))))

delete_prints : Prints before.Other operand (rule.delete bounded) request_short request_tokens
delete_prints =
    whole (word t.Delete DELETE _ refl refl (λ k. refl) (word t.From FROM _ refl refl (λ k. refl) (part _ (name_prints before.Other) (λ n.
    part _ condition_prints (λ found. done (q.Delete n found) refl refl)))))

-- ---- a line

abbrev Ends : Lang Request → Type 0
Ends l = (u : Lexemes) (r : Request) → l u r → request_short r ≡ true → LighterEnd before.Other (request_tokens r) u

ends_by : {c : Request → Before} {l : Lang Request} → Prints before.Other c l request_short request_tokens → Ends l
ends_by {c = c} h u r k e = end_of before.Other (c r) (request_tokens r) u (h.goes u r k e)

ends_or : (l k : Lang Request) → Ends l → Ends k → Ends (λ u r. l u r ⊎ k u r)
ends_or l k hl hk u r (inl x) e = hl u r x e
ends_or l k hl hk u r (inr x) e = hk u r x e

query_ends : Ends (rule.query bounded)
query_ends u r h e =
    let is : r ≡ q.Select h.value = h.second.1 in
    let text : h.front ≡ u = sym (append-nil h.front) ∙ (ap (λ (z : Lexemes). h.front ++ z) (sym h.second.0) ∙ sym h.parts) in
    let short : select_short h.value ≡ true = subst (λ (z : Request). request_short z ≡ true) is e in
    subst (λ (z : Request). LighterEnd before.Other (request_tokens z) u) (sym is)
    (subst (λ (z : Lexemes). LighterEnd before.Other (select_tokens h.value) z) text (select_end h.front h.value h.first short))

request_ends : Ends (rule.request bounded)
request_ends =
    ends_or _ _ (ends_or _ _ (ends_or _ _ (ends_or _ _
    (ends_or _ _ (ends_or _ _ (ends_or _ _ (ends_or _ _ (ends_or _ _ (ends_or _ _ (ends_or _ _ (ends_or _ _ (ends_or _ _
    (ends_by hello_prints) (ends_by create_prints)) (ends_by grant_prints)) (ends_by revoke_prints)) (ends_by set_label_prints)) (ends_by show_label_prints))
    (ends_by (word_prints t.Begin BEGIN q.Begin refl refl (λ k. refl) refl refl)))
    (ends_by (word_prints t.Commit COMMIT q.Commit refl refl (λ k. refl) refl refl)))
    (ends_by (word_prints t.Rollback ROLLBACK q.Rollback refl refl (λ k. refl) refl refl)))
    (ends_by (word_prints t.Bye BYE q.Bye refl refl (λ k. refl) refl refl)))
    query_ends) (ends_by insert_prints)) (ends_by update_prints)) (ends_by delete_prints)

-- what a line without `;` keeps, it keeps with one
without_end : (v u x : Lexemes) → LighterEnd before.Other v u → LighterEnd before.Other v (u ++ x)
without_end v u x l = record {
  sound = λ h. l.sound (sound_front u x h);
  fewer = let e = nots-append u x in let f = l.fewer in omega arith;
  shallow = λ j k le top e. l.shallow j k le top (shallow_front u x k e);
  lone = λ e. l.lone (lone_front u x before.Other e);
}
  where
    shallow_front : (u x : Lexemes) (k : ℕ) → Shallow k (u ++ x) → Shallow k u
    shallow_front [] x k e = tt
    shallow_front (y ∷ u) x k e = (e.0, shallow_front u x (level k y) e.1)

    lone_front : (u x : Lexemes) (b : Before) → has_lone b (u ++ x) ≡ false → has_lone b u ≡ false
    lone_front [] x b e = refl
    lone_front (y ∷ u) x b e =
        let ab = neither (is_lone b y) (has_lone (behind b y) (u ++ x)) e in
        rw ab.0 (lone_front u x (behind b y) ab.1)

-- `;`, or nothing
abbrev end_rule : Request → Lang Request
end_rule x = λ u r. Then (token SEMICOLON) (λ _. nothing x) u r ⊎ nothing x u r

end_same : (x r : Request) (u : Lexemes) → end_rule x u r → r ≡ x
end_same x r u (inl k) = k.second.1
end_same x r u (inr k) = k.1

pub line_ends : Ends (rule.line bounded)
line_ends u r h e =
    let same : r ≡ h.value = end_same h.value r h.back h.second in
    let front : rule.request bounded h.front r = subst (λ (z : Request). rule.request bounded h.front z) (sym same) h.first in
    subst (λ (z : Lexemes). LighterEnd before.Other (request_tokens r) z) (sym h.parts)
    (without_end (request_tokens r) h.front h.back (request_ends h.front r front e))
