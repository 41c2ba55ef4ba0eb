-- The canonical lexemes of a SELECT are in its language.
use Rattle.std.proofs.Common.{◌≡◌, ℕ, Bool, true, false, List, [], ◌∷◌, ◌++◌, Option, Some, None, refl, sym, ap, inl, inr}
use Rattle.std.specs.Prelude.{◌&&◌, bytes_eq, ◌⊎◌, if◌then◌else◌}
use Rattle.std.specs.List.{list_all}
use Rattle.std.proofs.lemmas.Bool.{and_parts}
use Rattle.std.proofs.lemmas.Slice.Eq.{bytes_eq-Decides}
use Rattle.ifdb_syntax.specs.declared.lexeme.Lexeme.{Lexeme}
use Rattle.ifdb_syntax.specs.declared.lexeme.Lexeme.TheVariants as t
use Rattle.ifdb_syntax.specs.declared.expression.ColumnRef.{ColumnRef}
use Rattle.ifdb_syntax.specs.declared.select.Select.{Select}
use Rattle.ifdb_syntax.specs.declared.select.Item.{Item}
use Rattle.ifdb_syntax.specs.declared.select.Item.TheVariants as i
use Rattle.ifdb_syntax.specs.declared.select.Source.{Source}
use Rattle.ifdb_syntax.specs.declared.select.Order.{Order}
use Rattle.ifdb_syntax.specs.declared.select.OrderBy.{OrderBy}
use Rattle.ifdb_syntax.specs.declared.select.OrderBy.TheVariants as by
use Rattle.ifdb_syntax.specs.declared.place.ExprPlace.TheVariants as expr_at
use Rattle.ifdb_syntax.specs.Words.{Lexemes, SELECT, FROM, AS, LABEL, OF, COUNT, SUM, MIN, MAX, GROUP, ORDER, BY, DESC, STAR, COMMA}
use Rattle.ifdb_syntax.specs.Lang.{Lang, Then, nothing, token, name, number, parens, commas}
use Rattle.ifdb_syntax.specs.Reading.{written}
use Rattle.ifdb_syntax.specs.Expressions.{ref, expr}
use Rattle.ifdb_syntax.specs.Conditions.{condition}
use Rattle.ifdb_syntax.specs.Queries.{named_as, named, label_of, count_all, aggregate, item, all, list, source, sources, columns, order_by, descends, order, select}
use Rattle.ifdb_syntax.specs.Shapes.{some_member, is_member, is_named, list_shape, plain_list_shape, select_shape, condition_shape}
use Rattle.ifdb_syntax.specs.canonical.Tokens as canon
use Rattle.ifdb_syntax.specs.canonical.Tokens.{enclosed, named_as_tokens, ref_tokens}
use Rattle.ifdb_syntax.specs.canonical.Expressions.{expr_tokens}
use Rattle.ifdb_syntax.specs.canonical.Queries.{aggregate_tokens, item_tokens, source_tokens, order_by_token, descends_tokens, order_tokens, condition_tokens, group_tokens, orders_tokens, select_tokens}
use Rattle.ifdb_syntax.proofs.LangIntro.{then_in, last_in, EachIn, separated_in}
use Rattle.ifdb_syntax.proofs.ExprLine.{name_in, parens_in, ref_in, expr_in}
use Rattle.ifdb_syntax.proofs.CondLine.{condition_in}

-- a word, and then a text
pub word_in : {B : Type 0} (k : ℕ) (x : Lexeme) (m : Unit {0} → Lang B) (v : Lexemes) (b : B) → token k (x ∷ []) tt → m tt v b → Then (token k) m (x ∷ v) b
word_in k x m v b i h = then_in (token k) m (x ∷ []) v tt b i h

pub named_as_in : (n : Option (List ℕ)) → named_as (named_as_tokens n) n
named_as_in None = inr (refl, refl)
named_as_in (Some n) =
    inl (last_in _ _ (t.As ∷ t.Name n ∷ []) n _ (word_in AS t.As _ (t.Name n ∷ []) n (t.As, refl, refl) (name_in n)) (refl, refl))

-- ---- lists

-- each member of a list is in a language, where each is for which a test holds
pub each_in : {A : Type 0} (l : Lang A) (f : A → Lexemes) (p : A → Bool) → ((a : A) → p a ≡ true → l (f a) a) → (xs : List A) → list_all p xs ≡ true → EachIn l f xs
each_in l f p h [] e = tt
each_in l f p h (x ∷ xs) e = let ab = and_parts (p x) (list_all p xs) e in (h x ab.0, each_in l f p h xs ab.1)

pub every_in : {A : Type 0} (l : Lang A) (f : A → Lexemes) → ((a : A) → l (f a) a) → (xs : List A) → EachIn l f xs
every_in l f h [] = tt
every_in l f h (x ∷ xs) = (h x, every_in l f h xs)

-- members with commas between them, of which there is one
pub commas_in : {A : Type 0} (l : Lang A) (f : A → Lexemes) → ((a : A) → l (f a) a) → (xs : List A) → some_member xs ≡ true → commas l (canon.commas f xs) xs
commas_in l f h [] e = absurd cc
commas_in l f h (x ∷ xs) e = separated_in COMMA t.Comma (t.Comma, refl, refl) l f x xs (h x) (every_in l f h xs)

pub commas_where : {A : Type 0} (l : Lang A) (f : A → Lexemes) (p : A → Bool) → ((a : A) → p a ≡ true → l (f a) a) → (x : A) (xs : List A) → list_all p (x ∷ xs) ≡ true → commas l (canon.commas f (x ∷ xs)) (x ∷ xs)
commas_where l f p h x xs e =
    let ab = and_parts (p x) (list_all p xs) e in
    separated_in COMMA t.Comma (t.Comma, refl, refl) l f x xs (h x ab.0) (each_in l f p h xs ab.1)

-- ---- items

named_in : (a : Item) → is_named a ≡ true → named written (item_tokens a) a
named_in (i.Expr x n) h =
    then_in (expr written) _ (expr_tokens x expr_at.Expr) (named_as_tokens n) x _ (expr_in x)
    (last_in named_as _ (named_as_tokens n) n _ (named_as_in n) (refl, refl))
named_in i.All h = absurd cc
named_in (i.LabelOf s n) h = absurd cc
named_in (i.CountAll n) h = absurd cc
named_in (i.Sum c n) h = absurd cc
named_in (i.Min c n) h = absurd cc
named_in (i.Max c n) h = absurd cc

aggregate_in : (k : ℕ) (x : Lexeme) (f : ColumnRef → Option (List ℕ) → Item) (c : ColumnRef) (n : Option (List ℕ)) → token k (x ∷ []) tt → aggregate k f (aggregate_tokens x c n) (f c n)
aggregate_in k x f c n is_k =
    word_in k x _ (enclosed (ref_tokens c) ++ named_as_tokens n) _ is_k
    (then_in (parens ref) _ (enclosed (ref_tokens c)) (named_as_tokens n) c _ (parens_in ref (ref_tokens c) c (ref_in c))
    (last_in named_as _ (named_as_tokens n) n _ (named_as_in n) (refl, refl)))

label_of_in : (s : List ℕ) (n : Option (List ℕ)) → label_of (t.Label ∷ t.Of ∷ t.Name s ∷ named_as_tokens n) (i.LabelOf s n)
label_of_in s n =
    word_in LABEL t.Label _ (t.Of ∷ t.Name s ∷ named_as_tokens n) _ (t.Label, refl, refl)
    (word_in OF t.Of _ (t.Name s ∷ named_as_tokens n) _ (t.Of, refl, refl)
    (then_in name _ (t.Name s ∷ []) (named_as_tokens n) s _ (name_in s)
    (last_in named_as _ (named_as_tokens n) n _ (named_as_in n) (refl, refl))))

count_all_in : (n : Option (List ℕ)) → count_all (t.Count ∷ enclosed (t.Star ∷ []) ++ named_as_tokens n) (i.CountAll n)
count_all_in n =
    word_in COUNT t.Count _ (enclosed (t.Star ∷ []) ++ named_as_tokens n) _ (t.Count, refl, refl)
    (then_in (parens (token STAR)) _ (enclosed (t.Star ∷ [])) (named_as_tokens n) tt _ (parens_in (token STAR) (t.Star ∷ []) tt (t.Star, refl, refl))
    (last_in named_as _ (named_as_tokens n) n _ (named_as_in n) (refl, refl)))

item_in : (a : Item) → is_member a ≡ true → item written (item_tokens a) a
item_in i.All h = absurd cc
item_in (i.Expr x n) h = inl (inl (inl (inl (inl (named_in (i.Expr x n) refl)))))
item_in (i.LabelOf s n) h = inl (inl (inl (inl (inr (label_of_in s n)))))
item_in (i.CountAll n) h = inl (inl (inl (inr (count_all_in n))))
item_in (i.Sum c n) h = inl (inl (inr (aggregate_in SUM t.Sum i.Sum c n (t.Sum, refl, refl))))
item_in (i.Min c n) h = inl (inr (aggregate_in MIN t.Min i.Min c n (t.Min, refl, refl)))
item_in (i.Max c n) h = inr (aggregate_in MAX t.Max i.Max c n (t.Max, refl, refl))

all_in : all (t.Star ∷ []) (i.All ∷ [])
all_in = last_in (token STAR) _ (t.Star ∷ []) tt _ (t.Star, refl, refl) (refl, refl)

members_in : (a : Item) (xs : List Item) → list_all is_member (a ∷ xs) ≡ true → list written (canon.commas item_tokens (a ∷ xs)) (a ∷ xs)
members_in a xs h = inr (commas_where (item written) item_tokens is_member item_in a xs h)

list_in : (xs : List Item) → list_shape xs ≡ true → list written (canon.commas item_tokens xs) xs
list_in [] h = absurd cc
list_in (i.All ∷ []) h = inl all_in
list_in (i.All ∷ b ∷ xs) h = members_in i.All (b ∷ xs) h
list_in (i.Expr x n ∷ xs) h = members_in (i.Expr x n) xs h
list_in (i.LabelOf s n ∷ xs) h = members_in (i.LabelOf s n) xs h
list_in (i.CountAll n ∷ xs) h = members_in (i.CountAll n) xs h
list_in (i.Sum c n ∷ xs) h = members_in (i.Sum c n) xs h
list_in (i.Min c n ∷ xs) h = members_in (i.Min c n) xs h
list_in (i.Max c n ∷ xs) h = members_in (i.Max c n) xs h

abbrev plain_list : Lang (List Item)
plain_list = λ u xs. all u xs ⊎ commas (named written) u xs

expressions_in : (a : Item) (xs : List Item) → list_all is_named (a ∷ xs) ≡ true → plain_list (canon.commas item_tokens (a ∷ xs)) (a ∷ xs)
expressions_in a xs h = inr (commas_where (named written) item_tokens is_named named_in a xs h)

pub plain_list_in : (xs : List Item) → plain_list_shape xs ≡ true → plain_list (canon.commas item_tokens xs) xs
plain_list_in [] h = absurd cc
plain_list_in (i.All ∷ []) h = inl all_in
plain_list_in (i.All ∷ b ∷ xs) h = expressions_in i.All (b ∷ xs) h
plain_list_in (i.Expr x n ∷ xs) h = expressions_in (i.Expr x n) xs h
plain_list_in (i.LabelOf s n ∷ xs) h = expressions_in (i.LabelOf s n) xs h
plain_list_in (i.CountAll n ∷ xs) h = expressions_in (i.CountAll n) xs h
plain_list_in (i.Sum c n ∷ xs) h = expressions_in (i.Sum c n) xs h
plain_list_in (i.Min c n ∷ xs) h = expressions_in (i.Min c n) xs h
plain_list_in (i.Max c n ∷ xs) h = expressions_in (i.Max c n) xs h

-- ---- sources and orders

abbrev source_of : List ℕ → List ℕ → Source
source_of n a = record { name = n; alias = a }

source_by : (s : Source) (b : Bool) → (b ≡ true → s.name ≡ s.alias) → source (if b then t.Name s.name ∷ [] else (t.Name s.name ∷ t.As ∷ t.Name s.alias ∷ [])) s
source_by s true h =
    let at_name : source_of s.name s.name ≡ s = ap (λ (a : List ℕ). source_of s.name a) (h refl) in
    last_in name _ (t.Name s.name ∷ []) s.name _ (name_in s.name) (inr (refl, sym at_name))
source_by s false h =
    then_in name _ (t.Name s.name ∷ []) (t.As ∷ t.Name s.alias ∷ []) s.name _ (name_in s.name)
    (inl (last_in _ _ (t.As ∷ t.Name s.alias ∷ []) s.alias _ (inl (word_in AS t.As _ (t.Name s.alias ∷ []) s.alias (t.As, refl, refl) (name_in s.alias))) (refl, refl)))

pub source_in : (s : Source) → source (source_tokens s) s
source_in s = source_by s (bytes_eq s.name s.alias) (λ h. (bytes_eq-Decides s.name s.alias).0 h)

order_by_in : (x : OrderBy) → order_by (order_by_token x ∷ []) x
order_by_in (by.Name n) = inl (last_in name _ (t.Name n ∷ []) n _ (name_in n) (refl, refl))
order_by_in (by.Place n) = inr (last_in number _ (t.Number n ∷ []) n _ (t.Number n, refl, refl) (refl, refl))

descends_in : (d : Bool) → descends (descends_tokens d) d
descends_in true = inl (inr (last_in (token DESC) _ (t.Desc ∷ []) tt _ (t.Desc, refl, refl) (refl, refl)))
descends_in false = inr (refl, refl)

order_in : (o : Order) → order (order_tokens o) o
order_in o =
    then_in order_by _ (order_by_token o.target ∷ []) (descends_tokens o.descending) o.target _ (order_by_in o.target)
    (last_in descends _ (descends_tokens o.descending) o.descending _ (descends_in o.descending) (refl, refl))

group_in : (xs : List ColumnRef) → (Then (token GROUP) (λ _. Then (token BY) (λ _. columns)) (group_tokens xs) xs) ⊎ nothing [] (group_tokens xs) xs
group_in [] = inr (refl, refl)
group_in (x ∷ xs) =
    inl (word_in GROUP t.Group _ (t.By ∷ canon.commas ref_tokens (x ∷ xs)) _ (t.Group, refl, refl)
    (word_in BY t.By _ (canon.commas ref_tokens (x ∷ xs)) _ (t.By, refl, refl) (commas_in ref ref_tokens ref_in (x ∷ xs) refl)))

orders_in : (xs : List Order) → (Then (token ORDER) (λ _. Then (token BY) (λ _. commas order)) (orders_tokens xs) xs) ⊎ nothing [] (orders_tokens xs) xs
orders_in [] = inr (refl, refl)
orders_in (x ∷ xs) =
    inl (word_in ORDER t.Order _ (t.By ∷ canon.commas order_tokens (x ∷ xs)) _ (t.Order, refl, refl)
    (word_in BY t.By _ (canon.commas order_tokens (x ∷ xs)) _ (t.By, refl, refl) (commas_in order order_tokens order_in (x ∷ xs) refl)))

pub select_in : (s : Select) → select_shape s ≡ true → select written (select_tokens s) s
select_in s h =
    let abc = and_parts (list_shape s.items && some_member s.sources) (condition_shape s.cond) h in
    let ab = and_parts (list_shape s.items) (some_member s.sources) abc.0 in
    word_in SELECT t.Select _ _ _ (t.Select, refl, refl)
    (then_in (list written) _ (canon.commas item_tokens s.items) _ s.items _ (list_in s.items ab.0)
    (word_in FROM t.From _ _ _ (t.From, refl, refl)
    (then_in sources _ (canon.commas source_tokens s.sources) _ s.sources _ (commas_in source source_tokens source_in s.sources ab.1)
    (then_in (condition written) _ (condition_tokens s.cond) _ s.cond _ (condition_in s.cond abc.1)
    (then_in _ _ (group_tokens s.group) (orders_tokens s.order) s.group _ (group_in s.group)
    (last_in _ _ (orders_tokens s.order) s.order _ (orders_in s.order) (refl, refl)))))))
