-- SELECT is written lightly.
use Rattle.std.proofs.Common.{◌≡◌, ℕ, zero, suc, ◌≤◌, Bool, true, false, List, [], ◌∷◌, ◌++◌, Some, None, refl, sym, ap, subst, ◌∙◌, append-nil, append_assoc, inl, inr, arith}
use Rattle.std.specs.Prelude.{◌⊎◌, nat_lt, bytes_eq, if◌then◌else◌}
use Rattle.std.specs.List.{list_all}
use Rattle.std.proofs.lemmas.Slice.Eq.{bytes_eq-Decides}
use Rattle.ifdb_syntax.specs.declared.lexeme.Lexeme.{Lexeme}
use Rattle.ifdb_syntax.specs.declared.lexeme.Lexeme.TheVariants as t
use Rattle.ifdb_syntax.specs.declared.expression.ColumnRef.{ColumnRef}
use Rattle.ifdb_syntax.specs.declared.select.Select.{Select}
use Rattle.ifdb_syntax.specs.declared.select.Item.{Item}
use Rattle.ifdb_syntax.specs.declared.select.Item.TheVariants as i
use Rattle.ifdb_syntax.specs.declared.select.Source.{Source}
use Rattle.ifdb_syntax.specs.declared.select.Order.{Order}
use Rattle.ifdb_syntax.specs.declared.select.OrderBy.TheVariants as by
use Rattle.ifdb_syntax.specs.Words.{Lexemes, kind, NAME, SELECT, FROM, AS, LABEL, OF, COUNT, SUM, MIN, MAX, GROUP, ORDER, BY, ASC, DESC, STAR, COMMA}
use Rattle.ifdb_syntax.specs.Lang.{Lang, Then, nothing, token, rounds, name, next_member, commas, optional_list}
use Rattle.ifdb_syntax.specs.Reading.{bounded}
use Rattle.ifdb_syntax.specs.Within.{item_short, select_short}
use Rattle.ifdb_syntax.specs.Conditions.{condition}
use Rattle.ifdb_syntax.specs.Queries.{named_as, named, label_of, count_all, item, all, source, sources, columns, order_by, descends, order, plain, select}
use Rattle.ifdb_syntax.specs.canonical.Tokens as canon
use Rattle.ifdb_syntax.specs.canonical.Queries.{item_tokens, source_tokens, order_by_token, descends_tokens, order_tokens, condition_tokens, group_tokens, orders_tokens, select_tokens}
use Rattle.ifdb_syntax.specs.Expressions.{ref}
use Rattle.ifdb_syntax.specs.Shapes.{some_member}
use Rattle.ifdb_syntax.proofs.Makes.{next_makes, some_makes}
use Rattle.ifdb_parse.specs.declared.limits.Before.{Before}
use Rattle.ifdb_parse.specs.declared.limits.Before.TheVariants as before
use Rattle.ifdb_parse.specs.TreeLimits.{has_lone}
use Rattle.ifdb_parse.proofs.back.Lighter.{Lighter, nil_lighter, append_lighter, same_lighter, LighterEnd, append_end, nil_end}
use Rattle.ifdb_parse.proofs.back.Prints.{Prints, Behind, ending, any, operand, other, whole, tested, part, end, done, last, word, token_is, token_prints, name_prints, name_is, number_is, along, either, either_behind, either_first, parens_prints, listing, free_listing, optional_prints}
use Rattle.ifdb_parse.proofs.back.Exprs.{ref_prints, expr_prints}
use Rattle.ifdb_parse.proofs.back.Conds.{condition_prints}

-- ---- items

named_as_prints : Prints before.Operand operand named_as any canon.named_as_tokens
named_as_prints =
    either
    (whole (part {g = λ n. t.As ∷ t.Name n ∷ []} _ (whole (word t.As AS _ refl refl (λ k. refl) (last (name_prints before.Other) (λ a e. tt) (λ a. refl))))
    (λ n. done (Some n) refl refl)))
    (whole (done None refl refl))

pub named_prints : Prints before.Other operand (named bounded) item_short item_tokens
named_prints = whole (tested _ expr_prints (λ x. part _ named_as_prints (λ n. end (i.Expr x n) refl (λ short. (tt, short)) refl)))

label_of_prints : Prints before.Other operand label_of item_short item_tokens
label_of_prints =
    whole (word t.Label LABEL _ refl refl (λ k. refl) (word t.Of OF _ refl refl (λ k. refl) (part _ (name_prints before.Other) (λ s.
    part _ named_as_prints (λ n. done (i.LabelOf s n) refl refl)))))

count_all_prints : Prints before.Other operand count_all item_short item_tokens
count_all_prints =
    whole (word t.Count COUNT _ refl refl (λ k. refl) (part _ (parens_prints before.Other (token_prints before.Other t.Star STAR refl refl (λ k. refl))) (λ _.
    part _ named_as_prints (λ n. done (i.CountAll n) refl refl))))

item_prints : Prints before.Other operand (item bounded) item_short item_tokens
item_prints =
    either (either (either (either (either named_prints label_of_prints) count_all_prints)
    (whole (word t.Sum SUM _ refl refl (λ k. refl) (part _ (parens_prints before.Other (ref_prints before.Other))
    (λ x. part _ named_as_prints (λ n. done (i.Sum x n) refl refl))))))
    (whole (word t.Min MIN _ refl refl (λ k. refl) (part _ (parens_prints before.Other (ref_prints before.Other))
    (λ x. part _ named_as_prints (λ n. done (i.Min x n) refl refl))))))
    (whole (word t.Max MAX _ refl refl (λ k. refl) (part _ (parens_prints before.Other (ref_prints before.Other))
    (λ x. part _ named_as_prints (λ n. done (i.Max x n) refl refl)))))

all_prints : Prints before.Other other all any (canon.commas item_tokens)
all_prints = whole (word t.Star STAR _ refl refl (λ k. refl) (done (i.All ∷ []) refl refl))

-- ---- sources

bytes_same : (n : List ℕ) → bytes_eq n n ≡ true
bytes_same n = (bytes_eq-Decides n n).1 refl

-- an alias is left out where it is the name
left_out : (a : List ℕ) → Lighter before.Operand before.Operand [] (t.As ∷ t.Name a ∷ [])
left_out a = record {
  sound = λ h. tt;
  fewer = omega arith;
  shallow = λ j k s r le top h e. h e.1.1;
  lone = λ s r h e. h e;
}

also_out : (a : List ℕ) → Lighter before.Operand before.Operand [] (t.Name a ∷ [])
also_out a = record {
  sound = λ h. tt;
  fewer = omega arith;
  shallow = λ j k s r le top h e. h e.1;
  lone = λ s r h e. h e;
}

kept : (a : List ℕ) → Lighter before.Operand before.Operand (t.As ∷ t.Name a ∷ []) (t.As ∷ t.Name a ∷ [])
kept a = append_lighter before.Operand before.Other before.Operand (t.As ∷ []) (t.As ∷ []) (t.Name a ∷ []) (t.Name a ∷ [])
    (same_lighter before.Operand t.As (λ k. refl)) (same_lighter before.Other (t.Name a) (λ k. refl))

put_in : (a : List ℕ) → Lighter before.Operand before.Operand (t.As ∷ t.Name a ∷ []) (t.Name a ∷ [])
put_in a = record {
  sound = λ h. (tt, h);
  fewer = omega arith;
  shallow = λ j k s r le top h e. let low : j ≤ 32 = omega arith in (low, (low, h e.1));
  lone = λ s r h e. h e;
}

-- what is written behind the name
alias_tokens : List ℕ → List ℕ → Lexemes
alias_tokens n a = if bytes_eq n a then [] else (t.As ∷ t.Name a ∷ [])

source_form : (n a : List ℕ) (test : Bool) → bytes_eq n a ≡ test → source_tokens (record { name = n; alias = a }) ≡ t.Name n ∷ alias_tokens n a
unfolding alias_tokens
source_form n a true is = rw is refl
source_form n a false is = rw is refl

alias_lighter : (n a : List ℕ) (u : Lexemes) (test : Bool) → bytes_eq n a ≡ test → Lighter before.Operand before.Operand [] u →
    Lighter before.Operand before.Operand (t.As ∷ t.Name a ∷ []) u → Lighter before.Operand before.Operand (alias_tokens n a) u
unfolding alias_tokens
alias_lighter n a u true is h k = rw is h
alias_lighter n a u false is h k = rw is k

as_name_is : (u : Lexemes) (a : List ℕ) → Then (token AS) (λ _. name) u a → u ≡ t.As ∷ t.Name a ∷ []
as_name_is u a h =
    h.parts ∙ (ap (λ (z : Lexemes). z ++ h.back) (token_is t.As AS h.front h.value refl refl h.first)
    ∙ ap (λ (z : Lexemes). t.As ∷ z) (h.second.1 ∙ ap (λ (y : Lexeme). y ∷ []) (sym (name_is h.second.0 a h.second.2))))

bare_name_is : (u : Lexemes) (a : List ℕ) → name u a → u ≡ t.Name a ∷ []
bare_name_is u a h = h.1 ∙ ap (λ (y : Lexeme). y ∷ []) (sym (name_is h.0 a h.2))

alias_prints : (n : List ℕ) → Prints before.Operand operand (λ u a. Then (token AS) (λ _. name) u a ⊎ name u a) any (alias_tokens n)
alias_prints n = record {
  goes = λ u a h e. elim h [
    | inl k ↦ along before.Operand before.Operand (alias_tokens n a) (sym (as_name_is u a k))
        (alias_lighter n a (t.As ∷ t.Name a ∷ []) (bytes_eq n a) refl (left_out a) (kept a))
    | inr k ↦ along before.Operand before.Operand (alias_tokens n a) (sym (bare_name_is u a k))
        (alias_lighter n a (t.Name a ∷ []) (bytes_eq n a) refl (also_out a) (put_in a))
  ];
}

own_form : (n : List ℕ) → source_tokens (record { name = n; alias = n }) ≡ t.Name n ∷ []
own_form n = rw (bytes_same n) refl

source_prints : Prints before.Other operand source any source_tokens
source_prints =
    whole (part _ (name_prints before.Other) (λ n. either_behind
    (part _ (alias_prints n) (λ a. done (record { name = n; alias = a }) refl (source_form n a (bytes_eq n a) refl)))
    (done (record { name = n; alias = n }) refl (own_form n))))

sources_print : Prints before.Other operand sources any (canon.commas source_tokens)
sources_print = free_listing source_prints

-- ---- groups and keys

group_prints : Prints before.Operand operand (optional_list (λ u x. Then (token GROUP) (λ _. λ v y. Then (token BY) (λ _. columns) v y) u x)) any group_tokens
group_prints =
    optional_prints {g = λ cs. t.Group ∷ t.By ∷ canon.commas canon.ref_tokens cs}
    (whole (word t.Group GROUP _ refl refl (λ k. refl)
    (word t.By BY _ refl refl (λ k. refl) (last (free_listing (ref_prints before.Other)) (λ a e. tt) (λ a. refl)))))
    (next_makes some_member _ _ (λ _. next_makes some_member _ _ (λ _. some_makes COMMA ref))) (λ x xs. refl) refl

target_prints : Prints before.Other operand order_by any (λ x. order_by_token x ∷ [])
target_prints =
    either (whole (part _ (name_prints before.Other) (λ n. done (by.Name n) refl refl)))
    (whole (part {g = λ n. t.Number n ∷ []} _ (record {
      goes = λ u n h e. along before.Other before.Operand (t.Number n ∷ [])
          (ap (λ (y : Lexeme). y ∷ []) (number_is h.0 n h.2) ∙ sym h.1) (same_lighter before.Other (t.Number n) (λ k. refl));
    })
    (λ n. done (by.Place n) refl refl)))

-- before what begins with a comma, or nothing, it is all the same whether an operand was last
abbrev Parted : Lexemes → Type 0
Parted s = has_lone before.Other s ≡ has_lone before.Operand s

asc_end : (v u : Lexemes) → Parted u → LighterEnd before.Operand v u → LighterEnd before.Operand v (t.Asc ∷ u)
asc_end v u parted l = record {
  sound = λ h. l.sound h.1;
  fewer = let f = l.fewer in omega arith;
  shallow = λ j k le top e. l.shallow j k le top e.1;
  lone = λ e. l.lone (sym parted ∙ e);
}

desc_end : (v u : Lexemes) → Parted u → Parted v → LighterEnd before.Operand v u → LighterEnd before.Operand (t.Desc ∷ v) (t.Desc ∷ u)
desc_end v u parted parted' l = record {
  sound = λ h. (tt, l.sound h.1);
  fewer = let f = l.fewer in omega arith;
  shallow = λ j k le top e. let low : j ≤ 32 = omega arith in (low, l.shallow j k le top e.1);
  lone = λ e. parted' ∙ l.lone (sym parted ∙ e);
}

-- one word, and a value
word_is : (x : Lexeme) (k : ℕ) (d e : Bool) (u : Lexemes) → kind x ≡ k → nat_lt (kind x) NAME ≡ true → Then (token k) (λ _. nothing e) u d →
    (u ≡ x ∷ []) × (d ≡ e)
word_is x k d e u is_k low h = (
  h.parts ∙ (ap (λ (z : Lexemes). z ++ h.back) (token_is x k h.front h.value is_k low h.first)
      ∙ ap (λ (z : Lexemes). x ∷ z) h.second.0),
  h.second.1,
)

end_along : (d e : Bool) (u w v x : Lexemes) → u ≡ w → d ≡ e → LighterEnd before.Operand (descends_tokens e ++ v) (w ++ x) →
    LighterEnd before.Operand (descends_tokens d ++ v) (u ++ x)
end_along d e u w v x is to l =
    subst (λ (z : Bool). LighterEnd before.Operand (descends_tokens z ++ v) (u ++ x)) (sym to)
    (subst (λ (z : Lexemes). LighterEnd before.Operand (descends_tokens e ++ v) (z ++ x)) (sym is) l)

descends_end : (u : Lexemes) (d : Bool) (v x : Lexemes) → descends u d → Parted x → Parted v → LighterEnd before.Operand v x →
    LighterEnd before.Operand (descends_tokens d ++ v) (u ++ x)
descends_end u d v x (inl (inl h)) px pv l =
    let w = word_is t.Asc ASC d false u refl refl h in
    end_along d false u (t.Asc ∷ []) v x w.0 w.1 (asc_end v x px l)
descends_end u d v x (inl (inr h)) px pv l =
    let w = word_is t.Desc DESC d true u refl refl h in
    end_along d true u (t.Desc ∷ []) v x w.0 w.1 (desc_end v x px pv l)
descends_end u d v x (inr h) px pv l = end_along d false u [] v x h.0 h.1 l

order_end : (u : Lexemes) (o : Order) (v x : Lexemes) → order u o → Parted x → Parted v → LighterEnd before.Operand v x →
    LighterEnd before.Other (order_tokens o ++ v) (u ++ x)
order_end u o v x h px pv l =
    let k = h.second in
    let rest = descends_end k.front k.value v x k.first px pv l in
    let all = append_end before.Other before.Operand (order_by_token h.value ∷ []) h.front (descends_tokens k.value ++ v) (k.front ++ x)
    (target_prints.goes h.front h.value h.first refl) rest in
    let back : k.front ++ x ≡ h.back ++ x = ap (λ (z : Lexemes). z ++ x)
    (sym (append-nil k.front) ∙ (ap (λ (z : Lexemes). k.front ++ z) (sym k.second.0) ∙ sym k.parts)) in
    let text : h.front ++ (k.front ++ x) ≡ u ++ x = ap (λ (z : Lexemes). h.front ++ z) back
    ∙ (sym (append_assoc h.front h.back x) ∙ ap (λ (z : Lexemes). z ++ x) (sym h.parts)) in
    subst (λ (z : Order). LighterEnd before.Other (order_tokens z ++ v) (u ++ x)) (sym k.second.1)
    (subst (λ (z : Lexemes). LighterEnd before.Other (order_by_token h.value ∷ (descends_tokens k.value ++ v)) z) text all)

-- keys, each behind a comma
abbrev Chain : List Order → Lexemes → Type 0
Chain [] u = u ≡ []
Chain (o ∷ os) u = (a : Lexemes) × (b : Lexemes) × (u ≡ t.Comma ∷ a ++ b) × order a o × Chain os b

record Chained (found zs : List Order) (u : Lexemes) : Type 0 where
  keys : List Order
  all : zs ≡ found ++ keys
  chain : Chain keys u

rounds_chain : (n : ℕ) (found : List Order) (u : Lexemes) (zs : List Order) → rounds (next_member COMMA order) n found u zs → Chained found zs u
rounds_chain zero found u zs r = record { keys = []; all = r.1 ∙ sym (append-nil found); chain = r.0 }
rounds_chain (suc n) found u zs (inr r) = record { keys = []; all = r.1 ∙ sym (append-nil found); chain = r.0 }
rounds_chain (suc n) found u zs (inl k) =
    let m = k.first in
    let o = m.second in
    let more = rounds_chain n k.value k.back zs k.second in
    let front : k.front ≡ t.Comma ∷ o.front =
    m.parts ∙ (ap (λ (z : Lexemes). z ++ m.back) (token_is t.Comma COMMA m.front m.value refl refl m.first)
    ∙ ap (λ (z : Lexemes). t.Comma ∷ z) (o.parts ∙ (ap (λ (z : Lexemes). o.front ++ z) o.second.0 ∙ append-nil o.front))) in
    record {
      keys = o.value ∷ more.keys;
      all = more.all ∙ (ap (λ (z : List Order). z ++ more.keys) o.second.1 ∙ append_assoc found (o.value ∷ []) more.keys);
      chain = (o.front, k.back, k.parts ∙ ap (λ (z : Lexemes). z ++ k.back) front, o.first, more.chain);
    }

chain_parted : (os : List Order) (u : Lexemes) → Chain os u → Parted u
chain_parted [] u c = subst Parted (sym c) refl
chain_parted (o ∷ os) u c = subst Parted (sym c.2) refl

behind_parted : (os : List Order) → Parted (canon.behind t.Comma order_tokens os)
behind_parted [] = refl
behind_parted (o ∷ os) = refl

chain_end : (os : List Order) (u : Lexemes) → Chain os u → LighterEnd before.Operand (canon.behind t.Comma order_tokens os) u
chain_end [] u c = subst (λ (z : Lexemes). LighterEnd before.Operand [] z) (sym c) (nil_end before.Operand)
chain_end (o ∷ os) u c =
    let rest = order_end c.0 o (canon.behind t.Comma order_tokens os) c.1 c.3 (chain_parted os c.1 c.4) (behind_parted os) (chain_end os c.1 c.4) in
    subst (λ (z : Lexemes). LighterEnd before.Operand (canon.behind t.Comma order_tokens (o ∷ os)) z) (sym c.2)
    (append_end before.Operand before.Other (t.Comma ∷ []) (t.Comma ∷ []) (order_tokens o ++ canon.behind t.Comma order_tokens os) (c.0 ++ c.1)
    (same_lighter before.Operand t.Comma (λ k. refl)) rest)

orders_end : (u : Lexemes) (zs : List Order) → commas order u zs → LighterEnd before.Other (canon.commas order_tokens zs) u
orders_end u zs h =
    let x = h.value in
    let c = rounds_chain h.second.0 (x ∷ []) h.back zs h.second.1 in
    let all = order_end h.front x (canon.behind t.Comma order_tokens c.keys) h.back h.first (chain_parted c.keys h.back c.chain) (behind_parted c.keys)
    (chain_end c.keys h.back c.chain) in
    subst (λ (z : List Order). LighterEnd before.Other (canon.commas order_tokens z) u) (sym c.all)
    (subst (λ (z : Lexemes). LighterEnd before.Other (canon.commas order_tokens (x ∷ c.keys)) z) (sym h.parts) all)

-- [ORDER BY order {, order}]
abbrev keys_rule : Lang (List Order)
keys_rule = optional_list (λ u x. Then (token ORDER) (λ _. λ v y. Then (token BY) (λ _. commas order) v y) u x)

orders_form : (zs : List Order) → some_member zs ≡ true → orders_tokens zs ≡ t.Order ∷ t.By ∷ canon.commas order_tokens zs
orders_form [] some = absurd (cc)
orders_form (o ∷ os) some = refl

keys_end : (u : Lexemes) (zs : List Order) → keys_rule u zs → LighterEnd before.Operand (orders_tokens zs) u
keys_end u zs (inl h) =
    let k = h.second in
    let some = some_makes COMMA order k.back zs k.second in
    let words = append_lighter before.Operand before.Other before.Other (t.Order ∷ []) (t.Order ∷ []) (t.By ∷ []) (t.By ∷ [])
    (same_lighter before.Operand t.Order (λ k. refl)) (same_lighter before.Other t.By (λ k. refl)) in
    let all = append_end before.Operand before.Other (t.Order ∷ t.By ∷ []) (t.Order ∷ t.By ∷ []) (canon.commas order_tokens zs) k.back words
    (orders_end k.back zs k.second) in
    let text : u ≡ t.Order ∷ t.By ∷ k.back =
    h.parts ∙ (ap (λ (z : Lexemes). z ++ h.back) (token_is t.Order ORDER h.front h.value refl refl h.first)
    ∙ ap (λ (z : Lexemes). t.Order ∷ z) (k.parts ∙ ap (λ (z : Lexemes). z ++ k.back) (token_is t.By BY k.front k.value refl refl k.first))) in
    subst (λ (z : Lexemes). LighterEnd before.Operand (orders_tokens zs) z) (sym text)
    (subst (λ (z : Lexemes). LighterEnd before.Operand z (t.Order ∷ t.By ∷ k.back)) (sym (orders_form zs some)) all)
keys_end u zs (inr h) =
    subst (λ (z : List Order). LighterEnd before.Operand (orders_tokens z) u) (sym h.1)
    (subst (λ (z : Lexemes). LighterEnd before.Operand [] z) (sym h.0) (nil_end before.Operand))

-- ---- SELECT

-- a rule that ends with the keys
keys_last : {start : Before} {p : Select → Bool} {Pre : Type 0} {v : Lexemes} (make : List Order → Select) → ((ks : List Order) → p (make ks) ≡ true → Pre) →
    ((ks : List Order) → select_tokens (make ks) ≡ v ++ orders_tokens ks) →
    Behind start before.Operand (λ s. LighterEnd start) (λ u x. Then keys_rule (λ ks. nothing (make ks)) u x) p select_tokens Pre v
keys_last {start = start} {p = p} {v = v} make pre form = record {
  goes = λ w u s h e. (
    pre h.value (subst (λ (z : Select). p z ≡ true) h.second.1 e),
    λ i.
        let all = append_end start before.Operand v w (orders_tokens h.value) h.front i (keys_end h.front h.value h.first) in
        let text : w ++ h.front ≡ w ++ u = ap (λ (z : Lexemes). w ++ z)
        (sym (append-nil h.front) ∙ (ap (λ (z : Lexemes). h.front ++ z) (sym h.second.0) ∙ sym h.parts)) in
        subst (λ (z : Lexemes). LighterEnd start (select_tokens s) z) text
        (subst (λ (z : Lexemes). LighterEnd start z (w ++ h.front)) (sym (ap select_tokens h.second.1 ∙ form h.value)) all),
  );
}

-- the parts of a SELECT, in order
select_form : (items : List Item) (from : List Source) (found : _) (group : List ColumnRef) (ks : List Order) →
    select_tokens (record { items = items; sources = from; cond = found; group = group; order = ks })
    ≡ (((((t.Select ∷ canon.commas item_tokens items) ++ t.From ∷ []) ++ canon.commas source_tokens from) ++ condition_tokens found)
    ++ group_tokens group) ++ orders_tokens ks
select_form items from found group ks = simp append_assoc refl

-- FROM sources [WHERE cond] [GROUP BY columns] [ORDER BY order {, order}], behind the items
abbrev behind_items : List Item → Lang Select
behind_items items =
    λ u s. Then (token FROM) (λ _. λ u s. Then sources (λ from. λ u s. Then (condition bounded) (λ found.
    λ u s. Then (optional_list (λ u x. Then (token GROUP) (λ _. λ v y. Then (token BY) (λ _. columns) v y) u x)) (λ group.
    λ u s. Then keys_rule (λ keys. nothing (record { items = items; sources = from; cond = found; group = group; order = keys })) u s) u s) u s) u s) u s

select_rest : (d : Before) (Pre : Type 0) (items : List Item) → (list_all item_short items ≡ true → Pre) →
    Behind before.Other d (λ s. LighterEnd before.Other) (behind_items items) select_short select_tokens Pre (t.Select ∷ canon.commas item_tokens items)
select_rest d Pre items pre =
    word t.From FROM _ refl refl (λ k. refl) (part _ sources_print (λ from. part _ condition_prints (λ found. part _ group_prints (λ group.
    keys_last (λ keys. record { items = items; sources = from; cond = found; group = group; order = keys }) (λ keys short. pre short)
    (select_form items from found group)))))

select_behind : Behind before.Other before.Other (λ s. LighterEnd before.Other) (select bounded) select_short select_tokens (Unit {0}) []
select_behind =
    word t.Select SELECT _ refl refl (λ k. refl) (either_first
    (part _ all_prints (λ items. select_rest before.Other (Unit {0}) items (λ _. tt)))
    (tested _ (listing item_prints) (λ items. select_rest before.Operand (Unit {0} × (list_all item_short items ≡ true)) items (λ short. (tt, short)))))

pub select_end : (u : Lexemes) (s : Select) → select bounded u s → select_short s ≡ true → LighterEnd before.Other (select_tokens s) u
select_end u s h e = (select_behind.goes [] u s h e).1 (nil_lighter before.Other)

-- the SELECT of a view
plain_form : (items : List Item) (from : List Source) (found : _) →
    select_tokens (record { items = items; sources = from; cond = found; group = []; order = [] })
    ≡ (((t.Select ∷ canon.commas item_tokens items) ++ t.From ∷ []) ++ canon.commas source_tokens from) ++ condition_tokens found
plain_form items from found = simp (append_assoc, append-nil) refl

abbrev behind_plain_items : List Item → Lang Select
behind_plain_items items =
    λ u s. Then (token FROM) (λ _. λ u s. Then sources (λ from. λ u s. Then (condition bounded) (λ found.
    nothing (record { items = items; sources = from; cond = found; group = []; order = [] })) u s) u s) u s

plain_rest : (d : Before) (Pre : Type 0) (items : List Item) → (list_all item_short items ≡ true → Pre) →
    Behind before.Other d (ending before.Other operand) (behind_plain_items items) select_short select_tokens Pre (t.Select ∷ canon.commas item_tokens items)
plain_rest d Pre items pre =
    word t.From FROM _ refl refl (λ k. refl) (part _ sources_print (λ from. part _ condition_prints (λ found.
    end (record { items = items; sources = from; cond = found; group = []; order = [] }) refl (λ short. pre short) (plain_form items from found))))

plain_behind : Behind before.Other before.Other (ending before.Other operand) (plain bounded) select_short select_tokens (Unit {0}) []
plain_behind =
    word t.Select SELECT _ refl refl (λ k. refl) (either_first
    (part _ all_prints (λ items. plain_rest before.Other (Unit {0}) items (λ _. tt)))
    (tested _ (listing named_prints) (λ items. plain_rest before.Operand (Unit {0} × (list_all item_short items ≡ true)) items (λ short. (tt, short)))))

pub plain_prints : Prints before.Other operand (plain bounded) select_short select_tokens
plain_prints = whole plain_behind
