-- Where the open transactions began, and which commits are given up.
use Rattle.std.proofs.Common.{◌≡◌, ℕ, suc, ◌+◌, ◌-◌, ◌≤◌, Bool, true, false, List, [], ◌∷◌, ◌++◌, ◌∙◌, refl, sym, ap, arith, cond, Some, None, Option}
use Rattle.std.specs.Prelude.{◌==◌, nat_le}
use Rattle.std.specs.List.{list_all, position, position_from, remove}
use Rattle.std.proofs.lemmas.Bool.Decides.{nat_tests}
use Rattle.std.proofs.lemmas.Iterator.Adapters.{position_from-zero}
use Rattle.ifdb_row.specs.declared.commit.Commit.{Commit}
use Rattle.ifdb_store.specs.Kept.{is_later, trimmed}
use Rattle.ifdb_model.specs.Session.{Txn}
use Rattle.ifdb_db.specs.Desk.{Desk, oldest, oldest_of, settled, without, begins_after}
use Rattle.ifdb_db.specs.Kept.{IsSound, are_ordered}

-- ---- commits that are given up

-- commits that are all later than a stamp stay, where those up to an older one are given up
pub all_later : (before at : ℕ) (cs : List Commit) → list_all (is_later before) cs ≡ true → at ≤ before → trimmed at cs ≡ cs
all_later before at [] h le = refl
all_later before at (c ∷ cs) h le =
    let one : is_later at c ≡ true = grind (arith, nat_tests) in
    rw one (ap (λ l. c ∷ l) (all_later before at cs (grind (arith, nat_tests)) le))

pub trimmed_later : (at : ℕ) (cs : List Commit) → list_all (is_later at) (trimmed at cs) ≡ true
trimmed_later at [] = refl
trimmed_later at (c ∷ cs) = by (is_later at c) refl (trimmed_later at cs) where
  by : (b : Bool) → is_later at c ≡ b → list_all (is_later at) (trimmed at cs) ≡ true → list_all (is_later at) (cond b (c ∷ trimmed at cs) (trimmed at cs)) ≡ true
  by true e more = grind (arith, nat_tests)
  by false e more = more

-- what holds of all commits holds of those that are kept
pub trimmed_all : (q : Commit → Bool) (at : ℕ) (cs : List Commit) → list_all q cs ≡ true → list_all q (trimmed at cs) ≡ true
trimmed_all q at [] h = refl
trimmed_all q at (c ∷ cs) h = by (is_later at c) (trimmed_all q at cs (grind (arith, nat_tests))) where
  by : (b : Bool) → list_all q (trimmed at cs) ≡ true → list_all q (cond b (c ∷ trimmed at cs) (trimmed at cs)) ≡ true
  by true more = grind (arith, nat_tests)
  by false more = more

pub is_settled : (d : Desk) → IsSound d → settled d ≡ d
is_settled d s = ap (λ cs. record d { commits = cs }) (all_later (oldest d) (oldest d) d.commits s.later (omega arith))

-- ---- begins

pub ordered_front : (begins : List ℕ) (count : ℕ) → are_ordered begins count ≡ true → oldest_of begins count ≤ count
ordered_front [] count h = omega arith
ordered_front (b ∷ begins) count h = grind (arith, nat_tests)

pub ordered_more : (begins : List ℕ) (m n : ℕ) → m ≤ n → are_ordered begins m ≡ true → are_ordered begins n ≡ true
ordered_more [] m n le h = refl
ordered_more (b ∷ begins) m n le h = grind (arith, nat_tests, ordered_more begins m n le)

above_push : (b : ℕ) (begins : List ℕ) (count : ℕ) → nat_le b count ≡ true → list_all (nat_le b) begins ≡ true → list_all (nat_le b) (begins ++ count ∷ []) ≡ true
above_push b [] count h k = grind (arith, nat_tests)
above_push b (x ∷ begins) count h k = grind (arith, nat_tests, above_push b begins count h)

pub ordered_push : (begins : List ℕ) (count : ℕ) → are_ordered begins count ≡ true → are_ordered (begins ++ count ∷ []) count ≡ true
ordered_push [] count h = grind (arith, nat_tests)
ordered_push (b ∷ begins) count h = grind (arith, nat_tests, ordered_push begins count, above_push b begins count)

above_without : (q : ℕ → Bool) (x : ℕ) (begins : List ℕ) → list_all q begins ≡ true → list_all q (without x begins) ≡ true
above_without q x [] h = refl
above_without q x (b ∷ begins) h = by (b == x) (above_without q x begins (grind (arith, nat_tests))) where
  by : (e : Bool) → list_all q (without x begins) ≡ true → list_all q (cond e begins (b ∷ without x begins)) ≡ true
  by true more = grind (arith, nat_tests)
  by false more = grind (arith, nat_tests)

pub ordered_without : (x : ℕ) (begins : List ℕ) (count : ℕ) → are_ordered begins count ≡ true → are_ordered (without x begins) count ≡ true
ordered_without x [] count h = refl
ordered_without x (b ∷ begins) count h = by (b == x) (ordered_without x begins count (grind (arith, nat_tests))) (above_without (nat_le b) x begins (grind (arith, nat_tests))) where
  by : (e : Bool) → are_ordered (without x begins) count ≡ true → list_all (nat_le b) (without x begins) ≡ true → are_ordered (cond e begins (b ∷ without x begins)) count ≡ true
  by true more up = grind (arith, nat_tests)
  by false more up = grind (arith, nat_tests)

pub ordered_after : (s t : Option Txn) (begins : List ℕ) (count : ℕ) → are_ordered begins count ≡ true → (s ≡ None → (y : Txn) → t ≡ Some y → y.begin ≡ count) → are_ordered (begins_after s t begins) count ≡ true
ordered_after None None begins count h k = h
ordered_after None (Some y) begins count h k = ap (λ n. are_ordered (begins ++ n ∷ []) count) (k refl y refl) ∙ ordered_push begins count h
ordered_after (Some x) None begins count h k = ordered_without x.begin begins count h
ordered_after (Some x) (Some y) begins count h k = h

-- the oldest rises

front_above : (x b : ℕ) (begins : List ℕ) (count : ℕ) → nat_le b count ≡ true → list_all (nat_le b) begins ≡ true → b ≤ oldest_of begins count
front_above x b [] count h k = grind (arith, nat_tests)
front_above x b (c ∷ begins) count h k = grind (arith, nat_tests)

pub oldest_without : (x : ℕ) (begins : List ℕ) (m n : ℕ) → m ≤ n → are_ordered begins m ≡ true → oldest_of begins m ≤ oldest_of (without x begins) n
oldest_without x [] m n le h = le
oldest_without x (b ∷ begins) m n le h = by (b == x) (front_above x b begins n (grind (arith, nat_tests)) (grind (arith, nat_tests))) where
  by : (e : Bool) → b ≤ oldest_of begins n → b ≤ oldest_of (cond e begins (b ∷ without x begins)) n
  by true up = up
  by false up = omega arith

pub oldest_push : (begins : List ℕ) (m n : ℕ) → m ≤ n → oldest_of begins m ≤ oldest_of (begins ++ m ∷ []) n
oldest_push [] m n le = omega arith
oldest_push (b ∷ begins) m n le = omega arith

pub oldest_more : (begins : List ℕ) (m n : ℕ) → m ≤ n → oldest_of begins m ≤ oldest_of begins n
oldest_more [] m n le = le
oldest_more (b ∷ begins) m n le = omega arith

-- a transaction that begins at the end of the log changes no oldest BEGIN

oldest_same : (begins : List ℕ) (n : ℕ) → oldest_of (begins ++ n ∷ []) n ≡ oldest_of begins n
oldest_same [] n = refl
oldest_same (b ∷ begins) n = refl

pub begun_settled : (d : Desk) → IsSound d → settled (record d { begins = d.begins ++ d.count ∷ [] }) ≡ record d { begins = d.begins ++ d.count ∷ [] }
begun_settled d s =
    ap (λ cs. record d { commits = cs; begins = d.begins ++ d.count ∷ [] })
    (ap (λ n. trimmed n d.commits) (oldest_same d.begins d.count) ∙ all_later (oldest d) (oldest d) d.commits s.later (omega arith))

pub sound_begun : (d : Desk) → IsSound d → IsSound (record d { begins = d.begins ++ d.count ∷ [] })
sound_begun d s = record {
  order = ordered_push d.begins d.count s.order;
  seen = s.seen;
  parents = s.parents;
  made = s.made;
  later = ap (λ n. list_all (is_later n) d.commits) (oldest_same d.begins d.count) ∙ s.later;
}

-- ---- one begin is taken away

from_none : (x : ℕ) (begins : List ℕ) (k : ℕ) → position_from (λ b. b == x) k begins ≡ None → without x begins ≡ begins
from_none x [] k e = refl
from_none x (b ∷ begins) k e = by (b == x) (from_none x begins (k + 1)) e where
  by : (c : Bool) → (position_from (λ b. b == x) (k + 1) begins ≡ None → without x begins ≡ begins) → cond c (Some k) (position_from (λ b. b == x) (k + 1) begins) ≡ None
      → cond c begins (b ∷ without x begins) ≡ b ∷ begins
  by true more h = cc
  by false more h = ap (λ l. b ∷ l) (more h)

record IsTaken (x : ℕ) (begins : List ℕ) (k i : ℕ) : Type 0 where
  behind : k ≤ i
  left : remove begins (i - k) ≡ without x begins

from_some : (x : ℕ) (begins : List ℕ) (k i : ℕ) → position_from (λ b. b == x) k begins ≡ Some i → IsTaken x begins k i
from_some x [] k i e = cc
from_some x (b ∷ begins) k i e = by (b == x) refl (from_some x begins (k + 1) i) e where
  by : (c : Bool) → (b == x) ≡ c → (position_from (λ b. b == x) (k + 1) begins ≡ Some i → IsTaken x begins (k + 1) i) → cond c (Some k) (position_from (λ b. b == x) (k + 1) begins) ≡ Some i
      → IsTaken x (b ∷ begins) k i
  by true t more h =
      let same : k ≡ i = cc in
      let none : i - k ≡ 0 = omega arith in
      record { behind = omega arith; left = ap (remove (b ∷ begins)) none ∙ ap (λ c. cond c begins (b ∷ without x begins)) (sym t) }
  by false t more h =
      let rest = more h in
      let le = rest.behind in
      let one : i - k ≡ suc (i - (k + 1)) = omega (arith, le) in
      record {
        behind = omega (arith, le);
        left = ap (remove (b ∷ begins)) one ∙ ap (λ l. b ∷ l) rest.left ∙ ap (λ c. cond c begins (b ∷ without x begins)) (sym t);
      }

pub removed : (x : ℕ) (begins : List ℕ) (i : ℕ) → position (λ b. b == x) begins ≡ Some i → remove begins i ≡ without x begins
removed x begins i e =
    let same : i ≡ i - 0 = omega arith in
    ap (remove begins) same ∙ (from_some x begins 0 i (sym (position_from-zero (λ b. b == x) begins) ∙ e)).left

pub none_removed : (x : ℕ) (begins : List ℕ) → position (λ b. b == x) begins ≡ None → begins ≡ without x begins
none_removed x begins e = sym (from_none x begins 0 (sym (position_from-zero (λ b. b == x) begins) ∙ e))
