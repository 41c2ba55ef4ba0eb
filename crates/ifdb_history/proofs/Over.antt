-- Sessions that are over, and the next one.
use Rattle.std.proofs.Common.{◌≡◌, ℕ, ◌+◌, ◌-◌, ◌<◌, ◌≤◌, List, [], ◌∷◌, ◌++◌, ◌∙◌, length, refl, sym, ap, subst, arith}
use Rattle.std.proofs.lemmas.Bool.{false≢true}
use Rattle.std.proofs.lemmas.List.{append_assoc, append-nil, length-append}
use mathlib.Core.List.{IsPrefix}
use lib.ListN.{get_elem?}
use Rattle.atomic_table.proofs.Lists.{at_last}
use Rattle.ifdb_turn.specs.Histories.{AllRight}
use Rattle.ifdb_turn.specs.Places.{times}
use Rattle.ifdb_turn.proofs.PlaceLemmas.{one_if-same, times-snoc}
use Rattle.ifdb_model.specs.Session.{Session}
use Rattle.ifdb_model.specs.Run.{State, opens, next}
use Rattle.ifdb_history.specs.declared.entry.Entry.{Entry}
use Rattle.ifdb_history.specs.declared.entry.Kind.{Kind}
use Rattle.ifdb_history.specs.declared.entry.Kind.TheVariants as kind
use Rattle.ifdb_history.specs.History.{Start, first_state, after, IsOpen, IsShut, roots_from, HasRoot, IsRightKind, IsRight, Holds, opening_entry}
use Rattle.ifdb_history.specs.Lines.{lines_of, IsTold}
use Rattle.ifdb_history.proofs.Sessions.{open_was, opens_next}
use Rattle.ifdb_history.proofs.Flat.{after-append, lines-append, is_told-append, roots-append, as_many_roots}
use Rattle.ifdb_history.proofs.Others.{IsApart, AreApart, apart_lines, apart_told, told_longer, apart_sessions}

module _ (start : Start) where
  -- ---- a session that is over stays so, and nothing is added to it

  shut_apart : (h : List Entry) (n root : ℕ) (x : Kind) → IsShut (after start h) n → IsRightKind start h root x → IsApart n x
  shut_apart h n root kind.Opened shut right = tt
  shut_apart h n root (kind.Asked m work line) shut right = λ same. false≢true (sym shut.1 ∙ subst (IsOpen (after start h)) same right.0.0)
  shut_apart h n root (kind.Looked m line) shut right = λ same. false≢true (sym shut.1 ∙ subst (IsOpen (after start h)) same right.0.0)
  shut_apart h n root (kind.Refused m line) shut right = λ same. false≢true (sym shut.1 ∙ subst (IsOpen (after start h)) same right.0)
  shut_apart h n root (kind.Left m work) shut right = λ same. false≢true (sym shut.1 ∙ subst (IsOpen (after start h)) same right.0.0)

  shut_still : (h k : List Entry) (n : ℕ) → IsShut (after start h) n → AreApart n k → IsShut (after start (h ++ k)) n
  shut_still h k n shut apart =
      let same = apart_sessions start.read n (after start h) k apart shut.0 in
      subst (λ (st : State). IsShut st n) (sym (after-append start h k)) (same.1, ap (λ (s : Session). s.is_open) same.0 ∙ shut.1)

  shut_walk : (n : ℕ) (h k : List Entry) → IsShut (after start h) n → AllRight (IsRight start) (h ++ k) → AreApart n k
  shut_walk n h [] shut right = tt
  shut_walk n h (e ∷ k) shut right =
      let is : (h ++ e ∷ []) ++ k ≡ h ++ e ∷ k = append_assoc h (e ∷ []) k in
      let here = shut_apart h n e.root e.kind shut (right h e (k, is)) in
      (here, shut_walk n (h ++ e ∷ []) k (shut_still h (e ∷ []) n shut (here, tt)) (subst (AllRight (IsRight start)) (sym is) right))

  pub shut_on : (n : ℕ) (h log : List Entry) → IsShut (after start h) n → IsPrefix h log → AllRight (IsRight start) log
      → IsShut (after start log) n × (lines_of n log ≡ lines_of n h) × ((text : List ℕ) → IsTold start n h text → IsTold start n log text)
  shut_on n h log shut front right =
      let k = front.0 in
      let apart = shut_walk n h k shut (subst (AllRight (IsRight start)) (sym front.1) right) in
      subst (λ l. IsShut (after start l) n × (lines_of n l ≡ lines_of n h) × ((text : List ℕ) → IsTold start n h text → IsTold start n l text)) front.1 (
        shut_still h k n shut apart,
        lines-append n h k ∙ ap (λ l. lines_of n h ++ l) (apart_lines n k apart) ∙ append-nil (lines_of n h),
        told_longer start n h k apart,
      )

  -- ---- the next session was never asked or told anything

  later_count : (h k : List Entry) → length (after start h).sessions ≤ length (after start (h ++ k)).sessions
  later_count h k =
      let a = as_many_roots start h in
      let b = as_many_roots start (h ++ k) in
      let c = ap length (roots-append h k) in
      let d = length-append (roots_from 0 h) (roots_from (length h) k) in
      omega (arith, a, b, c, d)

  fresh_apart : (h : List Entry) (n root : ℕ) (x : Kind) → length (after start h).sessions < n → IsRightKind start h root x → IsApart n x
  fresh_apart h n root kind.Opened few right = tt
  fresh_apart h n root (kind.Asked m work line) few right = λ same. let there = (open_was (after start h) m right.0.0).1 in omega (arith, there, few, same)
  fresh_apart h n root (kind.Looked m line) few right = λ same. let there = (open_was (after start h) m right.0.0).1 in omega (arith, there, few, same)
  fresh_apart h n root (kind.Refused m line) few right = λ same. let there = (open_was (after start h) m right.0).1 in omega (arith, there, few, same)
  fresh_apart h n root (kind.Left m work) few right = λ same. let there = (open_was (after start h) m right.0.0).1 in omega (arith, there, few, same)

  fresh : (n : ℕ) (h k : List Entry) → AllRight (IsRight start) (h ++ k) → length (after start (h ++ k)).sessions < n → AreApart n k
  fresh n h [] right few = tt
  fresh n h (e ∷ k) right few =
      let is : (h ++ e ∷ []) ++ k ≡ h ++ e ∷ k = append_assoc h (e ∷ []) k in
      let below = later_count h (e ∷ k) in (
        fresh_apart h n e.root e.kind (omega (arith, below, few)) (right h e (k, is)),
        fresh n (h ++ e ∷ []) k (subst (AllRight (IsRight start)) (sym is) right) (subst (λ l. length (after start l).sessions < n) (sym is) few),
      )

  -- what opening a session says
  pub opened_new : (h : List Entry) (own : List ℕ) (n : ℕ) → AllRight (IsRight start) h → n ≡ length (after start h).sessions + 1
      → Holds start (h ++ opening_entry h ∷ []) (own ++ length h ∷ []) n × HasRoot (h ++ opening_entry h ∷ []) n (length h)
      × (lines_of n (h ++ opening_entry h ∷ []) ≡ []) × IsTold start n (h ++ opening_entry h ∷ []) []
  opened_new h own n right is = (
    (opened, (length h, rooted, mine)),
    rooted,
    lines-append n h (opening_entry h ∷ []) ∙ append-nil (lines_of n h) ∙ apart_lines n h apart,
    is_told-append start n h (opening_entry h ∷ []) [] [] (apart_told start.read n (first_state start) h apart) ([], [], refl, refl, refl),
  ) where
    apart : AreApart n h
    apart = fresh n [] h right (omega (arith, is))

    opened : IsOpen (after start (h ++ opening_entry h ∷ [])) n
    opened = subst (λ (st : State). IsOpen st n) (sym (after-append start h (opening_entry h ∷ [])))
        (subst (IsOpen (next start.read (after start h) opens)) (sym is) (opens_next start.read (after start h)))

    rooted : HasRoot (h ++ opening_entry h ∷ []) n (length h)
    rooted =
        let count = as_many_roots start h in
        ap (λ l. get_elem? l (n - 1)) (roots-append h (opening_entry h ∷ []))
        ∙ at_last (roots_from 0 h) (length h) (n - 1) (omega (arith, count, is))

    mine : 0 < times (length h) (own ++ length h ∷ [])
    mine = let more = times-snoc (length h) own (length h) in let one = one_if-same (length h) in omega (arith, more, one)
