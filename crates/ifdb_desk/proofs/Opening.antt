-- The sessions that a pass opened, as its history grows.
use Rattle.std.proofs.Common.{◌≡◌, ◌≢◌, ℕ, ◌+◌, ◌-◌, ◌<◌, ◌≤◌, Bool, true, false, List, [], ◌∷◌, ◌++◌, ◌∙◌, length, zero, suc, refl, sym, ap, subst, arith, cond, ltb, lt-ltb, eq-eqb, ne_eqb}
use Rattle.std.specs.Prelude.{count_by, nat_eq}
use Rattle.std.proofs.lemmas.List.{append_assoc, append-nil}
use Rattle.std.proofs.lemmas.List.Sums.{sum_by-append}
use mathlib.Core.List.{IsPrefix}
use mathlib.Core.Option.{some, some-injective, some-ne-none}
use native.Mathlib.Decide.{ℕ_discrete, dec_lt}
use lib.ListN.{get_elem?}
use Rattle.ifdb_turn.specs.Places.{one_if, times, RisesFrom, LiesBelow}
use Rattle.ifdb_turn.proofs.PlaceLemmas.{one_if-same, one_if-other}
use Rattle.ifdb_turn.proofs.ViewLemmas.{below}
use Rattle.ifdb_history.specs.declared.entry.Entry.{Entry}
use Rattle.ifdb_history.specs.declared.entry.Kind.{Kind}
use Rattle.ifdb_history.specs.declared.entry.Kind.TheVariants as kind
use Rattle.ifdb_history.specs.History.{root_of, roots_from, HasRoot, IsKindOf, AreEntriesOf}
use Rattle.ifdb_history.proofs.Flat.{roots-append}
use Rattle.ifdb_desk.specs.Opened.{opened_from, opened_in}

times-append : (k : ℕ) (xs ys : List ℕ) → times k (xs ++ ys) ≡ times k xs + times k ys
times-append k [] ys = omega arith
times-append k (x ∷ xs) ys = let r = times-append k xs ys in omega (arith, r)

times_head : (k : ℕ) (xs : List ℕ) → 0 < times k (k ∷ xs)
times_head k xs = let one = one_if-same k in omega (arith, one)

-- ---- numbers of own places

opened-append : (n : ℕ) (xs ys own : List ℕ) → opened_from n (xs ++ ys) own ≡ opened_from n xs own ++ opened_from (n + length xs) ys own
opened-append n [] ys own = let same : n ≡ n + 0 = omega arith in ap (λ m. opened_from m ys own) same
opened-append n (x ∷ xs) ys own =
    let same : (n + 1) + length xs ≡ n + length (x ∷ xs) = omega arith in
    ap (λ l. cond (ltb 0 (times x own)) (n ∷ []) [] ++ l) (opened-append (n + 1) xs ys own ∙ ap (λ m. opened_from (n + 1) xs own ++ opened_from m ys own) same)
    ∙ sym (append_assoc (cond (ltb 0 (times x own)) (n ∷ []) []) (opened_from (n + 1) xs own) (opened_from (n + length (x ∷ xs)) ys own))

-- none of the places is an own one
opened_none : (n : ℕ) (roots own : List ℕ) → ((place : ℕ) → 0 < times place roots → times place own ≡ 0) → opened_from n roots own ≡ []
opened_none n [] own none = refl
opened_none n (x ∷ roots) own none =
    ap (λ t. cond (ltb 0 t) (n ∷ []) [] ++ opened_from (n + 1) roots own) (none x (times_head x roots))
    ∙ opened_none (n + 1) roots own (λ place there. none place (omega (arith, there)))

-- those that are own ones are so by either list
opened_alike : (n : ℕ) (roots own more : List ℕ) → ((place : ℕ) → 0 < times place roots → ltb 0 (times place more) ≡ ltb 0 (times place own)) → opened_from n roots more ≡ opened_from n roots own
opened_alike n [] own more same = refl
opened_alike n (x ∷ roots) own more same =
    ap (λ b. cond b (n ∷ []) [] ++ opened_from (n + 1) roots more) (same x (times_head x roots))
    ∙ ap (λ l. cond (ltb 0 (times x own)) (n ∷ []) [] ++ l) (opened_alike (n + 1) roots own more (λ place there. same place (omega (arith, there))))

-- a number above all of them is none of them
opened_few : (m n : ℕ) (roots own : List ℕ) → n + length roots ≤ m → count_by (nat_eq m) (opened_from n roots own) ≡ 0
opened_few m n [] own few = refl
opened_few m n (x ∷ roots) own few = by (ltb 0 (times x own)) (opened_few m (n + 1) roots own (omega (arith, few))) where
  by : (b : Bool) → count_by (nat_eq m) (opened_from (n + 1) roots own) ≡ 0 → count_by (nat_eq m) (cond b (n ∷ []) [] ++ opened_from (n + 1) roots own) ≡ 0
  by true rest =
      let parts = sum_by-append (λ x. cond (nat_eq m x) 1 0) (n ∷ []) (opened_from (n + 1) roots own) in
      let differs : ◌≡◌ {A = ℕ} (cond (nat_eq m n) 1 0) 0 = ap (λ b. cond b 1 0) (ne_eqb m n (λ same. absurd (omega (arith, few, same)))) in
      omega (arith, parts, differs, rest)
  by false rest = rest

-- ---- rising places

rises_above : (low : ℕ) (xs : List ℕ) → RisesFrom low xs → (place : ℕ) → 0 < times place xs → low ≤ place
rises_above low [] rises place there = absurd (omega (arith, there))
rises_above low (x ∷ xs) rises place there = elim (ℕ_discrete place x) [
  | yes d ↦ (let first = rises.0 in omega (arith, first, d))
  | no d ↦ (let none = one_if-other place x d in let more = rises_above (x + 1) xs rises.1 place (omega (arith, there, none)) in let first = rises.0 in omega (arith, more, first))
]

at_times : (xs : List ℕ) (i place : ℕ) → get_elem? xs i ≡ some place → 0 < times place xs
at_times [] i place at = absurd (some-ne-none place (sym at))
at_times (x ∷ xs) zero place at = subst (λ y. 0 < times place (y ∷ xs)) (sym (some-injective x place at)) (times_head place xs)
at_times (x ∷ xs) (suc i) place at = let more = at_times xs i place at in omega (arith, more)

at_behind : (xs ys : List ℕ) (i : ℕ) → get_elem? (xs ++ ys) (length xs + i) ≡ get_elem? ys i
at_behind [] ys i = let same : 0 + i ≡ i = omega arith in ap (get_elem? ys) same
at_behind (x ∷ xs) ys i = let same : length (x ∷ xs) + i ≡ suc (length xs + i) = omega arith in ap (get_elem? (x ∷ xs ++ ys)) same ∙ at_behind xs ys i

-- one of them alone is an own one
opened_first : (n low : ℕ) (xs : List ℕ) (i place : ℕ) (own : List ℕ) → RisesFrom low xs → get_elem? xs i ≡ some place → 0 < times place own
    → ((other : ℕ) → 0 < times other xs → other ≢ place → times other own ≡ 0) → opened_from n xs own ≡ (n + i) ∷ []
opened_first n low [] i place own rises at mine others = absurd (some-ne-none place (sym at))
opened_first n low (x ∷ xs) zero place own rises at mine others =
    let same : x ≡ place = some-injective x place at in
    let number : n ≡ n + 0 = omega arith in
    ap (λ b. cond b (n ∷ []) [] ++ opened_from (n + 1) xs own) (lt-ltb 0 (times x own) (subst (λ p. 0 < times p own) (sym same) mine))
    ∙ ap (λ l. n ∷ l) (opened_none (n + 1) xs own (λ other there. let more = rises_above (x + 1) xs rises.1 other there in others other (omega (arith, there)) (λ is. absurd (omega (arith, more, is, same)))))
    ∙ ap (λ m. m ∷ []) number
opened_first n low (x ∷ xs) (suc i) place own rises at mine others =
    let more = rises_above (x + 1) xs rises.1 place (at_times xs i place at) in
    let number : (n + 1) + i ≡ n + suc i = omega arith in
    ap (λ t. cond (ltb 0 t) (n ∷ []) [] ++ opened_from (n + 1) xs own) (others x (times_head x xs) (λ is. absurd (omega (arith, more, is))))
    ∙ opened_first (n + 1) (x + 1) xs i place own rises.1 at mine (λ other there. others other (omega (arith, there)))
    ∙ ap (λ m. m ∷ []) number

-- ---- a place where a session was opened

record OpensAt (h : List Entry) (from place : ℕ) : Type 0 where
  pub at : ℕ
  pub is : place ≡ from + at
  pub entry : Entry
  pub there : get_elem? h at ≡ some entry
  pub opens : entry.kind ≡ kind.Opened

opens_at : (from : ℕ) (h : List Entry) (place : ℕ) → 0 < times place (roots_from from h) → OpensAt h from place
opens_at from [] place there = absurd (omega (arith, there))
opens_at from (e ∷ h) place there = by e.kind refl there (opens_at (from + 1) h place) where
  later : OpensAt h (from + 1) place → OpensAt (e ∷ h) from place
  later o = let is = o.is in record { at = suc o.at; is = omega (arith, is); entry = o.entry; there = o.there; opens = o.opens }

  by : (x : Kind) → e.kind ≡ x → 0 < times place (root_of from x ++ roots_from (from + 1) h) → (0 < times place (roots_from (from + 1) h) → OpensAt h (from + 1) place) → OpensAt (e ∷ h) from place
  by kind.Opened same more rest = elim (ℕ_discrete place from) [
    | yes d ↦ record { at = 0; is = omega (arith, d); entry = e; there = refl; opens = same }
    | no d ↦ later (rest (let none = one_if-other place from d in omega (arith, more, none)))
  ]
  by (kind.Asked n work line) same more rest = later (rest more)
  by (kind.Looked n line) same more rest = later (rest more)
  by (kind.Refused n line) same more rest = later (rest more)
  by (kind.Left n work) same more rest = later (rest more)

roots_rise : (low from : ℕ) (h : List Entry) → low ≤ from → RisesFrom low (roots_from from h)
roots_rise low from [] le = tt
roots_rise low from (e ∷ h) le = by e.kind (roots_rise low (from + 1) h (omega (arith, le))) (roots_rise (from + 1) (from + 1) h (omega arith)) where
  by : (x : Kind) → RisesFrom low (roots_from (from + 1) h) → RisesFrom (from + 1) (roots_from (from + 1) h) → RisesFrom low (root_of from x ++ roots_from (from + 1) h)
  by kind.Opened later behind = (le, behind)
  by (kind.Asked n work line) later behind = later
  by (kind.Looked n line) later behind = later
  by (kind.Refused n line) later behind = later
  by (kind.Left n work) later behind = later

-- among entries of a session only its own opening is one
pub added_root : (n root place : ℕ) (k : List Entry) (added : List ℕ) → HasRoot k n root → AreEntriesOf n k added → 0 < times place (roots_from 0 k) → 0 < times place added → place ≡ root
added_root n root place k [] is of opened there = absurd (omega (arith, there))
added_root n root place k (x ∷ added) is of opened there = elim (ℕ_discrete place x) [
  | yes d ↦ here d
  | no d ↦ added_root n root place k added is of.1 opened (let none = one_if-other place x d in omega (arith, there, none))
] where
  here : place ≡ x → place ≡ root
  here d =
      let o = opens_at 0 k place opened in
      let at : o.at ≡ x = let is = o.is in omega (arith, is, d) in
      let same : o.entry ≡ of.0.0 = some-injective o.entry of.0.0 (sym o.there ∙ ap (get_elem? k) at ∙ of.0.1) in
      let own : IsKindOf n k x kind.Opened = subst (IsKindOf n k x) (sym (ap (λ (e : Entry). e.kind) same) ∙ o.opens) of.0.2 in
      d ∙ some-injective x root (sym own ∙ is)

-- ---- a longer history, in which no other session was opened at an own place

module _ (h k : List Entry) (own added : List ℕ) (front : IsPrefix h k) (low : LiesBelow (length h) own) where
  roots : roots_from 0 k ≡ roots_from 0 h ++ roots_from (length h) front.0
  roots = ap (roots_from 0) (sym front.1) ∙ roots-append h front.0

  among : (place : ℕ) → times place (roots_from 0 k) ≡ times place (roots_from 0 h) + times place (roots_from (length h) front.0)
  among place = ap (times place) roots ∙ times-append place (roots_from 0 h) (roots_from (length h) front.0)

  parts : opened_in k (own ++ added) ≡ opened_from 1 (roots_from 0 h) (own ++ added) ++ opened_from (1 + length (roots_from 0 h)) (roots_from (length h) front.0) (own ++ added)
  parts = ap (λ l. opened_from 1 l (own ++ added)) roots ∙ opened-append 1 (roots_from 0 h) (roots_from (length h) front.0) (own ++ added)

  -- a place that was added is none where a session was opened, but for one that was an own place before
  module _ (others : (place : ℕ) → 0 < times place (roots_from 0 k) → 0 < times place added → 0 < times place own) where
    pub opened_later : opened_in k (own ++ added) ≡ opened_in h own
    opened_later = parts ∙ (λ i. old i ++ none i) ∙ append-nil (opened_in h own) where
      old : opened_from 1 (roots_from 0 h) (own ++ added) ≡ opened_from 1 (roots_from 0 h) own
      old = opened_alike 1 (roots_from 0 h) own (own ++ added) (λ place there. by place there (dec_lt 0 (times place own))) where
        by : (place : ℕ) → 0 < times place (roots_from 0 h) → Dec (0 < times place own) → ltb 0 (times place (own ++ added)) ≡ ltb 0 (times place own)
        by place there (yes d) = let both = times-append place own added in lt-ltb 0 (times place (own ++ added)) (omega (arith, both, d)) ∙ sym (lt-ltb 0 (times place own) d)
        by place there (no d) =
            let both = times-append place own added in
            let in_all = among place in
            let none : times place added ≡ 0 = elim (dec_lt 0 (times place added)) [ yes more ↦ absurd (d (others place (omega (arith, there, in_all)) more)) | no more ↦ omega (arith, more) ] in
            ap (ltb 0) (omega (arith, both, none))

      none : opened_from (1 + length (roots_from 0 h)) (roots_from (length h) front.0) (own ++ added) ≡ []
      none = opened_none (1 + length (roots_from 0 h)) (roots_from (length h) front.0) (own ++ added) (λ place there.
          let o = opens_at (length h) front.0 place there in
          let is = o.is in
          let not_own = low place (omega (arith, is)) in
          let both = times-append place own added in
          let in_all = among place in
          let not_added : times place added ≡ 0 = elim (dec_lt 0 (times place added)) [ yes more ↦ (let own_too = others place (omega (arith, there, in_all)) more in absurd (omega (arith, own_too, not_own))) | no more ↦ omega (arith, more) ] in
          omega (arith, both, not_own, not_added))

  -- the turn that was added has opened a session
  module _ (n place : ℕ) (added_one : added ≡ place ∷ []) (root : HasRoot k n place) (new : length (roots_from 0 h) < n) where
    abbrev index : ℕ
    index = n - 1 - length (roots_from 0 h)

    there_at : get_elem? (roots_from (length h) front.0) index ≡ some place
    there_at =
        let number : length (roots_from 0 h) + index ≡ n - 1 = omega (arith, new) in
        sym (at_behind (roots_from 0 h) (roots_from (length h) front.0) index) ∙ ap (λ l. get_elem? l (length (roots_from 0 h) + index)) (sym roots) ∙ ap (get_elem? (roots_from 0 k)) number ∙ root

    high : length h ≤ place
    high = let is = (opens_at (length h) front.0 place (at_times (roots_from (length h) front.0) index place there_at)).is in omega (arith, is)

    both : (other : ℕ) → times other (own ++ added) ≡ times other own + times other (place ∷ [])
    both other = times-append other own added ∙ ap (λ l. times other own + times other l) added_one

    pub opened_one : opened_in k (own ++ added) ≡ opened_in h own ++ n ∷ []
    opened_one = parts ∙ (λ i. old i ++ last i) where
      old : opened_from 1 (roots_from 0 h) (own ++ added) ≡ opened_from 1 (roots_from 0 h) own
      old = opened_alike 1 (roots_from 0 h) own (own ++ added) (λ other there.
          let o = opens_at 0 h other there in
          let is = o.is in
          let lt = below h o.at o.entry o.there in
          let le = high in
          let no = one_if-other other place (λ same. absurd (omega (arith, is, lt, le, same))) in
          let sum = both other in
          ap (ltb 0) (omega (arith, sum, no)))

      last : opened_from (1 + length (roots_from 0 h)) (roots_from (length h) front.0) (own ++ added) ≡ n ∷ []
      last =
          let number : (1 + length (roots_from 0 h)) + index ≡ n = omega (arith, new) in
          let here : 0 < times place (own ++ added) = (let sum = both place in let one = times_head place [] in omega (arith, sum, one)) in
          opened_first (1 + length (roots_from 0 h)) (length h) (roots_from (length h) front.0) index place (own ++ added) (roots_rise (length h) (length h) front.0 (omega arith)) there_at here
          (λ other there differs.
          let is = (opens_at (length h) front.0 other there).is in
          let not_own = low other (omega (arith, is)) in
          let no = one_if-other other place differs in
          let sum = both other in
          omega (arith, sum, not_own, no))
          ∙ ap (λ m. m ∷ []) number

-- a number above all sessions of a history is that of none of them
pub unopened : (h : List Entry) (own : List ℕ) (n : ℕ) → length (roots_from 0 h) < n → count_by (nat_eq n) (opened_in h own) ≡ 0
unopened h own n few = opened_few n 1 (roots_from 0 h) own (omega (arith, few))

-- ---- how often a number is among them

opened_above : (m n : ℕ) (roots own : List ℕ) → m < n → count_by (nat_eq m) (opened_from n roots own) ≡ 0
opened_above m n [] own lt = refl
opened_above m n (x ∷ roots) own lt = by (ltb 0 (times x own)) (opened_above m (n + 1) roots own (omega (arith, lt))) where
  by : (b : Bool) → count_by (nat_eq m) (opened_from (n + 1) roots own) ≡ 0 → count_by (nat_eq m) (cond b (n ∷ []) [] ++ opened_from (n + 1) roots own) ≡ 0
  by true rest =
      let parts = sum_by-append (λ x. cond (nat_eq m x) 1 0) (n ∷ []) (opened_from (n + 1) roots own) in
      let differs : ◌≡◌ {A = ℕ} (cond (nat_eq m n) 1 0) 0 = ap (λ b. cond b 1 0) (ne_eqb m n (λ same. absurd (omega (arith, lt, same)))) in
      omega (arith, parts, differs, rest)
  by false rest = rest

counted_at : (n : ℕ) (roots : List ℕ) (i place : ℕ) (own : List ℕ) → get_elem? roots i ≡ some place → count_by (nat_eq (n + i)) (opened_from n roots own) ≡ cond (ltb 0 (times place own)) 1 0
counted_at n [] i place own at = absurd (some-ne-none place (sym at))
counted_at n (x ∷ roots) zero place own at = by (ltb 0 (times x own)) (opened_above (n + 0) (n + 1) roots own (omega arith)) ∙ ap (λ p. cond (ltb 0 (times p own)) 1 0) (some-injective x place at) where
  by : (b : Bool) → count_by (nat_eq (n + 0)) (opened_from (n + 1) roots own) ≡ 0 → count_by (nat_eq (n + 0)) (cond b (n ∷ []) [] ++ opened_from (n + 1) roots own) ≡ cond b 1 0
  by true rest =
      let parts = sum_by-append (λ x. cond (nat_eq (n + 0) x) 1 0) (n ∷ []) (opened_from (n + 1) roots own) in
      let same : ◌≡◌ {A = ℕ} (cond (nat_eq (n + 0) n) 1 0) 1 = ap (λ b. cond b 1 0) (eq-eqb (n + 0) n (omega arith)) in
      omega (arith, parts, same, rest)
  by false rest = rest
counted_at n (x ∷ roots) (suc i) place own at =
    let number : n + suc i ≡ (n + 1) + i = omega arith in
    by (ltb 0 (times x own)) (ap (λ m. count_by (nat_eq m) (opened_from (n + 1) roots own)) number ∙ counted_at (n + 1) roots i place own at) where
      by : (b : Bool) → count_by (nat_eq (n + suc i)) (opened_from (n + 1) roots own) ≡ cond (ltb 0 (times place own)) 1 0 → count_by (nat_eq (n + suc i)) (cond b (n ∷ []) [] ++ opened_from (n + 1) roots own) ≡ cond (ltb 0 (times place own)) 1 0
      by true rest =
          let parts = sum_by-append (λ x. cond (nat_eq (n + suc i) x) 1 0) (n ∷ []) (opened_from (n + 1) roots own) in
          let differs : ◌≡◌ {A = ℕ} (cond (nat_eq (n + suc i) n) 1 0) 0 = ap (λ b. cond b 1 0) (ne_eqb (n + suc i) n (λ same. absurd (omega (arith, same)))) in
          omega (arith, parts, differs, rest)
      by false rest = rest

once : (low : ℕ) (own : List ℕ) (place : ℕ) → RisesFrom low own → times place own ≡ cond (ltb 0 (times place own)) 1 0
once low [] place rises = refl
once low (x ∷ own) place rises = elim (ℕ_discrete place x) [
  | yes d ↦ (
      let none : times place own ≡ 0 = elim (dec_lt 0 (times place own)) [ yes more ↦ (let le = rises_above (x + 1) own rises.1 place more in absurd (omega (arith, le, d))) | no more ↦ omega (arith, more) ] in
      let one = subst (λ y. one_if place y ≡ 1) d (one_if-same place) in
      let all : times place (x ∷ own) ≡ 1 = omega (arith, none, one) in
      all ∙ ap (λ t. cond (ltb 0 t) 1 0) (sym all)
      )
  | no d ↦ (
      let none = one_if-other place x d in
      let all : times place (x ∷ own) ≡ times place own = omega (arith, none) in
      all ∙ once (x + 1) own place rises.1 ∙ ap (λ t. cond (ltb 0 t) 1 0) (sym all)
      )
]

-- that of a session as often as the place where it was opened is among the own ones
pub opened_count : (h : List Entry) (own : List ℕ) (n place : ℕ) → RisesFrom 0 own → 0 < n → HasRoot h n place → count_by (nat_eq n) (opened_in h own) ≡ times place own
opened_count h own n place rises positive root =
    let number : n ≡ 1 + (n - 1) = omega (arith, positive) in
    ap (λ m. count_by (nat_eq m) (opened_in h own)) number ∙ counted_at 1 (roots_from 0 h) (n - 1) place own root ∙ sym (once 0 own place rises)

-- and 0 is that of none
pub zero_unopened : (h : List Entry) (own : List ℕ) → count_by (nat_eq 0) (opened_in h own) ≡ 0
zero_unopened h own = opened_above 0 1 (roots_from 0 h) own (omega arith)
