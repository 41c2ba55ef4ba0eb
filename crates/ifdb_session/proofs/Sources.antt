-- What replies were answered from, in longer and longer histories.
use Rattle.std.proofs.Common.{◌≡◌, ℕ, Bool, true, false, List, [], ◌∷◌, ◌++◌, ◌∙◌, length, refl, sym, ap, subst, arith, cond, inl, inr, All, Option, Some, None}
use Rattle.std.specs.Prelude.{◌==◌, IsSome}
use Rattle.std.proofs.lemmas.Bool.{cases_lt, false≢true}
use Rattle.std.proofs.lemmas.List.{append_assoc, append-nil, append_cancel_left, length-append}
use Rattle.std.proofs.lemmas.List.Elements.{All-append, All-cons, All-head, All-tail}
use mathlib.Core.List.{IsPrefix}
use Rattle.ifdb_turn.proofs.HistoryLemmas.{prefix_two}
use Rattle.ifdb_history.specs.declared.entry.Entry.{Entry}
use Rattle.ifdb_history.specs.declared.entry.Kind.{Kind}
use Rattle.ifdb_history.specs.declared.entry.Kind.TheVariants as kind
use Rattle.ifdb_history.specs.Lines.{work_lines, lines_at, lines_of}
use Rattle.ifdb_history.proofs.Flat.{lines-append}
use Rattle.ifdb_session.specs.declared.records.Records as recorder
use Rattle.ifdb_session.specs.declared.settles.Settles as settler
use Rattle.ifdb_session.specs.Records.{texts_of}
use Rattle.ifdb_session.specs.Acknowledged.{answers, sources_from, sources_of, IsSourced, AllKept, AllButLastKept, IsKeptIf, KnowsKept}
use Rattle.ifdb_model.specs.Log.{Entry as LogEntry}

abbrev Texts : Type 0
Texts = List (List ℕ)

all_middle : (P : Texts → Type 0) (xs : List Texts) (y : Texts) (zs : List Texts) → All P ((xs ++ y ∷ []) ++ zs) → P y
all_middle P [] y zs all = All-head P y zs all
all_middle P (x ∷ xs) y zs all = all_middle P xs y zs (All-tail P x ((xs ++ y ∷ []) ++ zs) all)

-- ---- turns that asked nothing of the session

first_none : (xs ys : List (List ℕ)) → xs ++ ys ≡ [] → xs ≡ []
first_none [] ys none = refl
first_none (x ∷ xs) ys none = cc

rest_none : (xs ys : List (List ℕ)) → xs ++ ys ≡ [] → ys ≡ []
rest_none [] ys none = none
rest_none (x ∷ xs) ys none = cc

unasked : (b : Bool) (lines : List (List ℕ)) (line : List ℕ) → cond b (lines ++ line ∷ []) [] ≡ [] → b ≡ false
unasked true lines line none = let last = rest_none lines (line ∷ []) none in cc
unasked false lines line none = refl

unanswered : (n : ℕ) (x : Kind) → lines_at n x ≡ [] → answers n x ≡ false
unanswered n kind.Opened none = refl
unanswered n (kind.Asked m work line) none = unasked (m == n) (work_lines work) line none
unanswered n (kind.Looked m line) none = unasked (m == n) [] line none
unanswered n (kind.Refused m line) none = unasked (m == n) [] line none
unanswered n (kind.Left m work) none = refl

-- Where the session asked no more, a turn that answers it stands in the shorter history.
pub answered_before : (n : ℕ) (h k : List Entry) → IsPrefix h k → lines_of n k ≡ lines_of n h → (before : List Entry) (e : Entry) → IsPrefix (before ++ e ∷ []) k → answers n e.kind ≡ true → IsPrefix (before ++ e ∷ []) h
answered_before n h k front same before e there so =
    let count = length-append before (e ∷ []) in
    elim (cases_lt (length before) (length h)) [
      | inl lt ↦ prefix_two (before ++ e ∷ []) h k there front (omega (arith, count, lt))
      | inr ge ↦ absurd (false≢true (sym (unanswered n e.kind (asked_none (prefix_two h before k front (e ∷ there.0, sym (append_assoc before (e ∷ []) there.0) ∙ there.1) ge))) ∙ so))
    ]
  where
    asked_none : IsPrefix h before → lines_at n e.kind ≡ []
    asked_none p =
        let parts : lines_of n k ≡ lines_of n h ++ (lines_of n p.0 ++ (lines_at n e.kind ++ lines_of n there.0)) =
        ap (lines_of n) (sym there.1) ∙ lines-append n (before ++ e ∷ []) there.0 ∙ ap (λ l. l ++ lines_of n there.0) (lines-append n before (e ∷ []))
        ∙ ap (λ l. (lines_of n l ++ (lines_at n e.kind ++ [])) ++ lines_of n there.0) (sym p.1) ∙ ap (λ l. (l ++ (lines_at n e.kind ++ [])) ++ lines_of n there.0) (lines-append n h p.0)
        ∙ ap (λ l. ((lines_of n h ++ lines_of n p.0) ++ l) ++ lines_of n there.0) (append-nil (lines_at n e.kind))
        ∙ append_assoc (lines_of n h ++ lines_of n p.0) (lines_at n e.kind) (lines_of n there.0) ∙ append_assoc (lines_of n h) (lines_of n p.0) (lines_at n e.kind ++ lines_of n there.0) in
        let none : lines_of n p.0 ++ (lines_at n e.kind ++ lines_of n there.0) ≡ [] =
        append_cancel_left (lines_of n h) (lines_of n p.0 ++ (lines_at n e.kind ++ lines_of n there.0)) [] (sym parts ∙ same ∙ sym (append-nil (lines_of n h))) in
        first_none (lines_at n e.kind) (lines_of n there.0) (rest_none (lines_of n p.0) (lines_at n e.kind ++ lines_of n there.0) none)

module _ (older : List LogEntry) where
  -- ---- a history goes on

  sources-append : (n : ℕ) (before h k : List Entry) → sources_from older n before (h ++ k) ≡ sources_from older n before h ++ sources_from older n (before ++ h) k
  sources-append n before [] k = ap (λ l. sources_from older n l k) (sym (append-nil before))
  sources-append n before (e ∷ h) k =
      ap (λ (l : List Texts). first ++ l) (sources-append n (before ++ e ∷ []) h k ∙ ap (λ l. sources_from older n (before ++ e ∷ []) h ++ sources_from older n l k) (append_assoc before (e ∷ []) h))
      ∙ sym (append_assoc first (sources_from older n (before ++ e ∷ []) h) (sources_from older n (before ++ e ∷ h) k))
    where
      first : List Texts
      first = cond (answers n e.kind) (texts_of older (before ++ e ∷ []) ∷ []) []

  -- by a turn that answers the session
  pub sources_more : (n : ℕ) (h : List Entry) (e : Entry) → answers n e.kind ≡ true → sources_of older n (h ++ e ∷ []) ≡ sources_of older n h ++ texts_of older (h ++ e ∷ []) ∷ []
  sources_more n h e so = sources-append n [] h (e ∷ []) ∙ ap (λ b. sources_of older n h ++ (cond b (texts_of older (h ++ e ∷ []) ∷ []) [] ++ [])) so

  -- by one that doesn't
  pub sources_still : (n : ℕ) (h : List Entry) (e : Entry) → answers n e.kind ≡ false → sources_of older n (h ++ e ∷ []) ≡ sources_of older n h
  sources_still n h e so = sources-append n [] h (e ∷ []) ∙ ap (λ b. sources_of older n h ++ (cond b (texts_of older (h ++ e ∷ []) ∷ []) [] ++ [])) so ∙ append-nil (sources_of older n h)

  -- ---- such turns answer it nothing

  pub none_of_none : (n : ℕ) (before h : List Entry) → lines_of n h ≡ [] → sources_from older n before h ≡ []
  none_of_none n before [] none = refl
  none_of_none n before (e ∷ h) none =
      let here = unanswered n e.kind (first_none (lines_at n e.kind) (lines_of n h) none) in
      ap (λ b. cond b (texts_of older (before ++ e ∷ []) ∷ []) [] ++ sources_from older n (before ++ e ∷ []) h) here
      ∙ none_of_none n (before ++ e ∷ []) h (rest_none (lines_at n e.kind) (lines_of n h) none)

  -- so a longer history in which the session asked no more
  pub sources_later : (n : ℕ) (h k : List Entry) → IsPrefix h k → lines_of n k ≡ lines_of n h → sources_of older n k ≡ sources_of older n h
  sources_later n h k front same =
      let none : lines_of n front.0 ≡ [] = append_cancel_left (lines_of n h) (lines_of n front.0) []
      (sym (lines-append n h front.0) ∙ ap (lines_of n) front.1 ∙ same ∙ sym (append-nil (lines_of n h))) in
      ap (sources_of older n) (sym front.1) ∙ sources-append n [] h front.0 ∙ ap (λ (l : List Texts). sources_of older n h ++ l) (none_of_none n h front.0 none) ∙ append-nil (sources_of older n h)

  -- what is so of all that a session was answered from is so of what a turn that answers it has seen
  pub source_among : (P : Texts → Type 0) (n : ℕ) (h before : List Entry) (e : Entry) → IsPrefix (before ++ e ∷ []) h → answers n e.kind ≡ true → All P (sources_of older n h) → P (texts_of older (before ++ e ∷ []))
  source_among P n h before e front so all =
      all_middle P (sources_of older n before) (texts_of older (before ++ e ∷ [])) (sources_from older n (before ++ e ∷ []) front.0)
      (subst (All P) (ap (sources_of older n) (sym front.1) ∙ sources-append n [] (before ++ e ∷ []) front.0 ∙ ap (λ (l : List Texts). l ++ sources_from older n (before ++ e ∷ []) front.0) (sources_more n before e so)) all)

-- ---- that is known to be kept

all_one_more : (P : Texts → Type 0) (xs : List Texts) (x : Texts) → All P xs → P x → All P (xs ++ x ∷ [])
all_one_more P xs x all one = All-append P xs (x ∷ []) all (All-cons P x [] one (λ k d lt. absurd (omega arith)))

all_goes : (P Q : Texts → Type 0) (xs : List Texts) → ((x : Texts) → P x → Q x) → All P xs → All Q xs
all_goes P Q xs goes all = λ k d lt. goes _ (all k d lt)

-- where nothing was asked, all is kept that replies were answered from
pub kept_none : {Q S : Type 0} (recorders : recorder.Ghosts Q) (settlers : settler.Ghosts S Q) (n : ℕ) (h : List Entry) (more : List (List ℕ)) (s : S) → lines_of n h ++ more ≡ []
    → AllKept recorders settlers n h s
kept_none recorders settlers n h more s none =
    subst (All (KnowsKept recorders settlers s)) (sym (none_of_none recorders.first n [] h (first_none (lines_of n h) more none))) (λ k d lt. absurd (omega (arith, lt)))

module _ {Q S : Type 0} (recorders : recorder.Ghosts Q) (settlers : settler.Ghosts S Q) (still : (s t : S) (n : ℕ) → settlers.goes_on s t → settlers.is_kept s n → settlers.is_kept t n) where
  pub kept_on : (n : ℕ) (h : List Entry) (s t : S) → settlers.goes_on s t → AllKept recorders settlers n h s → AllKept recorders settlers n h t
  kept_on n h s t goes all = all_goes (KnowsKept recorders settlers s) (KnowsKept recorders settlers t) (sources_of recorders.first n h) (λ x k. still s t (recorders.count_of x) goes k) all

  -- a line was answered, and what it was answered from is kept
  pub kept_more : (n : ℕ) (h k last : List Entry) (count : Option ℕ) (s t : S) → settlers.goes_on s t → IsSourced recorders.first recorders.count_of n h k count → sources_of recorders.first n last ≡ sources_of recorders.first n k
      → IsKeptIf recorders settlers t count → AllKept recorders settlers n h s → AllKept recorders settlers n last t
  kept_more n h k last None s t goes sourced same kept all =
      subst (All (KnowsKept recorders settlers t)) (sym (same ∙ sourced)) (kept_on n h s t goes all)
  kept_more n h k last (Some count) s t goes sourced same kept all =
      subst (All (KnowsKept recorders settlers t)) (sym (same ∙ sourced.0))
      (all_one_more (KnowsKept recorders settlers t) (sources_of recorders.first n h) (texts_of recorders.first k) (kept_on n h s t goes all) (subst (settlers.is_kept t) sourced.1 kept))

  -- it isn't known to be kept
  pub kept_but_last : (n : ℕ) (h k last : List Entry) (count : Option ℕ) (s t : S) → settlers.goes_on s t → IsSourced recorders.first recorders.count_of n h k count → sources_of recorders.first n last ≡ sources_of recorders.first n k
      → IsSome count → AllKept recorders settlers n h s → AllButLastKept recorders settlers n last t
  kept_but_last n h k last None s t goes sourced same some all = cc
  kept_but_last n h k last (Some count) s t goes sourced same some all = (sources_of recorders.first n h, texts_of recorders.first k, same ∙ sourced.0, kept_on n h s t goes all)
