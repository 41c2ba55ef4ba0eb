-- What becomes of the sessions of a room, where those that are over are forgotten.
use Rattle.std.proofs.Common.{◌≡◌, ◌≢◌, ℕ, zero, suc, ◌+◌, ◌-◌, ◌<◌, ◌≤◌, Bool, true, false, List, [], ◌∷◌, ◌++◌, ◌∙◌, length, refl, sym, ap, ap₂, subst, arith, cond, Option, Some, None, is_some}
use Rattle.std.specs.Prelude.{◌==◌, nat_eq, nat_lt, slice_index_or, slice_set, IfSome, IsOk, OnErr, Result, Ok, Err}
use Rattle.std.specs.Borrow.{Bor}
use Rattle.std.specs.Option.{option_copied, unwrap_or}
use Rattle.std.specs.declared.snapshot.Snapshot.{Snapshot}
use Rattle.std.proofs.lemmas.Bool.{false≢true}
use Rattle.std.proofs.lemmas.Bool.Decides.{nat_tests}
use Rattle.std.proofs.lemmas.List.{length-append, length-map, length-set, map-append, map-set, get_or-set_same, get_or-set_other}
use Rattle.ifdb_db.specs.Client.{Client}
use Rattle.ifdb_db.specs.Room.{no_client}
use Rattle.ifdb_db.specs.Sessions.{client_at, IsSessionOver, AreKept, clients_of, by_number, shown_by}

-- ---- by their place

length_of : (f : ℕ → Option Client) (over : List Client) → length (clients_of f over) ≡ length over
length_of f [] = refl
length_of f (was ∷ over) = ap (λ k. suc k) (length_of (λ k. f (suc k)) over)

pub as_many : (found : ℕ → Option Client) (over : List (Snapshot Client)) → length (by_number found (shown_by over)) ≡ length over
as_many found over = length_of (λ k. found (k + 1)) (shown_by over) ∙ length-map over (λ (x : Snapshot Client). x.value)

-- a client that was opened
at : (f : ℕ → Option Client) (k : ℕ) (over : List Client) → k < length over
    → slice_index_or (clients_of f over) k no_client ≡ unwrap_or (f k) (slice_index_or over k no_client)
at f k [] lt = absurd (omega (arith, lt))
at f zero (was ∷ over) lt = refl
at f (suc k) (was ∷ over) lt = at (λ j. f (suc j)) k over (omega (arith, lt))

-- and one that wasn't
beyond : (f : ℕ → Option Client) (k : ℕ) (over : List Client) → length over ≤ k → slice_index_or (clients_of f over) k no_client ≡ no_client
beyond f k [] le = refl
beyond f zero (was ∷ over) le = absurd (omega (arith, le))
beyond f (suc k) (was ∷ over) le = beyond (λ j. f (suc j)) k over (omega (arith, le))

same : (f g : ℕ → Option Client) (over : List Client) → ((k : ℕ) → g k ≡ f k) → clients_of g over ≡ clients_of f over
same f g [] e = refl
same f g (was ∷ over) e = ap₂ (λ o l. unwrap_or o was ∷ l) (e zero) (same (λ k. f (suc k)) (λ k. g (suc k)) over (λ k. e (suc k)))

-- one is put in its place
put : (f g : ℕ → Option Client) (k : ℕ) (over : List Client) (c : Client) → g k ≡ Some c → ((j : ℕ) → j ≢ k → g j ≡ f j) → k < length over
    → clients_of g over ≡ slice_set (clients_of f over) k c
put f g k [] c is others lt = absurd (omega (arith, lt))
put f g zero (was ∷ over) c is others lt =
    ap₂ (λ o l. unwrap_or o was ∷ l) is (same (λ j. f (suc j)) (λ j. g (suc j)) over (λ j. others (suc j) (λ e. omega (arith, e))))
put f g (suc k) (was ∷ over) c is others lt =
    ap₂ (λ o l. unwrap_or o was ∷ l) (others zero (λ e. omega (arith, e)))
    (put (λ j. f (suc j)) (λ j. g (suc j)) k over c is (λ j ne. others (suc j) (λ e. ne (omega (arith, e)))) (omega (arith, lt)))

-- one is over
forgot : (f g : ℕ → Option Client) (k : ℕ) (over : List Client) (c : Client) → g k ≡ None → ((j : ℕ) → j ≢ k → g j ≡ f j) → k < length over
    → clients_of g (slice_set over k c) ≡ slice_set (clients_of f over) k c
forgot f g k [] c is others lt = absurd (omega (arith, lt))
forgot f g zero (was ∷ over) c is others lt =
    ap₂ (λ o l. unwrap_or o c ∷ l) is (same (λ j. f (suc j)) (λ j. g (suc j)) over (λ j. others (suc j) (λ e. omega (arith, e))))
forgot f g (suc k) (was ∷ over) c is others lt =
    ap₂ (λ o l. unwrap_or o was ∷ l) (others zero (λ e. omega (arith, e)))
    (forgot (λ j. f (suc j)) (λ j. g (suc j)) k over c is (λ j ne. others (suc j) (λ e. ne (omega (arith, e)))) (omega (arith, lt)))

-- one more is opened
more : (f g : ℕ → Option Client) (over : List Client) (was c : Client) → g (length over) ≡ Some c → ((j : ℕ) → j ≢ length over → g j ≡ f j)
    → clients_of g (over ++ was ∷ []) ≡ clients_of f over ++ c ∷ []
more f g [] was c is others = ap (λ o. unwrap_or o was ∷ []) is
more f g (x ∷ over) was c is others =
    ap₂ (λ o l. unwrap_or o x ∷ l) (others zero (λ e. omega (arith, e)))
    (more (λ j. f (suc j)) (λ j. g (suc j)) over was c is (λ j ne. others (suc j) (λ e. ne (omega (arith, e)))))

beside : (over : List Client) (was : Client) (k : ℕ) → k ≢ length over → slice_index_or (over ++ was ∷ []) k no_client ≡ slice_index_or over k no_client
beside [] was zero ne = absurd (ne refl)
beside [] was (suc k) ne = refl
beside (x ∷ over) was zero ne = refl
beside (x ∷ over) was (suc k) ne = beside over was k (λ e. ne (ap (λ j. suc j) e))

-- ---- by their number

-- what a map's update leaves
pub apart : (n : ℕ) (f g : ℕ → Option Client) → ((q : ℕ) → nat_eq n q ≡ false → g q ≡ f q) → (q : ℕ) → q ≢ n → g q ≡ f q
apart n f g others q ne = by (nat_eq n q) refl where
  by : (b : Bool) → nat_eq n q ≡ b → g q ≡ f q
  by true e = let is : q ≡ n = grind (arith, nat_tests) in absurd (ne is)
  by false e = others q e

-- an insertion at a number that is there takes no memory
pub must_be_ok : {E : Type 0} (r : Result (Option Client) E) (x : Option Client) (c : Client) → OnErr r (x ≡ None) → x ≡ Some c → IsOk r
must_be_ok (Ok v) x c a e = refl
must_be_ok (Err v) x c a e = absurd (false≢true (sym (ap is_some a) ∙ ap is_some e))

-- what holds anyway holds at an error
pub on_err : {T E P : Type 0} (r : Result T E) → P → OnErr r P
on_err (Ok v) p = tt
on_err (Err e) p = p

pub set_shown : (over : List (Snapshot Client)) (k : ℕ) (x : Snapshot Client) (c : Client) → x.value ≡ c → shown_by (slice_set over k x) ≡ slice_set (shown_by over) k c
set_shown over k x c e = map-set (λ (y : Snapshot Client). y.value) over k x ∙ ap (slice_set (shown_by over) k) e

pub more_shown : (over now : List (Snapshot Client)) (x : Snapshot Client) → now ≡ over ++ x ∷ [] → shown_by now ≡ shown_by over ++ x.value ∷ []
more_shown over now x e = ap shown_by e ∙ map-append (λ (y : Snapshot Client). y.value) over (x ∷ [])

pub as_long : (over : List (Snapshot Client)) → length (shown_by over) ≡ length over
as_long over = length-map over (λ (x : Snapshot Client). x.value)

at_1 : (clients : List Client) (n : ℕ) → 0 < n → client_at clients n ≡ slice_index_or clients (n - 1) no_client
at_1 clients n lt = by (nat_lt 0 n) (grind (arith, nat_tests)) where
  by : (b : Bool) → b ≡ true → cond b (slice_index_or clients (n - 1) no_client) no_client ≡ slice_index_or clients (n - 1) no_client
  by true e = refl
  by false e = absurd (false≢true e)

no_client_over : IsSessionOver no_client
no_client_over = record { closed = refl; txn = refl }

-- what is known of a number where a client is found
pub record IsFound (found : ℕ → Option Client) (over : List Client) (n : ℕ) (c : Client) : Type 0 where
  pub is : found n ≡ Some c
  pub from_1 : 0 < n
  pub there : n - 1 < length over
  pub at : client_at (by_number found over) n ≡ c

module _ (found : ℕ → Option Client) (over : List Client) (kept : AreKept found over) where
  pub found_at : (n : ℕ) (c : Client) → found n ≡ Some c → IsFound found over n c
  found_at n c e = by (nat_lt 0 n) refl where
    by : (b : Bool) → nat_lt 0 n ≡ b → IsFound found over n c
    by true t =
        let lt : 0 < n = grind (arith, nat_tests) in
        let up : n - 1 + 1 ≡ n = omega (arith, lt) in
        let here : found (n - 1 + 1) ≡ Some c = ap found up ∙ e in
        let within : n - 1 < length over = subst (λ o. IfSome o (λ _. n - 1 < length over)) here (kept.opened (n - 1)) in
        record {
          is = e;
          from_1 = lt;
          there = within;
          at = at_1 (by_number found over) n lt ∙ at (λ k. found (k + 1)) (n - 1) over within ∙ ap (λ o. unwrap_or o (slice_index_or over (n - 1) no_client)) here;
        }
    by false t =
        let none : n ≡ 0 = grind (arith, nat_tests) in
        absurd (false≢true (sym (ap is_some (ap found none ∙ kept.from_1)) ∙ ap is_some e))

  pub not_found : (n : ℕ) → found n ≡ None → IsSessionOver (client_at (by_number found over) n)
  not_found n e = by (nat_lt 0 n) refl where
    by : (b : Bool) → nat_lt 0 n ≡ b → IsSessionOver (cond b (slice_index_or (by_number found over) (n - 1) no_client) no_client)
    by true t =
        let lt : 0 < n = grind (arith, nat_tests) in
        let up : n - 1 + 1 ≡ n = omega (arith, lt) in
        let here : found (n - 1 + 1) ≡ None = ap found up ∙ e in
        within (nat_lt (n - 1) (length over)) refl here where
          within : (b : Bool) → nat_lt (n - 1) (length over) ≡ b → found (n - 1 + 1) ≡ None → IsSessionOver (slice_index_or (by_number found over) (n - 1) no_client)
          within true l here =
              let there : n - 1 < length over = grind (arith, nat_tests) in
              subst IsSessionOver (sym (at (λ k. found (k + 1)) (n - 1) over there ∙ ap (λ o. unwrap_or o (slice_index_or over (n - 1) no_client)) here)) (kept.forgotten (n - 1) here)
          within false l here =
              let le : length over ≤ n - 1 = grind (arith, nat_tests) in
              subst IsSessionOver (sym (beyond (λ k. found (k + 1)) (n - 1) over le)) no_client_over
    by false t = no_client_over

  -- what a look-up gives
  pub looked_up : (n : ℕ) (r : Option (Bor Client)) → option_copied r ≡ found n
      → IfSome r (λ s. s.now ≡ client_at (by_number found over) n) × (r ≡ None → IsSessionOver (client_at (by_number found over) n))
  looked_up n None e = (tt, λ _. not_found n (sym e))
  looked_up n (Some s) e = (sym (found_at n s.now (sym e)).at, λ none. absurd (false≢true (sym (ap is_some none))))

  -- an open client is found
  pub open_found : (n : ℕ) → (client_at (by_number found over) n).is_open ≡ true → (c : Client) × IsFound found over n c
  open_found n o = by (found n) refl where
    by : (x : Option Client) → found n ≡ x → (c : Client) × IsFound found over n c
    by None e = absurd (false≢true (sym (not_found n e).closed ∙ o))
    by (Some c) e = (c, found_at n c e)

  module _ (found' : ℕ → Option Client) (n : ℕ) (others : (q : ℕ) → q ≢ n → found' q ≡ found q) (from_1 : 0 < n) where
    other_places : (j : ℕ) → j ≢ n - 1 → found' (j + 1) ≡ found (j + 1)
    other_places j ne = others (j + 1) (λ e. ne (omega (arith, e)))

    up : n - 1 + 1 ≡ n
    up = omega (arith, from_1)

    zero_same : found' 0 ≡ None
    zero_same = others 0 (λ e. omega (arith, e, from_1)) ∙ kept.from_1

    place_of : (k : ℕ) → (k + 1 == n) ≡ true → k + 1 ≡ n
    place_of k e = grind (arith, nat_tests)

    not_there : (k : ℕ) → (k + 1 == n) ≡ false → k + 1 ≢ n
    not_there k e = grind (arith, nat_tests)

    -- where one is put
    module _ (c : Client) (is : found' n ≡ Some c) (there : n - 1 < length over) where
      pub put_kept : AreKept found' over
      put_kept = record { from_1 = zero_same; opened = λ k. opened k (k + 1 == n) refl; forgotten = λ k e. forgotten k e (k + 1 == n) refl } where
        opened : (k : ℕ) (b : Bool) → (k + 1 == n) ≡ b → IfSome (found' (k + 1)) (λ _. k < length over)
        opened k true e =
            let at = place_of k e in
            subst (λ o. IfSome o (λ _. k < length over)) (sym (ap found' at ∙ is)) (let lt : k < length over = omega (arith, at, there) in lt)
        opened k false e = subst (λ o. IfSome o (λ _. k < length over)) (sym (others (k + 1) (not_there k e))) (kept.opened k)

        forgotten : (k : ℕ) → found' (k + 1) ≡ None → (b : Bool) → (k + 1 == n) ≡ b → IsSessionOver (slice_index_or over k no_client)
        forgotten k none true e = absurd (false≢true (sym (ap is_some none) ∙ ap is_some (ap found' (place_of k e) ∙ is)))
        forgotten k none false e = kept.forgotten k (sym (others (k + 1) (not_there k e)) ∙ none)

      pub put_same : by_number found' over ≡ slice_set (by_number found over) (n - 1) c
      put_same = put (λ k. found (k + 1)) (λ k. found' (k + 1)) (n - 1) over c (ap found' up ∙ is) other_places there

    -- where one is forgotten
    module _ (c : Client) (is : found' n ≡ None) (over_now : IsSessionOver c) (there : n - 1 < length over) where
      pub forgotten_kept : AreKept found' (slice_set over (n - 1) c)
      forgotten_kept = record { from_1 = zero_same; opened = λ k. opened k (k + 1 == n) refl; forgotten = λ k e. forgotten k e (k + 1 == n) refl } where
        as_long : length (slice_set over (n - 1) c) ≡ length over
        as_long = length-set over (n - 1) c

        opened : (k : ℕ) (b : Bool) → (k + 1 == n) ≡ b → IfSome (found' (k + 1)) (λ _. k < length (slice_set over (n - 1) c))
        opened k true e = subst (λ o. IfSome o (λ _. k < length (slice_set over (n - 1) c))) (sym (ap found' (place_of k e) ∙ is)) tt
        opened k false e =
            subst (λ o. IfSome o (λ _. k < length (slice_set over (n - 1) c))) (sym (others (k + 1) (not_there k e)))
            (subst (λ m. IfSome (found (k + 1)) (λ _. k < m)) (sym as_long) (kept.opened k))

        forgotten : (k : ℕ) → found' (k + 1) ≡ None → (b : Bool) → (k + 1 == n) ≡ b → IsSessionOver (slice_index_or (slice_set over (n - 1) c) k no_client)
        forgotten k none true e =
            let at : n - 1 ≡ k = let p = place_of k e in omega (arith, p) in
            subst (λ j. IsSessionOver (slice_index_or (slice_set over (n - 1) c) j no_client)) at (subst IsSessionOver (sym (get_or-set_same over (n - 1) c no_client there)) over_now)
        forgotten k none false e =
            let ne : k ≢ n - 1 = λ p. not_there k e (omega (arith, p, from_1)) in
            subst IsSessionOver (sym (get_or-set_other over (n - 1) k c no_client ne)) (kept.forgotten k (sym (others (k + 1) (not_there k e)) ∙ none))

      pub forgotten_same : by_number found' (slice_set over (n - 1) c) ≡ slice_set (by_number found over) (n - 1) c
      forgotten_same = forgot (λ k. found (k + 1)) (λ k. found' (k + 1)) (n - 1) over c (ap found' up ∙ is) other_places there

  -- where one more is opened
  module _ (found' : ℕ → Option Client) (was c : Client) (is : found' (length over + 1) ≡ Some c) (others : (q : ℕ) → q ≢ length over + 1 → found' q ≡ found q) where
    longer : length (over ++ was ∷ []) ≡ length over + 1
    longer = length-append over (was ∷ [])

    pub more_kept : AreKept found' (over ++ was ∷ [])
    more_kept = record {
      from_1 = others 0 (λ e. omega (arith, e)) ∙ kept.from_1;
      opened = λ k. opened k (k == length over) refl;
      forgotten = λ k e. forgotten k e (k == length over) refl;
    } where
      opened : (k : ℕ) (b : Bool) → (k == length over) ≡ b → IfSome (found' (k + 1)) (λ _. k < length (over ++ was ∷ []))
      opened k true e =
          let at : k ≡ length over = grind (arith, nat_tests) in
          let long = longer in
          let lt : k < length (over ++ was ∷ []) = omega (arith, at, long) in
          subst (λ o. IfSome o (λ _. k < length (over ++ was ∷ []))) (sym (ap (λ j. found' (j + 1)) at ∙ is)) lt
      opened k false e =
          let ne : k ≢ length over = grind (arith, nat_tests) in
          subst (λ o. IfSome o (λ _. k < length (over ++ was ∷ []))) (sym (others (k + 1) (λ p. ne (omega (arith, p))))) (weaker (found (k + 1)) (kept.opened k)) where
            weaker : (x : Option Client) → IfSome x (λ _. k < length over) → IfSome x (λ _. k < length (over ++ was ∷ []))
            weaker None h = tt
            weaker (Some x) h = let long = longer in omega (arith, h, long)

      forgotten : (k : ℕ) → found' (k + 1) ≡ None → (b : Bool) → (k == length over) ≡ b → IsSessionOver (slice_index_or (over ++ was ∷ []) k no_client)
      forgotten k none true e =
          let at : k ≡ length over = grind (arith, nat_tests) in
          absurd (false≢true (sym (ap is_some none) ∙ ap is_some (ap (λ j. found' (j + 1)) at ∙ is)))
      forgotten k none false e =
          let ne : k ≢ length over = grind (arith, nat_tests) in
          subst IsSessionOver (sym (beside over was k ne)) (kept.forgotten k (sym (others (k + 1) (λ p. ne (omega (arith, p)))) ∙ none))

    pub more_same : by_number found' (over ++ was ∷ []) ≡ by_number found over ++ c ∷ []
    more_same = more (λ k. found (k + 1)) (λ k. found' (k + 1)) over was c is (λ j ne. others (j + 1) (λ p. ne (omega (arith, p))))
