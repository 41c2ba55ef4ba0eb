-- Which later commit meets a transaction's writes.
use Rattle.std.proofs.Common.{◌≡◌, ℕ, Bool, true, false, List, [], ◌∷◌, ◌++◌, ◌∙◌, length, refl, sym, ap, arith, Some, None, Option}
use Rattle.std.specs.Prelude.{find, option_map, cond, ◌==◌}
use Rattle.std.specs.Option.{option_or}
use Rattle.std.specs.List.{list_any}
use Rattle.std.proofs.lemmas.Bool.{false≢true}
use Rattle.std.proofs.lemmas.Bool.Decides.{nat_tests}
use Rattle.std.proofs.lemmas.List.Folds.{list_any-append}
use Rattle.ifdb_label.specs.Tags.{MadeTag}
use Rattle.ifdb_row.specs.declared.slot.Slot.{Slot}
use Rattle.ifdb_row.specs.declared.write.Write.{Write}
use Rattle.ifdb_row.specs.declared.commit.Commit.{Commit}
use Rattle.ifdb_row.specs.Writes.{slots_of, is_written}
use Rattle.ifdb_row.specs.Slots.{is_same_slot}
use Rattle.ifdb_row.specs.Verdict.{meets, written_by, last_stamp, later_of}
use Rattle.ifdb_row.proofs.SlotOrder.{slot_same, slot_itself}
use Rattle.ifdb_store.specs.Kept.{is_later, trimmed}
use Rattle.ifdb_commit.specs.declared.later.LaterWrite.{LaterWrite}
use Rattle.ifdb_commit.specs.Meeting.{Met, named, NamesConflict, first_met, met_in, last_met}

-- ---- the last commit with a slot that passes

-- where no written slot passes, one that does wasn't written
unwritten : (q : Slot → Bool) (s : Slot) (ws : List Write) → list_any q (slots_of ws) ≡ false → q s ≡ true → is_written ws s ≡ false
unwritten q s [] h k = refl
unwritten q s (w ∷ ws) h k = by (is_same_slot w.slot s) refl (unwritten q s ws) where
  by : (b : Bool) → is_same_slot w.slot s ≡ b → (list_any q (slots_of ws) ≡ false → q s ≡ true → is_written ws s ≡ false) → is_written (w ∷ ws) s ≡ false
  by true e more = let same : q w.slot ≡ q s = ap q (slot_same w.slot s e) in absurd (false≢true (grind (arith, nat_tests)))
  by false e more = grind (arith, nat_tests, more)

pub never : (q : Slot → Bool) (s : Slot) (cs : List Commit) → list_any q (written_by cs) ≡ false → q s ≡ true → last_stamp cs s ≡ None
never q s [] h k = refl
never q s (c ∷ cs) h k =
    let split = list_any-append q (slots_of c.writes) (written_by cs) in
    let here = unwritten q s c.writes (grind (arith, nat_tests, split)) k in
    let more = never q s cs (grind (arith, nat_tests, split)) k in
    ap (λ b. later_of (cond b (Some c.stamp) None) (last_stamp cs s)) here ∙ ap (later_of None) more

-- a first write that passes, and its slot
passing : (q : Slot → Bool) (ws : List Write) (w : Write) → find (λ (v : Write). q v.slot) ws ≡ Some w → (q w.slot ≡ true) × (is_written ws w.slot ≡ true)
passing q [] w e = cc
passing q (v ∷ ws) w e = by (q v.slot) refl (passing q ws w) where
  by : (b : Bool) → q v.slot ≡ b → (find (λ (u : Write). q u.slot) ws ≡ Some w → (q w.slot ≡ true) × (is_written ws w.slot ≡ true)) → (q w.slot ≡ true) × (is_written (v ∷ ws) w.slot ≡ true)
  by true k more =
      let same : v ≡ w = grind (arith, nat_tests) in
      let itself = slot_itself w.slot in
      let there : is_same_slot v.slot w.slot ≡ true = ap (λ (u : Write). is_same_slot u.slot w.slot) same ∙ itself in
      (ap (λ (u : Write). q u.slot) (sym same) ∙ k, grind (arith, nat_tests))
  by false k more = let m = more (grind (arith, nat_tests)) in (m.0, grind (arith, nat_tests, m.1))

none_passes : (q : Slot → Bool) (ws : List Write) → find (λ (v : Write). q v.slot) ws ≡ None → list_any q (slots_of ws) ≡ false
none_passes q [] e = refl
none_passes q (v ∷ ws) e = grind (arith, nat_tests, none_passes q ws)

-- ---- what is named

option_assoc : {X : Type 0} (a b c : Option X) → option_or (option_or a b) c ≡ option_or a (option_or b c)
option_assoc None b c = refl
option_assoc (Some x) b c = refl

or_none : {X : Type 0} (a : Option X) → a ≡ option_or a None
or_none None = refl
or_none (Some x) = refl

pub named_or : (a b : Option LaterWrite) → named (option_or a b) ≡ option_or (named a) (named b)
named_or None b = refl
named_or (Some x) b = refl

none_any : {X : Type 0} (p : X → Bool) (xs : List X) → ((x : X) → p x ≡ false) → list_any p xs ≡ false
none_any p [] h = refl
none_any p (x ∷ xs) h = grind (arith, nat_tests, h x, none_any p xs h)

pub empty_list : {X : Type 0} (xs : List X) → (length xs == 0) ≡ true → xs ≡ []
empty_list [] e = refl
empty_list (x ∷ xs) e = absurd (grind (arith, nat_tests))

-- nothing meets no writes
pub none_meets : (tags : List MadeTag) (later : List Commit) → NamesConflict tags later [] None
none_meets tags later = none_any (meets tags []) (written_by later) (λ s. refl)

module _ (tags : List MadeTag) (own : List Write) (begin : ℕ) where
  pub last_met_more : (cs : List Commit) (c : Commit) → last_met tags own begin (cs ++ c ∷ []) ≡ option_or (met_in tags own begin c) (last_met tags own begin cs)
  last_met_more [] c = or_none (met_in tags own begin c)
  last_met_more (x ∷ cs) c = ap (λ o. option_or o (met_in tags own begin x)) (last_met_more cs c) ∙ option_assoc (met_in tags own begin c) (last_met tags own begin cs) (met_in tags own begin x)

  abbrev Names : List Commit → Option Met → Type 0
  Names cs m = NamesConflict tags cs own m

  abbrev met_by : Commit → Option Met
  met_by c = option_map (λ (w : Write). record { slot = w.slot; stamp = c.stamp }) (first_met tags own c.writes)

  -- a commit more at the front
  later_stays : (c : Commit) (later : List Commit) (m : Met) → Names later (Some m) → Names (c ∷ later) (Some m)
  later_stays c later m h = record {
    last = ap (later_of (cond (is_written c.writes m.slot) (Some c.stamp) None)) h.last;
    met = h.met;
  }

  first_names : (c : Commit) (later : List Commit) (o : Option Write) → first_met tags own c.writes ≡ o → Names later None
      → Names (c ∷ later) (option_map (λ (w : Write). record { slot = w.slot; stamp = c.stamp }) o)
  first_names c later None e h =
      let here = none_passes (meets tags own) c.writes e in
      list_any-append (meets tags own) (slots_of c.writes) (written_by later) ∙ grind (arith, nat_tests)
  first_names c later (Some w) e h =
      let it = passing (meets tags own) c.writes w e in
      let none = never (meets tags own) w.slot later h it.0 in
      record {
        last = ap (λ b. later_of (cond b (Some c.stamp) None) (last_stamp later w.slot)) it.1 ∙ ap (later_of (Some c.stamp)) none;
        met = it.0;
      }

  names_more : (c : Commit) (later : List Commit) (o : Option Met) → Names later o → Names (c ∷ later) (option_or o (met_by c))
  names_more c later None h = first_names c later (first_met tags own c.writes) refl h
  names_more c later (Some m) h = later_stays c later m h

  names_as_before : (later : List Commit) (o : Option Met) → Names later o → Names later (option_or o None)
  names_as_before later None h = h
  names_as_before later (Some m) h = h

  pub last_is_named : (cs : List Commit) → Names (trimmed begin cs) (last_met tags own begin cs)
  last_is_named [] = refl
  last_is_named (c ∷ cs) = by (is_later begin c) (last_is_named cs) where
    by : (b : Bool) → Names (trimmed begin cs) (last_met tags own begin cs)
        → Names (cond b (c ∷ trimmed begin cs) (trimmed begin cs)) (option_or (last_met tags own begin cs) (cond b (met_by c) None))
    by true h = names_more c (trimmed begin cs) (last_met tags own begin cs) h
    by false h = names_as_before (trimmed begin cs) (last_met tags own begin cs) h
