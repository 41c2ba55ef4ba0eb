-- The two writes of a batch: first what stands behind its first gate, and then the gate.
use Rattle.std.proofs.Common.{◌≡◌, ◌≢◌, inl, inr, ℕ, ◌+◌, ◌-◌, ◌<◌, ◌≤◌, List, [], ◌∷◌, ◌++◌, length, take, drop, get_or, sym, ap, subst, ◌∙◌, arith, append_assoc, length-append, length-drop, take-append-drop}
use Rattle.std.proofs.lemmas.List.{take_at, drop_at, take_all, drop_more, append-nil, length-take}
use Rattle.std.proofs.lemmas.Bool.{cases_eq}
use Rattle.std.specs.Prelude.{Option, Some, None}
use Rattle.ifdb_disk.specs.Images.{IsImage, overwritten, settled, written, synced}
use Rattle.ifdb_disk.specs.Clock.{Clock, Torn, goes, Now, Leaves, Stored}
use Rattle.ifdb_disk.proofs.Moments.{since_here, leaves_weaker, leaves_on}
use Rattle.ifdb_journal.specs.Records.{IsFront, ReadsAs, Spells, bytes_of}
use Rattle.ifdb_journal.specs.declared.record.Record.{Record}
use Rattle.ifdb_journal.specs.Reading.{IsEnd, Holds, HasAllOrNone}
use Rattle.ifdb_journal.proofs.Scan.{front_both, front_gate, front_opens, front_short, reads_closed}

-- what was there up to and with the closed gate stands in each outcome of the first write
pub torn_behind : (b : List ℕ) (es : List Record) (at n : ℕ) (c : List ℕ) → IsEnd b es at → Torn b (at + 1) n c → ReadsAs es c
torn_behind b es at n c end torn =
    let front = end.front in
    let gated : b ≡ (front ++ 0 ∷ []) ++ end.tail = end.split ∙ sym (append_assoc front (0 ∷ []) end.tail) in
    let size : length (front ++ 0 ∷ []) ≡ at + 1 = omega (arith, length-append front (0 ∷ []), end.size) in
    let head : take (at + 1) c ≡ front ++ 0 ∷ [] = torn.before ∙ ap (take (at + 1)) gated ∙ take_at (front ++ 0 ∷ []) end.tail (at + 1) size in
    let whole : c ≡ front ++ 0 ∷ drop (at + 1) c = sym (take-append-drop (at + 1) c) ∙ ap (λ (l : List ℕ). l ++ drop (at + 1) c) head ∙ append_assoc front (0 ∷ []) (drop (at + 1) c) in
    subst (ReadsAs es) (sym whole) (reads_closed front es (drop (at + 1) c) end.is)

-- the disk after the first write: the batch stands whole behind the closed gate, and its own closed gate behind it
pub record Staged (front text b : List ℕ) : Type 0 where
  pub tail : List ℕ
  pub split : b ≡ front ++ 0 ∷ (text ++ 0 ∷ tail)

pub staged : (b : List ℕ) (es : List Record) (at : ℕ) (text : List ℕ) (end : IsEnd b es at) → Staged end.front text (overwritten b (at + 1) (text ++ 0 ∷ []))
staged b es at text end =
    let front = end.front in
    let put = text ++ 0 ∷ [] in
    let after = drop (at + 1 + length put) b in
    let gated : b ≡ (front ++ 0 ∷ []) ++ end.tail = end.split ∙ sym (append_assoc front (0 ∷ []) end.tail) in
    let size : length (front ++ 0 ∷ []) ≡ at + 1 = omega (arith, length-append front (0 ∷ []), end.size) in
    let head : take (at + 1) b ≡ front ++ 0 ∷ [] = ap (take (at + 1)) gated ∙ take_at (front ++ 0 ∷ []) end.tail (at + 1) size in
    record {
      tail = after;
      split = ap (λ (l : List ℕ). l ++ (put ++ after)) head ∙ append_assoc front (0 ∷ []) (put ++ after) ∙ ap (λ (l : List ℕ). front ++ 0 ∷ l) (append_assoc text (0 ∷ []) after);
    }

module _ (front : List ℕ) (es : List Record) (at : ℕ) (text : List ℕ) (batch : List Record) (b : List ℕ) (size : length front ≡ at) (is : IsFront front es) (has : IsFront (1 ∷ text) batch) (staged : Staged front text b) where
  long : length b ≡ at + 1 + length (text ++ 0 ∷ staged.tail)
  long = omega (arith, ap length staged.split, length-append front (0 ∷ (text ++ 0 ∷ staged.tail)), size)

  head : take at b ≡ front
  head = ap (take at) staged.split ∙ take_at front (0 ∷ (text ++ 0 ∷ staged.tail)) at size

  behind : drop (at + 1) b ≡ text ++ 0 ∷ staged.tail
  behind =
      let same : length (front ++ 0 ∷ []) ≡ at + 1 = omega (arith, length-append front (0 ∷ []), size) in
      ap (drop (at + 1)) (staged.split ∙ sym (append_assoc front (0 ∷ []) (text ++ 0 ∷ staged.tail))) ∙ drop_at (front ++ 0 ∷ []) (text ++ 0 ∷ staged.tail) (at + 1) same

  opened_by : (gate : ℕ) → gate ≢ 0 → IsFront (front ++ gate ∷ text) (es ++ batch)
  opened_by gate nonzero =
      let some : 1 ≢ 0 = omega arith in
      front_both front (gate ∷ text) es batch is (front_gate 1 gate text batch some nonzero has)

  with_gate : (gate : ℕ) → HasAllOrNone es batch (front ++ gate ∷ (text ++ 0 ∷ staged.tail))
  with_gate gate = elim (cases_eq gate 0) [
    | inl shut ↦ inl (subst (λ g. ReadsAs es (front ++ g ∷ (text ++ 0 ∷ staged.tail))) (sym shut) (reads_closed front es (text ++ 0 ∷ staged.tail) is))
    | inr nonzero ↦ inr (subst (ReadsAs (es ++ batch)) (append_assoc front (gate ∷ text) (0 ∷ staged.tail)) (reads_closed (front ++ gate ∷ text) (es ++ batch) staged.tail (opened_by gate nonzero)))
  ]

  -- the batch stands whole in each outcome of the second write, and counts or doesn't
  pub torn_gate : (c : List ℕ) → Torn b at 1 c → HasAllOrNone es batch c
  torn_gate c torn =
      let gate = get_or c at 0 in
      let rest : drop at c ≡ gate ∷ (text ++ 0 ∷ staged.tail) = drop_more c at 0 (omega (arith, torn.no_shorter, long)) ∙ ap (λ (l : List ℕ). gate ∷ l) (torn.after ∙ behind) in
      let whole : c ≡ front ++ gate ∷ (text ++ 0 ∷ staged.tail) = sym (take-append-drop at c) ∙ ap (λ (l : List ℕ). l ++ drop at c) (torn.before ∙ head) ∙ ap (λ (l : List ℕ). front ++ l) rest in
      subst (HasAllOrNone es batch) (sym whole) (with_gate gate)

  pub opened : IsEnd (overwritten b at (1 ∷ [])) (es ++ batch) (at + (1 + length text))
  opened =
      let some : 1 ≢ 0 = omega arith in
      record {
        front = front ++ 1 ∷ text;
        tail = staged.tail;
        split = (λ i. head i ++ (1 ∷ behind i)) ∙ sym (append_assoc front (1 ∷ text) (0 ∷ staged.tail));
        size = omega (arith, length-append front (1 ∷ text), size);
        is = opened_by 1 some;
      }

-- ---- where the disk tells

-- the disk after a write and a sync
abbrev pub stored_at : ℕ → List ℕ → Option Clock → Option Clock
stored_at at bytes t = goes synced (goes (written at bytes) t)

pub place_within : (t : Option Clock) (at : ℕ) → ((es : List Record) × Holds t es at) → Now t (λ s. at + 1 ≤ length s.bytes)
place_within None at held = tt
place_within (Some c) at held =
    let end = held.1.2 in
    let long : length held.1.0 ≡ length end.front + (1 + length end.tail) = omega (arith, ap length end.split, length-append end.front (0 ∷ end.tail)) in
    subst (λ s. at + 1 ≤ length s.bytes) (sym held.1.1) (omega (arith, long, end.size))

pub place_within_next : (t : Option Clock) (at : ℕ) (text : List ℕ) → ((es : List Record) × Holds t es at) → Now (stored_at (at + 1) text t) (λ s. at ≤ length s.bytes)
place_within_next None at text held = tt
place_within_next (Some c) at text held =
    let end = held.1.2 in
    let b = held.1.0 in
    let long : length b ≡ length end.front + (1 + length end.tail) = omega (arith, ap length end.split, length-append end.front (0 ∷ end.tail)) in
    let size : at ≤ length (overwritten b (at + 1) text) = omega (arith, length-append (take (at + 1) b) (text ++ drop (at + 1 + length text) b), length-take (at + 1) b, long, end.size) in
    subst (λ s. at ≤ length (overwritten s.bytes (at + 1) text)) (sym held.1.1) size

module _ (batch : List Record) (text : List ℕ) (has : IsFront (1 ∷ text) batch) where
  pub first_leaves : (t u : Option Clock) (es : List Record) (at n : ℕ) → Holds t es at → ((old : List ℕ) → Stored t old → Leaves t u (Torn old (at + 1) n)) → Leaves t u (HasAllOrNone es batch)
  first_leaves None u es at n held moments = tt
  first_leaves (Some c) u es at n held moments =
      leaves_weaker (Some c) u (Torn held.0 (at + 1) n) (HasAllOrNone es batch) (λ image torn. inl (torn_behind held.0 es at n image held.2 torn)) (moments held.0 held.1)

  pub second_leaves : (t u : Option Clock) (es : List Record) (at : ℕ) → Holds t es at
      → ((old : List ℕ) → Stored (stored_at (at + 1) (text ++ 0 ∷ []) t) old → Leaves (stored_at (at + 1) (text ++ 0 ∷ []) t) u (Torn old at 1))
      → Leaves (stored_at (at + 1) (text ++ 0 ∷ []) t) u (HasAllOrNone es batch)
  second_leaves None u es at held moments = tt
  second_leaves (Some c) u es at held moments =
      let put = text ++ 0 ∷ [] in
      let b = held.0 in
      let after = overwritten b (at + 1) put in
      let stored : Stored (stored_at (at + 1) put (Some c)) after = ap (λ s. settled (overwritten s.bytes (at + 1) put)) held.1 in
      leaves_weaker (stored_at (at + 1) put (Some c)) u (Torn after at 1) (HasAllOrNone es batch)
      (λ image torn. torn_gate held.2.front es at text batch after held.2.size held.2.is has (staged b es at text held.2) image torn) (moments after stored)

  pub holds_more : (t : Option Clock) (es : List Record) (at : ℕ) → Holds t es at
      → Holds (stored_at at (1 ∷ []) (stored_at (at + 1) (text ++ 0 ∷ []) t)) (es ++ batch) (at + (1 + length text))
  holds_more None es at held = tt
  holds_more (Some c) es at held =
      let put = text ++ 0 ∷ [] in
      let b = held.0 in
      let after = overwritten b (at + 1) put in (
        overwritten after at (1 ∷ []),
        ap (λ s. settled (overwritten (overwritten s.bytes (at + 1) put) at (1 ∷ []))) held.1,
        opened held.2.front es at text batch after held.2.size held.2.is has (staged b es at text held.2),
      )

  -- the disk after both writes, or after the first and some of the second
  pub both_leave : (t t1 u : Option Clock) (es : List Record) (at n : ℕ) → Holds t es at → t1 ≡ stored_at (at + 1) (text ++ 0 ∷ []) t
      → ((old : List ℕ) → Stored t old → Leaves t t1 (Torn old (at + 1) n)) → ((old : List ℕ) → Stored t1 old → Leaves t1 u (Torn old at 1)) → Leaves t u (HasAllOrNone es batch)
  both_leave t t1 u es at n held is first second =
      let behind = subst (λ v. ((old : List ℕ) → Stored v old → Leaves v u (Torn old at 1))) is second in
      let gate = subst (λ v. Leaves v u (HasAllOrNone es batch)) (sym is) (second_leaves t u es at held behind) in
      leaves_on t t1 u (HasAllOrNone es batch) (first_leaves t t1 es at n held first) gate

  pub holds_after : (t u : Option Clock) (es : List Record) (at next : ℕ) → Holds t es at
      → u ≡ stored_at at (1 ∷ []) (stored_at (at + 1) (text ++ 0 ∷ []) t) → at + (1 + length text) ≡ next → Holds u (es ++ batch) next
  holds_after t u es at next held is place =
      subst (λ n. Holds u (es ++ batch) n) place (subst (λ v. Holds v (es ++ batch) (at + (1 + length text))) (sym is) (holds_more t es at held))

-- ---- from the text of a batch

-- a text of records is an open gate, what stands behind it, and a closed gate
pub record Opened (text : List ℕ) (batch : List Record) : Type 0 where
  pub rest : List ℕ
  pub split : take (length text - 1) (drop 1 text) ≡ rest ++ 0 ∷ []
  pub size : length text ≡ 2 + length rest
  pub is : IsFront (1 ∷ rest) batch

pub opened_of : (text : List ℕ) (batch : List Record) → Spells text batch → 1 < length text → Opened text batch
opened_of text batch spells long = by_front spells.front spells.split spells.size spells.is
  where
    by_front : (front : List ℕ) → text ≡ front ++ 0 ∷ [] → length front ≡ bytes_of batch → IsFront front batch → Opened text batch
    by_front [] split size is = absurd (omega (arith, long, ap length split))
    by_front (gate ∷ rest) split size is = record {
      rest = rest;
      split = take_all (length text - 1) (drop 1 text) (omega (arith, length-drop 1 text)) ∙ ap (drop 1) split;
      size = omega (arith, ap length split, length-append rest (0 ∷ []));
      is = by_batch batch (omega (arith, size)) is;
    }
      where
        by_batch : (rs : List Record) → 1 + length rest ≡ bytes_of rs → IsFront (gate ∷ rest) rs → IsFront (1 ∷ rest) rs
        by_batch [] none has = absurd (omega (arith, none))
        by_batch (r ∷ rs) size has = let some : 1 ≢ 0 = omega arith in front_gate gate 1 rest (r ∷ rs) (front_opens gate rest r rs has) some has

-- a text of no records is a closed gate
pub none_of : (text : List ℕ) (batch : List Record) → Spells text batch → length text ≤ 1 → batch ≡ []
none_of text batch spells short =
    let none : length spells.front ≡ 0 = omega (arith, short, ap length spells.split, length-append spells.front (0 ∷ [])) in
    front_short spells.front batch spells.is none

pub none_holds : (t : Option Clock) (batch : List Record) (es : List Record) (at : ℕ) → batch ≡ [] → Holds t es at → Holds t (es ++ batch) at
none_holds t batch es at none held = subst (λ l. Holds t l at) (sym (ap (λ l. es ++ l) none ∙ append-nil es)) held

pub none_leaves : (t : Option Clock) (batch es : List Record) → Leaves t t (HasAllOrNone es batch)
none_leaves t batch es = since_here t (λ s. (image : List ℕ) → IsImage s image → HasAllOrNone es batch image)
