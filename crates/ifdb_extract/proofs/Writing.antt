-- Records that are put behind others, and what a disk holds at the end.
use Rattle.std.proofs.Common.{◌≡◌, ℕ, zero, suc, ◌+◌, ◌≤◌, Bool, true, false, cond, List, [], ◌∷◌, ◌++◌, ◌∙◌, length, refl, sym, ap, subst, arith, append_assoc, append-nil}
use Rattle.std.specs.Prelude.{◌==◌, Option, Some, None, Result, Ok, Err, OnOk}
use Rattle.std.specs.List.{flat_map}
use Rattle.std.proofs.lemmas.Bool.Decides.{nat_tests}
use Rattle.std.proofs.lemmas.Grind.{flat_map-append}
use Rattle.ifdb_disk.specs.Images.{IsImage, settled, synced, written}
use Rattle.ifdb_disk.specs.Clock.{Clock, Leaves, Now, Stored, Torn, goes}
use Rattle.ifdb_disk.proofs.Moments.{leaves_on, leaves_weaker, since_here}
use Rattle.ifdb_journal.specs.declared.record.Record.{Record}
use Rattle.ifdb_journal.specs.Kinds.{is_fine}
use Rattle.ifdb_journal.specs.Records.{IsFront, break, bytes_of, is_whole, record_at, scan, size_at}
use Rattle.ifdb_journal.specs.Reading.{Adds, HasAllOrNone, HeldImages, Holds, IsOldOrShort, IsReady, MayAdd, Place, ReadTo}
use Rattle.ifdb_log.specs.Pieces.{TextsAreReadAgain, piece, pieces, texts_of}
use Rattle.ifdb_log.specs.Reading.{HoldsTexts}
use Rattle.ifdb_extract.specs.Texts.{Extracted}
use Rattle.ifdb_extract.specs.Extracts.{HoldsExtract}
use Rattle.ifdb_extract.specs.Walks.{PutsRows}
use Rattle.ifdb_extract.specs.Writing.{Finishes, GoesOn, IsWritten, Keeps, Puts, Writing}

-- of an answer that is there two facts are known
pub on_both : {A E : Type 0} {P Q R : Type 0} (r : Result A E) → OnOk r P → OnOk r Q → (P → Q → R) → OnOk r R
on_both (Ok x) p q so = so p q
on_both (Err e) p q so = tt

-- ---- one record more

pub put_one : (t : Option Clock) (w v : Writing) (r : Record) → v.at ≡ w.at → v.waiting ≡ w.waiting ++ r ∷ [] → Puts (r ∷ []) t w t v
put_one t w v r at waiting = λ rs is.
    (is.0, subst (Holds t is.0) (sym at) is.1, ap (λ l. l ++ r ∷ []) is.2 ∙ append_assoc is.0 w.waiting (r ∷ []) ∙ sym (ap (λ l. is.0 ++ l) waiting))

-- nothing was appended
pub keeps_here : (t : Option Clock) (w : Writing) → Keeps t w t w
keeps_here t w = λ rs is. is

-- there is room for a piece where none waits
pub room_at_first : (waiting : List Record) (size session room : ℕ) → waiting ≡ [] → room ≡ 1048576 → is_fine 2 session size ≡ true → bytes_of waiting + (14 + size) ≤ room
room_at_first waiting size session room none is fine =
    let short : size ≤ 65535 = grind (arith, nat_tests, fine) in
    omega (arith, ap bytes_of none, is, short)

-- an append of what waits
pub flushed : (t u : Option Clock) (w v : Writing) → Adds w.waiting t w.at u v.at → v.waiting ≡ [] → Keeps t w u v
flushed t u w v adds none = λ rs is.
    (is.0 ++ w.waiting, adds is.0 is.1, is.2 ∙ sym (append-nil (is.0 ++ w.waiting)) ∙ sym (ap (λ l. (is.0 ++ w.waiting) ++ l) none))

pub ready_again : (batch : List Record) (t u : Option Clock) (at next : ℕ) → Adds batch t at u next → IsReady t at → IsReady u next
ready_again batch t u at next adds ready = (ready.0 ++ batch, adds ready.0 ready.1)

pub keeps_puts : (more : List Record) (t u v : Option Clock) (w x y : Writing) → Keeps t w u x → Puts more u x v y → Puts more t w v y
keeps_puts more t u v w x y keeps puts = λ rs is. puts rs (keeps rs is)

-- one part and then another
pub puts_both : (some more : List Record) (t u v : Option Clock) (w x y : Writing) → Puts some t w u x → Puts more u x v y → Puts (some ++ more) t w v y
puts_both some more t u v w x y first second = λ rs is.
    subst (IsWritten v y) (append_assoc rs some more) (second (rs ++ some) (first rs is))

pub puts_none : (t : Option Clock) (w : Writing) → Puts [] t w t w
puts_none t w = λ rs is. subst (IsWritten t w) (sym (append-nil rs)) is

pub finishes : (t u : Option Clock) (w v : Writing) → Keeps t w u v → v.waiting ≡ [] → Finishes t w u
finishes t u w v keeps none = λ rs is.
    let held = keeps rs is in
    let same : held.0 ≡ rs = sym (append-nil held.0) ∙ sym (ap (λ l. held.0 ++ l) none) ∙ sym held.2 in
    (v.at, subst (λ l. Holds u l v.at) same held.1)

-- ---- the beginning

-- a front without records has no bytes
no_front : (front : List ℕ) → IsFront front [] → front ≡ []
no_front [] is = refl
no_front (zero ∷ front) is = absurd (shut (is.records 1 whole)) where
  -- a gate, an Open, and a gate
  whole : List ℕ
  whole = 1 ∷ 0 ∷ 0 ∷ 0 ∷ 0 ∷ 0 ∷ 0 ∷ 0 ∷ 0 ∷ 0 ∷ 0 ∷ 0 ∷ 0 ∷ 0 ∷ []

  shut : [] ≡ scan 0 (1 ∷ whole) → ⊥
  shut e = cc e
no_front (suc gate ∷ front) is = absurd (by (is_whole rest) found broken) where
  rest : List ℕ
  rest = front ++ 0 ∷ []

  is_open : (suc gate == 0) ≡ false
  is_open = grind (arith, nat_tests)

  found : cond (is_whole rest) (record_at rest ∷ scan (13 + size_at rest) rest) [] ≡ []
  found = sym (ap (λ (b : Bool). cond b [] (cond (is_whole rest) (record_at rest ∷ scan (13 + size_at rest) rest) [])) is_open) ∙ is.records 0 []

  broken : cond (is_whole rest) (break (13 + size_at rest) (0 + 1) rest) (Some 0) ≡ None
  broken = sym (ap (λ (b : Bool). cond b None (cond (is_whole rest) (break (13 + size_at rest) (0 + 1) rest) (Some 0))) is_open) ∙ is.breaks 0 0 []

  by : (b : Bool) → cond b (record_at rest ∷ scan (13 + size_at rest) rest) [] ≡ [] → cond b (break (13 + size_at rest) (0 + 1) rest) (Some 0) ≡ None → ⊥
  by true r k = cc r
  by false r k = cc k

-- a journal that was begun, once its first gate is closed
pub begun : (t u : Option Clock) (p : Place) → ReadTo t [] p → u ≡ goes synced (goes (written 0 (0 ∷ [])) t) → Holds u [] p.at
begun None u p read is = subst (λ o. Holds o [] p.at) (sym is) tt
begun (Some c) u p read is = subst (λ o. Holds o [] p.at) (sym is) (bytes, refl, record { front = []; tail = tail; split = split; size = size; is = none }) where
  bytes : List ℕ
  bytes = (written 0 (0 ∷ []) c.now).bytes

  tail : List ℕ
  tail = Rattle.std.proofs.Common.drop 1 c.now.bytes

  split : bytes ≡ 0 ∷ tail
  split = refl

  size : 0 ≡ p.at
  size = sym (ap length (no_front read.2.front read.2.is)) ∙ read.2.size

  none : IsFront [] []
  none = record { records = λ gate rest. refl; breaks = λ at gate rest. let place : at ≡ at + 0 = omega arith in ap (λ (k : ℕ). break 0 k (gate ∷ rest)) place }

pub begun_written : (t u : Option Clock) (p : Place) (w : Writing) → ReadTo t [] p → u ≡ goes synced (goes (written 0 (0 ∷ [])) t) → w.at ≡ p.at → w.waiting ≡ [] → IsWritten u w []
begun_written t u p w read is at none = ([], subst (Holds u []) (sym at) (begun t u p read is), sym none)

pub begun_ready : (t u : Option Clock) (p : Place) → ReadTo t [] p → u ≡ goes synced (goes (written 0 (0 ∷ [])) t) → IsReady u p.at
begun_ready t u p read is = ([], begun t u p read is)

-- ---- the end

pub texts_held : HeldImages → TextsAreReadAgain → (t : Option Clock) (texts : List (List ℕ)) (at : ℕ) → Now t (λ s. IsImage s s.bytes) → Holds t (flat_map pieces texts) at → HoldsTexts t texts at
texts_held images again None texts at present holds = record { holds = tt; whole = tt; are_texts = tt }
texts_held images again (Some c) texts at present holds =
    let rs = flat_map pieces texts in
    let reads = images rs (Some c) at holds c.now.bytes present in
    record {
      holds = subst (λ l. Holds (Some c) l at) (sym reads.has) holds;
      whole = record { has = refl; whole = reads.whole };
      are_texts = ap texts_of reads.has ∙ again [] [] texts refl;
    }

pub all_held : HeldImages → TextsAreReadAgain → (x : Extracted) (t u v end : Option Clock) (w y z : Writing) → Now end (λ s. IsImage s s.bytes) → IsWritten t w [] → Puts (flat_map pieces x.changes) t w u y → PutsRows x.rows u y v z
    → Finishes v z end → HoldsExtract end x
all_held images again x t u v end w y z present begun changes rows finish =
    let more = rows.0 in
    let done = finish (([] ++ flat_map pieces x.changes) ++ flat_map pieces more) (rows.2 ([] ++ flat_map pieces x.changes) (changes [] begun)) in
    let all : flat_map pieces x.changes ++ flat_map pieces more ≡ flat_map pieces (x.changes ++ more) = sym (flat_map-append pieces x.changes more) in
    record { more = more; at = done.0; rows = rows.1; holds = texts_held images again end (x.changes ++ more) done.0 present (subst (λ l. Holds end l done.0) all done.1) }

-- ---- what the disk shows goes on

pub later_here : (t : Option Clock) → GoesOn t t
later_here t = since_here t (λ s. (image : List ℕ) → IsImage s image → Rattle.std.specs.Prelude.⊤)

pub later_on : (t u v : Option Clock) → GoesOn t u → GoesOn u v → GoesOn t v
later_on t u v first second = leaves_on t u v (λ image. Rattle.std.specs.Prelude.⊤) first second

pub later_so : (t u : Option Clock) (P : List ℕ → Type 0) → Leaves t u P → GoesOn t u
later_so t u P leaves = leaves_weaker t u P (λ image. Rattle.std.specs.Prelude.⊤) (λ image is. tt) leaves

pub later_added : (batch : List Record) (t u : Option Clock) (at : ℕ) → MayAdd batch t at u → IsReady t at → GoesOn t u
later_added batch t u at may ready = later_so t u (HasAllOrNone ready.0 batch) (may ready.0 ready.1)

pub stored_of : (t : Option Clock) (p : Place) → ReadTo t [] p → (bytes : List ℕ) × Stored t bytes
stored_of None p read = ([], tt)
stored_of (Some c) p read = (read.0, read.1)

pub begun_later : (t u v : Option Clock) (p : Place) → Leaves t u (IsOldOrShort t) → ReadTo u [] p → ((old : List ℕ) → Stored u old → Leaves u v (Torn old 0 (length {A = ℕ} (0 ∷ [])))) → GoesOn t v
begun_later t u v p first read second =
    let stored = stored_of u p read in
    later_on t u v (later_so t u (IsOldOrShort t) first) (later_so u v (Torn stored.0 0 (length {A = ℕ} (0 ∷ []))) (second stored.0 stored.1))
