-- What a receipt is worth.
use Rattle.std.proofs.Common.{◌≡◌, ◌⊎◌, ℕ, ◌≤◌, Bool, true, false, List, [], ◌∷◌, ◌++◌, length, take, refl, sym, ap, subst, ◌∙◌, ⊎_elim, inl, inr, arith, append_assoc, append-nil}
use Rattle.std.specs.Prelude.{Option}
use Rattle.std.proofs.Math.Seq.{take-append_seam}
use Rattle.std.proofs.lemmas.List.{take-append-le}
use mathlib.Core.List.{IsPrefix}
use Rattle.atomic_table.specs.Seated.{TableId}
use Rattle.ifdb_disk.specs.Images.{IsImage}
use Rattle.ifdb_disk.specs.Clock.{Clock, Leaves}
use Rattle.ifdb_disk.proofs.Moments.{since_here, leaves_weaker, leaves_on}
use Rattle.ifdb_journal.specs.declared.record.Record.{Record}
use Rattle.ifdb_journal.specs.Records.{ReadsAs}
use Rattle.ifdb_journal.specs.Reading.{HasAllOrNone}
use Rattle.ifdb_turn.specs.Histories.{AllRight}
use Rattle.ifdb_turn.proofs.HistoryLemmas.{prefix_length}
use Rattle.ifdb_durable.specs.declared.view.Flush.{Flush}
use Rattle.ifdb_durable.specs.declared.view.Told.{Told}
use Rattle.ifdb_durable.specs.declared.writer.Writer.{Writer}
use Rattle.ifdb_durable.specs.Told.{Begins}
use Rattle.ifdb_durable.specs.Writing.{taken, told, kept, in_hand, disk_of}
use Rattle.ifdb_durable.specs.Appends.{IsLast, Follows, IsRight, Stands}
use Rattle.ifdb_durable.specs.Worth.{HasFront, AppendsKeep, IsWorth}
use Rattle.ifdb_durable.proofs.Begins.{prefix_on}
use Rattle.ifdb_durable.proofs.Appends.{last_kept}

front_at : (before xs all : List Record) (least : ℕ) (image : List ℕ) → IsPrefix xs all → least ≤ length xs → ReadsAs (before ++ xs) image → HasFront before all least image
front_at before xs all least image p le is =
    let same : take (length xs) all ≡ xs = subst (λ l. take (length xs) l ≡ xs) p.1 (take-append_seam xs p.0) in
    (length xs, le, prefix_length xs all p, subst (λ l. ReadsAs (before ++ l) image) (sym same) is)

-- a front of a list is one of a longer list
wider : (before xs all : List Record) (least : ℕ) (image : List ℕ) → IsPrefix xs all → HasFront before xs least image → HasFront before all least image
wider before xs all least image p has =
    let long = prefix_length xs all p in
    let le : has.0 ≤ length all = omega (arith, long, has.2) in
    let same : take has.0 xs ≡ take has.0 all = sym (take-append-le has.0 xs p.0 has.2) ∙ ap (take has.0) p.1 in
    (has.0, has.1, le, subst (λ l. ReadsAs (before ++ l) image) same has.3)

-- an image with all or none of a batch has a front of what came, with all that stood before it
of_batch : (before kept batch after all : List Record) (image : List ℕ) → kept ++ batch ≡ after → IsPrefix kept after → IsPrefix after all
    → HasAllOrNone (before ++ kept) batch image → HasFront before all (length kept) image
of_batch before kept batch after all image adds first more (inl without) =
    let le : length kept ≤ length kept = omega arith in
    front_at before kept all (length kept) image (prefix_on kept after all first more) le without
of_batch before kept batch after all image adds first more (inr with_it) =
    front_at before after all (length kept) image more (prefix_length kept after first) (subst (λ l. ReadsAs l image) (append_assoc before kept batch ∙ ap (λ l. before ++ l) adds) with_it)

-- a list ends in some element
abbrev Ends : {D : Type 0} → List (Flush D) → Type 0
Ends l = (g : List (Flush _)) × (e : Flush _) × (l ≡ g ++ e ∷ [])

ending : {D : Type 0} (l : List (Flush D)) → (l ≡ []) ⊎ Ends l
ending [] = inl refl
ending (x ∷ l) = inr (⊎_elim
    (λ (none_ : l ≡ []). ([], x, ap (λ z. x ∷ z) none_))
    (λ (ends : Ends l). (x ∷ ends.0, ends.1, ap (λ z. x ∷ z) ends.2)) (ending l))

module _ {D : Type 0} (tells : D → Option Clock) (before : List Record) where
  abbrev Right : List (Flush D) → Flush D → Type 0
  Right = IsRight tells before

  -- what a step leaves, said of a later list
  step_front : (d x : Flush D) (all : List Record) → Follows tells before d x → IsPrefix x.kept all
      → IsPrefix d.kept x.kept × Leaves (tells d.disk) (tells x.disk) (HasFront before all (length d.kept))
  step_front d x all f more =
      let adds : d.kept ++ f.batch ≡ x.kept = sym f.adds in
      let first : IsPrefix d.kept x.kept = (f.batch, adds) in (
        first,
        leaves_weaker (tells d.disk) (tells x.disk) (HasAllOrNone (before ++ d.kept) f.batch) (HasFront before all (length d.kept))
            (λ image has. of_batch before d.kept f.batch x.kept all image adds first more has) f.leaves,
      )

  law : (g h : List (Flush D)) (d e : Flush D) → AllRight Right (((h ++ d ∷ []) ++ g) ++ e ∷ [])
      → IsPrefix d.kept e.kept × Leaves (tells d.disk) (tells e.disk) (HasFront before e.kept (length d.kept))
  law [] h d e all =
      let bare : (h ++ d ∷ []) ++ [] ≡ h ++ d ∷ [] = append-nil (h ++ d ∷ []) in
      let r : Right (h ++ d ∷ []) e = subst (λ l. Right l e) bare (all ((h ++ d ∷ []) ++ []) e ([], append-nil (((h ++ d ∷ []) ++ []) ++ e ∷ []))) in
      step_front d e e.kept (r.follows d (h, refl)) ([], append-nil e.kept)
  law (x ∷ g) h d e all =
      let moved : ((h ++ d ∷ []) ++ x ∷ g) ++ e ∷ [] ≡ (((h ++ d ∷ []) ++ x ∷ []) ++ g) ++ e ∷ [] = ap (λ l. l ++ e ∷ []) (sym (append_assoc (h ++ d ∷ []) (x ∷ []) g)) in
      let all' : AllRight Right ((((h ++ d ∷ []) ++ x ∷ []) ++ g) ++ e ∷ []) = subst (AllRight Right) moved all in
      let later = law g (h ++ d ∷ []) x e all' in
      let split : (((h ++ d ∷ []) ++ x ∷ []) ++ g) ++ e ∷ [] ≡ ((h ++ d ∷ []) ++ x ∷ []) ++ (g ++ e ∷ []) = append_assoc ((h ++ d ∷ []) ++ x ∷ []) g (e ∷ []) in
      let r : Right (h ++ d ∷ []) x = subst (AllRight Right) split all' (h ++ d ∷ []) x (g ++ e ∷ [], refl) in
      let now = step_front d x e.kept (r.follows d (h, refl)) later.0 in
      let shorter = prefix_length d.kept x.kept now.0 in (
        prefix_on d.kept x.kept e.kept now.0 later.0,
        leaves_on (tells d.disk) (tells x.disk) (tells e.disk) (HasFront before e.kept (length d.kept)) now.1
            (leaves_weaker (tells x.disk) (tells e.disk) (HasFront before e.kept (length x.kept)) (HasFront before e.kept (length d.kept))
            (λ image has. let le : length d.kept ≤ has.0 = omega (arith, shorter, has.1) in (has.0, le, has.2, has.3)) later.1),
      )

  -- ---- what a receipt is worth

  module _ {B : Type 0} (faults : D → ℕ) (id : TableId) where
    -- what was kept and what is in hand is what was taken
    taken_is : (w : Writer B D) (d : Flush D) → Stands tells before faults id w → IsLast d (told w).flushes → d.kept ++ in_hand w ≡ taken w
    taken_is w d stands last = ap (λ (l : List Record). l ++ in_hand w) (sym (last_kept (told w) d last)) ∙ sym stands.seat.took

    -- since the last append
    by_state : (b : Bool) (w : Writer B D) (all : List Record) (d : Flush D) → w.has_failed ≡ b → Stands tells before faults id w → IsPrefix (taken w) all → IsLast d (told w).flushes
        → Leaves (tells d.disk) (tells (disk_of w)) (HasFront before all (length d.kept))
    by_state false w all d is stands front last =
        subst (λ (x : D). Leaves (tells d.disk) (tells x) (HasFront before all (length d.kept))) (stands.disk is d last)
        (since_here (tells d.disk) (λ s. (image : List ℕ) → IsImage s image → HasFront before all (length d.kept) image))
    by_state true w all d is stands front last =
        let adds = taken_is w d stands last in
        leaves_weaker (tells d.disk) (tells (disk_of w)) (HasAllOrNone (before ++ d.kept) (in_hand w)) (HasFront before all (length d.kept))
        (λ image has. of_batch before d.kept (in_hand w) (taken w) all image adds (in_hand w, adds) front has)
        (stands.left is d last)

    -- with further appends behind it
    by_rest : (w : Writer B D) (all : List Record) (front rest : List (Flush D)) (d : Flush D) → Stands tells before faults id w → IsPrefix (taken w) all
        → (rest ≡ []) ⊎ Ends rest → (front ++ d ∷ []) ++ rest ≡ (told w).flushes
        → Leaves (tells d.disk) (tells (disk_of w)) (HasFront before all (length d.kept))
    by_rest w all front rest d stands more (inl none_) is =
        by_state w.has_failed w all d refl stands more (front, sym is ∙ ap (λ (l : List (Flush D)). (front ++ d ∷ []) ++ l) none_ ∙ append-nil (front ++ d ∷ []))
    by_rest w all front rest d stands more (inr ends) is =
        let g = ends.0 in let e = ends.1 in
        let whole : (told w).flushes ≡ ((front ++ d ∷ []) ++ g) ++ e ∷ [] = sym is ∙ ap (λ (l : List (Flush D)). (front ++ d ∷ []) ++ l) ends.2 ∙ sym (append_assoc (front ++ d ∷ []) g (e ∷ [])) in
        let two = law g front d e (subst (AllRight (IsRight tells before)) whole stands.order) in
        let last : IsLast e (told w).flushes = ((front ++ d ∷ []) ++ g, whole) in
        let of_all : IsPrefix e.kept all = prefix_on e.kept (taken w) all (in_hand w, taken_is w e stands last) more in
        let shorter = prefix_length d.kept e.kept two.0 in
        leaves_on (tells d.disk) (tells e.disk) (tells (disk_of w)) (HasFront before all (length d.kept))
        (leaves_weaker (tells d.disk) (tells e.disk) (HasFront before e.kept (length d.kept)) (HasFront before all (length d.kept)) (λ image has. wider before e.kept all (length d.kept) image of_all has) two.1)
        (leaves_weaker (tells e.disk) (tells (disk_of w)) (HasFront before all (length e.kept)) (HasFront before all (length d.kept))
        (λ image has. let le : length d.kept ≤ has.0 = omega (arith, shorter, has.1) in (has.0, le, has.2, has.3)) (by_state w.has_failed w all e refl stands more last))

    pub worth : (w : Writer B D) (all : List Record) (receipt : Told D) → Stands tells before faults id w → IsPrefix (taken w) all
        → Begins receipt (told w) → IsWorth tells before (disk_of w) all receipt.flushes
    worth w all receipt stands more begins d last =
        by_rest w all last.0 begins.0.0 d stands more (ending begins.0.0) (ap (λ (l : List (Flush D)). l ++ begins.0.0) (sym last.1) ∙ begins.0.1)

pub appends_keep : (D : Type 0) (tells : D → Option Clock) → AppendsKeep D tells
appends_keep D tells before h g d e all = law tells before g h d e all
