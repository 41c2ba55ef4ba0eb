-- The writer stands, before and after each append.
use Rattle.std.proofs.Common.{◌≡◌, ◌⊎◌, ℕ, Bool, true, false, List, [], ◌∷◌, ◌++◌, length, sym, ap, subst, ◌∙◌, ⊎_elim, inl, inr, arith, append-nil, length-append}
use Rattle.std.specs.Prelude.{Option, Result, Ok, Err, OnOk, OnErr}
use mathlib.Core.List.{IsPrefix}
use Rattle.atomic_table.specs.Seated.{TableId}
use Rattle.ifdb_io.specs.Causes.{HasCause, Rose}
use Rattle.ifdb_disk.specs.Clock.{Clock, Leaves}
use Rattle.ifdb_journal.specs.declared.record.Record.{Record}
use Rattle.ifdb_journal.specs.Reading.{Holds, HasAllOrNone, Place}
use Rattle.ifdb_turn.specs.Histories.{AllRight}
use Rattle.ifdb_turn.proofs.HistoryLemmas.{prefix_last, prefix_length, right-snoc}
use Rattle.ifdb_turn.proofs.ViewLemmas.{no_truth}
use Rattle.ifdb_durable.specs.declared.view.Flush.{Flush}
use Rattle.ifdb_durable.specs.declared.view.Hand.{Hand}
use Rattle.ifdb_durable.specs.declared.view.Told.{Told}
use Rattle.ifdb_durable.specs.declared.writer.Writer.{Writer}
use Rattle.ifdb_durable.specs.Told.{kept_by, kept_from}
use Rattle.ifdb_durable.specs.Writing.{taken, told, kept, in_hand, disk_of, flush_of, HasSeat, Writes, IsIdle, HasWritten, HasFailed, LeavesKept}
use Rattle.ifdb_durable.specs.Appends.{IsLast, IsFirst, LeavesSince, IsRight, Stands}
use Rattle.ifdb_durable.proofs.Begins.{kept_more}

-- a flag that is both has every fact
pub no_both : {A : Type 0} → (b : Bool) → b ≡ true → b ≡ false → A
no_both b is isnt = absurd (no_truth (sym isnt ∙ is))

module _ {D : Type 0} where
  -- the last of a list is the one that was added last
  pub last_is : (h : List (Flush D)) (d e : Flush D) → IsLast d (h ++ e ∷ []) → d ≡ e
  last_is h d e last = ⊎_elim
      (λ (p : IsPrefix (last.0 ++ d ∷ []) h).
      let n : length (h ++ e ∷ []) ≡ length (last.0 ++ d ∷ []) = ap length last.1 in
      let m = length-append h (e ∷ []) in
      let k = prefix_length (last.0 ++ d ∷ []) h p in absurd (omega arith))
      (λ (p : (last.0 ≡ h) × (d ≡ e)). p.1)
      (prefix_last last.0 h d e [] (append-nil (last.0 ++ d ∷ []) ∙ sym last.1))

  -- the last of some appends kept what all of them kept
  pub last_kept : (t : Told D) (d : Flush D) → IsLast d t.flushes → kept_by t ≡ d.kept
  last_kept t d last = ap (kept_from []) last.1 ∙ kept_more [] last.0 d

  first_one : (d e : Flush D) (rest : List (Flush D)) → e ∷ [] ≡ d ∷ rest → d ≡ e
  first_one d e rest is = ap (λ (l : List (Flush D)). first_or e l) (sym is)
    where
      first_or : Flush D → List (Flush D) → Flush D
      first_or e [] = e
      first_or e (x ∷ l) = x

  first_same : (d x : Flush D) (h rest : List (Flush D)) → x ∷ h ≡ d ∷ rest → d ≡ x
  first_same d x h rest is = ap (λ (l : List (Flush D)). first_or x l) (sym is)
    where
      first_or : Flush D → List (Flush D) → Flush D
      first_or e [] = e
      first_or e (x ∷ l) = x

  -- the first of a list with one more is that one, or was the first before
  pub first_before : (h : List (Flush D)) (d e : Flush D) → IsFirst d (h ++ e ∷ []) → (d ≡ e) ⊎ IsFirst d h
  first_before [] d e first = inl (first_one d e first.0 first.1)
  first_before (x ∷ h) d e first = inr (h, ap (λ y. y ∷ h) (sym (first_same d x (h ++ e ∷ []) first.0 first.1)))

module _ {B D : Type 0} (tells : D → Option Clock) (before : List Record) (faults : D → ℕ) (id : TableId) where
  -- since the last append, a batch was tried
  since_last : (w a b : Writer B D) (d : Flush D) → w.has_failed ≡ false → Stands tells before faults id w
      → disk_of a ≡ disk_of w → told a ≡ told w → LeavesKept tells before a b → IsLast d (told w).flushes → LeavesSince tells before d (disk_of b) (in_hand a)
  since_last w a b d works stands disk same leaves last =
      let from : disk_of a ≡ d.disk = disk ∙ sym (stands.disk works d last) in
      let list : kept a ≡ d.kept = ap (λ (t : Told D). kept_by t) same ∙ last_kept (told w) d last in
      subst (λ (z : D × List Record). Leaves (tells z.0) (tells (disk_of b)) (HasAllOrNone (before ++ z.1) (in_hand a))) (λ i. (from i, list i)) leaves

  -- the faults since the opening, after an append that was answered
  calm_on : (w a b : Writer B D) (d : Flush D) → w.has_failed ≡ false → Stands tells before faults id w → disk_of a ≡ disk_of w
      → faults (disk_of b) ≡ faults (disk_of a) → (d ≡ flush_of b) ⊎ IsFirst d (told w).flushes → faults (disk_of b) ≡ faults d.disk
  calm_on w a b d works stands disk still (inl is) = ap (λ (x : Flush D). faults x.disk) (sym is)
  calm_on w a b d works stands disk still (inr first) = still ∙ ap faults disk ∙ stands.calm works d first

  -- after an append that was answered
  pub stands_on : (w a b : Writer B D) → w.has_failed ≡ false → Stands tells before faults id w → disk_of a ≡ disk_of w → told a ≡ told w
      → HasSeat id a → HasWritten a b → Writes tells before id b → LeavesKept tells before a b → faults (disk_of b) ≡ faults (disk_of a)
      → Stands tells before faults id b
  stands_on w a b works stands disk same seat written writes leaves still =
      let e : Flush D = flush_of b in
      let h = (told w).flushes in
      let all : (told b).flushes ≡ h ++ e ∷ [] = ap (λ (t : Told D). t.flushes) written.all ∙ ap (λ (t : Told D). t.flushes ++ e ∷ []) same in
      let kept_is : kept b ≡ taken b = last_kept (told b) e (h, all) in
      let right : IsRight tells before h e = record {
        at = b.journal.at;
        holds = subst (λ (l : List Record). Holds (tells (disk_of b)) (before ++ l) b.journal.at) kept_is writes.holds;
        follows = λ d last. record {
          batch = in_hand a;
          adds = written.same ∙ seat.took ∙ ap (λ l. l ++ in_hand a) (ap (λ (t : Told D). kept_by t) same ∙ last_kept (told w) d last);
          leaves = since_last w a b d works stands disk same leaves last;
        };
      } in record {
        order = subst (AllRight (IsRight tells before)) (sym all) (right-snoc (IsRight tells before) h e stands.order right);
        seat = writes.seat;
        writes = λ _. writes;
        idle = λ _. written.none;
        disk = λ _ d last. ap (λ (z : Flush D). z.disk) (last_is h d e (last.0, sym all ∙ last.1));
        calm = λ _ d first. calm_on w a b d works stands disk still (first_before h d e (first.0, sym all ∙ first.1));
        left = λ x. no_both b.has_failed x writes.works;
        cause = λ x. no_both b.has_failed x writes.works;
      }

  -- after an append that failed
  pub stands_failed : (w a b : Writer B D) → w.has_failed ≡ false → Stands tells before faults id w → disk_of a ≡ disk_of w → told a ≡ told w
      → HasSeat id b → HasFailed a b → LeavesKept tells before a b → Rose (faults (disk_of a)) (faults (disk_of b))
      → Stands tells before faults id b
  stands_failed w a b works stands disk same seat lost leaves rose =
      let still : (told b).flushes ≡ (told w).flushes = ap (λ (t : Told D). t.flushes) lost.told ∙ ap (λ (t : Told D). t.flushes) same in record {
        order = subst (AllRight (IsRight tells before)) (sym still) stands.order;
        seat = seat;
        writes = λ x. no_both b.has_failed lost.fails x;
        idle = λ x. no_both b.has_failed lost.fails x;
        disk = λ x. no_both b.has_failed lost.fails x;
        calm = λ x. no_both b.has_failed lost.fails x;
        left = λ _ d last. subst (LeavesSince tells before d (disk_of b)) (sym lost.hand) (since_last w a b d works stands disk same leaves (last.0, sym still ∙ last.1));
        cause = λ _ d first. subst (λ n. Rose n (faults (disk_of b))) (ap faults disk ∙ stands.calm works d (first.0, sym still ∙ first.1)) rose;
      }

  -- after an append that was answered or failed
  pub stands_tried : {T E : Type 0} → (result : Result T E) (w a b : Writer B D) → w.has_failed ≡ false → Stands tells before faults id w → disk_of a ≡ disk_of w → told a ≡ told w
      → HasSeat id a → LeavesKept tells before a b → OnOk result (HasWritten a b) → OnOk result (Writes tells before id b) → OnErr result (HasSeat id b) → OnErr result (HasFailed a b)
      → HasCause (faults (disk_of a)) (faults (disk_of b)) result → Stands tells before faults id b
  stands_tried (Ok x) w a b works stands disk same seat leaves written writes _ _ cause = stands_on w a b works stands disk same seat written writes leaves cause.kept
  stands_tried (Err e) w a b works stands disk same _ leaves _ _ seat lost cause = stands_failed w a b works stands disk same seat lost leaves cause.failed

  -- it stands as it stood, where all that its fact speaks of is the same
  pub stands_same : (v w : Writer B D) → w.has_failed ≡ v.has_failed → told w ≡ told v → w.hand ≡ v.hand → w.journal ≡ v.journal → HasSeat id w
      → Stands tells before faults id v → Stands tells before faults id w
  stands_same v w state same hand journal seat stands =
      let flushes : (told w).flushes ≡ (told v).flushes = ap (λ (t : Told D). t.flushes) same in record {
        order = subst (AllRight (IsRight tells before)) (sym flushes) stands.order;
        seat = seat;
        writes = λ x. let old = stands.writes (sym state ∙ x) in record {
          seat = seat;
          works = x;
          holds = subst (λ (z : Hand D × Told D × Place). Holds (tells z.0.disk) (before ++ kept_by z.1) z.2.at) (λ i. (sym hand i, sym same i, sym journal i)) old.holds;
        };
        idle = λ x. ap (λ (z : Hand D). z.batch.records) hand ∙ stands.idle (sym state ∙ x);
        disk = λ x d last. stands.disk (sym state ∙ x) d (last.0, sym flushes ∙ last.1) ∙ ap (λ (z : Hand D). z.disk) (sym hand);
        calm = λ x d first. ap (λ (z : Hand D). faults z.disk) hand ∙ stands.calm (sym state ∙ x) d (first.0, sym flushes ∙ first.1);
        left = λ x d last. subst (λ (z : Hand D). LeavesSince tells before d z.disk z.batch.records) (sym hand) (stands.left (sym state ∙ x) d (last.0, sym flushes ∙ last.1));
        cause = λ x d first. subst (λ (z : Hand D). Rose (faults d.disk) (faults z.disk)) (sym hand) (stands.cause (sym state ∙ x) d (first.0, sym flushes ∙ first.1));
      }

  -- at the start the opening counts as an append of nothing
  pub stands_first : (w : Writer B D) → (told w).flushes ≡ record { disk = disk_of w; kept = [] } ∷ [] → Writes tells before id w → IsIdle w
      → Stands tells before faults id w
  stands_first w opening writes idle =
      let o : Flush D = record { disk = disk_of w; kept = [] } in
      let bare : kept w ≡ [] = ap (kept_from []) opening in
      let right : IsRight tells before [] o = record {
        at = w.journal.at;
        holds = subst (λ (l : List Record). Holds (tells (disk_of w)) (before ++ l) w.journal.at) bare writes.holds;
        follows = λ d last. let n : length (last.0 ++ d ∷ []) ≡ 0 = ap length (sym last.1) in
            let m = length-append last.0 (d ∷ []) in absurd (omega arith);
      } in
      let none_ : AllRight (IsRight tells before) [] = λ b e q. let n : length ((b ++ e ∷ []) ++ q.0) ≡ 0 = ap length q.1 in
      let m = length-append (b ++ e ∷ []) q.0 in let k = length-append b (e ∷ []) in absurd (omega arith) in record {
        order = subst (AllRight (IsRight tells before)) (sym opening) (right-snoc (IsRight tells before) [] o none_ right);
        seat = writes.seat;
        writes = λ _. writes;
        idle = λ _. idle;
        disk = λ _ d last. ap (λ (z : Flush D). z.disk) (last_is [] d o (last.0, sym opening ∙ last.1));
        calm = λ _ d first. ap (λ (z : Flush D). faults z.disk) (sym (first_one d o first.0 (sym opening ∙ first.1)));
        left = λ x. no_both w.has_failed x writes.works;
        cause = λ x. no_both w.has_failed x writes.works;
      }
