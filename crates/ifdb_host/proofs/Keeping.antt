-- What crashes leave of a database, since its opening and since each append that was told of.
use Rattle.std.proofs.Common.{◌≡◌, ◌⊎◌, inl, inr, ℕ, ◌+◌, ◌-◌, ◌≤◌, List, [], ◌∷◌, ◌++◌, ◌∙◌, length, take, drop, refl, sym, ap, subst, arith, append_assoc, append-nil}
use Rattle.std.specs.Prelude.{Option, Some, None}
use Rattle.std.proofs.Math.Seq.{take-append-add, take-append_seam}
use mathlib.Core.List.{IsPrefix}
use Rattle.atomic_table.specs.Seated.{TableId}
use Rattle.ifdb_disk.specs.Images.{IsImage}
use Rattle.ifdb_disk.specs.Clock.{Clock, Leaves, Now}
use Rattle.ifdb_disk.proofs.Moments.{leaves_weaker}
use Rattle.ifdb_journal.specs.declared.record.Record.{Record}
use Rattle.ifdb_journal.specs.Records.{ReadsAs}
use Rattle.ifdb_journal.specs.Reading.{Holds}
use Rattle.ifdb_journal.proofs.Images.{held}
use Rattle.ifdb_log.specs.Behind.{behind, front_of, Fronted, HasBehind}
use Rattle.ifdb_log.specs.Fronted.{image_behind}
use Rattle.ifdb_log.specs.Pieces.{FrontsAreFirstTexts}
use Rattle.ifdb_log.proofs.Fronts.{image_both, leaves_behind}
use Rattle.ifdb_turn.specs.Histories.{AllRight}
use Rattle.ifdb_turn.proofs.HistoryLemmas.{prefix_length}
use Rattle.ifdb_durable.specs.declared.view.Flush.{Flush}
use Rattle.ifdb_durable.specs.declared.view.Told.{Told}
use Rattle.ifdb_durable.specs.declared.writer.Writer.{Writer}
use Rattle.ifdb_durable.specs.Told.{Begins, kept_by, kept_from}
use Rattle.ifdb_durable.specs.Queues.{Queued, all_of}
use Rattle.ifdb_durable.specs.Writing.{disk_of, in_hand, taken, told}
use Rattle.ifdb_durable.specs.Appends.{IsFirst, IsLast, IsRight, Stands}
use Rattle.ifdb_durable.specs.Worth.{HasFront, IsWorth}
use Rattle.ifdb_durable.proofs.Appends.{last_kept}
use Rattle.ifdb_durable.proofs.Begins.{prefix_on}
use Rattle.ifdb_durable.proofs.Worth.{appends_keep}
use Rattle.ifdb_model.specs.Log.{Entry as LogEntry}
use Rattle.ifdb_history.specs.declared.entry.Entry.{Entry}
use Rattle.ifdb_history.specs.History.{added_in}
use Rattle.ifdb_restart.specs.Laws.{FirstTextsAddAFront}
use Rattle.ifdb_session.specs.Durable.{count_of, HasRecords}
use Rattle.ifdb_session.specs.Records.{records_of, texts_of}
use Rattle.ifdb_session.specs.Starts.{start_of}
use Rattle.ifdb_reopen.specs.Files.{IsFileOf, Restore, ShowsLog}
use Rattle.ifdb_host.specs.Fronts.{opening_of, HasFrontOf, HasTextsOf, IsKeptSince, IsToldOf, KnowsOf, LeavesFrom}
use Rattle.ifdb_reopen.proofs.Titles.{IsTitle, title_of}
use Rattle.ifdb_reopen.proofs.Sizes.{head_same, sizes_same}
use Rattle.ifdb_host.proofs.Rests.{file_of, rest_of, IsRestOf}

-- ---- lists that end in an element

abbrev Ends : {X : Type 0} → List X → Type 0
Ends l = (g : List _) × (e : _) × (l ≡ g ++ e ∷ [])

ending : {X : Type 0} (l : List X) → (l ≡ []) ⊎ Ends l
ending [] = inl refl
ending (x ∷ l) = inr (by (ending l)) where
  by : (l ≡ []) ⊎ Ends l → Ends (x ∷ l)
  by (inl none_) = ([], x, ap (λ z. x ∷ z) none_)
  by (inr ends) = (x ∷ ends.0, ends.1, ap (λ z. x ∷ z) ends.2)

-- an image with a front of some records has one of longer ones
front_of_kept : (before kept all : List Record) (image : List ℕ) → IsPrefix kept all → ReadsAs (before ++ kept) image → HasFront before all (length kept) image
front_of_kept before kept all image front is =
    let same : take (length kept) all ≡ kept = subst (λ l. take (length kept) l ≡ kept) front.1 (take-append_seam kept front.0) in
    let le : length kept ≤ length kept = omega arith in
    (length kept, le, prefix_length kept all front, subst (λ l. ReadsAs (before ++ l) image) (sym same) is)

-- what lies behind n bytes and m, where both are 16
lifted : (begun t u : Option Clock) (n m : ℕ) (P : List ℕ → Type 0) → n ≡ 16 → m ≡ 16 → Fronted n begun t → Fronted m begun u → Leaves (behind n t) (behind m u) P → Leaves t u (HasBehind (front_of 16 begun) P)
lifted begun t u n m P e f old new leaves =
    leaves_behind 16 begun t u P (subst (λ k. Fronted k begun t) e old) (subst (λ k. Fronted k begun u) f new)
    (subst (λ k. Leaves (behind 16 t) (behind k u) P) f (subst (λ k. Leaves (behind k t) (behind m u) P) e leaves))

-- the first appends are right too
right_front : {X : Type 0} {right : List X → X → Type 0} (h g : List X) → IsPrefix h g → AllRight right g → AllRight right h
right_front h g front all = λ before entry first. all before entry (prefix_on (before ++ entry ∷ []) h g first front)

leaves_from_weaker : (t u : Option Clock) (P Q : List ℕ → Type 0) → ((image : List ℕ) → P image → Q image) → LeavesFrom t u P → LeavesFrom t u Q
leaves_from_weaker None u P Q imply leaves = (tt, tt)
leaves_from_weaker (Some c) u P Q imply leaves = ((λ image is. imply image (leaves.0 image is)), leaves_weaker (Some c) u P Q imply leaves.1)

-- a front with so many texts has the first of them
texts_there : (before : List (List ℕ)) (first : List LogEntry) (h : List Entry) (texts : List (List ℕ)) (image : List ℕ) → IsPrefix texts (texts_of first h) → HasFrontOf before first h (length texts) image → HasTextsOf before texts image
texts_there before first h texts image front has =
    let m = has.n - length texts in
    let size : has.n ≡ length texts + m = omega (arith, has.enough) in
    let split : take has.n (texts_of first h) ≡ texts ++ take m front.0 =
    ap (take has.n) (sym front.1) ∙ ap (λ k. take k (texts ++ front.0)) size ∙ take-append-add texts front.0 m in
    (take m front.0, first ++ take has.n (added_in (start_of first) h), subst (λ l. IsFileOf (before ++ l) (first ++ take has.n (added_in (start_of first) h)) image) split has.file)

-- ---- a database, on disks of which so many first bytes stand

module _ {X B : Type 0} (size : X → ℕ) (raw : X → Option Clock) (faults : X → ℕ) (begun : Option Clock) (fronted : (x : X) → Fronted (size x) begun (raw x)) (present : (x : X) → Now (raw x) (λ s. IsImage s s.bytes))
    (fronts : FrontsAreFirstTexts) (adds : FirstTextsAddAFront) (id : TableId) (rs : List Record) (first : List LogEntry) (h : List Entry) (w : Writer B X) (q : Queued) (receipt : Told X) where
  module _ (stands : Stands (λ x. behind (size x) (raw x)) rs faults id w) (heard : Begins receipt (told w)) (same : q.taken ≡ taken w) (has : HasRecords q (records_of first h))
      (worth : (r : Told X) → Begins r receipt → IsWorth (λ x. behind (size x) (raw x)) rs (disk_of w) (all_of q) r.flushes) where
    -- an append that was told of is among those of the writer
    among : (d : Flush X) → IsToldOf d receipt → IsToldOf d (told w)
    among d is = (is.0, is.1 ++ heard.0.0, sym heard.0.1 ∙ ap (λ l. l ++ heard.0.0) is.2 ∙ append_assoc (is.0 ++ d ∷ []) is.1 heard.0.0)

    -- so it came right after those before it
    right : (d : Flush X) → (in_writer : IsToldOf d (told w)) → IsRight (λ x. behind (size x) (raw x)) rs in_writer.0 d
    right d is = stands.order is.0 d (is.1, sym is.2)

    -- what it kept stands first in what came
    kept_first : (d : Flush X) → IsToldOf d (told w) → IsPrefix d.kept (all_of q)
    kept_first d is = prefix_on d.kept (taken w) (all_of q) (by (ending is.1)) (q.waiting, ap (λ l. l ++ q.waiting) (sym same)) where
      last_first : (e : Flush X) → IsLast e (told w).flushes → IsPrefix e.kept (taken w)
      last_first e last = (in_hand w, ap (λ l. l ++ in_hand w) (sym (last_kept (told w) e last)) ∙ sym stands.seat.took)

      by : (is.1 ≡ []) ⊎ Ends is.1 → IsPrefix d.kept (taken w)
      by (inl none_) = last_first d (is.0, is.2 ∙ ap (λ l. (is.0 ++ d ∷ []) ++ l) none_ ∙ append-nil (is.0 ++ d ∷ []))
      by (inr ends) =
          let whole : (told w).flushes ≡ ((is.0 ++ d ∷ []) ++ ends.0) ++ ends.1 ∷ [] = is.2 ∙ ap (λ l. (is.0 ++ d ∷ []) ++ l) ends.2 ∙ sym (append_assoc (is.0 ++ d ∷ []) ends.0 (ends.1 ∷ [])) in
          let two = appends_keep X (λ x. behind (size x) (raw x)) rs is.0 ends.0 d ends.1 (subst (AllRight (IsRight (λ x. behind (size x) (raw x)) rs)) whole stands.order) in
          prefix_on d.kept ends.1.kept (taken w) two.0 (last_first ends.1 ((is.0 ++ d ∷ []) ++ ends.0, whole))

    -- the opening is the first of the writer's appends
    pub opening_first : (opening : X) → Begins (opening_of opening) receipt → IsFirst (record { disk = opening; kept = [] }) (told w).flushes
    opening_first opening begins =
        let front = prefix_on ((opening_of opening).flushes) receipt.flushes (told w).flushes begins.0 heard.0 in
        (front.0, sym front.1)

    module _ (opening : X) (before : List (List ℕ)) (begins : Begins (opening_of opening) receipt) (sized : size opening ≡ 16) (shows : ShowsLog (raw opening) before first) where
      abbrev opened : Flush X
      opened = record { disk = opening; kept = [] }

      opened_told : IsToldOf opened receipt
      opened_told = ([], begins.0.0, sym begins.0.1)

      -- the title that stands, and the records that were there
      titled : (c : Clock) → raw opening ≡ Some c → IsTitle (front_of 16 begun)
      titled c is =
          let here = subst (λ t. Fronted 16 begun t) is (subst (λ k. Fronted k begun (raw opening)) sized (fronted opening)) in
          let file = (subst (λ t. ShowsLog t before first) is shows).1 in
          subst IsTitle here.1.0.1.1.1.0 (title_of c.now.bytes file.titled)

      there : (c : Clock) → raw opening ≡ Some c → Restore rs before first
      there c is =
          let r = right opened (among opened opened_told) in
          let at_16 : Holds (behind 16 (Some c)) (rs ++ []) r.at = subst (λ t. Holds (behind 16 t) (rs ++ []) r.at) is (subst (λ k. Holds (behind k (raw opening)) (rs ++ []) r.at) sized r.holds) in
          let now = subst (λ t. Now t (λ s. IsImage s s.bytes)) is (present opening) in
          let reads = held (rs ++ []) (behind 16 (Some c)) r.at at_16 (drop 16 c.now.bytes) (image_behind 16 c.now c.now.bytes now) in
          let file = (subst (λ t. ShowsLog t before first) is shows).1 in
          subst (λ l. Restore l before first) (reads.has ∙ append-nil rs) file.restores

      told_opening : (c : Clock) × (raw opening ≡ Some c)
      told_opening = by (raw opening) refl shows where
        by : (t : Option Clock) → raw opening ≡ t → ShowsLog t before first → (c : Clock) × (raw opening ≡ Some c)
        by None is shown = absurd shown
        by (Some c) is shown = (c, is)

      title : IsTitle (front_of 16 begun)
      title = titled told_opening.0 told_opening.1

      restore : Restore rs before first
      restore = there told_opening.0 told_opening.1

      -- since an append that was told of, the front has had all texts whose records it kept
      module _ (texts : List (List ℕ)) (prefix : IsPrefix texts (texts_of first h)) where
        behind_rest : (least : ℕ) → count_of texts ≤ least → (rest : List ℕ) → HasFront rs (all_of q) least rest → IsRestOf before first h (length texts) rest
        behind_rest least le rest front =
            rest_of fronts adds rs before first h texts least rest restore has.again prefix le (subst (λ l. HasFront rs l least rest) has.all front)

        -- how many bytes stand before each of the disks
        last_sized : size (disk_of w) ≡ 16
        last_sized =
            let leaves = worth (opening_of opening) begins opened ([], refl) in
            let c = told_opening.0 in
            let is = told_opening.1 in
            sym (sizes_same (size opening) (size (disk_of w)) begun c (raw (disk_of w)) (HasFront rs (all_of q) 0) (subst (Fronted (size opening) begun) is (fronted opening)) (fronted (disk_of w))
            (subst (λ t. Leaves (behind (size opening) t) (behind (size (disk_of w)) (raw (disk_of w))) (HasFront rs (all_of q) 0)) is leaves)) ∙ sized

        at_moment : (d : Flush X) (t : Option Clock) → size d.disk ≡ 16 → raw d.disk ≡ t → IsToldOf d receipt → count_of texts ≤ length d.kept
            → Now t (λ s. (image : List ℕ) → IsImage s image → HasFrontOf before first h (length texts) image)
        at_moment d None is tells told le = tt
        at_moment d (Some c) is tells told le = λ image of.
            let in_writer = among d told in
            let here = subst (λ t. Fronted 16 begun t) tells (subst (λ k. Fronted k begun (raw d.disk)) is (fronted d.disk)) in
            let r = right d in_writer in
            let at_16 : Holds (behind 16 (Some c)) (rs ++ d.kept) r.at = subst (λ t. Holds (behind 16 t) (rs ++ d.kept) r.at) tells (subst (λ k. Holds (behind k (raw d.disk)) (rs ++ d.kept) r.at) is r.holds) in
            let both = image_both 16 (front_of 16 begun) c.now image here.1.0 of in
            let reads = held (rs ++ d.kept) (behind 16 (Some c)) r.at at_16 both.0 both.2 in
            let front = front_of_kept rs d.kept (all_of q) both.0 (kept_first d in_writer) reads in
            file_of (front_of 16 begun) before first h (length texts) image title (both.0, both.1, behind_rest (length d.kept) le both.0 front)

        since_it : (d : Flush X) (r : Told X) (t : Option Clock) → raw d.disk ≡ t → Begins r receipt → IsLast d r.flushes → IsToldOf d receipt → count_of texts ≤ length d.kept
            → LeavesFrom t (raw (disk_of w)) (HasFrontOf before first h (length texts))
        since_it d r None tells begins last told le = (tt, tt)
        since_it d r (Some c) tells begins last told le =
            let leaves = subst (λ t. Leaves (behind (size d.disk) t) (behind (size (disk_of w)) (raw (disk_of w))) (HasFront rs (all_of q) (length d.kept))) tells (worth r begins d last) in
            let front = subst (Fronted (size d.disk) begun) tells (fronted d.disk) in
            let is : size d.disk ≡ 16 = sizes_same (size d.disk) (size (disk_of w)) begun c (raw (disk_of w)) (HasFront rs (all_of q) (length d.kept)) front (fronted (disk_of w)) leaves ∙ last_sized in
            let rests = leaves_weaker (behind (size d.disk) (Some c)) (behind (size (disk_of w)) (raw (disk_of w))) (HasFront rs (all_of q) (length d.kept)) (IsRestOf before first h (length texts)) (behind_rest (length d.kept) le) leaves in
            let whole = lifted begun (Some c) (raw (disk_of w)) (size d.disk) (size (disk_of w)) (IsRestOf before first h (length texts)) is last_sized front (fronted (disk_of w)) rests in (
              at_moment d (Some c) is tells told le,
              leaves_weaker (Some c) (raw (disk_of w)) (HasBehind (front_of 16 begun) (IsRestOf before first h (length texts))) (HasFrontOf before first h (length texts))
                  (λ image behind_it. file_of (front_of 16 begun) before first h (length texts) image title behind_it) whole,
            )

      pub fronts_stay : LeavesFrom (raw opening) (raw (disk_of w)) (HasFrontOf before first h 0)
      fronts_stay = since_it [] (texts_of first h, refl) opened (opening_of opening) (raw opening) refl begins ([], refl) opened_told (omega arith)

      pub kept_stays : (texts : List (List ℕ)) → IsPrefix texts (texts_of first h) → KnowsOf receipt (count_of texts)
          → (d : Flush X) × IsToldOf d receipt × LeavesFrom (raw d.disk) (raw (disk_of w)) (HasFrontOf before first h (length texts))
      kept_stays texts prefix knows = by (ending knows.0.flushes) where
        by : (knows.0.flushes ≡ []) ⊎ Ends knows.0.flushes → (d : Flush X) × IsToldOf d receipt × LeavesFrom (raw d.disk) (raw (disk_of w)) (HasFrontOf before first h (length texts))
        by (inl none_) =
            let nothing_kept : kept_by knows.0 ≡ [] = ap (kept_from []) none_ in
            let le : count_of texts ≤ 0 = omega (arith, knows.2, ap length nothing_kept) in
            (opened, opened_told, since_it texts prefix opened (opening_of opening) (raw opening) refl begins ([], refl) opened_told le)
        by (inr ends) =
            let d = ends.1 in
            let last : IsLast d knows.0.flushes = (ends.0, ends.2) in
            let le : count_of texts ≤ length d.kept = omega (arith, knows.2, ap length (last_kept knows.0 d last)) in
            let is : IsToldOf d receipt = (ends.0, knows.1.0.0, sym knows.1.0.1 ∙ ap (λ l. l ++ knows.1.0.0) ends.2) in
            (d, is, since_it texts prefix d knows.0 (raw d.disk) refl knows.1 last is le)

      -- a disk that tells what it holds is never silent later
      silent_later : (d : Flush X) → IsToldOf d (told w) → raw d.disk ≡ None → ⊥
      silent_later d is silent = by is.0 (sym begun_first.1 ∙ is.2) where
        begun_first : IsFirst opened (told w).flushes
        begun_first = opening_first opening begins

        at_once : opened ≡ d → ⊥
        at_once same = cc (sym told_opening.1 ∙ ap (λ (e : Flush X). raw e.disk) same ∙ silent)

        by : (front : List (Flush X)) → opened ∷ begun_first.0 ≡ (front ++ d ∷ []) ++ is.1 → ⊥
        by [] e = at_once (head_same opened d begun_first.0 is.1 e)
        by (x ∷ g) e =
            let same : opened ≡ x = head_same opened x begun_first.0 ((g ++ d ∷ []) ++ is.1) e in
            let whole : ((opened ∷ g) ++ d ∷ []) ++ is.1 ≡ (told w).flushes = ap (λ y. ((y ∷ g) ++ d ∷ []) ++ is.1) same ∙ sym e ∙ sym begun_first.1 in
            let order = right_front ((opened ∷ g) ++ d ∷ []) (told w).flushes (is.1, whole) stands.order in
            let leaves = (appends_keep X (λ x. behind (size x) (raw x)) rs [] g opened d order).1 in
            let lost = subst (λ t. Leaves (behind (size opening) t) (behind (size d.disk) (raw d.disk)) (HasFront rs d.kept 0)) told_opening.1 leaves in
            subst (λ t. Leaves (behind (size opening) (Some told_opening.0)) (behind (size d.disk) t) (HasFront rs d.kept 0)) silent lost

      -- so each disk that was told of tells what it holds
      told_at : (d : Flush X) → IsToldOf d receipt → (c : Clock) × (raw d.disk ≡ Some c)
      told_at d is = by (raw d.disk) refl where
        by : (t : Option Clock) → raw d.disk ≡ t → (c : Clock) × (raw d.disk ≡ Some c)
        by (Some c) tells = (c, tells)
        by None tells = absurd (silent_later d (among d is) tells)

      pub kept_then : (texts : List (List ℕ)) → IsPrefix texts (texts_of first h) → KnowsOf receipt (count_of texts) → IsKeptSince before (raw (disk_of w)) texts
      kept_then texts prefix knows = by (raw (disk_of w)) refl where
        found : (d : Flush X) × IsToldOf d receipt × LeavesFrom (raw d.disk) (raw (disk_of w)) (HasFrontOf before first h (length texts))
        found = kept_stays texts prefix knows

        by : (t : Option Clock) → raw (disk_of w) ≡ t → IsKeptSince before t texts
        by None tells = tt
        by (Some c) tells =
            let told = told_at found.0 found.1 in
            let here = subst (λ t. LeavesFrom t (raw (disk_of w)) (HasFrontOf before first h (length texts))) told.1 found.2 in
            let now = subst (λ t. LeavesFrom (Some told.0) t (HasFrontOf before first h (length texts))) tells here in
            (told.0, leaves_from_weaker (Some told.0) (Some c) (HasFrontOf before first h (length texts)) (HasTextsOf before texts) (λ image has. texts_there before first h texts image prefix has) now)
