-- What a restart says of a file, and what it leaves.
use Rattle.std.proofs.Common.{◌≡◌, ◌⊎◌, inl, inr, ℕ, suc, ◌≤◌, false, List, [], ◌∷◌, ◌++◌, ◌∙◌, length, map, take, drop, refl, sym, ap, subst, arith, length-append, length-drop}
use Rattle.std.specs.Prelude.{Option, Some, None, nat_le, if◌then◌else◌}
use Rattle.std.proofs.lemmas.List.{append-nil, take-append-drop}
use Rattle.std.proofs.lemmas.Bool.Decides.{nat_tests}
use Rattle.ifdb_disk.specs.Images.{Range, Shown, IsImage, settled}
use Rattle.ifdb_disk.specs.Clock.{Clock, Leaves}
use Rattle.ifdb_disk.proofs.Moments.{leaves_weaker}
use Rattle.ifdb_disk.proofs.Store.{settled_only}
use Rattle.ifdb_journal.specs.declared.record.Record.{Record}
use Rattle.ifdb_journal.specs.Records.{IsFront, records, scan}
use Rattle.ifdb_journal.specs.Reading.{IsOldOrShort, IsReadTo, Place, ReadTo, SpellsSame}
use Rattle.ifdb_log.specs.Behind.{behind, front_of, shown_behind, range_behind, Fronted, HasBehind, Stands}
use Rattle.ifdb_log.specs.Pieces.{texts_of, with_texts}
use Rattle.ifdb_log.specs.Reading.{DamagedHasNoTexts, IsDamaged}
use Rattle.ifdb_log.specs.Title.{IsLog, IsSettled}
use Rattle.ifdb_log.proofs.Fronts.{leaves_behind}
use Rattle.ifdb_model.specs.Log.{Entry}
use Rattle.ifdb_db.specs.Room.{Hall}
use Rattle.ifdb_restart.specs.Restarted.{log_behind, log_of, with_record, HasUnfitAt, IsRestarted}
use Rattle.ifdb_restart.proofs.FitLogs.{none_behind}
use Rattle.ifdb_redo.specs.Reading.{record_of}
use Rattle.ifdb_reopen.specs.Files.{IsFileOf, IsOldOrBare, IsTold, Restore, ShowsLog}
use Rattle.ifdb_reopen.specs.Laws.{FilesAreRestarted, IsRestartedAs}
use Rattle.ifdb_reopen.proofs.Sizes.{sizes_same}
use Rattle.ifdb_reopen.proofs.Titles.{IsTitle, title_of, title_then}

-- ---- a file that restores a log

abbrev some_or : {X : Type 0} → X → Option X → X
some_or x None = x
some_or x (Some y) = y

pub same_some : {X : Type 0} (a b : X) → Some a ≡ Some b → a ≡ b
same_some a b e = ap (some_or a) e

pub behind_more : (o : Option (List Entry)) (texts more : List (List ℕ)) → log_behind o (texts ++ more) ≡ log_behind (log_behind o texts) more
behind_more o [] more = refl
behind_more o (text ∷ texts) more = behind_more (with_record o (record_of text)) texts more

-- the records that bytes spell up to a gate
spelled : (bytes front rest : List ℕ) (gate : ℕ) (r : Record) (rs : List Record) → bytes ≡ front ++ gate ∷ rest → IsFront front (r ∷ rs) → records bytes ≡ (r ∷ rs) ++ scan 0 (gate ∷ rest)
spelled bytes [] rest gate r rs split is = absurd (omega (arith, ap length (is.records 0 [])))
spelled bytes (x ∷ front) rest gate r rs split is =
    let long : nat_le (length ((x ∷ front) ++ gate ∷ rest)) 1 ≡ false = many (length (front ++ gate ∷ rest)) (omega (arith, length-append front (gate ∷ rest))) in
    ap records split ∙ (λ i. if long i then [] else scan 0 ((x ∷ front) ++ gate ∷ rest)) ∙ is.records gate rest
  where
    many : (n : ℕ) → 1 ≤ n → nat_le (suc n) 1 ≡ false
    many n le = grind (arith, nat_tests)

-- texts that were read stand first among those of the bytes
pub read_first : (bytes : List ℕ) (rs : List Record) (at : ℕ) (texts all : List (List ℕ)) → ((more : List Record) → texts_of (rs ++ more) ≡ with_texts texts (texts_of more)) → IsReadTo bytes rs at
    → texts_of (records bytes) ≡ Some all → (more : List (List ℕ)) × (all ≡ texts ++ more)
read_first bytes [] at texts all up read is =
    let none : texts ++ [] ≡ [] = same_some (texts ++ []) [] (sym (up [])) in
    (all, ap (λ (l : List (List ℕ)). l ++ all) (sym (sym (append-nil texts) ∙ none)))
read_first bytes (r ∷ rs) at texts all up read is =
    by (texts_of (scan 0 (read.gate ∷ read.rest))) (sym (up (scan 0 (read.gate ∷ read.rest))) ∙ ap texts_of (sym (spelled bytes read.front read.rest read.gate r rs read.split read.is)) ∙ is)
  where
    by : (o : Option (List (List ℕ))) → with_texts texts o ≡ Some all → (more : List (List ℕ)) × (all ≡ texts ++ more)
    by None e = absurd (cc e)
    by (Some more) e = (more, sym (same_some (texts ++ more) all e))

pub stood : (s : Shown) (before : List Shown) (rs : List Record) (p : Place) → ReadTo (Some (record { now = s; before = before })) rs p → IsReadTo s.bytes rs p.at
stood s before rs p read = subst (λ (b : List ℕ). IsReadTo b rs p.at) (ap (λ (s : Shown). s.bytes) (sym read.1)) read.2

pub file_restarted : DamagedHasNoTexts → FilesAreRestarted
file_restarted damaged c texts log file = record {
  same = λ at made h it.
      let texts_are : it.0 ≡ texts = same_some it.0 texts (sym it.1.are_texts ∙ file.restores.are) in
      same_some made log (sym it.2.is ∙ ap log_of texts_are ∙ file.restores.is);
  whole = λ at found. no at found;
} where
  bytes : List ℕ
  bytes = drop 16 c.now.bytes

  no : (at : ℕ) → IsDamaged (behind 16 (Some c)) at ⊎ HasUnfitAt (behind 16 (Some c)) at → ⊥
  no at (inl found) = cc (sym (damaged bytes found.0 found.2 file.whole) ∙ file.restores.are)
  no at (inr found) =
      let first = read_first bytes found.read.0 found.next.at (found.before ++ found.unfit ∷ []) texts found.read.2
      (stood (shown_behind 16 c.now) (map (shown_behind 16) c.before) found.read.0 found.next found.read.1) file.restores.are in
      let lost : log_of texts ≡ None =
      ap log_of first.1 ∙ behind_more (Some []) (found.before ++ found.unfit ∷ []) first.0 ∙ ap (λ o. log_behind o first.0) found.none ∙ none_behind first.0 in
      cc (sym lost ∙ file.restores.is)

-- ---- the disk behind its title

module _ (begun t : Option Clock) (titled : IsSettled IsLog begun) (fronted : Fronted 16 begun t) where
  -- the title stands where the disk tells what it holds, and told so when it began
  front_title : (b : Clock) → begun ≡ Some b → IsTitle (front_of 16 begun)
  front_title b is = subst (λ o. IsTitle (front_of 16 o)) (sym is) (title_of b.now.bytes (subst (IsSettled IsLog) is titled).1)

  still_titled : (b c : Clock) → begun ≡ Some b → t ≡ Some c → IsLog c.now.bytes
  still_titled b c is now =
      let stands = (subst (Fronted 16 begun) now fronted).1.0 in
      subst IsLog (ap (λ (l : List ℕ). l ++ drop 16 c.now.bytes) (sym stands.1.1.1.0) ∙ take-append-drop 16 c.now.bytes) (title_then (front_of 16 begun) (drop 16 c.now.bytes) (front_title b is))

-- what is synced behind the front, and in it, is synced
none_mapped : (n : ℕ) (ranges : List Range) → map (range_behind n) ranges ≡ [] → ranges ≡ []
none_mapped n [] e = refl
none_mapped n (r ∷ ranges) e = absurd (cc e)

pub all_settled : (front : List ℕ) (s : Shown) (rest : List ℕ) → Stands 16 front s → shown_behind 16 s ≡ settled rest → s ≡ settled s.bytes
all_settled front s rest stands is =
    let behind_bytes : drop 16 s.bytes ≡ rest = ap (λ (u : Shown). u.bytes) is in
    let behind_synced : drop 16 s.synced ≡ rest = ap (λ (u : Shown). u.synced) is in
    let none : s.loose ≡ [] = none_mapped 16 s.loose (ap (λ (u : Shown). u.loose) is) in
    let same : s.synced ≡ s.bytes =
    sym (take-append-drop 16 s.synced) ∙ (λ i. (stands.1.0 i) ++ (behind_synced i)) ∙ sym (λ i. (stands.1.1.1.0 i) ++ (behind_bytes i)) ∙ take-append-drop 16 s.bytes in
    λ i. record { bytes = s.bytes; synced = same i; loose = none i }

-- ---- what reopen leaves

holds_log : (b c : Clock) (at : ℕ) (log : List Entry) (h : Hall) → IsSettled IsLog (Some b) → Fronted 16 (Some b) (Some c) → IsRestarted (behind 16 (Some c)) at log h → (texts : List (List ℕ)) × ShowsLog (Some c) texts log
holds_log b c at log h titled fronted it =
    let stands = fronted.1.0 in
    let held_here = it.1.holds in (
      it.0,
      (
        all_settled (front_of 16 (Some b)) c.now held_here.0 stands held_here.1,
        record {
          titled = still_titled (Some b) (Some c) titled fronted b c refl refl;
          whole = it.1.whole.whole;
          restores = record { are = it.1.are_texts; is = it.2.is };
        },
      ),
    )

-- each image is one of those from before, or the title with at most a byte
bare_or_old : (b : Clock) (image : List ℕ) → IsSettled IsLog (Some b) → HasBehind (front_of 16 (Some b)) (IsOldOrShort (behind 16 (Some b))) image → IsOldOrBare (Some b) image
bare_or_old b image titled has = by has.2 where
  title : IsTitle (take 16 b.now.bytes)
  title = title_of b.now.bytes titled.1

  by : IsImage (shown_behind 16 b.now) has.0 ⊎ ((length (drop 16 b.now.bytes) ≤ 1) × (length has.0 ≤ 1)) → IsOldOrBare (Some b) image
  by (inl old) =
      let still : IsImage (settled (drop 16 b.now.bytes)) has.0 = subst (λ s. IsImage (shown_behind 16 s) has.0) titled.0 old in
      inl (has.1 ∙ ap (λ (l : List ℕ). take 16 b.now.bytes ++ l) (settled_only (drop 16 b.now.bytes) has.0 still) ∙ take-append-drop 16 b.now.bytes)
  by (inr short) = inr (
    omega (arith, length-drop 16 b.now.bytes, short.0),
    subst IsLog (sym has.1) (title_then (take 16 b.now.bytes) has.0 title),
    omega (arith, ap length has.1, length-append (take 16 b.now.bytes) has.0, title.1, short.1),
  )

-- a file that spells the same restores the same
spells_on : (b c : Clock) (texts : List (List ℕ)) (log : List Entry) → IsLog c.now.bytes → SpellsSame (behind 16 (Some b)) (behind 16 (Some c)) → IsFileOf texts log b.now.bytes → IsFileOf texts log c.now.bytes
spells_on b c texts log titled same file = record {
  titled = titled;
  whole = same.1 ∙ file.whole;
  restores = subst (λ rs. Restore rs texts log) (sym same.0) file.restores;
}

-- what lies behind the title of a disk, as it was when it began
pub behind_begun : {X : Type 0} (tells : X → Option Clock) (a b : X) (begun : Option Clock) (m : ℕ) → a ≡ b → begun ≡ tells b → m ≡ 16 → behind m (tells a) ≡ behind 16 begun
behind_begun tells a b begun m same is size =
    let clock : tells a ≡ begun = ap tells same ∙ sym is in
    λ i. behind (size i) (clock i)

pub front_begun : {X : Type 0} (tells : X → Option Clock) (a b : X) (begun : Option Clock) (m : ℕ) → a ≡ b → begun ≡ tells b → m ≡ 16 → Fronted m begun (tells a) → Fronted 16 begun begun
front_begun tells a b begun m same is size fronted =
    let clock : tells a ≡ begun = ap tells same ∙ sym is in
    subst (λ k. Fronted k begun begun) size (subst (Fronted m begun) clock fronted)

-- of a disk whose title has stood since a restart began
module _ (law : FilesAreRestarted) (n : ℕ) (begun t : Option Clock) (P : List ℕ → Type 0) (titled : IsSettled IsLog begun) (first : Fronted 16 begun begun) (fronted : Fronted n begun t) (leaves : Leaves (behind 16 begun) (behind n t) P) where
  sized : (b c : Clock) → begun ≡ Some b → t ≡ Some c → 16 ≡ n
  sized b c is now =
      sizes_same 16 n (Some b) b (Some c) P (subst (λ o. Fronted 16 o o) is first) (subst (λ o. Fronted n (Some b) o) now (subst (λ o. Fronted n o t) is fronted))
      (subst (λ o. Leaves (behind 16 (Some b)) (behind n o) P) now (subst (λ o. Leaves (behind 16 o) (behind n t) P) is leaves))

  both : (b : Clock) → begun ≡ Some b → (c : Clock) × (t ≡ Some c)
  both b is = by t refl where
    by : (o : Option Clock) → t ≡ o → (c : Clock) × (t ≡ Some c)
    by (Some c) now = (c, now)
    by None now = absurd (subst (λ o. Leaves (behind 16 (Some b)) (behind n o) P) now (subst (λ o. Leaves (behind 16 o) (behind n t) P) is leaves))

  pub reopened_shows : (at : ℕ) (made : List Entry) (h : Hall) → IsTold begun → IsRestarted (behind n t) at made h → (n ≡ 16) × ((texts : List (List ℕ)) × ShowsLog t texts made)
  reopened_shows at made h told it = by begun refl told where
    by : (o : Option Clock) → begun ≡ o → IsTold o → (n ≡ 16) × ((texts : List (List ℕ)) × ShowsLog t texts made)
    by None is shown = absurd shown
    by (Some b) is shown =
        let now = both b is in
        let size = sized b now.0 is now.1 in
        let titled_b = subst (IsSettled IsLog) is titled in
        let front : Fronted 16 (Some b) (Some now.0) = subst (λ k. Fronted k (Some b) (Some now.0)) (sym size) (subst (λ o. Fronted n (Some b) o) now.1 (subst (λ o. Fronted n o t) is fronted)) in
        let again : IsRestarted (behind 16 (Some now.0)) at made h = subst (λ k. IsRestarted (behind k (Some now.0)) at made h) (sym size) (subst (λ o. IsRestarted (behind n o) at made h) now.1 it) in
        let found = holds_log b now.0 at made h titled_b front again in
        (sym size, (found.0, subst (λ o. ShowsLog o found.0 made) (sym now.1) found.1))

  restarted_now : (texts : List (List ℕ)) (log : List Entry) → ShowsLog begun texts log → SpellsSame (behind 16 begun) (behind n t) → (c : Clock) × (t ≡ Some c) × (16 ≡ n) × IsRestartedAs (Some c) log
  restarted_now texts log shows same = by begun refl shows where
    by : (o : Option Clock) → begun ≡ o → ShowsLog o texts log → (c : Clock) × (t ≡ Some c) × (16 ≡ n) × IsRestartedAs (Some c) log
    by None is shown = absurd shown
    by (Some b) is shown =
        let now = both b is in
        let size = sized b now.0 is now.1 in
        let titled_b = subst (IsSettled IsLog) is titled in
        let front : Fronted 16 (Some b) (Some now.0) = subst (λ k. Fronted k (Some b) (Some now.0)) (sym size) (subst (λ o. Fronted n (Some b) o) now.1 (subst (λ o. Fronted n o t) is fronted)) in
        let spells : SpellsSame (behind 16 (Some b)) (behind 16 (Some now.0)) =
        subst (λ k. SpellsSame (behind 16 (Some b)) (behind k (Some now.0))) (sym size) (subst (λ o. SpellsSame (behind 16 (Some b)) (behind n o)) now.1 (subst (λ o. SpellsSame (behind 16 o) (behind n t)) is same)) in
        (now.0, now.1, size, law now.0 texts log (spells_on b now.0 texts log (still_titled (Some b) (Some now.0) titled_b front b now.0 refl refl) spells shown.1))

  pub reopened_same : (at : ℕ) (made : List Entry) (h : Hall) (texts : List (List ℕ)) (log : List Entry) → SpellsSame (behind 16 begun) (behind n t) → ShowsLog begun texts log → IsRestarted (behind n t) at made h → made ≡ log
  reopened_same at made h texts log same shows it =
      let now = restarted_now texts log shows same in
      now.3.same at made h (subst (λ k. IsRestarted (behind k (Some now.0)) at made h) (sym now.2) (subst (λ o. IsRestarted (behind n o) at made h) now.1 it))

  pub reopened_whole : (at : ℕ) (texts : List (List ℕ)) (log : List Entry) → SpellsSame (behind 16 begun) (behind n t) → ShowsLog begun texts log → IsDamaged (behind n t) at ⊎ HasUnfitAt (behind n t) at → ⊥
  reopened_whole at texts log same shows found =
      let now = restarted_now texts log shows same in
      now.3.whole at (subst (λ k. IsDamaged (behind k (Some now.0)) at ⊎ HasUnfitAt (behind k (Some now.0)) at) (sym now.2) (subst (λ o. IsDamaged (behind n o) at ⊎ HasUnfitAt (behind n o) at) now.1 found))

pub reopen_left : (n : ℕ) (begun t : Option Clock) → IsSettled IsLog begun → Fronted 16 begun begun → Fronted n begun t → Leaves (behind 16 begun) (behind n t) (IsOldOrShort (behind 16 begun)) → Leaves begun t (IsOldOrBare begun)
reopen_left n None t titled first now leaves = tt
reopen_left n (Some b) None titled first now leaves = absurd leaves
reopen_left n (Some b) (Some c) titled first now leaves =
    let size = sizes_same 16 n (Some b) b (Some c) (IsOldOrShort (behind 16 (Some b))) first now leaves in
    leaves_weaker (Some b) (Some c) (HasBehind (front_of 16 (Some b)) (IsOldOrShort (behind 16 (Some b)))) (IsOldOrBare (Some b)) (λ image has. bare_or_old b image titled has)
    (leaves_behind 16 (Some b) (Some b) (Some c) (IsOldOrShort (behind 16 (Some b))) first (subst (λ k. Fronted k (Some b) (Some c)) (sym size) now)
    (subst (λ k. Leaves (behind 16 (Some b)) (behind k (Some c)) (IsOldOrShort (behind 16 (Some b)))) (sym size) leaves))
