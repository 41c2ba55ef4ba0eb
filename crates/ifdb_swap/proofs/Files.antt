-- What becomes of the file of a log while it is read, and what the file of an extract restores.
use Rattle.std.proofs.Common.{◌≡◌, ◌⊎◌, inl, inr, ℕ, ◌≤◌, true, List, [], ◌∷◌, ◌++◌, ◌∙◌, length, drop, refl, sym, ap, subst, arith, cond, length-append, length-drop}
use Rattle.std.specs.Prelude.{Option, Some, None, nat_le, ⊤}
use Rattle.std.specs.List.{AllByRecursion}
use Rattle.std.proofs.lemmas.Bool.Decides.{nat_tests}
use Rattle.std.proofs.lemmas.List.{take-append-drop}
use Rattle.ifdb_disk.specs.Images.{IsImage, Shown, settled}
use Rattle.ifdb_disk.specs.Clock.{Clock, Leaves, Now}
use Rattle.ifdb_disk.proofs.Moments.{leaves_on, leaves_weaker, since_here}
use Rattle.ifdb_disk.proofs.Store.{settled_only}
use Rattle.ifdb_journal.specs.Records.{break, damage, records, scan}
use Rattle.ifdb_journal.specs.Reading.{IsOldOrShort, SpellsSame}
use Rattle.ifdb_log.specs.Behind.{Fronted, HasBehind, Stands, behind, front_of, shown_behind}
use Rattle.ifdb_log.specs.Pieces.{texts_of}
use Rattle.ifdb_log.specs.Reading.{HoldsTexts}
use Rattle.ifdb_log.specs.Title.{Entitles, IsLog, IsNew, IsNewOrTitle, IsOldOrMade, IsSettled, title}
use Rattle.ifdb_log.proofs.Fronts.{leaves_behind}
use Rattle.ifdb_model.specs.Log.{Entry}
use Rattle.ifdb_restart.specs.Restarted.{log_of}
use Rattle.ifdb_extract.specs.Texts.{Extracted, IsExtractOf, change_texts, extract_of}
use Rattle.ifdb_extract.specs.Extracts.{AreTextsOfRows, HoldsExtract}
use Rattle.ifdb_extract.specs.Writing.{GoesOn}
use Rattle.ifdb_compact.specs.Compacted.{CompactedTextsRestore}
use Rattle.ifdb_reopen.specs.Files.{IsFileOf, IsFileOn, IsOldOrBare, IsOldOrBegun, IsTold, Restore, ShowsLog}
use Rattle.ifdb_reopen.proofs.Restarts.{all_settled, same_some}
use Rattle.ifdb_reopen.proofs.Sizes.{head_same, sizes_same}
use Rattle.ifdb_reopen.proofs.Titles.{IsTitle, title_of, title_then}
use Rattle.ifdb_reopen.proofs.Unopened.{IsTitledFrom, bare_unopened, file_behind, log_not_new, new_behind, shown_on, titled_unopened, told_behind, unopened_before}
use Rattle.ifdb_swap.specs.Swapped.{HasLog, HasNoLog, HoldsCompacted, HoldsFileOf, IsExtractFor, IsExtractIn, IsKept, IsOtherOn}

-- ---- files of no more than the title and a byte

little : (bytes : List ℕ) → length bytes ≤ 1 → nat_le (length bytes) 1 ≡ true
little bytes le = grind (arith, nat_tests, le)

no_records : (bytes : List ℕ) → length bytes ≤ 1 → records bytes ≡ []
no_records bytes le = ap (λ b. cond b [] (scan 0 bytes)) (little bytes le)

no_damage : (bytes : List ℕ) → length bytes ≤ 1 → damage bytes ≡ None
no_damage bytes le = ap (λ b. cond b None (break 0 0 bytes)) (little bytes le)

bare_file : (texts : List (List ℕ)) (log : List Entry) (bytes image : List ℕ) → IsFileOf texts log bytes → length bytes ≤ 17 → IsLog image → length image ≤ 17 → IsFileOf texts log image
bare_file texts log bytes image file short titled small =
    let rest : length (drop 16 bytes) ≤ 1 = omega (arith, length-drop 16 bytes, short) in
    let other : length (drop 16 image) ≤ 1 = omega (arith, length-drop 16 image, small) in
    let same : records (drop 16 bytes) ≡ records (drop 16 image) = no_records (drop 16 bytes) rest ∙ sym (no_records (drop 16 image) other) in
    record { titled = titled; whole = no_damage (drop 16 image) other; restores = subst (λ rs. Restore rs texts log) same file.restores }

-- a title alone is the file of no entries
title_only : (texts : List (List ℕ)) (log : List Entry) (bytes : List ℕ) → bytes ≡ title → IsFileOf texts log bytes → log ≡ []
title_only texts log bytes is file =
    let none : [] ≡ texts = same_some [] texts (ap (λ (l : List ℕ). texts_of (records (drop 16 l))) (sym is) ∙ file.restores.are) in
    sym (same_some [] log (ap log_of none ∙ file.restores.is))

-- ---- moments

-- what holds of the bytes at first, and of each image since, holds of the bytes now
leaves_now : (b c : Clock) (P : List ℕ → Type 0) → P b.now.bytes → IsImage c.now c.now.bytes → Leaves (Some b) (Some c) P → P c.now.bytes
leaves_now b c P first present leaves = by leaves.0 leaves.1 leaves.2 where
  by : (states : List Shown) → c.now ∷ c.before ≡ states ++ (b.now ∷ b.before) → AllByRecursion (λ (s : Shown). (image : List ℕ) → IsImage s image → P image) states → P c.now.bytes
  by [] e all = subst (λ (s : Shown). P s.bytes) (sym (head_same c.now b.now c.before b.before e)) first
  by (s ∷ states) e all =
      let same = head_same c.now s c.before (states ++ (b.now ∷ b.before)) e in
      all.0 c.now.bytes (subst (λ (s : Shown). IsImage s c.now.bytes) same present)

-- a disk that nothing was done to
pub kept_here : (t : Option Clock) → IsKept t t
kept_here t = record {
  unopened = since_here t (λ s. (image : List ℕ) → IsImage s image → IsOldOrBegun t image);
  file = λ texts log shows. since_here t (λ s. (image : List ℕ) → IsImage s image → IsFileOf texts log image);
}

-- ---- the title is made, or looked at

-- of a file with a log the title is only looked at
entitled_keeps : (t u : Option Clock) (texts : List (List ℕ)) (log : List Entry) → Leaves t u (IsOldOrMade t) → ShowsLog t texts log → Leaves t u (IsFileOf texts log)
entitled_keeps None u texts log moments shows = absurd shows
entitled_keeps (Some c) u texts log moments shows = leaves_weaker (Some c) u (IsOldOrMade (Some c)) (IsFileOf texts log) (λ image is. by image is) moments where
  by : (image : List ℕ) → IsImage c.now image ⊎ (IsNew c.now.bytes × IsNewOrTitle image) → IsFileOf texts log image
  by image (inl old) = subst (IsFileOf texts log) (sym (settled_only c.now.bytes image (subst (λ (s : Shown). IsImage s image) shows.0 old))) shows.1
  by image (inr new) = absurd (log_not_new c.now.bytes shows.1.titled new.0)

file_shown : (t : Option Clock) (texts : List (List ℕ)) (log : List Entry) → ShowsLog t texts log → IsFileOn t texts log
file_shown None texts log shows = absurd shows
file_shown (Some c) texts log shows = shows.1

pub kept_titled : (t u : Option Clock) → Leaves t u (IsOldOrMade t) → IsKept t u
kept_titled t u moments = record { unopened = titled_unopened t u moments; file = λ texts log shows. entitled_keeps t u texts log moments shows }

pub kept_before : (t u v : Option Clock) → IsTitledFrom t u → IsKept u v → IsKept t v
kept_before t u v k kept = record {
  unopened = unopened_before t u v k kept.unopened;
  file = λ texts log shows.
      leaves_on t u v (IsFileOf texts log) (entitled_keeps t u texts log k.moments shows)
      (kept.file texts log (shown_on u texts log k.titled (file_behind t u texts log k (file_shown t texts log shows))));
}

-- the log of a file whose title was looked at, and none of one whose title was made
log_before : (c d : Clock) (texts : List (List ℕ)) (log : List Entry) → Entitles (Some c) (Some d) → IsFileOf texts log d.now.bytes → HasLog (Some c) log
log_before c d texts log (inl made) file = inr (made.0, title_only texts log d.now.bytes made.1 file)
log_before c d texts log (inr kept) file = inl (texts, subst (IsFileOf texts log) kept file)

has_before : (t u : Option Clock) (log : List Entry) → IsTitledFrom t u → IsTold t → HasLog u log → HasLog t log
has_before None u log k told has = absurd told
has_before (Some c) None log k told has = absurd k.moments
has_before (Some c) (Some d) log k told (inl file) = log_before c d file.0 log k.entitles file.1
has_before (Some c) (Some d) log k told (inr new) = absurd (log_not_new d.now.bytes k.titled.1 new.0)

pub extract_before : (t u : Option Clock) (x : Extracted) → IsTitledFrom t u → IsExtractIn u x → IsExtractIn t x
extract_before t u x k extract = λ told.
    let found = extract (told_behind t u k told) in
    (found.0, has_before t u found.0 k told found.1, found.2)

pub none_before : (t u : Option Clock) → IsTitledFrom t u → HasNoLog u → HasNoLog t
none_before t u k none log (inl file) = none log (inl (file.0, file_behind t u file.0 log k file.1))
none_before t u k none log (inr new) = none [] (inl ([], new_behind t u k new.0))

-- a file that is neither new nor a log gets no title
pub own_title : (t u : Option Clock) → IsTitledFrom t u → IsOtherOn t → ⊥
own_title None u k other = other
own_title (Some c) None k other = k.moments
own_title (Some c) (Some d) k other = by k.entitles where
  by : Entitles (Some c) (Some d) → ⊥
  by (inl made) = other.1 made.0
  by (inr kept) = other.0 (subst IsLog kept k.titled.1)

-- ---- the log is made again

bare_keeps : (t u : Option Clock) (texts : List (List ℕ)) (log : List Entry) → Leaves t u (IsOldOrBare t) → ShowsLog t texts log → Leaves t u (IsFileOf texts log)
bare_keeps None u texts log moments shows = absurd shows
bare_keeps (Some c) u texts log moments shows = leaves_weaker (Some c) u (IsOldOrBare (Some c)) (IsFileOf texts log) (λ image is. by image is) moments where
  by : (image : List ℕ) → (image ≡ c.now.bytes) ⊎ ((length c.now.bytes ≤ 17) × IsLog image × (length image ≤ 17)) → IsFileOf texts log image
  by image (inl same) = subst (IsFileOf texts log) (sym same) shows.1
  by image (inr bare) = bare_file texts log c.now.bytes image shows.1 bare.0 bare.1 bare.2

pub kept_bare : (t u : Option Clock) → Now t (λ s. IsImage s s.bytes) → IsSettled IsLog t → Leaves t u (IsOldOrBare t) → IsKept t u
kept_bare t u present titled moments = record {
  unopened = bare_unopened t u present titled moments;
  file = λ texts log shows. bare_keeps t u texts log moments shows;
}

-- the file that a disk shows then it had before
pub file_before : (t u : Option Clock) (texts : List (List ℕ)) (log : List Entry) → IsSettled IsLog t → Now u (λ s. IsImage s s.bytes) → Leaves t u (IsOldOrBare t) → IsTold t → ShowsLog u texts log → IsFileOn t texts log
file_before None u texts log titled present moments told shows = absurd told
file_before (Some b) None texts log titled present moments told shows = absurd shows
file_before (Some b) (Some c) texts log titled present moments told shows = by (leaves_now b c (IsOldOrBare (Some b)) (inl refl) present moments) where
  by : (c.now.bytes ≡ b.now.bytes) ⊎ ((length b.now.bytes ≤ 17) × IsLog c.now.bytes × (length c.now.bytes ≤ 17)) → IsFileOf texts log b.now.bytes
  by (inl same) = subst (IsFileOf texts log) same shows.1
  by (inr bare) = bare_file texts log c.now.bytes b.now.bytes shows.1 bare.2 titled.1 bare.0

pub none_titled : (t : Option Clock) → IsSettled IsLog t → ((texts : List (List ℕ)) (log : List Entry) → ShowsLog t texts log → ⊥) → HasNoLog t
none_titled None titled none log (inl file) = file.1
none_titled None titled none log (inr new) = new.0
none_titled (Some c) titled none log (inl file) = none file.0 log (titled.0, file.1)
none_titled (Some c) titled none log (inr new) = log_not_new c.now.bytes titled.1 new.0

-- ---- the log is read again

-- the bytes are the front and what lies behind it
front_and_rest : (front : List ℕ) (s : Shown) → Stands 16 front s → front ++ drop 16 s.bytes ≡ s.bytes
front_and_rest front s stands = ap (λ (l : List ℕ). l ++ drop 16 s.bytes) (sym stands.1.1.1.0) ∙ take-append-drop 16 s.bytes

-- an image of a synced disk is its bytes or, as they were, the title with at most one byte behind it
old_or_bare : (front bytes image : List ℕ) (s : Shown) → s ≡ settled bytes → IsTitle front → front ++ drop 16 s.bytes ≡ s.bytes → (rest : List ℕ) → image ≡ front ++ rest
    → IsImage (shown_behind 16 s) rest ⊎ ((length (drop 16 s.bytes) ≤ 1) × (length rest ≤ 1)) → (image ≡ s.bytes) ⊎ ((length s.bytes ≤ 17) × IsLog image × (length image ≤ 17))
old_or_bare front bytes image s synced titled both rest is (inl old) =
    let same : drop 16 s.bytes ≡ drop 16 bytes = ap (λ (u : Shown). drop 16 u.bytes) synced in
    let left : rest ≡ drop 16 bytes = settled_only (drop 16 bytes) rest (subst (λ (u : Shown). IsImage (shown_behind 16 u) rest) synced old) in
    inl (is ∙ ap (λ (l : List ℕ). front ++ l) (left ∙ sym same) ∙ both)
old_or_bare front bytes image s synced titled both rest is (inr short) = inr (
  omega (arith, length-drop 16 s.bytes, short.0),
  subst IsLog (sym is) (title_then front rest titled),
  omega (arith, ap length is, length-append front rest, titled.1, short.1),
)

pub read_leaves : (n : ℕ) (begun t u : Option Clock) → IsSettled IsLog begun → Fronted 16 begun t → Fronted n begun u → Now t (λ s. s ≡ settled s.bytes) → Leaves (behind 16 t) (behind n u) (IsOldOrShort (behind 16 t)) → IsTold begun
    → Leaves t u (IsOldOrBare t)
read_leaves n None t u titled first last synced read told = absurd told
read_leaves n (Some b) None u titled first last synced read told = tt
read_leaves n (Some b) (Some c) None titled first last synced read told = absurd read
read_leaves n (Some b) (Some c) (Some d) titled first last synced read told =
    let front = front_of 16 (Some b) in
    let size = sizes_same 16 n (Some b) c (Some d) (IsOldOrShort (behind 16 (Some c))) first last read in
    let last_16 : Fronted 16 (Some b) (Some d) = subst (λ k. Fronted k (Some b) (Some d)) (sym size) last in
    let read_16 : Leaves (behind 16 (Some c)) (behind 16 (Some d)) (IsOldOrShort (behind 16 (Some c))) =
    subst (λ k. Leaves (behind 16 (Some c)) (behind k (Some d)) (IsOldOrShort (behind 16 (Some c)))) (sym size) read in
    leaves_weaker (Some c) (Some d) (HasBehind front (IsOldOrShort (behind 16 (Some c)))) (IsOldOrBare (Some c))
    (λ image has. old_or_bare front c.now.bytes image c.now synced (title_of b.now.bytes titled.1) (front_and_rest front c.now first.1.0) has.0 has.1 has.2)
    (leaves_behind 16 (Some b) (Some c) (Some d) (IsOldOrShort (behind 16 (Some c))) first last_16 read_16)

-- an image that was left when a disk was read again, of one that began with the title
begun_again : (b c : Clock) (image : List ℕ) → IsSettled IsLog (Some b) → IsOldOrBegun (Some b) c.now.bytes → (image ≡ c.now.bytes) ⊎ ((length c.now.bytes ≤ 17) × IsLog image × (length image ≤ 17)) → IsOldOrBegun (Some b) image
begun_again b c image titled now (inl same) = subst (IsOldOrBegun (Some b)) (sym same) now
begun_again b c image titled (inl old) (inr bare) =
    let same : c.now.bytes ≡ b.now.bytes = settled_only b.now.bytes c.now.bytes (subst (λ (s : Shown). IsImage s c.now.bytes) titled.0 old) in
    inr (inr (titled.1, subst (λ (l : List ℕ). length l ≤ 17) same bare.0), inr (bare.1, bare.2))
begun_again b c image titled (inr none) (inr bare) = inr (none.0, inr (bare.1, bare.2))

-- what was kept until a disk was read again is kept
pub kept_on : (t u v : Option Clock) → Now t (λ s. IsImage s s.bytes) → Now u (λ s. IsImage s s.bytes) → IsSettled IsLog t → IsSettled IsLog u → IsKept t u → Leaves u v (IsOldOrBare u) → IsKept t v
kept_on None u v before present titled still kept read = record { unopened = tt; file = λ texts log shows. absurd shows }
kept_on (Some b) None v before present titled still kept read = absurd kept.unopened
kept_on (Some b) (Some c) v before present titled still kept read =
    let now : IsOldOrBegun (Some b) c.now.bytes = leaves_now b c (IsOldOrBegun (Some b)) (inl before) present kept.unopened in
    record {
      unopened = leaves_on (Some b) (Some c) v (IsOldOrBegun (Some b)) kept.unopened
          (leaves_weaker (Some c) v (IsOldOrBare (Some c)) (IsOldOrBegun (Some b)) (λ image is. begun_again b c image titled now is) read);
      file = λ texts log shows.
          leaves_on (Some b) (Some c) v (IsFileOf texts log) (kept.file texts log shows)
          (bare_keeps (Some c) v texts log read (still.0, leaves_now b c (IsFileOf texts log) shows.1 present (kept.file texts log shows)));
    }

-- what was read a second time is what restored the log
pub read_extract : (n : ℕ) (t u : Option Clock) (texts : List (List ℕ)) (log : List Entry) (x : Extracted) → ShowsLog t texts log → Leaves (behind 16 t) (behind n u) (IsOldOrShort (behind 16 t)) → SpellsSame (behind 16 t) (behind n u)
    → IsExtractOf (behind n u) x → IsExtractFor x log
read_extract n None u texts log x shows moments same is = absurd shows
read_extract n (Some c) None texts log x shows moments same is = absurd moments
read_extract n (Some c) (Some d) texts log x shows moments same is =
    let again : texts_of (records (drop n d.now.bytes)) ≡ Some texts = ap texts_of same.0 ∙ shows.1.restores.are in
    let one : is.0 ≡ texts = same_some is.0 texts (sym is.2.are_texts ∙ again) in
    (texts, shows.1.restores.is, is.3 ∙ ap extract_of one)

-- ---- the new file

pub written_file : (n : ℕ) (begun u : Option Clock) (x : Extracted) → IsTold begun → IsSettled IsLog begun → Fronted 16 begun begun → Fronted n begun u → GoesOn (behind 16 begun) (behind n u) → HoldsExtract (behind n u) x → HoldsFileOf u x
written_file n None u x told titled first last later holds = absurd told
written_file n (Some b) None x told titled first last later holds = absurd later
written_file n (Some b) (Some d) x told titled first last later holds =
    let size = sizes_same 16 n (Some b) b (Some d) (λ image. ⊤) first last later in
    let last_16 : Fronted 16 (Some b) (Some d) = subst (λ k. Fronted k (Some b) (Some d)) (sym size) last in
    let holds_16 : HoldsExtract (behind 16 (Some d)) x = subst (λ k. HoldsExtract (behind k (Some d)) x) (sym size) holds in
    let stands = last_16.1.0 in
    let front = front_of 16 (Some b) in
    let inside = holds_16.holds.holds in
    record {
      told = tt;
      titled = (all_settled front d.now inside.0 stands inside.1, subst IsLog (front_and_rest front d.now stands) (title_then front (drop 16 d.now.bytes) (title_of b.now.bytes titled.1)));
      holds = holds_16;
    }

-- the file of an extract is that of the compacted log
pub file_compacted : CompactedTextsRestore → (u : Option Clock) (x : Extracted) (log : List Entry) → IsExtractFor x log → HoldsFileOf u x → HoldsCompacted u log
file_compacted restores u x log comes file =
    let rows = subst (λ (y : Extracted). AreTextsOfRows file.holds.more y.rows) comes.2 file.holds.rows in
    let found = restores comes.0 file.holds.more log comes.1 rows in
    let changes : x.changes ≡ change_texts comes.0 = ap (λ (y : Extracted). y.changes) comes.2 in
    let texts = x.changes ++ file.holds.more in
    let is : log_of texts ≡ Some found.0 = ap (λ (l : List (List ℕ)). log_of (l ++ file.holds.more)) changes ∙ found.1 in
    record { texts = texts; short = found.0; shows = by u texts found.0 file.holds.at file.told file.titled file.holds.holds is; compacted = found.2 }
  where
    by : (o : Option Clock) (texts : List (List ℕ)) (short : List Entry) (at : ℕ) → IsTold o → IsSettled IsLog o → HoldsTexts (behind 16 o) texts at → log_of texts ≡ Some short → ShowsLog o texts short
    by None texts short at told titled holds is = absurd told
    by (Some c) texts short at told titled holds is = (titled.0, record { titled = titled.1; whole = holds.whole.whole; restores = record { are = holds.are_texts; is = is } })
