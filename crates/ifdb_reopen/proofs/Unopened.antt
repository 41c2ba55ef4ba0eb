-- A disk from before it was given its title, or was read, to the one that it is then.
use Rattle.std.proofs.Common.{◌≡◌, ◌≢◌, inl, inr, ℕ, List, [], ◌∷◌, ◌++◌, ◌∙◌, length, refl, sym, ap, subst, arith, append-nil}
use Rattle.std.specs.Prelude.{Option, Some, None}
use Rattle.ifdb_disk.specs.Images.{IsImage}
use Rattle.ifdb_disk.specs.Clock.{Clock, Leaves, Now}
use Rattle.ifdb_disk.proofs.Moments.{leaves_on, leaves_weaker}
use Rattle.ifdb_disk.proofs.Store.{settled_only}
use Rattle.ifdb_log.specs.Title.{Entitles, IsLog, IsNew, IsNewOrTitle, IsOldOrMade, IsSettled, title, title_rest}
use Rattle.ifdb_model.specs.Log.{Entry}
use Rattle.ifdb_reopen.specs.Files.{IsBare, IsFileOf, IsFileOn, IsNewOn, IsOldOrBare, IsOldOrBegun, IsTold, IsUnopened, ShowsLog}
use Rattle.ifdb_reopen.proofs.Titles.{title_file, title_size}

pub log_not_new : (b : List ℕ) → IsLog b → IsNew b → ⊥
log_not_new b log (inl short) = omega (arith, title_size b log, short)
log_not_new b log (inr shut) =
    let same : log.0 ∷ (title_rest ++ log.1) ≡ 0 ∷ shut.0 = sym log.3 ∙ shut.1 in
    log.2 (cc same)

title_bare : (b : List ℕ) → b ≡ title → IsBare b
title_bare b is = let nonzero : 105 ≢ 0 = omega arith in inr ((105, [], nonzero, is), omega (arith, ap length is))

made_bare : (b : List ℕ) → IsNewOrTitle b → IsBare b
made_bare b (inl new) = inl new
made_bare b (inr (first, nonzero, is)) = inr ((first, [], nonzero, is ∙ ap (λ (l : List ℕ). first ∷ l) (sym (append-nil title_rest))), omega (arith, ap length is))

-- ---- a disk that was given its title

-- what is known of it
pub record IsTitledFrom (t u : Option Clock) : Type 0 where
  pub present : Now t (λ s. IsImage s s.bytes)
  pub titled : IsSettled IsLog u
  pub entitles : Entitles t u
  pub moments : Leaves t u (IsOldOrMade t)

image_before : (c d : Clock) → IsTitledFrom (Some c) (Some d) → (image : List ℕ) → IsOldOrBegun (Some d) image → IsOldOrBegun (Some c) image
image_before c d k image (inl old) = by k.entitles
  where
    same : image ≡ d.now.bytes
    same = settled_only d.now.bytes image (subst (λ s. IsImage s image) k.titled.0 old)

    by : Entitles (Some c) (Some d) → IsOldOrBegun (Some c) image
    by (inl made) = inr (inl made.0, title_bare image (same ∙ made.1))
    by (inr kept) = inl (subst (IsImage c.now) (sym (same ∙ kept)) k.present)
image_before c d k image (inr bare) = by k.entitles
  where
    by : Entitles (Some c) (Some d) → IsOldOrBegun (Some c) image
    by (inl made) = inr (inl made.0, bare.1)
    by (inr kept) = inr (subst IsBare kept bare.0, bare.1)

pub titled_unopened : (t u : Option Clock) → Leaves t u (IsOldOrMade t) → IsUnopened t u
titled_unopened None u moments = tt
titled_unopened (Some c) u moments = leaves_weaker (Some c) u (IsOldOrMade (Some c)) (IsOldOrBegun (Some c)) begun moments
  where
    begun : (image : List ℕ) → IsOldOrMade (Some c) image → IsOldOrBegun (Some c) image
    begun image (inl old) = inl old
    begun image (inr made) = inr (inl made.0, made_bare image made.1)

pub unopened_before : (t u v : Option Clock) → IsTitledFrom t u → IsUnopened u v → IsUnopened t v
unopened_before None u v k unopened = tt
unopened_before (Some c) None v k unopened = absurd k.moments
unopened_before (Some c) (Some d) v k unopened =
    leaves_on (Some c) (Some d) v (IsOldOrBegun (Some c)) (titled_unopened (Some c) (Some d) k.moments)
    (leaves_weaker (Some d) v (IsOldOrBegun (Some d)) (IsOldOrBegun (Some c)) (image_before c d k) unopened)

pub told_behind : (t u : Option Clock) → IsTitledFrom t u → IsTold t → IsTold u
told_behind None u k told = absurd told
told_behind (Some c) None k told = absurd k.moments
told_behind (Some c) (Some d) k told = tt

pub file_behind : (t u : Option Clock) (texts : List (List ℕ)) (log : List Entry) → IsTitledFrom t u → IsFileOn t texts log → IsFileOn u texts log
file_behind None u texts log k file = absurd file
file_behind (Some c) None texts log k file = absurd k.moments
file_behind (Some c) (Some d) texts log k file = by k.entitles
  where
    by : Entitles (Some c) (Some d) → IsFileOf texts log d.now.bytes
    by (inl made) = absurd (log_not_new c.now.bytes file.titled made.0)
    by (inr kept) = subst (IsFileOf texts log) (sym kept) file

pub new_behind : (t u : Option Clock) → IsTitledFrom t u → IsNewOn t → IsFileOn u [] []
new_behind None u k new = absurd new
new_behind (Some c) None k new = absurd k.moments
new_behind (Some c) (Some d) k new = by k.entitles
  where
    by : Entitles (Some c) (Some d) → IsFileOf [] [] d.now.bytes
    by (inl made) = subst (IsFileOf [] []) (sym made.1) title_file
    by (inr kept) = absurd (log_not_new d.now.bytes k.titled.1 (subst IsNew (sym kept) new))

-- ---- a disk that was read again

pub bare_unopened : (t u : Option Clock) → Now t (λ s. IsImage s s.bytes) → IsSettled IsLog t → Leaves t u (IsOldOrBare t) → IsUnopened t u
bare_unopened None u present titled moments = tt
bare_unopened (Some c) u present titled moments = leaves_weaker (Some c) u (IsOldOrBare (Some c)) (IsOldOrBegun (Some c)) begun moments
  where
    begun : (image : List ℕ) → IsOldOrBare (Some c) image → IsOldOrBegun (Some c) image
    begun image (inl same) = inl (subst (IsImage c.now) (sym same) present)
    begun image (inr bare) = inr (inr (titled.1, bare.0), inr (bare.1, bare.2))

-- a file that is all synced is shown
pub shown_on : (t : Option Clock) (xs : List (List ℕ)) (log : List Entry) → IsSettled IsLog t → IsFileOn t xs log → ShowsLog t xs log
shown_on None xs log titled file = absurd file
shown_on (Some c) xs log titled file = (titled.0, file)
