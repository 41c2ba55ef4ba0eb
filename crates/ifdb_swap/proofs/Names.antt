-- Names whose disks were taken, and what has them then.
use Rattle.std.proofs.Common.{◌≡◌, ◌≢◌, ℕ, Bool, true, false, List, [], ◌∷◌, ◌∙◌, refl, sym, ap, cond}
use Rattle.std.specs.Prelude.{Option, Some, bytes_eq}
use Rattle.std.proofs.lemmas.Slice.Eq.{bytes_eq-Decides}
use Rattle.ifdb_folder.specs.declared.named.Named.{Named}
use Rattle.ifdb_folder.specs.Folders.{disk_of, is_named, with_disk}

-- no name is two
two_names : (n name other : List ℕ) (b : Bool) → bytes_eq n name ≡ b → bytes_eq n other ≡ true → other ≢ name → b ≡ false
two_names n name other true is has apart = absurd (apart (sym ((bytes_eq-Decides n other).0 has) ∙ (bytes_eq-Decides n name).0 is))
two_names n name other false is has apart = refl

module _ {D : Type 0} where
  not_both : (n : Named D) (name other : List ℕ) → is_named other n ≡ true → other ≢ name → is_named name n ≡ false
  not_both n name other has apart = two_names n.name name other (is_named name n) refl has apart

  -- some entry has the name
  abbrev pub has_name : List ℕ → List (Named D) → Bool
  has_name name [] = false
  has_name name (n ∷ disks) = cond (is_named name n) true (has_name name disks)

  pub named : (name : List ℕ) (disks : List (Named D)) (d : D) → disk_of name disks ≡ Some d → has_name name disks ≡ true
  named name [] d e = absurd (cc e)
  named name (n ∷ disks) d e = by (is_named name n) e (named name disks d) where
    by : (b : Bool) → cond b n.disk (disk_of name disks) ≡ Some d → (disk_of name disks ≡ Some d → has_name name disks ≡ true) → cond b true (has_name name disks) ≡ true
    by true k more = refl
    by false k more = more k

  -- another disk changes no names
  pub same_names : (name other : List ℕ) (d : Option D) (disks : List (Named D)) → has_name name (with_disk other d disks) ≡ has_name name disks
  same_names name other d [] = refl
  same_names name other d (n ∷ disks) = by (is_named other n) (same_names name other d disks) where
    by : (b : Bool) → has_name name (with_disk other d disks) ≡ has_name name disks
        → has_name name (cond b (record n { disk = d } ∷ disks) (n ∷ with_disk other d disks)) ≡ has_name name (n ∷ disks)
    by true more = refl
    by false more = ap (cond (is_named name n) true) more

  pub disk_there : (name : List ℕ) (d : Option D) (disks : List (Named D)) → has_name name disks ≡ true → disk_of name (with_disk name d disks) ≡ d
  disk_there name d [] e = absurd (cc e)
  disk_there name d (n ∷ disks) e = by (is_named name n) refl e (disk_there name d disks) where
    by : (b : Bool) → is_named name n ≡ b → cond b true (has_name name disks) ≡ true → (has_name name disks ≡ true → disk_of name (with_disk name d disks) ≡ d)
        → disk_of name (cond b (record n { disk = d } ∷ disks) (n ∷ with_disk name d disks)) ≡ d
    by true is k more = ap (λ b. cond b d (disk_of name disks)) is
    by false is k more = ap (λ b. cond b n.disk (disk_of name (with_disk name d disks))) is ∙ more k

  -- another name keeps its disk
  pub disk_kept : (name other : List ℕ) (d : Option D) (disks : List (Named D)) → other ≢ name → disk_of name (with_disk other d disks) ≡ disk_of name disks
  disk_kept name other d [] apart = refl
  disk_kept name other d (n ∷ disks) apart = by (is_named other n) refl (disk_kept name other d disks apart) where
    by : (b : Bool) → is_named other n ≡ b → disk_of name (with_disk other d disks) ≡ disk_of name disks
        → disk_of name (cond b (record n { disk = d } ∷ disks) (n ∷ with_disk other d disks)) ≡ disk_of name (n ∷ disks)
    by true is more =
        let none : is_named name n ≡ false = not_both n name other is apart in
        ap (λ b. cond b d (disk_of name disks)) none ∙ sym (ap (λ b. cond b n.disk (disk_of name disks)) none)
    by false is more = ap (cond (is_named name n) n.disk) more
