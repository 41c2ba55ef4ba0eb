-- A name that has no disk stays so.
use Rattle.std.proofs.Common.{◌≡◌, ℕ, Bool, true, false, List, [], ◌∷◌, refl, sym, ap, cond}
use Rattle.std.specs.Prelude.{None}
use Rattle.ifdb_folder.specs.declared.named.Named.{Named}
use Rattle.ifdb_folder.specs.Folders.{disk_of, is_named, with_disk}

module _ {D : Type 0} where
  none_of : (n : Named D) → n.disk ≡ None → record n { disk = None } ≡ n
  none_of n e = sym (λ i. record n { disk = e i })

  pub none_taken : (name : List ℕ) (disks : List (Named D)) → disk_of name disks ≡ None → with_disk name None disks ≡ disks
  none_taken name [] e = refl
  none_taken name (n ∷ disks) e = by (is_named name n) e (none_taken name disks) where
    by : (b : Bool) → cond b n.disk (disk_of name disks) ≡ None → (disk_of name disks ≡ None → with_disk name None disks ≡ disks)
        → cond b (record n { disk = None } ∷ disks) (n ∷ with_disk name None disks) ≡ n ∷ disks
    by true k more = ap (λ m. m ∷ disks) (none_of n k)
    by false k more = ap (λ l. n ∷ l) (more k)
