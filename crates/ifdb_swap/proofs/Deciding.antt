-- Whether a file is worth a compaction.
use Rattle.std.proofs.Common.{◌≡◌, ℕ, ◌≤◌, Bool, true, false, ◌∙◌, inl, length, sym, ap, subst, arith}
use Rattle.std.specs.Prelude.{Option, Some, None, Result, Ok, Err, IfOk, IfSome, OnErr, OnOk}
use Rattle.std.proofs.lemmas.Bool.Decides.{nat_tests}
use Rattle.ifdb_disk.specs.Clock.{Clock, Now}
use Rattle.ifdb_log.specs.Causes.{HasLogCause}
use Rattle.ifdb_log.specs.declared.fault.LogFault.{LogFault}
use Rattle.ifdb_log.specs.declared.fault.LogFault.TheVariants as fault
use Rattle.ifdb_extract.specs.Texts.{Extracted}
use Rattle.ifdb_extract.specs.Extracts.{IsSizeOf}
use Rattle.ifdb_extract.specs.Worth.{is_worth}
use Rattle.ifdb_reopen.specs.Causes.{IsCaused}
use Rattle.ifdb_swap.specs.Swapped.{IsExtractIn, IsUnneeded, IsWorth}

-- a file that isn't even worth it where nothing is left is short
short_file : (size : ℕ) → is_worth size 0 ≡ false → size ≤ 67108864
short_file size none = grind (arith, nat_tests, none)

pub short_unneeded : (t : Option Clock) (size : ℕ) → Now t (λ s. size ≡ length s.bytes) → is_worth size 0 ≡ false → IsUnneeded t
short_unneeded None size is none = inl tt
short_unneeded (Some c) size is none = inl (omega (arith, is, short_file size none))

pub worth_of : (answer : Bool) (t : Option Clock) (size n : ℕ) (x : Extracted) → Now t (λ s. size ≡ length s.bytes) → IsExtractIn t x → IsSizeOf n x → is_worth size n ≡ answer → IsWorth answer t
worth_of answer None size n x is extract sized worth = tt
worth_of answer (Some c) size n x is extract sized worth =
    let found = extract tt in
    (found.0, n, found.1, (x, found.2, sized), ap (λ k. is_worth k n) (sym is) ∙ worth)

-- what was found is worth it, where it is wanted for that
pub worth_found : (t u : Option Clock) (size : ℕ) (x : Extracted) (Wanted : Type 0) (read : Result Extracted LogFault) (r : Result (Option Extracted) LogFault) → u ≡ t → Now t (λ s. size ≡ length s.bytes) → read ≡ Ok x
    → IfOk read (IsExtractIn u) → IfOk r (λ found. IfSome found (λ y. Wanted → (n : ℕ) × IsSizeOf n x × (is_worth size n ≡ true))) → IfOk r (λ found. IfSome found (λ y. Wanted → IsWorth true t))
worth_found t u size x Wanted read (Ok None) same sized is extract needed = tt
worth_found t u size x Wanted read (Ok (Some y)) same sized is extract needed = λ wanted.
    let found = needed wanted in
    worth_of true t size found.0 x sized (subst (λ o. IsExtractIn o x) same (subst (λ q. IfOk q (IsExtractIn u)) is extract)) found.1 found.2
worth_found t u size x Wanted read (Err f) same sized is extract needed = tt

-- of what was found two facts are known, and from them another
pub if_both : {A E : Type 0} {P R : A → Type 0} {Q : Type 0} (r : Result A E) → IfOk r P → OnOk r Q → ((x : A) → P x → Q → R x) → IfOk r R
if_both (Ok x) p q so = so x p q
if_both (Err e) p q so = tt

pub ok_any : {A E : Type 0} {Q : Type 0} (r : Result A E) → Q → OnOk r Q
ok_any (Ok x) q = q
ok_any (Err e) q = tt

pub err_any : {A E : Type 0} {Q : Type 0} (r : Result A E) → Q → OnErr r Q
err_any (Ok x) q = tt
err_any (Err e) q = q

-- want of memory is no damage
pub not_damaged : {A : Type 0} (r : Result A LogFault) (at : ℕ) → OnErr r (r ≡ Err fault.OutOfMemory) → r ≡ Err (fault.Damaged at) → ⊥
not_damaged (Ok x) at memory is = cc is
not_damaged (Err f) at memory is = cc (memory, is)

-- a fault of a log came so, whatever else there might have been
pub caused_so : (A : Type 0) (m n : ℕ) (f : LogFault) → HasLogCause {T = A} m n (Err f) → IsCaused m n f
caused_so A m n fault.Disk cause = cause
caused_so A m n fault.NotALog cause = cause
caused_so A m n (fault.Damaged at) cause = cause
caused_so A m n fault.OutOfMemory cause = cause
