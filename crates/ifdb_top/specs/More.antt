-- decides: the program
-- How the program ends by the words that it knows beside those of `run`, `serve` and `generate`.
use Rattle.std.specs.Prelude.{◌≡◌, ℕ, true, List, codes, String}
use Rattle.std.specs.declared.alloc.Global.{Global}
use Rattle.ifdb_words.specs.First.{is_first}
use Rattle.ifdb_top.specs.declared.base.Status.{Status}
use Rattle.ifdb_top.specs.declared.base.Status.TheVariants as status
use Rattle.ifdb_top.specs.declared.more.MoreStatus.{MoreStatus}
use Rattle.ifdb_top.specs.declared.more.MoreStatus.TheVariants.{Base, DiskFault, Damaged, TraceRefused}

-- the exit status
abbrev pub base_code : Status → ℕ
base_code status.Done = 0
base_code status.Usage = 1
base_code status.ReadFault = 2
base_code status.WriteFault = 3
base_code status.OutOfMemory = 4
base_code status.TooLarge = 5
base_code status.SiteFault = 6

abbrev pub exit_code : MoreStatus → ℕ
exit_code (Base s) = base_code s
exit_code DiskFault = 7
exit_code (Damaged at) = 8
exit_code TraceRefused = 9

-- the first word
abbrev pub IsCheck : List (String Global) → Type 0
IsCheck words = is_first (codes "check") words ≡ true

abbrev pub IsKeep : List (String Global) → Type 0
IsKeep words = is_first (codes "keep") words ≡ true

abbrev pub IsProject : List (String Global) → Type 0
IsProject words = is_first (codes "project") words ≡ true

abbrev pub IsClosures : List (String Global) → Type 0
IsClosures words = is_first (codes "closures") words ≡ true

-- it is none of these
pub record IsBase (words : List (String Global)) : Type 0 where
  pub no_check : IsCheck words → ⊥
  pub no_keep : IsKeep words → ⊥
  pub no_project : IsProject words → ⊥
  pub no_closures : IsClosures words → ⊥

-- the end is one of a base word, and this is so of it
abbrev pub OnBase : MoreStatus → (Status → Type 0) → Type 0
OnBase (Base s) P = P s
OnBase _ P = ⊥
