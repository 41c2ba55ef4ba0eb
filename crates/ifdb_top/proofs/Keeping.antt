-- How a kept script ends is told by its status.
use Rattle.std.proofs.Common.{◌≡◌, ◌≢◌, refl}
use Rattle.ifdb_keep.specs.declared.keep.KeepEnd.{KeepEnd}
use Rattle.ifdb_keep.specs.declared.keep.KeepEnd.TheVariants as kept
use Rattle.ifdb_top.specs.declared.base.Status.TheVariants as status
use Rattle.ifdb_top.specs.declared.more.MoreStatus.{MoreStatus}
use Rattle.ifdb_top.specs.declared.more.MoreStatus.TheVariants.{Base, DiskFault, Damaged}
use Rattle.ifdb_top.specs.Keep.{IsKeepEnd, IsKeptOrLacking, status_of}

-- the end that has this status, if one has
abbrev pub end_for : MoreStatus → KeepEnd
end_for (Base status.ReadFault) = kept.ReadFault
end_for (Base status.WriteFault) = kept.WriteFault
end_for (Base status.OutOfMemory) = kept.OutOfMemory
end_for (Base status.TooLarge) = kept.TooLarge
end_for DiskFault = kept.DiskFault
end_for (Damaged at) = kept.Damaged at
end_for _ = kept.Done

pub end_for_its_status : (e : KeepEnd) → end_for (status_of e) ≡ e
end_for_its_status kept.Done = refl
end_for_its_status kept.ReadFault = refl
end_for_its_status kept.WriteFault = refl
end_for_its_status kept.OutOfMemory = refl
end_for_its_status kept.TooLarge = refl
end_for_its_status kept.DiskFault = refl
end_for_its_status (kept.Damaged at) = refl

pub is_keep_end : (e : KeepEnd) → IsKeepEnd (status_of e)
is_keep_end kept.Done = tt
is_keep_end kept.ReadFault = tt
is_keep_end kept.WriteFault = tt
is_keep_end kept.OutOfMemory = tt
is_keep_end kept.TooLarge = tt
is_keep_end kept.DiskFault = tt
is_keep_end (kept.Damaged at) = tt

-- without a fault, and within the limit
pub kept_or_lacking : (e : KeepEnd) → e ≢ kept.ReadFault → e ≢ kept.WriteFault → e ≢ kept.TooLarge → e ≢ kept.DiskFault → IsKeptOrLacking (status_of e)
kept_or_lacking kept.Done r w l d = tt
kept_or_lacking kept.ReadFault r w l d = absurd (r refl)
kept_or_lacking kept.WriteFault r w l d = absurd (w refl)
kept_or_lacking kept.OutOfMemory r w l d = tt
kept_or_lacking kept.TooLarge r w l d = absurd (l refl)
kept_or_lacking kept.DiskFault r w l d = absurd (d refl)
kept_or_lacking (kept.Damaged at) r w l d = tt
