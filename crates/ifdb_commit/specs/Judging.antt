-- What a judged COMMIT comes out with.
use Rattle.ifdb_row.specs.ByReference.{slot_of}
use Rattle.ifdb_row.specs.Verdict.{Verdict, commit_label, conflict, broken_reference, still_referenced, go, Witness, nothing, at_slot, at_stamp, at_parent}
use Rattle.ifdb_commit.specs.declared.judge.Judged.{Judged}
use Rattle.ifdb_commit.specs.declared.judge.Judged.TheVariants.{Go, CommitLabel, Conflict, BrokenReference, StillReferenced}

-- its case
abbrev pub case_of : Judged → Verdict
case_of Go = go
case_of (CommitLabel s) = commit_label
case_of (Conflict c) = conflict
case_of (BrokenReference s) = broken_reference
case_of (StillReferenced l) = still_referenced

-- what shows it
abbrev pub shown_by : Judged → Witness
shown_by Go = nothing
shown_by (CommitLabel s) = at_slot s.now
shown_by (Conflict c) = at_stamp c.slot.now c.stamp
shown_by (BrokenReference s) = at_slot s.now
shown_by (StillReferenced l) = at_parent (slot_of l.child) l.parent.now
