-- Worked rows, which the definitions are computed on. Lines are read here as requests with a fault: which sessions are open doesn't
-- hang on them.
use Rattle.std.specs.Prelude.{◌≡◌, [], ◌∷◌, Err, codes}
use Rattle.std.proofs.Common.{refl}
use Rattle.ifdb_wire.specs.declared.fault.Fault.TheVariants as fault
use Rattle.ifdb_journal.specs.declared.record.RecordKind.TheVariants as kind
use Rattle.ifdb_model.specs.Step.{Reader}
use Rattle.ifdb_model.specs.Run.{opens, asks, refused, long, stray, leaves, opening}
use Rattle.ifdb_replay.specs.Replay.{kept, replay, opened, asked}
use Rattle.ifdb_replay.specs.FirstWord.{only_looks}

abbrev pub all_faults : Reader
all_faults line = Err (fault.Syntax 0)

-- a line that looks at something, a step for which there was no memory, lines of no open session and lines that aren't steps have no
-- record
pub kept_row :
    kept only_looks all_faults opening (opens ∷ asks 1 (codes "BEGIN") ∷ asks 1 (codes " Select id FROM note") ∷ asks 2 (codes "BEGIN") ∷ refused 1 ∷ long ∷ stray ∷ asks 0 (codes "BEGIN") ∷ opens ∷ asks 2 (codes "SHOWS") ∷ [])
    ≡ opened ∷ asked 1 (codes "BEGIN") ∷ opened ∷ asked 2 (codes "SHOWS") ∷ []
kept_row = refl

-- at a restart all open sessions leave, in rising order, and sessions that are opened behind it have higher numbers
pub replay_row :
    replay all_faults opening (opened ∷ opened ∷ asked 2 (codes "BEGIN") ∷ record { kind = kind.Restart; session = 0; line = [] } ∷ opened ∷ record { kind = kind.Restart; session = 0; line = [] } ∷ [])
    ≡ opens ∷ opens ∷ asks 2 (codes "BEGIN") ∷ leaves 1 ∷ leaves 2 ∷ opens ∷ leaves 3 ∷ []
replay_row = refl
