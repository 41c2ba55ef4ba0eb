-- That a host of connections may go to a worker's thread.
use denote.RattleType.{RattleType}
use denote.Ref.{NamedLft}
use denote.Param.Send.{IsSend, IsSync, struct_send, recorded_send, sendable}
use denote.Struct.Declared.{shape}
use Rattle.std.proofs.alloc.Global.TheSendSync as heap
use Rattle.ifdb_turn.proofs.turnstile.Turnstile.TheSendSync.{the_sync as turnstile_sync}
use Rattle.ifdb_turn.proofs.turnstile.Pass.TheSendSync.{the_field_send as pass_send}
use Rattle.ifdb_session.specs.declared.records.Records as recorder
use Rattle.ifdb_session.specs.contracts.shared.SharedRoom as shared_room
use Rattle.ifdb_session.specs.contracts.host.SessionHost as session_host

pub host_send : (l : NamedLft) (R K Q S : RattleType) (recorders : recorder.Ghosts Q.Denot) → (Unit {0} → IsSend (shared_room.the_row Q)) → (Unit {0} → IsSync R) → IsSend S
    → IsSend (session_host.the_row l R K Q S recorders)
host_send l R K Q S recorders s y t = recorded_send (session_host.the_field l R K Q S recorders).row _ _
    (session_host.the_type l R K Q S recorders).to_one
    (struct_send (shape (session_host.the_type l R K Q S recorders)) (
      search sendable depth 30,
      (
        heap.the_field_send,
        (
          search (sendable, turnstile_sync) depth 30,
          (
            search (sendable, pass_send) depth 30,
            (
              search sendable depth 30,
              (
                search sendable depth 30,
                (search sendable depth 30, (search sendable depth 30, tt)),
              ),
            ),
          ),
        ),
      ),
    ))
