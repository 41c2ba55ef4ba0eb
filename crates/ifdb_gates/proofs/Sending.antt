-- That a session of a desk, and the service of a worker, may go to a thread.
use denote.RattleType.{RattleType}
use denote.Ref.{NamedLft}
use denote.Param.Send.{IsSend, IsSync, struct_send, recorded_send, sendable}
use denote.Struct.Declared.{shape}
use Rattle.std.proofs.alloc.Global.TheSendSync as heap
use Rattle.ifdb_turn.proofs.turnstile.Turnstile.TheSendSync.{the_sync as turnstile_sync}
use Rattle.ifdb_turn.proofs.turnstile.Pass.TheSendSync.{the_field_send as pass_send}
use Rattle.ifdb_keyed.proofs.admin_key.AdminKey.TheSendSync.{the_field_send as key_send}
use Rattle.ifdb_wire.proofs.buffer.Out.TheSendSync.{the_send as out_send}
use Rattle.ifdb_session.specs.declared.records.Records as recorder
use Rattle.ifdb_session.specs.contracts.shared.SharedRoom as shared_room
use Rattle.ifdb_session.specs.contracts.seat.Seat as seat
use Rattle.ifdb_db.specs.contracts.session.Session as session
use Rattle.ifdb_desk.specs.contracts.desk.Desk as desk
use Rattle.ifdb_desk.specs.contracts.place.Place as place
use Rattle.ifdb_hearer.specs.contracts.hearer.Hearer as hearer

desk_send : (l : NamedLft) (R Q S : RattleType) (recorders : recorder.Ghosts Q.Denot) → (Unit {0} → IsSend (shared_room.the_row Q)) → (Unit {0} → IsSync R) → IsSend S → IsSend (desk.the_row l R Q S recorders)
desk_send l R Q S recorders s y t = recorded_send (desk.the_field l R Q S recorders).row _ _
    (desk.the_type l R Q S recorders).to_one
    (struct_send (shape (desk.the_type l R Q S recorders)) (
      search sendable depth 30,
      (
        heap.the_field_send,
        (
          search (sendable, turnstile_sync) depth 30,
          (
            search (sendable, pass_send) depth 30,
            (
              search sendable depth 30,
              (search sendable depth 30, (search (sendable, out_send) depth 30, (search sendable depth 30, (search sendable depth 30, tt)))),
            ),
          ),
        ),
      ),
    ))

pub service_send : (l : NamedLft) (R Q S : RattleType) (recorders : recorder.Ghosts Q.Denot) → (Unit {0} → IsSend (shared_room.the_row Q)) → (Unit {0} → IsSync R) → IsSend S
    → IsSend (hearer.the_row (desk.the_row l R Q S recorders))
service_send l R Q S recorders s y t =
    let own = desk.the_row l R Q S recorders in
    recorded_send (hearer.the_field own).row _ _ (hearer.the_type own).to_one
    (struct_send (shape (hearer.the_type own)) (desk_send l R Q S recorders s y t, (search (sendable, key_send) depth 30, (heap.the_field_send, tt))))

seat_send : IsSend session.the_row → IsSend seat.the_field.row
seat_send s = struct_send (shape seat.the_type) (heap.the_field_send, (search sendable depth 30, (search (sendable, s) depth 30, (search sendable depth 30, tt))))

pub place_send : IsSend session.the_row → IsSend place.the_row
place_send s = recorded_send place.the_field.row _ _ place.the_type.to_one
    (struct_send (shape place.the_type) (seat_send s, (search sendable depth 30, tt)))
