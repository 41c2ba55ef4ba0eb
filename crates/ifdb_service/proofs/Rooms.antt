-- That a room may go to another thread, type by type: the checker's own search gives up on types that hold themselves.
use denote.RattleType.{RattleType}
use denote.Builtin.{u64}
use denote.Param.Send.{IsSend, IsSync, AllSend, AllSync, struct_send, struct_sync, recorded_send, recorded_sync, view_send, view_sync, sendable}
use denote.Struct.Declared.{shape}
use Rattle.std.proofs.Crossing.{frees, Vec-send, Vec-sync, Arc-send}
use Rattle.std.proofs.alloc.Global.TheSendSync as heap
use Rattle.std.specs.contracts.alloc.Global as global
use Rattle.std.specs.contracts.impls.GlobalAllocator.TheImpl as allocates
use Rattle.std.specs.contracts.hash.BuildHasherDefault as default_hasher
use Rattle.std.specs.contracts.hash.FoldHasher as fold
use Rattle.std.specs.contracts.prelude.U64PartialEq.TheImpl as u64_eq
use Rattle.std.specs.contracts.prelude.U64Hash.TheImpl as u64_hash
use Rattle.std.specs.contracts.prelude.BuildHasherDefaultBuildHasher.TheImpl as builds
use Rattle.std.specs.contracts.prelude.FoldHasherHasher.TheImpl as hashes
use Rattle.std.below.core.specs.contracts.clone.Clone+copy.TheImpl as copied
use Rattle.indexmap.specs.contracts.map.IndexMap as index_map
use Rattle.indexmap.proofs.map.IndexMap.TheSendSync.{the_send as map_send}
use Rattle.ifdb_value.specs.contracts.name.Name as name
use Rattle.ifdb_value.proofs.name.Name.TheSendSync.{the_send as name_send, the_sync as name_sync}
use Rattle.ifdb_label.proofs.label.Label.TheSendSync.{the_send as label_send}
use Rattle.ifdb_row.proofs.writes.Writes.TheSendSync.{the_send as writes_send}
use Rattle.ifdb_store.specs.contracts.content.Content as content
use Rattle.ifdb_store.specs.contracts.store.Store as store
use Rattle.ifdb_catalog.specs.contracts.catalog.Catalog as catalog
use Rattle.ifdb_catalog.specs.contracts.catalog.Catalog.TheInside as in_catalog
use Rattle.ifdb_snapshot.specs.contracts.public_state.PublicState as public_state
use Rattle.ifdb_snapshot.specs.contracts.public_state.PublicState.TheInside as in_public_state
use Rattle.ifdb_snapshot.specs.contracts.shared_state.SharedState as shared_state
use Rattle.ifdb_snapshot.specs.contracts.shared_state.SharedState.TheInside as in_shared_state
use Rattle.ifdb_db.specs.contracts.txn.Txn as txn
use Rattle.ifdb_db.specs.contracts.txn.Txn.TheInside as in_txn
use Rattle.ifdb_db.specs.contracts.session.Session as session
use Rattle.ifdb_db.specs.contracts.session.Session.TheInside as in_session
use Rattle.ifdb_db.specs.contracts.db.Db as db
use Rattle.ifdb_db.specs.contracts.db.Db.TheInside as in_db
use Rattle.ifdb_db.specs.contracts.room.Room as room
use Rattle.ifdb_db.specs.contracts.room.Room.TheInside as in_room
use Rattle.ifdb_db.specs.contracts.sessions.open.OpenSessions as sessions
use Rattle.ifdb_db.specs.contracts.sessions.open.OpenSessions.TheInside as in_sessions
use Rattle.ifdb_db.specs.contracts.sessions.open.OpenSessionsSessions.TheImpl as served
use Rattle.ifdb_session.specs.contracts.shared.SharedRoom as shared_room

-- what is held of a catalog, field by field
abbrev pub CatalogSends : Type 0
CatalogSends = AllSend (shape in_catalog.the_type).fields

abbrev pub CatalogSyncs : Type 0
CatalogSyncs = AllSync (shape in_catalog.the_type).fields

pub catalog_send : CatalogSends → IsSend catalog.the_row
catalog_send s = view_send _ _ _ _ _ (recorded_send in_catalog.the_field.row _ _ in_catalog.the_type.to_one (struct_send (shape in_catalog.the_type) s))

pub catalog_sync : CatalogSyncs → IsSync catalog.the_row
catalog_sync s = view_sync _ _ _ _ _ (recorded_sync in_catalog.the_field.row _ _ in_catalog.the_type.to_one (struct_sync (shape in_catalog.the_type) s))

public_send : IsSend catalog.the_row → IsSend public_state.the_row
public_send s = view_send _ _ _ _ _ (recorded_send in_public_state.the_field.row _ _ in_public_state.the_type.to_one
    (struct_send (shape in_public_state.the_type) (heap.the_field_send, (s, (Vec-send name.the_row name_send, tt)))))

public_sync : IsSync catalog.the_row → IsSync public_state.the_row
public_sync s = view_sync _ _ _ _ _ (recorded_sync in_public_state.the_field.row _ _ in_public_state.the_type.to_one
    (struct_sync (shape in_public_state.the_type) (heap.the_field_sync, (s, (Vec-sync name.the_row name_sync, tt)))))

shared_state_send : IsSend public_state.the_row → IsSync public_state.the_row → IsSend shared_state.the_row
shared_state_send s y = view_send _ _ _ _ _ (recorded_send in_shared_state.the_field.row _ _ in_shared_state.the_type.to_one
    (struct_send (shape in_shared_state.the_type) (heap.the_field_send, (Arc-send public_state.the_row s y, tt))))

txn_send : IsSend shared_state.the_row → IsSend content.the_row → IsSend txn.the_row
txn_send s c = view_send _ _ _ _ _ (recorded_send in_txn.the_field.row _ _ in_txn.the_type.to_one
    (struct_send (shape in_txn.the_type) (heap.the_field_send, (search sendable depth 30, (s, (c, (c, (writes_send, tt))))))))

session_send : IsSend txn.the_row → IsSend session.the_row
session_send t = view_send _ _ _ _ _ (recorded_send in_session.the_field.row _ _ in_session.the_type.to_one
    (struct_send (shape in_session.the_type) (search sendable depth 30, (search sendable depth 30, (search (sendable, label_send) depth 30, (label_send, (search sendable depth 30, tt)))))))

db_send : IsSend shared_state.the_row → IsSend store.the_row → IsSend db.the_row
db_send s t = view_send _ _ _ _ _ (recorded_send in_db.the_field.row _ _ in_db.the_type.to_one
    (struct_send (shape in_db.the_type) (heap.the_field_send, (s, (t, (search sendable depth 30, (Vec-send _ (search sendable depth 30), tt)))))))

-- so may what is kept by number
kept_send : (V : RattleType) → IsSend V
    → IsSend (index_map.the_field u64 V (default_hasher.the_row fold.the_row) global.the_row fold.the_row u64_eq.ghosts u64_hash.ghosts
    (builds.ghosts fold.the_row hashes.ghosts builds.no_dict (copied.ghosts fold.the_row) builds.no_dict) hashes.ghosts allocates.ghosts).row
kept_send V s =
    let whole = map_send u64 V (default_hasher.the_row fold.the_row) global.the_row fold.the_row u64_eq.ghosts u64_hash.ghosts
    (builds.ghosts fold.the_row hashes.ghosts builds.no_dict (copied.ghosts fold.the_row) builds.no_dict) hashes.ghosts allocates.ghosts
    (search sendable depth 30) s (search sendable depth 30) (search sendable depth 30) (search (sendable, frees) depth 30) in
    record { owned = whole.owned; leaving = λ k x w. tt }

sessions_send : IsSend session.the_row → IsSend sessions.the_row
sessions_send s = view_send _ _ _ _ _ (recorded_send in_sessions.the_field.row _ _ in_sessions.the_type.to_one
    (struct_send (shape in_sessions.the_type) (kept_send session.the_row s, (Vec-send _ (search sendable depth 30), tt))))

-- so may a session
pub session_crosses : IsSend catalog.the_row → IsSync catalog.the_row → IsSend content.the_row → IsSend session.the_row
session_crosses s y c = session_send (txn_send (shared_state_send (public_send s) (public_sync y)) c)

-- so may the room that connections share
abbrev pub served_row : RattleType
served_row = room.the_row sessions.the_row served.ghosts

room_send : IsSend db.the_row → IsSend session.the_row → IsSend served_row
room_send d s = view_send _ _ _ _ _ (recorded_send (in_room.the_field sessions.the_row served.ghosts).row _ _ (in_room.the_type sessions.the_row served.ghosts).to_one
    (struct_send (shape (in_room.the_type sessions.the_row served.ghosts)) (heap.the_field_send, (d, (sessions_send s, tt)))))

pub room_crosses : IsSend catalog.the_row → IsSync catalog.the_row → IsSend store.the_row → IsSend content.the_row → IsSend served_row
room_crosses s y t c = room_send (db_send (shared_state_send (public_send s) (public_sync y)) t) (session_crosses s y c)

-- so may a room that connections share, if what records its entries may
pub shared_room_send : (Q : RattleType) → IsSend served_row → IsSend Q → IsSend (shared_room.the_row Q)
shared_room_send Q r q =
    recorded_send (shared_room.the_field Q).row _ _ (shared_room.the_type Q).to_one
    (struct_send (shape (shared_room.the_type Q))
    (r, (search sendable depth 30, (search sendable depth 30, (search sendable depth 30, (search sendable depth 30, tt))))))
