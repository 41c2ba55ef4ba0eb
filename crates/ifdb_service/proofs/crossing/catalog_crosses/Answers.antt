use Rattle.std.proofs.alloc.Global.TheSendSync as heap
use Rattle.ifdb_label.proofs.tag.Tags.TheSendSync.{the_send as tags_send, the_sync as tags_sync}
use Rattle.ifdb_authority.proofs.authority.Authority.TheSendSync.{the_send as authority_send, the_sync as authority_sync}
use Rattle.ifdb_service.proofs.Rooms.{catalog_send, catalog_sync}
use Rattle.ifdb_service.proofs.crossing.catalog_crosses.Goals as goal

pub returns-clause-send : goal.returns-clause-send
returns-clause-send c =
    catalog_send (
      heap.the_field_send,
      (
        record { owned = c.sends.ensures.owned; leaving = λ k x w. tt },
        (
          record { owned = c.sends-2.ensures.owned; leaving = λ k x w. tt },
          (
            tags_send,
            (
              authority_send,
              (
                record { owned = c.sends-3.ensures.owned; leaving = λ k x w. tt },
                (record { owned = c.sends-4.ensures.owned; leaving = λ k x w. tt }, tt),
              ),
            ),
          ),
        ),
      ),
    )

pub returns-clause-sync : goal.returns-clause-sync
returns-clause-sync c =
    catalog_sync (
      heap.the_field_sync,
      (
        record { shared = c.syncs.ensures.shared },
        (
          record { shared = c.syncs-2.ensures.shared },
          (
            tags_sync,
            (
              authority_sync,
              (
                record { shared = c.syncs-3.ensures.shared },
                (record { shared = c.syncs-4.ensures.shared }, tt),
              ),
            ),
          ),
        ),
      ),
    )
