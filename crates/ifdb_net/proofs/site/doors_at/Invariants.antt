use Rattle.std.proofs.Common.{◌≡◌, ◌≤◌, All, vec_len}
use Rattle.ifdb_net.proofs.site.doors_at.Given as goal

abbrev pub invariant-loop : goal.invariant-loop
invariant-loop l =
    (vec_len l.doors ≡ l.counter) × All (λ door. door.most ≤ l.links) l.doors.items × All (λ door. door.out ≡ 0) l.doors.items
