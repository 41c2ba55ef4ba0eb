use Rattle.std.proofs.Common.{rules, ◌≡◌, ◌≢◌, ◌∷◌, ◌≤◌, ◌+◌, ap, sym, ◌∙◌, arith, length}
use Rattle.std.specs.Int.{w32, w64, from_be_bytes}
use Rattle.ifdb_journal.specs.Records.{kind_at, session_at, size_at}
use Rattle.ifdb_journal.specs.Kinds.{is_fine}
use Rattle.ifdb_journal.proofs.Take.{whole_of, cells}
use Rattle.ifdb_journal.proofs.found.look_at.Goals as goal

pub returns : goal.returns
returns c =
    let gate = c.in-Some.gate.now in
    let rest = c.in-Some.rest.now in
    let split : c.args.text.now ≡ gate ∷ rest = search rules in
    let open_gate : gate ≢ 0 = c.if-gate-eq0.false in
    let le8 : 1 + 8 ≤ length rest = omega (arith, c.if-rest-lt14.false) in
    let le4 : 9 + 4 ≤ length rest = omega (arith, c.if-rest-lt14.false) in
    let session : c.from_be_bytes-session.result ≡ session_at rest = c.from_be_bytes-session.ensures ∙ ap (from_be_bytes w64) (sym (cells 8 1 rest le8)) in
    let size : c.from_be_bytes-size.result ≡ size_at rest = c.from_be_bytes-size.ensures ∙ ap (from_be_bytes w32) (sym (cells 4 9 rest le4)) in
    let whole = whole_of rest (record {
      header = omega (arith, c.if-rest-lt14.false);
      fine = (λ i. is_fine (kind_at rest) (sym session i) (sym size i)) ∙ sym c.may_stand.ensures ∙ c.if-not-may_stand.false;
      long = omega (arith, c.if-rest-size.false, size);
    }) in
    (gate, rest, split, open_gate, whole, c.kind_from.ensures, session, size)
