use Rattle.std.proofs.Common.{◌≡◌, ◌+◌, ◌<◌, ◌≤◌, ◌++◌, ◌∷◌, [], ℕ, List, Bool, length, ap, sym, subst, ◌∙◌, arith}
use Rattle.std.specs.Prelude.{IfSome, None, Ok, Err, Option, Some}
use Rattle.ifdb_journal.specs.declared.record.Record.{Record}
use Rattle.ifdb_journal.specs.declared.record.JournalFault.{JournalFault}
use Rattle.ifdb_journal.specs.Reading.{ReadTo}
use Rattle.ifdb_log.specs.declared.fault.LogFault.TheVariants as fault
use Rattle.ifdb_log.specs.Pieces.{with_piece}
use Rattle.ifdb_log.specs.Reading.{IsDamaged, begun_of}
use Rattle.ifdb_log.proofs.TextsRead.{Reads, broken, ends_with, goes_on_with, holds_texts, other_stands, told_damaged}
use Rattle.ifdb_log.proofs.reading.read_text.Goals as goal

pub returns-in-Ok-None-clause-end : goal.returns-in-Ok-None-clause-end
returns-in-Ok-None-clause-end g c = λ is texts read.
    holds_texts (g.D.Disk.tells c.pieces.disk) (g.D.Disk.tells c.next.new.disk) texts (begun_of c.pieces.is_begun c.pieces.text.items) c.pieces.journal c.next.new.self.at
    (c.in-Ok-None.ensures.end (ap (λ o. Ok o) c.in-Ok-None.field-0-is))
    (c.pieces.invariant.read texts read)

pub returns-in-Err-clause-damaged : goal.returns-in-Err-clause-damaged
returns-in-Err-clause-damaged g c = λ at is texts read.
    let u = g.D.Disk.tells c.next.new.disk in
    let damaged : c.told.result ≡ fault.Damaged at = cc is in
    let found = told_damaged c.in-Err.fault at (sym c.told.ensures ∙ damaged) in
    subst (λ n. IsDamaged u n) (sym found.there)
    (broken (g.D.Disk.tells c.pieces.disk) u texts (begun_of c.pieces.is_begun c.pieces.text.items) c.pieces.journal found.place
    (c.in-Err.ensures.damaged found.place (ap (λ (f : JournalFault). Err f) found.is))
    (c.pieces.invariant.read texts read))

pub returns-then-not-is_piece-clause-damaged : goal.returns-then-not-is_piece-clause-damaged
returns-then-not-is_piece-clause-damaged g c = λ at is texts read.
    let t = g.D.Disk.tells c.pieces.disk in
    let u = g.D.Disk.tells c.next.new.disk in
    let p = c.pieces.journal in
    let q = c.next.new.self in
    let r : Record = c.in-Ok-Some.record in
    let begun = begun_of c.pieces.is_begun c.pieces.text.items in
    let there : 16 + c.place-at.result ≡ at = cc is in
    let reads : Reads t p r u q = subst (λ (o : Option Record). IfSome o (λ found. (rs : List Record) → ReadTo t rs p → ReadTo u (rs ++ found ∷ []) q)) c.in-Ok-Some.field-0-is c.in-Ok-Some.ensures.some in
    let other : with_piece begun r ≡ None = c.in-Ok.ensures.other (ap (λ (b : Bool). Ok b) c.if-not-is_piece.true) in
    subst (λ n. IsDamaged u n) (ap (λ n. 16 + n) (sym c.place-at.ensures.place) ∙ there)
    (other_stands t u texts begun p q r c.next.ensures.still reads other (c.pieces.invariant.read texts read))

pub returns-then-as_slice-lt-PIECE_SIZE-clause-text : goal.returns-then-as_slice-lt-PIECE_SIZE-clause-text
returns-then-as_slice-lt-PIECE_SIZE-clause-text g c = λ is texts read.
    let t = g.D.Disk.tells c.pieces.disk in
    let u = g.D.Disk.tells c.next.new.disk in
    let p = c.pieces.journal in
    let q = c.next.new.self in
    let r : Record = c.in-Ok-Some.record in
    let begun = begun_of c.pieces.is_begun c.pieces.text.items in
    let reads : Reads t p r u q = subst (λ (o : Option Record). IfSome o (λ found. (rs : List Record) → ReadTo t rs p → ReadTo u (rs ++ found ∷ []) q)) c.in-Ok-Some.field-0-is c.in-Ok-Some.ensures.some in
    let piece : with_piece begun r ≡ Some c.add_piece.new.text.items = c.in-Ok.ensures.piece (ap (λ (b : Bool). Ok b) c.if-not-is_piece.false) in
    let short : length r.line < 65535 = subst (λ (l : List ℕ). length l < 65535) c.as_slice.ensures c.if-as_slice-lt-PIECE_SIZE.true in
    ends_with t u texts begun p q r c.add_piece.new.text.items reads piece short (c.pieces.invariant.read texts read)

pub returns-then-as_slice-lt-PIECE_SIZE-clause-moves : goal.returns-then-as_slice-lt-PIECE_SIZE-clause-moves
returns-then-as_slice-lt-PIECE_SIZE-clause-moves g c = λ is.
    let p = c.pieces.journal in
    let q = c.next.new.self in
    let r : Record = c.in-Ok-Some.record in
    let step : q.at ≡ p.at + (14 + length r.line) = subst (λ (o : Option Record). IfSome o (λ found. q.at ≡ p.at + (14 + length found.line))) c.in-Ok-Some.field-0-is c.in-Ok-Some.ensures.goes_on in
    (omega (arith, step, c.pieces.invariant.moves), omega (arith, c.place-at.ensures.place, c.place-at.ensures.bound, c.pieces.invariant.moves))

pub pieces-preserved : goal.pieces-preserved
pieces-preserved g c =
    let t = g.D.Disk.tells c.pieces.disk in
    let u = g.D.Disk.tells c.next.new.disk in
    let p = c.pieces.journal in
    let q = c.next.new.self in
    let r : Record = c.in-Ok-Some.record in
    let begun = begun_of c.pieces.is_begun c.pieces.text.items in
    let reads : Reads t p r u q = subst (λ (o : Option Record). IfSome o (λ found. (rs : List Record) → ReadTo t rs p → ReadTo u (rs ++ found ∷ []) q)) c.in-Ok-Some.field-0-is c.in-Ok-Some.ensures.some in
    let piece : with_piece begun r ≡ Some c.add_piece.new.text.items = c.in-Ok.ensures.piece (ap (λ (b : Bool). Ok b) c.if-not-is_piece.false) in
    let full : 65535 ≤ length r.line = subst (λ (l : List ℕ). 65535 ≤ length l) c.as_slice.ensures c.if-as_slice-lt-PIECE_SIZE.false in
    let step : q.at ≡ p.at + (14 + length r.line) = subst (λ (o : Option Record). IfSome o (λ found. q.at ≡ p.at + (14 + length found.line))) c.in-Ok-Some.field-0-is c.in-Ok-Some.ensures.goes_on in
    record {
      read = λ texts read. goes_on_with t u texts begun p q r c.add_piece.new.text.items reads piece full (c.pieces.invariant.read texts read);
      moves = omega (arith, step, c.pieces.invariant.moves);
      still = c.next.ensures.still ∙ c.pieces.invariant.still;
      calm = c.in-Ok-Some.ensures.cause ∙ c.pieces.invariant.calm;
    }
