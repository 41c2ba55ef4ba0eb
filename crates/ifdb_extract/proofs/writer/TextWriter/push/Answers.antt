use Rattle.std.proofs.Common.{◌≡◌, ◌+◌, ◌∷◌, ◌≤◌, ◌∙◌, [], List, refl, sym, ap, subst, length, true, arith}
use Rattle.std.proofs.lemmas.Bool.Decides.{nat_tests}
use Rattle.ifdb_journal.specs.declared.record.Record.{Record}
use Rattle.ifdb_journal.specs.Records.{Gathered, bytes_of}
use Rattle.ifdb_log.specs.Pieces.{piece}
use Rattle.ifdb_extract.specs.Writing.{Keeps, Puts, Writing}
use Rattle.ifdb_extract.proofs.Writing.{keeps_here, keeps_puts, put_one, room_at_first}
use Rattle.ifdb_extract.proofs.writer.TextWriter.push.Goals as goal
use Rattle.ifdb_extract.proofs.writer.TextWriter.push.Goals.{then-not-fits+in_ok-flush, else-not-fits}

pub push-requires-clause-room : goal.push-requires-clause-room
push-requires-clause-room g c =
    let waiting : c.self-2.inside.batch.records ≡ c.if-not-fits.self.waiting = ap (λ (w : Writing). w.waiting) c.self-2.view_is in
    elim c.if-not-fits.branch [
      | then-not-fits+in_ok-flush w ↦
          room_at_first c.self-2.inside.batch.records (length c.args.line.now) c.args.session c.self-2.inside.batch.room
          (waiting ∙ ap (λ (w : Writing). w.waiting) w.self-is ∙ w.in_ok-flush.ensures.none) c.self-2.invariant c.requires.lawful.fine
      | else-not-fits w ↦
          let records : c.self-2.inside.batch.records ≡ c.self.inside.batch.records =
          waiting ∙ ap (λ (w : Writing). w.waiting) w.self-is ∙ sym (ap (λ (w : Writing). w.waiting) c.self.view_is) in
          let fits = c.fits.ensures in
          let same = ap bytes_of records in
          let room = c.self.invariant in
          let again = c.self-2.invariant in
          let yes = w.if-not-fits in
          grind (arith, nat_tests)
    ]

pub returns-clause-put : goal.returns-clause-put
returns-clause-put g c =
    let begun = g.D.Disk.tells c.args.disk.now in
    let first : Writing = c.args.self.now in
    let t = g.D.Disk.tells c.if-not-fits.disk in
    let r : Record = piece c.args.session c.args.line.now in
    let u : Writing = record { at = c.self-2.inside.journal.at; waiting = c.self-2.inside.batch.records } in
    let v : Writing = record { at = c.self-2.inside.journal.at; waiting = c.push.new.self.records } in
    let one : Puts (r ∷ []) t u t v = put_one t u v r refl (ap (λ (b : Gathered). b.records) c.push.ensures) in
    let keeps : Keeps begun first t c.if-not-fits.self =
    elim c.if-not-fits.branch [
      | then-not-fits+in_ok-flush w ↦
          subst (λ (s : Writing). Keeps begun first t s) (sym w.self-is)
          (subst (λ d. Keeps begun first (g.D.Disk.tells d) w.flush.new.self) (sym w.disk-is) w.in_ok-flush.ensures.kept)
      | else-not-fits w ↦
          subst (λ (s : Writing). Keeps begun first t s) (sym w.self-is)
          (subst (λ d. Keeps begun first (g.D.Disk.tells d) first) (sym w.disk-is) (keeps_here begun first))
    ] in
    keeps_puts (r ∷ []) begun t t first c.if-not-fits.self v keeps (subst (λ (s : Writing). Puts (r ∷ []) t s t v) c.self-2.view_is one)
