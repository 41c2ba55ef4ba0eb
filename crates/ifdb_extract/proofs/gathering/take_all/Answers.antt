use Rattle.std.proofs.Common.{◌≡◌, ◌++◌, ◌∷◌, [], ◌∙◌, ℕ, List, Bool, Err, Ok, ap, inl, inr, sym, subst}
use Rattle.std.specs.Prelude.{None}
use Rattle.std.proofs.lemmas.Result.{err_from_is_err_and}
use Rattle.ifdb_log.specs.declared.fault.LogFault.TheVariants as fault
use Rattle.ifdb_log.specs.Reading.{HasRead}
use Rattle.ifdb_redo.specs.declared.fault.ReadFault.{ReadFault}
use Rattle.ifdb_redo.specs.Reading.{record_of}
use Rattle.ifdb_extract.specs.Texts.{with_text}
use Rattle.ifdb_extract.proofs.Taking.{taken_broken, taken_last, taken_next}
use Rattle.ifdb_extract.proofs.gathering.take_all.Goals as goal

pub returns-in_err-is_text-clause-damaged : goal.returns-in_err-is_text-clause-damaged
returns-in_err-is_text-clause-damaged g c = λ at is.
    let so = c.texts.invariant.so in
    let exit = err_from_is_err_and c.from_residual.result c.from_residual.ensures.1 in
    let found : c.in_err-is_text.field-0.0 ≡ fault.Damaged at = cc (exit.1, exit.2, is) in
    inl (c.in_err-is_text.ensures.damaged at (ap (λ f. Err f) found) so.texts so.read)

pub returns-then-not-is_text-clause-extract : goal.returns-then-not-is_text-clause-extract
returns-then-not-is_text-clause-extract g c =
    taken_last (g.D.Disk.tells c.texts.disk) (g.D.Disk.tells c.next.new.disk) c.texts.log.place c.texts.extract c.next.new.self.place.at
    (c.in_ok-is_text.ensures.end (ap (λ (b : Bool). Ok b) c.if-not-is_text.true)) c.texts.invariant.so

pub texts-preserved : goal.texts-preserved
texts-preserved g c =
    let t = g.D.Disk.tells c.texts.disk in
    let u = g.D.Disk.tells c.next.new.disk in
    let p = c.texts.log.place in
    let q = c.next.new.self.place in
    let text = c.next.new.self.text in
    let reads : (texts : List (List ℕ)) → HasRead t texts p → HasRead u (texts ++ text ∷ []) q = c.in_ok-is_text.ensures.text (ap (λ (b : Bool). Ok b) c.if-not-is_text.false) in
    let more : c.take.new.self ≡ with_text c.texts.extract text = c.in-Ok.ensures.taken ∙ ap (with_text c.texts.extract) c.text.ensures in
    record {
      so = taken_next t u p q c.texts.extract c.take.new.self text reads more c.texts.invariant.so;
      still = c.next.ensures.still ∙ c.texts.invariant.still;
      calm = c.in_ok-is_text.ensures.cause ∙ c.texts.invariant.calm;
    }

pub returns-in-Err-Broken-clause-damaged : goal.returns-in-Err-Broken-clause-damaged
returns-in-Err-Broken-clause-damaged g c = λ at is.
    let t = g.D.Disk.tells c.texts.disk in
    let u = g.D.Disk.tells c.next.new.disk in
    let p = c.texts.log.place in
    let q = c.next.new.self.place in
    let text = c.next.new.self.text in
    let reads : (texts : List (List ℕ)) → HasRead t texts p → HasRead u (texts ++ text ∷ []) q = c.in_ok-is_text.ensures.text (ap (λ (b : Bool). Ok b) c.if-not-is_text.false) in
    let none : record_of text ≡ None = sym (ap record_of c.text.ensures) ∙ c.in-Err-Broken.ensures.broken (ap (λ (f : ReadFault). Err f) c.in-Err-Broken.field-0-is) in
    let same : c.place-at.result ≡ at = cc is in
    inr (taken_broken t u p q c.texts.extract text at reads c.next.ensures.still (sym same ∙ c.place-at.ensures) none c.texts.invariant.so)
