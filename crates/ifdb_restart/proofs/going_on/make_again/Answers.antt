use Rattle.std.proofs.Common.{◌≡◌, ◌++◌, ◌∷◌, [], ◌∙◌, ℕ, List, Bool, Err, Ok, ap, inl, inr, sym, subst}
use Rattle.std.proofs.lemmas.Result.{err_from_is_err_and}
use Rattle.ifdb_log.specs.declared.fault.LogFault.TheVariants as fault
use Rattle.ifdb_log.specs.Reading.{HasRead}
use Rattle.ifdb_db.specs.declared.db.redo.RedoFault.{RedoFault}
use Rattle.ifdb_restart.specs.Restarted.{HasOneMore, IsLonger, IsUnfit}
use Rattle.ifdb_restart.proofs.Restarting.{ends_so, goes_on, stands_unfit}
use Rattle.ifdb_restart.proofs.going_on.make_again.Goals as goal

pub returns-in_err-is_text-clause-damaged : goal.returns-in_err-is_text-clause-damaged
returns-in_err-is_text-clause-damaged g c = λ at is.
    let so = c.texts.invariant.so in
    let exit = err_from_is_err_and c.from_residual.result c.from_residual.ensures.1 in
    let found : c.in_err-is_text.field-0.0 ≡ fault.Damaged at = cc (exit.1, exit.2, is) in
    inl (c.in_err-is_text.ensures.damaged at (ap (λ f. Err f) found) so.texts so.read)

pub returns-then-not-is_text-clause-whole : goal.returns-then-not-is_text-clause-whole
returns-then-not-is_text-clause-whole g c =
    ends_so (g.D.Disk.tells c.texts.disk) (g.D.Disk.tells c.next.new.disk) c.texts.log.place c.texts.room c.texts.made.items c.next.new.self.place.at
    (c.in_ok-is_text.ensures.end (ap (λ (b : Bool). Ok b) c.if-not-is_text.true)) c.texts.invariant.so

pub texts-preserved : goal.texts-preserved
texts-preserved g c =
    let t = g.D.Disk.tells c.texts.disk in
    let u = g.D.Disk.tells c.next.new.disk in
    let p = c.texts.log.place in
    let q = c.next.new.self.place in
    let text = c.next.new.self.text in
    let reads : (texts : List (List ℕ)) → HasRead t texts p → HasRead u (texts ++ text ∷ []) q = c.in_ok-is_text.ensures.text (ap (λ (b : Bool). Ok b) c.if-not-is_text.false) in
    let longer : IsLonger c.texts.room c.redo_text.new.room text = subst (λ l. IsLonger c.texts.room c.redo_text.new.room l) c.text.ensures c.in-Ok.ensures.done in
    let one : HasOneMore c.texts.made.items c.redo_text.new.made.items text = subst (λ l. HasOneMore c.texts.made.items c.redo_text.new.made.items l) c.text.ensures c.in-Ok.ensures.made in
    record {
      so = goes_on t u p q c.texts.room c.redo_text.new.room c.texts.made.items c.redo_text.new.made.items text reads longer one c.redo_text.ensures.clients c.texts.invariant.so;
      still = c.next.ensures.still ∙ c.texts.invariant.still;
      calm = c.in_ok-is_text.ensures.cause ∙ c.texts.invariant.calm;
    }

pub returns-in-Err-DoesNotFit-clause-damaged : goal.returns-in-Err-DoesNotFit-clause-damaged
returns-in-Err-DoesNotFit-clause-damaged g c = λ at is.
    let t = g.D.Disk.tells c.texts.disk in
    let u = g.D.Disk.tells c.next.new.disk in
    let p = c.texts.log.place in
    let q = c.next.new.self.place in
    let text = c.next.new.self.text in
    let reads : (texts : List (List ℕ)) → HasRead t texts p → HasRead u (texts ++ text ∷ []) q = c.in_ok-is_text.ensures.text (ap (λ (b : Bool). Ok b) c.if-not-is_text.false) in
    let unfit : IsUnfit c.texts.room text = subst (λ l. IsUnfit c.texts.room l) c.text.ensures (c.in-Err-DoesNotFit.ensures.unfit (ap (λ (f : RedoFault). Err f) c.in-Err-DoesNotFit.field-0-is)) in
    let same : c.place-at.result ≡ at = cc is in
    inr (stands_unfit t u p q c.texts.room c.texts.made.items text at reads c.next.ensures.still (sym same ∙ c.place-at.ensures) unfit c.texts.invariant.so)
