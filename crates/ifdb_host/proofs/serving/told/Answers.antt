use Rattle.std.proofs.Common.{◌≡◌, ◌∙◌, inl, inr, true, false, refl, sym, true≢false, rules}
use Rattle.ifdb_host.proofs.serving.told.Goals as goal

pub returns-in-Ok-clause-still : goal.returns-in-Ok-clause-still
returns-in-Ok-clause-still g c =
    let sound : c.args.closed.now.has_failed ≡ false = search rules in
    let on : c.args.is_done ≡ true = search rules in
    λ x. elim x [
      | inl failed ↦ absurd (true≢false (sym failed ∙ sound))
      | inr off ↦ absurd (true≢false (sym on ∙ off))
    ]

pub returns-in-Ok-clause-done : goal.returns-in-Ok-clause-done
returns-in-Ok-clause-done g c = λ _ _. record {
  how = inl refl;
  all = λ _. c.in-Ok.ensures.ok;
  short = λ e. cc;
  cause = λ e. cc;
}

pub returns-in-Err-clause-still : goal.returns-in-Err-clause-still
returns-in-Err-clause-still g c =
    let sound : c.args.closed.now.has_failed ≡ false = search rules in
    let on : c.args.is_done ≡ true = search rules in
    λ x. elim x [
      | inl failed ↦ absurd (true≢false (sym failed ∙ sound))
      | inr off ↦ absurd (true≢false (sym on ∙ off))
    ]

pub returns-in-Err-clause-done : goal.returns-in-Err-clause-done
returns-in-Err-clause-done g c = λ _ _. record {
  how = inr refl;
  all = λ e. cc;
  short = λ _. c.in-Err.ensures.err;
  cause = λ _. c.in-Err.ensures.cause.failed;
}
