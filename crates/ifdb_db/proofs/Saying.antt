-- What requests of each form come to, by what they are bound to.
use Rattle.std.proofs.Common.{◌≡◌, ℕ, List, ◌∙◌, refl, sym, ap, Option, Some, None, inl, inr}
use Rattle.std.specs.Prelude.{◌⊎◌, Result, Ok, Err, IfOk, IfErr}
use Rattle.ifdb_bound.specs.declared.request.Bound.{Bound}
use Rattle.ifdb_bound.specs.Query.{label_names}
use Rattle.ifdb_syntax.specs.declared.request.Request.{Request}
use Rattle.ifdb_wire.specs.declared.fault.Fault.{Fault}
use Rattle.ifdb_wire.specs.declared.fault.Fault.TheVariants as fault
use Rattle.ifdb_wire.specs.declared.reply.Reply.{Reply}
use Rattle.ifdb_wire.specs.declared.reply.Reply.TheVariants as reply
use Rattle.ifdb_catalog.specs.Public.{tag_names}
use Rattle.ifdb_catalog.specs.Binding.{bound}
use Rattle.ifdb_model.specs.Session.{Session, Seen, Txn}
use Rattle.ifdb_model.specs.Step.{Form, relabels, shows_label, looks, form_of, tells, refuses, set_label, look, look_reply, answered_as}
use Rattle.ifdb_snapshot.specs.Labels.{IsAt, with_label}
use Rattle.ifdb_db.specs.Client.{Standing, standing}
use Rattle.ifdb_db.specs.Inside.{session_of, IsSaid, IsSaidAlike}

module _ (x : Seen) (asker : ℕ) (r : Request) where
  -- a request is taken by its form
  pub by_form : (f : Form) → form_of r ≡ f → (n : ℕ) (v : Option Fault) (s : Session) → answered_as n x v s asker r (form_of r) ≡ answered_as n x v s asker r f
  by_form f e n v s = ap (answered_as n x v s asker r) e

module _ (x : Seen) (who : Standing) (r : Request) where
  -- ---- SET LABEL

  abbrev pub Sets : Bound → Option (List ℕ) → Type 0
  Sets b new = (s : Session) → IsAt who.ceiling who.label s → set_label x.public who.principal s (Ok b) ≡ tells (with_label s new) reply.Done

  label_with : (b : Bound) (new : Option (List ℕ)) → form_of r ≡ relabels → bound x.public who.principal r ≡ Ok b → Sets b new
      → (n : ℕ) (v : Option Fault) (t : Option Txn) → answered_as n x v (session_of who t) who.principal r (form_of r) ≡ tells (with_label (session_of who t) new) reply.Done
  label_with b new f e h n v t = by_form x who.principal r relabels f n v (session_of who t) ∙ ap (set_label x.public who.principal (session_of who t)) e ∙ h (session_of who t) (refl, refl)

  pub label_said : (b : Bound) (new : Option (List ℕ)) (m : List ℕ) → form_of r ≡ relabels → bound x.public who.principal r ≡ Ok b → Sets b new → new ≡ Some m → IsSaid x who m r (Ok reply.Done)
  label_said b new m f e h i = (λ n v t. label_with b new f e h n v t ∙ ap (λ o. tells (with_label (session_of who t) o) reply.Done) i, λ u. absurd u)

  pub label_kept : (b : Bound) (new : Option (List ℕ)) → form_of r ≡ relabels → bound x.public who.principal r ≡ Ok b → Sets b new → new ≡ None → IsSaid x who who.label r (Ok reply.Done)
  label_kept b new f e h i = (λ n v t. label_with b new f e h n v t ∙ ap (λ o. tells (with_label (session_of who t) o) reply.Done) i, λ u. absurd u)

  pub label_denied : (b : Bound) (g : Fault) → form_of r ≡ relabels → bound x.public who.principal r ≡ Ok b
      → (g ≡ fault.OutOfMemory) ⊎ ((s : Session) → IsAt who.ceiling who.label s → set_label x.public who.principal s (Ok b) ≡ refuses s g) → IsSaid x who who.label r (Err g)
  label_denied b g f e (inl m) = (inl m, refl)
  label_denied b g f e (inr h) =
      (inr (λ n v t. by_form x who.principal r relabels f n v (session_of who t) ∙ ap (set_label x.public who.principal (session_of who t)) e ∙ h (session_of who t) (refl, refl)), refl)

  pub label_unbound : (g : Fault) → form_of r ≡ relabels → (g ≡ fault.OutOfMemory) ⊎ (bound x.public who.principal r ≡ Err g) → IsSaid x who who.label r (Err g)
  label_unbound g f (inl m) = (inl m, refl)
  label_unbound g f (inr e) = (inr (λ n v t. by_form x who.principal r relabels f n v (session_of who t) ∙ ap (set_label x.public who.principal (session_of who t)) e), refl)

-- ---- SHOW LABEL and SELECT, whatever the ceiling is

-- so it is said under each
pub said_under : (x : Seen) (asker : ℕ) (l : List ℕ) (r : Request) (c : Option (List ℕ)) (o : Result Reply Fault) → IsSaidAlike x asker l r o → IsSaid x (standing asker c l) l r o
said_under x asker l r c (Ok told) h = (h c, λ u. refl)
said_under x asker l r c (Err f) (inl e) = (inl e, refl)
said_under x asker l r c (Err f) (inr h) = (inr (h c), refl)

module _ (x : Seen) (asker : ℕ) (l : List ℕ) (r : Request) where
  abbrev there : Option (List ℕ) → Option Txn → Session
  there c t = session_of (standing asker c l) t

  pub label_shown : (told : Reply) → form_of r ≡ shows_label → told ≡ reply.Label (label_names (tag_names x.public) l) → IsSaidAlike x asker l r (Ok told)
  label_shown told f e = λ c n v t. by_form x asker r shows_label f n v (there c t) ∙ ap (tells (there c t)) (sym e)

  pub label_not_shown : IsSaidAlike x asker l r (Err fault.OutOfMemory)
  label_not_shown = inl refl

  look_says : (b : Bound) (told : Reply) → form_of r ≡ looks → bound x.public asker r ≡ Ok b → look_reply x.public x.rows l (Ok b) ≡ told → IsSaidAlike x asker l r (Ok told)
  look_says b told f e h = λ c n v t.
      by_form x asker r looks f n v (there c t) ∙ ap (look x.public x.rows (there c t)) e ∙ ap (tells (there c t)) h

  look_denied : (b : Bound) (g : Fault) → form_of r ≡ looks → bound x.public asker r ≡ Ok b → (g ≡ fault.OutOfMemory) ⊎ (look_reply x.public x.rows l (Ok b) ≡ reply.Refused g) → IsSaidAlike x asker l r (Err g)
  look_denied b g f e (inl m) = inl m
  look_denied b g f e (inr h) = inr (look_says b (reply.Refused g) f e h)

  pub look_unbound : (g : Fault) → form_of r ≡ looks → (g ≡ fault.OutOfMemory) ⊎ (bound x.public asker r ≡ Err g) → IsSaidAlike x asker l r (Err g)
  look_unbound g f (inl m) = inl m
  look_unbound g f (inr e) = inr (λ c n v t. by_form x asker r looks f n v (there c t) ∙ ap (look x.public x.rows (there c t)) e)

  pub look_answered : (b : Bound) (o : Result Reply Fault) → form_of r ≡ looks → bound x.public asker r ≡ Ok b
      → IfOk o (λ told. look_reply x.public x.rows l (Ok b) ≡ told)
      → IfErr o (λ g. (g ≡ fault.OutOfMemory) ⊎ (look_reply x.public x.rows l (Ok b) ≡ reply.Refused g)) → IsSaidAlike x asker l r o
  look_answered b (Ok told) f e h k = look_says b told f e h
  look_answered b (Err g) f e h k = look_denied b g f e k
