-- One tree, and one place of a fault.
use Rattle.std.proofs.Common.{◌≡◌, ℕ, [], ◌∷◌, ◌++◌, length, refl, sym, ap, subst, ◌∙◌, append_assoc, inl, inr, ◌⊎◌}
use Rattle.ifdb_syntax.specs.declared.lexeme.Lexeme.{Lexeme}
use Rattle.ifdb_syntax.specs.Words.{Lexemes}
use Rattle.ifdb_parse.specs.theory.Kinds.{Kinds}
use Rattle.ifdb_syntax.specs.Lang.{Lang}
use Rattle.ifdb_parse.specs.theory.Parser.{Parser}
use Rattle.ifdb_parse.specs.theory.Reads.{Reads}
use Rattle.ifdb_syntax.specs.Fault.{Begins, IsFault}
use Rattle.ifdb_parse.proofs.theory.Combine.{done_is}
use Rattle.std.proofs.Common.{Bool}

pub one_tree : {A : Type 0} {l : Lang A} {p : Parser A} {f C : Kinds} {d : Bool} → Reads l p f d C → (s : Lexemes) (a b : A) → l s a → l s b → a ≡ b
one_tree rd s a b h k = (done_is a b [] [] (sym (rd.complete s [] a h refl) ∙ rd.complete s [] b k refl)).0

-- of two splits one goes further
further : (u r u' r' : Lexemes) → u ++ r ≡ u' ++ r' → ((w : Lexemes) × (u' ≡ u ++ w) × (r ≡ w ++ r')) ⊎ ((w : Lexemes) × (u ≡ u' ++ w) × (r' ≡ w ++ r))
further [] r u' r' e = inl (u', refl, e)
further (c ∷ u) r [] r' e = inr (c ∷ u, refl, sym e)
further (c ∷ u) r (d ∷ u') r' e =
    let tail : u ++ r ≡ u' ++ r' = cc in
    let head : c ≡ d = cc in
    elim (further u r u' r' tail) [
      | inl x ↦ inl (x.0, (let same : u' ≡ u ++ x.0 = x.1 in cc), x.2)
      | inr x ↦ inr (x.0, (let same : u ≡ u' ++ x.0 = x.1 in cc), x.2)
    ]

no_further : {A : Type 0} (l : Lang A) (u r u' r' w : Lexemes) → ((t : Lexeme) (x : Lexemes) → r ≡ t ∷ x → Begins l (u ++ t ∷ []) → ⊥) → Begins l u' → u' ≡ u ++ w → r ≡ w ++ r' → r ≡ r'
no_further l u r u' r' [] ends b e h = h
no_further {A = A} l u r u' r' (t ∷ w) ends b e h =
    absurd (ends t (w ++ r') h (record {
      tail = w ++ b.tail;
      value = b.value;
      spelled = subst (λ (z : Lexemes). l z b.value) (ap (λ (z : Lexemes). z ++ b.tail) e ∙ append_assoc u (t ∷ w) b.tail ∙ sym (append_assoc u (t ∷ []) (w ++ b.tail))) b.spelled;
    }))

pub one_fault : {A : Type 0} {l : Lang A} {s : Lexemes} {m n : ℕ} → IsFault l s m → IsFault l s n → m ≡ n
one_fault {l = l} f k =
    elim (further f.used f.rest k.used k.rest (sym f.parts ∙ k.parts)) [
      | inl x ↦ sym f.counts ∙ ap length (no_further l f.used f.rest k.used k.rest x.0 f.ends k.begins x.1 x.2) ∙ k.counts
      | inr x ↦ sym f.counts ∙ ap length (sym (no_further l k.used k.rest f.used f.rest x.0 k.ends f.begins x.1 x.2)) ∙ k.counts
    ]
