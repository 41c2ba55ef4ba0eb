-- Texts that are read record by record, and what damage means for them.
use Rattle.std.proofs.Common.{◌≡◌, inl, inr, ℕ, suc, ◌+◌, ◌<◌, ◌≤◌, false, List, [], ◌∷◌, ◌++◌, length, refl, sym, ap, subst, ◌∙◌, arith, append_assoc, length-append}
use Rattle.std.specs.Prelude.{Option, Some, None, nat_le, if◌then◌else◌}
use Rattle.std.proofs.lemmas.List.{append-nil}
use Rattle.std.proofs.lemmas.Bool.Decides.{nat_tests}
use Rattle.ifdb_disk.specs.Images.{Shown}
use Rattle.ifdb_disk.specs.Clock.{Clock}
use Rattle.ifdb_journal.specs.declared.record.Record.{Record}
use Rattle.ifdb_journal.specs.declared.record.JournalFault.{JournalFault}
use Rattle.ifdb_journal.specs.declared.record.JournalFault.TheVariants as journal
use Rattle.ifdb_journal.specs.Records.{IsFront, records, scan}
use Rattle.ifdb_journal.specs.Reading.{BreaksAt, Holds, IsReadTo, Place, ReadTo, SpellsWhole}
use Rattle.ifdb_log.specs.declared.fault.LogFault.TheVariants as fault
use Rattle.ifdb_log.specs.Pieces.{texts_behind, texts_of, with_piece, with_texts}
use Rattle.ifdb_log.specs.Reading.{AreUpTo, DamagedHasNoTexts, HasRead, HasReadUpTo, HoldsTexts, IsDamaged, told}
use Rattle.ifdb_log.proofs.Cuts.{none_on, read_last, read_more, read_none, with_with}

-- ---- one record more

no_more : (o : Option (List (List ℕ))) → o ≡ with_texts [] o
no_more None = refl
no_more (Some texts) = refl

up_more : (rs : List Record) (texts : List (List ℕ)) (begun : Option (List ℕ)) (r : Record) (text : List ℕ) → AreUpTo rs texts begun → with_piece begun r ≡ Some text → 65535 ≤ length r.line → AreUpTo (rs ++ r ∷ []) texts (Some text)
up_more rs texts begun r text up is full = λ more.
    ap texts_of (append_assoc rs (r ∷ []) more) ∙ up (r ∷ more) ∙ ap (with_texts texts) (read_more begun r more text is full)

up_last : (rs : List Record) (texts : List (List ℕ)) (begun : Option (List ℕ)) (r : Record) (text : List ℕ) → AreUpTo rs texts begun → with_piece begun r ≡ Some text → length r.line < 65535 → AreUpTo (rs ++ r ∷ []) (texts ++ text ∷ []) None
up_last rs texts begun r text up is short = λ more.
    ap texts_of (append_assoc rs (r ∷ []) more) ∙ up (r ∷ more) ∙ ap (with_texts texts) (read_last begun r more text is short) ∙ with_with texts (text ∷ []) (texts_behind None more)

up_end : (rs : List Record) (texts : List (List ℕ)) (begun : Option (List ℕ)) → AreUpTo rs texts begun → texts_of rs ≡ Some texts
up_end rs texts begun up = ap texts_of (sym (append-nil rs)) ∙ up [] ∙ ap (λ (l : List (List ℕ)). Some l) (append-nil texts)

up_other : (rs : List Record) (texts : List (List ℕ)) (begun : Option (List ℕ)) (r : Record) → AreUpTo rs texts begun → with_piece begun r ≡ None → texts_of (rs ++ r ∷ []) ≡ None
up_other rs texts begun r up is = up (r ∷ []) ∙ ap (with_texts texts) (read_none begun r [] is)

-- ---- on a disk

-- from t on, whose records were read up to p, the record r was read up to q, and the disk is u
abbrev pub Reads : Option Clock → Place → Record → Option Clock → Place → Type 0
Reads t p r u q = (rs : List Record) → ReadTo t rs p → ReadTo u (rs ++ r ∷ []) q

pub begins : (t : Option Clock) (p : Place) → ReadTo t [] p → HasRead t [] p
begins t p read = ([], read, no_more_of)
  where
    no_more_of : AreUpTo [] [] None
    no_more_of = λ more. no_more (texts_of more)

pub goes_on_with : (t u : Option Clock) (texts : List (List ℕ)) (begun : Option (List ℕ)) (p q : Place) (r : Record) (text : List ℕ) → Reads t p r u q → with_piece begun r ≡ Some text → 65535 ≤ length r.line
    → HasReadUpTo t texts begun p → HasReadUpTo u texts (Some text) q
goes_on_with t u texts begun p q r text reads is full read = (read.0 ++ r ∷ [], reads read.0 read.1, up_more read.0 texts begun r text read.2 is full)

pub ends_with : (t u : Option Clock) (texts : List (List ℕ)) (begun : Option (List ℕ)) (p q : Place) (r : Record) (text : List ℕ) → Reads t p r u q → with_piece begun r ≡ Some text → length r.line < 65535
    → HasReadUpTo t texts begun p → HasRead u (texts ++ text ∷ []) q
ends_with t u texts begun p q r text reads is short read = (read.0 ++ r ∷ [], reads read.0 read.1, up_last read.0 texts begun r text read.2 is short)

pub holds_texts : (t u : Option Clock) (texts : List (List ℕ)) (begun : Option (List ℕ)) (p : Place) (at : ℕ) → ((rs : List Record) → ReadTo t rs p → Holds u rs at × SpellsWhole u rs) → HasReadUpTo t texts begun p → HoldsTexts u texts at
holds_texts t None texts begun p at ends read = record { holds = tt; whole = tt; are_texts = tt }
holds_texts t (Some c) texts begun p at ends read =
    let rs = read.0 in
    let end = ends rs read.1 in
    record {
      holds = subst (λ (l : List Record). Holds (Some c) l at) (sym end.1.has) end.0;
      whole = subst (λ (l : List Record). SpellsWhole (Some c) l) (sym end.1.has) end.1;
      are_texts = ap texts_of end.1.has ∙ up_end rs texts begun read.2;
    }

pub broken : (t u : Option Clock) (texts : List (List ℕ)) (begun : Option (List ℕ)) (p : Place) (at : ℕ) → ((rs : List Record) → ReadTo t rs p → BreaksAt u at) → HasReadUpTo t texts begun p → IsDamaged u (16 + at)
broken t None texts begun p at breaks read = (at, refl, tt)
broken t (Some c) texts begun p at breaks read = (at, refl, inl (breaks read.0 read.1))

stood : (c : Clock) (rs : List Record) (p : Place) → ReadTo (Some c) rs p → IsReadTo c.now.bytes rs p.at
stood c rs p read = subst (λ (b : List ℕ). IsReadTo b rs p.at) (ap (λ (s : Shown). s.bytes) (sym read.1)) read.2

pub other_stands : (t u : Option Clock) (texts : List (List ℕ)) (begun : Option (List ℕ)) (p q : Place) (r : Record) → u ≡ t → Reads t p r u q → with_piece begun r ≡ None → HasReadUpTo t texts begun p → IsDamaged u (16 + p.at)
other_stands t None texts begun p q r same reads is read = (p.at, refl, tt)
other_stands t (Some c) texts begun p q r same reads is read =
    let rs = read.0 in (
      p.at,
      refl,
      inr record {
        before = rs;
        other = r;
        next = q.at;
        read = texts;
        up_to = stood c rs p (subst (λ (v : Option Clock). ReadTo v rs p) (sym same) read.1);
        texts = up_end rs texts begun read.2;
        there = stood c (rs ++ r ∷ []) q (reads rs read.1);
        none = up_other rs texts begun r read.2 is;
      },
    )

-- ---- damage

-- the records that bytes spell up to a gate
spelled : (bytes front rest : List ℕ) (gate : ℕ) (rs : List Record) (r : Record) → bytes ≡ front ++ gate ∷ rest → IsFront front (rs ++ r ∷ []) → records bytes ≡ (rs ++ r ∷ []) ++ scan 0 (gate ∷ rest)
spelled bytes [] rest gate rs r split is = absurd (omega (arith, ap length (is.records 0 []), length-append (rs ++ r ∷ []) [], length-append rs (r ∷ [])))
spelled bytes (x ∷ front) rest gate rs r split is =
    let long : nat_le (length ((x ∷ front) ++ gate ∷ rest)) 1 ≡ false = many (length (front ++ gate ∷ rest)) (omega (arith, length-append front (gate ∷ rest))) in
    ap records split ∙ (λ i. if long i then [] else scan 0 ((x ∷ front) ++ gate ∷ rest)) ∙ is.records gate rest
  where
    many : (n : ℕ) → 1 ≤ n → nat_le (suc n) 1 ≡ false
    many n le = grind (arith, nat_tests)

pub no_texts : DamagedHasNoTexts
no_texts bytes at (inl damaged) whole = absurd (cc (sym damaged ∙ whole))
no_texts bytes at (inr is) whole =
    let up_to = is.there in
    ap texts_of (spelled bytes up_to.front up_to.rest up_to.gate is.before is.other up_to.split up_to.is) ∙ none_on (is.before ++ is.other ∷ []) (scan 0 (up_to.gate ∷ up_to.rest)) None is.none

-- ---- the fault of a journal

pub record IsToldAt (f : JournalFault) (at : ℕ) : Type 0 where
  pub place : ℕ
  pub is : f ≡ journal.Damaged place
  pub there : at ≡ 16 + place

pub told_damaged : (f : JournalFault) (at : ℕ) → told f ≡ fault.Damaged at → IsToldAt f at
told_damaged journal.Disk at is = absurd (cc is)
told_damaged (journal.Damaged place) at is = record { place = place; is = refl; there = sym (cc is) }
told_damaged journal.OutOfMemory at is = absurd (cc is)
