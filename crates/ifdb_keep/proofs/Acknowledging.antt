-- Each image has all that was acknowledged.
use Rattle.std.proofs.Common.{◌≡◌, ℕ, ◌+◌, ◌≤◌, List, [], ◌∷◌, ◌++◌, length, take, map, refl, sym, ap, subst, ◌∙◌, arith, append_assoc, inl, inr}
use Rattle.std.specs.Prelude.{Option, Some, None, flat_map}
use Rattle.std.proofs.Math.Seq.{take-append_seam}
use Rattle.std.proofs.lemmas.List.{append-nil, length-append, map-append, take_all}
use Rattle.std.proofs.lemmas.List.Concat.{flat_map-append}
use Rattle.ifdb_disk.specs.Images.{Shown, IsImage}
use Rattle.ifdb_disk.specs.Clock.{Clock, Now}
use Rattle.ifdb_disk.proofs.Moments.{leaves_weaker}
use Rattle.ifdb_journal.specs.Records.{ReadsAs}
use Rattle.ifdb_journal.specs.Reading.{Holds, HasAllOrNone, joined}
use Rattle.ifdb_journal.specs.declared.record.Record.{Record}
use Rattle.ifdb_journal.proofs.Images.{all_images, held}
use Rattle.ifdb_keep.specs.Acknowledged.{Turn, entries_of, replies_of, HoldsAcknowledged, AcknowledgedIsKept}
use Rattle.ifdb_keep.proofs.Batches.{joined_more}

-- the records of the turns, and of one more
entries_more : (turns : List Turn) (turn : Turn) → joined (entries_of (turns ++ turn ∷ [])) ≡ joined (entries_of turns) ++ turn.entries
entries_more turns turn = ap joined (map-append (λ (t : Turn). t.entries) turns (turn ∷ [])) ∙ joined_more (entries_of turns) turn.entries

replies_more : (turns : List Turn) (turn : Turn) → length (replies_of (turns ++ turn ∷ [])) ≡ length (replies_of turns) + length turn.text
replies_more turns turn =
    let all = flat_map-append (λ (t : Turn). t.text) turns (turn ∷ []) in
    let one = append-nil turn.text in
    let size = length-append (replies_of turns) turn.text in
    ap length (all ∙ ap (λ l. replies_of turns ++ l) one) ∙ size

-- all turns are there
holds_all : (rs : List Record) (turns : List Turn) (turn : Turn) (written : ℕ) (image : List ℕ) → written ≤ length (replies_of turns) + length turn.text
    → ReadsAs ((rs ++ joined (entries_of turns)) ++ turn.entries) image → HoldsAcknowledged rs (turns ++ turn ∷ []) written image
holds_all rs turns turn written image le is =
    let all = turns ++ turn ∷ [] in
    let most : length all ≤ length all = omega arith in
    let same : take (length all) all ≡ all = take_all (length all) all most in (
      length all,
      most,
      subst (λ l. ReadsAs l image)
          (append_assoc rs (joined (entries_of turns)) turn.entries ∙ ap (λ l. rs ++ l) (sym (entries_more turns turn)) ∙ ap (λ ts. rs ++ joined (entries_of ts)) (sym same)) is,
      subst (λ ts. written ≤ length (replies_of ts)) (sym same) (let size = replies_more turns turn in omega (arith, size, le)),
    )

-- those before the last are
holds_before : (rs : List Record) (turns : List Turn) (turn : Turn) (image : List ℕ) → ReadsAs (rs ++ joined (entries_of turns)) image
    → HoldsAcknowledged rs (turns ++ turn ∷ []) (length (replies_of turns)) image
holds_before rs turns turn image is =
    let same : take (length turns) (turns ++ turn ∷ []) ≡ turns = take-append_seam turns (turn ∷ []) in
    let size = length-append turns (turn ∷ []) in
    let most : length turns ≤ length (turns ++ turn ∷ []) = omega (arith, size) in
    let le : length (replies_of turns) ≤ length (replies_of turns) = omega arith in (
      length turns,
      most,
      subst (λ ts. ReadsAs (rs ++ joined (entries_of ts)) image) (sym same) is,
      subst (λ ts. length (replies_of turns) ≤ length (replies_of ts)) (sym same) le,
    )

either : (rs : List Record) (turns : List Turn) (turn : Turn) (image : List ℕ) → HasAllOrNone (rs ++ joined (entries_of turns)) turn.entries image
    → HoldsAcknowledged rs (turns ++ turn ∷ []) (length (replies_of turns)) image
either rs turns turn image (inl without) = holds_before rs turns turn image without
either rs turns turn image (inr with_it) = holds_all rs turns turn (length (replies_of turns)) image (omega arith) with_it

now_weaker : (t : Option Clock) (P Q : List ℕ → Type 0) → ((image : List ℕ) → P image → Q image) → Now t (λ s. (image : List ℕ) → IsImage s image → P image)
    → Now t (λ s. (image : List ℕ) → IsImage s image → Q image)
now_weaker None P Q imply now = tt
now_weaker (Some c) P Q imply now = λ image is. imply image (now image is)

pub acknowledged : AcknowledgedIsKept
acknowledged rs turns turn t u v at next last holds adds may =
    let before = (all_images (entries_of turns) rs t u at next holds adds).0 in
    let all = rs ++ joined (entries_of turns) in (
      leaves_weaker u v (HasAllOrNone all turn.entries) (HoldsAcknowledged rs (turns ++ turn ∷ []) (length (replies_of turns))) (either rs turns turn) (may all before),
      (λ added n le.
          let after : Holds v (all ++ turn.entries) last = added all before in
          now_weaker v (ReadsAs (all ++ turn.entries)) (HoldsAcknowledged rs (turns ++ turn ∷ []) (length (replies_of turns) + n))
          (λ image is. holds_all rs turns turn (length (replies_of turns) + n) image (omega (arith, le)) is) (held (all ++ turn.entries) v last after)),
    )
