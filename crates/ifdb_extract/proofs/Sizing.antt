-- How many bytes of a journal texts take, summed up one by one.
use Rattle.std.proofs.Common.{◌≡◌, ℕ, ◌+◌, ◌-◌, ◌^◌, ◌<◌, ◌≤◌, List, [], ◌∷◌, ◌++◌, ◌∙◌, get_or, length, take, min, refl, sym, ap, arith, append_assoc, append-nil}
use Rattle.std.specs.List.{flat_map}
use Rattle.std.proofs.lemmas.List.{take_all, take_more}
use Rattle.std.proofs.lemmas.Grind.{flat_map-append}
use Rattle.ifdb_journal.specs.Records.{bytes_of}
use Rattle.ifdb_log.specs.Pieces.{pieces, size_of}
use Rattle.ifdb_log.proofs.Cuts.{bytes-append, bytes-pieces}
use Rattle.ifdb_row.specs.declared.row.Row.{Row}
use Rattle.ifdb_row.specs.declared.edge.Edge.{Edge}
use Rattle.ifdb_row.specs.Questions.{rows_from}
use Rattle.ifdb_extract.specs.Extracts.{IsSizeOf, log_size}
use Rattle.ifdb_extract.specs.Walks.{IsNextText}
use Rattle.ifdb_extract.proofs.Walking.{AreInFront, front_first, front_last, front_next}

-- up to 2^64 - 1
abbrev capped : ℕ → ℕ
capped n = min n (2 ^ 64 - 1)

log_more : (texts : List (List ℕ)) (text : List ℕ) → log_size (texts ++ text ∷ []) ≡ log_size texts + size_of (length text)
log_more texts text =
    ap bytes_of (flat_map-append pieces texts (text ∷ [])) ∙ ap (λ l. bytes_of (flat_map pieces texts ++ l)) (append-nil (pieces text))
    ∙ bytes-append (flat_map pieces texts) (pieces text) ∙ ap (λ n. log_size texts + n) (bytes-pieces 0 text)

capped_more : (n sum add all m : ℕ) → n ≡ capped sum → all ≡ sum + add → m ≡ capped (n + add) → m ≡ capped all
capped_more n sum add all m is whole more = omega (arith, is, whole, more)

-- ---- public changes

pub changes_sized : (changes : List (List ℕ)) (i : ℕ) (text : List ℕ) (n m : ℕ) → i < length changes → text ≡ get_or changes i text → n ≡ min (log_size (take i changes)) (2 ^ 64 - 1)
    → m ≡ min (n + size_of (length text)) (2 ^ 64 - 1) → m ≡ min (log_size (take (i + 1) changes)) (2 ^ 64 - 1)
changes_sized changes i text n m lt here so more =
    let all : take (i + 1) changes ≡ take i changes ++ text ∷ [] = take_more changes i text lt ∙ ap (λ y. take i changes ++ y ∷ []) (sym here) in
    capped_more n (log_size (take i changes)) (size_of (length text)) (log_size (take (i + 1) changes)) m so (ap log_size all ∙ log_more (take i changes) text) more

pub all_changes_sized : (changes : List (List ℕ)) (i n : ℕ) → length changes ≤ i → n ≡ min (log_size (take i changes)) (2 ^ 64 - 1) → n ≡ min (log_size changes) (2 ^ 64 - 1)
all_changes_sized changes i n le so = so ∙ ap (λ l. capped (log_size l)) (take_all i changes le)

-- ---- rows

-- so many bytes are what the texts of public changes take, and those of commits of all rows in front of an edge
pub record IsSizedSoFar (changes : List (List ℕ)) (rows : List Row) (e : Edge) (n : ℕ) : Type 0 where
  pub texts : List (List ℕ)
  pub front : AreInFront rows e texts
  pub is : n ≡ min (log_size (changes ++ texts)) (2 ^ 64 - 1)

pub sized_first : (changes : List (List ℕ)) (rows : List Row) (e : Edge) (n : ℕ) → rows_from e rows ≡ rows → n ≡ min (log_size changes) (2 ^ 64 - 1) → IsSizedSoFar changes rows e n
sized_first changes rows e n all is = record { texts = []; front = front_first rows e all; is = is ∙ ap (λ l. capped (log_size l)) (sym (append-nil changes)) }

pub sized_next : (changes : List (List ℕ)) (rows : List Row) (e f : Edge) (text : List ℕ) (n m : ℕ) → IsNextText rows e f text → m ≡ min (n + size_of (length text)) (2 ^ 64 - 1)
    → IsSizedSoFar changes rows e n → IsSizedSoFar changes rows f m
sized_next changes rows e f text n m next more so = record {
  texts = so.texts ++ text ∷ [];
  front = front_next rows e f so.texts text next so.front;
  is =
      let whole : changes ++ (so.texts ++ text ∷ []) ≡ (changes ++ so.texts) ++ text ∷ [] = sym (append_assoc changes so.texts (text ∷ [])) in
      capped_more n (log_size (changes ++ so.texts)) (size_of (length text)) (log_size (changes ++ (so.texts ++ text ∷ []))) m so.is (ap log_size whole ∙ log_more (changes ++ so.texts) text) more;
}

pub sized_last : (changes : List (List ℕ)) (rows : List Row) (e : Edge) (n : ℕ) → rows_from e rows ≡ [] → IsSizedSoFar changes rows e n → IsSizeOf n (record { changes = changes; rows = rows })
sized_last changes rows e n none so = record { more = so.texts; rows = front_last rows e so.texts none so.front; is = so.is }
