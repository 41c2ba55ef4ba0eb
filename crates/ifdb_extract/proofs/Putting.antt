-- The pieces of a text, and the texts of public changes, that are put one behind the other.
use Rattle.std.proofs.Common.{◌≡◌, ℕ, ◌+◌, ◌<◌, ◌≤◌, List, [], ◌∷◌, ◌++◌, ◌∙◌, get_or, length, take, refl, sym, ap, subst, append_assoc, append-nil}
use Rattle.std.specs.Prelude.{Option}
use Rattle.std.specs.List.{flat_map}
use Rattle.std.proofs.lemmas.List.{take_all, take_more}
use Rattle.std.proofs.lemmas.Grind.{flat_map-append}
use Rattle.ifdb_disk.specs.Clock.{Clock}
use Rattle.ifdb_journal.specs.declared.record.Record.{Record}
use Rattle.ifdb_log.specs.Pieces.{pieces}
use Rattle.ifdb_extract.specs.Writing.{IsWritten, Puts, Writing}
use Rattle.ifdb_extract.proofs.Writing.{puts_both, puts_none}

-- ---- the pieces of a text

-- some pieces of all were put, and these are left
pub record AreLeft (all left : List Record) (t : Option Clock) (w : Writing) (u : Option Clock) (v : Writing) : Type 0 where
  pub done : List Record
  pub split : done ++ left ≡ all
  pub puts : Puts done t w u v

pub left_first : (all left : List Record) (t : Option Clock) (w : Writing) → left ≡ all → AreLeft all left t w t w
left_first all left t w is = record { done = []; split = is; puts = puts_none t w }

pub left_next : (all left rest : List Record) (r : Record) (t u u' : Option Clock) (w v v' : Writing) → left ≡ r ∷ rest → Puts (r ∷ []) u v u' v' → AreLeft all left t w u v → AreLeft all rest t w u' v'
left_next all left rest r t u u' w v v' is puts so = record {
  done = so.done ++ r ∷ [];
  split = append_assoc so.done (r ∷ []) rest ∙ ap (λ l. so.done ++ l) (sym is) ∙ so.split;
  puts = puts_both so.done (r ∷ []) t u u' w v v' so.puts puts;
}

pub left_last : (all left : List Record) (t u : Option Clock) (w v : Writing) → left ≡ [] → AreLeft all left t w u v → Puts all t w u v
left_last all left t u w v none so = subst (λ l. Puts l t w u v) (sym (append-nil so.done) ∙ ap (λ l. so.done ++ l) (sym none) ∙ so.split) so.puts

-- ---- the texts of public changes

pub changes_first : (changes : List (List ℕ)) (t : Option Clock) (w : Writing) → Puts (flat_map pieces (take 0 changes)) t w t w
changes_first changes t w = puts_none t w

pub changes_next : (changes : List (List ℕ)) (i : ℕ) (text : List ℕ) (t u u' : Option Clock) (w v v' : Writing) → i < length changes → text ≡ get_or changes i text → Puts (pieces text) u v u' v'
    → Puts (flat_map pieces (take i changes)) t w u v → Puts (flat_map pieces (take (i + 1) changes)) t w u' v'
changes_next changes i text t u u' w v v' lt here puts so =
    let last : take i changes ++ text ∷ [] ≡ take (i + 1) changes = ap (λ y. take i changes ++ y ∷ []) here ∙ sym (take_more changes i text lt) in
    let all : flat_map pieces (take i changes) ++ pieces text ≡ flat_map pieces (take (i + 1) changes) =
    ap (λ l. flat_map pieces (take i changes) ++ l) (sym (append-nil (pieces text))) ∙ sym (flat_map-append pieces (take i changes) (text ∷ [])) ∙ ap (flat_map pieces) last in
    subst (λ l. Puts l t w u' v') all (puts_both (flat_map pieces (take i changes)) (pieces text) t u u' w v v' so puts)

pub changes_last : (changes : List (List ℕ)) (i : ℕ) (t u : Option Clock) (w v : Writing) → length changes ≤ i → Puts (flat_map pieces (take i changes)) t w u v → Puts (flat_map pieces changes) t w u v
changes_last changes i t u w v le so = subst (λ l. Puts (flat_map pieces l) t w u v) (take_all i changes le) so
