-- decides: a served database
-- Texts of any length, as records of a journal.
--
-- A text is cut into pieces, and each is the line of an Ask: the first one of session 0, and each further one of session 1. A piece has
-- 65,535 bytes, and the last one of a text has fewer. So a text ends at the first piece that has fewer, and a short text is one record.
use Rattle.std.specs.Prelude.{◌≡◌, ℕ, ◌+◌, ◌*◌, ◌/◌, ◌≤◌, zero, suc, Bool, true, false, ◌==◌, nat_lt, List, [], ◌∷◌, ◌++◌, length, take, drop, Option, Some, None, option_and_then, if◌then◌else◌}
use Rattle.std.specs.List.{flat_map}
use Rattle.ifdb_journal.specs.declared.record.Record.{Record}
use Rattle.ifdb_journal.specs.declared.record.RecordKind.{RecordKind}
use Rattle.ifdb_journal.specs.declared.record.RecordKind.TheVariants as kind

-- the record of a piece
abbrev pub piece : ℕ → List ℕ → Record
piece session line = record { kind = kind.Ask; session = session; line = line }

-- so many full pieces of a text, and a last one behind them; the first of all has this session
abbrev pub cut : ℕ → ℕ → List ℕ → List Record
cut zero session text = piece session text ∷ []
cut (suc n) session text = piece session (take 65535 text) ∷ cut n 1 (drop 65535 text)

-- the pieces of a text of which the first has this session
abbrev pub pieces_from : ℕ → List ℕ → List Record
pieces_from session text = cut (length text / 65535) session text

-- the pieces of a text
abbrev pub pieces : List ℕ → List Record
pieces text = pieces_from 0 text

-- the pieces that are left of a text: none, or those of its rest
abbrev pub pieces_left : Bool → ℕ → List ℕ → List Record
pieces_left is_done session rest = if is_done then [] else pieces_from session rest

-- how many bytes of a journal the pieces of a text take that has so many bytes
abbrev pub size_of : ℕ → ℕ
size_of n = n + 14 * (n / 65535 + 1)

-- ---- the texts that records spell

abbrev pub is_ask : RecordKind → Bool
is_ask kind.Ask = true
is_ask kind.Open = false
is_ask kind.Restart = false

-- a text that was begun, with a further piece of it
abbrev pub longer : Option (List ℕ) → List ℕ → Option (List ℕ)
longer None line = None
longer (Some text) line = Some (text ++ line)

-- a text up to a record, where one may have been begun before it: a first piece begins one, and a further piece goes on with the one
-- that was begun. Nothing else may stand there.
abbrev pub with_piece : Option (List ℕ) → Record → Option (List ℕ)
with_piece begun r = if is_ask r.kind then (if r.session == 0 then Some r.line else (if r.session == 1 then longer begun r.line else None)) else None

-- some texts, and others behind them
abbrev pub with_texts : List (List ℕ) → Option (List (List ℕ)) → Option (List (List ℕ))
with_texts texts None = None
with_texts texts (Some more) = Some (texts ++ more)

-- the texts of records that stand behind the pieces of a text that was begun, if one was. A text without its last piece is none.
abbrev pub texts_behind : Option (List ℕ) → List Record → Option (List (List ℕ))
texts_behind begun [] = Some []
texts_behind begun (r ∷ rs) = option_and_then (λ text. if nat_lt (length r.line) 65535 then with_texts (text ∷ []) (texts_behind None rs) else texts_behind (Some text) rs) (with_piece begun r)

-- the texts of some records
abbrev pub texts_of : List Record → Option (List (List ℕ))
texts_of rs = texts_behind None rs

-- ---- laws

-- What was cut is read again, whatever was read before it.
abbrev pub TextsAreReadAgain : Type 0
TextsAreReadAgain = (rs : List Record) (read texts : List (List ℕ)) → texts_of rs ≡ Some read → texts_of (rs ++ flat_map pieces texts) ≡ Some (read ++ texts)

-- among the first n records of some texts are all pieces of the first k of them, and of no more
pub record AreWhole (texts : List (List ℕ)) (n k : ℕ) : Type 0 where
  pub few : k ≤ length texts
  pub there : length (flat_map pieces (take k texts)) ≤ n
  pub most : (j : ℕ) → j ≤ length texts → length (flat_map pieces (take j texts)) ≤ n → j ≤ k

-- The first records of what was cut are the first of the texts: those that are whole among them, and nothing of any other.
abbrev pub FrontsAreFirstTexts : Type 0
FrontsAreFirstTexts = (rs : List Record) (read texts : List (List ℕ)) (n : ℕ) → texts_of rs ≡ Some read
    → (k : ℕ) × AreWhole texts n k × (texts_of (rs ++ take n (flat_map pieces texts)) ≡ Some (read ++ take k texts))
