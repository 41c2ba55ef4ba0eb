-- decides: the journal
-- Lines whose first word is SELECT or SHOW.
use Rattle.std.specs.List.{prefix_len}
use Rattle.std.specs.Prelude.{Bool, ◌||◌, take, if◌then◌else◌, ◌≡◌, ◌⊎◌, ℕ, List, [], ◌∷◌, ◌++◌, Result, Ok, Err, Some, codes, ⊤}
use Rattle.ifdb_value.specs.Name.{folded}
use Rattle.ifdb_syntax.specs.declared.request.Request.{Request}
use Rattle.ifdb_syntax.specs.declared.request.Request.TheVariants as request
use Rattle.ifdb_syntax.specs.declared.lexeme.Lexeme.TheVariants as t
use Rattle.ifdb_syntax.specs.Words.{Lexemes}
use Rattle.ifdb_lex.specs.Line.{is_blank}
use Rattle.ifdb_journal.specs.declared.record.Record.{Record}
use Rattle.ifdb_lex.specs.Front.{is_word_byte}
use Rattle.std.specs.Str.{bytes_eq}
use Rattle.ifdb_wire.specs.declared.fault.Fault.{Fault}
use Rattle.ifdb_parse.specs.declared.fault.ParseFault.{ParseFault}
use Rattle.ifdb_model.specs.Step.{Reader}
use Rattle.ifdb_model.specs.Run.{State, Step, run}
use Rattle.ifdb_replay.specs.Replay.{replayed, kept, StayIn}
use Rattle.ifdb_parse.specs.Parsed.{parsed}
use Rattle.ifdb_parse.specs.Lexemes.{reserved}
use Rattle.ifdb_parse.specs.rules.Requests.{whole}

-- a request is a SELECT or SHOW LABEL
abbrev pub LooksAt : Request → Type 0
LooksAt (request.Select select) = ⊤
LooksAt request.ShowLabel = ⊤
LooksAt _ = ⊥

-- what was found is a fault, or such a request
abbrev pub LooksOnly : {E : Type 0} → Result Request E → Type 0
LooksOnly (Err f) = ⊤
LooksOnly (Ok r) = LooksAt r

-- by the grammar, lexemes that begin with SELECT or SHOW are no other request
abbrev pub SelectsOrShows : Type 0
SelectsOrShows = (s : Lexemes) → LooksOnly (whole (t.Select ∷ s)) × LooksOnly (whole (t.Show ∷ s))

-- a text that folds to the word is read as it
abbrev pub FoldsToAWord : Type 0
FoldsToAWord = (text : List ℕ) → (folded text ≡ codes "select" → reserved text ≡ Some t.Select) × (folded text ≡ codes "show" → reserved text ≡ Some t.Show)

-- a text behind its blanks
abbrev pub after_blanks : List ℕ → List ℕ
after_blanks [] = []
after_blanks (b ∷ text) = if is_blank b then after_blanks text else b ∷ text

-- its longest front of letters, digits and `_`
abbrev pub word_front : List ℕ → List ℕ
word_front text = take (prefix_len is_word_byte text) text

-- the first word of a line; it may be empty
abbrev pub first_word : List ℕ → List ℕ
first_word line = word_front (after_blanks line)

-- a line's first word is this one in small letters, whatever its case
abbrev pub Says : List ℕ → List ℕ → Type 0
Says word line = folded (first_word line) ≡ word

-- a line whose first word is SELECT or SHOW is one, or has a fault
abbrev pub QuietLines : Type 0
QuietLines = (line : List ℕ) → Says (codes "select") line ⊎ Says (codes "show") line → LooksOnly (parsed line)

-- whether a line's first word is SELECT or SHOW
abbrev pub only_looks : List ℕ → Bool
only_looks line = bytes_eq (folded (first_word line)) (codes "select") || bytes_eq (folded (first_word line)) (codes "show")

-- a reader by the grammar, which tells a line's fault so
abbrev pub told_by : (ParseFault → Fault) → Result Request ParseFault → Result Request Fault
told_by tell (Ok r) = Ok r
told_by tell (Err f) = Err (tell f)

abbrev pub reads : (ParseFault → Fault) → Reader
reads tell line = told_by tell (parsed line)

-- Records that were replayed, and behind them what is kept by the lines' first words of the steps that followed, replay to the state
-- that these steps leave: the same log, and the same sessions.
abbrev pub KeptReplays : Type 0
KeptReplays = (tell : ParseFault → Fault) (st : State) (before : List Record) (steps : List Step) → StayIn steps
    → replayed (reads tell) st (before ++ kept only_looks (reads tell) (replayed (reads tell) st before) steps) ≡ run (reads tell) (replayed (reads tell) st before) steps
