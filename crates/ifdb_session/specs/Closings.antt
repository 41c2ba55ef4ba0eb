-- decides: the service
-- How a session was closed: by BYE, or since it left.
use Rattle.std.specs.Prelude.{◌≡◌, ◌⊎◌, ℕ, Bool, true, false, List, [], ◌∷◌, ◌++◌, Ok}
use Rattle.ifdb_syntax.specs.declared.request.Request.TheVariants as request
use Rattle.ifdb_db.specs.Reading.{read_line}
use Rattle.ifdb_history.specs.declared.entry.Entry.{Entry}
use Rattle.ifdb_history.specs.declared.entry.Kind.{Kind}
use Rattle.ifdb_history.specs.declared.entry.Kind.TheVariants as kind
use Rattle.ifdb_history.specs.declared.entry.Note.{Note}
use Rattle.ifdb_history.specs.Lines.{lines_of}
use Rattle.ifdb_session.specs.declared.ending.Ending.{Ending}
use Rattle.ifdb_session.specs.declared.ending.Ending.TheVariants as ends

-- a turn of this kind stands in the history
pub record HasTurn (h : List Entry) (x : Kind) : Type 0 where
  pub before : List Entry
  pub root : ℕ
  pub behind : List Entry
  pub is : h ≡ before ++ record { root = root; kind = x } ∷ behind

-- a turn asked the session this line, which is read as BYE
pub record AsksBye (n : ℕ) (h : List Entry) (line : List ℕ) : Type 0 where
  pub work : List Note
  pub turn : HasTurn h (kind.Asked n work line)
  pub is_bye : read_line line ≡ Ok request.Bye

-- of the lines that it asked, the last one was BYE
pub record EndsInBye (n : ℕ) (h : List Entry) (lines : List (List ℕ)) : Type 0 where
  pub front : List (List ℕ)
  pub line : List ℕ
  pub all : lines ≡ front ++ line ∷ []
  pub bye : AsksBye n h line

-- the session left, as only an open one does
pub record HasLeft (n : ℕ) (h : List Entry) : Type 0 where
  pub work : List Note
  pub turn : HasTurn h (kind.Left n work)

-- At Bye the session was closed by its last line, and at every other end it left. Where a reply was cut or held back, that may
-- have been the reply to BYE.
abbrev pub Closes : Ending → ℕ → List Entry → Type 0
Closes ends.Bye n h = EndsInBye n h (lines_of n h)
Closes ends.LinkWrite n h = EndsInBye n h (lines_of n h) ⊎ HasLeft n h
Closes ends.Unkept n h = EndsInBye n h (lines_of n h) ⊎ HasLeft n h
Closes ends.End n h = HasLeft n h
Closes ends.LinkRead n h = HasLeft n h
Closes ends.TooMuch n h = HasLeft n h
Closes ends.TooLong n h = HasLeft n h
Closes ends.OutOfMemory n h = ⊥

-- behind the lines of a link that ended so the session may be open still, or closed
abbrev pub MayBeOpen : Ending → Bool → Type 0
MayBeOpen ends.Bye is_open = is_open ≡ false
MayBeOpen ends.LinkWrite is_open = Unit {0}
MayBeOpen ends.Unkept is_open = Unit {0}
MayBeOpen ends.End is_open = is_open ≡ true
MayBeOpen ends.LinkRead is_open = is_open ≡ true
MayBeOpen ends.TooMuch is_open = is_open ≡ true
MayBeOpen ends.TooLong is_open = is_open ≡ true
MayBeOpen ends.OutOfMemory is_open = ⊥
