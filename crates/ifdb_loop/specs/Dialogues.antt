-- decides: a served database
-- What a session was asked and told.
use Rattle.std.specs.Prelude.{ℕ, List, [], ◌∷◌, ◌++◌, Bool, true}

pub record Dialogue : Type 0 where
  -- the lines that it was asked, in order
  pub lines : List (List ℕ)
  -- the bytes of its replies, in order
  pub texts : List ℕ
  -- a front of these bytes: what that was answered from is kept
  pub kept : List ℕ
  -- none of its lines has closed it
  pub is_open : Bool

-- nothing was asked yet
abbrev pub silence : Dialogue
silence = record { lines = []; texts = []; kept = []; is_open = true }

-- one line more was asked, and answered so
abbrev pub with_answer : Dialogue → List ℕ → List ℕ → Bool → Dialogue
with_answer d line reply is_open = record { lines = d.lines ++ line ∷ []; texts = d.texts ++ reply; kept = d.kept; is_open = is_open }

-- all is kept that it was answered from
abbrev pub settled : Dialogue → Dialogue
settled d = record { lines = d.lines; texts = d.texts; kept = d.texts; is_open = d.is_open }
