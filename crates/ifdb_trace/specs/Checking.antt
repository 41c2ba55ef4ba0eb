-- How a trace is checked, line by line: what may come next.
use Rattle.std.specs.Prelude.{ℕ, ◌+◌, Bool, true, false, List, [], ◌∷◌, ◌++◌, ◌&&◌, bytes_eq, drop, filter, flat_map, map, take, Option, Some, None, if◌then◌else◌}
use Rattle.std.specs.List.{list_all, list_any}
use Rattle.ifdb_model.specs.Step.{Reader}
use Rattle.ifdb_model.specs.Run.{State, opening, Step, opens, asks, refused, run, replies}
use Rattle.ifdb_model.specs.Script.{lines_of, line_steps}
use Rattle.ifdb_trace.specs.Accepted.{asked_mark, told_mark, answer_lines, is_short}

-- lines that may come next, and the state behind them
pub record Due : Type 0 where
  pub lines : List (List ℕ)
  pub state : State

-- none may come but a script's line
abbrev pub is_told : Due → Bool
is_told d = list_all (λ _. false) d.lines

-- the replies that a step may have: the machine's, and want of memory where it takes memory
abbrev pub ways : List Step → List (List Step)
ways [] = [] ∷ []
ways (opens ∷ steps) = (opens ∷ steps) ∷ (refused 0 ∷ []) ∷ []
ways (asks n line ∷ steps) = (asks n line ∷ steps) ∷ (refused n ∷ []) ∷ []
ways (x ∷ steps) = (x ∷ steps) ∷ []

abbrev pub due_after : Reader → State → List Step → Due
due_after read st steps = record { lines = answer_lines (replies read st steps); state = run read st steps }

-- no line of it is too long for a trace: else nothing that begins so is accepted
abbrev pub can_come : Due → Bool
can_come d = list_all is_short d.lines

-- what may come behind a line of these steps
abbrev pub dues : Reader → State → List Step → List Due
dues read st steps = filter can_come (map (due_after read st) (ways steps))

-- a script's line may come where no line of a reply is due
abbrev pub behind_asked : Reader → List ℕ → Due → List Due
behind_asked read line d = if is_told d then dues read d.state (line_steps line) else []

-- a line of a reply is the next one that is due
abbrev pub next_told : List ℕ → State → List (List ℕ) → List Due
next_told line st [] = []
next_told line st (text ∷ more) = if bytes_eq text line then record { lines = more; state = st } ∷ [] else []

abbrev pub behind_told : List ℕ → Due → List Due
behind_told line d = next_told line d.state d.lines

-- what may come behind a line, if anything
abbrev pub behind : Reader → List ℕ → List Due → List Due
behind read line all =
    if is_short line then
    (if bytes_eq (take 2 line) asked_mark then flat_map (behind_asked read (drop 2 line)) all
    else (if bytes_eq (take 2 line) told_mark then flat_map (behind_told line) all else []))
    else []

-- the trace may end here
abbrev pub is_over : List Due → Bool
is_over all = list_any is_told all

-- the first wrong line, counted from this number
abbrev pub fault_behind : Reader → ℕ → List Due → List (List ℕ) → Option ℕ
fault_behind read k [] lines = Some k
fault_behind read k (d ∷ all) [] = if is_over (d ∷ all) then None else Some (k + 1)
fault_behind read k (d ∷ all) (line ∷ lines) = fault_behind read (k + 1) (behind read line (d ∷ all)) lines

-- what may come first
abbrev pub first_dues : List Due
first_dues = record { lines = []; state = opening } ∷ []

-- of a trace's lines
abbrev pub lines_fault : Reader → List (List ℕ) → Option ℕ
lines_fault read lines = fault_behind read 0 first_dues lines

-- of a trace
abbrev pub trace_fault : Reader → List ℕ → Option ℕ
trace_fault read bytes = lines_fault read (lines_of bytes)
