-- A projected script has the steps that are asked inside.
use Rattle.std.proofs.Common.{◌≡◌, ℕ, ◌<◌, Bool, true, false, List, [], ◌∷◌, ◌++◌, length, refl, sym, ap, ◌∙◌, arith, cond}
use Rattle.std.specs.Prelude.{not, ◌==◌, replicate}
use Rattle.std.specs.List.{list_all}
use Rattle.std.proofs.lemmas.Bool.Decides.{nat_tests}
use Rattle.std.proofs.lemmas.List.{append_assoc, length-replicate}
use Rattle.ifdb_wire.specs.Script.{ScriptLine, script_line}
use Rattle.ifdb_wire.specs.Script as script
use Rattle.ifdb_model.specs.Step.{Reader}
use Rattle.ifdb_model.specs.Run.{State, opening, Step, opens, asks, long, stray, run, replies}
use Rattle.ifdb_model.specs.Script.{on_first, lines_of, line_step, line_steps, steps_of}
use Rattle.ifdb_model.specs.Output.{refused_at, texts}
use Rattle.ifdb_model.specs.Low.{asked, low}
use Rattle.ifdb_laws.specs.Bytes.{is_line}
use Rattle.ifdb_laws.specs.TwoWorlds.{AloneIsHeard}
use Rattle.ifdb_trace.specs.Projection.{overlong_line, projected_line, projected_from, projected}
use Rattle.ifdb_trace.specs.Laws.{StepsAreLow, ProjectionIsHeard}

-- a line and its newline come first
line_first : (text rest : List ℕ) → is_line text ≡ true → lines_of (text ++ 10 ∷ rest) ≡ text ∷ lines_of rest
line_first [] rest h = refl
line_first (b ∷ text) rest h = grind (arith, nat_tests, line_first text rest)

step_first : (text rest : List ℕ) → is_line text ≡ true → steps_of ((text ++ 10 ∷ []) ++ rest) ≡ line_steps text ++ steps_of rest
step_first text rest h =
    ap steps_of (append_assoc text (10 ∷ []) rest) ∙ ap (Rattle.std.specs.Prelude.flat_map line_steps) (line_first text rest h)

-- the lines of a script have no newline
first_plain : (b : ℕ) (lines : List (List ℕ)) → not (b == 10) ≡ true → list_all is_line lines ≡ true → list_all is_line (on_first b lines) ≡ true
first_plain b [] n h = grind (arith, nat_tests)
first_plain b (line ∷ lines) n h = grind (arith, nat_tests)

lines_plain : (bytes : List ℕ) → list_all is_line (lines_of bytes) ≡ true
lines_plain [] = refl
lines_plain (b ∷ bytes) = by (lines_plain bytes) (b == 10) refl where
  by : list_all is_line (lines_of bytes) ≡ true → (c : Bool) → (b == 10) ≡ c → list_all is_line (cond c ([] ∷ lines_of bytes) (on_first b (lines_of bytes))) ≡ true
  by h true e = h
  by h false e = first_plain b (lines_of bytes) (ap not e) h

-- letters x
many_plain : (n : ℕ) → is_line (replicate n 120) ≡ true
many_plain Rattle.std.proofs.Common.zero = refl
many_plain (Rattle.std.proofs.Common.suc n) = many_plain n

overlong_plain : is_line overlong_line ≡ true
unfolding overlong_line
overlong_plain = many_plain 65536

overlong_size : length overlong_line ≡ 65536
unfolding overlong_line
overlong_size = let x : ℕ = 120 in length-replicate 65536 x

pub long_steps : (line : List ℕ) → 65535 < length line → line_steps line ≡ long ∷ []
long_steps line h = grind (arith, nat_tests)

overlong_steps : line_steps overlong_line ≡ long ∷ []
overlong_steps = long_steps overlong_line (omega (arith, overlong_size))

-- ---- a line's steps, one at most

-- what is written again is read as the same step
one_line : (level : List ℕ) (st : State) (line rest text : List ℕ) (x : Step) → is_line text ≡ true → line_steps text ≡ x ∷ []
    → steps_of ((cond (asked level st x) (text ++ 10 ∷ []) []) ++ rest) ≡ cond (asked level st x) (x ∷ []) [] ++ steps_of rest
one_line level st line rest text x h e = by (asked level st x) where
  by : (b : Bool) → steps_of ((cond b (text ++ 10 ∷ []) []) ++ rest) ≡ cond b (x ∷ []) [] ++ steps_of rest
  by true = step_first text rest h ∙ ap (λ first. first ++ steps_of rest) e
  by false = refl

line_low : (read : Reader) (level : List ℕ) (st : State) (line rest : List ℕ) (more : List Step) (s : ScriptLine) → script_line line ≡ s → is_line line ≡ true
    → steps_of rest ≡ low read level (run read st (line_step s)) more
    → steps_of (projected_line level st line (line_step s) ++ rest) ≡ low read level st (line_step s ++ more)
line_low read level st line rest more script.skips e h i = i
line_low read level st line rest more script.opens e h i =
    one_line level st line rest line opens h (ap line_step e) ∙ ap (λ steps. opens ∷ steps) i
line_low read level st line rest more (script.asks n request) e h i =
    one_line level st line rest line (asks n request) h (ap line_step e) ∙ ap (λ steps. cond (asked level st (asks n request)) (asks n request ∷ []) [] ++ steps) i
line_low read level st line rest more script.strays e h i =
    one_line level st line rest line stray h (ap line_step e) ∙ ap (λ steps. stray ∷ steps) i
line_low read level st line rest more script.overlong e h i =
    one_line level st line rest overlong_line long overlong_plain overlong_steps ∙ ap (λ steps. long ∷ steps) i

lines_low : (read : Reader) (level : List ℕ) (st : State) (lines : List (List ℕ)) → list_all is_line lines ≡ true
    → steps_of (projected_from read level st lines) ≡ low read level st (Rattle.std.specs.Prelude.flat_map line_steps lines)
lines_low read level st [] h = refl
lines_low read level st (line ∷ lines) h =
    let parts : (is_line line ≡ true) × (list_all is_line lines ≡ true) = grind (arith, nat_tests) in
    line_low read level st line (projected_from read level (run read st (line_steps line)) lines) (Rattle.std.specs.Prelude.flat_map line_steps lines) (script_line line) refl parts.0
    (lines_low read level (run read st (line_steps line)) lines parts.1)

pub steps_are_low : StepsAreLow
steps_are_low read level bytes = lines_low read level opening (lines_of bytes) (lines_plain bytes)

-- ---- what it is told

none_refused : (xs : List Step) → refused_at [] xs ≡ xs
none_refused [] = refl
none_refused (x ∷ xs) = refl

pub projection_is_heard : AloneIsHeard → ProjectionIsHeard
projection_is_heard alone_is_heard read level bytes q =
    ap (λ steps. texts (replies read opening steps)) (none_refused (steps_of (projected read level bytes)) ∙ steps_are_low read level bytes)
    ∙ ap texts (alone_is_heard read level (steps_of bytes) q)
