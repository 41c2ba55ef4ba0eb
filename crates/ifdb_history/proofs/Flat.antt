-- A history and then more of it.
use Rattle.std.proofs.Common.{◌≡◌, ℕ, ◌+◌, ◌-◌, List, [], ◌∷◌, ◌++◌, ◌∙◌, length, refl, sym, ap, subst, arith}
use Rattle.std.proofs.lemmas.List.{append_assoc, length-append}
use Rattle.std.proofs.lemmas.List.Concat.{flat_map-append}
use lib.ListN.{get_elem?}
use Rattle.atomic_table.proofs.Lists.{at_longer}
use Rattle.ifdb_model.specs.Step.{Reader}
use Rattle.ifdb_model.specs.Run.{State, Step, asks, leaves, run, replies}
use Rattle.ifdb_model.proofs.Runs.{run-append, replies-append}
use Rattle.ifdb_history.specs.declared.entry.Entry.{Entry}
use Rattle.ifdb_history.specs.declared.entry.Kind.{Kind}
use Rattle.ifdb_history.specs.declared.entry.Kind.TheVariants as kind
use Rattle.ifdb_history.specs.History.{Start, first_state, work_steps, steps_of, flat, after, root_of, roots_from, HasRoot}
use Rattle.ifdb_history.specs.Lines.{lines_at, lines_of, text_to, told_in, AllTell, IsTold}
use Rattle.ifdb_history.proofs.Sessions.{one_more, as_many_at_line, as_many_at_leaving, as_many_at_work}

pub flat-append : (h k : List Entry) → flat (h ++ k) ≡ flat h ++ flat k
flat-append [] k = refl
flat-append (e ∷ h) k = ap (λ xs. steps_of e.kind ++ xs) (flat-append h k) ∙ sym (append_assoc (steps_of e.kind) (flat h) (flat k))

pub after-append : (start : Start) (h k : List Entry) → after start (h ++ k) ≡ run start.read (after start h) (flat k)
after-append start h k = ap (run start.read (first_state start)) (flat-append h k) ∙ run-append start.read (first_state start) (flat h) (flat k)

pub lines-append : (n : ℕ) (h k : List Entry) → lines_of n (h ++ k) ≡ lines_of n h ++ lines_of n k
lines-append n [] k = refl
lines-append n (e ∷ h) k = ap (λ ls. lines_at n e.kind ++ ls) (lines-append n h k) ∙ sym (append_assoc (lines_at n e.kind) (lines_of n h) (lines_of n k))

all_tell-append : (read : Reader) (n : ℕ) (st : State) (h k : List Entry) (a b : List ℕ) → AllTell read n st h a → AllTell read n (run read st (flat h)) k b
    → AllTell read n st (h ++ k) (a ++ b)
all_tell-append read n st [] k a b p q = subst (λ l. AllTell read n st k (l ++ b)) (sym p) q
all_tell-append read n st (e ∷ h) k a b p q = (
  p.0,
  p.1 ++ b,
  ap (λ l. l ++ b) p.2 ∙ append_assoc p.0 p.1 b,
  p.3,
  all_tell-append read n (run read st (steps_of e.kind)) h k p.1 b p.4 (subst (λ (s : State). AllTell read n s k b) (run-append read st (steps_of e.kind) (flat h)) q),
)

pub is_told-append : (start : Start) (n : ℕ) (h k : List Entry) (a b : List ℕ) → IsTold start n h a → AllTell start.read n (after start h) k b → IsTold start n (h ++ k) (a ++ b)
is_told-append start n h k a b = all_tell-append start.read n (first_state start) h k a b

pub told_in-append : (read : Reader) (n : ℕ) (st : State) (first more : List Step) → told_in read n st (first ++ more) ≡ told_in read n st first ++ told_in read n (run read st first) more
told_in-append read n st first more =
    ap (Rattle.std.specs.Prelude.flat_map (text_to n)) (replies-append read st first more)
    ∙ flat_map-append (text_to n) (replies read st first) (replies read (run read st first) more)

-- ---- the places where sessions were opened

roots_from-append : (place : ℕ) (h k : List Entry) → roots_from place (h ++ k) ≡ roots_from place h ++ roots_from (place + length h) k
roots_from-append place [] k = let same : place ≡ place + 0 = omega arith in ap (λ j. roots_from j k) same
roots_from-append place (e ∷ h) k =
    let same : (place + 1) + length h ≡ place + length (e ∷ h) = omega arith in
    ap (λ l. root_of place e.kind ++ l) (roots_from-append (place + 1) h k ∙ ap (λ j. roots_from (place + 1) h ++ roots_from j k) same)
    ∙ sym (append_assoc (root_of place e.kind) (roots_from (place + 1) h) (roots_from (place + length (e ∷ h)) k))

pub roots-append : (h k : List Entry) → roots_from 0 (h ++ k) ≡ roots_from 0 h ++ roots_from (length h) k
roots-append h k = let same : 0 + length h ≡ length h = omega arith in roots_from-append 0 h k ∙ ap (λ j. roots_from 0 h ++ roots_from j k) same

pub root-append : (h k : List Entry) (n place : ℕ) → HasRoot h n place → HasRoot (h ++ k) n place
root-append h k n place r = ap (λ l. get_elem? l (n - 1)) (roots-append h k) ∙ at_longer (roots_from 0 h) (roots_from (length h) k) (n - 1) place r

-- a session has a root exactly where it was opened
kind_count : (read : Reader) (st : State) (place : ℕ) (x : Kind) → length (run read st (steps_of x)).sessions ≡ length st.sessions + length (root_of place x)
kind_count read st place kind.Opened = one_more read st
kind_count read st place (kind.Asked n work line) =
    let parts = ap (λ (t : State). length t.sessions) (run-append read st (work_steps n work) (asks n line ∷ [])) in
    let e = as_many_at_line read (run read st (work_steps n work)) n line in
    let before = as_many_at_work read st n work in
    omega (arith, parts, e, before)
kind_count read st place (kind.Looked n line) = let e = as_many_at_line read st n line in omega (arith, e)
kind_count read st place (kind.Refused n line) = omega arith
kind_count read st place (kind.Left n work) =
    let parts = ap (λ (t : State). length t.sessions) (run-append read st (work_steps n work) (leaves n ∷ [])) in
    let e = as_many_at_leaving read (run read st (work_steps n work)) n in
    let before = as_many_at_work read st n work in
    omega (arith, parts, e, before)

run_count : (read : Reader) (st : State) (place : ℕ) (h : List Entry) → length (run read st (flat h)).sessions ≡ length st.sessions + length (roots_from place h)
run_count read st place [] = omega arith
run_count read st place (e ∷ h) =
    let a = run_count read (run read st (steps_of e.kind)) (place + 1) h in
    let b = kind_count read st place e.kind in
    let c = ap (λ (t : State). length t.sessions) (run-append read st (steps_of e.kind) (flat h)) in
    let d = length-append (root_of place e.kind) (roots_from (place + 1) h) in
    omega (arith, a, b, c, d)

pub as_many_roots : (start : Start) (h : List Entry) → length (after start h).sessions ≡ length (roots_from 0 h)
as_many_roots start h = let e = run_count start.read (first_state start) 0 h in omega (arith, e)
