-- What the entries of others leave of a session.
use Rattle.std.proofs.Common.{◌≡◌, ◌≢◌, ℕ, ◌+◌, ◌-◌, ◌<◌, Bool, true, false, List, [], ◌∷◌, ◌++◌, ◌∙◌, length, refl, sym, ap, subst, arith, cond, inl}
use Rattle.std.specs.Prelude.{◌==◌}
use Rattle.std.proofs.lemmas.List.{append_assoc, append-nil, length-append}
use mathlib.Core.Option.{some, some-injective}
use mathlib.Core.List.{IsPrefix}
use lib.ListN.{get_elem?}
use Rattle.ifdb_turn.specs.Histories.{AllRight, NoRootsFrom}
use Rattle.ifdb_turn.specs.Places.{times}
use Rattle.ifdb_wire.specs.Text.{reply_text}
use Rattle.ifdb_wire.specs.declared.fault.Fault.TheVariants as fault
use Rattle.ifdb_wire.specs.declared.reply.Reply.TheVariants as reply
use Rattle.std.specs.Prelude.{None}
use Rattle.ifdb_model.specs.Session.{Session}
use Rattle.ifdb_model.specs.Step.{Reader}
use Rattle.ifdb_model.specs.Run.{State, session_of, asks, refused, leaves, next, run, outcome_of}
use Rattle.ifdb_model.proofs.Runs.{run-append}
use Rattle.ifdb_history.specs.declared.entry.Entry.{Entry}
use Rattle.ifdb_history.specs.declared.entry.Kind.{Kind}
use Rattle.ifdb_history.specs.declared.entry.Kind.TheVariants as kind
use Rattle.ifdb_history.specs.declared.entry.Note.{Note}
use Rattle.ifdb_history.specs.History.{Start, note_step, work_steps, steps_of, flat, after, WasOpened, roots_from, HasRoot, IsRightKind, IsRight, Holds}
use Rattle.ifdb_history.specs.Lines.{work_lines, lines_at, lines_of, told_in, Tells, AllTell, IsTold}
use Rattle.ifdb_history.proofs.Sessions.{open_was, kept_at_opening, kept_at_line, kept_at_leaving, one_more, as_many_at_line, as_many_at_leaving, kept_at_work, was_at_work}
use Rattle.ifdb_history.proofs.Flat.{told_in-append, after-append, lines-append, is_told-append, root-append}

-- the turn isn't of this session
abbrev pub IsApart : ℕ → Kind → Type 0
IsApart n kind.Opened = Unit {0}
IsApart n (kind.Asked m work line) = m ≢ n
IsApart n (kind.Looked m line) = m ≢ n
IsApart n (kind.Refused m line) = m ≢ n
IsApart n (kind.Left m work) = m ≢ n

-- none of these entries is
abbrev pub AreApart : ℕ → List Entry → Type 0
AreApart n [] = Unit {0}
AreApart n (e ∷ h) = IsApart n e.kind × AreApart n h

other : (m n : ℕ) → m ≢ n → (m == n) ≡ false
other m n ne = Rattle.std.proofs.Common.ne_eqb m n ne

apart_line : (n : ℕ) (x : Kind) → IsApart n x → lines_at n x ≡ []
apart_line n kind.Opened a = refl
apart_line n (kind.Asked m work line) a = ap (λ b. cond b (work_lines work ++ line ∷ []) []) (other m n a)
apart_line n (kind.Looked m line) a = ap (λ b. cond b (line ∷ []) []) (other m n a)
apart_line n (kind.Refused m line) a = ap (λ b. cond b (line ∷ []) []) (other m n a)
apart_line n (kind.Left m work) a = ap (λ b. cond b (work_lines work) []) (other m n a)

pub apart_lines : (n : ℕ) (h : List Entry) → AreApart n h → lines_of n h ≡ []
apart_lines n [] a = refl
apart_lines n (e ∷ h) a = ap (λ l. l ++ lines_of n h) (apart_line n e.kind a.0) ∙ apart_lines n h a.1

module _ (read : Reader) where
  apart_line_told : (n m : ℕ) (st : State) (line : List ℕ) → m ≢ n → told_in read n st (asks m line ∷ []) ≡ []
  apart_line_told n m st line a = ap (λ b. cond b (reply_text None (outcome_of read st m line).reply) [] ++ []) (other m n a)

  apart_refusal_told : (n m : ℕ) (st : State) → m ≢ n → told_in read n st (refused m ∷ []) ≡ []
  apart_refusal_told n m st a = ap (λ b. cond b (reply_text None (reply.Refused fault.OutOfMemory)) [] ++ []) (other m n a)

  apart_note_told : (n m : ℕ) (st : State) (w : Note) → m ≢ n → told_in read n st (note_step m w ∷ []) ≡ []
  apart_note_told n m st w a = by w.is_refused where
    by : (b : Bool) → told_in read n st (cond b (refused m) (asks m w.line) ∷ []) ≡ []
    by true = apart_refusal_told n m st a
    by false = apart_line_told n m st w.line a

  apart_work_told : (n m : ℕ) (st : State) (work : List Note) → m ≢ n → told_in read n st (work_steps m work) ≡ []
  apart_work_told n m st [] a = refl
  apart_work_told n m st (w ∷ work) a =
      told_in-append read n st (note_step m w ∷ []) (work_steps m work)
      ∙ ap (λ bs. bs ++ told_in read n (next read st (note_step m w)) (work_steps m work)) (apart_note_told n m st w a)
      ∙ apart_work_told n m (next read st (note_step m w)) work a

  apart_tells : (n : ℕ) (st : State) (x : Kind) → IsApart n x → Tells read n st x []
  apart_tells n st kind.Opened a = refl
  apart_tells n st (kind.Asked m work line) a =
      sym (told_in-append read n st (work_steps m work) (asks m line ∷ [])
      ∙ ap (λ bs. bs ++ told_in read n (run read st (work_steps m work)) (asks m line ∷ [])) (apart_work_told n m st work a)
      ∙ apart_line_told n m (run read st (work_steps m work)) line a)
  apart_tells n st (kind.Looked m line) a = inl (sym (apart_line_told n m st line a))
  apart_tells n st (kind.Refused m line) a = sym (apart_refusal_told n m st a)
  apart_tells n st (kind.Left m work) a =
      sym (told_in-append read n st (work_steps m work) (leaves m ∷ [])
      ∙ ap (λ bs. bs ++ []) (apart_work_told n m st work a))

  pub apart_told : (n : ℕ) (st : State) (h : List Entry) → AreApart n h → AllTell read n st h []
  apart_told n st [] a = refl
  apart_told n st (e ∷ h) a = ([], [], refl, apart_tells n st e.kind a.0, apart_told n (run read st (steps_of e.kind)) h a.1)

  apart_session : (n : ℕ) (st : State) (x : Kind) → IsApart n x → WasOpened st n → session_of (run read st (steps_of x)) n ≡ session_of st n
  apart_session n st kind.Opened a w = kept_at_opening read st n w
  apart_session n st (kind.Asked m work line) a w =
      ap (λ (t : State). session_of t n) (run-append read st (work_steps m work) (asks m line ∷ []))
      ∙ kept_at_line read (run read st (work_steps m work)) m n line a (was_at_work read st m n work w)
      ∙ kept_at_work read st m n work a w
  apart_session n st (kind.Looked m line) a w = kept_at_line read st m n line a w
  apart_session n st (kind.Refused m line) a w = refl
  apart_session n st (kind.Left m work) a w =
      ap (λ (t : State). session_of t n) (run-append read st (work_steps m work) (leaves m ∷ []))
      ∙ kept_at_leaving read (run read st (work_steps m work)) m n a (was_at_work read st m n work w)
      ∙ kept_at_work read st m n work a w

  was_opened : (n : ℕ) (st : State) (x : Kind) → WasOpened st n → WasOpened (run read st (steps_of x)) n
  was_opened n st kind.Opened w = let e = one_more read st in let le = w.1 in (w.0, omega (arith, e, le))
  was_opened n st (kind.Asked m work line) w =
      let before = was_at_work read st m n work w in
      let e = as_many_at_line read (run read st (work_steps m work)) m line in
      let le = before.1 in
      subst (λ (t : State). WasOpened t n) (sym (run-append read st (work_steps m work) (asks m line ∷ []))) (w.0, omega (arith, e, le))
  was_opened n st (kind.Looked m line) w = let e = as_many_at_line read st m line in let le = w.1 in (w.0, omega (arith, e, le))
  was_opened n st (kind.Refused m line) w = w
  was_opened n st (kind.Left m work) w =
      let before = was_at_work read st m n work w in
      let e = as_many_at_leaving read (run read st (work_steps m work)) m in
      let le = before.1 in
      subst (λ (t : State). WasOpened t n) (sym (run-append read st (work_steps m work) (leaves m ∷ []))) (w.0, omega (arith, e, le))

  -- the session is as it was
  pub apart_sessions : (n : ℕ) (st : State) (h : List Entry) → AreApart n h → WasOpened st n
      → (session_of (run read st (flat h)) n ≡ session_of st n) × WasOpened (run read st (flat h)) n
  apart_sessions n st [] a w = (refl, w)
  apart_sessions n st (e ∷ h) a w =
      let here = apart_session n st e.kind a.0 w in
      let more = apart_sessions n (run read st (steps_of e.kind)) h a.1 (was_opened n st e.kind w) in
      let parts = run-append read st (steps_of e.kind) (flat h) in
      subst (λ (t : State). (session_of t n ≡ session_of st n) × WasOpened t n) (sym parts) (more.0 ∙ here, more.1)

-- ---- no entry of others is of a session whose root is one of ours

not_ours : (h : List Entry) (n m place root : ℕ) (own : List ℕ) → HasRoot h n place → 0 < times place own → HasRoot h m root → times root own ≡ 0 → m ≢ n
not_ours h n m place root own at mine there none same =
    let e : root ≡ place = some-injective root place (sym there ∙ ap (λ k. get_elem? (roots_from 0 h) (k - 1)) same ∙ at) in
    let gone : times place own ≡ 0 = subst (λ k. times k own ≡ 0) e none in
    omega (arith, gone, mine)

at_middle : (h : List Entry) (e : Entry) (k : List Entry) → get_elem? (h ++ e ∷ k) (length h) ≡ some e
at_middle [] e k = refl
at_middle (x ∷ h) e k = at_middle h e k

module _ (start : Start) where
  pub told_longer : (n : ℕ) (h k : List Entry) → AreApart n k → (text : List ℕ) → IsTold start n h text → IsTold start n (h ++ k) text
  told_longer n h k apart text t = subst (IsTold start n (h ++ k)) (append-nil text) (is_told-append start n h k text [] t (apart_told start.read n (after start h) k apart))

  apart_root : (h : List Entry) (n place root : ℕ) (own : List ℕ) (x : Kind) → HasRoot h n place → 0 < times place own
      → IsRightKind start h root x → times root own ≡ 0 → IsApart n x
  apart_root h n place root own kind.Opened at mine right away = tt
  apart_root h n place root own (kind.Asked m work line) at mine right away = not_ours h n m place root own at mine right.0.1 away
  apart_root h n place root own (kind.Looked m line) at mine right away = not_ours h n m place root own at mine right.0.1 away
  apart_root h n place root own (kind.Refused m line) at mine right away = not_ours h n m place root own at mine right.1 away
  apart_root h n place root own (kind.Left m work) at mine right away = not_ours h n m place root own at mine right.0.1 away

  others_apart : (n place : ℕ) (own : List ℕ) (h k : List Entry) → HasRoot h n place → 0 < times place own
      → AllRight (IsRight start) (h ++ k) → NoRootsFrom (λ (e : Entry). e.root) (h ++ k) (length h) own → AreApart n k
  others_apart n place own h [] at mine right away = tt
  others_apart n place own h (e ∷ k) at mine right away =
      let is : (h ++ e ∷ []) ++ k ≡ h ++ e ∷ k = append_assoc h (e ∷ []) k in
      let long = length-append h (e ∷ []) in
      let here = apart_root h n place e.root own e.kind at mine (right h e (k, is)) (away (length h) e (omega arith) (at_middle h e k)) in (
        here,
        others_apart n place own (h ++ e ∷ []) k (root-append h (e ∷ []) n place at) mine (subst (AllRight (IsRight start)) (sym is) right)
            (subst (λ l. NoRootsFrom (λ (x : Entry). x.root) l (length (h ++ e ∷ [])) own) (sym is) (λ j x le there. away j x (omega (arith, le, long)) there)),
      )

  -- a longer history to which others alone added leaves the session, its lines and what it was told
  pub kept_among_others : (h log : List Entry) (own : List ℕ) (n : ℕ) → Holds start h own n → IsPrefix h log
      → AllRight (IsRight start) log → NoRootsFrom (λ (e : Entry). e.root) log (length h) own
      → Holds start log own n × (lines_of n log ≡ lines_of n h) × ((text : List ℕ) → IsTold start n h text → IsTold start n log text)
      × (session_of (after start log) n ≡ session_of (after start h) n)
  kept_among_others h log own n holds front right away =
      let k = front.0 in
      let apart = others_apart n holds.1.0 own h k holds.1.1 holds.1.2
      (subst (AllRight (IsRight start)) (sym front.1) right)
      (subst (λ l. NoRootsFrom (λ (e : Entry). e.root) l (length h) own) (sym front.1) away) in
      let same = apart_sessions start.read n (after start h) k apart (open_was (after start h) n holds.0) in
      let there : session_of (after start (h ++ k)) n ≡ session_of (after start h) n = ap (λ (st : State). session_of st n) (after-append start h k) ∙ same.0 in
      subst (λ l. Holds start l own n × (lines_of n l ≡ lines_of n h) × ((text : List ℕ) → IsTold start n h text → IsTold start n l text)
      × (session_of (after start l) n ≡ session_of (after start h) n)) front.1 (
        (ap (λ (s : Session). s.is_open) there ∙ holds.0, (holds.1.0, root-append h k n holds.1.0 holds.1.1, holds.1.2)),
        lines-append n h k ∙ ap (λ l. lines_of n h ++ l) (apart_lines n k apart) ∙ append-nil (lines_of n h),
        told_longer n h k apart,
        there,
      )
