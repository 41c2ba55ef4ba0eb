-- What an entry of the session's own adds.
use Rattle.std.proofs.Common.{◌≡◌, ℕ, ◌+◌, ◌-◌, ◌<◌, true, List, [], ◌∷◌, ◌++◌, ◌∙◌, refl, sym, ap, subst, arith, cond, inl, inr}
use Rattle.std.specs.Prelude.{◌==◌, None}
use Rattle.std.proofs.lemmas.List.{append_assoc, append-nil}
use Rattle.ifdb_turn.specs.Places.{times}
use Rattle.ifdb_turn.proofs.PlaceLemmas.{times-snoc}
use Rattle.ifdb_wire.specs.Text.{reply_text}
use Rattle.ifdb_wire.specs.declared.fault.Fault.TheVariants as fault
use Rattle.ifdb_wire.specs.declared.reply.Reply.TheVariants as reply
use Rattle.ifdb_model.specs.Run.{Step, asks, leaves, run, outcome_of}
use Rattle.ifdb_history.specs.declared.entry.Entry.{Entry}
use Rattle.ifdb_history.specs.declared.entry.Kind.TheVariants as kind
use Rattle.ifdb_history.specs.declared.entry.Note.{Note}
use Rattle.ifdb_history.specs.History.{Start, work_steps, steps_of, after, IsOpen, IsAt, HasRoot, Holds, root_at, root_in, entry_of}
use Rattle.ifdb_history.specs.Lines.{work_lines, lines_of, told_in, Tells, IsTold, lines_with, IsToldWith}
use Rattle.ifdb_history.proofs.Flat.{told_in-append, after-append, lines-append, is_told-append, root-append}

same_number : (n : ℕ) → (n == n) ≡ true
same_number n = Rattle.std.proofs.Common.eq-eqb n n refl

-- ---- the root of a session's own entry

root_is : (h : List Entry) (n place : ℕ) → HasRoot h n place → root_in h n ≡ place
root_is h n place at = ap root_at at

module _ (start : Start) where
  -- it is right, and among the own places
  pub own_is_right : (h : List Entry) (own : List ℕ) (n : ℕ) → Holds start h own n → IsAt start h n (root_in h n) × (0 < times (root_in h n) own)
  own_is_right h own n holds =
      let is = root_is h n holds.1.0 holds.1.1 in
      subst (λ k. IsAt start h n k × (0 < times k own)) (sym is) ((holds.0, holds.1.1), holds.1.2)

  -- ---- what a turn adds to the lines, and to what is told

  -- one turn more tells what it tells
  told_more : (h : List Entry) (n : ℕ) (e : Entry) (before text : List ℕ) → IsTold start n h before → Tells start.read n (after start h) e.kind text
      → IsTold start n (h ++ e ∷ []) (before ++ text)
  told_more h n e before text b t = is_told-append start n h (e ∷ []) before text b (text, [], sym (append-nil text), t, refl)

  -- what is told to the session itself
  told_itself : (n : ℕ) (text : List ℕ) → cond (n == n) text [] ++ [] ≡ text
  told_itself n text = ap (λ b. cond b text [] ++ []) (same_number n) ∙ append-nil text

  -- steps of the session's own, and then one more that tells it a text
  told_behind : (h : List Entry) (n : ℕ) (work : List Note) (last : Step) (text : List ℕ) → told_in start.read n (run start.read (after start h) (work_steps n work)) (last ∷ []) ≡ text
      → told_in start.read n (after start h) (work_steps n work ++ last ∷ []) ≡ told_in start.read n (after start h) (work_steps n work) ++ text
  told_behind h n work last text tells =
      told_in-append start.read n (after start h) (work_steps n work) (last ∷ [])
      ∙ ap (λ l. told_in start.read n (after start h) (work_steps n work) ++ l) tells

  pub asked_adds : (h : List Entry) (n : ℕ) (work : List Note) (line : List ℕ) (e : Entry) → e ≡ entry_of h n (kind.Asked n work line)
      → (lines_of n (h ++ e ∷ []) ≡ lines_with n h work ++ line ∷ [])
      × ((all : List ℕ) → IsToldWith start n h work all
      → IsTold start n (h ++ e ∷ []) (all ++ reply_text None (outcome_of start.read (run start.read (after start h) (work_steps n work)) n line).reply))
  asked_adds h n work line e is = subst (λ x. (lines_of n (h ++ x ∷ []) ≡ lines_with n h work ++ line ∷ [])
      × ((all : List ℕ) → IsToldWith start n h work all → IsTold start n (h ++ x ∷ []) (all ++ text))) (sym is) (
        lines-append n h (own ∷ []) ∙ ap (λ b. lines_of n h ++ (cond b (work_lines work ++ line ∷ []) [] ++ [])) (same_number n)
            ∙ ap (λ l. lines_of n h ++ l) (append-nil (work_lines work ++ line ∷ []))
            ∙ sym (append_assoc (lines_of n h) (work_lines work) (line ∷ [])),
        λ all t. subst (IsTold start n (h ++ own ∷ [])) (sym (ap (λ l. l ++ text) t.2 ∙ append_assoc t.0 worked text))
            (told_more h n own t.0 (worked ++ text) t.1 (sym (told_behind h n work (asks n line) text (told_itself n text)))),
      ) where
        own : Entry
        own = entry_of h n (kind.Asked n work line)

        worked : List ℕ
        worked = told_in start.read n (after start h) (work_steps n work)

        text : List ℕ
        text = reply_text None (outcome_of start.read (run start.read (after start h) (work_steps n work)) n line).reply

  pub looked_adds : (h : List Entry) (n : ℕ) (line : List ℕ) (e : Entry) → e ≡ entry_of h n (kind.Looked n line)
      → (lines_of n (h ++ e ∷ []) ≡ lines_of n h ++ line ∷ [])
      × ((before : List ℕ) → IsTold start n h before → IsTold start n (h ++ e ∷ []) (before ++ reply_text None (outcome_of start.read (after start h) n line).reply))
      × ((before : List ℕ) → IsTold start n h before → IsTold start n (h ++ e ∷ []) (before ++ reply_text None (reply.Refused fault.OutOfMemory)))
  looked_adds h n line e is = subst (λ x. (lines_of n (h ++ x ∷ []) ≡ lines_of n h ++ line ∷ [])
      × ((before : List ℕ) → IsTold start n h before → IsTold start n (h ++ x ∷ []) (before ++ text))
      × ((before : List ℕ) → IsTold start n h before → IsTold start n (h ++ x ∷ []) (before ++ none))) (sym is) (
        lines-append n h (own ∷ []) ∙ ap (λ b. lines_of n h ++ (cond b (line ∷ []) [] ++ [])) (same_number n),
        λ before b. told_more h n own before text b (inl (sym (told_itself n text))),
        λ before b. told_more h n own before none b (inr (sym (told_itself n none))),
      ) where
        own : Entry
        own = entry_of h n (kind.Looked n line)

        text : List ℕ
        text = reply_text None (outcome_of start.read (after start h) n line).reply

        none : List ℕ
        none = reply_text None (reply.Refused fault.OutOfMemory)

  pub refused_adds : (h : List Entry) (n : ℕ) (line : List ℕ) (e : Entry) → e ≡ entry_of h n (kind.Refused n line)
      → (lines_of n (h ++ e ∷ []) ≡ lines_of n h ++ line ∷ [])
      × ((before : List ℕ) → IsTold start n h before → IsTold start n (h ++ e ∷ []) (before ++ reply_text None (reply.Refused fault.OutOfMemory)))
  refused_adds h n line e is = subst (λ x. (lines_of n (h ++ x ∷ []) ≡ lines_of n h ++ line ∷ [])
      × ((before : List ℕ) → IsTold start n h before → IsTold start n (h ++ x ∷ []) (before ++ text))) (sym is) (
        lines-append n h (own ∷ []) ∙ ap (λ b. lines_of n h ++ (cond b (line ∷ []) [] ++ [])) (same_number n),
        λ before b. told_more h n own before text b (sym (told_itself n text)),
      ) where
        own : Entry
        own = entry_of h n (kind.Refused n line)

        text : List ℕ
        text = reply_text None (reply.Refused fault.OutOfMemory)

  pub left_adds : (h : List Entry) (n : ℕ) (work : List Note) (e : Entry) → e ≡ entry_of h n (kind.Left n work)
      → (lines_of n (h ++ e ∷ []) ≡ lines_with n h work) × ((all : List ℕ) → IsToldWith start n h work all → IsTold start n (h ++ e ∷ []) all)
  left_adds h n work e is = subst (λ x. (lines_of n (h ++ x ∷ []) ≡ lines_with n h work) × ((all : List ℕ) → IsToldWith start n h work all → IsTold start n (h ++ x ∷ []) all)) (sym is) (
    lines-append n h (own ∷ []) ∙ ap (λ b. lines_of n h ++ (cond b (work_lines work) [] ++ [])) (same_number n)
        ∙ ap (λ l. lines_of n h ++ l) (append-nil (work_lines work)),
    λ all t. subst (IsTold start n (h ++ own ∷ [])) (sym t.2)
        (told_more h n own t.0 worked t.1 (sym (told_behind h n work (leaves n) [] refl ∙ append-nil worked))),
  ) where
    own : Entry
    own = entry_of h n (kind.Left n work)

    worked : List ℕ
    worked = told_in start.read n (after start h) (work_steps n work)

  -- ---- the session goes on, or is over

  -- the entry's step, after the history
  pub after_entry : (h : List Entry) (e : Entry) → after start (h ++ e ∷ []) ≡ run start.read (after start h) (steps_of e.kind ++ [])
  after_entry h e = after-append start h (e ∷ [])

  pub holds_on : (h : List Entry) (own : List ℕ) (n : ℕ) (e : Entry) (place : ℕ) → Holds start h own n → IsOpen (after start (h ++ e ∷ [])) n
      → Holds start (h ++ e ∷ []) (own ++ place ∷ []) n
  holds_on h own n e place holds opened =
      let more = times-snoc holds.1.0 own place in
      let mine = holds.1.2 in
      (opened, (holds.1.0, root-append h (e ∷ []) n holds.1.0 holds.1.1, omega (arith, more, mine)))
