-- What turns record.
use Rattle.std.proofs.Common.{◌≡◌, ℕ, Bool, true, false, List, [], ◌∷◌, ◌++◌, ◌∙◌, length, refl, sym, ap, arith, cond, Option, Some, None}
use Rattle.std.specs.Prelude.{option_to_list}
use Rattle.std.proofs.lemmas.List.{append_assoc, append-nil, length-append}
use Rattle.ifdb_redo.specs.declared.record.RedoRecord.{RedoRecord}
use Rattle.ifdb_model.specs.Log.{Entry as LogEntry}
use Rattle.ifdb_model.specs.Step.{Reader, ask}
use Rattle.ifdb_model.specs.Run.{State, Step, session_of, with_outcome, opens, asks, refused, long, stray, leaves, next, run}
use Rattle.ifdb_restore.specs.Redone.{recorded, records_at, records}
use Rattle.ifdb_db.specs.Reading.{read_line}
use Rattle.ifdb_history.specs.declared.entry.Entry.{Entry}
use Rattle.ifdb_history.specs.History.{first_state, steps_of, flat, after}
use Rattle.ifdb_history.proofs.Flat.{flat-append}
use Rattle.ifdb_session.specs.Records.{records_of}
use Rattle.ifdb_session.specs.Starts.{start_of}

-- ---- steps, one after another

pub records-append : (read : Reader) (st : State) (first more : List Step) → records read st (first ++ more) ≡ records read st first ++ records read (run read st first) more
records-append read st [] more = refl
records-append read st (x ∷ first) more =
    ap (λ (l : List RedoRecord). records_at read st x ++ l) (records-append read (next read st x) first more)
    ∙ sym (append_assoc (records_at read st x) (records read (next read st x) first) (records read (run read (next read st x) first) more))

-- ---- a step that adds nothing to the log records nothing

unadded : (log : List LogEntry) (asker : Option ℕ) (line : List ℕ) (added : Option LogEntry) → log ++ option_to_list added ≡ log → recorded asker line added ≡ []
unadded log asker line None same = refl
unadded log asker line (Some e) same = let a = ap length same in let b = length-append log (e ∷ []) in absurd (omega (arith, a, b))

pub quiet : (read : Reader) (st : State) (x : Step) → (next read st x).log ≡ st.log → records_at read st x ≡ []
quiet read st opens same = refl
quiet read st (asks n line) same = by (session_of st n).is_open same where
  by : (b : Bool) → (cond b (with_outcome st n (ask read st.log (session_of st n) line)) st).log ≡ st.log
      → cond b (recorded (session_of st n).principal line (ask read st.log (session_of st n) line).added) [] ≡ []
  by true same = unadded st.log (session_of st n).principal line (ask read st.log (session_of st n) line).added same
  by false same = refl
quiet read st (refused n) same = refl
quiet read st long same = refl
quiet read st stray same = refl
quiet read st (leaves n) same = refl

-- ---- a history and one more entry

module _ (older : List LogEntry) where
  pub records_more : (h : List Entry) (e : Entry) → records_of older (h ++ e ∷ []) ≡ records_of older h ++ records read_line (after (start_of older) h) (steps_of e.kind)
  records_more h e =
      ap (records read_line (first_state (start_of older))) (flat-append h (e ∷ []) ∙ ap (λ (steps : List Step). flat h ++ steps) (append-nil (steps_of e.kind)))
      ∙ records-append read_line (first_state (start_of older)) (flat h) (steps_of e.kind)

  -- that recorded nothing
  pub records_still : (h : List Entry) (e : Entry) → records read_line (after (start_of older) h) (steps_of e.kind) ≡ [] → records_of older (h ++ e ∷ []) ≡ records_of older h
  records_still h e none = records_more h e ∙ ap (λ (rs : List RedoRecord). records_of older h ++ rs) none ∙ append-nil (records_of older h)
