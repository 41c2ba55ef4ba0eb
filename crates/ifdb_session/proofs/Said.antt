-- What a turn has said, and how its session stands then.
use Rattle.std.proofs.Common.{◌≡◌, ℕ, Bool, true, false, List, [], ◌∷◌, ◌++◌, ◌∙◌, length, refl, sym, ap, subst, arith, Option, Some, None, Ok, inl, inr}
use Rattle.std.proofs.lemmas.List.{append-nil}
use Rattle.ifdb_model.specs.Session.{Session}
use Rattle.ifdb_model.specs.Step.{Outcome, ask}
use Rattle.ifdb_model.specs.Run.{State, session_of, outcome_of, asks, next, run}
use Rattle.ifdb_db.specs.Client.{Client}
use Rattle.ifdb_db.specs.Looks.{Looking, IsLookOf}
use Rattle.ifdb_db.specs.Reading.{read_line}
use Rattle.ifdb_db.specs.Room.{Hall, StandsFor}
use Rattle.ifdb_db.proofs.Looking.{shown_is_told, only_looks}
use Rattle.ifdb_syntax.specs.declared.request.Request.TheVariants as request
use Rattle.ifdb_wire.specs.declared.fault.Fault.TheVariants as fault
use Rattle.ifdb_wire.specs.declared.reply.Reply.{Reply}
use Rattle.ifdb_wire.specs.declared.reply.Reply.TheVariants as reply
use Rattle.ifdb_wire.specs.Text.{memory_text, reply_text}
use Rattle.ifdb_laws.proofs.Shapes.{bye_alone_lem}
use Rattle.ifdb_history.specs.declared.entry.Entry.{Entry}
use Rattle.ifdb_history.specs.declared.entry.Kind.TheVariants as kind
use Rattle.ifdb_history.specs.declared.entry.Note.{Note}
use Rattle.ifdb_history.specs.History.{work_steps, after, WasOpened, IsOpen, IsShut, Holds, root_in, entry_of}
use Rattle.ifdb_history.specs.Lines.{lines_of, lines_with, IsTold, IsToldWith}
use Rattle.ifdb_history.proofs.Sessions.{open_was, shut_by_leaving, as_many_at_line, was_at_work}
use Rattle.ifdb_history.proofs.Flat.{after-append}
use Rattle.ifdb_history.proofs.Own.{asked_adds, looked_adds, refused_adds, left_adds, holds_on}
use Rattle.ifdb_session.specs.Closings.{AsksBye, HasLeft}
use Rattle.ifdb_session.specs.Seats.{work_of, lines_in, IsToldIn, asked_entry, left_entry, Works, WorksIf, IsSeated, IsGone, IsToldAs, Notes, IsShownAs}
use Rattle.ifdb_session.specs.declared.seat.Seat.{Seat}
use Rattle.ifdb_session.specs.Turns.{with_lent, IsLentBy, IsAnswered}
use Rattle.ifdb_session.proofs.Counting.{session_after}
use Rattle.ifdb_session.proofs.Working.{work_here, works_here, if_stands, lent_works, works_more, lines_more, texts_more, told_alone, told_of_none}
use Rattle.ifdb_session.proofs.MayAdd.{asked_state, left_state}
use Rattle.ifdb_model.specs.Log.{Entry as LogEntry}
use Rattle.ifdb_session.specs.Starts.{start_of}

-- ---- a text is that of one reply

abbrev pub IsReply : List ℕ → Type 0
IsReply text = (r : Reply) × (text ≡ reply_text None r)

pub memory_is_reply : (text : List ℕ) → text ≡ memory_text None → IsReply text
memory_is_reply text e = (reply.Refused fault.OutOfMemory, e)

pub told_is_reply : (b : Bool) (line : List ℕ) (c e : Client) (text : List ℕ) → IsToldAs b line c e text → IsReply text
told_is_reply true line c e text t = memory_is_reply text t.1
told_is_reply false line c e text t = (t.0, t.2)

pub shown_is_reply : (x : Looking) (text : List ℕ) → IsShownAs x text → IsReply text
shown_is_reply x text (inl k) = (k.0, k.2)
shown_is_reply x text (inr e) = memory_is_reply text e

-- ---- what it says then

-- an open session that a line leaves closed was asked BYE
bye_closed : (st : State) (n : ℕ) (line : List ℕ) → IsOpen st n → (session_of (next read_line st (asks n line)) n).is_open ≡ false → read_line line ≡ Ok request.Bye
bye_closed st n line was shut = bye_alone_lem read_line st.log (session_of st n) line was (sym asked ∙ shut) where
  asked : (session_of (next read_line st (asks n line)) n).is_open ≡ (ask read_line st.log (session_of st n) line).session.is_open
  asked = ap (λ (z : Session). z.is_open) (session_after read_line st n line) ∙ ap (λ (o : Outcome). o.session.is_open) there where
    there : outcome_of read_line st n line ≡ ask read_line st.log (session_of st n) line
    there = rw was refl

module _ (older : List LogEntry) (log : List Entry) (own : List ℕ) (s : Seat) (seated : IsSeated older log own s) where
  -- behind its work the session is open
  open_still : (lent : Option Client) → WorksIf older log s.number (work_of s) lent → IsOpen (run read_line (after (start_of older) log) (work_steps s.number (work_of s))) s.number
  open_still None w = subst (λ ws. IsOpen (run read_line (after (start_of older) log) (work_steps s.number ws)) s.number) (sym w) seated.holds.0
  open_still (Some c) w =
      let at = work_here s.number (after (start_of older) log) (work_of s) w.begun c (works_here older log s.number (work_of s) c w) w.worked in
      ap (λ (z : Session). z.is_open) at.session ∙ at.lent.is_open

  -- the session is open still
  holds_then : (e : Entry) (later : List Entry) (places : List ℕ) → later ≡ log ++ e ∷ [] → places ≡ own ++ length log ∷ [] → IsOpen (after (start_of older) later) s.number → Holds (start_of older) later places s.number
  holds_then e later places is more o =
      let opened : IsOpen (after (start_of older) (log ++ e ∷ [])) s.number = subst (λ l. IsOpen (after (start_of older) l) s.number) is o in
      subst (λ (z : List Entry × List ℕ). Holds (start_of older) z.0 z.1 s.number) (λ i. (sym is i, sym more i)) (holds_on (start_of older) log own s.number e (length log) seated.holds opened)

  module _ (line : List ℕ) (later : List Entry) (is : later ≡ log ++ asked_entry log s.number (work_of s) line ∷ []) (room next_room : Hall) (text : List ℕ) (is_open : Bool)
      (stands : StandsFor room (after (start_of older) log)) (answered : IsAnswered s.number line (with_lent room s.number s.lent) next_room text is_open)
      (now : Option Client) (t : Seat) (number : t.number ≡ s.number) (lent : t.lent ≡ now) (none : work_of t ≡ []) where
    abbrev before : State
    before = run read_line (after (start_of older) log) (work_steps s.number (work_of s))

    then_stands : StandsFor next_room (after (start_of older) later)
    then_stands = subst (StandsFor next_room) (sym (ap (after (start_of older)) is ∙ asked_state older log s.number (work_of s) line))
        (answered.0 before (if_stands older log s.number (work_of s) room stands s.lent seated.works))

    pub asked_lines : lines_in later t ≡ lines_in log s ++ line ∷ []
    asked_lines =
        (λ i. lines_with (number i) later (none i)) ∙ append-nil (lines_of s.number later)
        ∙ ap (lines_of s.number) is ∙ (asked_adds (start_of older) log s.number (work_of s) line _ refl).0

    pub asked_texts : (all : List ℕ) → IsToldIn older log s all → IsToldIn older later t (all ++ text)
    asked_texts all b =
        let told = answered.1 before (if_stands older log s.number (work_of s) room stands s.lent seated.works) in
        told_alone older later t s.number (all ++ text) number none
        (subst (λ (z : List Entry × List ℕ). IsTold (start_of older) s.number z.0 (all ++ z.1)) (λ i. (sym is i, sym told i)) ((asked_adds (start_of older) log s.number (work_of s) line _ refl).1 all b))

    pub asked_open : is_open ≡ true → IsLentBy next_room s.number now → (places : List ℕ) → places ≡ own ++ length log ∷ [] → IsSeated older later places t
    asked_open o by_room places more = record {
      holds = subst (Holds (start_of older) later places) (sym number) (holds_then _ later places is more (answered.2 (after (start_of older) later) then_stands ∙ o));
      works = subst (λ (z : ℕ × List Note × Option Client). WorksIf older later z.0 z.1 z.2) (λ i. (sym number i, sym none i, sym lent i)) (lent_works older later s.number next_room now then_stands by_room);
    }

    pub asked_bye : is_open ≡ false → AsksBye s.number later line
    asked_bye o = record {
      work = work_of s;
      turn = record { before = log; root = root_in log s.number; behind = []; is = is };
      is_bye = bye_closed before s.number line (open_still s.lent seated.works)
          (ap (λ (st : State). (session_of st s.number).is_open) (sym (ap (after (start_of older)) is ∙ asked_state older log s.number (work_of s) line)) ∙ answered.2 (after (start_of older) later) then_stands ∙ o);
    }

    pub asked_reply : IsReply text
    asked_reply = ((outcome_of read_line before s.number line).reply, answered.1 before (if_stands older log s.number (work_of s) room stands s.lent seated.works))

    pub asked_over : is_open ≡ false → IsGone older later t
    asked_over o = record { shut = subst (IsShut (after (start_of older) later)) (sym number) (was, answered.2 (after (start_of older) later) then_stands ∙ o); none = none } where
      was : WasOpened (after (start_of older) later) s.number
      was =
          let first = was_at_work read_line (after (start_of older) log) s.number s.number (work_of s) (open_was (after (start_of older) log) s.number seated.holds.0) in
          let same = as_many_at_line read_line before s.number line in
          let le = first.1 in
          subst (λ (st : State). WasOpened st s.number) (sym (ap (after (start_of older)) is ∙ asked_state older log s.number (work_of s) line)) (first.0, omega (arith, same, le))

  module _ (line : List ℕ) (later : List Entry) (is : later ≡ log ++ entry_of log s.number (kind.Refused s.number line) ∷ []) (text : List ℕ) (told : text ≡ memory_text None)
      (in_room : s.lent ≡ None) (t : Seat) (number : t.number ≡ s.number) (lent : t.lent ≡ None) (work : work_of t ≡ work_of s) where
    no_work : work_of s ≡ []
    no_work = subst (WorksIf older log s.number (work_of s)) in_room seated.works

    pub refused_lines : lines_in later t ≡ lines_in log s ++ line ∷ []
    refused_lines =
        (λ i. lines_with (number i) later ((work ∙ no_work) i)) ∙ append-nil (lines_of s.number later)
        ∙ ap (lines_of s.number) is ∙ (refused_adds (start_of older) log s.number line _ refl).0
        ∙ ap (λ l. l ++ line ∷ []) (sym (ap (lines_with s.number log) no_work ∙ append-nil (lines_of s.number log)))

    pub refused_texts : (all : List ℕ) → IsToldIn older log s all → IsToldIn older later t (all ++ text)
    refused_texts all b =
        told_alone older later t s.number (all ++ text) number (work ∙ no_work)
        (subst (λ (z : List Entry × List ℕ). IsTold (start_of older) s.number z.0 (all ++ z.1)) (λ i. (sym is i, sym told i))
        ((refused_adds (start_of older) log s.number line _ refl).1 all (told_of_none older log s all no_work b)))

    pub refused_open : (places : List ℕ) → places ≡ own ++ length log ∷ [] → IsSeated older later places t
    refused_open places more = record {
      holds = subst (Holds (start_of older) later places) (sym number) (holds_then _ later places is more
          (subst (λ (st : State). IsOpen st s.number) (sym (ap (after (start_of older)) is ∙ after-append (start_of older) log (entry_of log s.number (kind.Refused s.number line) ∷ []))) seated.holds.0));
      works = subst (λ (z : List Note × Option Client). WorksIf older later t.number z.0 z.1) (λ i. (sym (work ∙ no_work) i, sym lent i)) refl;
    }

  module _ (line : List ℕ) (later : List Entry) (is : later ≡ log ++ entry_of log s.number (kind.Looked s.number line) ∷ []) (room : Hall)
      (stands : StandsFor room (after (start_of older) log)) (x : Looking) (look : IsLookOf room s.number line x) (text : List ℕ) (told : IsShownAs x text)
      (in_room : s.lent ≡ None) (t : Seat) (number : t.number ≡ s.number) (lent : t.lent ≡ None) (work : work_of t ≡ work_of s) where
    nothing_noted : work_of s ≡ []
    nothing_noted = subst (WorksIf older log s.number (work_of s)) in_room seated.works

    abbrev looked : Entry
    looked = entry_of log s.number (kind.Looked s.number line)

    pub looked_lines : lines_in later t ≡ lines_in log s ++ line ∷ []
    looked_lines =
        (λ i. lines_with (number i) later ((work ∙ nothing_noted) i)) ∙ append-nil (lines_of s.number later)
        ∙ ap (lines_of s.number) is ∙ (looked_adds (start_of older) log s.number line _ refl).0
        ∙ ap (λ l. l ++ line ∷ []) (sym (ap (lines_with s.number log) nothing_noted ∙ append-nil (lines_of s.number log)))

    pub looked_texts : (all : List ℕ) → IsToldIn older log s all → IsToldIn older later t (all ++ text)
    looked_texts all b = told_alone older later t s.number (all ++ text) number (work ∙ nothing_noted) (subst (λ l. IsTold (start_of older) s.number l (all ++ text)) (sym is) (by told)) where
      before : IsTold (start_of older) s.number log all
      before = told_of_none older log s all nothing_noted b

      by : IsShownAs x text → IsTold (start_of older) s.number (log ++ looked ∷ []) (all ++ text)
      by (inl k) =
          let same = k.2 ∙ ap (reply_text None) (shown_is_told room (after (start_of older) log) stands s.number line x look k.0 k.1) in
          subst (λ l. IsTold (start_of older) s.number (log ++ looked ∷ []) (all ++ l)) (sym same) ((looked_adds (start_of older) log s.number line looked refl).1 all before)
      by (inr e) = subst (λ l. IsTold (start_of older) s.number (log ++ looked ∷ []) (all ++ l)) (sym e) ((looked_adds (start_of older) log s.number line looked refl).2 all before)

    looked_state : after (start_of older) later ≡ after (start_of older) log
    looked_state = ap (after (start_of older)) is ∙ after-append (start_of older) log (looked ∷ []) ∙ only_looks room (after (start_of older) log) stands s.number line x look

    pub looked_open : (places : List ℕ) → places ≡ own ++ length log ∷ [] → IsSeated older later places t
    looked_open places more = record {
      holds = subst (Holds (start_of older) later places) (sym number) (holds_then _ later places is more (subst (λ (st : State). IsOpen st s.number) (sym looked_state) seated.holds.0));
      works = subst (λ (z : List Note × Option Client). WorksIf older later t.number z.0 z.1) (λ i. (sym (work ∙ nothing_noted) i, sym lent i)) refl;
    }

  module _ (later : List Entry) (is : later ≡ log ++ left_entry log s.number (work_of s) ∷ []) where
    pub left_lines : lines_of s.number later ≡ lines_in log s
    left_lines = ap (lines_of s.number) is ∙ (left_adds (start_of older) log s.number (work_of s) _ refl).0

    pub left_texts : (all : List ℕ) → IsToldIn older log s all → IsTold (start_of older) s.number later all
    left_texts all b = subst (λ l. IsTold (start_of older) s.number l all) (sym is) ((left_adds (start_of older) log s.number (work_of s) _ refl).1 all b)

    pub left_over : IsShut (after (start_of older) later) s.number
    left_over = subst (λ (st : State). IsShut st s.number) (sym (ap (after (start_of older)) is ∙ left_state older log s.number (work_of s)))
        (shut_by_leaving read_line (run read_line (after (start_of older) log) (work_steps s.number (work_of s))) s.number (open_still s.lent seated.works))

    pub left_leaves : HasLeft s.number later
    left_leaves = record { work = work_of s; turn = record { before = log; root = root_in log s.number; behind = []; is = is } }

  -- ---- a line that a lent session answered

  module _ (line text : List ℕ) (t : Seat) (m : Notes line s t text) where
    abbrev noted : Note
    noted = record { line = line; is_refused = m.is_refused }

    there : Works older log s.number (work_of s) m.before
    there = subst (WorksIf older log s.number (work_of s)) m.was seated.works

    pub noted_seat : IsSeated older log own t
    noted_seat = record {
      holds = subst (Holds (start_of older) log own) (sym m.number) seated.holds;
      works = subst (λ (z : ℕ × List Note × Option Client). WorksIf older log z.0 z.1 z.2) (λ i. (sym m.number i, sym m.work i, sym m.is i))
          (works_more older log s.number (work_of s) noted m.before m.now text there m.told);
    }

    pub noted_lines : lines_in log t ≡ lines_in log s ++ line ∷ []
    noted_lines = (λ i. lines_with (m.number i) log (m.work i)) ∙ lines_more older log s.number (work_of s) noted m.before m.now text there m.told

    pub noted_texts : (all : List ℕ) → IsToldIn older log s all → IsToldIn older log t (all ++ text)
    noted_texts all b = subst (λ (z : ℕ × List Note). IsToldWith (start_of older) z.0 log z.1 (all ++ text)) (λ i. (sym m.number i, sym m.work i))
        (texts_more older log s.number (work_of s) noted m.before m.now text there m.told all b)
