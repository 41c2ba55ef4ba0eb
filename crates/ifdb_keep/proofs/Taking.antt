-- What a line's step does to a room, and its record.
use Rattle.std.proofs.Common.{◌≡◌, ℕ, ◌+◌, ◌-◌, ◌<◌, ◌≤◌, Bool, true, false, not, ◌&&◌, List, [], ◌∷◌, ◌++◌, length, take, drop, refl, sym, ap, subst, ◌∙◌, arith, cond, ltb, Some, None, inl, inr, length-drop, length-take}
use Rattle.std.specs.Prelude.{◌⊎◌, Option, Result, Ok, Err, OnErr, if◌then◌else◌, ◌==◌, ◌^◌, nat_le, nat_lt, slice_index, codes, position}
use Rattle.std.specs.Str.{bytes_eq}
use Rattle.std.proofs.lemmas.Bool.Decides.{nat_tests}
use Rattle.std.proofs.lemmas.List.{append-nil, length-map}
use Rattle.ifdb_journal.specs.declared.record.Record.{Record}
use Rattle.ifdb_journal.specs.declared.record.RecordKind.TheVariants as kind
use Rattle.ifdb_journal.specs.Records.{IsLawful}
use Rattle.ifdb_wire.specs.declared.fault.Fault.{Fault}
use Rattle.ifdb_wire.specs.declared.fault.Fault.TheVariants as fault
use Rattle.ifdb_wire.specs.declared.reply.Reply.{Reply}
use Rattle.ifdb_wire.specs.declared.reply.Reply.TheVariants as reply
use Rattle.ifdb_wire.specs.declared.script.StepLine.{StepLine}
use Rattle.ifdb_wire.specs.declared.script.StepLine.TheVariants as read
use Rattle.ifdb_wire.specs.Script as script
use Rattle.ifdb_wire.specs.Script.{ScriptLine, asked_by, asks_of, script_line, session_number, short_line, split_at, without_return, IsNumbered}
use Rattle.ifdb_wire.specs.Text.{reply_text}
use Rattle.ifdb_model.specs.Run.{State, opens, asks, refused, long, stray, session_of, outcome_of}
use Rattle.ifdb_model.specs.Script.{line_step}
use Rattle.ifdb_replay.specs.Replay.{opened, asked}
use Rattle.ifdb_replay.specs.FirstWord.{only_looks}
use Rattle.ifdb_db.specs.Client.{session_at}
use Rattle.ifdb_db.specs.Reading.{read_line}
use Rattle.ifdb_db.specs.Room.{Hall, StandsFor, client_in}
use Rattle.ifdb_db.specs.RoomSteps.{GoesBy, IsReplyText}
use Rattle.ifdb_db.proofs.RoomLaws.{same_session}
use Rattle.ifdb_disk.specs.Clock.{Clock}
use Rattle.ifdb_journal.specs.Reading.{MayAdd}
use Rattle.ifdb_keep.specs.Taken.{AsksShort, AreScriptSteps, Takes, TookLine, LostLine, WereAdded}
use Rattle.ifdb_keep.proofs.Batches.{adds_none}

-- ---- a line's request is no longer than the line

pick_short : (b : Bool) (x y : ScriptLine) → AsksShort x → AsksShort y → AsksShort (cond b x y)
pick_short true x y h k = h
pick_short false x y h k = k

asks_short : (session : Option ℕ) (request : List ℕ) → length request ≤ 65535 → AsksShort (asks_of session request)
asks_short None request le = tt
asks_short (Some n) request le = le

split_short : (line : List ℕ) (at : Option ℕ) → length line ≤ 65535 → AsksShort (split_at line at)
split_short line None le = asks_short (session_number line) [] (omega arith)
split_short line (Some at) le = let size = length-drop (at + 1) line in asks_short (session_number (take at line)) (drop (at + 1) line) (omega (arith, size, le))

short_short : (line : List ℕ) → length line ≤ 65535 → AsksShort (short_line line)
short_short line le =
    let at = position (λ b. b == 32) line in
    let plain = if bytes_eq line (codes "OPEN") then script.opens else split_at line at in
    let spoken = if slice_index line 0 == 35 then script.skips else plain in
    pick_short (length line == 0) script.skips spoken tt
    (pick_short (slice_index line 0 == 35) script.skips plain tt (pick_short (bytes_eq line (codes "OPEN")) script.opens (split_at line at) tt (split_short line at le)))

returned_short : (line : List ℕ) (b : Bool) → length (cond b (take (length line - 1) line) line) ≤ length line
returned_short line true = let size = length-take (length line - 1) line in omega (arith, size)
returned_short line false = omega arith

pub line_short : (line : List ℕ) → length line ≤ 65535 → AsksShort (script_line line)
line_short line le =
    let size = returned_short line (bytes_eq (drop (length line - 1) line) (codes "\r")) in
    pick_short (ltb 65535 (length line)) script.overlong (short_line (without_return line)) tt (short_short (without_return line) (omega (arith, size, le)))

-- ---- and of a session that has a number

pub line_numbered : (line : StepLine) → IsNumbered line → AreScriptSteps (line_step (asked_by line))
line_numbered read.Skip h = tt
line_numbered read.Open h = (tt, tt)
line_numbered (read.Ask session request) h = (h.0, tt)
line_numbered read.Stray h = (tt, tt)

-- ---- records that may be written

pub open_lawful : IsLawful (record { kind = kind.Open; session = 0; line = [] })
open_lawful = record { session = omega arith; fine = refl }

pub restart_lawful : IsLawful (record { kind = kind.Restart; session = 0; line = [] })
restart_lawful = record { session = omega arith; fine = refl }

pub ask_lawful : (n : ℕ) (line : List ℕ) → n < 2 ^ 64 → length line ≤ 65535 → IsLawful (record { kind = kind.Ask; session = n; line = line })
ask_lawful n line lt le = record { session = lt; fine = grind (arith, nat_tests) }

-- what is so is so at an error
pub on_err : {T E : Type 0} (P : Type 0) (r : Result T E) → P → OnErr r P
on_err P (Ok x) p = tt
on_err P (Err e) p = p

-- ---- steps

-- what a session of a script is told, under its own number
under : (k n : ℕ) (r : Reply) (out : List ℕ) → k ≡ n → out ≡ reply_text (Some n) r → out ≡ reply_text (Some k) r ++ []
under k n r out same is = is ∙ ap (λ m. reply_text (Some m) r) (sym same) ∙ sym (append-nil (reply_text (Some k) r))

pub takes_open : (base : ℕ) (old new : Hall) (number : ℕ) (out : List ℕ) → number ≡ length old.clients + 1 → GoesBy old new opens → out ≡ reply_text (Some (number - base)) reply.Opened
    → Takes base old new opens out (opened ∷ [])
takes_open base old new number out n goes text st w =
    let many : length old.clients ≡ length st.sessions = sym (length-map old.clients session_at) ∙ ap length w.sessions in
    let shown : length st.sessions + 1 - base ≡ number - base = omega (arith, n, many) in
    (goes st w, under (length st.sessions + 1 - base) (number - base) reply.Opened out shown text, refl)

pub takes_refused : (base : ℕ) (old new : Hall) (n : ℕ) (out : List ℕ) → new ≡ old → out ≡ reply_text (Some n) (reply.Refused fault.OutOfMemory) → Takes base old new (refused n) out []
takes_refused base old new n out same text st w =
    let shown : base + n - base ≡ n = omega arith in
    (subst (λ room. StandsFor room st) (sym same) w, under (base + n - base) n (reply.Refused fault.OutOfMemory) out shown text, refl)

pub takes_stray : (base : ℕ) (old new : Hall) (out : List ℕ) → new ≡ old → out ≡ reply_text (Some 0) (reply.Refused (fault.Syntax 0)) → Takes base old new stray out []
takes_stray base old new out same text st w =
    let shown : 0 - base ≡ 0 = omega arith in
    (subst (λ room. StandsFor room st) (sym same) w, under (0 - base) 0 (reply.Refused (fault.Syntax 0)) out shown text, refl)

-- a line of a session has a record if the session is open and the line doesn't only look
pub takes_ask : (base : ℕ) (old new : Hall) (number n : ℕ) (line out : List ℕ) (keeps : Bool) → number ≡ base + n → ((client_in old number).is_open && not (only_looks line)) ≡ keeps
    → GoesBy old new (asks number line) → IsReplyText old number line (Some n) out → Takes base old new (asks n line) out (if keeps then asked number line ∷ [] else [])
takes_ask base old new number n line out keeps is kept goes text st w =
    let shown : base + n - base ≡ n = omega arith in
    let told : out ≡ reply_text (Some n) (outcome_of read_line st (base + n) line).reply = text st w ∙ ap (λ k. reply_text (Some n) (outcome_of read_line st k line).reply) is in
    let open_too : (client_in old number).is_open ≡ (session_of st (base + n)).is_open = ap (λ s. s.is_open) (sym (same_session old st w number)) ∙ ap (λ k. (session_of st k).is_open) is in
    let keeps_too : keeps ≡ ((session_of st (base + n)).is_open && not (only_looks line)) = sym kept ∙ ap (λ b. b && not (only_looks line)) open_too in (
      subst (λ k. StandsFor new (Rattle.ifdb_model.specs.Run.next read_line st (asks k line))) is (goes st w),
      under (base + n - base) n (outcome_of read_line st (base + n) line).reply out shown told,
      (λ i. if keeps_too i then asked (is i) line ∷ [] else []) ∙ sym (append-nil (if (session_of st (base + n)).is_open && not (only_looks line) then asked (base + n) line ∷ [] else [])),
    )

-- ---- lines

module _ (base : ℕ) (old new : Hall) (out : List ℕ) (t : Option Clock) (at : ℕ) where
  -- there was no memory
  pub took_unopened : new ≡ old → out ≡ reply_text (Some 0) (reply.Refused fault.OutOfMemory) → TookLine base old new (opens ∷ []) out t at t at
  took_unopened same text = ([], inr (takes_refused base old new 0 out same text), adds_none t at)

  pub took_unasked : (n : ℕ) (line : List ℕ) → new ≡ old → out ≡ reply_text (Some n) (reply.Refused fault.OutOfMemory) → TookLine base old new (asks n line ∷ []) out t at t at
  took_unasked n line same text = ([], inr (takes_refused base old new n out same text), adds_none t at)

  -- a line of no session
  pub took_stray : new ≡ old → out ≡ reply_text (Some 0) (reply.Refused (fault.Syntax 0)) → TookLine base old new (stray ∷ []) out t at t at
  took_stray same text = ([], inl (takes_stray base old new out same text), adds_none t at)

  -- OPEN
  pub took_open : (number : ℕ) (u : Option Clock) (next : ℕ) → number ≡ length old.clients + 1 → GoesBy old new opens → out ≡ reply_text (Some (number - base)) reply.Opened
      → WereAdded (opened ∷ []) t at u next → TookLine base old new (opens ∷ []) out t at u next
  took_open number u next n goes text added = (opened ∷ [], inl (takes_open base old new number out n goes text), added)

  pub lost_open : (number : ℕ) (u : Option Clock) → number ≡ length old.clients + 1 → GoesBy old new opens → out ≡ reply_text (Some (number - base)) reply.Opened
      → MayAdd (opened ∷ []) t at u → LostLine base old new (opens ∷ []) t at u
  lost_open number u n goes text may = record { step = opens; is = refl; out = out; entry = opened; taken = takes_open base old new number out n goes text; may = may }

  -- a line of a session, which has a record or not
  pub took_ask : (number n : ℕ) (line : List ℕ) (u : Option Clock) (next : ℕ) → number ≡ base + n → ((client_in old number).is_open && not (only_looks line)) ≡ true
      → GoesBy old new (asks number line) → IsReplyText old number line (Some n) out → WereAdded (asked number line ∷ []) t at u next → TookLine base old new (asks n line ∷ []) out t at u next
  took_ask number n line u next is kept goes text added = (asked number line ∷ [], inl (takes_ask base old new number n line out true is kept goes text), added)

  pub took_quiet : (number n : ℕ) (line : List ℕ) → number ≡ base + n → ((client_in old number).is_open && not (only_looks line)) ≡ false
      → GoesBy old new (asks number line) → IsReplyText old number line (Some n) out → TookLine base old new (asks n line ∷ []) out t at t at
  took_quiet number n line is kept goes text = ([], inl (takes_ask base old new number n line out false is kept goes text), adds_none t at)

  pub lost_ask : (number n : ℕ) (line : List ℕ) (u : Option Clock) → number ≡ base + n → ((client_in old number).is_open && not (only_looks line)) ≡ true
      → GoesBy old new (asks number line) → IsReplyText old number line (Some n) out → MayAdd (asked number line ∷ []) t at u → LostLine base old new (asks n line ∷ []) t at u
  lost_ask number n line u is kept goes text may = record { step = asks n line; is = refl; out = out; entry = asked number line; taken = takes_ask base old new number n line out true is kept goes text; may = may }
