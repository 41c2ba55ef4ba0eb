-- From what a call does to a room to what its step tells of each state that the room stands for.
use Rattle.std.proofs.Common.{◌≡◌, ℕ, ◌+◌, Bool, true, false, List, [], ◌∷◌, length, Some, refl, sym, ap, subst, ◌∙◌, inl, inr}
use Rattle.std.specs.Prelude.{◌⊎◌}
use Rattle.std.proofs.lemmas.List.{append-nil, length-map}
use Rattle.ifdb_wire.specs.declared.fault.Fault.TheVariants as fault
use Rattle.ifdb_wire.specs.declared.reply.Reply.{Reply}
use Rattle.ifdb_wire.specs.declared.reply.Reply.TheVariants as reply
use Rattle.ifdb_wire.specs.Text.{reply_text}
use Rattle.ifdb_model.specs.Step.{Reader}
use Rattle.ifdb_model.specs.Run.{State, Step, opens, asks, refused, long, stray, leaves, tell, next, told}
use Rattle.ifdb_model.specs.Script.{line_steps}
use Rattle.ifdb_model.specs.Output.{texts}
use Rattle.ifdb_db.specs.Client.{session_at}
use Rattle.ifdb_db.specs.Reading.{read_line}
use Rattle.ifdb_db.specs.Room.{Hall, StandsFor}
use Rattle.ifdb_script.specs.Steps.{Does, refusal, Stepped}
use Rattle.ifdb_script.proofs.Flags.{Tells, tells_nothing, tells_done, tells_unopened, tells_unasked, IsScriptStep, AreScriptSteps, are_script_steps}

-- the text of one reply
one_text : (n : ℕ) (r : Reply) → reply_text (Some n) r ≡ texts (tell n r)
one_text n r = sym (append-nil (reply_text (Some n) r))

-- a line was too long
long_does : (read : Reader) (room : Hall) (out : List ℕ) → out ≡ reply_text (Some 0) (reply.Refused fault.TooLong) → Does read room room long out
long_does read room out text st h = (h, text ∙ one_text 0 (reply.Refused fault.TooLong))

-- OPEN, by what the room did; a room has as many clients as the state has sessions
pub opens_so : (old new : Hall) (number : ℕ) (result : Bool) (out : List ℕ) → number ≡ length old.clients + 1
    → (result ≡ true → (st : State) → StandsFor old st → StandsFor new (next read_line st opens)) → (result ≡ true → out ≡ reply_text (Some number) reply.Opened)
    → (result ≡ false → new ≡ old) → (result ≡ false → out ≡ reply_text (Some 0) (reply.Refused fault.OutOfMemory))
    → Does read_line old new opens out ⊎ Does read_line old new (refused 0) out
opens_so old new number true out n o t r m = inl (λ st w. (o refl st w, told_so st w)) where
  told_so : (st : State) → StandsFor old st → out ≡ texts (told read_line st opens)
  told_so st w =
      let many : length old.clients ≡ length st.sessions = sym (length-map old.clients session_at) ∙ ap length w.sessions in
      t refl ∙ ap (λ k. reply_text (Some k) reply.Opened) (n ∙ ap (λ k. k + 1) many) ∙ one_text (length st.sessions + 1) reply.Opened
opens_so old new number false out n o t r m = inr (λ st w. (subst (λ room. StandsFor room st) (sym (r refl)) w, m refl ∙ one_text 0 (reply.Refused fault.OutOfMemory)))

-- ---- what they tell

-- the room stands for a state, to which the steps lead from the one that it stood for, and the text is what they tell
pub record Goes (read : Reader) (new : Hall) (st : State) (first : List Step) (out : List ℕ) : Type 0 where
  pub state : State
  pub stands : StandsFor new state
  pub tells : Tells read st state first out

-- a step that is run as this one
goes_by : (read : Reader) (old new : Hall) (st : State) (x y : Step) (out : List ℕ) → StandsFor old st → Does read old new y out
    → Tells read st (next read st y) (x ∷ []) (texts (told read st y)) → Goes read new st (x ∷ []) out
goes_by read old new st x y out h does t =
    let d = does st h in
    record { state = next read st y; stands = d.0; tells = subst (Tells read st (next read st y) (x ∷ [])) (sym d.1) t }

done_goes : (read : Reader) (old new : Hall) (st : State) (x : Step) (out : List ℕ) → StandsFor old st → IsScriptStep x → Does read old new x out
    → Goes read new st (x ∷ []) out
done_goes read old new st x out h s does = goes_by read old new st x x out h does (tells_done read st x s)

refused_goes : (read : Reader) (old new : Hall) (st : State) (x : Step) (out : List ℕ) → StandsFor old st → IsScriptStep x → Does read old new (refusal x) out
    → Goes read new st (x ∷ []) out
refused_goes read old new st opens out h s does = goes_by read old new st opens (refused 0) out h does (tells_unopened read st)
refused_goes read old new st (asks n line) out h s does = goes_by read old new st (asks n line) (refused n) out h does (tells_unasked read st n line)
refused_goes read old new st (refused n) out h s does = absurd s
refused_goes read old new st long out h s does = done_goes read old new st long out h s does
refused_goes read old new st stray out h s does = done_goes read old new st stray out h s does
refused_goes read old new st (leaves n) out h s does = absurd s

stepped_goes : (read : Reader) (old new : Hall) (st : State) (first : List Step) (out : List ℕ) → StandsFor old st → AreScriptSteps first
    → Stepped read old new first out → Goes read new st first out
stepped_goes read old new st [] out h s d = record { state = st; stands = subst (λ room. StandsFor room st) (sym d.0) h; tells = tells_nothing read st out d.1 }
stepped_goes read old new st (x ∷ []) out h s (inl d) = done_goes read old new st x out h s.0 d
stepped_goes read old new st (x ∷ []) out h s (inr d) = refused_goes read old new st x out h s.0 d
stepped_goes read old new st (x ∷ y ∷ steps) out h s d = absurd d

-- a line of a script
pub line_goes : (read : Reader) (old new : Hall) (st : State) (line out : List ℕ) → StandsFor old st → Stepped read old new (line_steps line) out
    → Goes read new st (line_steps line) out
line_goes read old new st line out h d = stepped_goes read old new st (line_steps line) out h (are_script_steps line) d

-- a line that is too long
pub long_goes : (read : Reader) (room : Hall) (st : State) (out : List ℕ) → StandsFor room st → out ≡ reply_text (Some 0) (reply.Refused fault.TooLong)
    → Goes read room st (long ∷ []) out
long_goes read room st out h text = done_goes read room room st long out h tt (long_does read room out text)
