-- Behind the HELLO of a call its session has the principal of the owner's name, and keeps it.
use Rattle.std.proofs.Common.{◌≡◌, ℕ, ◌+◌, ◌<◌, ◌≤◌, Bool, true, false, List, [], ◌∷◌, length, refl, sym, ap, subst, ◌∙◌, arith, cond, Some, None, Ok, Err, Option, Result}
use Rattle.std.proofs.lemmas.Bool.{false≢true}
use Rattle.std.proofs.lemmas.List.{length-append}
use Rattle.ifdb_syntax.specs.declared.request.Request.{Request}
use Rattle.ifdb_syntax.specs.declared.request.Request.TheVariants as request
use Rattle.ifdb_wire.specs.declared.fault.Fault.{Fault}
use Rattle.ifdb_wire.specs.declared.fault.Fault.TheVariants as fault
use Rattle.ifdb_wire.specs.declared.reply.Reply.{Reply}
use Rattle.ifdb_wire.specs.declared.reply.Reply.TheVariants as reply
use Rattle.ifdb_catalog.specs.Public.{principal_named, is_key}
use Rattle.ifdb_model.specs.Log.{Entry, public_of}
use Rattle.ifdb_model.specs.Session.{Session, new_session}
use Rattle.ifdb_model.specs.Step.{Reader, Outcome, tells, refuses, welcomed, greeted, ask_by, ask_read, ask}
use Rattle.ifdb_model.specs.Run.{State, session_of, opens, asks, with_outcome, next, outcome_of}
use Rattle.ifdb_laws.proofs.Shapes.{Shape, stayed, greeted_as, relabelled_to, begun, ended, published, joined, wrote, done, shape}
use Rattle.ifdb_closure.specs.Closures.{Speech, Greeting, Closure, Called, hello_line, label_line, begin_line, is_refusal, is_within, call_lacks, call_goes, call_on, lacks_first, flags_behind}
use Rattle.ifdb_closure.specs.Bounds.{AreAskedBy, AreOwners, CallsAreTheOwners}
use Rattle.ifdb_closure.proofs.Thinning.{one_itself, open_new}
use Rattle.ifdb_closure.proofs.Twins.{asks_count}

-- ---- no line takes a principal away

shape_keeps : (log : List Entry) (s : Session) (line : Result Request Fault) (o : Outcome) (p : ℕ) → Shape log s line o → s.principal ≡ Some p → o.session.principal ≡ Some p
shape_keeps log s line o p (stayed r) h = h
shape_keeps log s line o p (greeted_as n none lt) h = let no : None ≡ Some p = sym none ∙ h in absurd (cc)
shape_keeps log s line o p (relabelled_to asker r label q x y) h = h
shape_keeps log s line o p (begun t) h = h
shape_keeps log s line o p (ended b r why) h = h
shape_keeps log s line o p (published asker r c l t e f g) h = h
shape_keeps log s line o p (joined asker r b x w i t k) h = h
shape_keeps log s line o p (wrote asker r b w i t k d) h = h
shape_keeps log s line o p (done x t j) h = h

module _ (x : Speech) (p h : ℕ) (positive : 0 < h) where
  kept : (st : State) (line : List ℕ) → h ≤ length st.sessions → (session_of st h).principal ≡ Some p → (session_of (next x.read st (asks h line)) h).principal ≡ Some p
  kept st line le has = by (session_of st h).is_open where
    o : Outcome
    o = ask x.read st.log (session_of st h) line

    by : (b : Bool) → (session_of (cond b (with_outcome st h o) st) h).principal ≡ Some p
    by false = has
    by true =
        ap (λ (s : Session). s.principal) (one_itself st h o.session positive le)
        ∙ shape_keeps st.log (session_of st h) (x.read line) o p (shape x.read st.log (session_of st h) line) has

  asked_by : (st : State) → h ≤ length st.sessions → (session_of st h).principal ≡ Some p → (lines : List (List ℕ)) → AreAskedBy x p h st lines
  asked_by st le has [] = tt
  asked_by st le has (line ∷ lines) =
      (has, asked_by (next x.read st (asks h line)) (omega (arith, le, asks_count x.read st h line)) (kept st line le has) lines)

-- ---- a HELLO that is accepted gives its name's principal

-- the principal of this name
abbrev Gives : List Entry → Greeting → Outcome → Type 0
Gives log g o = (p : ℕ) × (principal_named (public_of log) g.name ≡ Some p) × (o.session.principal ≡ Some p)

hello_gives : (log : List Entry) (s : Session) (g : Greeting) → s.principal ≡ None → (o : Result Request Fault) → ((r : Request) → o ≡ Ok r → r ≡ request.Hello g.name g.key)
    → is_refusal (ask_read log s o).reply ≡ false → Gives log g (ask_read log s o)
hello_gives log s g none (Err f) same good = absurd (false≢true (sym good))
hello_gives log s g none (Ok r) same good =
    subst (λ q. is_refusal (ask_by log s s.principal q).reply ≡ false → Gives log g (ask_by log s s.principal q)) (sym (same r refl)) (asked s.principal none) good where
      keyed : (n : ℕ) → principal_named (public_of log) g.name ≡ Some n → (b : Bool) → let o = cond b (tells (welcomed (public_of log) s n) reply.Done) (refuses s fault.BadKey) in
          is_refusal o.reply ≡ false → Gives log g o
      keyed n e true h = (n, e, refl)
      keyed n e false h = absurd (false≢true (sym h))

      named : (o : Option ℕ) → principal_named (public_of log) g.name ≡ o → let out = greeted (public_of log) s g.key o in is_refusal out.reply ≡ false → Gives log g out
      named None e h = absurd (false≢true (sym h))
      named (Some n) e h = keyed n e (is_key (public_of log) n g.key) h

      asked : (o : Option ℕ) → o ≡ None → let out = ask_by log s o (request.Hello g.name g.key) in is_refusal out.reply ≡ false → Gives log g out
      asked None e h = named (principal_named (public_of log) g.name) refl h
      asked (Some a) e h = absurd (cc)

-- ---- a call

module _ (x : Speech) (owner : Option ℕ) (h : ℕ) (positive : 0 < h) (st : State) (le : h ≤ length st.sessions) (line : List ℕ) where
  -- the session has this principal behind the first line
  abbrev IsOwner : Type 0
  IsOwner = (p : ℕ) × (owner ≡ Some p) × ((session_of (next x.read st (asks h line)) h).principal ≡ Some p)

  owned : (lines : List (List ℕ)) → IsOwner → AreOwners x owner h st (line ∷ lines)
  owned [] g = tt
  owned (second ∷ lines) g =
      (g.0, g.1, asked_by x g.0 h positive (next x.read st (asks h line)) (omega (arith, le, asks_count x.read st h line)) g.2 (second ∷ lines))

  goes_owned : (r : Reply) (more : Called) (c d : Bool) → (c ≡ false → IsOwner) → AreOwners x owner h st (call_goes x c d line r more).asked
  goes_owned r more true d g = tt
  goes_owned r more false false g = tt
  goes_owned r more false true g = owned more.asked (g refl)

  lacks_owned : (b : Bool) (a : Called) → AreOwners x owner h st a.asked → AreOwners x owner h st (cond b call_lacks a).asked
  lacks_owned true a g = tt
  lacks_owned false a g = g

pub calls_are_the_owners : CallsAreTheOwners
calls_are_the_owners x back st label c flags heard =
    lacks_owned x owner h positive s1 le one (lacks_first flags) (call_goes x (is_refusal r) (is_within label h s2) one r rest)
    (goes_owned x owner h positive s1 le one r rest (is_refusal r) (is_within label h s2) is_owner) where
      h : ℕ
      h = length st.sessions + 1

      owner : Option ℕ
      owner = principal_named (public_of st.log) c.owner.name

      one : List ℕ
      one = hello_line c.owner

      s1 : State
      s1 = next x.read st opens

      s2 : State
      s2 = next x.read s1 (asks h one)

      r : Reply
      r = (outcome_of x.read s1 h one).reply

      rest : Called
      rest = call_on x label h s2 r (flags_behind flags) (label_line st.log label ∷ begin_line ∷ c.statements)

      positive : 0 < h
      positive = omega arith

      le : h ≤ length s1.sessions
      le = omega (arith, length-append st.sessions (new_session ∷ []))

      o : Outcome
      o = ask x.read st.log (session_of s1 h) one

      by : (b : Bool) → is_refusal (cond b o (refuses (session_of s1 h) fault.NoSession)).reply ≡ false
          → (p : ℕ) × (owner ≡ Some p) × ((session_of (cond b (with_outcome s1 h o) s1) h).principal ≡ Some p)
      by true good =
          let g = hello_gives st.log (session_of s1 h) c.owner (ap (λ (s : Session). s.principal) (open_new st)) (x.read one) (back c.owner heard) good in
          (g.0, g.1, ap (λ (s : Session). s.principal) (one_itself s1 h o.session positive le) ∙ g.2)
      by false good = absurd (false≢true (sym good))

      is_owner : is_refusal r ≡ false → IsOwner x owner h positive s1 le one
      is_owner good = by (session_of s1 h).is_open good
