-- A SELECT that is answered away from the room: the machine answers the same, and its step changes nothing.
use Rattle.std.proofs.Common.{◌≡◌, ℕ, ◌-◌, true, List, ◌∙◌, refl, sym, ap, Option, Some, None, inl, inr}
use Rattle.std.specs.Prelude.{Result, Ok, Err, nat_lt, slice_index_or, slice_set}
use Rattle.std.proofs.lemmas.List.{append-nil}
use Rattle.ifdb_syntax.specs.declared.request.Request.{Request}
use Rattle.ifdb_wire.specs.declared.fault.Fault.{Fault}
use Rattle.ifdb_wire.specs.declared.reply.Reply.{Reply}
use Rattle.ifdb_wire.specs.declared.reply.Reply.TheVariants as reply
use Rattle.ifdb_model.specs.Log.{Entry}
use Rattle.ifdb_model.specs.Session.{Session, Seen, no_session, seen, seen_in}
use Rattle.ifdb_model.specs.Step.{form_of, looks, Outcome, tells, ask, ask_read, ask_by, ask_as, answered_as}
use Rattle.ifdb_model.specs.Run.{State, session_of, outcome_of, with_outcome, asks, next}
use Rattle.ifdb_db.specs.Client.{Client, session_at}
use Rattle.ifdb_db.specs.Inside.{IsSaidAlike}
use Rattle.ifdb_db.specs.Looks.{Looking, client_of_sight, IsLookOf, Shows, IsShown}
use Rattle.ifdb_db.specs.Reading.{read_line, IsReadAsSelect}
use Rattle.ifdb_db.specs.Room.{Hall, StandsFor, client_in}
use Rattle.ifdb_db.proofs.RoomLaws.{same_session, set_itself, at_open}

-- a SELECT of a session that said HELLO only looks
looks_so : (log : List Entry) (s : Session) (asker : ℕ) (line : List ℕ) (r : Request) → s.principal ≡ Some asker → read_line line ≡ Ok r → form_of r ≡ looks
    → ask read_line log s line ≡ ask_as log s (seen log s) asker r looks
looks_so log s asker line r p found form =
    ap (ask_read log s) found ∙ ap (λ q. ask_by log s q r) p ∙ ap (ask_as log s (seen log s) asker r) form

module _ (x : Looking) (r : Request) (read : IsReadAsSelect x.line r) where
  -- who asks, under a ceiling
  abbrev asking : Option (List ℕ) → Session
  asking c = session_at (client_of_sight c x.sight)

  over_sight : (log : List Entry) (c : Option (List ℕ)) → seen_in log None ≡ x.sight.seen → (o : Outcome)
      → answered_as 0 x.sight.seen None (asking c) x.sight.asker r (form_of r) ≡ o → ask read_line log (asking c) x.line ≡ o
  over_sight log c same o h =
      looks_so log (asking c) x.sight.asker x.line r refl read.0 read.2
      ∙ ap (λ (z : Seen). ask_as log (asking c) z x.sight.asker r looks) same
      ∙ sym (ap (answered_as 0 x.sight.seen None (asking c) x.sight.asker r) read.2)
      ∙ h

  pub shown_so : (result : Result Reply Fault) → IsSaidAlike x.sight.seen x.sight.asker x.sight.label r result → IsShown x result
  shown_so (Ok told) s = λ log c same. over_sight log c same (tells (asking c) told) (s c 0 None None)
  shown_so (Err f) (inl e) = inl e
  shown_so (Err f) (inr h) = inr (λ log c same. over_sight log c same (tells (asking c) (reply.Refused f)) (h c 0 None None))

-- ---- in a room

module _ (h : Hall) (st : State) (w : StandsFor h st) (n : ℕ) (line : List ℕ) (x : Looking) (of : IsLookOf h n line x) where
  here : session_of st n ≡ session_at (client_of_sight (client_in h n).ceiling x.sight)
  here = same_session h st w n ∙ ap session_at of.sight.client

  opened : (session_of st n).is_open ≡ true
  opened = ap (λ (z : Session). z.is_open) here

  -- the reply is the machine's
  pub shown_is_told : (r : Reply) → Shows x r → r ≡ (outcome_of read_line st n line).reply
  shown_is_told r shows =
      let there : outcome_of read_line st n line ≡ ask read_line st.log (session_of st n) line = rw opened refl in
      sym (ap (λ (o : Outcome). o.reply) (there
      ∙ (λ i. ask read_line st.log (here i) (sym of.asked i))
      ∙ shows st.log (client_in h n).ceiling (sym w.desk.seen ∙ sym of.sight.seen)))

  -- and nothing changes
  pub only_looks : next read_line st (asks n line) ≡ st
  only_looks =
      let stepped : next read_line st (asks n line) ≡ with_outcome st n (ask read_line st.log (session_of st n) line) = rw opened refl in
      stepped
      ∙ ap (with_outcome st n) (looks_so st.log (session_of st n) x.sight.asker line of.select.0 (ap (λ (z : Session). z.principal) here) of.select.1 of.select.2)
      ∙ (λ i. record { log = append-nil st.log i; sessions = same i }) where
        from_1 : nat_lt 0 n ≡ true
        from_1 = (at_open h n (ap (λ (c : Client). c.is_open) of.sight.client)).from_1

        itself : session_of st n ≡ slice_index_or st.sessions (n - 1) no_session
        itself = rw from_1 refl

        same : slice_set st.sessions (n - 1) (session_of st n) ≡ st.sessions
        same = ap (slice_set st.sessions (n - 1)) itself ∙ set_itself st.sessions (n - 1) no_session
