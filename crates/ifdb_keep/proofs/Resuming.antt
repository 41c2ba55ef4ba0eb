-- A journal is read back, and its records' steps are done again.
use Rattle.std.proofs.Common.{◌≡◌, ℕ, ◌+◌, ◌-◌, ◌<◌, ◌≤◌, Bool, true, false, List, [], ◌∷◌, ◌++◌, length, drop, refl, sym, ap, subst, ◌∙◌, arith, cond, inl, inr}
use Rattle.std.specs.Prelude.{◌⊎◌, Option, Some, None, if◌then◌else◌, slice_index_or, slice_set, nat_lt}
use Rattle.std.proofs.lemmas.Bool.Decides.{nat_tests}
use Rattle.std.proofs.lemmas.List.{append-nil, length-map, length-set, drop_more, drop-set-lt, drop_all}
use Rattle.ifdb_disk.specs.Images.{IsImage}
use Rattle.ifdb_disk.specs.Clock.{Clock, Leaves}
use Rattle.ifdb_disk.proofs.Moments.{leaves_weaker, since_here}
use Rattle.ifdb_journal.specs.Records.{ReadsAs}
use Rattle.ifdb_journal.specs.Reading.{Place, ReadTo, Holds, Adds, MayAdd, HasAllOrNone, SpellsSame, SpellsWhole, BreaksAt}
use Rattle.ifdb_journal.specs.declared.record.Record.{Record}
use Rattle.ifdb_journal.specs.declared.record.RecordKind.TheVariants as kind
use Rattle.ifdb_journal.proofs.Images.{held}
use Rattle.ifdb_model.specs.Session.{Session, no_session, closed}
use Rattle.ifdb_model.specs.Run.{State, Step, opens, asks, leaves, session_of, with_session, opening, next, run}
use Rattle.ifdb_replay.specs.Replay.{open_from, all_leave, steps_by, steps_of, replay, replayed, ReplayGoesOn}
use Rattle.ifdb_db.specs.Client.{session_at}
use Rattle.ifdb_db.specs.Reading.{read_line}
use Rattle.ifdb_db.specs.Room.{Hall, StandsFor}
use Rattle.ifdb_db.specs.RoomSteps.{GoesBy}
use Rattle.ifdb_keep.specs.Resumed.{restarted, restart_of, front_of, begun, AllHave, HasBegun, Journaled, Redoes, ReadBack, Began, IsUnread, IsUnbegun}

-- ---- records

pub restart_some : (rs : List Record) (r : Record) → restart_of (rs ++ r ∷ []) ≡ restarted ∷ []
restart_some [] r = refl
restart_some (x ∷ rs) r = refl

-- one record more is done again
pub redone : ReplayGoesOn → (rs : List Record) (r : Record) (old new : Hall) → StandsFor old (replayed read_line opening rs) → Redoes old new r
    → StandsFor new (replayed read_line opening (rs ++ r ∷ []))
redone goes rs r old new stands redoes =
    let st = replayed read_line opening rs in
    let same : run read_line st (steps_of st r) ≡ replayed read_line opening (rs ++ r ∷ []) =
    ap (run read_line st) (sym (append-nil (steps_of st r))) ∙ sym (goes read_line opening rs (r ∷ [])) in
    subst (StandsFor new) same (redoes st stands)

-- by its kind
pub redoes_open : (r : Record) (old new : Hall) → r.kind ≡ kind.Open → GoesBy old new opens → Redoes old new r
redoes_open r old new is goes st w = subst (λ k. StandsFor new (run read_line st (steps_by st k r))) (sym is) (goes st w)

pub redoes_ask : (r : Record) (old new : Hall) → r.kind ≡ kind.Ask → GoesBy old new (asks r.session r.line) → Redoes old new r
redoes_ask r old new is goes st w = subst (λ k. StandsFor new (run read_line st (steps_by st k r))) (sym is) (goes st w)

pub redoes_restart : (r : Record) (old new : Hall) → r.kind ≡ kind.Restart → Redoes old new restarted → Redoes old new r
redoes_restart r old new is left st w = subst (λ k. StandsFor new (run read_line st (steps_by st k r))) (sym is) (left st w)

-- these records were read, and their steps done again
pub record ReadSoFar (t : Option Clock) (p : Place) (room : Hall) (any : Bool) : Type 0 where
  pub records : List Record
  pub read : ReadTo t records p
  pub stands : StandsFor room (replayed read_line opening records)
  pub some : restart_of records ≡ (if any then restarted ∷ [] else [])

pub so_far_none : (t : Option Clock) (p : Place) (room : Hall) → ReadTo t [] p → StandsFor room opening → ReadSoFar t p room false
so_far_none t p room read stands = record { records = []; read = read; stands = stands; some = refl }

pub so_far_more : ReplayGoesOn → (t u : Option Clock) (p q : Place) (r : Record) (old new : Hall) (any : Bool) → ReadSoFar t p old any
    → ((rs : List Record) → ReadTo t rs p → ReadTo u (rs ++ r ∷ []) q) → Redoes old new r → ReadSoFar u q new true
so_far_more goes t u p q r old new any so reads redoes = record {
  records = so.records ++ r ∷ [];
  read = reads so.records so.read;
  stands = redone goes so.records r old new so.stands redoes;
  some = restart_some so.records r;
}

pub so_far_whole : (t u v : Option Clock) (p : Place) (at : ℕ) (room : Hall) (any : Bool) → u ≡ v → (so : ReadSoFar t p room any) → Holds u so.records at → SpellsWhole u so.records → ReadBack v room at any
so_far_whole t u v p at room any same so holds whole = record {
  records = so.records;
  holds = subst (λ w. Holds w so.records at) same holds;
  spelled = subst (λ w. SpellsWhole w so.records) same whole;
  stands = so.stands;
  some = so.some;
}

-- ---- all sessions leave

-- the first of a room's sessions have left, so many, and what is left to do comes to the same
pub record Leaving (st : State) (room : Hall) (i : ℕ) : Type 0 where
  pub now : State
  pub stands : StandsFor room now
  pub size : length now.sessions ≡ length st.sessions
  pub rest : run read_line now (all_leave (open_from (i + 1) (drop i now.sessions))) ≡ run read_line st (all_leave (open_from 1 st.sessions))

pub leaving_none : (st : State) (room : Hall) → StandsFor room st → Leaving st room 0
leaving_none st room stands = record { now = st; stands = stands; size = refl; rest = refl }

session_next : (st : State) (i : ℕ) → session_of st (i + 1) ≡ slice_index_or st.sessions i no_session
session_next st i =
    let some : nat_lt 0 (i + 1) ≡ true = grind (arith, nat_tests) in
    let place : i + 1 - 1 ≡ i = omega arith in
    (λ j. if some j then slice_index_or st.sessions (place j) no_session else no_session)

-- what is left from a session on, by whether it is open
left_from : (st : State) (i : ℕ) → i < length st.sessions → (b : Bool) → (session_of st (i + 1)).is_open ≡ b
    → run read_line st (all_leave (open_from (i + 1) (drop i st.sessions)))
    ≡ run read_line (if b then with_session st (i + 1) (closed (session_of st (i + 1))) else st)
    (all_leave (open_from (i + 1 + 1) (drop (i + 1) (if b then with_session st (i + 1) (closed (session_of st (i + 1))) else st).sessions)))
left_from st i lt b is = ap (λ (l : List Session). run read_line st (all_leave (open_from (i + 1) l))) (drop_more st.sessions i no_session lt) ∙ by b is where
  same : slice_index_or st.sessions i no_session ≡ session_of st (i + 1)
  same = sym (session_next st i)

  rest : List Session
  rest = drop (i + 1) st.sessions

  by : (b : Bool) → (session_of st (i + 1)).is_open ≡ b
      → run read_line st (all_leave (open_from (i + 1) (slice_index_or st.sessions i no_session ∷ drop (i + 1) st.sessions)))
      ≡ run read_line (if b then with_session st (i + 1) (closed (session_of st (i + 1))) else st)
      (all_leave (open_from (i + 1 + 1) (drop (i + 1) (if b then with_session st (i + 1) (closed (session_of st (i + 1))) else st).sessions)))
  by true is =
      let here : (slice_index_or st.sessions i no_session).is_open ≡ true = ap (λ (s : Session). s.is_open) same ∙ is in
      let after = with_session st (i + 1) (closed (session_of st (i + 1))) in
      let behind : drop (i + 1) after.sessions ≡ drop (i + 1) st.sessions = drop-set-lt (i + 1) st.sessions (i + 1 - 1) (closed (session_of st (i + 1))) (omega arith) in
      (λ j. run read_line st (all_leave (if here j then (i + 1) ∷ open_from (i + 1 + 1) (drop (i + 1) st.sessions) else open_from (i + 1 + 1) (drop (i + 1) st.sessions))))
      ∙ (λ j. run read_line (if is j then after else st) (all_leave (open_from (i + 1 + 1) (drop (i + 1) st.sessions))))
      ∙ ap (λ (l : List Session). run read_line after (all_leave (open_from (i + 1 + 1) l))) (sym behind)
  by false is =
      let here : (slice_index_or st.sessions i no_session).is_open ≡ false = ap (λ (s : Session). s.is_open) same ∙ is in
      (λ j. run read_line st (all_leave (if here j then (i + 1) ∷ open_from (i + 1 + 1) (drop (i + 1) st.sessions) else open_from (i + 1 + 1) (drop (i + 1) st.sessions))))

left_size : (st : State) (n : ℕ) (s : Session) (b : Bool) → length (cond b (with_session st n s) st).sessions ≡ length st.sessions
left_size st n s true = length-set st.sessions (n - 1) s
left_size st n s false = refl

pub leaving_more : (st : State) (old new : Hall) (i : ℕ) → i < length st.sessions → Leaving st old i → GoesBy old new (leaves (i + 1)) → Leaving st new (i + 1)
leaving_more st old new i lt l goes =
    let s = closed (session_of l.now (i + 1)) in
    record {
      now = next read_line l.now (leaves (i + 1));
      stands = goes l.now l.stands;
      size = left_size l.now (i + 1) s (session_of l.now (i + 1)).is_open ∙ l.size;
      rest = sym (left_from l.now i (omega (arith, lt, l.size)) (session_of l.now (i + 1)).is_open refl) ∙ l.rest;
    }

pub leaving_all : (st : State) (room : Hall) (i : ℕ) → length st.sessions ≤ i → Leaving st room i → StandsFor room (run read_line st (all_leave (open_from 1 st.sessions)))
leaving_all st room i le l =
    let none : drop i l.now.sessions ≡ [] = drop_all i l.now.sessions (omega (arith, le, l.size)) in
    let same : l.now ≡ run read_line st (all_leave (open_from 1 st.sessions)) = ap (λ (ss : List Session). run read_line l.now (all_leave (open_from (i + 1) ss))) (sym none) ∙ l.rest in
    subst (StandsFor room) same l.stands

pub clients_many : (room : Hall) (st : State) → StandsFor room st → length room.clients ≡ length st.sessions
clients_many room st w = sym (length-map room.clients session_at) ∙ ap length w.sessions

-- ---- what the disk's bytes were at the start

pub spelled_before : (old mid : Option Clock) (rs : List Record) → IsUnread old mid → SpellsSame old mid → SpellsWhole mid rs → SpellsWhole old rs
spelled_before None mid rs unread same whole = tt
spelled_before (Some c) None rs unread same whole = absurd unread
spelled_before (Some c) (Some d) rs unread same whole = record { has = sym same.0 ∙ whole.has; whole = sym same.1 ∙ whole.whole }

pub broken_before : (old mid : Option Clock) (at : ℕ) → IsUnread old mid → SpellsSame old mid → BreaksAt mid at → BreaksAt old at
broken_before None mid at unread same breaks = tt
broken_before (Some c) None at unread same breaks = absurd unread
broken_before (Some c) (Some d) at unread same breaks = sym same.1 ∙ breaks

-- ---- a journal that was read back, and where a script begins

module _ (old mid : Option Clock) (unread : IsUnread old mid) (same : SpellsSame old mid) (room : Hall) (at : ℕ) where
  began_empty : (rs : List Record) → Holds mid rs at → SpellsWhole mid rs → StandsFor room (replayed read_line opening rs) → restart_of rs ≡ [] → Began old mid room at
  began_empty rs holds whole stands none =
      let front : rs ≡ front_of rs = sym (append-nil rs) ∙ ap (λ l. rs ++ l) (sym none) in
      record {
        before = rs;
        journal = record {
          spelled = spelled_before old mid rs unread same whole;
          mid = mid;
          start = unread;
          read = held rs mid at holds;
          since = since_here mid (λ s. (image : List ℕ) → IsImage s image → HasBegun rs [] image);
        };
        holds = subst (λ l. Holds mid l at) front holds;
        stands = subst (λ l. StandsFor room (replayed read_line opening l)) front stands;
      }

  -- nothing was read
  pub began_fresh : ReadBack mid room at false → Began old mid room at
  began_fresh b = began_empty b.records b.holds b.spelled b.stands b.some

  with_restart : (rs : List Record) (image : List ℕ) → restart_of rs ≡ restarted ∷ [] → HasAllOrNone rs (restarted ∷ []) image → HasBegun rs [] image
  with_restart rs image some (inl without) = inl without
  with_restart rs image some (inr with_it) = inr (0, subst (λ l. ReadsAs l image) (ap (λ l. rs ++ l) (sym some) ∙ sym (append-nil (front_of rs))) with_it)

  -- a restart may have been added
  pub journaled_restart : (new : Option Clock) → (b : ReadBack mid room at true) → MayAdd (restarted ∷ []) mid at new → Journaled b.records [] old new
  journaled_restart new b may = record {
    spelled = spelled_before old mid b.records unread same b.spelled;
    mid = mid;
    start = unread;
    read = held b.records mid at b.holds;
    since = leaves_weaker mid new (HasAllOrNone b.records (restarted ∷ [])) (HasBegun b.records []) (λ image has. with_restart b.records image b.some has) (may b.records b.holds);
  }

  -- it was
  pub began_again : ReplayGoesOn → (new : Option Clock) (after : Hall) (last : ℕ) → ReadBack mid room at true → Adds (restarted ∷ []) mid at new last → MayAdd (restarted ∷ []) mid at new
      → Redoes room after restarted → Began old new after last
  began_again goes new after last b added may left =
      let front : b.records ++ restarted ∷ [] ≡ front_of b.records = ap (λ l. b.records ++ l) (sym b.some) in
      record {
        before = b.records;
        journal = journaled_restart new b may;
        holds = subst (λ l. Holds new l last) front (added b.records b.holds);
        stands = subst (λ l. StandsFor after (replayed read_line opening l)) front (redone goes b.records restarted room after b.stands left);
      }

-- the disk was only read in between
module _ (old mid u : Option Clock) (unread : IsUnread old mid) (same : SpellsSame old mid) (still : u ≡ mid) (room : Hall) (at : ℕ) (any : Bool) (back : ReadBack mid room at any) where
  pub fresh_on : any ≡ false → Began old u room at
  fresh_on none = subst (λ t. Began old t room at) (sym still) (began_fresh old mid unread same room at (subst (ReadBack mid room at) none back))

  pub again_on : any ≡ true → ReplayGoesOn → (new : Option Clock) (after : Hall) (last : ℕ) → Adds (restarted ∷ []) u at new last → MayAdd (restarted ∷ []) u at new → Redoes room after restarted
      → Began old new after last
  again_on some goes new after last added may left =
      began_again old mid unread same room at goes new after last (subst (ReadBack mid room at) some back) (subst (λ t. Adds (restarted ∷ []) t at new last) still added)
      (subst (λ t. MayAdd (restarted ∷ []) t at new) still may) left

  pub short_on : any ≡ true → (new : Option Clock) → MayAdd (restarted ∷ []) u at new → IsUnbegun old new
  short_on some new may =
      let again = subst (ReadBack mid room at) some back in
      inr (again.records, journaled_restart old mid unread same room at new again (subst (λ t. MayAdd (restarted ∷ []) t at new) still may))
